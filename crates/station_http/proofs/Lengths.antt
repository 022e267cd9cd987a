-- The body's length, field by field.
use Rattle.std.proofs.Common.{◌≡◌, ◌==◌, ℕ, Bool, true, false, List, ◌∷◌, Option, Some, None, refl, sym, ap, ◌∙◌, arith, codes, if◌then◌else◌, inl, inr, ◌⊎◌, ◌&&◌}
use Rattle.std.specs.List.{list_all}
use Rattle.station_http.specs.declared.fields.BodyLength.{BodyLength}
use Rattle.station_http.specs.declared.fields.BodyLength.TheVariants.{Absent, Bad, Said}
use Rattle.numerals.specs.Numbers.{number_in}
use Rattle.station_http.specs.Plans.{FieldText, has_name, values_of, length_of, length_by, says, is_that}
use Rattle.station_http.specs.Fields.{value_with, length_with}

-- what further values make of the length so far
abbrev pub length_after : BodyLength → List (List ℕ) → BodyLength
length_after Absent values = length_of values
length_after Bad values = Bad
length_after (Said n) values = if list_all (says n) values then Said n else Bad

either_way : (b : Bool) → (b ≡ true) ⊎ (b ≡ false)
either_way true = inl refl
either_way false = inr refl

eq_of_test : (n m : ℕ) → (n == m) ≡ true → n ≡ m
eq_of_test n m e = grind arith

other_way : (n m : ℕ) → (n == m) ≡ (m == n)
other_way n m = grind arith

said_step : (n m : ℕ) (more : List (List ℕ)) (t : Bool) → (n == m) ≡ t → length_after (if t then Said n else Bad) more ≡ (if (m == n) && list_all (says m) more then Said m else Bad)
said_step n m more true e =
    let same = eq_of_test n m e in
    ap (λ (k : ℕ). length_after (Said k) more) same ∙ ap (λ (t : Bool). if t && list_all (says m) more then Said m else Bad) (sym e ∙ other_way n m)
said_step n m more false e = ap (λ (t : Bool). if t && list_all (says m) more then Said m else Bad) (sym e ∙ other_way n m)

-- by its number, if it has one
by_number : (so_far : BodyLength) (number : Option ℕ) (value : List ℕ) (more : List (List ℕ)) → number_in 10 value ≡ number → length_after (value_with so_far number) more ≡ length_after so_far (value ∷ more)
by_number Absent None value more e = ap (λ (o : Option ℕ). length_by o more) (sym e)
by_number Absent (Some n) value more e = ap (λ (o : Option ℕ). length_by o more) (sym e)
by_number Bad None value more e = refl
by_number Bad (Some n) value more e = refl
by_number (Said m) None value more e = ap (λ (o : Option ℕ). if is_that m o && list_all (says m) more then Said m else Bad) (sym e)
by_number (Said m) (Some n) value more e =
    said_step n m more (n == m) refl ∙ ap (λ (t : Bool). if t && list_all (says m) more then Said m else Bad) (other_way m n ∙ ap (is_that m) (sym e))

value_step : (so_far : BodyLength) (value : List ℕ) (more : List (List ℕ)) → length_after (value_with so_far (number_in 10 value)) more ≡ length_after so_far (value ∷ more)
value_step so_far value more = by_number so_far (number_in 10 value) value more refl

pub field_step : (so_far : BodyLength) (field : FieldText) (more : List FieldText)
    → length_after (length_with so_far field) (values_of (codes "content-length") more) ≡ length_after so_far (values_of (codes "content-length") (field ∷ more))
field_step so_far field more =
    let name = codes "content-length" in
    let rest = values_of name more in
    elim (either_way (has_name name field)) [
      | inl h ↦
          ap (λ (t : Bool). length_after (if t then value_with so_far (number_in 10 field.1) else so_far) rest) h ∙ value_step so_far field.1 rest
          ∙ ap (λ (t : Bool). length_after so_far (if t then field.1 ∷ rest else rest)) (sym h)
      | inr h ↦
          ap (λ (t : Bool). length_after (if t then value_with so_far (number_in 10 field.1) else so_far) rest) h
          ∙ ap (λ (t : Bool). length_after so_far (if t then field.1 ∷ rest else rest)) (sym h)
    ]
