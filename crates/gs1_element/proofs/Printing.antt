-- What is printed of a code is a scan of it.
use Rattle.std.proofs.Common.{◌≡◌, ℕ, ◌+◌, Bool, true, false, cond, eqb, List, [], ◌∷◌, ◌++◌, append_assoc, append-nil, length, Some, None, refl, sym, ap, ◌∙◌, arith, inl, inr}
use Rattle.std.specs.Prelude.{◌==◌, codes}
use Rattle.std.proofs.lemmas.Bool.{eqb-true}
use Rattle.gs1_keys.specs.Keys.{is_digit, is_in_set, first_other, IsGtin, IsText}
use Rattle.gs1_keys.proofs.Known.{gtin_length, gtin_digits, text_set}
use Rattle.gs1_element.specs.declared.code.Code.{Code}
use Rattle.gs1_element.specs.Dates.{date_fault, is_expiry}
use Rattle.gs1_element.specs.Units.{run_length}
use Rattle.gs1_element.specs.Scans.{Element, joined, IsElement, AreElements, IsScan}
use Rattle.gs1_element.specs.Canonical.{unit, canonical}
use Rattle.gs1_element.proofs.Collecting.{both_none}

-- bytes of which each passes a test that a separator fails
no_separator : (test : ℕ → Bool) (xs : List ℕ) (at : ℕ) → test 29 ≡ false → first_other test at xs ≡ None → run_length xs ≡ length xs
no_separator test [] at f e = refl
no_separator test (x ∷ xs) at f e = by (test x) (eqb x 29) refl refl e (λ g. no_separator test xs (at + 1) f g)
  where
    by : (v s : Bool) → test x ≡ v → eqb x 29 ≡ s → cond v (first_other test (at + 1) xs) (Some at) ≡ None → (first_other test (at + 1) xs ≡ None → run_length xs ≡ length xs) → cond s 0 (run_length xs + 1) ≡ length (x ∷ xs)
    by true true h s e others = absurd (let same : test 29 ≡ true = ap test (sym (eqb-true x 29 s)) ∙ h in let no = sym f ∙ same in cc)
    by true false h s e others = omega (arith, others e)
    by false s h g e others = absurd cc

abbrev element : List ℕ → List ℕ → Bool → Element
element identifier value ended = record { text = unit identifier value; ended = ended }

abbrev units : Code → List Element
units c = element (codes "01") c.gtin false ∷ element (codes "17") c.expiry false ∷ element (codes "10") c.lot true ∷ element (codes "21") c.serial false ∷ []

gtin_unit : (value : List ℕ) (ended : Bool) → IsGtin value → IsElement (element (codes "01") value ended)
unfolding unit
gtin_unit value ended h = (omega arith, refl, refl, omega (arith, no_separator is_digit value 0 refl (gtin_digits value h)), omega (arith, gtin_length value h))

date_unit : (value : List ℕ) (ended : Bool) → is_expiry value ≡ true → IsElement (element (codes "17") value ended)
unfolding unit is_expiry
date_unit value ended h =
    let b = both_none (length value == 6) (first_other is_digit 0 value) (date_fault value) h in
    (omega arith, refl, refl, omega (arith, no_separator is_digit value 0 refl b.1), omega (arith, eqb-true (length value) 6 b.0))

lot_unit : (value : List ℕ) (ended : Bool) → IsText value → IsElement (element (codes "10") value ended)
unfolding unit
lot_unit value ended h = (omega arith, refl, refl, omega (arith, no_separator is_in_set value 0 refl (text_set value h)), tt)

serial_unit : (value : List ℕ) (ended : Bool) → IsText value → IsElement (element (codes "21") value ended)
unfolding unit
serial_unit value ended h = (omega arith, refl, refl, omega (arith, no_separator is_in_set value 0 refl (text_set value h)), tt)

are_units : (c : Code) → IsGtin c.gtin → IsText c.serial → IsText c.lot → is_expiry c.expiry ≡ true → AreElements (units c)
unfolding unit
are_units c g s l e = (gtin_unit c.gtin false g, inr (inl refl), (date_unit c.expiry false e, inr (inl refl), (lot_unit c.lot true l, inl refl, (serial_unit c.serial false s, inr (inr refl), tt))))

regrouped : (a b d e f : List ℕ) → a ++ b ++ d ++ e ++ f ≡ a ++ (b ++ (d ++ (e ++ (f ++ []))))
regrouped a b d e f = rw (append-nil f) (simp append_assoc)

canonical_joins : (c : Code) → canonical c ≡ joined (units c)
canonical_joins c = regrouped (unit (codes "01") c.gtin) (unit (codes "17") c.expiry) (unit (codes "10") c.lot) (29 ∷ []) (unit (codes "21") c.serial)

pub is_scan : (c : Code) → IsGtin c.gtin → IsText c.serial → IsText c.lot → is_expiry c.expiry ≡ true → IsScan (canonical c) c
unfolding unit
is_scan c g s l e = ([], inl refl, units c, canonical_joins c, are_units c g s l e, ((refl, g), (refl, l), (refl, e), (refl, s)))
