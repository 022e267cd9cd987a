-- Walking over the units of a scan.
use Rattle.std.proofs.Common.{◌≡◌, ℕ, zero, suc, ◌+◌, ◌-◌, ◌≤◌, ◌<◌, Bool, true, false, cond, eqb, List, [], ◌∷◌, length, drop, get_or, Some, Result, Ok, Err, refl, sym, ap, ◌∙◌, arith}
use Rattle.std.proofs.lemmas.Slice.{between_is}
use Rattle.std.proofs.lemmas.List.{length-drop}
use Rattle.std.specs.Prelude.{slice_range}
use Rattle.gs1_element.specs.declared.fault.ElementFault.{ElementFault}
use Rattle.gs1_element.specs.declared.found.Found.{Found}
use Rattle.gs1_element.specs.declared.code.Code.{Code}
use Rattle.gs1_element.specs.Units.{unit_length, after_separator, piece}
use Rattle.gs1_element.specs.Codes.{◌>>=◌, Cuts, and_then, cut_by, cuts, put, complete, collected, from}

pub part_is : (at n : ℕ) (bytes : List ℕ) → 2 ≤ n → n ≤ length bytes → record { at = at; code = get_or bytes 0 0 ∷ get_or bytes 1 0 ∷ []; value = slice_range bytes 2 n } ≡ piece at n bytes
part_is at n [] l h = absurd (omega (arith, l, h))
part_is at n (a ∷ []) l h = absurd (omega (arith, l, h))
part_is at n (a ∷ b ∷ bs) l h = ap (λ (v : List ℕ). record { at = at; code = a ∷ b ∷ []; value = v }) (between_is (a ∷ b ∷ bs) 2 n)

pub after_shorter : (xs : List ℕ) → length (after_separator xs) ≤ length xs
after_shorter [] = omega arith
after_shorter (b ∷ bs) = by (eqb b 29)
  where
    by : (v : Bool) → length (cond v bs (b ∷ bs)) ≤ length (b ∷ bs)
    by true = omega arith
    by false = omega arith

abbrev rest_of : ℕ → List ℕ → List ℕ
rest_of n bs = after_separator (drop (n - 1) bs)

cut_same : (k m at b : ℕ) (bs : List ℕ) (r : Result ℕ ElementFault) → ((at : ℕ) (rest : List ℕ) → length rest ≤ length bs → cuts k at rest ≡ cuts m at rest)
    → cut_by r (λ n. cuts k (at + (length bs + 1 - length (rest_of n bs))) (rest_of n bs)) (λ n. piece at n (b ∷ bs)) ≡ cut_by r (λ n. cuts m (at + (length bs + 1 - length (rest_of n bs))) (rest_of n bs)) (λ n. piece at n (b ∷ bs))
cut_same k m at b bs (Err e) same = refl
cut_same k m at b bs (Ok n) same =
    let shorter : length (rest_of n bs) ≤ length bs = omega (arith, after_shorter (drop (n - 1) bs), length-drop (n - 1) bs) in
    ap (and_then (piece at n (b ∷ bs))) (same (at + (length bs + 1 - length (rest_of n bs))) (rest_of n bs) shorter)

-- any number of steps that is no less than the length cuts all
pub enough : (k m at : ℕ) (bytes : List ℕ) → length bytes ≤ k → length bytes ≤ m → cuts k at bytes ≡ cuts m at bytes
unfolding cuts
enough zero zero at bytes h l = refl
enough zero (suc m) at [] h l = refl
enough zero (suc m) at (b ∷ bs) h l = absurd (omega (arith, h))
enough (suc k) zero at [] h l = refl
enough (suc k) zero at (b ∷ bs) h l = absurd (omega (arith, l))
enough (suc k) (suc m) at [] h l = refl
enough (suc k) (suc m) at (b ∷ bs) h l = cut_same k m at b bs (unit_length at (b ∷ bs)) (λ place rest short. enough k m place rest (omega (arith, short, h)) (omega (arith, short, l)))

-- the units from here on, where the one at the front can be cut
one_cut : (at n b : ℕ) (bs : List ℕ) → unit_length at (b ∷ bs) ≡ Ok n → cuts (length (b ∷ bs)) at (b ∷ bs) ≡ and_then (piece at n (b ∷ bs)) (cuts (length (rest_of n bs)) (at + (length bs + 1 - length (rest_of n bs))) (rest_of n bs))
unfolding cuts
one_cut at n b bs e =
    let shorter : length (rest_of n bs) ≤ length bs = omega (arith, after_shorter (drop (n - 1) bs), length-drop (n - 1) bs) in
    rw e (ap (and_then (piece at n (b ∷ bs))) (enough (length bs) (length (rest_of n bs)) (at + (length bs + 1 - length (rest_of n bs))) (rest_of n bs) shorter (omega arith)))

pub no_cut : (at b : ℕ) (bs : List ℕ) (e : ElementFault) → unit_length at (b ∷ bs) ≡ Err e → cuts (length (b ∷ bs)) at (b ∷ bs) ≡ ([], Some e)
unfolding cuts
no_cut at b bs e h = rw h refl

abbrev collected_of : Found → Cuts → Result Code ElementFault
collected_of f c = collected c.0 c.1 f

from_cut : (at n : ℕ) (bytes : List ℕ) (f : Found) → 0 < length bytes → 1 ≤ n → unit_length at bytes ≡ Ok n
    → from at bytes f ≡ put f (piece at n bytes) >>= λ g. from (at + (length bytes - length (after_separator (drop n bytes)))) (after_separator (drop n bytes)) g
unfolding collected
from_cut at n [] f some l e = absurd (omega (arith, some))
from_cut at zero (b ∷ bs) f some l e = absurd (omega (arith, l))
from_cut at (suc n) (b ∷ bs) f some l e =
    let same : suc n - 1 ≡ n = omega arith in
    let plus : length bs + 1 ≡ suc (length bs) = omega arith in
    ap (collected_of f) (one_cut at (suc n) b bs e) ∙ rw (same, plus) refl

pub step : (at n : ℕ) (bytes : List ℕ) (f g : Found) (total : Result Code ElementFault) → 0 < length bytes → 1 ≤ n → unit_length at bytes ≡ Ok n → put f (piece at n bytes) ≡ Ok g → from at bytes f ≡ total
    → from (at + (length bytes - length (after_separator (drop n bytes)))) (after_separator (drop n bytes)) g ≡ total
step at n bytes f g total some l e h so_far = sym (from_cut at n bytes f some l e ∙ rw h refl) ∙ so_far

pub bad_unit : (at n : ℕ) (bytes : List ℕ) (f : Found) (fault : ElementFault) (total : Result Code ElementFault) → 0 < length bytes → 1 ≤ n → unit_length at bytes ≡ Ok n → put f (piece at n bytes) ≡ Err fault → from at bytes f ≡ total → total ≡ Err fault
bad_unit at n bytes f fault total some l e h so_far = sym so_far ∙ from_cut at n bytes f some l e ∙ rw h refl

pub bad_cut : (at : ℕ) (bytes : List ℕ) (f : Found) (fault : ElementFault) (total : Result Code ElementFault) → 0 < length bytes → unit_length at bytes ≡ Err fault → from at bytes f ≡ total → total ≡ Err fault
unfolding collected
bad_cut at [] f fault total some e so_far = absurd (omega (arith, some))
bad_cut at (b ∷ bs) f fault total some e so_far = sym so_far ∙ ap (collected_of f) (no_cut at b bs fault e)

pub at_end : (at : ℕ) (bytes : List ℕ) (f : Found) (total : Result Code ElementFault) → length bytes ≡ 0 → from at bytes f ≡ total → total ≡ complete f
unfolding collected cuts
at_end at [] f total e so_far = sym so_far
at_end at (b ∷ bs) f total e so_far = absurd (omega (arith, e))
