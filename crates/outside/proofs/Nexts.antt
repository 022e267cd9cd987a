-- The link that comes next, out of those that are left.
use Rattle.std.proofs.Common.{◌≡◌, ◌<◌, ◌+◌, ℕ, List, [], ◌∷◌, ◌++◌, length, take, drop, map, sym, ap, ◌∙◌, arith, get_or, Option, Some}
use Rattle.std.proofs.lemmas.List.{take_more, drop_more, map-append, length-drop}
use Rattle.outside.specs.Doors.{Wire, DoorState}

pub record IsNext {L : Type 0} (all : List L) (n : ℕ) (link : L) (rest : List L) : Type 0 where
  pub there : n < length all
  pub is : get_or all n link ≡ link
  pub taken : take (n + 1) all ≡ take n all ++ link ∷ []
  pub left : rest ≡ drop (n + 1) all

first_same : (L : Type 0) (a b : L) (xs ys : List L) → a ∷ xs ≡ b ∷ ys → (a ≡ b) × (xs ≡ ys)
first_same L a b xs ys e = let p : a ≡ b = cc in let q : xs ≡ ys = cc in (p, q)

pub next_is : (L : Type 0) (all : List L) (n : ℕ) (link : L) (rest : List L) → drop n all ≡ link ∷ rest → IsNext all n link rest
next_is L all n link rest e =
    let some : n < length all = omega (arith, length-drop n all, ap length e) in
    let same = first_same L (get_or all n link) link (drop (n + 1) all) rest (sym (drop_more all n link some) ∙ e) in
    record {
      there = some;
      is = same.0;
      taken = take_more all n link some ∙ ap (λ x. take n all ++ x ∷ []) same.0;
      left = sym same.1;
    }

-- a state by its parts
pub same_state : (quota given back back' faults faults' : ℕ) (links links' told told' : Option (List Wire)) → back ≡ back' → links ≡ links' → told ≡ told' → faults ≡ faults'
    → ◌≡◌ {A = DoorState}
    (record { quota = quota; given = given; back = back; links = links; links_back = told; faults = faults })
    (record { quota = quota; given = given; back = back'; links = links'; links_back = told'; faults = faults' })
same_state quota given back back' faults faults' links links' told told' b l t f = cc

-- one link more is told
pub one_told : (L : Type 0) (f : L → Wire) (all : List L) (n : ℕ) (link : L) (rest : List L) → IsNext all n link rest → Some (map f (take (n + 1) all)) ≡ Some (map f (take n all) ++ f link ∷ [])
one_told L f all n link rest h = ap Some (ap (map f) h.taken ∙ map-append f (take n all) (link ∷ []))
