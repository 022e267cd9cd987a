-- What the links read after one was written.
use Rattle.std.proofs.Common.{◌≡◌, ◌≢◌, ℕ, ◌+◌, ◌-◌, ◌<◌, ◌≤◌, eqb, cond, List, ◌++◌, length, get_or, set, take, replicate, refl, sym, ap, ◌∙◌, arith, Bool, true, false}
use Rattle.std.proofs.lemmas.List.{length-set, length-replicate, get_or-set_same, get_or-set_other, get_or-replicate, get_or_past, get_or_append_left, get_or-append_right, take_all}
use borrow.Author.Tests.{eqb-true, eq-eqb}
use native.Mathlib.Decide.{dec_lt, ℕ_discrete}
use Rattle.row_chains.specs.Chains.{first_with, next_with}

no_by : (a b : ℕ) (t : Bool) → eqb a b ≡ t → a ≢ b → t ≡ false
no_by a b true e ne = absurd (ne (eqb-true a b e))
no_by a b false e ne = refl

eqb_no : (a b : ℕ) → a ≢ b → eqb a b ≡ false
eqb_no a b ne = no_by a b (eqb a b) refl ne

first_is : (p : ℕ) (first : List ℕ) (g x : ℕ) → p ≡ 0 → first_with p first g x ≡ set first g x
first_is p first g x e = ap (λ b. cond b (set first g x) first) (eq-eqb p 0 e)

first_kept : (p : ℕ) (first : List ℕ) (g x : ℕ) → p ≢ 0 → first_with p first g x ≡ first
first_kept p first g x e = ap (λ b. cond b (set first g x) first) (eqb_no p 0 e)

next_is : (p : ℕ) (next : List ℕ) (x : ℕ) → p ≢ 0 → next_with p next x ≡ set next (p - 1) x
next_is p next x e = ap (λ b. cond b next (set next (p - 1) x)) (eqb_no p 0 e)

next_kept : (p : ℕ) (next : List ℕ) (x : ℕ) → p ≡ 0 → next_with p next x ≡ next
next_kept p next x e = ap (λ b. cond b next (set next (p - 1) x)) (eq-eqb p 0 e)

pub first_other : (p : ℕ) (first : List ℕ) (g x h : ℕ) → h ≢ g → get_or (first_with p first g x) h 0 ≡ get_or first h 0
first_other p first g x h ne = elim (ℕ_discrete p 0) [
  | yes z ↦ ap (λ (xs : List ℕ). get_or xs h 0) (first_is p first g x z) ∙ get_or-set_other first g h x 0 ne
  | no z ↦ ap (λ (xs : List ℕ). get_or xs h 0) (first_kept p first g x z)
]

pub first_old : (p : ℕ) (first : List ℕ) (g x h : ℕ) → p ≢ 0 → get_or (first_with p first g x) h 0 ≡ get_or first h 0
first_old p first g x h z = ap (λ (xs : List ℕ). get_or xs h 0) (first_kept p first g x z)

pub first_new : (p : ℕ) (first : List ℕ) (g x : ℕ) → p ≡ 0 → g < length first → get_or (first_with p first g x) g 0 ≡ x
first_new p first g x z l = ap (λ (xs : List ℕ). get_or xs g 0) (first_is p first g x z) ∙ get_or-set_same first g x 0 l

pub first_length : (p : ℕ) (first : List ℕ) (g x : ℕ) → length (first_with p first g x) ≡ length first
first_length p first g x = elim (ℕ_discrete p 0) [
  | yes z ↦ ap (λ (xs : List ℕ). length xs) (first_is p first g x z) ∙ length-set first g x
  | no z ↦ ap (λ (xs : List ℕ). length xs) (first_kept p first g x z)
]

pub next_other : (p : ℕ) (next : List ℕ) (x at : ℕ) → at + 1 ≢ p → get_or (next_with p next x) at 0 ≡ get_or next at 0
next_other p next x at ne = elim (ℕ_discrete p 0) [
  | yes z ↦ ap (λ (xs : List ℕ). get_or xs at 0) (next_kept p next x z)
  | no z ↦ ap (λ (xs : List ℕ). get_or xs at 0) (next_is p next x z) ∙ get_or-set_other next (p - 1) at x 0 (λ e. absurd (ne (omega (arith, e, z))))
]

pub next_new : (p : ℕ) (next : List ℕ) (x at : ℕ) → at + 1 ≡ p → at < length next → get_or (next_with p next x) at 0 ≡ x
next_new p next x at e l =
    let z : p ≢ 0 = λ z. absurd (omega (arith, e, z)) in
    let a : p - 1 ≡ at = omega (arith, e) in
    ap (λ (xs : List ℕ). get_or xs at 0) (next_is p next x z) ∙ ap (λ k. get_or (set next k x) at 0) a ∙ get_or-set_same next at x 0 l

pub next_length : (p : ℕ) (next : List ℕ) (x : ℕ) → length (next_with p next x) ≡ length next
next_length p next x = elim (ℕ_discrete p 0) [
  | yes z ↦ ap (λ (xs : List ℕ). length xs) (next_kept p next x z)
  | no z ↦ ap (λ (xs : List ℕ). length xs) (next_is p next x z) ∙ length-set next (p - 1) x
]

same_all : (m k o : ℕ) → get_or (replicate m o) k o ≡ o
same_all m k o = elim (dec_lt k m) [
  | yes l ↦ get_or-replicate m k o o l
  | no l ↦ get_or_past (replicate m o) k o (omega (arith, l, length-replicate m o))
]

-- ends that were made read as those that weren't there
pub ends_same : (old new : List ℕ) (m : ℕ) → length old ≤ 65536 → new ≡ take 65536 old ++ replicate m 0 → (group : ℕ) → get_or new group 0 ≡ get_or old group 0
ends_same old new m few e group =
    let f : new ≡ old ++ replicate m 0 = e ∙ ap (λ (xs : List ℕ). xs ++ replicate m 0) (take_all 65536 old few) in
    ap (λ (xs : List ℕ). get_or xs group 0) f ∙ elim (dec_lt group (length old)) [
      | yes l ↦ get_or_append_left old (replicate m 0) 0 group l
      | no l ↦
          let past : length old ≤ group = omega (arith, l) in
          get_or-append_right old (replicate m 0) (length old) group 0 refl past ∙ same_all m (group - length old) 0 ∙ sym (get_or_past old group 0 past)
    ]
