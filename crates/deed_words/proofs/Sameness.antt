-- Names that are the same are equal.
use Rattle.std.proofs.Common.{◌≡◌, Bool, true, false, sym, ◌∙◌, ap, refl, subst, true≢false}
use Rattle.std.specs.Cmp.{IsEquivalence}
use Rattle.std.proofs.lemmas.Slice.Eq.{bytes_eq-Decides}
use Rattle.std.proofs.lemmas.Bool.{and_parts, and_from, false_from_ne_true}
use Rattle.deed_words.specs.Names.{Text, same, same_name}
use Rattle.epc_urn.specs.declared.epc.Epc.{Epc}
use Rattle.epc_urn.specs.declared.epc.Epc.TheVariants.{Item, Unit as Box}

pub same-true : (a b : Text) → same a b ≡ true → a ≡ b
unfolding same
same-true a b h = (bytes_eq-Decides a b).0 h

pub same-itself : (a : Text) → same a a ≡ true
unfolding same
same-itself a = (bytes_eq-Decides a a).1 refl

pub same-from : (a b : Text) → a ≡ b → same a b ≡ true
unfolding same
same-from a b e = (bytes_eq-Decides a b).1 e

pub same_name-true : (a b : Epc) → same_name a b ≡ true → a ≡ b
unfolding same_name
same_name-true (Item g s) (Item g' s') h =
    let p = and_parts (same g g') (same s s') h in
    let one : g ≡ g' = same-true g g' p.0 in
    let two : s ≡ s' = same-true s s' p.1 in
    cc
same_name-true (Item g s) (Box u) h = absurd (true≢false (sym h))
same_name-true (Box u) (Item g s) h = absurd (true≢false (sym h))
same_name-true (Box u) (Box v) h = ap Box (same-true u v h)

pub same_name-itself : (a : Epc) → same_name a a ≡ true
unfolding same_name
same_name-itself (Item g s) = and_from (same g g) (same s s) (same-itself g) (same-itself s)
same_name-itself (Box u) = same-itself u

pub same_name-from : (a b : Epc) → a ≡ b → same_name a b ≡ true
same_name-from a b e = subst (λ (x : Epc). same_name a x ≡ true) e (same_name-itself a)

-- a test that says when two things are equal is an equivalence
equivalence_from : {K : Type 0} (e : K → K → Bool) → ((a b : K) → e a b ≡ true → a ≡ b) → ((a : K) → e a a ≡ true) → IsEquivalence e
equivalence_from {K} e equal itself =
    let from : (a b : K) → a ≡ b → e a b ≡ true = λ a b p. subst (λ (x : K). e a x ≡ true) p (itself a) in
    let back : (a b : K) → e a b ≡ true → e b a ≡ true = λ a b h. from b a (sym (equal a b h)) in
    let flip : (a b : K) (x y : Bool) → e a b ≡ x → e b a ≡ y → x ≡ y =
    λ a b x y. elim x as (λ x. e a b ≡ x → e b a ≡ y → x ≡ y) [
      | true ↦ λ p q. sym (back a b p) ∙ q
      | false ↦ elim y as (λ y. e a b ≡ false → e b a ≡ y → false ≡ y) [ true ↦ λ p q. sym p ∙ back b a q | false ↦ λ p q. refl ]
    ] in
    record { refl = itself; symm = λ a b. flip a b _ _ refl refl; congr = λ a b c h. ap (λ (x : K). e x c) (equal a b h) }

pub same_equiv : IsEquivalence same
same_equiv = equivalence_from same same-true same-itself

pub same_name_equiv : IsEquivalence same_name
same_name_equiv = equivalence_from same_name same_name-true same_name-itself

-- a test that says when two texts are equal is `same`
pub same-decided : (r : Bool) (a b : Text) → (r ≡ true → a ≡ b) × (a ≡ b → r ≡ true) → r ≡ same a b
same-decided r a b d =
    (elim r as (λ r. (r ≡ true → a ≡ b) × (a ≡ b → r ≡ true) → r ≡ same a b) [
      | true ↦ λ d. sym (same-from a b (d.0 refl))
      | false ↦ λ d. sym (false_from_ne_true (same a b) (λ h. true≢false (sym (d.1 (same-true a b h)))))
    ]) d

pub ruleset sameness = (same-decided)
