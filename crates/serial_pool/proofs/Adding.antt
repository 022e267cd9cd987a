-- Serials that may be drawn, one by one.
use Rattle.std.proofs.Common.{◌≡◌, ℕ, ◌+◌, ◌<◌, ◌≤◌, Bool, true, false, List, [], ◌∷◌, ◌++◌, length, take, get_or, refl, sym, ap, ◌∙◌, subst, arith, not, add-one}
use Rattle.std.specs.Prelude.{◌&&◌, bytes_eq, All}
use Rattle.std.specs.List.{IsDistinct}
use Rattle.std.proofs.Math.Seq.{take-suc}
use Rattle.std.proofs.lemmas.List.{take_all, length_push, get_or_push, get_or-take, length-take}
use Rattle.std.proofs.lemmas.List.Elements.{All-nil, All-push, All-from_recursion, All-take}
use Rattle.std.proofs.lemmas.Cmp.{nat_list_eq_equiv}
use Rattle.std.proofs.lemmas.Map.Keys.{IsDistinct-push, IsDistinct-head, IsDistinct-tail, IsDistinct-from_apart, apart_from_distinct}
use Rattle.gs1_keys.specs.declared.form.SerialForm.{SerialForm}
use Rattle.gs1_keys.specs.Forms.{is_among, AreDistinct, AreNew, is_in_form}
use Rattle.serial_pool.specs.Held.{may_follow}
use Rattle.serial_pool.specs.Ends.{IsFirstNotNew}

three : (a b d : Bool) → (a && not b && not d) ≡ true → (a ≡ true) × (b ≡ false) × (d ≡ false)
three true false false e = (refl, refl, refl)
three true false true e = absurd cc
three true true d e = absurd cc
three false b d e = absurd cc

three_back : (a b d : Bool) → a ≡ true → b ≡ false → d ≡ false → (a && not b && not d) ≡ true
three_back a b d e f g = rw (e, f, g) refl

none_distinct : AreDistinct []
unfolding IsDistinct
none_distinct = tt

pub AreNew-nil : (had : List (List ℕ)) (form : SerialForm) → AreNew had form []
AreNew-nil had form = record {
  formed = All-nil (λ s. is_in_form form s ≡ true);
  unknown = All-nil (λ s. is_among had s ≡ false);
  distinct = none_distinct;
}

AreNew-push : (had : List (List ℕ)) (form : SerialForm) (serials : List (List ℕ)) (s : List ℕ) → AreNew had form serials → may_follow had form serials s ≡ true → AreNew had form (serials ++ s ∷ [])
AreNew-push had form serials s new e =
    let p = three (is_in_form form s) (is_among had s) (is_among serials s) e in
    record {
      formed = All-push (λ x. is_in_form form x ≡ true) serials s new.formed p.0;
      unknown = All-push (λ x. is_among had x ≡ false) serials s new.unknown p.1;
      distinct = IsDistinct-push nat_list_eq_equiv serials s new.distinct p.2;
    }

distinct_last : (serials : List (List ℕ)) (s : List ℕ) → AreDistinct (serials ++ s ∷ []) → is_among serials s ≡ false
distinct_last [] s once = refl
distinct_last (x ∷ serials) s once =
    let apart : bytes_eq x s ≡ false = last_of x serials s (All-from_recursion (λ y. bytes_eq x y ≡ false) (serials ++ s ∷ []) (IsDistinct-head bytes_eq x (serials ++ s ∷ []) once)) in
    rw (nat_list_eq_equiv.symm s x ∙ apart) (distinct_last serials s (IsDistinct-tail bytes_eq x (serials ++ s ∷ []) once))
  where
    last_of : (x : List ℕ) (serials : List (List ℕ)) (s : List ℕ) → All (λ y. bytes_eq x y ≡ false) (serials ++ s ∷ []) → bytes_eq x s ≡ false
    last_of x serials s h = subst (λ y. bytes_eq x y ≡ false) (get_or_push serials s s (length serials) refl) (h (length serials) s (omega (arith, length_push serials s)))

last_all : (P : List ℕ → Type 0) (serials : List (List ℕ)) (s : List ℕ) → All P (serials ++ s ∷ []) → P s
last_all P serials s h = subst P (get_or_push serials s s (length serials) refl) (h (length serials) s (omega (arith, length_push serials s)))

AreNew-last : (had : List (List ℕ)) (form : SerialForm) (serials : List (List ℕ)) (s : List ℕ) → AreNew had form (serials ++ s ∷ []) → may_follow had form serials s ≡ true
AreNew-last had form serials s new =
    three_back (is_in_form form s) (is_among had s) (is_among serials s)
    (last_all (λ x. is_in_form form x ≡ true) serials s new.formed) (last_all (λ x. is_among had x ≡ false) serials s new.unknown) (distinct_last serials s new.distinct)

-- one serial more of the list
one_taken : (serials : List (List ℕ)) (i : ℕ) (s : List ℕ) → i < length serials → s ≡ get_or serials i s → take (i + 1) serials ≡ take i serials ++ s ∷ []
one_taken serials i s lt e = rw add-one (take-suc serials i s lt ∙ ap (λ (x : List ℕ). take i serials ++ x ∷ []) (sym e))

pub one_more_known : (had : List (List ℕ)) (form : SerialForm) (serials planned : List (List ℕ)) (i : ℕ) (s : List ℕ)
    → i < length serials → s ≡ get_or serials i s → planned ≡ take i serials → AreNew had form planned → may_follow had form planned s ≡ true
    → (planned ++ s ∷ [] ≡ take (i + 1) serials) × AreNew had form (planned ++ s ∷ [])
one_more_known had form serials planned i s lt at e new fit =
    (ap (λ (xs : List (List ℕ)). xs ++ s ∷ []) e ∙ sym (one_taken serials i s lt at), AreNew-push had form planned s new fit)

pub first_not_new : (had : List (List ℕ)) (form : SerialForm) (serials planned : List (List ℕ)) (i : ℕ) (s : List ℕ)
    → i < length serials → s ≡ get_or serials i s → planned ≡ take i serials → AreNew had form planned → may_follow had form planned s ≡ false
    → IsFirstNotNew had form serials i
first_not_new had form serials planned i s lt at e new unfit =
    record {
      there = lt;
      before = subst (AreNew had form) e new;
      not_new = λ all.
          let fit : may_follow had form (take i serials) s ≡ true = AreNew-last had form (take i serials) s (subst (AreNew had form) (one_taken serials i s lt at) all) in
          let other : may_follow had form (take i serials) s ≡ false = subst (λ (xs : List (List ℕ)). may_follow had form xs s ≡ false) e unfit in
          absurd cc;
    }

pub all_known : (had : List (List ℕ)) (form : SerialForm) (serials planned : List (List ℕ)) (i : ℕ)
    → length serials ≤ i → planned ≡ take i serials → AreNew had form planned → (planned ≡ serials) × AreNew had form serials
all_known had form serials planned i le e new =
    let same : planned ≡ serials = e ∙ take_all i serials le in
    (same, subst (AreNew had form) same new)

distinct_take : (n : ℕ) (serials : List (List ℕ)) → AreDistinct serials → AreDistinct (take n serials)
distinct_take n serials once =
    IsDistinct-from_apart bytes_eq (take n serials) (λ i j d lt le.
    let long = length-take n serials in
    rw (get_or-take n serials i d (omega arith), get_or-take n serials j d (omega arith)) (apart_from_distinct bytes_eq serials i j d once lt (omega arith)))

-- where one isn't new, they aren't
pub not_all_new : (had : List (List ℕ)) (form : SerialForm) (serials : List (List ℕ)) (index : ℕ) → IsFirstNotNew had form serials index → AreNew had form serials → ⊥
not_all_new had form serials index first all = first.not_new (record {
  formed = All-take (λ s. is_in_form form s ≡ true) (index + 1) serials all.formed;
  unknown = All-take (λ s. is_among had s ≡ false) (index + 1) serials all.unknown;
  distinct = distinct_take (index + 1) serials all.distinct;
})
