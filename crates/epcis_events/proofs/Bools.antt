-- Small facts on tests and lists.
use Rattle.std.proofs.Common.{◌≡◌, Bool, true, false, cond, ◌&&◌, ◌||◌, List, [], ◌∷◌, ◌++◌, sym, ◌∙◌, ap, refl, Option, None, Some, true≢false}
use Rattle.std.specs.Prelude.{filter, find}
use Rattle.std.specs.Option.{option_or}
use Rattle.std.specs.List.{AllByRecursion as Every, IsDistinct, list_any}
use Rattle.std.proofs.lemmas.Map.Keys.{IsDistinct-head, IsDistinct-tail, IsDistinct-cons}
use Rattle.epc_urn.specs.declared.epc.Epc.{Epc}
use Rattle.deed_words.specs.Names.{same_name, is_among}
use Rattle.deed_words.specs.Chain.{holds_of}
use Rattle.deed_words.proofs.Sameness.{same_name-true}
use Rattle.deed_words.proofs.Items.{Every-filter}

pub and_false : (b : Bool) → (b && false) ≡ false
and_false true = refl
and_false false = refl

pub and_true : (b : Bool) → (b && true) ≡ b
and_true true = refl
and_true false = refl

pub or_true : (b : Bool) → (b || true) ≡ true
or_true true = refl
or_true false = refl

pub or_false : (b : Bool) → (b || false) ≡ b
or_false true = refl
or_false false = refl

-- none of the names is this one, where it is not among them
pub none_among : (name : Epc) (names : List Epc) → is_among names name ≡ false → Every (λ (x : Epc). same_name name x ≡ false) names
unfolding is_among
none_among name [] e = tt
none_among name (x ∷ names) e =
    (elim (same_name name x) as (λ b. (b || list_any (same_name name) names) ≡ false → (b ≡ false) × Every (λ (y : Epc). same_name name y ≡ false) names) [
      | true ↦ λ h. absurd (true≢false h)
      | false ↦ λ h. (refl, none_among name names h)
    ]) e

-- a name among those that are kept
pub among_kept : (keep : Epc → Bool) (name : Epc) (names : List Epc) → is_among (filter keep names) name ≡ (is_among names name && keep name)
unfolding is_among
among_kept keep name [] = refl
among_kept keep name (x ∷ names) =
    let rest = among_kept keep name names in
    let there : Bool = list_any (same_name name) names in
    let left : Bool = list_any (same_name name) (filter keep names) in
    (elim (same_name name x) as (λ b. same_name name x ≡ b → list_any (same_name name) (cond (keep x) (x ∷ filter keep names) (filter keep names)) ≡ ((b || there) && keep name)) [
      | true ↦ λ t.
          let one : keep x ≡ keep name = ap keep (sym (same_name-true name x t)) in
          (elim (keep x) as (λ k. k ≡ keep name → list_any (same_name name) (cond k (x ∷ filter keep names) (filter keep names)) ≡ keep name) [
            | true ↦ λ k. ap (λ b. b || left) t ∙ k
            | false ↦ λ k. rest ∙ ap (λ b. there && b) (sym k) ∙ and_false there ∙ k
          ]) one
      | false ↦ λ t.
          elim (keep x) as (λ k. list_any (same_name name) (cond k (x ∷ filter keep names) (filter keep names)) ≡ (there && keep name)) [
            | true ↦ ap (λ b. b || left) t ∙ rest
            | false ↦ rest
          ]
    ]) refl

-- names that differ go on to differ where some are left out
pub differ_kept : (keep : Epc → Bool) (names : List Epc) → IsDistinct same_name names → IsDistinct same_name (filter keep names)
differ_kept keep [] d = d
differ_kept keep (x ∷ names) d =
    let rest = differ_kept keep names (IsDistinct-tail same_name x names d) in
    let head = Every-filter (λ (y : Epc). same_name x y ≡ false) keep names (IsDistinct-head same_name x names d) in
    elim (keep x) as (λ b. IsDistinct same_name (cond b (x ∷ filter keep names) (filter keep names))) [ true ↦ IsDistinct-cons same_name x (filter keep names) head rest | false ↦ rest ]

-- the order of two filters
pub filters_swap : {A : Type 0} (p q : A → Bool) (xs : List A) → filter p (filter q xs) ≡ filter q (filter p xs)
filters_swap p q [] = refl
filters_swap {A} p q (x ∷ xs) =
    let rest = filters_swap p q xs in
    (elim (p x) as (λ a. p x ≡ a → filter p (cond (q x) (x ∷ filter q xs) (filter q xs)) ≡ filter q (cond a (x ∷ filter p xs) (filter p xs))) [
      | true ↦ λ e.
          (elim (q x) as (λ b. q x ≡ b → filter p (cond b (x ∷ filter q xs) (filter q xs)) ≡ cond (q x) (x ∷ filter q (filter p xs)) (filter q (filter p xs))) [
            | true ↦ λ f. ap (λ a. cond a (x ∷ filter p (filter q xs)) (filter p (filter q xs))) e ∙ ap (λ (ys : List A). x ∷ ys) rest ∙ ap (λ b. cond b (x ∷ filter q (filter p xs)) (filter q (filter p xs))) (sym f)
            | false ↦ λ f. rest ∙ ap (λ b. cond b (x ∷ filter q (filter p xs)) (filter q (filter p xs))) (sym f)
          ]) refl
      | false ↦ λ e.
          elim (q x) as (λ b. filter p (cond b (x ∷ filter q xs) (filter q xs)) ≡ filter q (filter p xs)) [
            | true ↦ ap (λ a. cond a (x ∷ filter p (filter q xs)) (filter p (filter q xs))) e ∙ rest
            | false ↦ rest
          ]
    ]) refl

-- where none passes, none is found that passes
pub found_passes_not : {A : Type 0} (pass test : A → Bool) (xs : List A) → Every (λ x. pass x ≡ false) xs → holds_of pass (find test xs) ≡ false
unfolding holds_of
found_passes_not pass test [] a = refl
found_passes_not {A} pass test (x ∷ xs) a =
    elim (test x) as (λ b. holds_of pass (cond b (Some x) (find test xs)) ≡ false) [ true ↦ a.0 | false ↦ found_passes_not pass test xs a.1 ]

pub found_in_front : {A : Type 0} (pass : A → Bool) (front more : Option A) → holds_of pass more ≡ false → holds_of pass (option_or front more) ≡ holds_of pass front
unfolding holds_of
found_in_front pass None more e = e
found_in_front pass (Some x) more e = refl

pub Every-last : {A : Type 0} (P : A → Type 0) (xs : List A) (x : A) → Every P (xs ++ x ∷ []) → P x
Every-last P [] x a = a.0
Every-last P (y ∷ xs) x a = Every-last P xs x a.1

-- the last of keys that differ is none of those in front of it
pub last_differs : {K : Type 0} (e : K → K → Bool) (keys : List K) (key : K) → IsDistinct e (keys ++ key ∷ []) → Every (λ x. e x key ≡ false) keys
last_differs e [] key d = tt
last_differs {K} e (x ∷ keys) key d =
    (Every-last (λ (y : K). e x y ≡ false) keys key (IsDistinct-head e x (keys ++ key ∷ []) d), last_differs e keys key (IsDistinct-tail e x (keys ++ key ∷ []) d))

pub find_not : {A : Type 0} (test : A → Bool) (xs : List A) → Every (λ x. test x ≡ false) xs → find test xs ≡ None
find_not test [] a = refl
find_not {A} test (x ∷ xs) a = ap (λ b. cond b (Some x) (find test xs)) a.0 ∙ find_not test xs a.1

pub filter_all : {A : Type 0} (test : A → Bool) (xs : List A) → Every (λ x. test x ≡ true) xs → filter test xs ≡ xs
filter_all test [] a = refl
filter_all {A} test (x ∷ xs) a = ap (λ b. cond b (x ∷ filter test xs) (filter test xs)) a.0 ∙ ap (λ (ys : List A). x ∷ ys) (filter_all test xs a.1)
