-- What it says that a deed breaks no rule.
use Rattle.std.proofs.Common.{◌≡◌, ℕ, suc, Bool, true, false, List, [], ◌∷◌, ◌++◌, length, take, sym, ◌∙◌, refl, subst, arith, Option, None, Some, append_assoc, append-nil}
use Rattle.std.specs.Prelude.{option_map}
use Rattle.std.specs.List.{AllByRecursion as Every, IsDistinct}
use Rattle.std.proofs.lemmas.Map.Keys.{IsDistinct-push}
use Rattle.std.proofs.lemmas.List.{take_at, length_push}
use Rattle.epc_urn.specs.declared.epc.Epc.{Epc}
use Rattle.deed_words.specs.Names.{same_name, is_among}
use Rattle.deed_words.specs.Chain.{first, when, each, each_from}
use Rattle.deed_words.proofs.Sameness.{same_name_equiv}

pub first_None : {A : Type 0} (answer : Option A) (answers : List (Option A)) → first (answer ∷ answers) ≡ None → (answer ≡ None) × (first answers ≡ None)
unfolding first
first_None None answers e = (refl, e)
first_None (Some a) answers e = absurd (cc)

pub when_None : {A : Type 0} (b : Bool) (answer : A) → when b answer ≡ None → b ≡ false
unfolding when
when_None true answer e = absurd (cc)
when_None false answer e = refl

pub option_map_None : {A B : Type 0} (f : A → B) (o : Option A) → option_map f o ≡ None → o ≡ None
option_map_None f None e = refl
option_map_None f (Some x) e = absurd (cc)

each_from_when : {A B : Type 0} (bad : A → Bool) (answer : ℕ → B) (k : ℕ) (xs : List A) → first (each_from k (λ i x. when (bad x) (answer i)) xs) ≡ None → Every (λ x. bad x ≡ false) xs
unfolding each_from
each_from_when bad answer k [] e = tt
each_from_when {A} {B} bad answer k (x ∷ xs) e =
    let p = first_None (when (bad x) (answer k)) (each_from (suc k) (λ i x. when (bad x) (answer i)) xs) e in
    (when_None (bad x) (answer k) p.0, each_from_when bad answer (suc k) xs p.1)

pub each_when : {A B : Type 0} (bad : A → Bool) (answer : ℕ → B) (xs : List A) → each xs (λ i x. when (bad x) (answer i)) ≡ None → Every (λ x. bad x ≡ false) xs
unfolding each
each_when bad answer xs e = each_from_when bad answer 0 xs e

each_from_map : {A B C : Type 0} (f : A → Option B) (answer : ℕ → B → C) (k : ℕ) (xs : List A) → first (each_from k (λ i x. option_map (answer i) (f x)) xs) ≡ None → Every (λ x. f x ≡ None) xs
unfolding each_from
each_from_map f answer k [] e = tt
each_from_map {A} {B} f answer k (x ∷ xs) e =
    let p = first_None (option_map (answer k) (f x)) (each_from (suc k) (λ i x. option_map (answer i) (f x)) xs) e in
    (option_map_None (answer k) (f x) p.0, each_from_map f answer (suc k) xs p.1)

pub each_map : {A B C : Type 0} (f : A → Option B) (answer : ℕ → B → C) (xs : List A) → each xs (λ i x. option_map (answer i) (f x)) ≡ None → Every (λ x. f x ≡ None) xs
unfolding each
each_map f answer xs e = each_from_map f answer 0 xs e

pushed_name : (names : List Epc) (name : Epc) → IsDistinct same_name names → is_among names name ≡ false → IsDistinct same_name (names ++ name ∷ [])
unfolding is_among
pushed_name names name d e = IsDistinct-push same_name_equiv names name d e

nothing_differs : IsDistinct same_name []
unfolding IsDistinct
nothing_differs = tt

-- names of which none is among those in front of it differ
differ_from : {B : Type 0} (answer : ℕ → B) (seen names : List Epc) → IsDistinct same_name seen
    → first (each_from (length seen) (λ k name. when (is_among (take k (seen ++ names)) name) (answer k)) names) ≡ None → IsDistinct same_name (seen ++ names)
unfolding each_from
differ_from answer seen [] d e = subst (IsDistinct same_name) (sym (append-nil seen)) d
differ_from {B} answer seen (name ∷ names) d e =
    let rest : List (Option B) = each_from (suc (length seen)) (λ k n. when (is_among (take k (seen ++ name ∷ names)) n) (answer k)) names in
    let p = first_None (when (is_among (take (length seen) (seen ++ name ∷ names)) name) (answer (length seen))) rest e in
    let front : take (length seen) (seen ++ name ∷ names) ≡ seen = take_at seen (name ∷ names) (length seen) refl in
    let new : is_among seen name ≡ false = subst (λ (ns : List Epc). is_among ns name ≡ false) front (when_None _ (answer (length seen)) p.0) in
    let pushed : IsDistinct same_name (seen ++ name ∷ []) = pushed_name seen name d new in
    let regroup : (seen ++ name ∷ []) ++ names ≡ seen ++ (name ∷ names) = append_assoc seen (name ∷ []) names in
    let size : length (seen ++ name ∷ []) ≡ suc (length seen) = length_push seen name ∙ omega arith in
    let moved : first (each_from (length (seen ++ name ∷ [])) (λ k n. when (is_among (take k ((seen ++ name ∷ []) ++ names)) n) (answer k)) names) ≡ None =
    rw (size, regroup) p.1 in
    subst (IsDistinct same_name) regroup (differ_from answer (seen ++ name ∷ []) names pushed moved)

pub differ : {B : Type 0} (answer : ℕ → B) (names : List Epc) → each names (λ k name. when (is_among (take k names) name) (answer k)) ≡ None → IsDistinct same_name names
unfolding each
differ answer names e = differ_from answer [] names nothing_differs e
