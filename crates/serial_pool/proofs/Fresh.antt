-- Laws of the new candidates of words.
use Rattle.std.proofs.Common.{◌≡◌, ℕ, Bool, true, false, cond, List, [], ◌∷◌, ◌++◌, Option, None, Some, refl, sym, ap, ◌∙◌, append_assoc, append-nil, subst, not, ◌%◌}
use Rattle.std.specs.Prelude.{◌||◌, ◌&&◌, filter, bytes_eq, All, if◌then◌else◌, nat_lt}
use Rattle.std.specs.List.{filter_map, cons_option}
use Rattle.std.proofs.lemmas.List.Folds.{list_any-append}
use Rattle.std.proofs.lemmas.List.Elements.{All-nil, All-cons, All-weaker, filter_passes}
use Rattle.std.proofs.lemmas.Map.Keys.{IsDistinct-push}
use Rattle.std.proofs.lemmas.Cmp.{nat_list_eq_equiv}
use Rattle.gs1_keys.specs.declared.form.SerialForm.{SerialForm}
use Rattle.gs1_keys.specs.Forms.{form_size, text_in}
use Rattle.gs1_keys.proofs.Forming.{is_in_form-text_in}
use Rattle.gs1_keys.specs.Forms.{is_among, AreDistinct, is_in_form}
use Rattle.serial_pool.specs.Drawing.{candidate, unless_among, firsts, fresh, words_end}

filter-filter : (p q : List ℕ → Bool) (xs : List (List ℕ)) → filter p (filter q xs) ≡ filter (λ x. q x && p x) xs
filter-filter p q [] = refl
filter-filter p q (x ∷ xs) = elim (q x) as (λ b. filter p (cond b (x ∷ filter q xs) (filter q xs)) ≡ cond (b && p x) (x ∷ filter (λ y. q y && p y) xs) (filter (λ y. q y && p y) xs)) [
  | true ↦ ap (λ (ys : List (List ℕ)). cond (p x) (x ∷ ys) ys) (filter-filter p q xs)
  | false ↦ filter-filter p q xs
]

filter-alike : (p q : List ℕ → Bool) → ((x : List ℕ) → p x ≡ q x) → (xs : List (List ℕ)) → filter p xs ≡ filter q xs
filter-alike p q same [] = refl
filter-alike p q same (x ∷ xs) = ap (λ b. cond b (x ∷ filter p xs) (filter p xs)) (same x) ∙ ap (λ (ys : List (List ℕ)). cond (q x) (x ∷ ys) ys) (filter-alike p q same xs)

-- one of those and this
pub is_among-push : (had : List (List ℕ)) (s x : List ℕ) → is_among (had ++ s ∷ []) x ≡ (is_among had x || bytes_eq x s)
is_among-push had s x = list_any-append (bytes_eq x) had (s ∷ []) ∙ ap (λ b. is_among had x || b) (last (bytes_eq x s))
  where
    last : (b : Bool) → (b || false) ≡ b
    last true = refl
    last false = refl

-- what is the same is one of those too
is_among-same : (had : List (List ℕ)) (s x : List ℕ) → bytes_eq s x ≡ true → is_among had x ≡ is_among had s
is_among-same [] s x e = refl
is_among-same (h ∷ had) s x e = ap (λ b. b || is_among had x) (sym (nat_list_eq_equiv.congr s x h e)) ∙ ap (λ b. bytes_eq s h || b) (is_among-same had s x e)

pub neither_of : (had : List (List ℕ)) (s x : List ℕ) → is_among had x ≡ false → bytes_eq s x ≡ false → is_among (had ++ s ∷ []) x ≡ false
neither_of had s x e f = is_among-push had s x ∙ rw (e, nat_list_eq_equiv.symm x s ∙ f) refl

neither : (had : List (List ℕ)) (s x : List ℕ) → (not (bytes_eq s x) && not (is_among had x)) ≡ not (is_among (had ++ s ∷ []) x)
neither had s x = rw (is_among-push had s x, nat_list_eq_equiv.symm x s) (swapped (bytes_eq s x) (is_among had x))
  where
    swapped : (a b : Bool) → (not a && not b) ≡ not (b || a)
    swapped true true = refl
    swapped true false = refl
    swapped false true = refl
    swapped false false = refl

nor_again : (had : List (List ℕ)) (s x : List ℕ) → is_among had s ≡ true → (not (bytes_eq s x) && not (is_among had x)) ≡ not (is_among had x)
nor_again had s x known = (elim (bytes_eq s x) as (λ b. bytes_eq s x ≡ b → (not b && not (is_among had x)) ≡ not (is_among had x)) [
  | true ↦ λ e. ap not (sym (is_among-same had s x e ∙ known))
  | false ↦ λ e. refl
]) refl

-- what words give, where the first of them gave this
pub next_fresh : List (List ℕ) → SerialForm → List ℕ → Option (List ℕ) → List (List ℕ)
next_fresh had form words None = fresh had form words
next_fresh had form words (Some s) = s ∷ fresh (had ++ s ∷ []) form words

-- one word less
pub fresh-cons : (had : List (List ℕ)) (form : SerialForm) (word : ℕ) (words : List ℕ) → fresh had form (word ∷ words) ≡ next_fresh had form words (unless_among had (candidate form word))
unfolding next_fresh
fresh-cons had form word words =
    let rest : List (List ℕ) = firsts (filter_map (candidate form) words) in
    let unknown : List ℕ → Bool = λ x. not (is_among had x) in
    elim (candidate form word) as (λ o. filter unknown (firsts (cons_option o (filter_map (candidate form) words))) ≡ next_fresh had form words (unless_among had o)) [
      | None ↦ refl
      | Some s ↦
          let others : List ℕ → Bool = λ x. not (bytes_eq s x) in
          (elim (is_among had s) as (λ b. is_among had s ≡ b → cond (not b) (s ∷ filter unknown (filter others rest)) (filter unknown (filter others rest)) ≡ next_fresh had form words (if b then None else Some s)) [
            | true ↦ λ e. filter-filter unknown others rest ∙ filter-alike _ unknown (λ x. nor_again had s x e) rest
            | false ↦ λ e. ap (λ (xs : List (List ℕ)). s ∷ xs) (filter-filter unknown others rest ∙ filter-alike _ (λ x. not (is_among (had ++ s ∷ []) x)) (neither had s) rest)
          ]) refl
    ]

pub listed : Option (List ℕ) → List (List ℕ)
listed None = []
listed (Some s) = s ∷ []

pub listed-None : listed None ≡ []
unfolding listed
listed-None = refl

pub listed-Some : (s : List ℕ) → listed (Some s) ≡ s ∷ []
unfolding listed
listed-Some s = refl

-- one word more
pub fresh-push : (had : List (List ℕ)) (form : SerialForm) (words : List ℕ) (word : ℕ) → fresh had form (words ++ word ∷ []) ≡ fresh had form words ++ listed (unless_among (had ++ fresh had form words) (candidate form word))
unfolding next_fresh listed
fresh-push had form [] word =
    fresh-cons had form word []
    ∙ (elim (unless_among had (candidate form word)) as (λ o. next_fresh had form [] o ≡ listed o) [ None ↦ refl | Some s ↦ refl ])
    ∙ ap (λ (xs : List (List ℕ)). listed (unless_among xs (candidate form word))) (sym (append-nil had))
fresh-push had form (w ∷ words) word =
    let ends : List (List ℕ) → List (List ℕ) = λ xs. xs ++ listed (unless_among (had ++ xs) (candidate form word)) in
    fresh-cons had form w (words ++ word ∷ [])
    ∙ (elim (unless_among had (candidate form w)) as (λ o. next_fresh had form (words ++ word ∷ []) o ≡ next_fresh had form words o ++ listed (unless_among (had ++ next_fresh had form words o) (candidate form word))) [
      | None ↦ fresh-push had form words word
      | Some s ↦
          ap (λ (xs : List (List ℕ)). s ∷ xs) (fresh-push (had ++ s ∷ []) form words word)
          ∙ ap (λ (xs : List (List ℕ)). s ∷ (fresh (had ++ s ∷ []) form words ++ listed (unless_among xs (candidate form word)))) (append_assoc had (s ∷ []) (fresh (had ++ s ∷ []) form words))
    ])
    ∙ sym (ap ends (fresh-cons had form w words))

-- what words give stays where more words come
pub fresh-append : (had : List (List ℕ)) (form : SerialForm) (words more : List ℕ) → fresh had form (words ++ more) ≡ fresh had form words ++ fresh (had ++ fresh had form words) form more
unfolding next_fresh
fresh-append had form [] more = ap (λ (xs : List (List ℕ)). fresh xs form more) (sym (append-nil had))
fresh-append had form (w ∷ words) more =
    fresh-cons had form w (words ++ more)
    ∙ (elim (unless_among had (candidate form w)) as (λ o. next_fresh had form (words ++ more) o ≡ next_fresh had form words o ++ fresh (had ++ next_fresh had form words o) form more) [
      | None ↦ fresh-append had form words more
      | Some s ↦
          ap (λ (xs : List (List ℕ)). s ∷ xs) (fresh-append (had ++ s ∷ []) form words more)
          ∙ ap (λ (xs : List (List ℕ)). s ∷ (fresh (had ++ s ∷ []) form words ++ fresh xs form more)) (append_assoc had (s ∷ []) (fresh (had ++ s ∷ []) form words))
    ])
    ∙ sym (ap (λ (xs : List (List ℕ)). xs ++ fresh (had ++ xs) form more) (fresh-cons had form w words))

-- what a word gives is its candidate, and not among those
given : (had : List (List ℕ)) (o : Option (List ℕ)) (s : List ℕ) → unless_among had o ≡ Some s → (o ≡ Some s) × (is_among had s ≡ false)
given had None s e = absurd cc
given had (Some t) s e = (elim (is_among had t) as (λ b. is_among had t ≡ b → (if b then None else Some t) ≡ Some s → (Some t ≡ Some s) × (is_among had s ≡ false)) [
  | true ↦ λ f g. absurd cc
  | false ↦ λ f g. let same : t ≡ s = cc in (ap Some same, subst (λ x. is_among had x ≡ false) same f)
]) refl e

-- what words give is new, and comes once
pub fresh-once : (had : List (List ℕ)) (form : SerialForm) (words : List ℕ) → AreDistinct had → AreDistinct (had ++ fresh had form words)
unfolding next_fresh
fresh-once had form [] once = subst AreDistinct (sym (append-nil had)) once
fresh-once had form (w ∷ words) once =
    subst (λ (xs : List (List ℕ)). AreDistinct (had ++ xs)) (sym (fresh-cons had form w words))
    ((elim (unless_among had (candidate form w)) as (λ o. unless_among had (candidate form w) ≡ o → AreDistinct (had ++ next_fresh had form words o)) [
      | None ↦ λ e. fresh-once had form words once
      | Some s ↦ λ e.
          let absent : is_among had s ≡ false = (given had (candidate form w) s e).1 in
          subst AreDistinct (append_assoc had (s ∷ []) (fresh (had ++ s ∷ []) form words)) (fresh-once (had ++ s ∷ []) form words (IsDistinct-push nat_list_eq_equiv had s once absent))
    ]) refl)

not_false : (b : Bool) → not b ≡ true → b ≡ false
not_false true e = absurd cc
not_false false e = refl

pub fresh-unknown : (had : List (List ℕ)) (form : SerialForm) (words : List ℕ) → All (λ s. is_among had s ≡ false) (fresh had form words)
fresh-unknown had form words =
    All-weaker (λ x. not (is_among had x) ≡ true) (λ x. is_among had x ≡ false) (λ x e. not_false (is_among had x) e) (fresh had form words)
    (filter_passes (λ x. not (is_among had x)) (firsts (filter_map (candidate form) words)))

candidate_is : (form : SerialForm) (word : ℕ) (s : List ℕ) → candidate form word ≡ Some s → is_in_form form s ≡ true
candidate_is form word s = elim (nat_lt word (words_end form)) as (λ b. (if b then Some (text_in form (word % form_size form)) else None) ≡ Some s → is_in_form form s ≡ true) [
  | true ↦ λ e. let same : text_in form (word % form_size form) ≡ s = cc in subst (λ x. is_in_form form x ≡ true) same (is_in_form-text_in form (word % form_size form))
  | false ↦ λ e. absurd cc
]

pub fresh-serials : (had : List (List ℕ)) (form : SerialForm) (words : List ℕ) → All (λ s. is_in_form form s ≡ true) (fresh had form words)
unfolding next_fresh
fresh-serials had form [] = All-nil (λ x. is_in_form form x ≡ true)
fresh-serials had form (w ∷ words) =
    subst (All (λ s. is_in_form form s ≡ true)) (sym (fresh-cons had form w words))
    ((elim (unless_among had (candidate form w)) as (λ o. unless_among had (candidate form w) ≡ o → All (λ s. is_in_form form s ≡ true) (next_fresh had form words o)) [
      | None ↦ λ e. fresh-serials had form words
      | Some s ↦ λ e. All-cons (λ x. is_in_form form x ≡ true) s (fresh (had ++ s ∷ []) form words) (candidate_is form w s (given had (candidate form w) s e).0) (fresh-serials (had ++ s ∷ []) form words)
    ]) refl)
