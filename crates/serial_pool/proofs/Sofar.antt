-- A draw that isn't done: the words so far, and the serials that they gave.
use Rattle.std.proofs.Common.{◌≡◌, ◌≤◌, ◌<◌, ℕ, ◌+◌, List, [], ◌∷◌, ◌++◌, length, take, arith, sym, ◌∙◌, ap, refl, append-nil, subst, Option, ⊎_elim, Some, None}
use Rattle.std.specs.Io.KnownBytes.{Consumes}
use Rattle.std.proofs.KnownBytes.{Consumes-nil, Consumes-trans}
use Rattle.std.proofs.lemmas.List.{take_all, take-append-le, length_push}
use Rattle.std.proofs.lemmas.Bool.{cases_lt}
use Rattle.gs1_keys.specs.declared.form.SerialForm.{SerialForm}
use Rattle.serial_pool.specs.Drawing.{candidate, unless_among, fresh}
use Rattle.serial_pool.proofs.Fresh.{fresh-push, listed, listed-None, listed-Some}

pub record Sofar (old new : Option (List ℕ)) (had : List (List ℕ)) (form : SerialForm) (count : ℕ) (serials : List (List ℕ)) (number : ℕ) : Type 0 where
  pub taken : List ℕ
  pub from : Consumes old new taken
  pub size : length taken ≡ number
  pub made : fresh had form taken ≡ serials
  pub needed : (k : ℕ) → k < length taken → length (fresh had form (take k taken)) < count

pub none_yet : (old : Option (List ℕ)) (had : List (List ℕ)) (form : SerialForm) (count : ℕ) → Sofar old old had form count [] 0
none_yet old had form count = record { taken = []; from = Consumes-nil old; size = refl; made = refl; needed = λ k h. absurd (omega arith) }

-- each front of the words and one more falls short, where the words do
still_needed : (had : List (List ℕ)) (form : SerialForm) (taken : List ℕ) (count word : ℕ) → length (fresh had form taken) < count → ((k : ℕ) → k < length taken → length (fresh had form (take k taken)) < count)
    → (k : ℕ) → k < length (taken ++ word ∷ []) → length (fresh had form (take k (taken ++ word ∷ []))) < count
still_needed had form taken count word few needed k h =
    let le : k ≤ length taken = omega (arith, length_push taken word) in
    let same : take k (taken ++ word ∷ []) ≡ take k taken = rw take-append-le refl in
    subst (λ (xs : List ℕ). length (fresh had form xs) < count) (sym same)
    (⊎_elim (λ lt. needed k lt) (λ ge. subst (λ (xs : List ℕ). length (fresh had form xs) < count) (sym (take_all k taken ge)) few) (cases_lt k (length taken)))

-- one word more
one_more : (old mid new : Option (List ℕ)) (had : List (List ℕ)) (form : SerialForm) (count : ℕ) (serials : List (List ℕ)) (number word : ℕ) (next : Option (List ℕ))
    → Sofar old mid had form count serials number → Consumes mid new (word ∷ []) → length serials < count
    → next ≡ unless_among (had ++ serials) (candidate form word) → Sofar old new had form count (serials ++ listed next) (number + 1)
one_more old mid new had form count serials number word next s from few e =
    record {
      taken = s.taken ++ word ∷ [];
      from = Consumes-trans old mid new s.taken (word ∷ []) s.from from;
      size = length_push s.taken word ∙ ap (λ n. n + 1) s.size;
      made = fresh-push had form s.taken word
          ∙ ap (λ (xs : List (List ℕ)). xs ++ listed (unless_among (had ++ xs) (candidate form word))) s.made
          ∙ ap (λ (o : Option (List ℕ)). serials ++ listed o) (sym e);
      needed = still_needed had form s.taken count word (subst (λ (xs : List (List ℕ)). length xs < count) (sym s.made) few) s.needed;
    }

-- a word that gave a serial
pub one_more_new : (old mid new : Option (List ℕ)) (had : List (List ℕ)) (form : SerialForm) (count : ℕ) (serials : List (List ℕ)) (number word : ℕ) (serial : List ℕ)
    → Sofar old mid had form count serials number → Consumes mid new (word ∷ []) → length serials < count
    → Some serial ≡ unless_among (had ++ serials) (candidate form word) → Sofar old new had form count (serials ++ serial ∷ []) (number + 1)
one_more_new old mid new had form count serials number word serial s from few e =
    subst (λ (xs : List (List ℕ)). Sofar old new had form count (serials ++ xs) (number + 1)) (listed-Some serial)
    (one_more old mid new had form count serials number word (Some serial) s from few e)

-- a word that gave none
pub one_more_old : (old mid new : Option (List ℕ)) (had : List (List ℕ)) (form : SerialForm) (count : ℕ) (serials : List (List ℕ)) (number word : ℕ)
    → Sofar old mid had form count serials number → Consumes mid new (word ∷ []) → length serials < count
    → None ≡ unless_among (had ++ serials) (candidate form word) → Sofar old new had form count serials (number + 1)
one_more_old old mid new had form count serials number word s from few e =
    subst (λ (xs : List (List ℕ)). Sofar old new had form count xs (number + 1)) (ap (λ (xs : List (List ℕ)). serials ++ xs) listed-None ∙ append-nil serials)
    (one_more old mid new had form count serials number word None s from few e)

-- a word whose serial found no room
pub one_more_any : (old mid new : Option (List ℕ)) (had : List (List ℕ)) (form : SerialForm) (count : ℕ) (serials : List (List ℕ)) (number word limit : ℕ)
    → Sofar old mid had form count serials number → Consumes mid new (word ∷ []) → number < limit
    → (taken : List ℕ) × Consumes old new taken × (length taken ≤ limit)
one_more_any old mid new had form count serials number word limit s from few =
    (s.taken ++ word ∷ [], Consumes-trans old mid new s.taken (word ∷ []) s.from from, omega (arith, length_push s.taken word, s.size))
