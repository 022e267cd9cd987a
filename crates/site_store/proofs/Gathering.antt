-- A group goes on by one request.
use Rattle.std.proofs.Common.{◌≡◌, ◌∙◌, ◌≢◌, ◌≤◌, ◌+◌, ◌⊎◌, inl, inr, ℕ, zero, suc, List, [], ◌∷◌, ◌++◌, length, Option, refl, sym, subst, ap, arith, append_assoc}
use Rattle.std.proofs.lemmas.List.{length-append, map_push}
use Rattle.std.specs.Io.KnownBytes.{Consumes}
use Rattle.std.proofs.KnownBytes.{Consumes-nil, Consumes-trans}
use Rattle.deed_words.specs.Setups.{Setup}
use Rattle.deed_words.specs.declared.entry.Ask.{Ask}
use Rattle.deed_words.specs.declared.entry.Entry.{Entry}
use Rattle.site_store.specs.declared.outcome.Outcome.{Outcome}
use Rattle.site_store.specs.declared.outcome.Outcome.TheVariants.{DiskFault}
use Rattle.site_store.specs.Going.{IsGoing, lost_after}
use Rattle.site_store.specs.Moved.{Taken}
use Rattle.site_store.specs.Noting.{Noted, dones}
use Rattle.site_store.specs.Steps.{Try, Tries, asks_in, outcomes_in, new_in, taken_in, lost_in, notes_in, faults_told}
use Rattle.site_store.specs.Tried.{Tried}
use Rattle.site_store.proofs.Tries.{new_push, tries_push, notes_push, moments_push, words_push, all_stand, lost_more, lost_first}

-- all of them stand
kept_all : (outcomes : List Outcome) → lost_after (length outcomes) outcomes ≡ outcomes
kept_all [] = refl
kept_all (o ∷ outcomes) = ap (λ (l : List Outcome). o ∷ l) (kept_all outcomes)

-- one more is lost
lost_push : (kept : ℕ) (outcomes : List Outcome) (o : Outcome) → kept ≤ length outcomes → lost_after kept (outcomes ++ o ∷ []) ≡ lost_after kept outcomes ++ DiskFault ∷ []
lost_push zero outcomes o fits = map_push (λ (u : Outcome). DiskFault) outcomes o
lost_push (suc kept) [] o fits = absurd (omega (arith, fits))
lost_push (suc kept) (p ∷ outcomes) o fits = ap (λ (l : List Outcome). p ∷ l) (lost_push kept outcomes o (omega (arith, fits)))

none_of : (xs ys : List Entry) → xs ++ ys ≡ [] → (xs ≡ []) × (ys ≡ [])
none_of [] ys is = (refl, is)
none_of (x ∷ xs) ys is = absurd (cc)

none_or : (xs : List Entry) → (xs ≡ []) ⊎ (xs ≢ [])
none_or [] = inl refl
none_or (x ∷ xs) = inr (λ is. absurd (cc))

outcomes_long : (ts : List Try) → length (outcomes_in ts) ≡ length ts
outcomes_long [] = refl
outcomes_long (t ∷ ts) = ap (λ (n : ℕ). suc n) (outcomes_long ts)

-- the place from which answers are lost, after one request more
kept_on : (ts : List Try) (t : Try) (kept kept' : ℕ) → kept ≤ length ts → lost_in ts ≡ lost_after kept (outcomes_in ts) → (new_in ts ≡ [] → kept ≡ length ts) → (new_in (ts ++ t ∷ []) ≡ [] → kept' ≡ length ts + 1) → (new_in (ts ++ t ∷ []) ≢ [] → kept' ≡ kept)
    → lost_in (ts ++ t ∷ []) ≡ lost_after kept' (outcomes_in (ts ++ t ∷ []))
kept_on ts t kept kept' fits was none if_none if_some = by_new (none_or (new_in (ts ++ t ∷ []))) (none_or (new_in ts))
  where
    push : outcomes_in (ts ++ t ∷ []) ≡ outcomes_in ts ++ t.outcome ∷ []
    push = map_push (λ (u : Try). u.outcome) ts t

    long : length (outcomes_in (ts ++ t ∷ [])) ≡ length ts + 1
    long = outcomes_long (ts ++ t ∷ []) ∙ length-append ts (t ∷ [])

    later : kept' ≡ kept → lost_in (ts ++ t ∷ []) ≡ lost_after kept (outcomes_in ts) ++ DiskFault ∷ [] → lost_in (ts ++ t ∷ []) ≡ lost_after kept' (outcomes_in (ts ++ t ∷ []))
    later same lost =
        lost ∙ sym (lost_push kept (outcomes_in ts) t.outcome (let l = outcomes_long ts in omega (arith, fits, l))) ∙ ap (λ (l : List Outcome). lost_after kept l) (sym push) ∙ ap (λ (k : ℕ). lost_after k (outcomes_in (ts ++ t ∷ []))) (sym same)

    first : new_in ts ≡ [] → lost_after kept (outcomes_in ts) ≡ outcomes_in ts
    first is = ap (λ (k : ℕ). lost_after k (outcomes_in ts)) (none is ∙ sym (outcomes_long ts)) ∙ kept_all (outcomes_in ts)

    not_new : new_in ts ≡ [] → (new_in (ts ++ t ∷ []) ≡ [] → ⊥) → t.new ≢ []
    not_new is never empty = never (new_push ts t ∙ ap (λ (l : List Entry). l ++ t.new) is ∙ empty)

    by_new : (new_in (ts ++ t ∷ []) ≡ []) ⊎ (new_in (ts ++ t ∷ []) ≢ []) → (new_in ts ≡ []) ⊎ (new_in ts ≢ []) → lost_in (ts ++ t ∷ []) ≡ lost_after kept' (outcomes_in (ts ++ t ∷ []))
    by_new (inl nothing) before = all_stand (ts ++ t ∷ []) nothing ∙ sym (kept_all (outcomes_in (ts ++ t ∷ []))) ∙ ap (λ (k : ℕ). lost_after k (outcomes_in (ts ++ t ∷ []))) (long ∙ sym (if_none nothing))
    by_new (inr some) (inl before) = later (if_some some) (lost_first ts t before (not_new before some) ∙ ap (λ (l : List Outcome). l ++ DiskFault ∷ []) (sym (first before)))
    by_new (inr some) (inr before) = later (if_some some) (lost_more ts t before ∙ ap (λ (l : List Outcome). l ++ DiskFault ∷ []) was)

pub going_start : (site : Setup) (end : ℕ) (g : List Entry) (worker : ℕ) (asks rest : List Ask) (outcomes : List Outcome) (front : List Entry) (noted : List Noted) (clock words : Option (List ℕ)) → rest ≡ asks → outcomes ≡ [] → front ≡ [] → noted ≡ [] → IsGoing site end g worker asks rest outcomes front noted 0 clock clock words words
going_start site end g worker asks rest outcomes front noted clock words rest_is outcomes_is front_is noted_is = record {
  tries = [];
  are = tt;
  asks_are = rest_is;
  outcomes_are = outcomes_is;
  front_is = front_is;
  notes_are = noted_is;
  clock = Consumes-nil clock;
  words = Consumes-nil words;
  kept_fits = omega arith;
  none = λ _. refl;
  lost_is = ap (λ (l : List Outcome). lost_after 0 l) (sym outcomes_is);
}

pub going_on : (site : Setup) (end : ℕ) (g h h' : List Entry) (worker : ℕ) (asks rest rest' : List Ask) (ask : Ask) (outcomes outcomes' : List Outcome) (outcome : Outcome) (front front' : List Entry) (noted noted' : List Noted) (kept kept' : ℕ) (c0 c1 c2 w0 w1 w2 : Option (List ℕ)) (taken : Taken)
    → IsGoing site end g worker asks rest outcomes front noted kept c0 c1 w0 w1 → rest ≡ ask ∷ rest' → h ≡ g ++ front → Tried site end h h' front front' noted noted' worker ask taken outcome → Consumes c1 c2 taken.moments → Consumes w1 w2 taken.words → outcomes' ≡ outcomes ++ outcome ∷ []
    → (front' ≡ [] → kept' ≡ length outcomes + 1) → (front' ≢ [] → kept' ≡ kept) → IsGoing site end g worker asks rest' outcomes' front' noted' kept' c0 c2 w0 w2
going_on site end g h h' worker asks rest rest' ask outcomes outcomes' outcome front front' noted noted' kept kept' c0 c1 c2 w0 w1 w2 taken was rest_is h_is tried clock words outcomes_is if_none if_some =
    let t : Try = record { ask = ask; taken = taken; outcome = outcome; new = tried.new } in
    let ts = was.tries in
    let tries1 : Tries site end (g ++ new_in ts) front worker ask taken outcome tried.new = subst (λ (l : List Entry). Tries site end l front worker ask taken outcome tried.new) (h_is ∙ ap (λ (l : List Entry). g ++ l) was.front_is) tried.tries in
    let tries2 : Tries site end (g ++ new_in ts) (new_in ts) worker ask taken outcome tried.new = subst (λ (l : List Entry). Tries site end (g ++ new_in ts) l worker ask taken outcome tried.new) was.front_is tries1 in
    let long : length h ≡ length g + length (new_in ts) = ap (λ (l : List Entry). length l) (h_is ∙ ap (λ (l : List Entry). g ++ l) was.front_is) ∙ length-append g (new_in ts) in
    let front_is : front' ≡ new_in (ts ++ t ∷ []) = tried.front_is ∙ ap (λ (l : List Entry). l ++ tried.new) was.front_is ∙ sym (new_push ts t) in
    let count : length outcomes ≡ length ts = ap (λ (l : List Outcome). length l) was.outcomes_are ∙ outcomes_long ts in
    let more : length (ts ++ t ∷ []) ≡ length ts + 1 = length-append ts (t ∷ []) in
    let outcomes_are : outcomes' ≡ outcomes_in (ts ++ t ∷ []) = outcomes_is ∙ ap (λ (l : List Outcome). l ++ outcome ∷ []) was.outcomes_are ∙ sym (map_push (λ (u : Try). u.outcome) ts t) in
    let lost = kept_on ts t kept kept' was.kept_fits (was.lost_is ∙ ap (λ (l : List Outcome). lost_after kept l) was.outcomes_are) (λ none. was.none (was.front_is ∙ none)) (λ none. if_none (front_is ∙ none) ∙ ap (λ (n : ℕ). n + 1) count) (λ some. if_some (λ none. some (sym front_is ∙ none))) in
    record {
      tries = ts ++ t ∷ [];
      are = tries_push site end g [] worker ts t was.are tries2;
      asks_are = ap (λ (l : List Ask). l ++ rest') (map_push (λ (u : Try). u.ask) ts t) ∙ append_assoc (asks_in ts) (ask ∷ []) rest' ∙ ap (λ (l : List Ask). asks_in ts ++ l) (sym rest_is) ∙ was.asks_are;
      outcomes_are = outcomes_are;
      front_is = front_is;
      notes_are = tried.noted_is ∙ ap (λ (l : List Noted). l ++ (faults_told worker outcome ++ dones worker (length h) tried.new)) was.notes_are ∙ ap (λ (n : ℕ). notes_in worker (length g) ts ++ (faults_told worker outcome ++ dones worker n tried.new)) long ∙ sym (notes_push worker (length g) ts t);
      clock = subst (λ (l : List ℕ). Consumes c0 c2 l) (sym (moments_push ts t)) (Consumes-trans c0 c1 c2 (taken_in ts).moments taken.moments was.clock clock);
      words = subst (λ (l : List ℕ). Consumes w0 w2 l) (sym (words_push ts t)) (Consumes-trans w0 w1 w2 (taken_in ts).words taken.words was.words words);
      kept_fits = fits_by (none_or front') count more;
      none = λ none. if_none none ∙ ap (λ (n : ℕ). n + 1) count ∙ sym more;
      lost_is = lost ∙ ap (λ (l : List Outcome). lost_after kept' l) (sym outcomes_are);
    }
  where
    fits_by : (front' ≡ []) ⊎ (front' ≢ []) → length outcomes ≡ length was.tries → length (was.tries ++ (record { ask = ask; taken = taken; outcome = outcome; new = tried.new }) ∷ []) ≡ length was.tries + 1 → kept' ≤ length (was.tries ++ (record { ask = ask; taken = taken; outcome = outcome; new = tried.new }) ∷ [])
    fits_by (inl none) count more = let is = if_none none in omega (arith, is, count, more)
    fits_by (inr some) count more = let is = if_some some in let fits = was.kept_fits in omega (arith, is, fits, more)
