-- How many calls of the disk were made.
use Rattle.std.proofs.Common.{◌≡◌, ◌∙◌, ◌≢◌, ◌⊎◌, ⊎_elim, inl, inr, ℕ, Bool, true, false, true≢false, List, [], ◌∷◌, ◌++◌, length, Option, Some, None, IsSome, refl, sym, subst, ap, arith}
use Rattle.std.proofs.lemmas.List.{length-append}
use Rattle.deed_words.specs.declared.entry.Entry.{Entry}
use Rattle.outside.specs.Disks.{two_calls_more, OneOrTwoCalls}
use Rattle.site_core.specs.View.{View}
use Rattle.site_core.specs.declared.planned.Planned.{Planned}
use Rattle.site_store.specs.Calls.{mended_calls, AppendCalls, StepCalls}
use Rattle.site_store.specs.Images.{Extends}
use Rattle.site_store.specs.Standing.{IsSound, StandsAs, entries_of, state_of}
use Rattle.site_store.specs.States.{State, all_of, settled}
use Rattle.site_store.proofs.Finishing.{some_entries}

short : (entries : List Entry) → length entries ≡ 0 → entries ≡ []
short [] is = refl
short (entry ∷ entries) is = absurd (omega (arith, is))

-- a history with more behind it is another one
longer : (g more : List Entry) → more ≢ [] → g ++ more ≡ g → ⊥
longer g more some is =
    let long = length-append g more in
    let same = ap (λ (l : List Entry). length l) is in
    some (short more (omega (arith, long, same)))

-- ---- of the append

pub no_calls : (g : List Entry) (failed : Bool) (new : State) (before now : Option ℕ) → failed ≡ false → new ≡ settled g → now ≡ before → AppendCalls g failed new before now
no_calls g failed new before now quiet state same = record {
  none = λ _ _. same;
  written = λ _ other. absurd (other (ap (λ (s : State). s.history) state));
  first_two = λ fault _. absurd (true≢false (sym fault ∙ quiet));
  last_two = λ fault _. absurd (true≢false (sym fault ∙ quiet));
}

pub all_calls : (g more : List Entry) (failed : Bool) (new : State) (before now : Option ℕ) → failed ≡ false → more ≢ [] → new.history ≡ g ++ more → now ≡ two_calls_more (two_calls_more before) → AppendCalls g failed new before now
all_calls g more failed new before now quiet some history made = record {
  none = λ _ same. absurd (longer g more some (sym history ∙ same));
  written = λ _ _. made;
  first_two = λ fault _. absurd (true≢false (sym fault ∙ quiet));
  last_two = λ fault _. absurd (true≢false (sym fault ∙ quiet));
}

pub lost_calls : (g : List Entry) (view : View) (pending committed : List Planned) (jp : Option ℕ) (before now : Option ℕ) → committed ≢ [] → ((pending ≡ []) × (jp ≡ None)) ⊎ ((pending ≡ committed) × IsSome jp)
    → (jp ≡ None → OneOrTwoCalls before now) → (IsSome jp → OneOrTwoCalls (two_calls_more before) now) → AppendCalls g true (state_of view pending) before now
lost_calls g view pending committed jp before now some (inl none) first last = record {
  none = λ fine _. absurd (true≢false fine);
  written = λ fine _. absurd (true≢false fine);
  first_two = λ _ _. first none.1;
  last_two = λ _ any. absurd (any (ap entries_of none.0));
}
lost_calls g view pending committed jp before now some (inr there) first last = record {
  none = λ fine _. absurd (true≢false fine);
  written = λ fine _. absurd (true≢false fine);
  first_two = λ _ empty. absurd (some_entries committed some (ap entries_of (sym there.0) ∙ empty));
  last_two = λ _ _. last there.1;
}

pub calls_are : (g g' : List Entry) (failed failed' : Bool) (new : State) (before before' now : Option ℕ) → AppendCalls g failed new before now → g' ≡ g → failed' ≡ failed → before' ≡ before → AppendCalls g' failed' new before' now
calls_are g g' failed failed' new before before' now was g_is failed_is before_is =
    subst (λ (h : List Entry). AppendCalls h failed' new before' now) (sym g_is)
    (subst (λ (b : Bool). AppendCalls g b new before' now) (sym failed_is) (subst (λ (n : Option ℕ). AppendCalls g failed new n now) (sym before_is) was))

-- ---- of the mend

pub mend_calls : (image : List ℕ → Type 0) (end : ℕ) (jp : Option ℕ) (view : View) (ps : List Planned) (spare : ℕ) → IsSound image end jp view ps spare → (before now : Option ℕ) → (jp ≡ None → now ≡ before) → ((n : ℕ) → jp ≡ Some n → now ≡ two_calls_more before) → now ≡ mended_calls (entries_of ps) before
mend_calls image end jp view ps spare sound before now none some = by_pending (entries_of ps) sound.kept.stands
  where
    by_pending : (group : List Entry) → StandsAs image end jp sound.kept.site_bytes sound.kept.payloads group → now ≡ mended_calls group before
    by_pending [] stands = none stands.settled
    by_pending (entry ∷ entries) stands = some _ stands.2.behind

-- ---- of a step

pub unmended_calls : (old new : State) (failed : Bool) (before now : Option ℕ) → old.pending ≢ [] → new ≡ old → OneOrTwoCalls before now → StepCalls old failed new before now
unmended_calls old new failed before now some same made = record {
  unmended = λ _ _. made;
  mended = λ either. absurd (⊎_elim (λ none. some none) (λ other. other same) either);
}

-- a step that went on put what was pending into the history
went_on : (old new : State) → old.pending ≢ [] → new ≡ old → Extends (all_of old) new.history → ⊥
went_on old new some same grows =
    let is = ap (λ (l : List Entry). length l) grows.1 in
    let was = ap (λ (s : State). length s.history) same in
    let both = length-append (all_of old) grows.0 in
    let all = length-append old.history old.pending in
    some (short old.pending (omega (arith, is, was, both, all)))

pub step_calls : (old was new : State) (failed : Bool) (before between now : Option ℕ) → was ≡ settled (all_of old) → between ≡ mended_calls old.pending before → Extends was.history new.history → AppendCalls was.history failed new between now → StepCalls old failed new before now
step_calls old was new failed before between now was_is between_is grows made =
    let all : was.history ≡ all_of old = ap (λ (s : State). s.history) was_is in
    record {
      unmended = λ some same. absurd (went_on old new some same (subst (λ (h : List Entry). Extends h new.history) all grows));
      mended = λ _. calls_are was.history (all_of old) failed failed new between (mended_calls old.pending before) now made (sym all) refl (sym between_is);
    }
