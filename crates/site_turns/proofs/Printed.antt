-- The replies to the requests of a step name stations of the site alone.
use Rattle.std.proofs.Common.{◌≡◌, ◌∙◌, ◌⊎◌, ◌++◌, ◌∷◌, [], ℕ, List, map, inl, inr, ⊎_elim, refl, sym, ap, subst, append_assoc, append-nil}
use Rattle.std.specs.Prelude.{All}
use Rattle.std.specs.List.{AllByRecursion as Every}
use Rattle.deed_words.specs.Setups.{Setup}
use Rattle.deed_words.specs.History.{IsLawful}
use Rattle.deed_words.specs.Numbers.{Means, Kept}
use Rattle.deed_words.specs.Proper.{IsProperEntry}
use Rattle.deed_words.specs.declared.deed.Deed.{Deed}
use Rattle.deed_words.specs.declared.entry.Ask.{Ask}
use Rattle.deed_words.specs.declared.entry.Entry.{Entry}
use Rattle.deed_words.specs.declared.reply.Reply.{Reply}
use Rattle.deed_json.specs.Replies.{NamesStationsOf}
use Rattle.site_store.specs.declared.outcome.Outcome.{Outcome}
use Rattle.site_store.specs.declared.outcome.Outcome.TheVariants.{Replied, NumberReused, NumberGap, DiskFault, ClockFault, ClockRange, WordsFault, WordsSpent, JournalFull, Memory}
use Rattle.site_store.specs.Moved.{Taken}
use Rattle.site_store.specs.Noting.{Noted}
use Rattle.site_store.specs.States.{State, all_of}
use Rattle.site_store.specs.Steps.{Answers, AreTries, Lost, Mended, Steps, Tries, Try, Unmended, Written, lost_from, lost_in, new_in, outcomes_in}
use Rattle.site_turns.specs.Outcomes.{IsPrintable}
use Rattle.site_turns.proofs.KeptReplies.{KeepsReplies, StaysKept, one_kept}

-- what a number of a station has kept names stations of the setup alone
abbrev pub NamesStations : Type 0
NamesStations = (site : Setup) (history : List Entry) (station number : ℕ) (deed : Deed) (reply : Reply) → IsLawful site history → All IsProperEntry history → Means site history station number deed (Kept reply) → NamesStationsOf site reply

-- the same refusal of each tells no reply
all_disk : {X : Type 0} (site : Setup) (xs : List X) → Every (IsPrintable site) (map (λ (x : X). DiskFault) xs)
all_disk site [] = tt
all_disk site (x ∷ xs) = (tt, all_disk site xs)

all_memory : {X : Type 0} (site : Setup) (xs : List X) → Every (IsPrintable site) (map (λ (x : X). Memory) xs)
all_memory site [] = tt
all_memory site (x ∷ xs) = (tt, all_memory site xs)

module _ (names : NamesStations) (replies : KeepsReplies) (stays : StaysKept) (site : Setup) (history : List Entry) (lawful : IsLawful site history) (proper : All IsProperEntry history) where
  -- a request whose new entry, if it has one, is in the history
  one_fits : (end : ℕ) (g front : List Entry) (worker : ℕ) (ask : Ask) (taken : Taken) (outcome : Outcome) (new more : List Entry) → history ≡ g ++ (new ++ more) → Tries site end g front worker ask taken outcome new → IsPrintable site outcome
  one_fits end g front worker ask taken (Replied reply) new more parts tries =
      names site history ask.station ask.number ask.deed reply lawful proper (one_kept replies stays site history lawful end g front worker ask taken (Replied reply) new more parts tries).0
  one_fits end g front worker ask taken NumberReused new more parts tries = tt
  one_fits end g front worker ask taken (NumberGap last) new more parts tries = tt
  one_fits end g front worker ask taken DiskFault new more parts tries = tt
  one_fits end g front worker ask taken ClockFault new more parts tries = tt
  one_fits end g front worker ask taken (ClockRange ms) new more parts tries = tt
  one_fits end g front worker ask taken WordsFault new more parts tries = tt
  one_fits end g front worker ask taken (WordsSpent found) new more parts tries = tt
  one_fits end g front worker ask taken (JournalFull told asked) new more parts tries = tt
  one_fits end g front worker ask taken Memory new more parts tries = tt

  -- all that is new is in the history
  tries_fit : (end : ℕ) (g front : List Entry) (worker : ℕ) (ts : List Try) → history ≡ g ++ new_in ts → AreTries site end g front worker ts → Every (IsPrintable site) (outcomes_in ts)
  tries_fit end g front worker [] parts are = tt
  tries_fit end g front worker (t ∷ ts) parts are = (
    one_fits end g front worker t.ask t.taken t.outcome t.new (new_in ts) parts are.0,
    tries_fit end (g ++ t.new) (front ++ t.new) worker ts (parts ∙ sym (append_assoc g t.new (new_in ts))) are.1,
  )

  -- none of it is
  lost_one : (end : ℕ) (g front : List Entry) (worker : ℕ) (ask : Ask) (taken : Taken) (outcome : Outcome) (new : List Entry) (ts : List Try) (later : List Outcome) → history ≡ g → Tries site end g front worker ask taken outcome new → (new ≡ [] → Every (IsPrintable site) later) → Every (IsPrintable site) (lost_from new outcome ts later)
  lost_one end g front worker ask taken outcome [] ts later parts tries rest = (one_fits end g front worker ask taken outcome [] [] (parts ∙ sym (append-nil g)) tries, rest refl)
  lost_one end g front worker ask taken outcome (entry ∷ entries) ts later parts tries rest = (tt, all_disk site ts)

  lost_fit : (end : ℕ) (g front : List Entry) (worker : ℕ) (ts : List Try) → history ≡ g → AreTries site end g front worker ts → Every (IsPrintable site) (lost_in ts)
  lost_fit end g front worker [] parts are = tt
  lost_fit end g front worker (t ∷ ts) parts are =
      lost_one end g front worker t.ask t.taken t.outcome t.new ts (lost_in ts) parts are.0
      (λ none. lost_fit end (g ++ t.new) (front ++ t.new) worker ts (parts ∙ sym (ap (λ (l : List Entry). g ++ l) none ∙ append-nil g)) are.1)

  comes_fit : (end : ℕ) (g : List Entry) (worker : ℕ) (ts : List Try) (outcomes : List Outcome) (new : State) (more : List Noted) → new.history ≡ history → AreTries site end g [] worker ts → Written g worker ts outcomes new more ⊎ Lost g worker ts outcomes new more → Every (IsPrintable site) outcomes
  comes_fit end g worker ts outcomes new more same are (inl written) =
      subst (Every (IsPrintable site)) (sym written.outcomes_are) (tries_fit end g [] worker ts (sym same ∙ ap (λ (s : State). s.history) written.state) are)
  comes_fit end g worker ts outcomes new more same are (inr lost) = subst (Every (IsPrintable site)) (sym lost.outcomes_are) (lost_fit end g [] worker ts (sym same ∙ lost.history) are)

  unmended_fit : (old : State) (worker : ℕ) (asks : List Ask) (taken : Taken) (outcomes : List Outcome) (new : State) (notes : List Noted) → Unmended old worker asks taken outcomes new notes → Every (IsPrintable site) outcomes
  unmended_fit old worker asks taken outcomes new notes un =
      ⊎_elim (λ disk. subst (Every (IsPrintable site)) (sym disk.0) (all_disk site asks)) (λ memory. subst (Every (IsPrintable site)) (sym memory.0) (all_memory site asks)) un.told

  pub steps_fit : (end : ℕ) (old : State) (worker : ℕ) (asks : List Ask) (taken : Taken) (outcomes : List Outcome) (new : State) (notes : List Noted) → new.history ≡ history → Steps site end old worker asks taken outcomes new notes → Every (IsPrintable site) outcomes
  steps_fit end old worker asks taken outcomes new notes same (inl un) = unmended_fit old worker asks taken outcomes new notes un
  steps_fit end old worker asks taken outcomes new notes same (inr m) = comes_fit end (all_of old) worker m.answers.tries outcomes new m.more same m.answers.are m.answers.comes
