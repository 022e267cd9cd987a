-- The reply to a request names stations of the setup alone.
use Rattle.std.proofs.Common.{◌≡◌, ◌⊎◌, ◌++◌, ◌∷◌, [], ℕ, List, inl, inr, sym, ap, subst}
use Rattle.std.specs.Prelude.{All}
use Rattle.deed_words.specs.Setups.{Setup}
use Rattle.deed_words.specs.History.{IsLawful, world_of}
use Rattle.deed_words.specs.Numbers.{Means, Kept}
use Rattle.deed_words.specs.Proper.{IsProperEntry}
use Rattle.deed_words.specs.Replies.{reply_to}
use Rattle.deed_words.specs.declared.deed.Deed.{Deed}
use Rattle.deed_words.specs.declared.entry.Ask.{Ask}
use Rattle.deed_words.specs.declared.entry.Entry.{Entry}
use Rattle.deed_words.specs.declared.entry.FaultKind.TheVariants as kind
use Rattle.deed_words.specs.declared.reply.Reply.{Reply}
use Rattle.deed_json.specs.Replies.{NamesStationsOf}
use Rattle.site_store.specs.declared.outcome.Outcome.{Outcome}
use Rattle.site_store.specs.declared.outcome.Outcome.TheVariants.{Replied, NumberReused, NumberGap, DiskFault, ClockFault, ClockRange, WordsFault, WordsSpent, JournalFull, Memory}
use Rattle.site_store.specs.Moved.{Taken}
use Rattle.site_store.specs.Noting.{Noted, fault}
use Rattle.site_store.specs.One.{Answers, Steps}
use Rattle.site_store.specs.States.{State, all_of}
use Rattle.site_console.specs.Answers.{IsPrintableOutcome}
use Rattle.site_console.specs.Turns.{TurnsTo}

-- what a number of a station has kept names stations of the setup alone
abbrev pub NamesStations : Type 0
NamesStations = (site : Setup) (history : List Entry) (station number : ℕ) (deed : Deed) (reply : Reply) → IsLawful site history → All IsProperEntry history → Means site history station number deed (Kept reply) → NamesStationsOf site reply

-- each entry of a lawful history is kept with the reply that it got
abbrev pub KeepsReplies : Type 0
KeepsReplies = (site : Setup) (front more : List Entry) (entry : Entry) → IsLawful site (front ++ entry ∷ more) → Means site (front ++ entry ∷ more) entry.station entry.number entry.deed (Kept (reply_to site (world_of site front) entry))

-- no reply is given where a mend failed
unmended : (reply : Reply) (worker : ℕ) (notes : List Noted) → ((Replied reply ≡ DiskFault) × (notes ≡ fault kind.Disk worker [])) ⊎ ((Replied reply ≡ Memory) × (notes ≡ [])) → ⊥
unmended reply worker notes (inl failed) = let e = failed.0 in cc
unmended reply worker notes (inr wants) = let e = wants.0 in cc

module _ (names : NamesStations) (replies : KeepsReplies) where
  -- a reply that was kept, now or before
  answered_fits : (site : Setup) (end : ℕ) (g : List Entry) (worker : ℕ) (ask : Ask) (taken : Taken) (reply : Reply) (new : State) (more : List Noted) → IsLawful site new.history → All IsProperEntry new.history
      → Answers site end g worker ask taken (Replied reply) new more → NamesStationsOf site reply
  answered_fits site end g worker ask taken reply new more lawful proper (inl found) =
      let h : new.history ≡ g = ap (λ (s : State). s.history) found.1.state in
      names site g ask.station ask.number ask.deed reply (subst (λ (l : List Entry). IsLawful site l) h lawful) (subst (λ (l : List Entry). All IsProperEntry l) h proper) found.0.means
  answered_fits site end g worker ask taken reply new more lawful proper (inr acts) =
      let h : new.history ≡ g ++ acts.entry ∷ [] = ap (λ (s : State). s.history) acts.state in
      let e = acts.entry in
      let is_lawful = subst (λ (l : List Entry). IsLawful site l) h lawful in
      subst (NamesStationsOf site) (sym acts.reply_is)
      (names site (g ++ e ∷ []) e.station e.number e.deed (reply_to site (world_of site g) e) is_lawful (subst (λ (l : List Entry). All IsProperEntry l) h proper) (replies site g [] e is_lawful))

  steps_fit : (site : Setup) (end : ℕ) (old : State) (worker : ℕ) (ask : Ask) (taken : Taken) (outcome : Outcome) (new : State) (notes : List Noted) → IsLawful site new.history → All IsProperEntry new.history
      → Steps site end old worker ask taken outcome new notes → IsPrintableOutcome site outcome
  steps_fit site end old worker ask taken (Replied reply) new notes lawful proper (inl un) = absurd (unmended reply worker notes un.told)
  steps_fit site end old worker ask taken (Replied reply) new notes lawful proper (inr m) = answered_fits site end (all_of old) worker ask taken reply new m.more lawful proper m.answers
  steps_fit site end old worker ask taken NumberReused new notes lawful proper steps = tt
  steps_fit site end old worker ask taken (NumberGap last) new notes lawful proper steps = tt
  steps_fit site end old worker ask taken DiskFault new notes lawful proper steps = tt
  steps_fit site end old worker ask taken ClockFault new notes lawful proper steps = tt
  steps_fit site end old worker ask taken (ClockRange ms) new notes lawful proper steps = tt
  steps_fit site end old worker ask taken WordsFault new notes lawful proper steps = tt
  steps_fit site end old worker ask taken (WordsSpent found) new notes lawful proper steps = tt
  steps_fit site end old worker ask taken (JournalFull told asked) new notes lawful proper steps = tt
  steps_fit site end old worker ask taken Memory new notes lawful proper steps = tt

  pub turned_fits : (site site' : Setup) (old : State) (ask : Ask) (taken : Taken) (outcome : Outcome) (new : State) → site' ≡ site → IsLawful site' new.history → All IsProperEntry new.history → TurnsTo site old ask taken outcome new → IsPrintableOutcome site' outcome
  turned_fits site site' old ask taken outcome new same lawful proper turns =
      steps_fit site' turns.end old 0 ask taken outcome new turns.notes lawful proper (subst (λ (s : Setup). Steps s turns.end old 0 ask taken outcome new turns.notes) (sym same) turns.step)
