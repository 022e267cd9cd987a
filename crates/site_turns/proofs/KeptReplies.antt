-- The replies that a step hands out are kept.
use Rattle.std.proofs.Common.{◌≡◌, ◌∙◌, ◌⊎◌, ◌++◌, ◌∷◌, [], ℕ, List, map, inl, inr, ⊎_elim, refl, sym, ap, subst, append_assoc, append-nil}
use Rattle.std.specs.List.{AllByRecursion as Every}
use Rattle.std.proofs.lemmas.List.{map-append}
use Rattle.deed_words.specs.Setups.{Setup}
use Rattle.deed_words.specs.History.{IsLawful, world_of}
use Rattle.deed_words.specs.Numbers.{Means, Kept}
use Rattle.deed_words.specs.Replies.{reply_to}
use Rattle.deed_words.specs.declared.deed.Deed.{Deed}
use Rattle.deed_words.specs.declared.entry.Ask.{Ask}
use Rattle.deed_words.specs.declared.entry.Entry.{Entry}
use Rattle.deed_words.specs.declared.reply.Reply.{Reply}
use Rattle.turn_desk.specs.Notes.{Begins}
use Rattle.turn_desk.specs.declared.view.Noted.{Noted}
use Rattle.turn_desk.specs.declared.view.Origin.{Origin}
use Rattle.site_store.proofs.Noted.{standing_on}
use Rattle.site_store.specs.declared.outcome.Outcome.{Outcome}
use Rattle.site_store.specs.declared.outcome.Outcome.TheVariants.{Replied, NumberReused, NumberGap, DiskFault, ClockFault, ClockRange, WordsFault, WordsSpent, JournalFull, Memory}
use Rattle.site_store.specs.Moved.{Taken}
use Rattle.site_store.specs.Noting as store
use Rattle.site_store.specs.States.{State, all_of}
use Rattle.site_store.specs.Steps.{Answers, AreTries, Lost, Mended, Steps, Tries, Try, Unmended, Written, asks_in, lost_from, lost_in, new_in, outcomes_in}
use Rattle.site_store.specs.Stops.{Answered, AllKept, IsKeptIn, handed_all, handed_by}
use Rattle.site_turns.specs.Answering.{Submits, history_at}
use Rattle.site_turns.specs.Laws.{AnsweredAreKept, KeptStays}
use Rattle.site_turns.specs.Origins.{in_store, state_at}

-- each entry of a lawful history is kept with the reply that it got
abbrev pub KeepsReplies : Type 0
KeepsReplies = (site : Setup) (front more : List Entry) (entry : Entry) → IsLawful site (front ++ entry ∷ more) → Means site (front ++ entry ∷ more) entry.station entry.number entry.deed (Kept (reply_to site (world_of site front) entry))

-- what was kept stays so
abbrev pub StaysKept : Type 0
StaysKept = (site : Setup) (history more : List Entry) (station number : ℕ) (deed : Deed) (reply : Reply) → Means site history station number deed (Kept reply) → Means site (history ++ more) station number deed (Kept reply)

-- a front of a lawful history is lawful
abbrev pub FrontsAreLawful : Type 0
FrontsAreLawful = (site : Setup) (history more : List Entry) → IsLawful site (history ++ more) → IsLawful site history

both_kept : (site : Setup) (history : List Entry) (xs ys : List Answered) → AllKept site history xs → AllKept site history ys → AllKept site history (xs ++ ys)
both_kept site history [] ys first second = second
both_kept site history (x ∷ xs) ys first second = (first.0, both_kept site history xs ys first.1 second)

all_weaker : (site : Setup) (history longer : List Entry) (xs : List Answered) → ((x : Answered) → IsKeptIn site history x → IsKeptIn site longer x) → AllKept site history xs → AllKept site longer xs
all_weaker site history longer [] weaker all = tt
all_weaker site history longer (x ∷ xs) weaker all = (weaker x all.0, all_weaker site history longer xs weaker all.1)

module _ (replies : KeepsReplies) (stays : StaysKept) (site : Setup) (history : List Entry) (lawful : IsLawful site history) where
  -- the same refusal of each hands out nothing
  disk_kept : {X : Type 0} (asks : List Ask) (xs : List X) → AllKept site history (handed_all asks (map (λ (x : X). DiskFault) xs))
  disk_kept [] xs = tt
  disk_kept (ask ∷ asks) [] = tt
  disk_kept (ask ∷ asks) (x ∷ xs) = disk_kept asks xs

  memory_kept : {X : Type 0} (asks : List Ask) (xs : List X) → AllKept site history (handed_all asks (map (λ (x : X). Memory) xs))
  memory_kept [] xs = tt
  memory_kept (ask ∷ asks) [] = tt
  memory_kept (ask ∷ asks) (x ∷ xs) = memory_kept asks xs

  found_kept : (front more : List Entry) (ask : Ask) (reply : Reply) → history ≡ front ++ more → Means site front ask.station ask.number ask.deed (Kept reply) → Means site history ask.station ask.number ask.deed (Kept reply)
  found_kept front more ask reply parts means =
      subst (λ (h : List Entry). Means site h ask.station ask.number ask.deed (Kept reply)) (sym parts) (stays site front more ask.station ask.number ask.deed reply means)

  entered_kept : (front more : List Entry) (entry : Entry) → history ≡ front ++ entry ∷ more → Means site history entry.station entry.number entry.deed (Kept (reply_to site (world_of site front) entry))
  entered_kept front more entry parts =
      subst (λ (h : List Entry). Means site h entry.station entry.number entry.deed (Kept (reply_to site (world_of site front) entry))) (sym parts) (replies site front more entry (subst (λ (h : List Entry). IsLawful site h) parts lawful))

  -- a request whose new entry, if it has one, is in the history
  pub one_kept : (end : ℕ) (g front : List Entry) (worker : ℕ) (ask : Ask) (taken : Taken) (outcome : Outcome) (new more : List Entry) → history ≡ g ++ (new ++ more) → Tries site end g front worker ask taken outcome new → AllKept site history (handed_by ask outcome)
  one_kept end g front worker ask taken (Replied reply) new more parts (inl found) = (found_kept g (new ++ more) ask reply parts found.0.means, tt)
  one_kept end g front worker ask taken (Replied reply) new more parts (inr enters) =
      let entry = enters.entry in
      let kept = entered_kept g more entry (parts ∙ ap (λ (l : List Entry). g ++ (l ++ more)) enters.new_is) in
      let told : Means site history entry.station entry.number entry.deed (Kept reply) = subst (λ (r : Reply). Means site history entry.station entry.number entry.deed (Kept r)) (sym enters.reply_is) kept in
      (subst (λ (e : Entry). Means site history e.station e.number e.deed (Kept reply)) enters.makes.entry_is told, tt)
  one_kept end g front worker ask taken NumberReused new more parts tries = tt
  one_kept end g front worker ask taken (NumberGap last) new more parts tries = tt
  one_kept end g front worker ask taken DiskFault new more parts tries = tt
  one_kept end g front worker ask taken ClockFault new more parts tries = tt
  one_kept end g front worker ask taken (ClockRange ms) new more parts tries = tt
  one_kept end g front worker ask taken WordsFault new more parts tries = tt
  one_kept end g front worker ask taken (WordsSpent found) new more parts tries = tt
  one_kept end g front worker ask taken (JournalFull told asked) new more parts tries = tt
  one_kept end g front worker ask taken Memory new more parts tries = tt

  -- all that is new is in the history
  tries_kept : (end : ℕ) (g front : List Entry) (worker : ℕ) (ts : List Try) → history ≡ g ++ new_in ts → AreTries site end g front worker ts → AllKept site history (handed_all (asks_in ts) (outcomes_in ts))
  tries_kept end g front worker [] parts are = tt
  tries_kept end g front worker (t ∷ ts) parts are =
      both_kept site history (handed_by t.ask t.outcome) (handed_all (asks_in ts) (outcomes_in ts)) (one_kept end g front worker t.ask t.taken t.outcome t.new (new_in ts) parts are.0)
      (tries_kept end (g ++ t.new) (front ++ t.new) worker ts (parts ∙ sym (append_assoc g t.new (new_in ts))) are.1)

  -- none of it is
  lost_one : (end : ℕ) (g front : List Entry) (worker : ℕ) (ask : Ask) (taken : Taken) (outcome : Outcome) (new : List Entry) (ts : List Try) → history ≡ g → Tries site end g front worker ask taken outcome new
      → (new ≡ [] → AllKept site history (handed_all (asks_in ts) (lost_in ts))) → AllKept site history (handed_all (ask ∷ asks_in ts) (lost_from new outcome ts (lost_in ts)))
  lost_one end g front worker ask taken outcome [] ts parts tries rest =
      both_kept site history (handed_by ask outcome) (handed_all (asks_in ts) (lost_in ts)) (one_kept end g front worker ask taken outcome [] [] (parts ∙ sym (append-nil g)) tries) (rest refl)
  lost_one end g front worker ask taken outcome (entry ∷ entries) ts parts tries rest = disk_kept (asks_in ts) ts

  lost_kept : (end : ℕ) (g front : List Entry) (worker : ℕ) (ts : List Try) → history ≡ g → AreTries site end g front worker ts → AllKept site history (handed_all (asks_in ts) (lost_in ts))
  lost_kept end g front worker [] parts are = tt
  lost_kept end g front worker (t ∷ ts) parts are =
      lost_one end g front worker t.ask t.taken t.outcome t.new ts parts are.0
      (λ none. lost_kept end (g ++ t.new) (front ++ t.new) worker ts (parts ∙ sym (ap (λ (l : List Entry). g ++ l) none ∙ append-nil g)) are.1)

  comes_kept : (end : ℕ) (g : List Entry) (worker : ℕ) (ts : List Try) (outcomes : List Outcome) (new : State) (more : List store.Noted) → new.history ≡ history → AreTries site end g [] worker ts → Written g worker ts outcomes new more ⊎ Lost g worker ts outcomes new more
      → AllKept site history (handed_all (asks_in ts) outcomes)
  comes_kept end g worker ts outcomes new more same are (inl written) =
      subst (λ (os : List Outcome). AllKept site history (handed_all (asks_in ts) os)) (sym written.outcomes_are) (tries_kept end g [] worker ts (sym same ∙ ap (λ (s : State). s.history) written.state) are)
  comes_kept end g worker ts outcomes new more same are (inr lost) =
      subst (λ (os : List Outcome). AllKept site history (handed_all (asks_in ts) os)) (sym lost.outcomes_are) (lost_kept end g [] worker ts (sym same ∙ lost.history) are)

  steps_kept : (end : ℕ) (old : State) (worker : ℕ) (asks : List Ask) (taken : Taken) (outcomes : List Outcome) (new : State) (notes : List store.Noted) → new.history ≡ history → Steps site end old worker asks taken outcomes new notes → AllKept site history (handed_all asks outcomes)
  steps_kept end old worker asks taken outcomes new notes same (inl un) =
      ⊎_elim
      (λ disk. subst (λ (os : List Outcome). AllKept site history (handed_all asks os)) (sym disk.0) (disk_kept asks asks))
      (λ memory. subst (λ (os : List Outcome). AllKept site history (handed_all asks os)) (sym memory.0) (memory_kept asks asks)) un.told
  steps_kept end old worker asks taken outcomes new notes same (inr m) =
      subst (λ (l : List Ask). AllKept site history (handed_all l outcomes)) (sym m.answers.asks_are) (comes_kept end (all_of old) worker m.answers.tries outcomes new m.more same m.answers.are m.answers.comes)

-- more notes leave the history as it was, and entries behind it
history_on : (origin : Origin) (xs more : List Noted) → history_at origin (xs ++ more) ≡ history_at origin xs ++ store.made (map in_store more)
history_on origin xs more =
    ap (λ (l : List store.Noted). (store.standing origin.opening l).history) (map-append in_store xs more)
    ∙ ap (λ (s : State). s.history) (standing_on origin.opening (map in_store xs) (map in_store more) (state_at origin xs) refl)

grown : (origin : Origin) (xs later : List Noted) (b : Begins xs later) → history_at origin later ≡ history_at origin xs ++ store.made (map in_store b.0)
grown origin xs later b = ap (history_at origin) b.1 ∙ history_on origin xs b.0

pub kept_stays : StaysKept → KeptStays
kept_stays stays origin xs later answered b kept =
    let ask = answered.ask in
    subst (λ (h : List Entry). IsKeptIn origin.setup h answered) (sym (grown origin xs later b))
    (stays origin.setup (history_at origin xs) (store.made (map in_store b.0)) ask.station ask.number ask.deed answered.reply kept)

pub answered_are_kept : KeepsReplies → StaysKept → FrontsAreLawful → AnsweredAreKept
answered_are_kept replies stays fronts origin worker asks xs ys later answers step b lawful =
    let site = origin.setup in
    let s = step.submits in
    let here : IsLawful site (history_at origin ys) = fronts site (history_at origin ys) (store.made (map in_store b.0)) (subst (λ (h : List Entry). IsLawful site h) (grown origin ys later b) lawful) in
    all_weaker site (history_at origin ys) (history_at origin later) (handed_all asks step.outcomes) (λ answered. kept_stays stays origin ys later answered b)
    (steps_kept replies stays site (history_at origin ys) here s.end (state_at origin xs) worker asks s.taken step.outcomes (state_at origin ys) s.notes refl s.steps)
