-- How often the step of one request notes a fault.
use Rattle.std.proofs.Common.{◌≡◌, ◌∙◌, inl, inr, ⊎_elim, ℕ, cond, List, [], ◌∷◌, ◌++◌, length, Option, Some, None, refl, sym, ap, arith}
use Rattle.deed_words.specs.Setups.{Setup}
use Rattle.deed_words.specs.declared.entry.Ask.{Ask}
use Rattle.deed_words.specs.declared.entry.Entry.{Entry}
use Rattle.deed_words.specs.declared.entry.FaultKind.{FaultKind}
use Rattle.deed_words.specs.declared.entry.FaultKind.TheVariants as kind
use Rattle.site_store.specs.declared.outcome.Outcome.{Outcome}
use Rattle.site_store.specs.declared.outcome.Outcome.TheVariants.{Replied, NumberReused, NumberGap, DiskFault, ClockFault, ClockRange, WordsFault, WordsSpent, JournalFull, Memory}
use Rattle.site_store.specs.Causes.{is_clock_fault, is_words_fault}
use Rattle.site_store.specs.Moved.{Taken}
use Rattle.site_store.specs.Noting.{Noted, dones, fault, how_often, same_kind}
use Rattle.site_store.specs.States.{State, all_of}
use Rattle.site_store.specs.One as one
use Rattle.site_store.proofs.Counting.{often_append, often_dones, often_fault}

-- the kind of fault that an outcome tells
kind_told : Outcome → Option FaultKind
kind_told DiskFault = Some kind.Disk
kind_told ClockFault = Some kind.Clock
kind_told (ClockRange ms) = Some kind.Range
kind_told WordsFault = Some kind.Words
kind_told (WordsSpent found) = Some kind.Spent
kind_told outcome = None

once : FaultKind → Option FaultKind → ℕ
once k None = 0
once k (Some j) = cond (same_kind k j) 1 0

told_stays : (k : FaultKind) (g : List Entry) (notes : List Noted) (new : State) (more : List Noted) → one.Stays g notes new more → how_often k more ≡ how_often k notes
told_stays k g notes new more stays = ap (λ (ns : List Noted). how_often k ns) stays.notes_are

answers_told : (k : FaultKind) (site : Setup) (end : ℕ) (g : List Entry) (worker : ℕ) (ask : Ask) (taken : Taken) (outcome : Outcome) (new : State) (more : List Noted) → one.Answers site end g worker ask taken outcome new more → how_often k more ≡ once k (kind_told outcome)
unfolding once kind_told
answers_told k site end g worker ask taken (Replied reply) new more (inl was) = told_stays k g [] new more was.1
answers_told k site end g worker ask taken (Replied reply) new more (inr acts) = ap (λ (ns : List Noted). how_often k ns) acts.notes_are ∙ often_dones k worker (length g) (acts.entry ∷ [])
answers_told k site end g worker ask taken NumberReused new more is = told_stays k g [] new more is.1
answers_told k site end g worker ask taken (NumberGap last) new more is = told_stays k g [] new more is.1
answers_told k site end g worker ask taken ClockFault new more is = told_stays k g (fault kind.Clock worker []) new more is.1 ∙ often_fault k kind.Clock worker []
answers_told k site end g worker ask taken (ClockRange ms) new more is = told_stays k g (fault kind.Range worker []) new more is.1 ∙ often_fault k kind.Range worker []
answers_told k site end g worker ask taken WordsFault new more is = told_stays k g (fault kind.Words worker []) new more is.1 ∙ often_fault k kind.Words worker []
answers_told k site end g worker ask taken (WordsSpent found) new more is = told_stays k g (fault kind.Spent worker []) new more is.1 ∙ often_fault k kind.Spent worker []
answers_told k site end g worker ask taken (JournalFull told asked) new more is = told_stays k g [] new more is.1
answers_told k site end g worker ask taken DiskFault new more fails = ap (λ (ns : List Noted). how_often k ns) fails.notes_are ∙ often_fault k kind.Disk worker new.pending
answers_told k site end g worker ask taken Memory new more is = told_stays k g [] new more is.1

steps_told : (k : FaultKind) (site : Setup) (end : ℕ) (old : State) (worker : ℕ) (ask : Ask) (taken : Taken) (outcome : Outcome) (new : State) (notes : List Noted) → one.Steps site end old worker ask taken outcome new notes → how_often k notes ≡ once k (kind_told outcome)
unfolding once kind_told
steps_told k site end old worker ask taken outcome new notes (inl un) = ⊎_elim
    (λ failed. ap (λ (ns : List Noted). how_often k ns) failed.1 ∙ often_fault k kind.Disk worker [] ∙ sym (ap (λ (o : Outcome). once k (kind_told o)) failed.0))
    (λ wants. ap (λ (ns : List Noted). how_often k ns) wants.1 ∙ sym (ap (λ (o : Outcome). once k (kind_told o)) wants.0)) un.told
steps_told k site end old worker ask taken outcome new notes (inr mended) =
    let first = dones worker (length old.history) old.pending in
    let is : how_often k notes ≡ how_often k (first ++ mended.more) = ap (λ (ns : List Noted). how_often k ns) mended.notes_are in
    omega (arith, is, often_append k first mended.more, often_dones k worker (length old.history) old.pending, answers_told k site end (all_of old) worker ask taken outcome new mended.more mended.answers)

clock_once : (outcome : Outcome) → once kind.Clock (kind_told outcome) ≡ cond (is_clock_fault outcome) 1 0
unfolding once kind_told
clock_once (Replied reply) = refl
clock_once NumberReused = refl
clock_once (NumberGap last) = refl
clock_once DiskFault = refl
clock_once ClockFault = refl
clock_once (ClockRange ms) = refl
clock_once WordsFault = refl
clock_once (WordsSpent found) = refl
clock_once (JournalFull told asked) = refl
clock_once Memory = refl

words_once : (outcome : Outcome) → once kind.Words (kind_told outcome) ≡ cond (is_words_fault outcome) 1 0
unfolding once kind_told
words_once (Replied reply) = refl
words_once NumberReused = refl
words_once (NumberGap last) = refl
words_once DiskFault = refl
words_once ClockFault = refl
words_once (ClockRange ms) = refl
words_once WordsFault = refl
words_once (WordsSpent found) = refl
words_once (JournalFull told asked) = refl
words_once Memory = refl

pub one_clock : (site : Setup) (end : ℕ) (old : State) (worker : ℕ) (ask : Ask) (taken : Taken) (outcome : Outcome) (new : State) (notes : List Noted) → one.Steps site end old worker ask taken outcome new notes → how_often kind.Clock notes ≡ cond (is_clock_fault outcome) 1 0
one_clock site end old worker ask taken outcome new notes steps = steps_told kind.Clock site end old worker ask taken outcome new notes steps ∙ clock_once outcome

pub one_words : (site : Setup) (end : ℕ) (old : State) (worker : ℕ) (ask : Ask) (taken : Taken) (outcome : Outcome) (new : State) (notes : List Noted) → one.Steps site end old worker ask taken outcome new notes → how_often kind.Words notes ≡ cond (is_words_fault outcome) 1 0
one_words site end old worker ask taken outcome new notes steps = steps_told kind.Words site end old worker ask taken outcome new notes steps ∙ words_once outcome
