-- What was answered is kept.
use Rattle.std.proofs.Common.{◌≡◌, inl, inr, ℕ, List, [], ◌∷◌, ◌++◌, Result, Ok, Err, sym, ap, subst, append-nil, append_assoc, ◌∙◌, refl}
use Rattle.std.specs.List.{AllByRecursion as Every}
use Rattle.deed_words.specs.Setups.{Setup}
use Rattle.deed_words.specs.declared.entry.Ask.{Ask}
use Rattle.deed_words.specs.declared.entry.Entry.{Entry}
use Rattle.deed_words.specs.History.{IsLawful}
use Rattle.deed_json.specs.Asked.{asked_of}
use Rattle.deed_json.specs.declared.ask.AskFault.{AskFault}
use Rattle.site_store.specs.Held.{Held}
use Rattle.site_store.specs.Images.{HoldsState, Extends}
use Rattle.site_store.specs.Moved.{Taken}
use Rattle.site_store.specs.States.{State, all_of}
use Rattle.site_store.specs.Stops.{Answered, AllKept, IsKeptIn, handed_by}
use Rattle.site_store.proofs.OneOf.{of_one}
use Rattle.site_store.proofs.Back.{every_more}
use Rattle.site_store.proofs.Stopping.{Keeps, steps_go}
use Rattle.site_console.specs.declared.answer.Answer.{Answer}
use Rattle.site_console.specs.declared.answer.Answer.TheVariants.{TooLong, Unasked, NoMemory, Came}
use Rattle.site_console.specs.declared.fault.Fault.{Fault}
use Rattle.site_console.specs.declared.fault.Fault.TheVariants.{Read, Write, Memory, InputTooLong}
use Rattle.site_console.specs.Answers.{AnswersLine, handed_for}
use Rattle.site_console.specs.Open.{Point}
use Rattle.site_console.specs.Script.{Exchange, Run, Talk, StopsInside, Ended, handed}
use Rattle.site_console.specs.Sessions.{HoldsAnswers}
use Rattle.site_console.proofs.Answered.{kept_on}

-- ---- histories that go on

every_weaker : {X : Type 0} (P Q : X → Type 0) (xs : List X) → ((x : X) → P x → Q x) → Every P xs → Every Q xs
every_weaker P Q [] weaker all = tt
every_weaker P Q (x ∷ xs) weaker all = (weaker x all.0, every_weaker P Q xs weaker all.1)

extends_refl : (h : List Entry) → Extends h h
extends_refl h = ([], sym (append-nil h))

extends_trans : (a b c : List Entry) → Extends a b → Extends b c → Extends a c
extends_trans a b c first second = (first.0 ++ second.0, second.1 ∙ ap (λ (h : List Entry). h ++ second.0) first.1 ∙ append_assoc a first.0 second.0)

extends_more : (h more : List Entry) → Extends h (h ++ more)
extends_more h more = (more, refl)

-- what is kept stays kept
kept_extends : (site : Setup) (a b : List Entry) (answered : Answered) → Extends a b → IsKeptIn site a answered → IsKeptIn site b answered
kept_extends site a b answered more is =
    subst (λ (h : List Entry). IsKeptIn site h answered) (sym more.1) (kept_on site a more.0 answered.ask.station answered.ask.number answered.ask.deed answered.reply is)

-- ---- what a run keeps

stays : (site : Setup) (old new : State) → IsLawful site (all_of old) → new ≡ old → Keeps site old new []
stays site old new lawful same = subst (λ (s : State). Keeps site old s []) (sym same) (record { history = extends_refl old.history; lawful = lawful; kept = tt })

-- one line
line_keeps : (site : Setup) (old new : State) (line : List ℕ) (answer : Answer) (taken : Taken) → IsLawful site (all_of old) → AnswersLine site old line answer taken new → Keeps site old new (handed_for answer (asked_of site line))
line_keeps site old new line TooLong taken lawful is = stays site old new lawful is.1.same
line_keeps site old new line (Unasked fault) taken lawful is = stays site old new lawful is.1.same
line_keeps site old new line NoMemory taken lawful is = stays site old new lawful is.same
line_keeps site old new line (Came outcome) taken lawful is =
    let t = is.turn in
    let goes = steps_go site t.end old 0 (is.ask ∷ []) taken (outcome ∷ []) new t.notes lawful (of_one site t.end old 0 is.ask taken outcome new t.notes t.step) in
    subst (λ (asked : Result Ask AskFault). Keeps site old new (handed_for (Came outcome) asked)) (sym is.asks.read)
    (record { history = goes.history; lawful = goes.lawful; kept = subst (AllKept site new.history) (append-nil (handed_by is.ask outcome)) goes.kept })

-- one after the other
and_keeps : (site : Setup) (old mid new : State) (first second : List Answered) → Keeps site old mid first → Keeps site mid new second → Keeps site old new (first ++ second)
and_keeps site old mid new first second a b = record {
  history = extends_trans old.history mid.history new.history a.history b.history;
  lawful = b.lawful;
  kept = every_more (IsKeptIn site new.history) first second (every_weaker (IsKeptIn site mid.history) (IsKeptIn site new.history) first (λ x is. kept_extends site mid.history new.history x b.history is) a.kept) b.kept;
}

run_keeps : (site : Setup) (old new : Point) (xs : List Exchange) → IsLawful site (all_of old.state) → Run site old xs new → Keeps site old.state new.state (handed site xs)
run_keeps site old new [] lawful is = stays site old.state new.state lawful (ap (λ (p : Point). p.state) is)
run_keeps site old new (x ∷ xs) lawful run =
    let mid = run.0 in
    let first = line_keeps site old.state mid.state x.line x.answer x.taken lawful run.1.step in
    and_keeps site old.state mid.state new.state (handed_for x.answer (asked_of site x.line)) (handed site xs) first (run_keeps site mid new xs first.lawful run.2)

-- a step more of which nothing is told
step_keeps : (site : Setup) (old mid new : State) (answers more : List Answered) → Keeps site old mid answers → Keeps site mid new more → Keeps site old new answers
step_keeps site old mid new answers more a b = record {
  history = extends_trans old.history mid.history new.history a.history b.history;
  lawful = b.lawful;
  kept = every_weaker (IsKeptIn site mid.history) (IsKeptIn site new.history) answers (λ x is. kept_extends site mid.history new.history x b.history is) a.kept;
}

stopped_keeps : (site : Setup) (old : Point) (at_end : Type 0) (talk : Talk) (part : List ℕ) → IsLawful site (all_of old.state) → StopsInside site old at_end talk part → Keeps site old.state talk.point.state (handed site talk.exchanges)
stopped_keeps site old at_end talk part lawful s =
    let mid = s.front.point.state in
    let front = run_keeps site old s.front.point s.front.exchanges lawful s.script.run in
    subst (λ (xs : List Exchange). Keeps site old.state talk.point.state (handed site xs)) (sym s.exchanges)
    (step_keeps site old.state mid talk.point.state (handed site s.front.exchanges) _ front (line_keeps site mid talk.point.state s.next.line s.next.answer s.next.taken front.lawful s.step.step))

-- however the run ended
pub ended_keeps : (T : Type 0) (site : Setup) (old : Point) (result : Result T Fault) (at_end : Type 0) (talk : Talk) → IsLawful site (all_of old.state) → Ended {T = T} site old result at_end talk → Keeps site old.state talk.point.state (handed site talk.exchanges)
ended_keeps T site old (Ok done) at_end talk lawful e = run_keeps site old talk.point talk.exchanges lawful e.0.script.run
ended_keeps T site old (Err Read) at_end talk lawful e = run_keeps site old talk.point talk.exchanges lawful e.0.script.run
ended_keeps T site old (Err InputTooLong) at_end talk lawful e = run_keeps site old talk.point talk.exchanges lawful e.0.script.run
ended_keeps T site old (Err Write) at_end talk lawful e = stopped_keeps site old at_end talk e.0 lawful e.1
ended_keeps T site old (Err Memory) at_end talk lawful (inl e) = run_keeps site old talk.point talk.exchanges lawful e.script.run
ended_keeps T site old (Err Memory) at_end talk lawful (inr e) = stopped_keeps site old at_end talk [] lawful e

-- each image holds all that was answered
holds_answers : (site : Setup) (s : State) (history : List Entry) (answers : List Answered) (c : List ℕ) → AllKept site s.history answers → Extends s.history history → Held site history c → HoldsAnswers site answers c
holds_answers site s history answers c kept more held =
    record { history = history; held = held; kept = every_weaker (IsKeptIn site s.history) (IsKeptIn site history) answers (λ x is. kept_extends site s.history history x more is) kept }

pub image_answers : (site : Setup) (s : State) (answers : List Answered) (c : List ℕ) → AllKept site s.history answers → HoldsState site s c → HoldsAnswers site answers c
image_answers site s answers c kept (inl held) = holds_answers site s s.history answers c kept (extends_refl s.history) held
image_answers site s answers c kept (inr held) = holds_answers site s (all_of s) answers c kept (extends_more s.history s.pending) held
