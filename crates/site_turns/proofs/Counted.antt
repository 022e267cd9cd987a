-- A step has an outcome for each of its requests.
use Rattle.std.proofs.Common.{◌≡◌, ◌∙◌, ◌⊎◌, ◌++◌, ◌∷◌, [], ℕ, suc, List, length, map, ⊎_elim, refl, sym, ap}
use Rattle.std.proofs.lemmas.List.{length-map}
use Rattle.deed_words.specs.Setups.{Setup}
use Rattle.deed_words.specs.declared.entry.Ask.{Ask}
use Rattle.deed_words.specs.declared.entry.Entry.{Entry}
use Rattle.site_store.specs.declared.outcome.Outcome.{Outcome}
use Rattle.site_store.specs.declared.outcome.Outcome.TheVariants.{DiskFault}
use Rattle.site_store.specs.Moved.{Taken}
use Rattle.site_store.specs.Noting.{Noted}
use Rattle.site_store.specs.States.{State}
use Rattle.site_store.specs.Steps.{Answers, Mended, Steps, Try, asks_in, lost_from, lost_in, outcomes_in}
use Rattle.site_answers.specs.Saying.{Answer}
use Rattle.site_turns.specs.Outcomes.{AreSaid}

lost_from_count : (new : List Entry) (outcome : Outcome) (ts : List Try) (later : List Outcome) → length later ≡ length ts → length (lost_from new outcome ts later) ≡ suc (length ts)
lost_from_count [] outcome ts later same = ap suc same
lost_from_count (entry ∷ entries) outcome ts later same = ap suc (length-map ts (λ (t : Try). DiskFault))

lost_count : (ts : List Try) → length (lost_in ts) ≡ length ts
lost_count [] = refl
lost_count (t ∷ ts) = lost_from_count t.new t.outcome ts (lost_in ts) (lost_count ts)

answers_count : (site : Setup) (end : ℕ) (g : List Entry) (worker : ℕ) (asks : List Ask) (taken : Taken) (outcomes : List Outcome) (new : State) (more : List Noted) → Answers site end g worker asks taken outcomes new more → length outcomes ≡ length asks
answers_count site end g worker asks taken outcomes new more a =
    let ts = a.tries in
    let asked : length asks ≡ length ts = ap length a.asks_are ∙ length-map ts (λ (t : Try). t.ask) in
    ⊎_elim
    (λ written. ap length written.outcomes_are ∙ length-map ts (λ (t : Try). t.outcome) ∙ sym asked)
    (λ lost. ap length lost.outcomes_are ∙ lost_count ts ∙ sym asked) a.comes

pub steps_count : (site : Setup) (end : ℕ) (old : State) (worker : ℕ) (asks : List Ask) (taken : Taken) (outcomes : List Outcome) (new : State) (notes : List Noted) → Steps site end old worker asks taken outcomes new notes → length outcomes ≡ length asks
steps_count site end old worker asks taken outcomes new notes steps =
    ⊎_elim
    (λ un. ⊎_elim (λ disk. ap length disk.0 ∙ length-map asks _) (λ memory. ap length memory.0 ∙ length-map asks _) un.told)
    (λ m. answers_count site end _ worker asks taken outcomes new m.more m.answers) steps

pub said_count : (site : Setup) (outcomes : List Outcome) (answers : List Answer) → AreSaid site outcomes answers → length answers ≡ length outcomes
said_count site [] [] said = refl
said_count site (outcome ∷ outcomes) (answer ∷ answers) said = ap suc (said_count site outcomes answers said.1)
said_count site [] (answer ∷ answers) said = absurd said
said_count site (outcome ∷ outcomes) [] said = absurd said
