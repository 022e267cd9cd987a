-- Laws of turns.
use Rattle.std.specs.Prelude.{◌≡◌, ℕ, List}
use Rattle.deed_words.specs.History.{IsLawful}
use Rattle.deed_words.specs.declared.entry.Ask.{Ask}
use Rattle.turn_desk.specs.Notes.{Begins}
use Rattle.turn_desk.specs.declared.view.Noted.{Noted}
use Rattle.turn_desk.specs.declared.view.Origin.{Origin}
use Rattle.site_store.specs.Stops.{Answered, AllKept, IsKeptIn, handed_all}
use Rattle.site_answers.specs.Saying.{Answer}
use Rattle.site_turns.specs.Answering.{IsSubmitted, history_at}

-- each request of a step that was answered with a reply stands under its number, with that reply, in every later list of notes
abbrev pub AnsweredAreKept : Type 0
AnsweredAreKept = (origin : Origin) (worker : ℕ) (asks : List Ask) (xs ys later : List Noted) (answers : List Answer) (step : IsSubmitted origin worker asks xs ys answers)
    → Begins ys later → IsLawful origin.setup (history_at origin later) → AllKept origin.setup (history_at origin later) (handed_all asks step.outcomes)

-- what a list of notes keeps, every later one does
abbrev pub KeptStays : Type 0
KeptStays = (origin : Origin) (xs later : List Noted) (answered : Answered) → Begins xs later → IsKeptIn origin.setup (history_at origin xs) answered → IsKeptIn origin.setup (history_at origin later) answered
