-- What a request is answered, between the notes that the store has before a turn and those that it has after it.
use Rattle.std.specs.Prelude.{◌≡◌, ◌⊎◌, ◌≤◌, ℕ, List, [], ◌∷◌, ◌++◌, length, map, Result, Ok, Err}
use Rattle.deed_words.specs.History.{world_of}
use Rattle.deed_words.specs.declared.entry.Ask.{Ask}
use Rattle.deed_words.specs.declared.entry.Entry.{Entry}
use Rattle.deed_json.specs.declared.ask.AskFault.{AskFault}
use Rattle.turn_desk.specs.declared.view.Noted.{Noted}
use Rattle.turn_desk.specs.declared.view.Origin.{Origin}
use Rattle.http_routes.specs.declared.target.Target.{Target}
use Rattle.http_routes.specs.declared.target.Target.TheVariants.{Submit, Report, Events, Item, Unit as Box}
use Rattle.site_core.specs.Seen.{item_seen, unit_seen}
use Rattle.site_store.specs.declared.outcome.Outcome.{Outcome}
use Rattle.site_store.specs.Held.{furthest}
use Rattle.site_store.specs.Moved.{Taken}
use Rattle.site_store.specs.Noting as store
use Rattle.site_store.specs.States.{all_of}
use Rattle.site_store.specs.Steps.{Steps}
use Rattle.site_answers.specs.Saying.{Answer, IsSaid, fixed}
use Rattle.site_answers.specs.Told.{unasked_answer}
use Rattle.site_answers.specs.Batches.{report_answer, events_answer}
use Rattle.site_answers.specs.Things.{item_answer, unit_answer}
use Rattle.site_answers.specs.declared.fault_name.FaultName.TheVariants.{Memory}
use Rattle.site_turns.specs.Origins.{at_desk, state_at}
use Rattle.site_turns.specs.Outcomes.{AreSaid}
use Rattle.site_turns.specs.Posts.{posted}

-- the history at that point, without what is pending
abbrev pub history_at : Origin → List Noted → List Entry
history_at origin noted = (state_at origin noted).history

-- nothing is done, and the answer is this
abbrev pub Tells : Answer → List Noted → List Noted → Answer → Type 0
Tells answer xs ys said = (ys ≡ xs) × IsSaid answer said

-- One step of the store: from what it stood for before the turn to what it stands for after it, with the notes that the
-- turn added. The journal's end is no further than what it holds reaches.
pub record Submits (origin : Origin) (worker : ℕ) (asks : List Ask) (xs ys : List Noted) (outcomes : List Outcome) : Type 0 where
  pub end : ℕ
  pub taken : Taken
  pub notes : List store.Noted
  pub reach : end ≤ furthest origin.setup (all_of (state_at origin xs))
  pub noted : ys ≡ xs ++ map at_desk notes
  pub steps : Steps origin.setup end (state_at origin xs) worker asks taken outcomes (state_at origin ys) notes

-- one step, and the answers of its outcomes
pub record IsSubmitted (origin : Origin) (worker : ℕ) (asks : List Ask) (xs ys : List Noted) (answers : List Answer) : Type 0 where
  pub outcomes : List Outcome
  pub submits : Submits origin worker asks xs ys outcomes
  pub said : AreSaid origin.setup outcomes answers

-- A POST by what it asks: one step, or want of memory before it; or the fault is told, and nothing is done.
abbrev pub Posts : Origin → ℕ → Result Ask AskFault → List Noted → List Noted → Answer → Type 0
Posts origin worker (Ok ask) xs ys said = IsSubmitted origin worker (ask ∷ []) xs ys (said ∷ []) ⊎ Tells (fixed Memory) xs ys said
Posts origin worker (Err fault) xs ys said = Tells (unasked_answer fault) xs ys said

-- A GET: what is told of the history, and nothing is done.
abbrev pub Shows : Origin → Target → List Noted → List Noted → Answer → Type 0
Shows origin (Submit name number) xs ys said = ⊥
Shows origin (Report name) xs ys said = Tells (report_answer origin.setup (history_at origin xs) name) xs ys said
Shows origin (Events name from count) xs ys said = Tells (events_answer origin.setup (history_at origin xs) name from count) xs ys said
Shows origin (Item gtin serial) xs ys said = Tells (item_answer (item_seen origin.setup (world_of origin.setup (history_at origin xs)) gtin serial)) xs ys said
Shows origin (Box sscc) xs ys said = Tells (unit_answer (unit_seen (world_of origin.setup (history_at origin xs)) sscc)) xs ys said

-- the answer to one request
abbrev pub Answers : Origin → ℕ → Target → List ℕ → List Noted → List Noted → Answer → Type 0
Answers origin worker (Submit name number) body xs ys said = Posts origin worker (posted origin.setup name number body) xs ys said
Answers origin worker target body xs ys said = Shows origin target xs ys said
