-- Steps and stops of a store, one after the other.
use Rattle.std.specs.Prelude.{◌≡◌, ◌⊎◌, ℕ, List, [], ◌∷◌, ◌++◌}
use Rattle.std.specs.List.{AllByRecursion as Every}
use Rattle.deed_words.specs.Setups.{Setup}
use Rattle.deed_words.specs.declared.entry.Ask.{Ask}
use Rattle.deed_words.specs.declared.entry.Entry.{Entry}
use Rattle.deed_words.specs.declared.reply.Reply.{Reply}
use Rattle.deed_words.specs.Numbers.{Means, Kept}
use Rattle.site_store.specs.declared.outcome.Outcome.{Outcome}
use Rattle.site_store.specs.declared.outcome.Outcome.TheVariants.{Replied}
use Rattle.site_store.specs.States.{State, all_of, settled}
use Rattle.site_store.specs.Noting.{Noted}
use Rattle.site_store.specs.Moved.{Taken}
use Rattle.site_store.specs.Steps.{Steps}

-- a step, with all that belongs to it
pub record Turn : Type 0 where
  pub end : ℕ
  pub worker : ℕ
  pub asks : List Ask
  pub taken : Taken
  pub outcomes : List Outcome
  pub after : State
  pub notes : List Noted

abbrev pub IsTurn : Setup → State → Turn → Type 0
IsTurn site old turn = Steps site turn.end old turn.worker turn.asks turn.taken turn.outcomes turn.after turn.notes

-- What happens to a store: a step whose answer is handed out, a stop somewhere in a step, or one between two steps.
-- After a stop an image is loaded, which holds this history.
pub data Event : Type 0 where
  Served : (turn : Turn) → Event
  Cut : (turn : Turn) → (loaded : List Entry) → Event
  Stopped : (loaded : List Entry) → Event

-- what an image may hold: the history, or that with what is pending; in a step also all that the step leads to
abbrev pub MayHold : State → List Entry → Type 0
MayHold old loaded = (loaded ≡ old.history) ⊎ (loaded ≡ all_of old)

abbrev pub Leads : Setup → State → Event → State → Type 0
Leads site old (Served turn) new = IsTurn site old turn × (new ≡ turn.after)
Leads site old (Cut turn loaded) new = IsTurn site old turn × (MayHold old loaded ⊎ (loaded ≡ all_of turn.after)) × (new ≡ settled loaded)
Leads site old (Stopped loaded) new = MayHold old loaded × (new ≡ settled loaded)

-- one after the other
abbrev pub Runs : Setup → State → List Event → State → Type 0
Runs site old [] new = new ≡ old
Runs site old (event ∷ events) new = (mid : State) × Leads site old event mid × Runs site mid events new

-- a request that was answered, with the reply that was handed out
pub record Answered : Type 0 where
  pub ask : Ask
  pub reply : Reply

abbrev pub handed_by : Ask → Outcome → List Answered
handed_by ask (Replied reply) = record { ask = ask; reply = reply } ∷ []
handed_by ask outcome = []

-- of a group
abbrev pub handed_all : List Ask → List Outcome → List Answered
handed_all [] outcomes = []
handed_all (ask ∷ asks) [] = []
handed_all (ask ∷ asks) (outcome ∷ outcomes) = handed_by ask outcome ++ handed_all asks outcomes

abbrev pub handed_in : Event → List Answered
handed_in (Served turn) = handed_all turn.asks turn.outcomes
handed_in (Cut turn loaded) = []
handed_in (Stopped loaded) = []

abbrev pub handed_out : List Event → List Answered
handed_out [] = []
handed_out (event ∷ events) = handed_in event ++ handed_out events

-- the number of the request is kept with its deed, and with the reply that was handed out
abbrev pub IsKeptIn : Setup → List Entry → Answered → Type 0
IsKeptIn site history answered = Means site history answered.ask.station answered.ask.number answered.ask.deed (Kept answered.reply)

-- each of them is kept
abbrev pub AllKept : Setup → List Entry → List Answered → Type 0
AllKept site history answers = Every (IsKeptIn site history) answers
