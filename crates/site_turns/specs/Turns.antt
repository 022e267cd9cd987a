-- What came of a turn in which numbered requests were answered.
use Rattle.std.specs.Prelude.{◌≡◌, ◌≢◌, ◌⊎◌, ◌≤◌, ℕ, List, [], ◌∷◌, ◌++◌, length, Option, Some, None}
use Rattle.deed_words.specs.Stations.{station_of}
use Rattle.deed_words.specs.declared.entry.Ask.{Ask}
use Rattle.deed_json.specs.declared.ask.AskFault.{AskFault}
use Rattle.deed_json.specs.declared.ask.AskFault.TheVariants.{NoStation}
use Rattle.turn_desk.specs.declared.view.Noted.{Noted}
use Rattle.turn_desk.specs.declared.view.Origin.{Origin}
use Rattle.site_answers.specs.Saying.{Answer, IsSaid, fixed}
use Rattle.site_answers.specs.declared.fault_name.FaultName.TheVariants.{Memory}
use Rattle.site_answers.specs.Told.{unasked_answer}
use Rattle.site_turns.specs.Answering.{IsSubmitted, Tells}
use Rattle.site_turns.specs.Posted.{Posted}
use Rattle.site_turns.specs.Posts.{AreAsksOf, ask_of}
use Rattle.site_turns.specs.Taking.{first_station}

-- The first requests, up to one whose station isn't known, were answered by one step, and these are left over.
pub record IsStep (origin : Origin) (worker : ℕ) (posts : List Posted) (xs ys : List Noted) (answers : List Answer) (rest : List Posted) : Type 0 where
  pub first : List Posted
  pub asks : List Ask
  pub some : first ≢ []
  pub parts : posts ≡ first ++ rest
  pub stopped : first_station origin.setup rest ≡ None
  pub are : AreAsksOf origin.setup first asks
  pub submitted : IsSubmitted origin worker asks xs ys answers

-- the station of the first request isn't known, which was told, and no step was taken
pub record IsUnknown (origin : Origin) (posts : List Posted) (xs ys : List Noted) (answers : List Answer) (rest : List Posted) : Type 0 where
  pub post : Posted
  pub answer : Answer
  pub parts : posts ≡ post ∷ rest
  pub unknown : station_of origin.setup post.station ≡ None
  pub one : answers ≡ answer ∷ []
  pub told : Tells (unasked_answer NoStation) xs ys answer

-- the first request, if there is one, is told that its station isn't known
abbrev pub IsLeft : List Posted → List Answer → List Posted → Type 0
IsLeft [] answers rest = (answers ≡ []) × (rest ≡ [])
IsLeft (post ∷ posts) answers rest = (answer : Answer) × (answers ≡ answer ∷ []) × IsSaid (unasked_answer NoStation) answer × (rest ≡ posts)

-- there were none
pub record IsIdle (posts : List Posted) (xs ys : List Noted) (answers : List Answer) (rest : List Posted) : Type 0 where
  pub none : posts ≡ []
  pub no_answers : answers ≡ []
  pub no_rest : rest ≡ []
  pub same : ys ≡ xs

-- one turn for requests, of which it answers some of the first
abbrev pub TakesTurn : Origin → ℕ → List Posted → List Noted → List Noted → List Answer → List Posted → Type 0
TakesTurn origin worker posts xs ys answers rest =
    IsStep origin worker posts xs ys answers rest ⊎ (IsUnknown origin posts xs ys answers rest ⊎ IsIdle posts xs ys answers rest)

-- a POST whose body is a JSON object but spells no deed: whether its station is known is told first
abbrev pub IsToldFirst : Option ℕ → AskFault → List Noted → List Noted → Answer → Type 0
IsToldFirst None fault xs ys said = Tells (unasked_answer NoStation) xs ys said
IsToldFirst (Some station) fault xs ys said = Tells (unasked_answer fault) xs ys said

-- A POST whose body reads as a deed, answered by itself, by the station of its name: one step, or want of memory before it.
abbrev pub IsPostedAs : Option ℕ → Origin → ℕ → Posted → List Noted → List Noted → Answer → Type 0
IsPostedAs None origin worker post xs ys said = Tells (unasked_answer NoStation) xs ys said
IsPostedAs (Some station) origin worker post xs ys said = IsSubmitted origin worker (ask_of station post ∷ []) xs ys (said ∷ []) ⊎ Tells (fixed Memory) xs ys said

abbrev pub IsPosted : Origin → ℕ → Posted → List Noted → List Noted → Answer → Type 0
IsPosted origin worker post xs ys said = IsPostedAs (station_of origin.setup post.station) origin worker post xs ys said
