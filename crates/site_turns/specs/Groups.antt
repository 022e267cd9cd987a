-- What the requests of a group are answered.
use Rattle.std.specs.Prelude.{◌≡◌, ◌≤◌, ℕ, List, [], ◌∷◌, length, Ok}
use Rattle.deed_words.specs.Names.{Text}
use Rattle.deed_words.specs.Setups.{Setup}
use Rattle.deed_words.specs.declared.entry.Ask.{Ask}
use Rattle.http_routes.specs.declared.target.Target.TheVariants.{Submit}
use Rattle.station_http.specs.declared.asked.Asked.{Asked}
use Rattle.turn_desk.specs.declared.view.Noted.{Noted}
use Rattle.turn_desk.specs.declared.view.Origin.{Origin}
use Rattle.site_answers.specs.Saying.{Answer}
use Rattle.site_turns.specs.Answering.{Answers, IsSubmitted}
use Rattle.site_turns.specs.Posts.{posted}

-- the request is a POST that asks this of the site
abbrev pub AsksFor : Setup → Asked → Ask → Type 0
AsksFor site asked ask = (name : Text) × (number : ℕ) × (asked.target ≡ Submit name number) × (posted site name number asked.body ≡ Ok ask)

abbrev pub AllAskFor : Setup → List Asked → List Ask → Type 0
AllAskFor site [] [] = Unit {0}
AllAskFor site (asked ∷ requests) (ask ∷ asks) = AsksFor site asked ask × AllAskFor site requests asks
AllAskFor site requests asks = ⊥

-- up to 16 POSTs with readable deeds of known stations, which are answered by one step
pub record AreGrouped (origin : Origin) (worker : ℕ) (requests : List Asked) (xs ys : List Noted) (answers : List Answer) : Type 0 where
  pub asks : List Ask
  pub ask_for : AllAskFor origin.setup requests asks
  pub few : length requests ≤ 16
  pub submitted : IsSubmitted origin worker asks xs ys answers

-- one request alone, or such a group
abbrev pub AnswersAll : Origin → ℕ → List Asked → List Noted → List Noted → List Answer → Type 0
AnswersAll origin worker (asked ∷ []) xs ys (answer ∷ []) = Answers origin worker asked.target asked.body xs ys answer
AnswersAll origin worker requests xs ys answers = AreGrouped origin worker requests xs ys answers
