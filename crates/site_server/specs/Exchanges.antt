-- Requests, their answers, and the points of a pass's seen list at which these are given.
use Rattle.std.specs.Prelude.{◌≡◌, ◌≢◌, ℕ, List, [], ◌∷◌, ◌++◌}
use Rattle.turn_desk.specs.declared.view.Noted.{Noted}
use Rattle.turn_desk.specs.declared.view.Origin.{Origin}
use Rattle.turn_desk.specs.Notes.{IsOf, IsOfOthers}
use Rattle.station_http.specs.declared.asked.Asked.{Asked}
use Rattle.site_answers.specs.Saying.{Answer, text_of}
use Rattle.site_turns.specs.Groups.{AnswersAll}

-- A group of requests that are answered at one point: behind these notes of others, which the pass hadn't seen; and the notes of its own that the answers added.
pub record Exchange : Type 0 where
  pub asks : List Asked
  pub answers : List Answer
  pub others : List Noted
  pub mine : List Noted

-- the answers one after the other
abbrev pub texts_of : List Asked → List Answer → List ℕ
texts_of (asked ∷ asks) (answer ∷ answers) = text_of answer asked.close ++ texts_of asks answers
texts_of asks answers = []

abbrev pub text_in : Exchange → List ℕ
text_in x = texts_of x.asks x.answers

-- what the pass has seen where the answers are given, and afterwards
abbrev pub point : List Noted → Exchange → List Noted
point seen x = seen ++ x.others

abbrev pub seen_after : List Noted → Exchange → List Noted
seen_after seen x = (seen ++ x.others) ++ x.mine

-- the group, which has a request at least, is answered by one step, or from what was seen
pub record IsGiven (origin : Origin) (worker : ℕ) (seen : List Noted) (x : Exchange) : Type 0 where
  pub some : x.asks ≢ []
  pub others : IsOfOthers worker x.others
  pub mine : IsOf worker x.mine
  pub answers : AnswersAll origin worker x.asks (point seen x) (seen_after seen x) x.answers

-- one group after the other, from one seen list to another
abbrev pub AreGiven : Origin → ℕ → List Noted → List Exchange → List Noted → Type 0
AreGiven origin worker seen [] seen' = seen' ≡ seen
AreGiven origin worker seen (x ∷ more) seen' = IsGiven origin worker seen x × AreGiven origin worker (seen_after seen x) more seen'

abbrev pub asks_of : List Exchange → List Asked
asks_of [] = []
asks_of (x ∷ more) = x.asks ++ asks_of more
