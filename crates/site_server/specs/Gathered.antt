-- Requests that are gathered, and how they are answered.
use Rattle.std.specs.Prelude.{◌≡◌, ◌==◌, ◌&&◌, ℕ, Bool, true, false, List, [], ◌∷◌, ◌++◌, length, map, Option, Result, Ok, OnOk, is_err}
use Rattle.outside.specs.Devices.{Puts}
use Rattle.deed_json.specs.Asked.{body_of}
use Rattle.http_routes.specs.declared.target.Target.TheVariants.{Submit}
use Rattle.turn_desk.specs.declared.view.Noted.{Noted}
use Rattle.turn_desk.specs.declared.view.Origin.{Origin}
use Rattle.station_http.specs.declared.asked.Asked.{Asked}
use Rattle.station_http.specs.Puts.{IsPutOf}
use Rattle.site_answers.specs.Saying.{Answer, text_of}
use Rattle.site_turns.specs.Posted.{Posted}
use Rattle.site_server.specs.Exchanges.{Exchange, AreGiven, IsGiven, asks_of, seen_after, text_in}
use Rattle.site_server.specs.Serving.{IsPut}

-- the request is a POST of this station and number, and its body says this
abbrev pub IsPostOf : Asked → Posted → Type 0
IsPostOf asked post = (asked.target ≡ Submit post.station post.number) × (body_of asked.body ≡ Ok post.said)

abbrev pub ArePosts : List Asked → List Posted → Type 0
ArePosts [] [] = Unit {0}
ArePosts (asked ∷ asks) (post ∷ posts) = IsPostOf asked post × ArePosts asks posts
ArePosts asks posts = ⊥

-- the request is gathered behind others, or nothing changes
abbrev pub Gathers : Asked → List Posted → List Posted → Bool → Type 0
Gathers asked old new true = (post : Posted) × IsPostOf asked post × (new ≡ old ++ post ∷ [])
Gathers asked old new false = new ≡ old

-- the answer of the last of these requests is the last, or isn't, and that of no other one is
abbrev pub CloseAs : Bool → List Asked → Type 0
CloseAs last [] = Unit {0}
CloseAs last (asked ∷ more) = (asked.close ≡ (last && (length more == 0))) × CloseAs last more

-- answers one after the other, of which the last one is the last, or isn't
abbrev pub texts_to : List Answer → Bool → List ℕ
texts_to [] last = []
texts_to (answer ∷ more) last = text_of answer (last && (length more == 0)) ++ texts_to more last

-- The first of these requests were answered at one point, and their answers put, or a part of them where that failed; the
-- requests behind them are left.
pub record IsExchanged {T E : Type 0} (origin : Origin) (worker : ℕ) (asks : List Asked) (left : List Posted) (held held' : Option (List ℕ)) (seen seen' : List Noted) (result : Result T E) : Type 0 where
  pub exchange : Exchange
  pub rest : List Asked
  pub parts : asks ≡ exchange.asks ++ rest
  pub given : IsGiven origin worker seen exchange
  pub grown : seen' ≡ seen_after seen exchange
  pub put : Puts held held' (λ put. IsPutOf (text_in exchange) result put)
  pub others : ArePosts rest left

-- The first of these requests were answered, group by group, and their answers put, up to a put that failed; the requests
-- behind them, of whose answers none is the last, are left.
pub record AreAnswered {T E : Type 0} (origin : Origin) (worker : ℕ) (asks : List Asked) (left : List Posted) (held held' : Option (List ℕ)) (seen seen' : List Noted) (result : Result T E) : Type 0 where
  pub exchanges : List Exchange
  pub rest : List Asked
  pub parts : asks ≡ asks_of exchanges ++ rest
  pub given : AreGiven origin worker seen exchanges seen'
  pub put : Puts held held' (λ put. IsPut (is_err result) (map text_in exchanges) put)
  pub others : OnOk result (ArePosts rest left × CloseAs false rest)
