-- Turns, and answers without one.
use Rattle.std.proofs.Common.{◌≡◌, ◌≢◌, ◌∙◌, ◌⊎◌, ℕ, suc, List, [], ◌∷◌, ◌++◌, length, take, Option, Some, None, Result, Ok, Err, inl, inr, ⊎_elim, refl, sym, ap, subst, append-nil, arith}
use Rattle.deed_words.specs.Names.{Text}
use Rattle.deed_words.specs.Setups.{Setup}
use Rattle.deed_words.specs.Stations.{station_of}
use Rattle.deed_words.specs.declared.entry.Ask.{Ask}
use Rattle.deed_words.specs.declared.entry.Said.{Said}
use Rattle.serde_json.specs.Data.{Data}
use Rattle.site_files.specs.Due.{◌>>=◌}
use Rattle.serde_json.specs.Find.{as_object}
use Rattle.deed_json.specs.Asked.{body_of, if_members, json_of, known_as, object_of, or_bad_deed, or_bad_line, or_no_station}
use Rattle.deed_json.specs.Deeds.{said_of}
use Rattle.deed_json.specs.declared.ask.AskFault.{AskFault}
use Rattle.deed_json.specs.declared.ask.AskFault.TheVariants.{BadLine, NoStation, BadDeed}
use Rattle.deed_json.specs.declared.ask.AskFault.TheVariants as ask
use Rattle.deed_json.specs.declared.deed_fault.DeedFault.{DeedFault}
use Rattle.turn_desk.specs.declared.view.Noted.{Noted}
use Rattle.turn_desk.specs.declared.view.Origin.{Origin}
use Rattle.turn_desk.specs.Notes.{Turned}
use Rattle.site_store.specs.declared.outcome.Outcome.{Outcome}
use Rattle.site_answers.specs.Saying.{Answer, fixed}
use Rattle.site_answers.specs.declared.fault_name.FaultName.TheVariants.{Memory}
use Rattle.site_turns.specs.Answering.{IsSubmitted, Posts, Submits, Tells}
use Rattle.site_turns.specs.Outcomes.{AreSaid}
use Rattle.site_turns.specs.Taking.{AreTaken, TakesSome, first_station}
use Rattle.site_turns.specs.Posted.{Posted}
use Rattle.site_turns.specs.Posts.{AreAsksOf, IsAskOf, ask_of, posted}
use Rattle.site_turns.specs.Turns.{IsIdle, IsLeft, IsPosted, IsPostedAs, IsStep, IsToldFirst, IsUnknown, TakesTurn}
use Rattle.site_turns.proofs.Counted.{said_count, steps_count}

-- nothing was done
pub no_turn : (k : ℕ) (seen : List Noted) (R : List Noted → List Noted → Type 0) → R seen seen → Turned k seen seen R
no_turn k seen R r =
    let same : seen ++ [] ≡ seen = append-nil seen in
    ([], [], sym same ∙ sym (append-nil (seen ++ [])), refl, refl, subst (λ (xs : List Noted). R xs seen) (sym same) r)

-- what follows at each point
pub turned_as : (k : ℕ) (seen seen' : List Noted) (P Q : List Noted → List Noted → Type 0) → ((xs ys : List Noted) → P xs ys → Q xs ys) → Turned k seen seen' P → Turned k seen seen' Q
turned_as k seen seen' P Q next t = (t.0, t.1, t.2, t.3, t.4, next (seen ++ t.0) seen' t.5)

-- ---- a request by itself

only : {A : Type 0} (x : A) (first rest : List A) → first ≢ [] → x ∷ [] ≡ first ++ rest → first ≡ x ∷ []
only x [] rest some parts = absurd (some refl)
only x (y ∷ []) rest some parts = ap (λ l. take 1 l) (sym parts)
only x (y ∷ z ∷ more) rest some parts = absurd (cc)

one_ask : (site : Setup) (post : Posted) (asks : List Ask) → AreAsksOf site (post ∷ []) asks → (ask : Ask) × (asks ≡ ask ∷ []) × IsAskOf site post ask
one_ask site post [] are = absurd are
one_ask site post (ask ∷ []) are = (ask, refl, are.0)
one_ask site post (ask ∷ more ∷ asks) are = absurd are.1

one_answer : (answers : List Answer) → length answers ≡ 1 → (answer : Answer) × (answers ≡ answer ∷ [])
one_answer [] e = absurd (cc)
one_answer (answer ∷ []) e = (answer, refl)
one_answer (answer ∷ more ∷ answers) e = absurd (cc)

-- what came of a turn for one request alone
pub record Alone (origin : Origin) (worker : ℕ) (post : Posted) (xs ys : List Noted) (answers : List Answer) : Type 0 where
  pub answer : Answer
  pub one : answers ≡ answer ∷ []
  pub posted : IsPosted origin worker post xs ys answer

alone_step : (origin : Origin) (worker : ℕ) (post : Posted) (xs ys : List Noted) (answers : List Answer) (rest : List Posted) → IsStep origin worker (post ∷ []) xs ys answers rest → Alone origin worker post xs ys answers
alone_step origin worker post xs ys answers rest s =
    let first_is : s.first ≡ post ∷ [] = only post s.first rest s.some s.parts in
    let ask = one_ask origin.setup post s.asks (subst (λ (l : List Posted). AreAsksOf origin.setup l s.asks) first_is s.are) in
    let sub = s.submitted in
    let submits = sub.submits in
    let count = said_count origin.setup sub.outcomes answers sub.said ∙ steps_count origin.setup submits.end _ worker s.asks submits.taken sub.outcomes _ submits.notes submits.steps ∙ ap length ask.1 in
    let answer = one_answer answers count in
    let station : ℕ = ask.2.0 in
    let asks_is : s.asks ≡ ask_of station post ∷ [] = ask.1 ∙ ap (λ (a : Ask). a ∷ []) ask.2.2 in
    record {
      answer = answer.0;
      one = answer.1;
      posted = subst (λ (o : Option ℕ). IsPostedAs o origin worker post xs ys answer.0) (sym ask.2.1)
          (inl (subst (λ (l : List Answer). IsSubmitted origin worker (ask_of station post ∷ []) xs ys l) answer.1 (subst (λ (l : List Ask). IsSubmitted origin worker l xs ys answers) asks_is sub)));
    }

alone_unknown : (origin : Origin) (worker : ℕ) (post : Posted) (xs ys : List Noted) (answers : List Answer) (rest : List Posted) → IsUnknown origin (post ∷ []) xs ys answers rest → Alone origin worker post xs ys answers
alone_unknown origin worker post xs ys answers rest u =
    let same : u.post ≡ post = let e = u.parts in cc in
    record {
      answer = u.answer;
      one = u.one;
      posted = subst (λ (o : Option ℕ). IsPostedAs o origin worker post xs ys u.answer) (sym (ap (λ (p : Posted). station_of origin.setup p.station) (sym same) ∙ u.unknown)) u.told;
    }

pub turn_alone : (origin : Origin) (worker : ℕ) (post : Posted) (xs ys : List Noted) (answers : List Answer) (rest : List Posted) → TakesTurn origin worker (post ∷ []) xs ys answers rest → Alone origin worker post xs ys answers
turn_alone origin worker post xs ys answers rest (inl s) = alone_step origin worker post xs ys answers rest s
turn_alone origin worker post xs ys answers rest (inr (inl u)) = alone_unknown origin worker post xs ys answers rest u
turn_alone origin worker post xs ys answers rest (inr (inr idle)) = let none = idle.none in absurd (cc)

-- ---- what a POST asks

abbrev ask_from : ℕ → ℕ → Said → Result Ask AskFault
ask_from number station said = Ok (record { station = station; number = number; operator = said.operator; deed = said.deed })

abbrev with_said : Option ℕ → ℕ → Said → Result Ask AskFault
with_said None number said = Err NoStation
with_said (Some station) number said = Ok (record { station = station; number = number; operator = said.operator; deed = said.deed })

abbrev with_fault : Option ℕ → AskFault → AskFault
with_fault None fault = NoStation
with_fault (Some station) fault = fault

by_station_ok : (o : Option ℕ) (number : ℕ) (r : Result Said AskFault) (said : Said) → r ≡ Ok said
    → (or_no_station o >>= (λ (station : ℕ). r >>= (ask_from number station))) ≡ with_said o number said
by_station_ok None number r said e = refl
by_station_ok (Some station) number r said e = ap (λ (x : Result Said AskFault). x >>= (ask_from number station)) e

by_station_err : (o : Option ℕ) (number : ℕ) (r : Result Said AskFault) (fault : AskFault) → r ≡ Err fault
    → (or_no_station o >>= (λ (station : ℕ). r >>= (ask_from number station))) ≡ Err (with_fault o fault)
by_station_err None number r fault e = refl
by_station_err (Some station) number r fault e = ap (λ (x : Result Said AskFault). x >>= (ask_from number station)) e

-- a body that reads as a deed
asked_ok : (object : Result Data AskFault) (o : Option ℕ) (number : ℕ) (said : Said) → (object >>= (λ (d : Data). or_bad_deed (said_of d))) ≡ Ok said
    → (object >>= (λ (d : Data). or_no_station o >>= (λ (station : ℕ). or_bad_deed (said_of d) >>= (ask_from number station)))) ≡ with_said o number said
asked_ok (Ok d) o number said e = by_station_ok o number (or_bad_deed (said_of d)) said e
asked_ok (Err fault) o number said e = absurd (cc)

pub posted_ok : (site : Setup) (name : Text) (number : ℕ) (body : List ℕ) (said : Said) → body_of body ≡ Ok said → posted site name number body ≡ with_said (station_of site name) number said
unfolding body_of posted known_as
posted_ok site name number body said e = asked_ok (object_of body) (station_of site name) number said e

-- a body whose deed has a fault
no_line : (r : Result Said DeedFault) → or_bad_deed r ≡ Err BadLine → ⊥
no_line (Ok said) e = cc
no_line (Err fault) e = cc

asked_line : (object : Result Data AskFault) (o : Option ℕ) (number : ℕ) → (object >>= (λ (d : Data). or_bad_deed (said_of d))) ≡ Err BadLine
    → (object >>= (λ (d : Data). or_no_station o >>= (λ (station : ℕ). or_bad_deed (said_of d) >>= (ask_from number station)))) ≡ Err BadLine
asked_line (Ok d) o number e = absurd (no_line (said_of d) e)
asked_line (Err fault) o number e = let same : fault ≡ BadLine = cc in ap Err same

pub posted_line : (site : Setup) (name : Text) (number : ℕ) (body : List ℕ) → body_of body ≡ Err BadLine → posted site name number body ≡ Err BadLine
unfolding body_of posted known_as
posted_line site name number body e = asked_line (object_of body) (station_of site name) number e

line_fault : (o : Option Data) (fault : AskFault) → or_bad_line o ≡ Err fault → fault ≡ BadLine
line_fault None fault e = cc
line_fault (Some d) fault e = absurd (cc)

object_from : (o : Option Data) (fault : AskFault) → (or_bad_line o >>= (λ (d : Data). or_bad_line (if_members d (as_object d)))) ≡ Err fault → fault ≡ BadLine
object_from None fault e = cc
object_from (Some d) fault e = line_fault (if_members d (as_object d)) fault e

object_fault : (body : List ℕ) (fault : AskFault) → object_of body ≡ Err fault → fault ≡ BadLine
unfolding object_of
object_fault body fault e = object_from (json_of body) fault e

asked_bad : (object : Result Data AskFault) (o : Option ℕ) (number : ℕ) (broken : DeedFault) → ((fault : AskFault) → object ≡ Err fault → fault ≡ BadLine) → (object >>= (λ (d : Data). or_bad_deed (said_of d))) ≡ Err (BadDeed broken)
    → (object >>= (λ (d : Data). or_no_station o >>= (λ (station : ℕ). or_bad_deed (said_of d) >>= (ask_from number station)))) ≡ Err (with_fault o (BadDeed broken))
asked_bad (Ok d) o number broken lines e = by_station_err o number (or_bad_deed (said_of d)) (BadDeed broken) e
asked_bad (Err fault) o number broken lines e = let line = lines fault refl in absurd (cc)

pub posted_bad : (site : Setup) (name : Text) (number : ℕ) (body : List ℕ) (broken : DeedFault) → body_of body ≡ Err (BadDeed broken) → posted site name number body ≡ Err (with_fault (station_of site name) (BadDeed broken))
unfolding body_of posted known_as
posted_bad site name number body broken e = asked_bad (object_of body) (station_of site name) number broken (object_fault body) e

deed_fault : (r : Result Said DeedFault) → or_bad_deed r ≡ Err NoStation → ⊥
deed_fault (Ok said) e = cc
deed_fault (Err fault) e = cc

known_body : (object : Result Data AskFault) → ((fault : AskFault) → object ≡ Err fault → fault ≡ BadLine) → (object >>= (λ (d : Data). or_bad_deed (said_of d))) ≡ Err NoStation → ⊥
known_body (Ok d) lines e = deed_fault (said_of d) e
known_body (Err fault) lines e = let line = lines fault refl in cc

-- no body tells of a station
pub no_station : (body : List ℕ) → body_of body ≡ Err NoStation → ⊥
unfolding body_of
no_station body e = known_body (object_of body) (object_fault body) e

-- ---- answers to a POST

-- one whose body was read
pub answers_read : (origin : Origin) (worker : ℕ) (post : Posted) (xs ys : List Noted) (said : Answer) → IsPosted origin worker post xs ys said → Posts origin worker (with_said (station_of origin.setup post.station) post.number post.said) xs ys said
answers_read origin worker post xs ys said is = by_station (station_of origin.setup post.station) is
  where
    by_station : (o : Option ℕ) → IsPostedAs o origin worker post xs ys said → Posts origin worker (with_said o post.number post.said) xs ys said
    by_station None told = told
    by_station (Some station) posts = posts

-- one whose deed has a fault
pub answers_unread : (origin : Origin) (worker : ℕ) (o : Option ℕ) (fault : AskFault) (xs ys : List Noted) (said : Answer) → IsToldFirst o fault xs ys said → Posts origin worker (Err (with_fault o fault)) xs ys said
answers_unread origin worker None fault xs ys said told = told
answers_unread origin worker (Some station) fault xs ys said told = told

-- ---- turns of groups

first_none : (site : Setup) (first : List Posted) → AreAsksOf site first [] → first ≡ []
first_none site [] are = refl
first_none site (post ∷ posts) are = absurd are

-- no step was taken
pub left_turn : (origin : Origin) (worker : ℕ) (posts mid : List Posted) (asks : List Ask) (xs : List Noted) (answers : List Answer) (rest : List Posted) → AreTaken origin.setup posts asks mid → asks ≡ [] → first_station origin.setup mid ≡ None → IsLeft mid answers rest
    → TakesTurn origin worker posts xs xs answers rest
left_turn origin worker posts mid asks xs answers rest t none unknown left =
    let empty : t.first ≡ [] = first_none origin.setup t.first (subst (AreAsksOf origin.setup t.first) none t.are) in
    by_first mid (t.parts ∙ ap (λ (l : List Posted). l ++ mid) empty) unknown left
  where
    by_first : (mid : List Posted) → posts ≡ mid → first_station origin.setup mid ≡ None → IsLeft mid answers rest → TakesTurn origin worker posts xs xs answers rest
    by_first [] parts unknown left = inr (inr (record { none = parts; no_answers = left.0; no_rest = left.1; same = refl }))
    by_first (post ∷ others) parts unknown left = inr (inl (record { post = post; answer = left.0; parts = parts ∙ ap (λ (l : List Posted). post ∷ l) (sym left.3); unknown = unknown; one = left.1; told = (refl, left.2) }))

asks_none : (site : Setup) (first : List Posted) (asks : List Ask) → AreAsksOf site first asks → first ≡ [] → asks ≡ []
asks_none site [] [] are none = refl
asks_none site [] (ask ∷ asks) are none = absurd are
asks_none site (post ∷ posts) asks are none = absurd (cc)

-- one step was taken
pub step_turn : (origin : Origin) (worker : ℕ) (posts : List Posted) (asks : List Ask) (xs ys : List Noted) (outcomes : List Outcome) (answers : List Answer) (rest : List Posted) → TakesSome origin.setup posts asks rest → asks ≢ [] → Submits origin worker asks xs ys outcomes → AreSaid origin.setup outcomes answers
    → TakesTurn origin worker posts xs ys answers rest
step_turn origin worker posts asks xs ys outcomes answers rest takes some submits said = let t = takes.taken in inl (record {
  first = t.first;
  asks = asks;
  some = λ none. some (asks_none origin.setup t.first asks t.are none);
  parts = t.parts;
  stopped = takes.stopped;
  are = t.are;
  submitted = record { outcomes = outcomes; submits = submits; said = said };
})

pub nothing_long : (asks : List Ask) → length asks ≡ 0 → asks ≡ []
nothing_long [] is = refl
nothing_long (ask ∷ asks) is = absurd (omega (arith, is))

pub something : (asks : List Ask) → (length asks ≡ 0 → ⊥) → asks ≢ []
something asks some none = some (ap length none)

-- memory was wanting before a turn
pub wanting : (origin : Origin) (worker : ℕ) (post : Posted) (seen : List Noted) (said : Answer) → said ≡ fixed Memory → IsPosted origin worker post seen seen said
wanting origin worker post seen said is = by_station (station_of origin.setup post.station)
  where
    by_station : (o : Option ℕ) → IsPostedAs o origin worker post seen seen said
    by_station None = (refl, inr is)
    by_station (Some station) = inr (refl, inl is)

pub wanting_post : (origin : Origin) (worker : ℕ) (asked : Result Ask AskFault) (seen : List Noted) (said : Answer) → said ≡ fixed Memory → Posts origin worker asked seen seen said
wanting_post origin worker (Ok ask) seen said is = inr (refl, inl is)
wanting_post origin worker (Err fault) seen said is = (refl, inr is)

pub last_is : (rest : List Answer) (x y : Answer) → rest ++ y ∷ [] ≡ x ∷ [] → y ≡ x
last_is [] x y e = cc
last_is (z ∷ []) x y e = absurd (cc)
last_is (z ∷ w ∷ rest) x y e = absurd (cc)

-- the fault that is due
pub due_is : (due : Result Said AskFault) (told fault : AskFault) → told ≡ fault → (fault ≡ ask.Memory → ⊥) → (told ≡ ask.Memory) ⊎ (due ≡ Err told) → due ≡ Err fault
due_is due told fault is other (inl memory) = absurd (other (sym is ∙ memory))
due_is due told fault is other (inr same) = same ∙ ap Err is

-- what a request asks whose body was read
pub read_asks : (site : Setup) (name : Text) (number : ℕ) (body : List ℕ) (post : Posted) → body_of body ≡ Ok post.said → post.station ≡ name → post.number ≡ number → posted site name number body ≡ with_said (station_of site post.station) post.number post.said
read_asks site name number body post said station is =
    posted_ok site name number body post.said said
    ∙ ap (λ (n : Text). with_said (station_of site n) number post.said) (sym station)
    ∙ ap (λ (n : ℕ). with_said (station_of site post.station) n post.said) (sym is)
