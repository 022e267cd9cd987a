-- A turn for gathered requests: the first of them are answered.
use Rattle.std.proofs.Common.{◌≡◌, ◌≢◌, ◌+◌, ◌<◌, ◌≤◌, ℕ, suc, Bool, true, false, List, [], ◌∷◌, ◌++◌, length, Result, Ok, inl, inr, refl, sym, ap, ◌∙◌, subst, arith}
use Rattle.std.specs.Prelude.{◌==◌, ◌&&◌}
use Rattle.std.proofs.lemmas.List.{length-append}
use Rattle.deed_words.specs.Setups.{Setup}
use Rattle.deed_words.specs.declared.entry.Ask.{Ask}
use Rattle.deed_json.specs.declared.ask.AskFault.{AskFault}
use Rattle.http_routes.specs.declared.target.Target.{Target}
use Rattle.turn_desk.specs.declared.view.Noted.{Noted}
use Rattle.turn_desk.specs.declared.view.Origin.{Origin}
use Rattle.station_http.specs.declared.asked.Asked.{Asked}
use Rattle.site_answers.specs.Saying.{Answer, text_of}
use Rattle.site_turns.specs.Answering.{Answers, IsSubmitted, Posts}
use Rattle.site_turns.specs.Groups.{AllAskFor, AnswersAll, AsksFor}
use Rattle.site_turns.specs.Posted.{Posted}
use Rattle.site_turns.specs.Posts.{AreAsksOf, IsAskOf}
use Rattle.site_turns.specs.Turns.{IsPosted, IsStep, IsUnknown, TakesTurn}
use Rattle.site_turns.proofs.Counted.{said_count, steps_count}
use Rattle.site_turns.proofs.Turning.{answers_read, read_asks, turn_alone}
use Rattle.site_server.specs.Exchanges.{texts_of}
use Rattle.site_server.specs.Gathered.{ArePosts, CloseAs, IsPostOf, texts_to}

-- ---- requests and posts, one for one

pub posts_count : (asks : List Asked) (posts : List Posted) → ArePosts asks posts → length asks ≡ length posts
posts_count [] [] are = refl
posts_count (a ∷ asks) (p ∷ posts) are = ap suc (posts_count asks posts are.1)
posts_count [] (p ∷ posts) are = absurd are
posts_count (a ∷ asks) [] are = absurd are

pub no_posts : (asks : List Asked) (posts : List Posted) → ArePosts asks posts → posts ≡ [] → asks ≡ []
no_posts [] posts are none = refl
no_posts (a ∷ asks) [] are none = absurd are
no_posts (a ∷ asks) (p ∷ posts) are none = absurd (cc)

pub posts_more : (asks : List Asked) (posts : List Posted) (asked : Asked) (post : Posted) → ArePosts asks posts → IsPostOf asked post → ArePosts (asks ++ asked ∷ []) (posts ++ post ∷ [])
posts_more [] [] asked post are is = (is, tt)
posts_more (a ∷ asks) (p ∷ posts) asked post are is = (are.0, posts_more asks posts asked post are.1 is)
posts_more [] (p ∷ posts) asked post are is = absurd are
posts_more (a ∷ asks) [] asked post are is = absurd are

-- the requests of the first posts, and the others
pub record Split (asks : List Asked) (first rest : List Posted) : Type 0 where
  pub some : List Asked
  pub more : List Asked
  pub parts : asks ≡ some ++ more
  pub first_are : ArePosts some first
  pub rest_are : ArePosts more rest

pub split_posts : (asks : List Asked) (first rest : List Posted) → ArePosts asks (first ++ rest) → Split asks first rest
split_posts asks [] rest are = record { some = []; more = asks; parts = refl; first_are = tt; rest_are = are }
split_posts [] (p ∷ first) rest are = absurd are
split_posts (a ∷ asks) (p ∷ first) rest are =
    let s = split_posts asks first rest are.1 in
    record { some = a ∷ s.some; more = s.more; parts = ap (λ (l : List Asked). a ∷ l) s.parts; first_are = (are.0, s.first_are); rest_are = s.rest_are }

-- ---- which answer is the last

both_none : (m n : ℕ) → (m + n == 0) ≡ ((n == 0) && (m == 0))
both_none m n = grind arith

pub close_front : (last : Bool) (some more : List Asked) → CloseAs last (some ++ more) → CloseAs (last && (length more == 0)) some
close_front last [] more close = tt
close_front last (a ∷ some) more close = (close.0 ∙ at last (length more) (length some) (length (some ++ more)) (length-append some more), close_front last some more close.1)
  where
    at : (last : Bool) (m s n : ℕ) → n ≡ s + m → (last && (n == 0)) ≡ ((last && (m == 0)) && (s == 0))
    at true m s n sum = ap (λ (k : ℕ). k == 0) sum ∙ both_none s m
    at false m s n sum = refl

pub close_rest : (last : Bool) (some more : List Asked) → CloseAs last (some ++ more) → CloseAs last more
close_rest last [] more close = close
close_rest last (a ∷ some) more close = close_rest last some more close.1

-- none is the last but the one behind them
pub close_more : (last : Bool) (asks : List Asked) (asked : Asked) → CloseAs false asks → asked.close ≡ last → CloseAs last (asks ++ asked ∷ [])
close_more true [] asked close is = (is, tt)
close_more false [] asked close is = (is, tt)
close_more last (a ∷ asks) asked close is = (close.0 ∙ sym (not_last last (length (asks ++ asked ∷ [])) (length asks) (length-append asks (asked ∷ []))), close_more last asks asked close.1 is)
  where
    not_last : (last : Bool) (n m : ℕ) → n ≡ m + 1 → (last && (n == 0)) ≡ false
    not_last false n m is = refl
    not_last true n m is = grind arith

-- the texts of their answers
pub texts_same : (asks : List Asked) (answers : List Answer) (last : Bool) → CloseAs last asks → length answers ≡ length asks → texts_of asks answers ≡ texts_to answers last
texts_same [] [] last close count = refl
texts_same [] (x ∷ answers) last close count = absurd (cc)
texts_same (a ∷ asks) [] last close count = absurd (cc)
texts_same (a ∷ asks) (x ∷ answers) last close count =
    let rest : length answers ≡ length asks = cc in
    ap (λ (b : Bool). text_of x b ++ texts_of asks answers) (close.0 ∙ ap (λ (n : ℕ). last && (n == 0)) (sym rest))
    ∙ ap (λ (l : List ℕ). text_of x (last && (length answers == 0)) ++ l) (texts_same asks answers last close.1 rest)

-- ---- what they are answered

-- one by itself
pub one_answered : (origin : Origin) (worker : ℕ) (asked : Asked) (post : Posted) (xs ys : List Noted) (said : Answer) → IsPostOf asked post → IsPosted origin worker post xs ys said → AnswersAll origin worker (asked ∷ []) xs ys (said ∷ [])
one_answered origin worker asked post xs ys said is given =
    subst (λ (target : Target). Answers origin worker target asked.body xs ys said) (sym is.0)
    (subst (λ (due : Result Ask AskFault). Posts origin worker due xs ys said) (sym (read_asks origin.setup post.station post.number asked.body post is.1 refl refl)) (answers_read origin worker post xs ys said given))

asks_for : (site : Setup) (asked : Asked) (post : Posted) (ask : Ask) → IsPostOf asked post → IsAskOf site post ask → AsksFor site asked ask
asks_for site asked post ask is of =
    let due = read_asks site post.station post.number asked.body post is.1 refl refl in
    (post.station, post.number, is.0, rw of.1 at due ∙ ap Ok (sym of.2))

all_ask_for : (site : Setup) (asks : List Asked) (posts : List Posted) (of : List Ask) → ArePosts asks posts → AreAsksOf site posts of → AllAskFor site asks of
all_ask_for site [] [] [] are of = tt
all_ask_for site [] [] (o ∷ of) are all = absurd all
all_ask_for site [] (p ∷ posts) of are all = absurd are
all_ask_for site (a ∷ asks) [] of are all = absurd are
all_ask_for site (a ∷ asks) (p ∷ posts) [] are all = absurd all
all_ask_for site (a ∷ asks) (p ∷ posts) (o ∷ of) are all = (asks_for site a p o are.0 all.0, all_ask_for site asks posts of are.1 all.1)

asks_count : (site : Setup) (posts : List Posted) (of : List Ask) → AreAsksOf site posts of → length of ≡ length posts
asks_count site [] [] all = refl
asks_count site (p ∷ posts) (o ∷ of) all = ap suc (asks_count site posts of all.1)
asks_count site [] (o ∷ of) all = absurd all
asks_count site (p ∷ posts) [] all = absurd all

-- the first of the requests were answered
pub record Firsts (origin : Origin) (worker : ℕ) (asks : List Asked) (xs ys : List Noted) (answers : List Answer) (rest : List Posted) : Type 0 where
  pub first : List Asked
  pub more : List Asked
  pub parts : asks ≡ first ++ more
  pub some : first ≢ []
  pub others : ArePosts more rest
  pub count : length answers ≡ length first
  pub all : AnswersAll origin worker first xs ys answers

-- by one step
group_answered : (origin : Origin) (worker : ℕ) (some : List Asked) (first : List Posted) (of : List Ask) (xs ys : List Noted) (answers : List Answer)
    → first ≢ [] → length some ≤ 16 → ArePosts some first → AreAsksOf origin.setup first of → IsSubmitted origin worker of xs ys answers → AnswersAll origin worker some xs ys answers
group_answered origin worker [] [] of xs ys answers there few are all sub = absurd (there refl)
group_answered origin worker [] (p ∷ first) of xs ys answers there few are all sub = absurd are
group_answered origin worker (a ∷ some) [] of xs ys answers there few are all sub = absurd are
group_answered origin worker (a ∷ []) (p ∷ q ∷ first) of xs ys answers there few are all sub = absurd are.1
group_answered origin worker (a ∷ []) (p ∷ []) of xs ys answers there few are all sub =
    let alone = turn_alone origin worker p xs ys answers [] (inl (record { first = p ∷ []; asks = of; some = there; parts = refl; stopped = refl; are = all; submitted = sub })) in
    subst (λ (l : List Answer). AnswersAll origin worker (a ∷ []) xs ys l) (sym alone.one) (one_answered origin worker a p xs ys alone.answer are.0 alone.posted)
group_answered origin worker (a ∷ b ∷ some) (p ∷ first) of xs ys answers there few are all sub = record { asks = of; ask_for = all_ask_for origin.setup (a ∷ b ∷ some) (p ∷ first) of are all; few = few; submitted = sub }

nothing : (some : List Asked) (first : List Posted) → ArePosts some first → first ≢ [] → some ≢ []
nothing [] [] are there = λ none. there refl
nothing [] (p ∷ first) are there = absurd are
nothing (a ∷ some) first are there = λ none. cc

stepped : (origin : Origin) (worker : ℕ) (asks : List Asked) (posts : List Posted) (xs ys : List Noted) (answers : List Answer) (rest : List Posted) → ArePosts asks posts → length posts ≤ 16 → IsStep origin worker posts xs ys answers rest → Firsts origin worker asks xs ys answers rest
stepped origin worker asks posts xs ys answers rest are few s =
    let t = split_posts asks s.first rest (subst (ArePosts asks) s.parts are) in
    let same = posts_count t.some s.first t.first_are in
    let all = ap length s.parts in
    let sum = length-append s.first rest in
    let sub = s.submitted in
    let submits = sub.submits in
    let due = said_count origin.setup sub.outcomes answers sub.said ∙ steps_count origin.setup submits.end _ worker s.asks submits.taken sub.outcomes _ submits.notes submits.steps ∙ asks_count origin.setup s.first s.asks s.are in
    record {
      first = t.some;
      more = t.more;
      parts = t.parts;
      some = nothing t.some s.first t.first_are s.some;
      others = t.rest_are;
      count = due ∙ sym same;
      all = group_answered origin worker t.some s.first s.asks xs ys answers s.some (omega (arith, same, all, sum, few)) t.first_are s.are sub;
    }

-- the first one alone
pub one_first : (origin : Origin) (worker : ℕ) (asks : List Asked) (post : Posted) (rest : List Posted) (xs ys : List Noted) (answers : List Answer) (answer : Answer)
    → ArePosts asks (post ∷ rest) → answers ≡ answer ∷ [] → IsPosted origin worker post xs ys answer → Firsts origin worker asks xs ys answers rest
one_first origin worker [] post rest xs ys answers answer are one given = absurd are
one_first origin worker (a ∷ asks) post rest xs ys answers answer are one given = record {
  first = a ∷ [];
  more = asks;
  parts = refl;
  some = λ none. cc;
  others = are.1;
  count = ap length one;
  all = subst (λ (l : List Answer). AnswersAll origin worker (a ∷ []) xs ys l) (sym one) (one_answered origin worker a post xs ys answer are.0 given);
}

unknown : (origin : Origin) (worker : ℕ) (asks : List Asked) (posts : List Posted) (xs ys : List Noted) (answers : List Answer) (rest : List Posted) → ArePosts asks posts → IsUnknown origin posts xs ys answers rest → Firsts origin worker asks xs ys answers rest
unknown origin worker asks posts xs ys answers rest are u =
    let alone = turn_alone origin worker u.post xs ys answers [] (inr (inl (record { post = u.post; answer = u.answer; parts = refl; unknown = u.unknown; one = u.one; told = u.told }))) in
    one_first origin worker asks u.post rest xs ys answers alone.answer (subst (ArePosts asks) u.parts are) alone.one alone.posted

-- a turn for them
pub turn_firsts : (origin : Origin) (worker : ℕ) (asks : List Asked) (posts : List Posted) (xs ys : List Noted) (answers : List Answer) (rest : List Posted)
    → ArePosts asks posts → posts ≢ [] → length posts ≤ 16 → TakesTurn origin worker posts xs ys answers rest → Firsts origin worker asks xs ys answers rest
turn_firsts origin worker asks posts xs ys answers rest are there few (inl s) = stepped origin worker asks posts xs ys answers rest are few s
turn_firsts origin worker asks posts xs ys answers rest are there few (inr (inl u)) = unknown origin worker asks posts xs ys answers rest are u
turn_firsts origin worker asks posts xs ys answers rest are there few (inr (inr idle)) = absurd (there idle.none)

some_long : (first : List Posted) → first ≢ [] → 0 < length first
some_long [] there = absurd (there refl)
some_long (p ∷ first) there = omega arith

-- it leaves fewer
pub turn_fewer : (origin : Origin) (worker : ℕ) (posts : List Posted) (xs ys : List Noted) (answers : List Answer) (rest : List Posted) → posts ≢ [] → TakesTurn origin worker posts xs ys answers rest → length rest < length posts
turn_fewer origin worker posts xs ys answers rest there (inl s) = let long = some_long s.first s.some in let all = ap length s.parts in let sum = length-append s.first rest in omega (arith, long, all, sum)
turn_fewer origin worker posts xs ys answers rest there (inr (inl u)) = let all = ap length u.parts in omega (arith, all)
turn_fewer origin worker posts xs ys answers rest there (inr (inr idle)) = absurd (there idle.none)
