-- Gathered requests are answered, turn by turn.
use Rattle.std.proofs.Common.{◌≡◌, ◌≢◌, ℕ, Bool, true, false, List, [], ◌∷◌, ◌++◌, length, map, drop, Option, Result, Ok, Err, is_err, OnOk, sym, refl, ap, ◌∙◌, subst, append_assoc, append-nil}
use Rattle.std.specs.Prelude.{◌==◌, ◌&&◌}
use Rattle.std.specs.List.{concat}
use Rattle.std.specs.Io.KnownBytes.{Appends}
use Rattle.std.proofs.KnownBytes.{Appends-nil, Appends-trans}
use Rattle.outside.specs.Devices.{Puts}
use Rattle.turn_desk.specs.declared.view.Noted.{Noted}
use Rattle.turn_desk.specs.declared.view.Origin.{Origin}
use Rattle.turn_desk.specs.Notes.{Turned}
use Rattle.station_http.specs.declared.asked.Asked.{Asked}
use Rattle.station_http.specs.Puts.{IsPart, IsPutOf}
use Rattle.site_answers.specs.Saying.{Answer, text_of}
use Rattle.site_turns.specs.Answering.{Answers}
use Rattle.site_turns.specs.Groups.{AnswersAll}
use Rattle.site_turns.specs.Posted.{Posted}
use Rattle.site_server.specs.Exchanges.{Exchange, AreGiven, asks_of, text_in}
use Rattle.site_server.specs.Gathered.{AreAnswered, ArePosts, CloseAs, IsExchanged, texts_to}
use Rattle.site_server.specs.Serving.{IsPut}
use Rattle.site_server.proofs.Goings.{given_all, part_behind, parts_all, texts_all, texts_put}
use Rattle.site_server.proofs.Grouping.{Firsts, close_front, close_rest, no_posts, posts_count, texts_same}

-- what a turn answered, and what was put of it
pub exchanged : {T E : Type 0} (origin : Origin) (worker : ℕ) (asks : List Asked) (rest : List Posted) (last : Bool) (held held' : Option (List ℕ)) (seen seen' : List Noted) (answers : List Answer) (text : List ℕ) (result : Result T E)
    → CloseAs last asks → Turned worker seen seen' (λ xs ys. Firsts origin worker asks xs ys answers rest) → text ≡ texts_to answers (last && (length rest == 0)) → Puts held held' (λ put. IsPutOf text result put)
    → IsExchanged origin worker asks rest held held' seen seen' result
exchanged {T} {E} origin worker asks rest last held held' seen seen' answers text result close t is p =
    let f = t.5 in
    let x : Exchange = record { asks = f.first; answers = answers; others = t.0; mine = t.1 } in
    let count = posts_count f.more rest f.others in
    let front : CloseAs (last && (length rest == 0)) f.first =
    subst (λ (n : ℕ). CloseAs (last && (n == 0)) f.first) count (close_front last f.first f.more (subst (CloseAs last) f.parts close)) in
    let texts = texts_same f.first answers (last && (length rest == 0)) front f.count in
    record {
      exchange = x;
      rest = f.more;
      parts = f.parts;
      given = record {
        some = f.some;
        others = t.3;
        mine = t.4;
        answers = subst (λ (ys : List Noted). AnswersAll origin worker f.first (seen ++ t.0) ys answers) t.2 f.all;
      };
      grown = t.2;
      put = (p.0, p.1, subst (λ (l : List ℕ). IsPutOf l result p.0) (is ∙ sym texts) p.2);
      others = f.others;
    }

-- ---- one turn after the other

-- the first of the requests were answered, and these are left
pub record Answering (origin : Origin) (worker : ℕ) (asks : List Asked) (last : Bool) (left : List Posted) (held held' : Option (List ℕ)) (seen seen' : List Noted) : Type 0 where
  pub exchanges : List Exchange
  pub rest : List Asked
  pub parts : asks ≡ asks_of exchanges ++ rest
  pub close : CloseAs last rest
  pub others : ArePosts rest left
  pub given : AreGiven origin worker seen exchanges seen'
  pub to : Appends held held' (concat (map text_in exchanges))

module _ (origin : Origin) (worker : ℕ) (asks : List Asked) (last : Bool) (held : Option (List ℕ)) (seen : List Noted) where
  pub none_answered : (left : List Posted) → ArePosts asks left → CloseAs last asks → Answering origin worker asks last left held held seen seen
  none_answered left are close = record { exchanges = []; rest = asks; parts = refl; close = close; others = are; given = refl; to = Appends-nil held }

  parts_more : (xs : List Exchange) (x : Exchange) (rest more : List Asked) → asks ≡ asks_of xs ++ rest → rest ≡ x.asks ++ more → asks ≡ asks_of (xs ++ x ∷ []) ++ more
  parts_more xs x rest more all is = all ∙ parts_all xs (x ∷ []) rest more (is ∙ ap (λ (l : List Asked). l ++ more) (sym (append-nil x.asks)))

  -- one turn more
  pub answering_more : {T E : Type 0} (value : T) (w : ℕ) (left left' : List Posted) (held1 held2 : Option (List ℕ)) (seen1 seen2 : List Noted) → Answering origin worker asks last left held held1 seen seen1 → w ≡ worker
      → ((asked : List Asked) → ArePosts asked left → CloseAs last asked → IsExchanged {T = T} {E = E} origin w asked left' held1 held2 seen1 seen2 (Ok value)) → Answering origin worker asks last left' held held2 seen seen2
  answering_more {T} {E} value w left left' held1 held2 seen1 seen2 s same next =
      let e : IsExchanged {T = T} {E = E} origin worker s.rest left' held1 held2 seen1 seen2 (Ok value) =
      subst (λ (k : ℕ). IsExchanged {T = T} {E = E} origin k s.rest left' held1 held2 seen1 seen2 (Ok value)) same (next s.rest s.others s.close) in
      record {
        exchanges = s.exchanges ++ e.exchange ∷ [];
        rest = e.rest;
        parts = parts_more s.exchanges e.exchange s.rest e.rest s.parts e.parts;
        close = close_rest last e.exchange.asks e.rest (subst (CloseAs last) e.parts s.close);
        others = e.others;
        given = given_all origin worker s.exchanges (e.exchange ∷ []) seen seen1 seen2 s.given (e.given, e.grown);
        to = texts_put s.exchanges (e.exchange ∷ []) held held1 held2 e.put.0 s.to e.put.1 (e.put.2 ∙ sym (append-nil (text_in e.exchange)));
      }

  -- none is left
  pub answered_whole : {T E : Type 0} (value : T) (left : List Posted) (held1 : Option (List ℕ)) (seen1 : List Noted) → Answering origin worker asks last left held held1 seen seen1 → left ≡ []
      → AreAnswered {T = T} {E = E} origin worker asks left held held1 seen seen1 (Ok value)
  answered_whole {T} {E} value left held1 seen1 s none =
      let all = no_posts s.rest left s.others none in
      record {
        exchanges = s.exchanges;
        rest = s.rest;
        parts = s.parts;
        given = s.given;
        put = (concat (map text_in s.exchanges), s.to, refl);
        others = (s.others, subst (CloseAs false) (sym all) tt);
      }

  -- a put failed
  pub answered_part : {T E : Type 0} (fault : E) (w : ℕ) (left left' : List Posted) (held1 held2 : Option (List ℕ)) (seen1 seen2 : List Noted) → Answering origin worker asks last left held held1 seen seen1 → w ≡ worker
      → ((asked : List Asked) → ArePosts asked left → CloseAs last asked → IsExchanged {T = T} {E = E} origin w asked left' held1 held2 seen1 seen2 (Err fault)) → AreAnswered {T = T} {E = E} origin worker asks left' held held2 seen seen2 (Err fault)
  answered_part {T} {E} fault w left left' held1 held2 seen1 seen2 s same next =
      let e : IsExchanged {T = T} {E = E} origin worker s.rest left' held1 held2 seen1 seen2 (Err fault) =
      subst (λ (k : ℕ). IsExchanged {T = T} {E = E} origin k s.rest left' held1 held2 seen1 seen2 (Err fault)) same (next s.rest s.others s.close) in
      record {
        exchanges = s.exchanges ++ e.exchange ∷ [];
        rest = e.rest;
        parts = parts_more s.exchanges e.exchange s.rest e.rest s.parts e.parts;
        given = given_all origin worker s.exchanges (e.exchange ∷ []) seen seen1 seen2 s.given (e.given, e.grown);
        put = (
          concat (map text_in s.exchanges) ++ e.put.0,
          Appends-trans held held1 held2 (concat (map text_in s.exchanges)) e.put.0 s.to e.put.1,
          (map text_in s.exchanges, text_in e.exchange, e.put.0, texts_all s.exchanges (e.exchange ∷ []), refl, e.put.2),
        );
        others = tt;
      }

-- ---- requests of which some wait

-- no more is answered yet
pub gathered_on : {T E : Type 0} (origin : Origin) (worker : ℕ) (held : Option (List ℕ)) (seen : List Noted) (value : T) (asks : List Asked) (left : List Posted) → ArePosts asks left → CloseAs false asks
    → AreAnswered {T = T} {E = E} origin worker asks left held held seen seen (Ok value)
gathered_on origin worker held seen value asks left are close = record { exchanges = []; rest = asks; parts = refl; given = refl; put = ([], Appends-nil held, refl); others = (are, close) }

-- one more wasn't reached
pub answered_less : {T E : Type 0} (origin : Origin) (worker : ℕ) (held held' : Option (List ℕ)) (seen seen' : List Noted) (fault : E) (asks more : List Asked) (left : List Posted)
    → AreAnswered {T = T} {E = E} origin worker asks left held held' seen seen' (Err fault) → AreAnswered {T = T} {E = E} origin worker (asks ++ more) left held held' seen seen' (Err fault)
answered_less origin worker held held' seen seen' fault asks more left a = record {
  exchanges = a.exchanges;
  rest = a.rest ++ more;
  parts = ap (λ (l : List Asked). l ++ more) a.parts ∙ append_assoc (asks_of a.exchanges) a.rest more;
  given = a.given;
  put = a.put;
  others = tt;
}

module _ {T E : Type 0} (origin : Origin) (worker : ℕ) (held0 held1 held2 : Option (List ℕ)) (seen0 seen1 seen2 : List Noted) where
  both_put : (xs ys : List Exchange) (result : Result T E) → Appends held0 held1 (concat (map text_in xs)) → Puts held1 held2 (λ put. IsPut (is_err result) (map text_in ys) put) → Puts held0 held2 (λ put. IsPut (is_err result) (map text_in (xs ++ ys)) put)
  both_put xs ys (Ok value) to p = (concat (map text_in (xs ++ ys)), texts_put xs ys held0 held1 held2 p.0 to p.1 p.2, refl)
  both_put xs ys (Err fault) to p = (concat (map text_in xs) ++ p.0, Appends-trans held0 held1 held2 (concat (map text_in xs)) p.0 to p.1, part_behind xs ys p.0 p.2)

  -- all were, and then others
  pub answered_both : {F : Type 0} (value : T) (asks more : List Asked) (left : List Posted) (result : Result T E) → AreAnswered {T = T} {E = F} origin worker asks left held0 held1 seen0 seen1 (Ok value) → left ≡ []
      → AreAnswered {T = T} {E = E} origin worker more [] held1 held2 seen1 seen2 result → AreAnswered {T = T} {E = E} origin worker (asks ++ more) left held0 held2 seen0 seen2 result
  answered_both {F} value asks more left result a none b =
      let all : asks ≡ asks_of a.exchanges = a.parts ∙ (ap (λ (l : List Asked). asks_of a.exchanges ++ l) (no_posts a.rest left a.others.0 none) ∙ append-nil (asks_of a.exchanges)) in
      subst (λ (l : List Posted). AreAnswered {T = T} {E = E} origin worker (asks ++ more) l held0 held2 seen0 seen2 result) (sym none)
      record {
        exchanges = a.exchanges ++ b.exchanges;
        rest = b.rest;
        parts = ap (λ (l : List Asked). l ++ more) all ∙ parts_all a.exchanges b.exchanges more b.rest b.parts;
        given = given_all origin worker a.exchanges b.exchanges seen0 seen1 seen2 a.given b.given;
        put = both_put a.exchanges b.exchanges result (subst (λ (l : List ℕ). Appends held0 held1 l) a.put.2 a.put.1) b.put;
        others = b.others;
      }

-- ---- a request by itself

one_text : (said : Answer) (last : Bool) → text_of said last ≡ texts_to (said ∷ []) last
one_text said true = sym (append-nil (text_of said true))
one_text said false = sym (append-nil (text_of said false))

-- what a single answer puts
pub single_text : (said : Answer) (last end : Bool) → end ≡ last → text_of said end ≡ texts_to (said ∷ []) last
single_text said last end is = ap (λ (b : Bool). text_of said b) is ∙ one_text said last

one_put : {T E : Type 0} (asked : Asked) (said : Answer) (others mine : List Noted) (held held' : Option (List ℕ)) (result : Result T E) → Puts held held' (λ put. IsPutOf (text_of said asked.close) result put)
    → Puts held held' (λ put. IsPut (is_err result) (map text_in (record { asks = asked ∷ []; answers = said ∷ []; others = others; mine = mine } ∷ [])) put)
one_put asked said others mine held held' (Ok value) p =
    let text = text_of said asked.close in (p.0, p.1, p.2 ∙ (sym (append-nil text) ∙ sym (append-nil (text ++ []))))
one_put asked said others mine held held' (Err fault) p =
    let text = text_of said asked.close in (p.0, p.1, ([], text ++ [], p.0, refl, refl, subst (IsPart p.0) (sym (append-nil text)) p.2))

none_waits : {T E : Type 0} (result : Result T E) → OnOk result (ArePosts [] [] × CloseAs false [])
none_waits (Ok value) = (tt, tt)
none_waits (Err fault) = tt

pub alone_answered : {T E : Type 0} (origin : Origin) (worker : ℕ) (asked : Asked) (said : Answer) (body : List ℕ) (held held' : Option (List ℕ)) (seen seen' : List Noted) (result : Result T E) → body ≡ asked.body
    → Turned worker seen seen' (λ xs ys. Answers origin worker asked.target body xs ys said) → Puts held held' (λ put. IsPutOf (text_of said asked.close) result put) → AreAnswered {T = T} {E = E} origin worker (asked ∷ []) [] held held' seen seen' result
alone_answered {T} {E} origin worker asked said body held held' seen seen' result is turned p =
    let t : Turned worker seen seen' (λ xs ys. Answers origin worker asked.target asked.body xs ys said) = subst (λ (b : List ℕ). Turned worker seen seen' (λ xs ys. Answers origin worker asked.target b xs ys said)) is turned in
    record {
      exchanges = record { asks = asked ∷ []; answers = said ∷ []; others = t.0; mine = t.1 } ∷ [];
      rest = [];
      parts = refl;
      given = (record { some = λ none. cc; others = t.3; mine = t.4; answers = subst (λ (ys : List Noted). Answers origin worker asked.target asked.body (seen ++ t.0) ys said) t.2 t.5 }, t.2);
      put = one_put asked said t.0 t.1 held held' result p;
      others = none_waits result;
    }

-- the first post, and those behind it
pub popped : (posts rest : List Posted) → posts ≢ [] → rest ≡ drop 1 posts → (post : Posted) × (posts ≡ post ∷ rest)
popped [] rest there is = absurd (there refl)
popped (post ∷ posts) rest there is = (post, ap (λ (l : List Posted). post ∷ l) (sym is))
