-- A session, exchange by exchange.
use Rattle.std.proofs.Common.{◌≡◌, ◌⊎◌, inl, inr, ◌+◌, ◌-◌, ◌<◌, ◌≤◌, ℕ, true, false, List, [], ◌∷◌, ◌++◌, length, map, Option, Some, Result, Ok, sym, refl, ap, ◌∙◌, subst, subst₂, arith, append_assoc, append-nil}
use Rattle.std.specs.List.{concat}
use Rattle.std.specs.Io.KnownBytes.{Consumes, Appends}
use Rattle.std.proofs.KnownBytes.{Appends-nil, Appends-trans}
use Rattle.std.proofs.lemmas.List.{length-append}
use Rattle.outside.specs.Causes.{Rose}
use Rattle.turn_desk.specs.declared.view.Noted.{Noted}
use Rattle.turn_desk.specs.declared.view.Origin.{Origin}
use Rattle.station_http.specs.declared.fault.HttpFault.{HttpFault}
use Rattle.station_http.specs.declared.asked.Asked.{Asked}
use Rattle.station_http.specs.declared.stage.Stage.{Stage}
use Rattle.station_http.specs.declared.stage.Stage.TheVariants.{Open, Closed, Spent}
use Rattle.station_http.specs.Reading.{Reading}
use Rattle.station_http.specs.Gives.{GivesAt}
use Rattle.station_http.proofs.Sessions.{Heard, silence, heard}
use Rattle.site_turns.specs.Posted.{Posted}
use Rattle.site_server.specs.Exchanges.{Exchange, text_in, asks_of, AreGiven, seen_after}
use Rattle.site_server.specs.Gathered.{AreAnswered, ArePosts, CloseAs}
use Rattle.site_server.specs.Serving.{IsPut}
use Rattle.site_server.proofs.Grouping.{no_posts}

-- what was exchanged so far, and what was read and not answered yet
pub record Going (origin : Origin) (worker : ℕ) (left0 left1 held0 held1 : Option (List ℕ)) (conn : Reading) (seen0 seen1 : List Noted) (gathered : List Asked) : Type 0 where
  pub exchanges : List Exchange
  pub heard : Heard left0 left1 conn (asks_of exchanges ++ gathered)
  pub to : Appends held0 held1 (concat (map text_in exchanges))
  pub given : AreGiven origin worker seen0 exchanges seen1
  pub few : length (asks_of exchanges ++ gathered) + length conn.pending ≤ conn.taken

-- .. where what was read is gathered as these posts
pub record Holding (origin : Origin) (worker : ℕ) (left0 left1 held0 held1 : Option (List ℕ)) (conn : Reading) (seen0 seen1 : List Noted) (posts : List Posted) : Type 0 where
  pub gathered : List Asked
  pub going : Going origin worker left0 left1 held0 held1 conn seen0 seen1 gathered
  pub are : ArePosts gathered posts
  pub close : CloseAs false gathered

pub begun : (origin : Origin) (worker : ℕ) (left held : Option (List ℕ)) (conn : Reading) (seen : List Noted) → conn.pending ≡ [] → conn.taken ≡ 0 → conn.stage ≡ Open
    → Going origin worker left left held held conn seen seen []
begun origin worker left held conn seen pending taken stage = record {
  exchanges = [];
  heard = silence left conn [] refl pending taken stage;
  to = Appends-nil held;
  given = refl;
  few = omega (arith, ap length pending);
}

-- ---- lists of exchanges, one behind the other

pub asks_all : (xs ys : List Exchange) → asks_of (xs ++ ys) ≡ asks_of xs ++ asks_of ys
asks_all [] ys = refl
asks_all (x ∷ xs) ys = ap (λ (l : List Asked). x.asks ++ l) (asks_all xs ys) ∙ sym (append_assoc x.asks (asks_of xs) (asks_of ys))

pub texts_all : (xs ys : List Exchange) → map text_in (xs ++ ys) ≡ map text_in xs ++ map text_in ys
texts_all [] ys = refl
texts_all (x ∷ xs) ys = ap (λ (l : List (List ℕ)). text_in x ∷ l) (texts_all xs ys)

pub concat_all : (ks ls : List (List ℕ)) → concat (ks ++ ls) ≡ concat ks ++ concat ls
concat_all [] ls = refl
concat_all (k ∷ ks) ls = ap (λ (l : List ℕ). k ++ l) (concat_all ks ls) ∙ sym (append_assoc k (concat ks) (concat ls))

pub concat_more : (ls : List (List ℕ)) (l : List ℕ) → concat (ls ++ l ∷ []) ≡ concat ls ++ l
concat_more ls l = concat_all ls (l ∷ []) ∙ ap (λ (k : List ℕ). concat ls ++ k) (append-nil l)

pub given_all : (origin : Origin) (worker : ℕ) (xs ys : List Exchange) (seen0 seen1 seen2 : List Noted) → AreGiven origin worker seen0 xs seen1 → AreGiven origin worker seen1 ys seen2 → AreGiven origin worker seen0 (xs ++ ys) seen2
given_all origin worker [] ys seen0 seen1 seen2 same given = subst (λ (s : List Noted). AreGiven origin worker s ys seen2) same given
given_all origin worker (x ∷ xs) ys seen0 seen1 seen2 first given = (first.0, given_all origin worker xs ys (seen_after seen0 x) seen1 seen2 first.1 given)

-- what was put of both
pub texts_put : (xs ys : List Exchange) (held0 held1 held2 : Option (List ℕ)) (put : List ℕ) → Appends held0 held1 (concat (map text_in xs)) → Appends held1 held2 put → put ≡ concat (map text_in ys) → Appends held0 held2 (concat (map text_in (xs ++ ys)))
texts_put xs ys held0 held1 held2 put to more is =
    subst (λ (l : List ℕ). Appends held0 held2 l)
    (ap (λ (l : List ℕ). concat (map text_in xs) ++ l) is ∙ sym (ap concat (texts_all xs ys) ∙ concat_all (map text_in xs) (map text_in ys)))
    (Appends-trans held0 held1 held2 (concat (map text_in xs)) put to more)

-- a part behind what was put whole
pub part_behind : (xs ys : List Exchange) (put : List ℕ) → IsPut true (map text_in ys) put → IsPut true (map text_in (xs ++ ys)) (concat (map text_in xs) ++ put)
part_behind xs ys put p = (
  map text_in xs ++ p.0,
  p.1,
  p.2,
  texts_all xs ys ∙ (ap (λ (l : List (List ℕ)). map text_in xs ++ l) p.3 ∙ sym (append_assoc (map text_in xs) p.0 (p.1 ∷ []))),
  ap (λ (l : List ℕ). concat (map text_in xs) ++ l) p.4 ∙ (sym (append_assoc (concat (map text_in xs)) (concat p.0) p.2) ∙ ap (λ (l : List ℕ). l ++ p.2) (sym (concat_all (map text_in xs) p.0))),
  p.5,
)

-- the requests of both, and the rest
pub parts_all : (xs ys : List Exchange) (gathered rest : List Asked) → gathered ≡ asks_of ys ++ rest → asks_of xs ++ gathered ≡ asks_of (xs ++ ys) ++ rest
parts_all xs ys gathered rest is =
    ap (λ (l : List Asked). asks_of xs ++ l) is ∙ (sym (append_assoc (asks_of xs) (asks_of ys) rest) ∙ ap (λ (l : List Asked). l ++ rest) (sym (asks_all xs ys)))

pub taken_grows : (stage : Stage) (old new : Reading) (x : List ℕ) (r : Result (Option Asked) HttpFault) (at_end : Type 0) → GivesAt stage old x r new at_end → old.taken ≤ new.taken
taken_grows Open old new x r at_end g = omega (arith, g.0)
taken_grows Closed old new x r at_end g = omega (arith, ap (λ (c : Reading). c.taken) g.2)
taken_grows Spent old new x r at_end g = omega (arith, ap (λ (c : Reading). c.taken) g.2)

module _ (origin : Origin) (worker : ℕ) (left0 left1 held0 held1 : Option (List ℕ)) (seen0 seen1 : List Noted) where
  -- one request more was read
  pub read_more : (left2 : Option (List ℕ)) (stage : Stage) (old new : Reading) (gathered : List Asked) (o : Option Asked) (asked : Asked) (at_end : Type 0)
      → Going origin worker left0 left1 held0 held1 old seen0 seen1 gathered → old.stage ≡ stage → o ≡ Some asked → (x : List ℕ) × Consumes left1 left2 x × GivesAt stage old x (Ok o) new at_end
      → Going origin worker left0 left2 held0 held1 new seen0 seen1 (gathered ++ asked ∷ []) × (old.taken - length old.pending < new.taken - length new.pending)
  read_more left2 stage old new gathered o asked at_end s is some g =
      let h = heard left0 left1 left2 stage old new (asks_of s.exchanges ++ gathered) o asked at_end s.heard is some g in
      let all : (asks_of s.exchanges ++ gathered) ++ asked ∷ [] ≡ asks_of s.exchanges ++ (gathered ++ asked ∷ []) = append_assoc (asks_of s.exchanges) gathered (asked ∷ []) in
      let few = s.few in let measure = h.1 in let held_new = h.0.held in
      let count = length-append (asks_of s.exchanges ++ gathered) (asked ∷ []) in let same = ap length all in (
        record {
          exchanges = s.exchanges;
          heard = subst (λ (rs : List Asked). Heard left0 left2 new rs) all h.0;
          to = s.to;
          given = s.given;
          few = omega (arith, few, measure, held_new, count, same);
        },
        measure,
      )

  -- the first of them were answered
  pub some_answered : {T E : Type 0} (value : T) (conn : Reading) (gathered : List Asked) (left : List Posted) (held2 : Option (List ℕ)) (seen2 : List Noted)
      → Going origin worker left0 left1 held0 held1 conn seen0 seen1 gathered → AreAnswered {T = T} {E = E} origin worker gathered left held1 held2 seen1 seen2 (Ok value) → Holding origin worker left0 left1 held0 held2 conn seen0 seen2 left
  some_answered {T} {E} value conn gathered left held2 seen2 s a =
      let all = parts_all s.exchanges a.exchanges gathered a.rest a.parts in
      let few = s.few in let same = ap length all in
      record {
        gathered = a.rest;
        going = record {
          exchanges = s.exchanges ++ a.exchanges;
          heard = subst (λ (rs : List Asked). Heard left0 left1 conn rs) all s.heard;
          to = texts_put s.exchanges a.exchanges held0 held1 held2 a.put.0 s.to a.put.1 a.put.2;
          given = given_all origin worker s.exchanges a.exchanges seen0 seen1 seen2 s.given a.given;
          few = omega (arith, few, same);
        };
        are = a.others.0;
        close = a.others.1;
      }

-- nothing is gathered
pub none_held : (origin : Origin) (worker : ℕ) (left0 left1 held0 held1 : Option (List ℕ)) (conn : Reading) (seen0 seen1 : List Noted) (posts : List Posted) → Holding origin worker left0 left1 held0 held1 conn seen0 seen1 posts → posts ≡ []
    → Going origin worker left0 left1 held0 held1 conn seen0 seen1 []
none_held origin worker left0 left1 held0 held1 conn seen0 seen1 posts s none = subst (λ (rs : List Asked). Going origin worker left0 left1 held0 held1 conn seen0 seen1 rs) (no_posts s.gathered posts s.are none) s.going

-- nothing is gathered at the start
pub starting : (origin : Origin) (worker : ℕ) (left held : Option (List ℕ)) (conn : Reading) (seen : List Noted) (posts : List Posted) → conn.pending ≡ [] → conn.taken ≡ 0 → conn.stage ≡ Open → posts ≡ []
    → Holding origin worker left left held held conn seen seen posts
starting origin worker left held conn seen posts pending taken stage none = record {
  gathered = [];
  going = begun origin worker left held conn seen pending taken stage;
  are = subst (ArePosts []) (sym none) tt;
  close = tt;
}

-- the same, told of this worker and of the link as it was
pub told_as : {T E : Type 0} (origin : Origin) (worker w : ℕ) (asks : List Asked) (left : List Posted) (held held1 held2 : Option (List ℕ)) (seen seen' : List Noted) (result : Result T E) → w ≡ worker → held ≡ held1
    → AreAnswered {T = T} {E = E} origin w asks left held held2 seen seen' result → AreAnswered {T = T} {E = E} origin worker asks left held1 held2 seen seen' result
told_as {T} {E} origin worker w asks left held held1 held2 seen seen' result same_worker same_held a =
    subst₂ (λ (k : ℕ) (h : Option (List ℕ)). AreAnswered {T = T} {E = E} origin k asks left h held2 seen seen' result) same_worker same_held a

-- where posts wait nothing is read
pub either_so : {P Q R : Type 0} → P ⊎ Q → (P → ⊥) → (Q → R) → R
either_so (inl p) no_p r = absurd (no_p p)
either_so (inr q) no_p r = r q

pub rose_from : (a b c : ℕ) → b ≡ a → Rose b c → Rose a c
rose_from a b c same rose = subst (λ (n : ℕ). Rose n c) same rose

pub held_as : (origin : Origin) (worker : ℕ) (left0 left1 left2 held0 held1 : Option (List ℕ)) (conn : Reading) (seen0 seen1 : List Noted) (posts : List Posted) → left2 ≡ left1
    → Holding origin worker left0 left1 held0 held1 conn seen0 seen1 posts → Holding origin worker left0 left2 held0 held1 conn seen0 seen1 posts
held_as origin worker left0 left1 left2 held0 held1 conn seen0 seen1 posts same h = subst (λ (l : Option (List ℕ)). Holding origin worker left0 l held0 held1 conn seen0 seen1 posts) (sym same) h
