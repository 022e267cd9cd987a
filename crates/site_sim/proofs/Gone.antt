-- Requests that were sent, one after the other.
use Rattle.std.proofs.Common.{◌≡◌, ◌<◌, ◌+◌, ◌-◌, ◌%◌, ◌∙◌, ◌==◌, ℕ, zero, suc, Bool, true, false, List, [], ◌∷◌, ◌++◌, length, drop, Option, Some, None, refl, sym, ap, subst, arith, true≢false, append-nil, append_assoc, length-append}
use Rattle.std.proofs.lemmas.Bool.Decides.{nat_tests}
use Rattle.std.specs.Prelude.{MatchBool, if◌then◌else◌}
use Rattle.std.specs.List.{slice_get, flat_map}
use Rattle.std.specs.Io.KnownBytes.{Consumes}
use Rattle.std.proofs.KnownBytes.{Consumes-nil, Consumes-trans}
use Rattle.std.proofs.lemmas.List.Concat.{flat_map-append}
use Rattle.std.proofs.lemmas.Option.{slice_get_within}
use Rattle.deed_words.specs.declared.entry.Ask.{Ask}
use Rattle.site_store.specs.declared.outcome.Outcome.{Outcome}
use Rattle.site_store.specs.Moved.{Taken}
use Rattle.site_store.specs.States.{State}
use Rattle.site_sim.specs.declared.request.Request.{Request}
use Rattle.site_sim.specs.Asking.{ask_at}
use Rattle.site_sim.specs.Requests.{Send, send, sends, sends_at, sends_from, requests}
use Rattle.site_sim.specs.Sends.{Sent, Sends, TurnsTo, Went, is_accepted, is_answer}

-- ---- one request

abbrev IsNone : List Sent → Type 0
IsNone xs = xs ≡ []

by_bool : (b : Bool) (going : Bool) (mid new : State) (answer : Bool) → going ≡ b → new ≡ mid → answer ≡ true → MatchBool b (Sends mid [] [] going new) (IsNone [] × (going ≡ false) × (new ≡ mid) × (answer ≡ true))
by_bool true going mid new answer is same answers = (refl, is, same)
by_bool false going mid new answer is same answers = (refl, is, same, answers)

pub one_sent : (old : State) (s : Send) (ask : Ask) (outcome : Outcome) (taken : Taken) (going : Bool) (new : State) → ask ≡ ask_at old.history s → TurnsTo old ask taken outcome new → going ≡ is_accepted outcome → is_answer outcome ≡ true → Sends old (s ∷ []) (record { outcome = outcome; taken = taken } ∷ []) going new
one_sent old s ask outcome taken going new asks t is answers =
    (new, subst (λ (a : Ask). TurnsTo old a taken outcome new) asks t, by_bool (is_accepted outcome) going new new (is_answer outcome) is refl answers)

pub one_went : (old : State) (s : Send) (ask : Ask) (outcome : Outcome) (taken : Taken) (going : Bool) (new : State) (m0 m1 w0 w1 : Option (List ℕ)) → ask ≡ ask_at old.history s → TurnsTo old ask taken outcome new → going ≡ is_accepted outcome → is_answer outcome ≡ true
    → Consumes m0 m1 taken.moments → Consumes w0 w1 taken.words → Went old (s ∷ []) m0 m1 w0 w1 going (record { outcome = outcome; taken = taken } ∷ []) new
one_went old s ask outcome taken going new m0 m1 w0 w1 asks t is answers moments words = record {
  were = one_sent old s ask outcome taken going new asks t is answers;
  moments = subst (Consumes m0 m1) (sym (append-nil taken.moments)) moments;
  words = subst (Consumes w0 w1) (sym (append-nil taken.words)) words;
}

-- ---- several

match_map : (b : Bool) (P P' Q Q' : Type 0) → (P → P') → (Q → Q') → MatchBool b P Q → MatchBool b P' Q'
match_map true P P' Q Q' f h m = f m
match_map false P P' Q Q' f h m = h m

no_cons : (x : Sent) (xs : List Sent) → x ∷ xs ≡ [] → ⊥
no_cons x xs e = cc

then_sends : (old mid new : State) (xs ys : List Send) (done more : List Sent) (going : Bool) → Sends old xs done true mid → Sends mid ys more going new → Sends old (xs ++ ys) (done ++ more) going new
then_sends old mid new [] ys [] more going first second = subst (λ (s : State). Sends s ys more going new) first.2 second
then_sends old mid new [] ys (x ∷ done) more going first second = absurd (no_cons x done first.0)
then_sends old mid new (s ∷ ss) ys [] more going first second = absurd first
then_sends old mid new (s ∷ ss) ys (x ∷ xs) more going first second = (
  first.0,
  first.1,
  match_map (is_accepted x.outcome) (Sends first.0 ss xs true mid) (Sends first.0 (ss ++ ys) (xs ++ more) going new) ((xs ≡ []) × (true ≡ false) × (mid ≡ first.0) × (is_answer x.outcome ≡ true)) ((xs ++ more ≡ []) × (going ≡ false) × (new ≡ first.0) × (is_answer x.outcome ≡ true))
      (λ rest. then_sends first.0 mid new ss ys xs more going rest second) (λ stop. absurd (true≢false stop.1)) first.2,
)

stopped_sends : (old new : State) (xs ys : List Send) (done : List Sent) → Sends old xs done false new → Sends old (xs ++ ys) done false new
stopped_sends old new [] ys done is = absurd (true≢false (sym is.1))
stopped_sends old new (s ∷ ss) ys [] is = absurd is
stopped_sends old new (s ∷ ss) ys (x ∷ xs) is = (
  is.0,
  is.1,
  match_map (is_accepted x.outcome) (Sends is.0 ss xs false new) (Sends is.0 (ss ++ ys) xs false new) ((xs ≡ []) × (false ≡ false) × (new ≡ is.0) × (is_answer x.outcome ≡ true)) ((xs ≡ []) × (false ≡ false) × (new ≡ is.0) × (is_answer x.outcome ≡ true))
      (λ rest. stopped_sends is.0 new ss ys xs rest) (λ stop. stop) is.2,
)

taken_more : (f : Sent → List ℕ) (m0 m1 m2 : Option (List ℕ)) (done more : List Sent) → Consumes m0 m1 (flat_map f done) → Consumes m1 m2 (flat_map f more) → Consumes m0 m2 (flat_map f (done ++ more))
taken_more f m0 m1 m2 done more first second = subst (Consumes m0 m2) (sym (flat_map-append f done more)) (Consumes-trans m0 m1 m2 (flat_map f done) (flat_map f more) first second)

pub then_went : (old mid new : State) (xs ys : List Send) (done more : List Sent) (going : Bool) (m0 m1 m2 w0 w1 w2 : Option (List ℕ)) → Went old xs m0 m1 w0 w1 true done mid → Went mid ys m1 m2 w1 w2 going more new → Went old (xs ++ ys) m0 m2 w0 w2 going (done ++ more) new
then_went old mid new xs ys done more going m0 m1 m2 w0 w1 w2 first second = record {
  were = then_sends old mid new xs ys done more going first.were second.were;
  moments = taken_more (λ (x : Sent). x.taken.moments) m0 m1 m2 done more first.moments second.moments;
  words = taken_more (λ (x : Sent). x.taken.words) w0 w1 w2 done more first.words second.words;
}

pub stopped_went : (old new : State) (xs ys : List Send) (done : List Sent) (m0 m1 w0 w1 : Option (List ℕ)) → Went old xs m0 m1 w0 w1 false done new → Went old (xs ++ ys) m0 m1 w0 w1 false done new
stopped_went old new xs ys done m0 m1 w0 w1 went = record { were = stopped_sends old new xs ys done went.were; moments = went.moments; words = went.words }

pub none_went : (old : State) (m w : Option (List ℕ)) → Went old [] m m w w true [] old
none_went old m w = record { were = (refl, refl, refl); moments = Consumes-nil m; words = Consumes-nil w }

-- ---- at a place

test_at : (place : ℕ) (r : Request) (b : Bool) → (place % 10 == 0) ≡ b → sends_at place r ≡ (if b then send r false ∷ send r true ∷ [] else send r false ∷ [])
test_at place r b e = ap (λ (c : Bool). if c then send r false ∷ send r true ∷ [] else send r false ∷ []) e

pub once_at : (place : ℕ) (r : Request) → (place % 10 == 0) ≡ false → sends_at place r ≡ send r false ∷ []
once_at place r e = test_at place r false e

pub twice_at : (place : ℕ) (r : Request) → (place % 10 == 0) ≡ true → sends_at place r ≡ send r false ∷ send r true ∷ []
twice_at place r e = test_at place r true e

-- the first one wasn't accepted
pub refused_at : (old new : State) (place : ℕ) (r : Request) (done : List Sent) (m0 m1 w0 w1 : Option (List ℕ)) → Went old (send r false ∷ []) m0 m1 w0 w1 false done new → Went old (sends_at place r) m0 m1 w0 w1 false done new
refused_at old new place r done m0 m1 w0 w1 went =
    (elim (place % 10 == 0) as (λ b. (place % 10 == 0) ≡ b → Went old (sends_at place r) m0 m1 w0 w1 false done new) [
      | true ↦ λ e. subst (λ (xs : List Send). Went old xs m0 m1 w0 w1 false done new) (sym (twice_at place r e)) (stopped_went old new (send r false ∷ []) (send r true ∷ []) done m0 m1 w0 w1 went)
      | false ↦ λ e. subst (λ (xs : List Send). Went old xs m0 m1 w0 w1 false done new) (sym (once_at place r e)) went
    ]) refl

-- .. or that is all that is to be sent of it
pub ends_at : (old new : State) (place : ℕ) (r : Request) (going : Bool) (done : List Sent) (m0 m1 w0 w1 : Option (List ℕ)) → (going ≡ true → (place % 10 == 0) ≡ true → ⊥) → Went old (send r false ∷ []) m0 m1 w0 w1 going done new → Went old (sends_at place r) m0 m1 w0 w1 going done new
ends_at old new place r false done m0 m1 w0 w1 out went = refused_at old new place r done m0 m1 w0 w1 went
ends_at old new place r true done m0 m1 w0 w1 out went =
    (elim (place % 10 == 0) as (λ b. (place % 10 == 0) ≡ b → Went old (sends_at place r) m0 m1 w0 w1 true done new) [
      | true ↦ λ e. absurd (out refl e)
      | false ↦ λ e. subst (λ (xs : List Send). Went old xs m0 m1 w0 w1 true done new) (sym (once_at place r e)) went
    ]) refl

-- both were sent
pub both_at : (old mid new : State) (place : ℕ) (r : Request) (going : Bool) (done more : List Sent) (m0 m1 m2 w0 w1 w2 : Option (List ℕ)) → (place % 10 == 0) ≡ true → Went old (send r false ∷ []) m0 m1 w0 w1 true done mid → Went mid (send r true ∷ []) m1 m2 w1 w2 going more new → Went old (sends_at place r) m0 m2 w0 w2 going (done ++ more) new
both_at old mid new place r going done more m0 m1 m2 w0 w1 w2 e first second =
    subst (λ (xs : List Send). Went old xs m0 m2 w0 w2 going (done ++ more) new) (sym (twice_at place r e)) (then_went old mid new (send r false ∷ []) (send r true ∷ []) done more going m0 m1 m2 w0 w1 w2 first second)

-- ---- all of them

-- so many places were sent and accepted, and the rest follows
pub record Going (count : ℕ) (old now : State) (m0 m1 w0 w1 : Option (List ℕ)) (at sent : ℕ) : Type 0 where
  pub done : List Sent
  pub how_many : sent ≡ length done
  pub follow : (more : List Sent) (going : Bool) (new : State) (m2 w2 : Option (List ℕ)) → Went now (sends_from (at + 1) (drop at (requests count))) m1 m2 w1 w2 going more new → Went old (sends count) m0 m2 w0 w2 going (done ++ more) new

pub none_gone : (count : ℕ) (old : State) (m w : Option (List ℕ)) (sent : ℕ) → sent ≡ 0 → Going count old old m m w w 0 sent
none_gone count old m w sent none = record { done = []; how_many = none; follow = λ more going new m2 w2 is. is }

drop_at : {X : Type 0} (xs : List X) (at : ℕ) (x : X) → slice_get xs at ≡ Some x → drop at xs ≡ x ∷ drop (at + 1) xs
drop_at [] at x is = absurd (cc)
drop_at (y ∷ ys) zero x is = let e : y ≡ x = cc in ap (λ (z : _). z ∷ ys) e
drop_at (y ∷ ys) (suc at) x is = let e : suc at + 1 ≡ suc (at + 1) = omega arith in drop_at ys at x is ∙ ap (λ (n : ℕ). x ∷ drop n (y ∷ ys)) (sym e)

drop_none : {X : Type 0} (xs : List X) (at : ℕ) → slice_get xs at ≡ None → drop at xs ≡ []
drop_none [] zero none = refl
drop_none [] (suc at) none = refl
drop_none (x ∷ xs) zero none = absurd (cc)
drop_none (x ∷ xs) (suc at) none = drop_none xs at none

next_sends : (count at : ℕ) (r : Request) → slice_get (requests count) at ≡ Some r → sends_from (at + 1) (drop at (requests count)) ≡ sends_at (at + 1) r ++ sends_from (at + 1 + 1) (drop (at + 1) (requests count))
unfolding sends_from
next_sends count at r is = ap (sends_from (at + 1)) (drop_at (requests count) at r is)

-- one place more, all accepted
pub gone_on : (count : ℕ) (old mid now : State) (m0 m1 m2 w0 w1 w2 : Option (List ℕ)) (at sent sent' : ℕ) (r : Request) (more : List Sent) → Going count old mid m0 m1 w0 w1 at sent → slice_get (requests count) at ≡ Some r → Went mid (sends_at (at + 1) r) m1 m2 w1 w2 true more now → sent' ≡ sent + length more
    → Going count old now m0 m2 w0 w2 (at + 1) sent'
gone_on count old mid now m0 m1 m2 w0 w1 w2 at sent sent' r more g is went counted = record {
  done = g.done ++ more;
  how_many = counted ∙ ap (λ (n : ℕ). n + length more) g.how_many ∙ sym (length-append g.done more);
  follow = λ rest going new m3 w3 later.
      subst (λ (xs : List Sent). Went old (sends count) m0 m3 w0 w3 going xs new) (sym (append_assoc g.done more rest))
      (g.follow (more ++ rest) going new m3 w3
      (subst (λ (ss : List Send). Went mid ss m1 m3 w1 w3 going (more ++ rest) new) (sym (next_sends count at r is))
      (then_went mid now new (sends_at (at + 1) r) (sends_from (at + 1 + 1) (drop (at + 1) (requests count))) more rest going m1 m2 m3 w1 w2 w3 went later)));
}

-- what the whole comes to
pub record Came (count : ℕ) (old new : State) (m0 m1 w0 w1 : Option (List ℕ)) (sent : ℕ) : Type 0 where
  pub all : Bool
  pub done : List Sent
  pub how_many : sent ≡ length done
  pub went : Went old (sends count) m0 m1 w0 w1 all done new

-- one wasn't accepted
pub gone_out : (count : ℕ) (old mid now : State) (m0 m1 m2 w0 w1 w2 : Option (List ℕ)) (at sent sent' : ℕ) (r : Request) (more : List Sent) → Going count old mid m0 m1 w0 w1 at sent → slice_get (requests count) at ≡ Some r → Went mid (sends_at (at + 1) r) m1 m2 w1 w2 false more now → sent' ≡ sent + length more
    → Came count old now m0 m2 w0 w2 sent'
gone_out count old mid now m0 m1 m2 w0 w1 w2 at sent sent' r more g is went counted = record {
  all = false;
  done = g.done ++ more;
  how_many = counted ∙ ap (λ (n : ℕ). n + length more) g.how_many ∙ sym (length-append g.done more);
  went = g.follow more false now m2 w2
      (subst (λ (ss : List Send). Went mid ss m1 m2 w1 w2 false more now) (sym (next_sends count at r is))
      (stopped_went mid now (sends_at (at + 1) r) (sends_from (at + 1 + 1) (drop (at + 1) (requests count))) more m1 m2 w1 w2 went));
}

-- all were accepted
pub gone_through : (count : ℕ) (old now : State) (m0 m1 w0 w1 : Option (List ℕ)) (at sent : ℕ) → Going count old now m0 m1 w0 w1 at sent → slice_get (requests count) at ≡ None → Came count old now m0 m1 w0 w1 sent
unfolding sends_from
gone_through count old now m0 m1 w0 w1 at sent g none = record {
  all = true;
  done = g.done;
  how_many = g.how_many;
  went = subst (λ (xs : List Sent). Went old (sends count) m0 m1 w0 w1 true xs now) (append-nil g.done)
      (g.follow [] true now m1 w1 (subst (λ (rs : List Request). Went now (sends_from (at + 1) rs) m1 m1 w1 w1 true [] now) (sym (drop_none (requests count) at none)) (none_went now m1 w1)));
}

pub within : (count at : ℕ) (r : Request) → slice_get (requests count) at ≡ Some r → length (requests count) - (at + 1) < length (requests count) - at
within count at r is = let less = slice_get_within (requests count) at r is in omega (arith, less)

-- ---- one request with its count

zero_from : (n : ℕ) → (n == 0) ≡ true → n ≡ 0
zero_from n e = grind (arith, nat_tests)

pub sent_twice : (old mid new : State) (place : ℕ) (r : Request) (first going : Bool) (x y : Sent) (m0 m1 m2 w0 w1 w2 : Option (List ℕ)) (n0 n1 n2 : ℕ) → place % 10 ≡ 0 → first ≡ true → Went old (send r false ∷ []) m0 m1 w0 w1 first (x ∷ []) mid → Went mid (send r true ∷ []) m1 m2 w1 w2 going (y ∷ []) new
    → n1 ≡ n0 + 1 → n2 ≡ n1 + 1 → (done : List Sent) × (n2 ≡ n0 + length done) × Went old (sends_at place r) m0 m2 w0 w2 going done new
sent_twice old mid new place r first going x y m0 m1 m2 w0 w1 w2 n0 n1 n2 ten went_on one two a b =
    (x ∷ y ∷ [], omega (arith, a, b), both_at old mid new place r going (x ∷ []) (y ∷ []) m0 m1 m2 w0 w1 w2 (ap (λ (n : ℕ). n == 0) ten) (subst (λ (b : Bool). Went old (send r false ∷ []) m0 m1 w0 w1 b (x ∷ []) mid) went_on one) two)

pub sent_once : (old new : State) (place : ℕ) (r : Request) (going : Bool) (x : Sent) (m0 m1 w0 w1 : Option (List ℕ)) (n0 n1 : ℕ) → (going ≡ true → place % 10 ≡ 0 → ⊥) → Went old (send r false ∷ []) m0 m1 w0 w1 going (x ∷ []) new
    → n1 ≡ n0 + 1 → (done : List Sent) × (n1 ≡ n0 + length done) × Went old (sends_at place r) m0 m1 w0 w1 going done new
sent_once old new place r going x m0 m1 w0 w1 n0 n1 out one a =
    (x ∷ [], omega (arith, a), ends_at old new place r going (x ∷ []) m0 m1 w0 w1 (λ yes ten. out yes (zero_from (place % 10) ten)) one)

pub as_told : (count : ℕ) (old new : State) (m0 m1 w0 w1 : Option (List ℕ)) (sent : ℕ) → Came count old new m0 m1 w0 w1 sent → (all : Bool) × (done : List Sent) × (sent ≡ length done) × Went old (sends count) m0 m1 w0 w1 all done new
as_told count old new m0 m1 w0 w1 sent came = (came.all, came.done, came.how_many, came.went)

pub as_going : (old new : State) (ss : List Send) (m0 m1 w0 w1 : Option (List ℕ)) (going b : Bool) (done : List Sent) → going ≡ b → Went old ss m0 m1 w0 w1 going done new → Went old ss m0 m1 w0 w1 b done new
as_going old new ss m0 m1 w0 w1 going b done is went = subst (λ (x : Bool). Went old ss m0 m1 w0 w1 x done new) is went
