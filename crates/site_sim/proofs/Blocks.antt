-- Events replayed in blocks of moves.
use Rattle.std.proofs.Common.{◌≡◌, ◌<◌, ◌≤◌, ◌+◌, ◌-◌, ◌∙◌, ℕ, zero, suc, true, List, [], ◌∷◌, ◌++◌, length, take, drop, get_or, Option, None, Some, refl, sym, ap, arith}
use Rattle.std.specs.Prelude.{filter_map, All}
use Rattle.std.specs.List.{AllByRecursion as Every}
use Rattle.std.proofs.lemmas.List.{drop_more, drop_all, drop-take, take-append-drop}
use Rattle.std.proofs.lemmas.List.Elements.{All-from_recursion}
use Rattle.deed_words.specs.declared.entry.Move.{Move}
use Rattle.deed_words.specs.declared.entry.Entry.{Entry}
use Rattle.deed_words.specs.Setups.{Setup}
use Rattle.deed_words.specs.Happenings.{has_event, moves}
use Rattle.epcis_events.specs.declared.event.Event.{Event}
use Rattle.epcis_events.specs.Events.{event_of, events}
use Rattle.epcis_events.specs.Replaying.{Replayed, fed, nothing_live, replay, replay_from}
use Rattle.site_core.specs.Seen.{moves_seen, numbered}

-- ---- the events of some moves

pub feeds_on : (f : Move → Option Event) (r : Replayed) (ms : List Move) (i : ℕ) (d : Move) (event : Event) → i < length ms → f (get_or ms i d) ≡ Some event → replay_from r (filter_map f (drop i ms)) ≡ replay_from (fed r event) (filter_map f (drop (i + 1) ms))
unfolding replay_from
feeds_on f r ms i d event less is = rw (drop_more ms i d less) (rw is refl)

pub feeds_end : (f : Move → Option Event) (r : Replayed) (ms : List Move) (i : ℕ) → length ms ≤ i → replay_from r (filter_map f (drop i ms)) ≡ r
unfolding replay_from
feeds_end f r ms i past = rw (drop_all i ms past) refl

-- ---- blocks

replay_append : (r : Replayed) (xs ys : List Event) → replay_from r (xs ++ ys) ≡ replay_from (replay_from r xs) ys
unfolding replay_from
replay_append r [] ys = refl
replay_append r (x ∷ xs) ys = replay_append (fed r x) xs ys

drop_twice : {X : Type 0} (a b : ℕ) (xs : List X) → drop b (drop a xs) ≡ drop (a + b) xs
drop_twice zero b xs = ap (λ (n : ℕ). drop n xs) (omega arith)
drop_twice (suc a) b [] = drop_all b [] (omega arith) ∙ sym (drop_all (suc a + b) [] (omega arith))
drop_twice (suc a) b (x ∷ xs) = let e : suc a + b ≡ suc (a + b) = omega arith in drop_twice a b xs ∙ ap (λ (n : ℕ). drop n (x ∷ xs)) (sym e)

-- what is behind a front that was taken
behind_front : {X : Type 0} (n : ℕ) (xs : List X) → drop n xs ≡ drop (length (take n xs)) xs
behind_front zero [] = refl
behind_front zero (x ∷ xs) = refl
behind_front (suc n) [] = refl
behind_front (suc n) (x ∷ xs) = behind_front n xs

take_short : {X : Type 0} (n : ℕ) (xs : List X) → length (take n xs) ≤ n
take_short zero [] = omega arith
take_short zero (x ∷ xs) = omega arith
take_short (suc n) [] = omega arith
take_short (suc n) (x ∷ xs) = let less = take_short n xs in omega (arith, less)

-- a block of moves as the site gives it
abbrev pub block_at : ℕ → List Move → List Move
block_at at ms = take 64 (drop at ms)

pub block_is : (at : ℕ) (ms : List Move) → numbered (at + 1) 64 ms ≡ block_at at ms
block_is at ms =
    let first : at + 1 - 1 ≡ at = omega arith in
    let past : at + 1 + 64 - 1 ≡ at + 64 = omega arith in
    ap (λ (n : ℕ). drop n (take (at + 1 + 64 - 1) ms)) first ∙ ap (λ (n : ℕ). drop at (take n ms)) past ∙ drop-take at 64 ms

pub block_short : (at : ℕ) (ms : List Move) → length (block_at at ms) ≤ 64
block_short at ms = take_short 64 (drop at ms)

every_drop : {X : Type 0} (P : X → Type 0) (n : ℕ) (xs : List X) → Every P xs → Every P (drop n xs)
every_drop P zero xs all = all
every_drop P (suc n) [] all = tt
every_drop P (suc n) (x ∷ xs) all = every_drop P n xs all.1

every_take : {X : Type 0} (P : X → Type 0) (n : ℕ) (xs : List X) → Every P xs → Every P (take n xs)
every_take P zero [] all = tt
every_take P zero (x ∷ xs) all = tt
every_take P (suc n) [] all = tt
every_take P (suc n) (x ∷ xs) all = (all.0, every_take P n xs all.1)

pub block_every : (at : ℕ) (ms : List Move) → Every (λ (m : Move). has_event m.kept.deed ≡ true) ms → Every (λ (m : Move). has_event m.kept.deed ≡ true) (block_at at ms)
block_every at ms all = every_take (λ (m : Move). has_event m.kept.deed ≡ true) 64 (drop at ms) (every_drop (λ (m : Move). has_event m.kept.deed ≡ true) at ms all)

pub block_has_events : (at : ℕ) (ms : List Move) → Every (λ (m : Move). has_event m.kept.deed ≡ true) ms → All (λ (m : Move). has_event m.kept.deed ≡ true) (block_at at ms)
block_has_events at ms all =
    All-from_recursion (λ (m : Move). has_event m.kept.deed ≡ true) (block_at at ms) (block_every at ms all)

-- so many events were replayed, and the others follow
pub record Replaying (es : List Event) (r : Replayed) (at : ℕ) : Type 0 where
  pub within : at ≤ length es
  pub rest : replay_from r (drop at es) ≡ replay es

pub none_replayed : (es : List Event) (r : Replayed) → r ≡ nothing_live → Replaying es r 0
unfolding replay
none_replayed es r is = record { within = omega arith; rest = ap (λ (s : Replayed). replay_from s es) is }

within_more : {X : Type 0} (a n : ℕ) (xs : List X) → a ≤ length xs → a + length (take n (drop a xs)) ≤ length xs
within_more zero zero [] le = omega arith
within_more zero zero (x ∷ xs) le = omega arith
within_more zero (suc n) [] le = omega arith
within_more zero (suc n) (x ∷ xs) le = let less = within_more 0 n xs (omega arith) in omega (arith, less)
within_more (suc a) n [] le = absurd (omega (arith, le))
within_more (suc a) n (x ∷ xs) le = let less = within_more a n xs (omega (arith, le)) in omega (arith, less)

-- a block more: its moves have as many events
pub block_replayed : (es block : List Event) (r r' : Replayed) (at at' : ℕ) → Replaying es r at → block ≡ take 64 (drop at es) → r' ≡ replay_from r block → at' ≡ at + length block → Replaying es r' at'
block_replayed es block r r' at at' g is next counted =
    let same : at' ≡ at + length (take 64 (drop at es)) = counted ∙ ap (λ (b : List Event). at + length b) is in
    let more = within_more at 64 es g.within in
    let there : drop at' es ≡ drop 64 (drop at es) =
    ap (λ (n : ℕ). drop n es) same ∙ sym (drop_twice at (length (take 64 (drop at es))) es) ∙ sym (behind_front 64 (drop at es)) in
    record {
      within = omega (arith, same, more);
      rest = ap (λ (s : Replayed). replay_from s (drop at' es)) (next ∙ ap (replay_from r) is)
          ∙ ap (replay_from (replay_from r (take 64 (drop at es)))) there
          ∙ sym (replay_append r (take 64 (drop at es)) (drop 64 (drop at es)))
          ∙ ap (replay_from r) (take-append-drop 64 (drop at es)) ∙ g.rest;
    }

empty_front : {X : Type 0} (ys : List X) → length (take 64 ys) ≡ 0 → ys ≡ []
empty_front [] e = refl
empty_front (y ∷ ys) e = absurd (omega (arith, e))

empty_block : {X : Type 0} (at : ℕ) (xs : List X) → length (take 64 (drop at xs)) ≡ 0 → drop at xs ≡ []
empty_block at xs none = empty_front (drop at xs) none

dropped_all : {X : Type 0} (at : ℕ) (xs : List X) → drop at xs ≡ [] → length xs ≤ at
dropped_all zero [] e = omega arith
dropped_all zero (x ∷ xs) e = absurd (cc)
dropped_all (suc at) [] e = omega arith
dropped_all (suc at) (x ∷ xs) e = let less = dropped_all at xs e in omega (arith, less)

-- there is no block more
pub all_replayed : (es : List Event) (r : Replayed) (at : ℕ) → Replaying es r at → length (take 64 (drop at es)) ≡ 0 → (r ≡ replay es) × (at ≡ length es)
unfolding replay_from
all_replayed es r at g none =
    let gone = empty_block at es none in
    let past = dropped_all at es gone in
    let there = g.within in
    (sym (ap (replay_from r) gone) ∙ g.rest, omega (arith, past, there))

-- ---- a site's blocks

pub block_of : (site : Setup) (history : List Entry) (at : ℕ) (block : List Move) → block ≡ numbered (at + 1) 64 (moves_seen site history None) → block ≡ block_at at (moves site history)
unfolding moves_seen
block_of site history at block is = is ∙ block_is at (moves site history)

-- the events of a block of moves are the same block of the events
abbrev pub IsOfBlock : Setup → List Entry → ℕ → Type 0
IsOfBlock site history at = filter_map (event_of site) (block_at at (moves site history)) ≡ take 64 (drop at (events site history))

pub of_block : (site : Setup) (history : List Entry) (at : ℕ) → filter_map (event_of site) (take 64 (drop at (moves site history))) ≡ take 64 (drop at (filter_map (event_of site) (moves site history))) → IsOfBlock site history at
unfolding events
of_block site history at part = part

pub went_round : (site : Setup) (history : List Entry) (block : List Move) (r r' : Replayed) (at n : ℕ) → IsOfBlock site history at → length (filter_map (event_of site) block) ≡ length block → Replaying (events site history) r at → block ≡ block_at at (moves site history)
    → r' ≡ replay_from r (filter_map (event_of site) block) → n ≡ length block → Replaying (events site history) r' (at + n)
went_round site history block r r' at n part count g is next counted =
    block_replayed (events site history) (filter_map (event_of site) block) r r' at (at + n) g (ap (filter_map (event_of site)) is ∙ part) next (ap (λ (m : ℕ). at + m) (counted ∙ sym count))

pub none_left : (site : Setup) (history : List Entry) (block : List Move) (at n : ℕ) → IsOfBlock site history at → length (filter_map (event_of site) block) ≡ length block → block ≡ block_at at (moves site history) → n ≡ length block → n ≡ 0
    → length (take 64 (drop at (events site history))) ≡ 0
none_left site history block at n part count is counted none =
    ap length (sym part ∙ ap (filter_map (event_of site)) (sym is)) ∙ count ∙ sym counted ∙ none
