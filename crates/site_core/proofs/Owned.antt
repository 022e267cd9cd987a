-- The moves of a batch, by its number and by its name.
use Rattle.std.proofs.Common.{◌≡◌, ◌<◌, ◌≤◌, ◌-◌, ◌++◌, ℕ, zero, suc, nat_eq, eqb, List, [], ◌∷◌, map, length, get_or, All, None, Some, refl, sym, ap, ◌∙◌, subst, arith}
use Rattle.std.specs.Prelude.{take, drop}
use native.Mathlib.Decide.{dec_lt}
use Rattle.std.specs.List.{slice_get, AllByRecursion as Every}
use Rattle.std.proofs.lemmas.List.{length-map, get_or_default}
use Rattle.std.proofs.lemmas.Bool.Decides.{nat_tests}
use Rattle.deed_words.specs.Names.{Text, same}
use Rattle.deed_words.specs.Setups.{Setup}
use Rattle.deed_words.specs.Happenings.{moves, moves_of}
use Rattle.deed_words.specs.History.{world_of}
use Rattle.deed_words.specs.World.{World}
use Rattle.deed_words.specs.declared.deed.OrderRow.{OrderRow}
use Rattle.deed_words.specs.declared.entry.Entry.{Entry}
use Rattle.deed_words.specs.declared.entry.Move.{Move}
use Rattle.deed_words.specs.declared.world.Batch.{Batch}
use Rattle.deed_words.proofs.Items.{Every-weaker}
use Rattle.batch_book.specs.Batches.{AreApart, IsNamed}
use Rattle.batch_book.specs.Content.{Content, name_at, world_in}
use Rattle.batch_book.proofs.Bridge.{own_name}
use Rattle.row_lists.specs.Lists.{rows_of}
use Rattle.move_list.specs.declared.moved.Moved.{Moved}
use Rattle.move_list.specs.Held.{batches_in, places_of}
use Rattle.move_list.specs.Kept.{kept_of, move_again}
use Rattle.move_list.proofs.History.{IsOf, orders_of, each_is}
use Rattle.move_list.proofs.Own.{own_at, own_count}
use Rattle.site_core.specs.Seen.{moves_seen}

-- the name of the batch of an order
order_name : (batches : List Batch) (at : ℕ) (row : OrderRow) → at < length (map (λ (batch : Batch). batch.order) batches) → get_or (map (λ (batch : Batch). batch.order) batches) at row ≡ row → row.batch ≡ name_at batches at
order_name [] at row l e = absurd (omega (arith, l))
order_name (batch ∷ batches) zero row l e = ap (λ (o : OrderRow). o.batch) (sym e)
order_name (batch ∷ batches) (suc at) row l e = order_name batches at row (omega (arith, l)) e

same_test : (n m : ℕ) → eqb n m ≡ nat_eq n m
same_test n m = grind (arith, nat_tests)

-- a move is of the batch by its name where it is by its number
pub own_tests : (site : Setup) (history : List Entry) (batch : ℕ) → AreApart (world_of site history).batches → All IsNamed (world_of site history).batches → batch < length (world_of site history).batches
    → Every (λ (moved : Move). same moved.row.batch (name_at (world_of site history).batches batch) ≡ nat_eq moved.batch batch) (moves site history)
own_tests site history batch apart named within =
    let batches = (world_of site history).batches in
    Every-weaker (IsOf history (orders_of (world_of site history))) (λ (moved : Move). same moved.row.batch (name_at batches batch) ≡ nat_eq moved.batch batch)
    (λ moved is. ap (λ (t : Text). same t (name_at batches batch)) (order_name batches moved.batch moved.row is.there is.order) ∙ own_name batches apart named batch within moved.batch ∙ same_test moved.batch batch)
    (moves site history) (each_is site history)

batches_kept : (ms : List Move) → batches_in (map kept_of ms) ≡ map (λ (moved : Move). moved.batch) ms
unfolding kept_of
batches_kept [] = refl
batches_kept (moved ∷ ms) = ap (λ (bs : List ℕ). moved.batch ∷ bs) (batches_kept ms)

places_kept : (site : Setup) (history : List Entry) (kept : List Moved) (batch : ℕ) → kept ≡ map kept_of (moves site history) → places_of kept batch ≡ rows_of (map (λ (moved : Move). moved.batch) (moves site history)) batch
places_kept site history kept batch is = ap (λ (ms : List Moved). places_of ms batch) is ∙ ap (λ (bs : List ℕ). rows_of bs batch) (batches_kept (moves site history))

-- how many moves the batch has
pub own_many : (site : Setup) (history : List Entry) (kept : List Moved) (batch : ℕ) → kept ≡ map kept_of (moves site history) → AreApart (world_of site history).batches → All IsNamed (world_of site history).batches → batch < length (world_of site history).batches
    → length (places_of kept batch) ≡ length (moves_of site history (name_at (world_of site history).batches batch))
unfolding moves_of
own_many site history kept batch is apart named within =
    ap (λ (ps : List ℕ). length ps) (places_kept site history kept batch is)
    ∙ sym (own_count (λ (moved : Move). same moved.row.batch (name_at (world_of site history).batches batch)) (λ (moved : Move). moved.batch) batch 0 (moves site history) (own_tests site history batch apart named within))

-- the move of the batch at a place
pub own_move : (site : Setup) (history : List Entry) (kept : List Moved) (batch at place : ℕ) (d : Move) → kept ≡ map kept_of (moves site history) → AreApart (world_of site history).batches → All IsNamed (world_of site history).batches
    → batch < length (world_of site history).batches → at < length (places_of kept batch) → place ≡ get_or (places_of kept batch) at 0 → get_or (moves_of site history (name_at (world_of site history).batches batch)) at d ≡ get_or (moves site history) place d
unfolding moves_of
own_move site history kept batch at place d is apart named within l place_is =
    let places = rows_of (map (λ (moved : Move). moved.batch) (moves site history)) batch in
    let same_places : places_of kept batch ≡ places = places_kept site history kept batch is in
    let long = ap (λ (ps : List ℕ). length ps) same_places in
    let found = own_at (λ (moved : Move). same moved.row.batch (name_at (world_of site history).batches batch)) (λ (moved : Move). moved.batch) batch 0 (moves site history) (own_tests site history batch apart named within) at d (omega (arith, l, long)) in
    let e : get_or places at 0 - 0 ≡ place = let p = ap (λ (ps : List ℕ). get_or ps at 0) same_places in omega (arith, p, place_is) in
    found.1 ∙ ap (λ (n : ℕ). get_or (moves site history) n d) e

-- ---- the move at a place, by what is kept of it

every_at : {A : Type 0} (P : A → Type 0) (xs : List A) → Every P xs → (i : ℕ) (d : A) → i < length xs → P (get_or xs i d)
every_at P [] all i d l = absurd (omega (arith, l))
every_at P (x ∷ xs) all zero d l = all.0
every_at P (x ∷ xs) all (suc i) d l = every_at P xs all.1 i d (omega (arith, l))

some_of : {A : Type 0} (xs : List A) (i : ℕ) → i < length xs → A
some_of [] i l = absurd (omega (arith, l))
some_of (x ∷ xs) i l = x

-- a move of which this is kept
pub record IsKeptOf (site : Setup) (history : List Entry) (at : ℕ) (kept : Moved) : Type 0 where
  pub move : Move
  pub is : (d : Move) → get_or (moves site history) at d ≡ move
  pub of : IsOf history (orders_of (world_of site history)) move
  pub kept_is : kept ≡ kept_of move

kept_at : (ms : List Move) (at : ℕ) (kept : Moved) (d : Move) → at < length ms → kept ≡ get_or (map kept_of ms) at kept → kept ≡ kept_of (get_or ms at d)
kept_at [] at kept d l e = absurd (omega (arith, l))
kept_at (m ∷ ms) zero kept d l e = e
kept_at (m ∷ ms) (suc at) kept d l e = kept_at ms at kept d (omega (arith, l)) e

pub kept_move : (site : Setup) (history : List Entry) (all : List Moved) (at : ℕ) (kept : Moved) → all ≡ map kept_of (moves site history) → at < length (moves site history) → kept ≡ get_or all at kept → IsKeptOf site history at kept
kept_move site history all at kept is l e =
    let d = some_of (moves site history) at l in
    record {
      move = get_or (moves site history) at d;
      is = λ x. get_or_default (moves site history) at x d l;
      of = every_at (IsOf history (orders_of (world_of site history))) (moves site history) (each_is site history) at d l;
      kept_is = kept_at (moves site history) at kept d l (e ∙ ap (λ (ms : List Moved). get_or ms at kept) is);
    }

-- and it again, with its entry and its order
pub again_is : (site : Setup) (history : List Entry) (at : ℕ) (kept : Moved) (entry : Entry) (batch : Batch) (result : Move) → IsKeptOf site history at kept → entry ≡ get_or history kept.place entry → slice_get (world_of site history).batches kept.batch ≡ Some batch
    → result ≡ move_again kept entry batch.order → result ≡ get_or (moves site history) at result
unfolding kept_of
again_is site history at kept entry batch result k entry_is batch_is is =
    let m = k.move in
    let place : kept.place ≡ m.place = ap (λ (x : Moved). x.place) k.kept_is in
    let number : kept.batch ≡ m.batch = ap (λ (x : Moved). x.batch) k.kept_is in
    let e : entry ≡ m.kept = entry_is ∙ ap (λ (n : ℕ). get_or history n entry) place ∙ get_or_default history m.place entry m.kept k.of.within ∙ k.of.entry in
    let o : batch.order ≡ m.row = sym (order_at (world_of site history).batches kept.batch batch m.row batch_is) ∙ ap (λ (n : ℕ). get_or (orders_of (world_of site history)) n m.row) number ∙ k.of.order in
    is ∙ ap (λ (x : Moved). move_again x entry batch.order) k.kept_is ∙ ap (λ (x : Entry). move_again (kept_of m) x batch.order) e ∙ ap (λ (x : OrderRow). move_again (kept_of m) m.kept x) o ∙ k.of.again ∙ sym (k.is result)
  where
    order_at : (batches : List Batch) (n : ℕ) (batch : Batch) (d : OrderRow) → slice_get batches n ≡ Some batch → get_or (map (λ (b : Batch). b.order) batches) n d ≡ batch.order
    order_at [] n batch d e = absurd (cc)
    order_at (b ∷ batches) zero batch d e = let s : b ≡ batch = cc in ap (λ (x : Batch). x.order) s
    order_at (b ∷ batches) (suc n) batch d e = order_at batches n batch d e

-- where it stands and what it is of are there
pub kept_place : (site : Setup) (history : List Entry) (at : ℕ) (kept : Moved) → IsKeptOf site history at kept → kept.place < length history
unfolding kept_of
kept_place site history at kept k = let place = ap (λ (x : Moved). x.place) k.kept_is in let within = k.of.within in omega (arith, place, within)

pub kept_batch : (site : Setup) (history : List Entry) (at : ℕ) (kept : Moved) → IsKeptOf site history at kept → kept.batch < length (world_of site history).batches
unfolding kept_of
kept_batch site history at kept k =
    let number = ap (λ (x : Moved). x.batch) k.kept_is in
    let there = k.of.there in
    let long = length-map (world_of site history).batches (λ (b : Batch). b.order) in
    omega (arith, number, there, long)

-- ---- what is seen, by a content

-- the batches are apart, and named
apart_there : (w w' : World) → w ≡ w' → AreApart w.batches → AreApart w'.batches
apart_there w w' e a = subst (λ (x : World). AreApart x.batches) e a

named_there : (w w' : World) → w ≡ w' → All IsNamed w.batches → All IsNamed w'.batches
named_there w w' e a = subst (λ (x : World). All IsNamed x.batches) e a

pub seen_all : (site : Setup) (history : List Entry) (kept : List Moved) → kept ≡ map kept_of (moves site history) → length kept ≡ length (moves_seen site history None)
unfolding moves_seen
seen_all site history kept is = ap (λ (ms : List Moved). length ms) is ∙ length-map (moves site history) kept_of

pub seen_many : (site : Setup) (history : List Entry) (kept : List Moved) (batch : ℕ) (c : Content) → kept ≡ map kept_of (moves site history) → world_in c ≡ world_of site history → AreApart c.batches → All IsNamed c.batches → batch < length (world_of site history).batches
    → length (places_of kept batch) ≡ length (moves_seen site history (Some batch))
unfolding moves_seen
seen_many site history kept batch c is world apart named within = own_many site history kept batch is (apart_there (world_in c) (world_of site history) world apart) (named_there (world_in c) (world_of site history) world named) within

pub seen_move : (site : Setup) (history : List Entry) (kept : List Moved) (batch at place : ℕ) (d : Move) (c : Content) → kept ≡ map kept_of (moves site history) → world_in c ≡ world_of site history → AreApart c.batches → All IsNamed c.batches → batch < length (world_of site history).batches
    → at < length (places_of kept batch) → place ≡ get_or (places_of kept batch) at 0 → get_or (moves_seen site history (Some batch)) at d ≡ get_or (moves site history) place d
unfolding moves_seen
seen_move site history kept batch at place d c is world apart named within l place_is =
    own_move site history kept batch at place d is (apart_there (world_in c) (world_of site history) world apart) (named_there (world_in c) (world_of site history) world named) within l place_is

-- the number of events of the batch that stands at the place
pub seen_events : (site : Setup) (history : List Entry) (kept : List Moved) (batch : ℕ) (c : Content) (b : Batch) → kept ≡ map kept_of (moves site history) → world_in c ≡ world_of site history → AreApart c.batches → All IsNamed c.batches
    → batch < length (world_of site history).batches → slice_get (world_of site history).batches batch ≡ Some b → length (places_of kept batch) ≡ length (moves_of site history b.order.batch)
seen_events site history kept batch c b is world apart named within there =
    own_many site history kept batch is (apart_there (world_in c) (world_of site history) world apart) (named_there (world_in c) (world_of site history) world named) within
    ∙ ap (λ (name : Text). length (moves_of site history name)) (named_at (world_of site history).batches batch b there)
  where
    named_at : (bs : List Batch) (n : ℕ) (x : Batch) → slice_get bs n ≡ Some x → name_at bs n ≡ x.order.batch
    named_at [] n x e = absurd (cc)
    named_at (y ∷ bs) zero x e = let s : y ≡ x = cc in ap (λ (z : Batch). z.order.batch) s
    named_at (y ∷ bs) (suc n) x e = named_at bs n x e

-- ---- a part of a list

pub none_between : {A : Type 0} (xs : List A) (n : ℕ) → [] ≡ drop n (take n xs)
none_between [] zero = refl
none_between [] (suc n) = refl
none_between (x ∷ xs) zero = refl
none_between (x ∷ xs) (suc n) = none_between xs n

pub one_between : {A : Type 0} (xs : List A) (first at : ℕ) (x : A) → first ≤ at → at < length xs → x ≡ get_or xs at x → drop first (take (suc at) xs) ≡ drop first (take at xs) ++ x ∷ []
one_between [] first at x low l is = absurd (omega (arith, l))
one_between (y ∷ xs) zero zero x low l is = ap (λ (z : _). z ∷ []) (sym is)
one_between (y ∷ xs) zero (suc at) x low l is = ap (λ (zs : List _). y ∷ zs) (one_between xs zero at x (omega arith) (omega (arith, l)) is)
one_between (y ∷ xs) (suc first) zero x low l is = absurd (omega (arith, low))
one_between (y ∷ xs) (suc first) (suc at) x low l is = one_between xs first at x (omega (arith, low)) (omega (arith, l)) is

take_all : {A : Type 0} (xs : List A) (n : ℕ) → length xs ≤ n → take n xs ≡ xs
take_all [] zero l = refl
take_all [] (suc n) l = refl
take_all (x ∷ xs) zero l = absurd (omega (arith, l))
take_all (x ∷ xs) (suc n) l = ap (λ (ys : List _). x ∷ ys) (take_all xs n (omega (arith, l)))

drop_all : {A : Type 0} (xs : List A) (n : ℕ) → length xs ≤ n → drop n xs ≡ []
drop_all [] zero l = refl
drop_all [] (suc n) l = refl
drop_all (x ∷ xs) zero l = absurd (omega (arith, l))
drop_all (x ∷ xs) (suc n) l = drop_all xs n (omega (arith, l))

take_most : {A : Type 0} (xs : List A) (n m : ℕ) → (n ≤ length xs → m ≡ n) → (length xs ≤ n → m ≡ length xs) → take m xs ≡ take n xs
take_most xs n m low high = elim (dec_lt n (length xs)) [
  | yes l ↦ ap (λ (k : ℕ). take k xs) (low (omega (arith, l)))
  | no l ↦ ap (λ (k : ℕ). take k xs) (high (omega (arith, l))) ∙ take_all xs (length xs) (omega arith) ∙ sym (take_all xs n (omega (arith, l)))
]

drop_most : {A : Type 0} (xs : List A) (n m most : ℕ) → length xs ≤ most → (n ≤ most → m ≡ n) → (most ≤ n → m ≡ most) → drop m xs ≡ drop n xs
drop_most xs n m most few low high = elim (dec_lt n most) [
  | yes l ↦ ap (λ (k : ℕ). drop k xs) (low (omega (arith, l)))
  | no l ↦ ap (λ (k : ℕ). drop k xs) (high (omega (arith, l))) ∙ drop_all xs most few ∙ sym (drop_all xs n (omega (arith, few, l)))
]

take_few : {A : Type 0} (xs : List A) (n : ℕ) → length (take n xs) ≤ length xs
take_few [] zero = omega arith
take_few [] (suc n) = omega arith
take_few (x ∷ xs) zero = omega arith
take_few (x ∷ xs) (suc n) = let rest = take_few xs n in omega (arith, rest)

-- places past the end have nothing
pub between : {A : Type 0} (xs : List A) (from_ past_ first past : ℕ) → (from_ ≤ length xs → first ≡ from_) → (length xs ≤ from_ → first ≡ length xs) → (past_ ≤ length xs → past ≡ past_) → (length xs ≤ past_ → past ≡ length xs)
    → drop first (take past xs) ≡ drop from_ (take past_ xs)
between xs from_ past_ first past low high low_past high_past =
    ap (λ (ys : List _). drop first ys) (take_most xs past_ past low_past high_past) ∙ drop_most (take past_ xs) from_ first (length xs) (take_few xs past_) low high

pub in_order : (n m all first past : ℕ) → n ≤ m → (n ≤ all → first ≡ n) → (all ≤ n → first ≡ all) → (m ≤ all → past ≡ m) → (all ≤ m → past ≡ all) → first ≤ past
in_order n m all first past l low high low_past high_past = elim (dec_lt n all) [
  | yes a ↦ elim (dec_lt m all) [
    | yes b ↦ let f = low (omega (arith, a)) in let p = low_past (omega (arith, b)) in omega (arith, l, f, p)
    | no b ↦ let f = low (omega (arith, a)) in let p = high_past (omega (arith, b)) in omega (arith, a, f, p)
  ]
  | no a ↦ let f = high (omega (arith, a)) in let p = high_past (omega (arith, a, l)) in omega (arith, f, p)
]
