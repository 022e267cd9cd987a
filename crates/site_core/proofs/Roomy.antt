-- Room for planned entries.
use Rattle.std.proofs.Common.{◌≡◌, ◌≢◌, ◌<◌, ◌≤◌, ◌+◌, ◌-◌, inl, inr, ℕ, zero, suc, Bool, true, List, [], ◌∷◌, length, get_or, set, Option, None, Some, refl, sym, ap, ◌∙◌, subst, arith}
use Rattle.std.specs.Prelude.{if◌then◌else◌, Result, Ok, Err, IfOk, IfSome}
use Rattle.site_deeds.specs.declared.decided.Decided.{Decided}
use Rattle.std.specs.Cmp.{nat_eq_equiv}
use Rattle.std.specs.List.{AllByRecursion as Every}
use Rattle.std.proofs.lemmas.List.{get_or-set_same, get_or-set_other}
use Rattle.gs1_keys.specs.Forms.{is_among}
use Rattle.deed_words.specs.Happenings.{listed}
use Rattle.serial_pool.specs.Held.{PoolView, PlanView}
use Rattle.move_list.specs.declared.moved.Moved.{Moved}
use Rattle.move_list.specs.Held.{MoveRoom, HasRoom, room_after, room_before}
use Rattle.site_stores.specs.declared.change.Change.{Change}
use Rattle.site_stores.specs.Changes.{room_for, with_room, no_room}
use Rattle.site_stores.specs.Holding as stores
use Rattle.site_deeds.specs.Decisions.{serials_drawn}
use Rattle.site_deeds.specs.Draws.{HasRoomToDraw}
use Rattle.site_core.specs.declared.planned.Planned.{Planned}
use Rattle.site_core.specs.Rooms.{one_of, count_of, changes_room, IsKnown, moves_count, of_batch, batch_count, HasRoomToMove, HasMoreRoom, HasRoomFor, FitsIn, IsRoomier}
use Rattle.site_core.specs.View.{View, Room}
use Rattle.site_core.proofs.Drawing.{draw_still}
use Rattle.site_core.proofs.Pages.{same_or_not, differ}

-- ---- rooms of the stores

pub within_all : (a b c : stores.Room) → stores.IsWithin a b → stores.IsWithin b c → stores.IsWithin a c
within_all a b c x y = record {
  batches = omega (arith, x.batches, y.batches);
  declarations = omega (arith, x.declarations, y.declarations);
  rows = omega (arith, x.rows, y.rows);
  units = omega (arith, x.units, y.units);
}

pub one_within : (a b : stores.Room) → stores.IsWithin a b → stores.IsWithin (with_room a no_room) b
one_within a b x = record { batches = omega (arith, x.batches); declarations = omega (arith, x.declarations); rows = omega (arith, x.rows); units = omega (arith, x.units) }

pub first_within : (a b c : stores.Room) → stores.IsWithin (with_room a b) c → stores.IsWithin a c
first_within a b c x = record { batches = omega (arith, x.batches); declarations = omega (arith, x.declarations); rows = omega (arith, x.rows); units = omega (arith, x.units) }

rest_within : (a b new : stores.Room) → stores.IsWithin (with_room a b) (with_room new a) → stores.IsWithin b new
rest_within a b new x = record { batches = omega (arith, x.batches); declarations = omega (arith, x.declarations); rows = omega (arith, x.rows); units = omega (arith, x.units) }

both_within : (a b old : stores.Room) → stores.IsWithin b old → stores.IsWithin (with_room a b) (with_room old a)
both_within a b old x = record { batches = omega (arith, x.batches); declarations = omega (arith, x.declarations); rows = omega (arith, x.rows); units = omega (arith, x.units) }

within_same : (a : stores.Room) → stores.IsWithin a a
within_same a = record { batches = omega arith; declarations = omega arith; rows = omega arith; units = omega arith }

-- ---- numbers of stations

some_within : (ns : List ℕ) (s : ℕ) → 0 < get_or ns s 0 → s < length ns
some_within [] s some = absurd (omega (arith, some))
some_within (n ∷ ns) zero some = omega arith
some_within (n ∷ ns) (suc s) some = let rest = some_within ns s some in omega (arith, rest)

abbrev one_if_true : Bool → ℕ
one_if_true b = if b then 1 else 0

one_if : (n : ℕ) → one_of n n ≡ 1
one_if n = ap one_if_true (nat_eq_equiv.refl n)

none_if : (n m : ℕ) → n ≢ m → one_of n m ≡ 0
none_if n m d = ap one_if_true (differ n m d)

spent_number : (ns : List ℕ) (station s count : ℕ) → one_of station s + count ≤ get_or ns s 0 → count ≤ get_or (set ns station (get_or ns station 0 - 1)) s 0
spent_number ns station s count few =
    elim (same_or_not station s) as (λ _. count ≤ get_or (set ns station (get_or ns station 0 - 1)) s 0) [
      | inl e ↦
          let one : 1 + count ≤ get_or ns station 0 = let at : one_of station station + count ≤ get_or ns station 0 = subst (λ (k : ℕ). one_of station k + count ≤ get_or ns k 0) (sym e) few in let is = one_if station in omega (arith, at, is) in
          subst (λ (k : ℕ). count ≤ get_or (set ns station (get_or ns station 0 - 1)) k 0) e
          (let here = get_or-set_same ns station (get_or ns station 0 - 1) 0 (some_within ns station (omega (arith, one))) in omega (arith, here, one))
      | inr d ↦
          let there = get_or-set_other ns station s (get_or ns station 0 - 1) 0 (λ e. d (sym e)) in
          let none = none_if station s d in
          omega (arith, there, none, few)
    ]

more_number : (ns : List ℕ) (station s count : ℕ) → station < length ns → count ≤ get_or ns s 0 → one_of station s + count ≤ get_or (set ns station (get_or ns station 0 + 1)) s 0
more_number ns station s count within few =
    elim (same_or_not station s) as (λ _. one_of station s + count ≤ get_or (set ns station (get_or ns station 0 + 1)) s 0) [
      | inl e ↦
          let at : count ≤ get_or ns station 0 = subst (λ (k : ℕ). count ≤ get_or ns k 0) (sym e) few in
          subst (λ (k : ℕ). one_of station k + count ≤ get_or (set ns station (get_or ns station 0 + 1)) k 0) e
          (let here = get_or-set_same ns station (get_or ns station 0 + 1) 0 within in let is = one_if station in omega (arith, here, is, at))
      | inr d ↦
          let there = get_or-set_other ns station s (get_or ns station 0 + 1) 0 (λ e. d (sym e)) in
          let none = none_if station s d in
          omega (arith, there, none, few)
    ]

some_number : (ns : List ℕ) (station s : ℕ) → 1 ≤ get_or ns station 0 → one_of station s + 0 ≤ get_or ns s 0
some_number ns station s some =
    elim (same_or_not station s) as (λ _. one_of station s + 0 ≤ get_or ns s 0) [
      | inl e ↦ subst (λ (k : ℕ). one_of station k + 0 ≤ get_or ns k 0) e (let is = one_if station in omega (arith, is, some))
      | inr d ↦ let none = none_if station s d in omega (arith, none)
    ]

-- the room of one station after room was made for one
pub number_kept : (old new : List ℕ) (station other more : ℕ) → new ≡ set old station more → get_or old station 0 ≤ more → get_or old other 0 ≤ get_or new other 0
number_kept old new station other more is enough =
    elim (same_or_not station other) as (λ _. get_or old other 0 ≤ get_or new other 0) [
      | inl e ↦ kept_here e
      | inr d ↦
          let there = ap (λ (ns : List ℕ). get_or ns other 0) is ∙ get_or-set_other old station other more 0 (λ e. d (sym e)) in
          omega (arith, there)
    ]
  where
    at_place : (ns : List ℕ) (s m : ℕ) → get_or ns s 0 ≤ m → get_or ns s 0 ≤ get_or (set ns s m) s 0
    at_place [] s m l = omega arith
    at_place (n ∷ ns) zero m l = l
    at_place (n ∷ ns) (suc s) m l = at_place ns s m l

    kept_here : station ≡ other → get_or old other 0 ≤ get_or new other 0
    kept_here e = subst (λ (k : ℕ). get_or old k 0 ≤ get_or new k 0) e (let there = ap (λ (ns : List ℕ). get_or ns station 0) is in let up = at_place old station more enough in omega (arith, there, up))

-- ---- room for moves

after_any : (room : MoveRoom) (o : Option Moved) (n : ℕ) → length (listed o) + n ≤ room.any → n ≤ (room_after room o).any
unfolding listed
after_any room None n few = omega (arith, few)
after_any room (Some moved) n few = omega (arith, few)

after_own : (room : MoveRoom) (o : Option Moved) (batch n : ℕ) → of_batch batch o + n ≤ get_or room.own batch 0 → n ≤ get_or (room_after room o).own batch 0
after_own room None batch n few = omega (arith, few)
after_own room (Some moved) batch n few = spent_number room.own moved.batch batch n few

before_any : (room : MoveRoom) (o : Option Moved) (n : ℕ) → n ≤ room.any → length (listed o) + n ≤ (room_before room o).any
unfolding listed
before_any room None n few = omega (arith, few)
before_any room (Some moved) n few = omega (arith, few)

before_own : (room : MoveRoom) (o : Option Moved) (batch n : ℕ) → IfSome o (λ moved. moved.batch < length room.own) → n ≤ get_or room.own batch 0 → of_batch batch o + n ≤ get_or (room_before room o).own batch 0
before_own room None batch n within few = omega (arith, few)
before_own room (Some moved) batch n within few = more_number room.own moved.batch batch n within few

one_any : (room : MoveRoom) (o : Option Moved) → HasRoom room o → length (listed o) + 0 ≤ room.any
unfolding listed
one_any room None has = omega arith
one_any room (Some moved) has = let some = has.0 in omega (arith, some)

one_own : (room : MoveRoom) (o : Option Moved) (batch : ℕ) → HasRoom room o → of_batch batch o + 0 ≤ get_or room.own batch 0
one_own room None batch has = omega arith
one_own room (Some moved) batch has = let some = has.1 in some_number room.own moved.batch batch (omega (arith, some))

moves_spent : (old new : MoveRoom) (planned : Planned) (later : List Planned) → new ≡ room_after old planned.moved → HasRoomToMove old (planned ∷ later) → HasRoomToMove new later
moves_spent old new planned later is room = subst (λ (r : MoveRoom). HasRoomToMove r later) (sym is) (record {
  any = after_any old planned.moved (moves_count later) room.any;
  own = λ b. after_own old planned.moved b (batch_count b later) (room.own b);
})

moves_back : (old new : MoveRoom) (planned : Planned) (later : List Planned) → new ≡ room_before old planned.moved → IfSome planned.moved (λ moved. moved.batch < length old.own) → HasRoomToMove old later → HasRoomToMove new (planned ∷ later)
moves_back old new planned later is within room = subst (λ (r : MoveRoom). HasRoomToMove r (planned ∷ later)) (sym is) (record {
  any = before_any old planned.moved (moves_count later) room.any;
  own = λ b. before_own old planned.moved b (batch_count b later) within (room.own b);
})

moves_kept : (old new : MoveRoom) (later : List Planned) → HasMoreRoom old new → HasRoomToMove old later → HasRoomToMove new later
moves_kept old new later more room = record {
  any = let a = more.any in let b = room.any in omega (arith, a, b);
  own = λ b. let p = more.own b in let q = room.own b in omega (arith, p, q);
}

move_for_one : (room : MoveRoom) (planned : Planned) → HasRoom room planned.moved → HasRoomToMove room (planned ∷ [])
move_for_one room planned has = record { any = one_any room planned.moved has; own = λ b. one_own room planned.moved b has }

first_alone : (one more most : ℕ) → one + more ≤ most → one + 0 ≤ most
first_alone one more most few = omega (arith, few)

moves_first : (room : MoveRoom) (planned : Planned) (later : List Planned) → HasRoomToMove room (planned ∷ later) → HasRoomToMove room (planned ∷ [])
moves_first room planned later has = record {
  any = first_alone (length (listed planned.moved)) (moves_count later) room.any has.any;
  own = λ b. first_alone (of_batch b planned.moved) (batch_count b later) (get_or room.own b 0) (has.own b);
}

pub same_moves : (old new : MoveRoom) → new ≡ old → HasMoreRoom old new
same_moves old new same = subst (λ (r : MoveRoom). HasMoreRoom old r) (sym same) (record { any = omega arith; own = λ b. omega arith })

some_listed : (moved : Moved) → length (listed (Some moved)) ≡ 1
unfolding listed
some_listed moved = refl

first_of : (room : MoveRoom) (o : Option Moved) (more : ℕ) (others : ℕ → ℕ) → length (listed o) + more ≤ room.any → ((b : ℕ) → of_batch b o + others b ≤ get_or room.own b 0) → HasRoom room o
first_of room None more others any own = tt
first_of room (Some moved) more others any own =
    let a = some_listed moved in
    let b = own moved.batch in
    let one = one_if moved.batch in
    (omega (arith, any, a), omega (arith, b, one))

-- the list has room for the first move
pub first_move : (room : MoveRoom) (planned : Planned) (later : List Planned) → HasRoomToMove room (planned ∷ later) → HasRoom room planned.moved
first_move room planned later has = first_of room planned.moved (moves_count later) (λ b. batch_count b later) has.any has.own

-- ---- room for planned entries

-- a commit takes the room of its own
pub room_spent : (old new : View) (planned : Planned) → old.room.entries ≤ new.room.entries + 1 → new.room.numbers ≡ set old.room.numbers planned.entry.station (get_or old.room.numbers planned.entry.station 0 - 1)
    → old.room.stores ≡ with_room new.room.stores (room_for planned.change) → new.room.serials + length (serials_drawn planned.draw) ≡ old.room.serials → new.room.gtins ≡ old.room.gtins → new.room.moves ≡ room_after old.room.moves planned.moved
    → (later : List Planned) → HasRoomFor old (planned ∷ later) → HasRoomFor new later
room_spent old new planned entries numbers of_stores serials gtins moves later room = record {
  entries = omega (arith, entries, room.entries);
  numbers = λ s. subst (λ (ns : List ℕ). count_of s later ≤ get_or ns s 0) (sym numbers) (spent_number old.room.numbers planned.entry.station s (count_of s later) (room.numbers s));
  stores = rest_within (room_for planned.change) (changes_room later) new.room.stores (subst (λ (r : stores.Room). stores.IsWithin (with_room (room_for planned.change) (changes_room later)) r) of_stores room.stores);
  serials = omega (arith, serials, room.serials);
  gtins = subst (λ (g : List (List ℕ)). Every (λ p. IsKnown g p.draw) later) (sym gtins) room.gtins.1;
  moves = moves_spent old.room.moves new.room.moves planned later moves room.moves;
}

-- and an undo gives it back
pub room_back : (old new : View) (planned : Planned) → old.room.entries + 1 ≤ new.room.entries → planned.entry.station < length old.room.numbers → new.room.numbers ≡ set old.room.numbers planned.entry.station (get_or old.room.numbers planned.entry.station 0 + 1)
    → new.room.stores ≡ with_room old.room.stores (room_for planned.change) → new.room.serials ≡ old.room.serials + length (serials_drawn planned.draw) → new.room.gtins ≡ old.room.gtins → IsKnown old.room.gtins planned.draw
    → new.room.moves ≡ room_before old.room.moves planned.moved → IfSome planned.moved (λ moved. moved.batch < length old.room.moves.own) → (later : List Planned) → HasRoomFor old later → HasRoomFor new (planned ∷ later)
room_back old new planned entries within numbers of_stores serials gtins known moves moves_in later room = record {
  entries = omega (arith, entries, room.entries);
  numbers = λ s. subst (λ (ns : List ℕ). one_of planned.entry.station s + count_of s later ≤ get_or ns s 0) (sym numbers) (more_number old.room.numbers planned.entry.station s (count_of s later) within (room.numbers s));
  stores = subst (λ (r : stores.Room). stores.IsWithin (with_room (room_for planned.change) (changes_room later)) r) (sym of_stores) (both_within (room_for planned.change) (changes_room later) old.room.stores room.stores);
  serials = omega (arith, serials, room.serials);
  gtins = subst (λ (g : List (List ℕ)). Every (λ p. IsKnown g p.draw) (planned ∷ later)) (sym gtins) (known, room.gtins);
  moves = moves_back old.room.moves new.room.moves planned later moves moves_in room.moves;
}

all_still : (old new : List (List ℕ)) → ((gtin : List ℕ) → is_among old gtin ≡ true → is_among new gtin ≡ true) → (later : List Planned) → Every (λ p. IsKnown old p.draw) later → Every (λ p. IsKnown new p.draw) later
all_still old new still [] a = tt
all_still old new still (p ∷ later) a = (draw_still old new p.draw still a.0, all_still old new still later a.1)

pub room_kept : (old new : View) → IsRoomier old.room new.room → (later : List Planned) → HasRoomFor old later → HasRoomFor new later
room_kept old new more later room = record {
  entries = omega (arith, more.entries, room.entries);
  numbers = λ s. let a = more.numbers s in let b = room.numbers s in omega (arith, a, b);
  stores = within_all (changes_room later) old.room.stores new.room.stores room.stores more.stores;
  serials = omega (arith, more.serials, room.serials);
  gtins = all_still old.room.gtins new.room.gtins more.gtins later room.gtins;
  moves = moves_kept old.room.moves new.room.moves later more.moves room.moves;
}

-- ---- room for one

pub room_for_one : (view : View) (planned : Planned) → 1 ≤ view.room.entries → 1 ≤ get_or view.room.numbers planned.entry.station 0 → FitsIn view.room planned.change planned.draw → HasRoom view.room.moves planned.moved → HasRoomFor view (planned ∷ [])
room_for_one view planned entries numbers fits has = record {
  entries = entries;
  numbers = λ s. some_number view.room.numbers planned.entry.station s numbers;
  stores = one_within (room_for planned.change) view.room.stores fits.stores;
  serials = let few = fits.serials in omega (arith, few);
  gtins = (fits.gtin, tt);
  moves = move_for_one view.room.moves planned has;
}

-- what fits still fits where the room doesn't fall
pub fits_still : (old new : Room) (change : Change) (draw : Option PlanView) → IsRoomier old new → FitsIn old change draw → FitsIn new change draw
fits_still old new change draw more fits = record {
  stores = within_all (room_for change) old.stores new.stores fits.stores more.stores;
  serials = let a = fits.serials in let b = more.serials in omega (arith, a, b);
  gtin = draw_still old.gtins new.gtins draw more.gtins fits.gtin;
}

pub roomier : (a b c : Room) → IsRoomier a b → IsRoomier b c → IsRoomier a c
roomier a b c x y = record {
  entries = let p = x.entries in let q = y.entries in omega (arith, p, q);
  numbers = λ s. let p = x.numbers s in let q = y.numbers s in omega (arith, p, q);
  stores = within_all a.stores b.stores c.stores x.stores y.stores;
  serials = let p = x.serials in let q = y.serials in omega (arith, p, q);
  gtins = λ g e. y.gtins g (x.gtins g e);
  moves = record {
    any = let p = x.moves.any in let q = y.moves.any in omega (arith, p, q);
    own = λ b. let p = x.moves.own b in let q = y.moves.own b in omega (arith, p, q);
  };
}

pub fits_drawn : (pool : PoolView) (room : Room) (change : Change) (draw : Option PlanView) → room.serials ≡ pool.room → room.gtins ≡ pool.gtins → stores.IsWithin (room_for change) room.stores → HasRoomToDraw pool draw → FitsIn room change draw
fits_drawn pool room change None serials gtins of_stores draw = record { stores = of_stores; serials = omega arith; gtin = tt }
fits_drawn pool room change (Some plan) serials gtins of_stores draw = record {
  stores = of_stores;
  serials = let few = draw.serials in omega (arith, few, serials);
  gtin = subst (λ (g : List (List ℕ)). is_among g plan.gtin ≡ true) (sym gtins) draw.gtin;
}

-- the pool has room for the first draw
pub draw_room : (view : View) (pool : PoolView) (planned : Planned) (later : List Planned) → view.room.serials ≡ pool.room → view.room.gtins ≡ pool.gtins → HasRoomFor view (planned ∷ later) → HasRoomToDraw pool planned.draw
draw_room view pool planned later serials gtins room = fits planned.draw (omega (arith, serials, room.serials)) (subst (λ (g : List (List ℕ)). IsKnown g planned.draw) gtins room.gtins.0)
  where
    fits : (draw : Option PlanView) → length (serials_drawn draw) ≤ pool.room → IsKnown pool.gtins draw → HasRoomToDraw pool draw
    fits None few known = tt
    fits (Some plan) few known = record { serials = few; gtin = known }

pub both_fit : {E : Type 0} → (pool : PoolView) (room : Room) (result : Result Decided E) → room.serials ≡ pool.room → room.gtins ≡ pool.gtins → IfOk result (λ d. stores.IsWithin (room_for d.change) room.stores) → IfOk result (λ d. HasRoomToDraw pool d.draw)
    → IfOk result (λ d. FitsIn room d.change d.draw)
both_fit pool room (Ok d) serials gtins of_stores draw = fits_drawn pool room d.change d.draw serials gtins of_stores draw
both_fit pool room (Err e) serials gtins of_stores draw = tt

pub roomier_by : (old new : Room) (pool new_pool : PoolView) → old.entries ≡ new.entries → old.numbers ≡ new.numbers → stores.IsWithin old.stores new.stores → old.serials ≡ pool.room → new.serials ≡ new_pool.room → old.gtins ≡ pool.gtins → new.gtins ≡ new_pool.gtins
    → pool.room ≤ new_pool.room → ((gtin : List ℕ) → is_among pool.gtins gtin ≡ true → is_among new_pool.gtins gtin ≡ true) → new.moves ≡ old.moves → IsRoomier old new
roomier_by old new pool new_pool entries numbers of_stores serials new_serials gtins new_gtins more still moves = record {
  entries = omega (arith, entries);
  numbers = λ s. let e = ap (λ (ns : List ℕ). get_or ns s 0) numbers in omega (arith, e);
  stores = of_stores;
  serials = omega (arith, serials, new_serials, more);
  gtins = λ g e. subst (λ (gs : List (List ℕ)). is_among gs g ≡ true) (sym new_gtins) (still g (subst (λ (gs : List (List ℕ)). is_among gs g ≡ true) gtins e));
  moves = same_moves old.moves new.moves moves;
}

-- room that was made for one more entry of a station
pub roomier_for : (old new : Room) (station more : ℕ) → old.entries ≤ new.entries → new.numbers ≡ set old.numbers station more → get_or old.numbers station 0 ≤ more → new.stores ≡ old.stores → new.serials ≡ old.serials → new.gtins ≡ old.gtins → HasMoreRoom old.moves new.moves → IsRoomier old new
roomier_for old new station more entries numbers enough of_stores serials gtins moves = record {
  entries = entries;
  numbers = λ s. number_kept old.numbers new.numbers station s more numbers enough;
  stores = subst (λ (r : stores.Room). stores.IsWithin old.stores r) (sym of_stores) (within_same old.stores);
  serials = omega (arith, serials);
  gtins = λ g e. subst (λ (gs : List (List ℕ)). is_among gs g ≡ true) (sym gtins) e;
  moves = moves;
}

pub roomier_same : (old new : Room) → old.entries ≤ new.entries → new.numbers ≡ old.numbers → new.stores ≡ old.stores → new.serials ≡ old.serials → new.gtins ≡ old.gtins → HasMoreRoom old.moves new.moves → IsRoomier old new
roomier_same old new entries numbers of_stores serials gtins moves = record {
  entries = entries;
  numbers = λ s. let e = ap (λ (ns : List ℕ). get_or ns s 0) numbers in omega (arith, e);
  stores = subst (λ (r : stores.Room). stores.IsWithin old.stores r) (sym of_stores) (within_same old.stores);
  serials = omega (arith, serials);
  gtins = λ g e. subst (λ (gs : List (List ℕ)). is_among gs g ≡ true) (sym gtins) e;
  moves = moves;
}

-- the plan takes the room of what was decided
pub fits_plan : (room : Room) (decided : Decided) (planned : Planned) → planned.change ≡ decided.change → serials_drawn planned.draw ≡ serials_drawn decided.draw → ((gtins : List (List ℕ)) → IsKnown gtins decided.draw → IsKnown gtins planned.draw)
    → FitsIn room decided.change decided.draw → FitsIn room planned.change planned.draw
fits_plan room decided planned change serials known fits = record {
  stores = subst (λ (x : Change). stores.IsWithin (room_for x) room.stores) (sym change) fits.stores;
  serials = let few = fits.serials in let same = ap (λ (s : List (List ℕ)). length s) serials in omega (arith, few, same);
  gtin = known room.gtins fits.gtin;
}

-- where there is room for several, there is room for the first
first_counted : (station s more most : ℕ) → one_of station s + more ≤ most → one_of station s + 0 ≤ most
first_counted station s more most few = omega (arith, few)

pub room_first : (view : View) (planned : Planned) (later : List Planned) → HasRoomFor view (planned ∷ later) → HasRoomFor view (planned ∷ [])
room_first view planned later room = record {
  entries = let e = room.entries in omega (arith, e);
  numbers = λ s. first_counted planned.entry.station s (count_of s later) (get_or view.room.numbers s 0) (room.numbers s);
  stores = one_within (room_for planned.change) view.room.stores (first_within (room_for planned.change) (changes_room later) view.room.stores room.stores);
  serials = let e = room.serials in omega (arith, e);
  gtins = (room.gtins.0, tt);
  moves = moves_first view.room.moves planned later room.moves;
}
