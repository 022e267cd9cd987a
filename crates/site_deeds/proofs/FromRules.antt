-- What it says of a deed that it breaks no rule.
use Rattle.std.proofs.Common.{◌≡◌, ◌≢◌, ◌+◌, ◌<◌, ◌≤◌, ℕ, Bool, true, false, true≢false, not, nat_lt, List, [], ◌∷◌, length, map, Option, Some, None, refl, sym, ap, ◌∙◌, subst, arith, rules}
use Rattle.std.specs.Prelude.{is_some, is_none, option_and_then, option_map, IsSome}
use Rattle.std.specs.List.{position, IsDistinct, AllByRecursion as Every}
use Rattle.std.proofs.lemmas.Bool.Decides.{nat_tests}
use Rattle.epc_urn.specs.declared.epc.Epc.{Epc}
use Rattle.epc_urn.specs.declared.epc.Epc.TheVariants.{Item, Unit as Box}
use Rattle.deed_words.specs.Chain.{when, holds_of}
use Rattle.deed_words.specs.Deeds.{named, batch_named, batch_for, unit_named, order_rows}
use Rattle.deed_words.specs.Moves.{moved, told_state}
use Rattle.deed_words.specs.Names.{Text, same, same_name}
use Rattle.deed_words.specs.Orders.{new_orders, orders_in}
use Rattle.deed_words.specs.Rules.{broken, rules_of, on_rows}
use Rattle.deed_words.specs.Setups.{Setup, next_reference, reference_bound}
use Rattle.deed_words.specs.Tests.{repeated, unknown_serial, wrong_state, has_parent, not_child, site_full, sscc_spent, closed, not_started, is_closed, is_planned, is_known, unfit}
use Rattle.deed_words.specs.World.{World, batch_of, unit_of, row_of, parent}
use Rattle.deed_words.specs.declared.deed.Deed.{Deed}
use Rattle.deed_words.specs.declared.deed.Deed.TheVariants.{Order, Orders, Start, Lend, Commission, Spoil, Giveback, Sample, Reject, Reinstate, Destroy, Decommission, Container as MakeUnit, Pack, Unpack, UnpackAll, Seal, Unseal, Void, Declare, Close, Amend}
use Rattle.deed_words.specs.declared.deed.OrderRow.{OrderRow}
use Rattle.deed_words.specs.declared.rule.Rule.TheVariants as rule
use Rattle.deed_words.specs.declared.words.Level.{Level}
use Rattle.deed_words.specs.declared.words.Phase.{Phase}
use Rattle.deed_words.specs.declared.words.Phase.TheVariants.{Planned, Started, Closed}
use Rattle.deed_words.specs.declared.words.What.TheVariants.{Batches, Units}
use Rattle.deed_words.specs.declared.world.Batch.{Batch}
use Rattle.deed_words.specs.declared.world.Container.{Container}
use Rattle.deed_words.specs.declared.world.Row.{Row}
use Rattle.deed_words.proofs.Allowed.{NoneOf, allowed, has_batch, has_unit, has_room, at_found, not_false}
use Rattle.deed_words.proofs.Broken.{each_when, each_map, differ, when_None}
use Rattle.item_store.specs.declared.row.ItemRow.{ItemRow}
use Rattle.item_store.specs.Rows.{is_named}
use Rattle.pack_tree.specs.declared.node.Node.{Node}
use Rattle.pack_tree.specs.declared.node.Node.TheVariants.{Item as AnItem, Unit as AUnit}
use Rattle.pack_tree.specs.Units.{is_coded}
use Rattle.batch_book.specs.Content.{Content, world_in}
use Rattle.site_stores.specs.Places.{place_of}
use Rattle.site_stores.specs.Holding.{IsWhole}
use Rattle.site_stores.proofs.Finding.{no_row, no_unit, the_row, within}
use Rattle.site_stores.proofs.Placing.{parent_nowhere}
use Rattle.site_deeds.specs.Placed.{CanMove}
use Rattle.site_deeds.proofs.Shared.{got}

pub not_none : {A : Type 0} (o : Option A) (x : A) → o ≡ Some x → o ≢ None
not_none {A} o x e f = none_is (sym f ∙ e)
  where
    none_is : None ≡ Some x → ⊥
    none_is z = cc

module _ (site : Setup) (w : World) (station : ℕ) where
  -- ---- deeds on a batch
  batch_there : (deed : Deed) (name : Text) → batch_named w deed ≡ name → (batch : Batch) × (batch_of w (batch_named w deed) ≡ Some batch) → batch_of w name ≢ None
  batch_there deed name is b = not_none (batch_of w name) b.0 (ap (batch_of w) (sym is) ∙ b.1)

  pub start_batch : (name : Text) → broken site w station (Start name) ≡ None → batch_of w name ≢ None
  unfolding rules_of NoneOf batch_named
  start_batch name e = batch_there (Start name) name refl (has_batch site w station (Start name) (allowed site w station (Start name) e).1.0)

  pub close_batch : (name : Text) → broken site w station (Close name) ≡ None → batch_of w name ≢ None
  unfolding rules_of NoneOf batch_named
  close_batch name e = batch_there (Close name) name refl (has_batch site w station (Close name) (allowed site w station (Close name) e).1.0)

  pub amend_batch : (name : Text) (quantity : ℕ) → broken site w station (Amend name quantity) ≡ None → batch_of w name ≢ None
  unfolding rules_of NoneOf batch_named
  amend_batch name quantity e = batch_there (Amend name quantity) name refl (has_batch site w station (Amend name quantity) (allowed site w station (Amend name quantity) e).1.0)

  pub declare_batch : (name : Text) (good spoiled returned : ℕ) → broken site w station (Declare name good spoiled returned) ≡ None → batch_of w name ≢ None
  unfolding rules_of NoneOf batch_named
  declare_batch name good spoiled returned e =
      batch_there (Declare name good spoiled returned) name refl (has_batch site w station (Declare name good spoiled returned) (allowed site w station (Declare name good spoiled returned) e).1.0)

  pub lend_batch : (name : Text) (count : ℕ) → broken site w station (Lend name count) ≡ None → batch_of w name ≢ None
  unfolding rules_of NoneOf batch_named
  lend_batch name count e = batch_there (Lend name count) name refl (has_batch site w station (Lend name count) (allowed site w station (Lend name count) e).1.0)

  pub make_batch : (name : Text) (level : Level) → broken site w station (MakeUnit name level) ≡ None → batch_of w name ≢ None
  unfolding rules_of NoneOf batch_named
  make_batch name level e = batch_there (MakeUnit name level) name refl (has_batch site w station (MakeUnit name level) (allowed site w station (MakeUnit name level) e).1.0)

  not_closed : (batch : Batch) → is_closed batch ≡ false → batch.phase ≢ Closed
  unfolding is_closed
  not_closed batch e f = true≢false (sym (subst (λ (p : Phase). elim p as (λ _. Bool) [ Planned ↦ false | Started ↦ false | Closed ↦ true ] ≡ true) (sym f) refl) ∙ e)

  in_work : (batch : Batch) → is_planned batch ≡ false → is_closed batch ≡ false → batch.phase ≡ Started
  unfolding is_planned is_closed
  in_work batch =
      elim batch.phase as (λ (p : Phase). elim p as (λ _. Bool) [ Planned ↦ true | Started ↦ false | Closed ↦ false ] ≡ false → elim p as (λ _. Bool) [ Planned ↦ false | Started ↦ false | Closed ↦ true ] ≡ false → p ≡ Started) [
        | Planned ↦ λ a b. absurd (true≢false a)
        | Started ↦ λ a b. refl
        | Closed ↦ λ a b. absurd (true≢false b)
      ]

  pub amend_open : (name : Text) (quantity : ℕ) → broken site w station (Amend name quantity) ≡ None → (batch : Batch) → batch_of w name ≡ Some batch → batch.phase ≢ Closed
  unfolding rules_of NoneOf batch_named closed batch_for
  amend_open name quantity e batch is =
      not_closed batch (at_found is_closed (batch_of w name) batch false is (when_None (holds_of is_closed (batch_of w name)) rule.BatchClosed (allowed site w station (Amend name quantity) e).1.1.0))

  pub declare_started : (name : Text) (good spoiled returned : ℕ) → broken site w station (Declare name good spoiled returned) ≡ None → (batch : Batch) → batch_of w name ≡ Some batch → batch.phase ≡ Started
  unfolding rules_of NoneOf batch_named closed not_started batch_for
  declare_started name good spoiled returned e batch is =
      let p = allowed site w station (Declare name good spoiled returned) e in
      in_work batch
      (at_found is_planned (batch_of w name) batch false is (when_None (holds_of is_planned (batch_of w name)) rule.BatchNotStarted p.1.1.0))
      (at_found is_closed (batch_of w name) batch false is (when_None (holds_of is_closed (batch_of w name)) rule.BatchClosed p.1.1.1.0))

  -- ---- deeds on a unit
  unit_there : (deed : Deed) (sscc : Text) → unit_named deed ≡ sscc → broken site w station deed ≡ None → (unit : _) × (unit_of w (unit_named deed) ≡ Some unit) → unit_of w sscc ≢ None
  unit_there deed sscc is e u = not_none (unit_of w sscc) u.0 (ap (unit_of w) (sym is) ∙ u.1)

  pub seal_unit : (sscc : Text) → broken site w station (Seal sscc) ≡ None → unit_of w sscc ≢ None
  unfolding rules_of NoneOf unit_named
  seal_unit sscc e = unit_there (Seal sscc) sscc refl e (has_unit site w station (Seal sscc) (allowed site w station (Seal sscc) e).1.0)

  pub unseal_unit : (sscc : Text) → broken site w station (Unseal sscc) ≡ None → unit_of w sscc ≢ None
  unfolding rules_of NoneOf unit_named
  unseal_unit sscc e = unit_there (Unseal sscc) sscc refl e (has_unit site w station (Unseal sscc) (allowed site w station (Unseal sscc) e).1.0)

  pub void_unit : (sscc : Text) → broken site w station (Void sscc) ≡ None → unit_of w sscc ≢ None
  unfolding rules_of NoneOf unit_named
  void_unit sscc e = unit_there (Void sscc) sscc refl e (has_unit site w station (Void sscc) (allowed site w station (Void sscc) e).1.0)

  pub pack_unit : (sscc : Text) (children : List Epc) → broken site w station (Pack sscc children) ≡ None → unit_of w sscc ≢ None
  unfolding rules_of NoneOf unit_named
  pack_unit sscc children e = unit_there (Pack sscc children) sscc refl e (has_unit site w station (Pack sscc children) (allowed site w station (Pack sscc children) e).1.0)

  pub unpack_unit : (sscc : Text) (children : List Epc) → broken site w station (Unpack sscc children) ≡ None → unit_of w sscc ≢ None
  unfolding rules_of NoneOf unit_named
  unpack_unit sscc children e = unit_there (Unpack sscc children) sscc refl e (has_unit site w station (Unpack sscc children) (allowed site w station (Unpack sscc children) e).1.0)

  pub empty_unit : (sscc : Text) → broken site w station (UnpackAll sscc) ≡ None → unit_of w sscc ≢ None
  unfolding rules_of NoneOf unit_named
  empty_unit sscc e = unit_there (UnpackAll sscc) sscc refl e (has_unit site w station (UnpackAll sscc) (allowed site w station (UnpackAll sscc) e).1.0)

  -- ---- a new unit
  pub units_left : (name : Text) (level : Level) → broken site w station (MakeUnit name level) ≡ None → length w.units < 65536
  unfolding rules_of NoneOf site_full
  units_left name level e = let few = has_room Units (length w.units) 1 65536 (allowed site w station (MakeUnit name level) e).1.1.1.1.0 in omega (arith, few)

  pub codes_left : (name : Text) (level : Level) → broken site w station (MakeUnit name level) ≡ None → site.reference + length w.units < reference_bound site
  unfolding rules_of NoneOf sscc_spent next_reference
  codes_left name level e =
      let left = not_false (nat_lt (site.reference + length w.units) (reference_bound site)) (when_None _ rule.SsccSpent (allowed site w station (MakeUnit name level) e).1.1.1.1.1.0) in
      grind (arith, nat_tests, left)

  -- ---- orders
  pub order_room : (row : OrderRow) → broken site w station (Order row) ≡ None → length w.batches + length (new_orders (orders_in w) (row ∷ [])) ≤ 4096
  unfolding rules_of NoneOf site_full order_rows
  order_room row e = has_room Batches (length w.batches) (length (new_orders (orders_in w) (row ∷ []))) 4096 (allowed site w station (Order row) e).1.1.1.0

  pub orders_room : (rows : List OrderRow) → broken site w station (Orders rows) ≡ None → length w.batches + length (new_orders (orders_in w) rows) ≤ 4096
  unfolding rules_of NoneOf site_full order_rows
  orders_room rows e = has_room Batches (length w.batches) (length (new_orders (orders_in w) rows)) 4096 (allowed site w station (Orders rows) e).1.1.1.1.0

-- ---- moves of rows

unfoldable pub is_moving : Deed → Bool
is_moving (Commission name codes) = true
is_moving (Spoil name serials) = true
is_moving (Giveback name serials) = true
is_moving (Sample name items) = true
is_moving (Reject name items) = true
is_moving (Reinstate name items) = true
is_moving (Destroy name items) = true
is_moving (Decommission name items) = true
is_moving deed = false

pub record Moves (site : Setup) (w : World) (station : ℕ) (deed : Deed) : Type 0 where
  pub once : repeated site w station deed ≡ None
  pub known : unknown_serial site w station deed ≡ None
  pub fit : wrong_state site w station deed ≡ None

may_move : (site : Setup) (w : World) (station : ℕ) (deed : Deed) → is_moving deed ≡ true → broken site w station deed ≡ None → Moves site w station deed
unfolding is_moving rules_of on_rows NoneOf
may_move site w station (Commission name codes) m e = let p = allowed site w station (Commission name codes) e in record { once = p.1.1.1.1.1.0; known = p.1.1.1.1.1.1.0; fit = p.1.1.1.1.1.1.1.1.0 }
may_move site w station (Spoil name serials) m e = let p = allowed site w station (Spoil name serials) e in record { once = p.1.1.1.1.1.0; known = p.1.1.1.1.1.1.0; fit = p.1.1.1.1.1.1.1.1.0 }
may_move site w station (Giveback name serials) m e = let p = allowed site w station (Giveback name serials) e in record { once = p.1.1.1.1.1.0; known = p.1.1.1.1.1.1.0; fit = p.1.1.1.1.1.1.1.1.0 }
may_move site w station (Sample name items) m e = let p = allowed site w station (Sample name items) e in record { once = p.1.1.1.1.1.0; known = p.1.1.1.1.1.1.0; fit = p.1.1.1.1.1.1.1.1.0 }
may_move site w station (Reject name items) m e = let p = allowed site w station (Reject name items) e in record { once = p.1.1.1.1.1.0; known = p.1.1.1.1.1.1.0; fit = p.1.1.1.1.1.1.1.1.0 }
may_move site w station (Reinstate name items) m e = let p = allowed site w station (Reinstate name items) e in record { once = p.1.1.1.1.1.0; known = p.1.1.1.1.1.1.0; fit = p.1.1.1.1.1.1.1.1.0 }
may_move site w station (Destroy name items) m e = let p = allowed site w station (Destroy name items) e in record { once = p.1.1.1.1.1.0; known = p.1.1.1.1.1.1.0; fit = p.1.1.1.1.1.1.1.1.0 }
may_move site w station (Decommission name items) m e = let p = allowed site w station (Decommission name items) e in record { once = p.1.1.1.1.1.0; known = p.1.1.1.1.1.1.0; fit = p.1.1.1.1.1.1.1.1.0 }
may_move site w station deed m e = absurd (true≢false (sym m))

pub move_once : (site : Setup) (w : World) (station : ℕ) (deed : Deed) → is_moving deed ≡ true → broken site w station deed ≡ None → IsDistinct same_name (named w deed)
unfolding repeated
move_once site w station deed m e = differ rule.RepeatedInRequest (named w deed) (may_move site w station deed m e).once

known_box : (w : World) (deed : Deed) (sscc : Text) → is_moving deed ≡ true → is_known w deed (Box sscc) ≡ false
unfolding is_known is_moving
known_box w (Pack unit children) sscc m = absurd (true≢false (sym m))
known_box w deed sscc m = refl

known_item : (w : World) (deed : Deed) (gtin serial : Text) → is_known w deed (Item gtin serial) ≡ is_some (row_of w gtin serial)
unfolding is_known
known_item w deed gtin serial = refl

unfit_item : (w : World) (deed : Deed) (gtin serial : Text) → is_moving deed ≡ true → unfit w deed (Item gtin serial) ≡ option_and_then (λ (row : Row). when (is_none (moved deed row.state)) (told_state row.state)) (row_of w gtin serial)
unfolding unfit is_moving
unfit_item w (Pack unit children) gtin serial m = absurd (true≢false (sym m))
unfit_item w deed gtin serial m = refl

some_moved : {A : Type 0} (o : Option A) → is_none o ≡ false → is_some o ≡ true
some_moved None e = absurd (true≢false e)
some_moved (Some x) e = refl

can_move_at : (c : Content) (deed : Deed) (gtin serial : Text) (found : Option ℕ) → position (is_named gtin serial) c.rows ≡ found → is_moving deed ≡ true → is_known (world_in c) deed (Item gtin serial) ≡ true → unfit (world_in c) deed (Item gtin serial) ≡ None
    → CanMove deed c.rows (place_of c.rows c.units (Item gtin serial))
unfolding place_of
can_move_at c deed gtin serial None e m known fit = absurd (true≢false (sym known ∙ known_item (world_in c) deed gtin serial ∙ ap (λ (o : Option Row). is_some o) (no_row c gtin serial e)))
can_move_at c deed gtin serial (Some at) e m known fit =
    let g = got c.rows at (within (is_named gtin serial) c.rows at e) in
    let row : ItemRow = g.0 in
    let may : when (is_none (moved deed row.state)) (told_state row.state) ≡ None =
    sym (ap (λ (o : Option Row). option_and_then (λ (r : Row). when (is_none (moved deed r.state)) (told_state r.state)) o) (the_row c gtin serial at row e g.1)) ∙ sym (unfit_item (world_in c) deed gtin serial m) ∙ fit in
    record {
      item = at;
      row = row;
      place_is = ap (option_map AnItem) e;
      there = g.1;
      moves = some_moved (moved deed row.state) (when_None (is_none (moved deed row.state)) (told_state row.state) may);
    }

can_move : (c : Content) (deed : Deed) (name : Epc) → is_moving deed ≡ true → is_known (world_in c) deed name ≡ true → unfit (world_in c) deed name ≡ None → CanMove deed c.rows (place_of c.rows c.units name)
can_move c deed (Item gtin serial) m known fit = can_move_at c deed gtin serial (position (is_named gtin serial) c.rows) refl m known fit
can_move c deed (Box sscc) m known fit = absurd (true≢false (sym known ∙ known_box (world_in c) deed sscc m))

can_each : (c : Content) (deed : Deed) (names : List Epc) → is_moving deed ≡ true → Every (λ n. not (is_known (world_in c) deed n) ≡ false) names → Every (λ n. unfit (world_in c) deed n ≡ None) names → Every (CanMove deed c.rows) (map (place_of c.rows c.units) names)
can_each c deed [] m a b = tt
can_each c deed (name ∷ names) m a b = (can_move c deed name m (not_false (is_known (world_in c) deed name) a.0) b.0, can_each c deed names m a.1 b.1)

pub move_can : (site : Setup) (c : Content) (station : ℕ) (deed : Deed) → is_moving deed ≡ true → broken site (world_in c) station deed ≡ None → Every (CanMove deed c.rows) (map (place_of c.rows c.units) (named (world_in c) deed))
unfolding unknown_serial wrong_state
move_can site c station deed m e =
    let p = may_move site (world_in c) station deed m e in
    can_each c deed (named (world_in c) deed) m (each_when (λ n. not (is_known (world_in c) deed n)) rule.UnknownSerial (named (world_in c) deed) p.known) (each_map (unfit (world_in c) deed) rule.WrongState (named (world_in c) deed) p.fit)

-- ---- what is put into a unit, and taken out of it

unmapped : (f : ℕ → Node) (o : Option ℕ) → option_map f o ≡ None → o ≡ None
unmapped f None e = refl
unmapped f (Some k) e = absurd (some_is (f k) e)
  where
    some_is : (m : Node) → Some m ≡ None → ⊥
    some_is m z = cc

known_there : (c : Content) (unit : Text) (children : List Epc) (name : Epc) → is_known (world_in c) (Pack unit children) name ≡ true → place_of c.rows c.units name ≢ None
unfolding is_known place_of
known_there c unit children (Item gtin serial) known e = true≢false (sym known ∙ ap (λ (o : Option Row). is_some o) (no_row c gtin serial (unmapped AnItem (position (is_named gtin serial) c.rows) e)))
known_there c unit children (Box sscc) known e = true≢false (sym known ∙ ap (λ (o : Option Container). is_some o) (no_unit c sscc (unmapped AUnit (position (is_coded sscc) c.units) e)))

each_there : (c : Content) (unit : Text) (children names : List Epc) → Every (λ n. not (is_known (world_in c) (Pack unit children) n) ≡ false) names → Every (λ place. place ≢ None) (map (place_of c.rows c.units) names)
each_there c unit children [] a = tt
each_there c unit children (name ∷ names) a = (known_there c unit children name (not_false (is_known (world_in c) (Pack unit children) name) a.0), each_there c unit children names a.1)

pub pack_known : (site : Setup) (c : Content) (station : ℕ) (unit : Text) (children : List Epc) → broken site (world_in c) station (Pack unit children) ≡ None → Every (λ place. place ≢ None) (map (place_of c.rows c.units) children)
unfolding rules_of NoneOf unknown_serial named
pack_known site c station unit children e =
    each_there c unit children children (each_when (λ n. not (is_known (world_in c) (Pack unit children) n)) rule.UnknownSerial children (allowed site (world_in c) station (Pack unit children) e).1.1.1.1.1.1.1.0)

pub pack_once : (site : Setup) (w : World) (station : ℕ) (unit : Text) (children : List Epc) → broken site w station (Pack unit children) ≡ None → IsDistinct same_name children
unfolding rules_of NoneOf repeated named
pack_once site w station unit children e = differ rule.RepeatedInRequest children (allowed site w station (Pack unit children) e).1.1.1.1.1.1.0

pub pack_alone : (site : Setup) (w : World) (station : ℕ) (unit : Text) (children : List Epc) → broken site w station (Pack unit children) ≡ None → Every (λ name. parent w name ≡ None) children
unfolding rules_of NoneOf has_parent named
pack_alone site w station unit children e = each_map (parent w) rule.HasParent children (allowed site w station (Pack unit children) e).1.1.1.1.1.1.1.1.1.1.1.0

pub unpack_once : (site : Setup) (w : World) (station : ℕ) (unit : Text) (children : List Epc) → broken site w station (Unpack unit children) ≡ None → IsDistinct same_name children
unfolding rules_of NoneOf repeated named
unpack_once site w station unit children e = differ rule.RepeatedInRequest children (allowed site w station (Unpack unit children) e).1.1.1.1.1.1.0

held_some : (test : Text → Bool) (o : Option Text) → holds_of test o ≡ true → IsSome o
unfolding holds_of
held_some test None e = absurd (true≢false (sym e))
held_some test (Some x) e = some_is x
  where
    some_is : (t : Text) → IsSome (Some t)
    some_is t = search rules

each_held : (w : World) (unit : Text) (names : List Epc) → Every (λ n. not (holds_of (same unit) (parent w n)) ≡ false) names → Every (λ n. IsSome (parent w n)) names
each_held w unit [] a = tt
each_held w unit (name ∷ names) a = (held_some (same unit) (parent w name) (not_false (holds_of (same unit) (parent w name)) a.0), each_held w unit names a.1)

pub unpack_inside : (site : Setup) (w : World) (station : ℕ) (unit : Text) (children : List Epc) → broken site w station (Unpack unit children) ≡ None → Every (λ name. IsSome (parent w name)) children
unfolding rules_of NoneOf not_child named unit_named
unpack_inside site w station unit children e =
    each_held w unit children (each_when (λ n. not (holds_of (same unit) (parent w n))) rule.NotChild children (allowed site w station (Unpack unit children) e).1.1.1.1.1.1.1.0)

inside_there : (c : Content) (unit : Text) (whole : IsWhole c) (names : List Epc) → Every (λ n. not (holds_of (same unit) (parent (world_in c) n)) ≡ false) names → Every (λ place. place ≢ None) (map (place_of c.rows c.units) names)
unfolding holds_of
inside_there c unit whole [] a = tt
inside_there c unit whole (name ∷ names) a =
    (λ e. true≢false (sym (not_false (holds_of (same unit) (parent (world_in c) name)) a.0) ∙ ap (holds_of (same unit)) (parent_nowhere c name whole.there e)), inside_there c unit whole names a.1)

pub unpack_known : (site : Setup) (c : Content) (station : ℕ) (unit : Text) (children : List Epc) → IsWhole c → broken site (world_in c) station (Unpack unit children) ≡ None → Every (λ place. place ≢ None) (map (place_of c.rows c.units) children)
unfolding rules_of NoneOf not_child named unit_named
unpack_known site c station unit children whole e =
    inside_there c unit whole children (each_when (λ n. not (holds_of (same unit) (parent (world_in c) n))) rule.NotChild children (allowed site (world_in c) station (Unpack unit children) e).1.1.1.1.1.1.1.0)
