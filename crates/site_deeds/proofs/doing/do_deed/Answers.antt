use Rattle.std.proofs.Common.{◌≡◌, ◌+◌, ◌≤◌, ◌≢◌, List, None, Some, true≢false, length, map, sym, ap, ◌∙◌, subst}
use Rattle.std.specs.Prelude.{IsSome}
use Rattle.std.specs.List.{IsDistinct, AllByRecursion as Every, position}
use Rattle.epc_urn.specs.declared.epc.Epc.{Epc}
use Rattle.deed_words.specs.Deeds.{named, unit_named, batch_named, order_rows}
use Rattle.deed_words.specs.Effects.{with_children, emptied, with_rows, lent_to, lent_rows, with_unit, with_declaration}
use Rattle.deed_words.specs.Names.{Text, same_name}
use Rattle.deed_words.specs.Orders.{new_orders, orders_in}
use Rattle.deed_words.specs.Rules.{broken}
use Rattle.deed_words.specs.Setups.{code_of}
use Rattle.deed_words.specs.World.{parent, inside, name_of}
use Rattle.deed_words.specs.declared.reply.Answer.TheVariants.{Plain, Taken, Listed, Made}
use Rattle.deed_words.specs.declared.world.Row.{Row}
use Rattle.deed_words.specs.declared.deed.Deed.{Deed}
use Rattle.deed_words.specs.declared.deed.OrderRow.{OrderRow}
use Rattle.pack_tree.specs.Units.{is_coded}
use Rattle.batch_book.specs.Batches.{is_called}
use Rattle.batch_book.specs.Content.{world_in}
use Rattle.site_stores.proofs.Finding.{the_batch}
use Rattle.site_stores.specs.Places.{place_of}
use Rattle.site_rules.specs.Suits.{is_draw, names_unit, is_about_batch}
use Rattle.site_deeds.specs.declared.done.Done.{Done}
use Rattle.site_deeds.specs.Does.{Does}
use Rattle.site_deeds.specs.Placed.{CanMove}
use Rattle.site_deeds.proofs.FromRules.{start_batch, close_batch, amend_batch, declare_batch, lend_batch, make_batch, amend_open, declare_started, seal_unit, unseal_unit, void_unit, pack_unit, empty_unit, units_left, codes_left, order_room, orders_room, move_once, move_can, pack_known, pack_once, pack_alone, unpack_once, unpack_inside, unpack_known}
use Rattle.site_deeds.proofs.OfDeed.{does_order, does_orders, does_lend, does_make, does_put, does_take, does_empty, does_declare, does_move, does_start, does_close, does_amend, does_seal, does_unseal, does_void, moves_rows}
use Rattle.site_deeds.proofs.OfFound.{unit_some, unit_place, unit_in, batch_some, batch_place, batch_in, done_to}
use Rattle.site_deeds.proofs.OfOrders.{found_origins}
use Rattle.site_deeds.proofs.doing.do_deed.Goals as goal

pub order-requires-clause-batches : goal.order-requires-clause-batches
order-requires-clause-batches c =
    subst (λ (rows : List OrderRow). length c.args.stores.now.content.batches + length (new_orders (orders_in (world_in c.args.stores.now.content)) rows) ≤ 4096) (sym c.from_ref.ensures.value) (order_room c.args.setup.now (world_in c.args.stores.now.content) c.args.station c.in-Order.row (ap (broken c.args.setup.now (world_in c.args.stores.now.content) c.args.station) (sym c.in-Order.is) ∙ c.requires.allowed))

pub order-requires-in-Orders-clause-batches : goal.order-requires-in-Orders-clause-batches
order-requires-in-Orders-clause-batches c =
    subst (λ (rows : List OrderRow). length c.args.stores.now.content.batches + length (new_orders (orders_in (world_in c.args.stores.now.content)) rows) ≤ 4096) (sym c.as_slice.ensures) (orders_room c.args.setup.now (world_in c.args.stores.now.content) c.args.station c.in-Orders.rows (ap (broken c.args.setup.now (world_in c.args.stores.now.content) c.args.station) (sym c.in-Orders.is) ∙ c.requires.allowed))

pub order-requires-clause-origins : goal.order-requires-clause-origins
unfolding order_rows
order-requires-clause-origins c = found_origins c.args.stores.now.content c.args.deed.now c.args.found.now c.from_ref.result.now c.as_slice-origins.result.now c.requires.found (c.from_ref.ensures.value ∙ sym (ap order_rows c.in-Order.is)) c.as_slice-origins.ensures.value

pub order-requires-in-Orders-clause-origins : goal.order-requires-in-Orders-clause-origins
unfolding order_rows
order-requires-in-Orders-clause-origins c = found_origins c.args.stores.now.content c.args.deed.now c.args.found.now c.as_slice.result.now c.as_slice-origins.result.now c.requires.found (c.as_slice.ensures ∙ sym (ap order_rows c.in-Orders.is)) c.as_slice-origins.ensures.value

pub unreachable-requires : goal.unreachable-requires
unfolding is_draw
unreachable-requires c = true≢false (ap is_draw (sym c.in-Draw.is) ∙ c.requires.other)

pub make-requires-clause-some : goal.make-requires-clause-some
make-requires-clause-some c = units_left c.args.setup.now (world_in c.args.stores.now.content) c.args.station c.in-Container.field-0 c.in-Container.level (ap (broken c.args.setup.now (world_in c.args.stores.now.content) c.args.station) (sym c.in-Container.is) ∙ c.requires.allowed)

pub make-requires-clause-unspent : goal.make-requires-clause-unspent
make-requires-clause-unspent c = codes_left c.args.setup.now (world_in c.args.stores.now.content) c.args.station c.in-Container.field-0 c.in-Container.level (ap (broken c.args.setup.now (world_in c.args.stores.now.content) c.args.station) (sym c.in-Container.is) ∙ c.requires.allowed)

pub put-requires-clause-places : goal.put-requires-clause-places
unfolding named
put-requires-clause-places c = (c.as_slice-places.ensures.value ∙ c.requires.found.places_are) ∙ ap (λ (d : Deed). map (place_of c.args.stores.now.content.rows c.args.stores.now.content.units) (named (world_in c.args.stores.now.content) d)) c.in-Pack.is ∙ ap (map (place_of c.args.stores.now.content.rows c.args.stores.now.content.units)) (sym c.as_slice-in-Pack.ensures)

pub put-requires-clause-once : goal.put-requires-clause-once
put-requires-clause-once c = subst (IsDistinct same_name) (sym c.as_slice-in-Pack.ensures) (pack_once c.args.setup.now (world_in c.args.stores.now.content) c.args.station c.in-Pack.field-0 c.in-Pack.children (ap (broken c.args.setup.now (world_in c.args.stores.now.content) c.args.station) (sym c.in-Pack.is) ∙ c.requires.allowed))

pub put-requires-clause-alone : goal.put-requires-clause-alone
put-requires-clause-alone c = subst (Every (λ (child : Epc). parent (world_in c.args.stores.now.content) child ≡ None)) (sym c.as_slice-in-Pack.ensures) (pack_alone c.args.setup.now (world_in c.args.stores.now.content) c.args.station c.in-Pack.field-0 c.in-Pack.children (ap (broken c.args.setup.now (world_in c.args.stores.now.content) c.args.station) (sym c.in-Pack.is) ∙ c.requires.allowed))

pub put-requires-clause-known : goal.put-requires-clause-known
unfolding named
put-requires-clause-known c = subst (Every (λ place. place ≢ None)) (sym ((c.as_slice-places.ensures.value ∙ c.requires.found.places_are) ∙ ap (λ (d : Deed). map (place_of c.args.stores.now.content.rows c.args.stores.now.content.units) (named (world_in c.args.stores.now.content) d)) c.in-Pack.is)) (pack_known c.args.setup.now c.args.stores.now.content c.args.station c.in-Pack.field-0 c.in-Pack.children (ap (broken c.args.setup.now (world_in c.args.stores.now.content) c.args.station) (sym c.in-Pack.is) ∙ c.requires.allowed))

pub take-requires-clause-places : goal.take-requires-clause-places
unfolding named
take-requires-clause-places c = (c.as_slice-places.ensures.value ∙ c.requires.found.places_are) ∙ ap (λ (d : Deed). map (place_of c.args.stores.now.content.rows c.args.stores.now.content.units) (named (world_in c.args.stores.now.content) d)) c.in-Unpack.is ∙ ap (map (place_of c.args.stores.now.content.rows c.args.stores.now.content.units)) (sym c.as_slice-in-Unpack.ensures)

pub take-requires-clause-once : goal.take-requires-clause-once
take-requires-clause-once c = subst (IsDistinct same_name) (sym c.as_slice-in-Unpack.ensures) (unpack_once c.args.setup.now (world_in c.args.stores.now.content) c.args.station c.in-Unpack.field-0 c.in-Unpack.children (ap (broken c.args.setup.now (world_in c.args.stores.now.content) c.args.station) (sym c.in-Unpack.is) ∙ c.requires.allowed))

pub take-requires-clause-inside : goal.take-requires-clause-inside
take-requires-clause-inside c = subst (Every (λ (child : Epc). IsSome (parent (world_in c.args.stores.now.content) child))) (sym c.as_slice-in-Unpack.ensures) (unpack_inside c.args.setup.now (world_in c.args.stores.now.content) c.args.station c.in-Unpack.field-0 c.in-Unpack.children (ap (broken c.args.setup.now (world_in c.args.stores.now.content) c.args.station) (sym c.in-Unpack.is) ∙ c.requires.allowed))

pub take-requires-clause-known : goal.take-requires-clause-known
unfolding named
take-requires-clause-known c = subst (Every (λ place. place ≢ None)) (sym ((c.as_slice-places.ensures.value ∙ c.requires.found.places_are) ∙ ap (λ (d : Deed). map (place_of c.args.stores.now.content.rows c.args.stores.now.content.units) (named (world_in c.args.stores.now.content) d)) c.in-Unpack.is)) (unpack_known c.args.setup.now c.args.stores.now.content c.args.station c.in-Unpack.field-0 c.in-Unpack.children c.tell_whole.ensures (ap (broken c.args.setup.now (world_in c.args.stores.now.content) c.args.station) (sym c.in-Unpack.is) ∙ c.requires.allowed))

pub unit_found-unit-requires : goal.unit_found-unit-requires
unfolding names_unit unit_named
unit_found-unit-requires c = record { there = unit_some c.args.stores.now.content c.args.deed.now c.args.found.now c.requires.found c.in-Pack.field-0 (ap names_unit c.in-Pack.is) (ap unit_named c.in-Pack.is) (pack_unit c.args.setup.now (world_in c.args.stores.now.content) c.args.station c.in-Pack.field-0 c.in-Pack.children (ap (broken c.args.setup.now (world_in c.args.stores.now.content) c.args.station) (sym c.in-Pack.is) ∙ c.requires.allowed)) }

pub unit_found-requires : goal.unit_found-requires
unfolding names_unit unit_named
unit_found-requires c = record { there = unit_some c.args.stores.now.content c.args.deed.now c.args.found.now c.requires.found c.in-UnpackAll.field-0 (ap names_unit c.in-UnpackAll.is) (ap unit_named c.in-UnpackAll.is) (empty_unit c.args.setup.now (world_in c.args.stores.now.content) c.args.station c.in-UnpackAll.field-0 (ap (broken c.args.setup.now (world_in c.args.stores.now.content) c.args.station) (sym c.in-UnpackAll.is) ∙ c.requires.allowed)) }

pub unit_found-requires-in-Seal : goal.unit_found-requires-in-Seal
unfolding names_unit unit_named
unit_found-requires-in-Seal c = record { there = unit_some c.args.stores.now.content c.args.deed.now c.args.found.now c.requires.found c.in-Seal.field-0 (ap names_unit c.in-Seal.is) (ap unit_named c.in-Seal.is) (seal_unit c.args.setup.now (world_in c.args.stores.now.content) c.args.station c.in-Seal.field-0 (ap (broken c.args.setup.now (world_in c.args.stores.now.content) c.args.station) (sym c.in-Seal.is) ∙ c.requires.allowed)) }

pub unit_found-requires-in-Unseal : goal.unit_found-requires-in-Unseal
unfolding names_unit unit_named
unit_found-requires-in-Unseal c = record { there = unit_some c.args.stores.now.content c.args.deed.now c.args.found.now c.requires.found c.in-Unseal.field-0 (ap names_unit c.in-Unseal.is) (ap unit_named c.in-Unseal.is) (unseal_unit c.args.setup.now (world_in c.args.stores.now.content) c.args.station c.in-Unseal.field-0 (ap (broken c.args.setup.now (world_in c.args.stores.now.content) c.args.station) (sym c.in-Unseal.is) ∙ c.requires.allowed)) }

pub unit_found-requires-in-Void : goal.unit_found-requires-in-Void
unfolding names_unit unit_named
unit_found-requires-in-Void c = record { there = unit_some c.args.stores.now.content c.args.deed.now c.args.found.now c.requires.found c.in-Void.field-0 (ap names_unit c.in-Void.is) (ap unit_named c.in-Void.is) (void_unit c.args.setup.now (world_in c.args.stores.now.content) c.args.station c.in-Void.field-0 (ap (broken c.args.setup.now (world_in c.args.stores.now.content) c.args.station) (sym c.in-Void.is) ∙ c.requires.allowed)) }

pub put-requires-clause-there : goal.put-requires-clause-there
unfolding names_unit unit_named
put-requires-clause-there c = unit_in c.args.stores.now.content c.args.deed.now c.args.found.now c.requires.found c.in-Pack.field-0 (ap names_unit c.in-Pack.is) (ap unit_named c.in-Pack.is) c.unit_found-unit.result c.unit_found-unit.ensures

pub empty-requires : goal.empty-requires
unfolding names_unit unit_named
empty-requires c = record { there = unit_in c.args.stores.now.content c.args.deed.now c.args.found.now c.requires.found c.in-UnpackAll.field-0 (ap names_unit c.in-UnpackAll.is) (ap unit_named c.in-UnpackAll.is) c.unit_found.result c.unit_found.ensures }

pub to_mark-requires : goal.to_mark-requires
unfolding names_unit unit_named
to_mark-requires c = record { there = unit_in c.args.stores.now.content c.args.deed.now c.args.found.now c.requires.found c.in-Seal.field-0 (ap names_unit c.in-Seal.is) (ap unit_named c.in-Seal.is) c.unit_found-in-Seal.result c.unit_found-in-Seal.ensures }

pub to_mark-requires-in-Unseal : goal.to_mark-requires-in-Unseal
unfolding names_unit unit_named
to_mark-requires-in-Unseal c = record { there = unit_in c.args.stores.now.content c.args.deed.now c.args.found.now c.requires.found c.in-Unseal.field-0 (ap names_unit c.in-Unseal.is) (ap unit_named c.in-Unseal.is) c.unit_found-in-Unseal.result c.unit_found-in-Unseal.ensures }

pub to_mark-requires-in-Void : goal.to_mark-requires-in-Void
unfolding names_unit unit_named
to_mark-requires-in-Void c = record { there = unit_in c.args.stores.now.content c.args.deed.now c.args.found.now c.requires.found c.in-Void.field-0 (ap names_unit c.in-Void.is) (ap unit_named c.in-Void.is) c.unit_found-in-Void.result c.unit_found-in-Void.ensures }

pub batch_found-requires : goal.batch_found-requires
unfolding is_about_batch batch_named
batch_found-requires c = record { there = batch_some c.args.stores.now.content c.args.deed.now c.args.found.now c.requires.found c.in-Start.field-0 (ap is_about_batch c.in-Start.is) (ap (batch_named (world_in c.args.stores.now.content)) c.in-Start.is) (start_batch c.args.setup.now (world_in c.args.stores.now.content) c.args.station c.in-Start.field-0 (ap (broken c.args.setup.now (world_in c.args.stores.now.content) c.args.station) (sym c.in-Start.is) ∙ c.requires.allowed)) }

pub batch_found-requires-in-Lend : goal.batch_found-requires-in-Lend
unfolding is_about_batch batch_named
batch_found-requires-in-Lend c = record { there = batch_some c.args.stores.now.content c.args.deed.now c.args.found.now c.requires.found c.in-Lend.field-0 (ap is_about_batch c.in-Lend.is) (ap (batch_named (world_in c.args.stores.now.content)) c.in-Lend.is) (lend_batch c.args.setup.now (world_in c.args.stores.now.content) c.args.station c.in-Lend.field-0 c.in-Lend.count (ap (broken c.args.setup.now (world_in c.args.stores.now.content) c.args.station) (sym c.in-Lend.is) ∙ c.requires.allowed)) }

pub batch_found-requires-in-Container : goal.batch_found-requires-in-Container
unfolding is_about_batch batch_named
batch_found-requires-in-Container c = record { there = batch_some c.args.stores.now.content c.args.deed.now c.args.found.now c.requires.found c.in-Container.field-0 (ap is_about_batch c.in-Container.is) (ap (batch_named (world_in c.args.stores.now.content)) c.in-Container.is) (make_batch c.args.setup.now (world_in c.args.stores.now.content) c.args.station c.in-Container.field-0 c.in-Container.level (ap (broken c.args.setup.now (world_in c.args.stores.now.content) c.args.station) (sym c.in-Container.is) ∙ c.requires.allowed)) }

pub batch_found-batch-requires : goal.batch_found-batch-requires
unfolding is_about_batch batch_named
batch_found-batch-requires c = record { there = batch_some c.args.stores.now.content c.args.deed.now c.args.found.now c.requires.found c.in-Declare.field-0 (ap is_about_batch c.in-Declare.is) (ap (batch_named (world_in c.args.stores.now.content)) c.in-Declare.is) (declare_batch c.args.setup.now (world_in c.args.stores.now.content) c.args.station c.in-Declare.field-0 c.in-Declare.good c.in-Declare.spoiled c.in-Declare.returned (ap (broken c.args.setup.now (world_in c.args.stores.now.content) c.args.station) (sym c.in-Declare.is) ∙ c.requires.allowed)) }

pub batch_found-requires-in-Close : goal.batch_found-requires-in-Close
unfolding is_about_batch batch_named
batch_found-requires-in-Close c = record { there = batch_some c.args.stores.now.content c.args.deed.now c.args.found.now c.requires.found c.in-Close.field-0 (ap is_about_batch c.in-Close.is) (ap (batch_named (world_in c.args.stores.now.content)) c.in-Close.is) (close_batch c.args.setup.now (world_in c.args.stores.now.content) c.args.station c.in-Close.field-0 (ap (broken c.args.setup.now (world_in c.args.stores.now.content) c.args.station) (sym c.in-Close.is) ∙ c.requires.allowed)) }

pub batch_found-requires-in-Amend : goal.batch_found-requires-in-Amend
unfolding is_about_batch batch_named
batch_found-requires-in-Amend c = record { there = batch_some c.args.stores.now.content c.args.deed.now c.args.found.now c.requires.found c.in-Amend.field-0 (ap is_about_batch c.in-Amend.is) (ap (batch_named (world_in c.args.stores.now.content)) c.in-Amend.is) (amend_batch c.args.setup.now (world_in c.args.stores.now.content) c.args.station c.in-Amend.field-0 c.in-Amend.quantity (ap (broken c.args.setup.now (world_in c.args.stores.now.content) c.args.station) (sym c.in-Amend.is) ∙ c.requires.allowed)) }

pub to_phase-requires : goal.to_phase-requires
unfolding is_about_batch batch_named
to_phase-requires c = record { there = batch_in c.args.stores.now.content c.args.deed.now c.args.found.now c.requires.found c.in-Start.field-0 (ap is_about_batch c.in-Start.is) (ap (batch_named (world_in c.args.stores.now.content)) c.in-Start.is) c.batch_found.result c.batch_found.ensures }

pub lend-requires : goal.lend-requires
unfolding is_about_batch batch_named
lend-requires c = record { there = batch_in c.args.stores.now.content c.args.deed.now c.args.found.now c.requires.found c.in-Lend.field-0 (ap is_about_batch c.in-Lend.is) (ap (batch_named (world_in c.args.stores.now.content)) c.in-Lend.is) c.batch_found-in-Lend.result c.batch_found-in-Lend.ensures }

pub to_phase-requires-in-Close : goal.to_phase-requires-in-Close
unfolding is_about_batch batch_named
to_phase-requires-in-Close c = record { there = batch_in c.args.stores.now.content c.args.deed.now c.args.found.now c.requires.found c.in-Close.field-0 (ap is_about_batch c.in-Close.is) (ap (batch_named (world_in c.args.stores.now.content)) c.in-Close.is) c.batch_found-in-Close.result c.batch_found-in-Close.ensures }

pub make-requires-clause-there : goal.make-requires-clause-there
unfolding is_about_batch batch_named
make-requires-clause-there c = batch_in c.args.stores.now.content c.args.deed.now c.args.found.now c.requires.found c.in-Container.field-0 (ap is_about_batch c.in-Container.is) (ap (batch_named (world_in c.args.stores.now.content)) c.in-Container.is) c.batch_found-in-Container.result c.batch_found-in-Container.ensures

pub declare-requires-clause-there : goal.declare-requires-clause-there
unfolding is_about_batch batch_named
declare-requires-clause-there c = batch_in c.args.stores.now.content c.args.deed.now c.args.found.now c.requires.found c.in-Declare.field-0 (ap is_about_batch c.in-Declare.is) (ap (batch_named (world_in c.args.stores.now.content)) c.in-Declare.is) c.batch_found-batch.result c.batch_found-batch.ensures

pub amend-requires-clause-there : goal.amend-requires-clause-there
unfolding is_about_batch batch_named
amend-requires-clause-there c = batch_in c.args.stores.now.content c.args.deed.now c.args.found.now c.requires.found c.in-Amend.field-0 (ap is_about_batch c.in-Amend.is) (ap (batch_named (world_in c.args.stores.now.content)) c.in-Amend.is) c.batch_found-in-Amend.result c.batch_found-in-Amend.ensures

pub declare-requires-clause-started : goal.declare-requires-clause-started
unfolding is_about_batch batch_named
declare-requires-clause-started c = λ kept here. declare_started c.args.setup.now (world_in c.args.stores.now.content) c.args.station c.in-Declare.field-0 c.in-Declare.good c.in-Declare.spoiled c.in-Declare.returned (ap (broken c.args.setup.now (world_in c.args.stores.now.content) c.args.station) (sym c.in-Declare.is) ∙ c.requires.allowed) kept (the_batch c.args.stores.now.content c.in-Declare.field-0 c.batch_found-batch.result kept (batch_place c.args.stores.now.content c.args.deed.now c.args.found.now c.requires.found c.in-Declare.field-0 (ap is_about_batch c.in-Declare.is) (ap (batch_named (world_in c.args.stores.now.content)) c.in-Declare.is) c.batch_found-batch.result c.batch_found-batch.ensures) here)

pub amend-requires-clause-working : goal.amend-requires-clause-working
unfolding is_about_batch batch_named
amend-requires-clause-working c = λ kept here. amend_open c.args.setup.now (world_in c.args.stores.now.content) c.args.station c.in-Amend.field-0 c.in-Amend.quantity (ap (broken c.args.setup.now (world_in c.args.stores.now.content) c.args.station) (sym c.in-Amend.is) ∙ c.requires.allowed) kept (the_batch c.args.stores.now.content c.in-Amend.field-0 c.batch_found-in-Amend.result kept (batch_place c.args.stores.now.content c.args.deed.now c.args.found.now c.requires.found c.in-Amend.field-0 (ap is_about_batch c.in-Amend.is) (ap (batch_named (world_in c.args.stores.now.content)) c.in-Amend.is) c.batch_found-in-Amend.result c.batch_found-in-Amend.ensures) here)

pub move_rows-requires-clause-places : goal.move_rows-requires-clause-places
move_rows-requires-clause-places c = c.as_slice-places.ensures.value ∙ c.requires.found.places_are

pub move_rows-requires-clause-once : goal.move_rows-requires-clause-once
move_rows-requires-clause-once c = move_once c.args.setup.now (world_in c.args.stores.now.content) c.args.station c.args.deed.now (moves_rows c.args.deed.now c.in-Commission.is) c.requires.allowed

pub move_rows-requires-clause-can : goal.move_rows-requires-clause-can
move_rows-requires-clause-can c = subst (Every (CanMove c.args.deed.now c.args.stores.now.content.rows)) (sym (c.as_slice-places.ensures.value ∙ c.requires.found.places_are)) (move_can c.args.setup.now c.args.stores.now.content c.args.station c.args.deed.now (moves_rows c.args.deed.now c.in-Commission.is) c.requires.allowed)

pub returns-in-Order-clause-done : goal.returns-in-Order-clause-done
returns-in-Order-clause-done c = does_order c.args.setup.now c.args.station c.args.deed.now c.order.new.stores c.order.result c.in-Order.row c.from_ref.result.now c.in-Order.is c.from_ref.ensures.value c.order.ensures.done

pub returns-in-Orders-clause-done : goal.returns-in-Orders-clause-done
returns-in-Orders-clause-done c = does_orders c.args.setup.now c.args.station c.args.deed.now c.order-in-Orders.new.stores c.order-in-Orders.result c.as_slice.result.now c.in-Orders.rows c.in-Orders.is c.as_slice.ensures c.order-in-Orders.ensures.done

pub returns-in-Start-clause-done : goal.returns-in-Start-clause-done
unfolding is_about_batch batch_named
returns-in-Start-clause-done c = does_start c.args.setup.now c.args.station c.args.deed.now c.args.stores.now c.to_phase.result c.in-Start.field-0 c.in-Start.is (c.to_phase.ensures c.in-Start.field-0 (batch_place c.args.stores.now.content c.args.deed.now c.args.found.now c.requires.found c.in-Start.field-0 (ap is_about_batch c.in-Start.is) (ap (batch_named (world_in c.args.stores.now.content)) c.in-Start.is) c.batch_found.result c.batch_found.ensures))

pub returns-in-Lend-clause-done : goal.returns-in-Lend-clause-done
unfolding is_about_batch batch_named
returns-in-Lend-clause-done c = does_lend c.args.setup.now c.args.station c.args.deed.now c.args.stores.now c.lend.result c.in-Lend.field-0 c.in-Lend.count c.in-Lend.is (done_to c.lend.result (λ (name : Text). position (is_called name) c.args.stores.now.content.batches ≡ Some c.batch_found-in-Lend.result) (λ (name : Text) (done : Done). Does c.args.stores.now done (Listed (map (λ (row : Row). row.serial) (lent_rows (world_in c.args.stores.now.content) name c.in-Lend.count))) (with_rows (world_in c.args.stores.now.content) (lent_to c.args.station) (map name_of (lent_rows (world_in c.args.stores.now.content) name c.in-Lend.count)))) c.in-Lend.field-0 (batch_place c.args.stores.now.content c.args.deed.now c.args.found.now c.requires.found c.in-Lend.field-0 (ap is_about_batch c.in-Lend.is) (ap (batch_named (world_in c.args.stores.now.content)) c.in-Lend.is) c.batch_found-in-Lend.result c.batch_found-in-Lend.ensures) c.lend.ensures)

pub returns-in-Container-clause-done : goal.returns-in-Container-clause-done
unfolding is_about_batch batch_named
returns-in-Container-clause-done c = does_make c.args.setup.now c.args.station c.args.deed.now c.make.new.stores c.make.result c.in-Container.field-0 c.in-Container.level c.in-Container.is (done_to c.make.result (λ (name : Text). position (is_called name) c.args.stores.now.content.batches ≡ Some c.batch_found-in-Container.result) (λ (name : Text) (done : Done). Does c.make.new.stores done (Made (code_of c.args.setup.now (length (world_in c.make.new.stores.content).units))) (with_unit c.args.setup.now (world_in c.make.new.stores.content) name c.in-Container.level)) c.in-Container.field-0 (batch_place c.args.stores.now.content c.args.deed.now c.args.found.now c.requires.found c.in-Container.field-0 (ap is_about_batch c.in-Container.is) (ap (batch_named (world_in c.args.stores.now.content)) c.in-Container.is) c.batch_found-in-Container.result c.batch_found-in-Container.ensures) c.make.ensures.done)

pub returns-in-Pack-clause-done : goal.returns-in-Pack-clause-done
unfolding names_unit unit_named
returns-in-Pack-clause-done c = does_put c.args.setup.now c.args.station c.args.deed.now c.args.stores.now c.put.result c.in-Pack.field-0 c.as_slice-in-Pack.result.now c.in-Pack.children c.in-Pack.is c.as_slice-in-Pack.ensures (done_to c.put.result (λ (sscc : Text). position (is_coded sscc) c.args.stores.now.content.units ≡ Some c.unit_found-unit.result) (λ (sscc : Text) (done : Done). Does c.args.stores.now done Plain (with_children (world_in c.args.stores.now.content) sscc c.as_slice-in-Pack.result.now)) c.in-Pack.field-0 (unit_place c.args.stores.now.content c.args.deed.now c.args.found.now c.requires.found c.in-Pack.field-0 (ap names_unit c.in-Pack.is) (ap unit_named c.in-Pack.is) c.unit_found-unit.result c.unit_found-unit.ensures) c.put.ensures)

pub returns-in-Unpack-clause-done : goal.returns-in-Unpack-clause-done
returns-in-Unpack-clause-done c = does_take c.args.setup.now c.args.station c.args.deed.now c.take.new.stores c.take.result c.in-Unpack.field-0 c.as_slice-in-Unpack.result.now c.in-Unpack.children c.in-Unpack.is c.as_slice-in-Unpack.ensures c.take.ensures.done

pub returns-in-UnpackAll-clause-done : goal.returns-in-UnpackAll-clause-done
unfolding names_unit unit_named
returns-in-UnpackAll-clause-done c = does_empty c.args.setup.now c.args.station c.args.deed.now c.empty.new.stores c.empty.result c.in-UnpackAll.field-0 c.in-UnpackAll.is (done_to c.empty.result (λ (sscc : Text). position (is_coded sscc) c.args.stores.now.content.units ≡ Some c.unit_found.result) (λ (sscc : Text) (done : Done). Does c.empty.new.stores done (Taken (length (inside (world_in c.empty.new.stores.content) sscc))) (emptied (world_in c.empty.new.stores.content) sscc)) c.in-UnpackAll.field-0 (unit_place c.args.stores.now.content c.args.deed.now c.args.found.now c.requires.found c.in-UnpackAll.field-0 (ap names_unit c.in-UnpackAll.is) (ap unit_named c.in-UnpackAll.is) c.unit_found.result c.unit_found.ensures) c.empty.ensures.done)

pub returns-in-Seal-clause-done : goal.returns-in-Seal-clause-done
unfolding names_unit unit_named
returns-in-Seal-clause-done c = does_seal c.args.setup.now c.args.station c.args.deed.now c.args.stores.now c.to_mark.result c.in-Seal.field-0 c.in-Seal.is (c.to_mark.ensures c.in-Seal.field-0 (unit_place c.args.stores.now.content c.args.deed.now c.args.found.now c.requires.found c.in-Seal.field-0 (ap names_unit c.in-Seal.is) (ap unit_named c.in-Seal.is) c.unit_found-in-Seal.result c.unit_found-in-Seal.ensures))

pub returns-in-Unseal-clause-done : goal.returns-in-Unseal-clause-done
unfolding names_unit unit_named
returns-in-Unseal-clause-done c = does_unseal c.args.setup.now c.args.station c.args.deed.now c.args.stores.now c.to_mark-in-Unseal.result c.in-Unseal.field-0 c.in-Unseal.is (c.to_mark-in-Unseal.ensures c.in-Unseal.field-0 (unit_place c.args.stores.now.content c.args.deed.now c.args.found.now c.requires.found c.in-Unseal.field-0 (ap names_unit c.in-Unseal.is) (ap unit_named c.in-Unseal.is) c.unit_found-in-Unseal.result c.unit_found-in-Unseal.ensures))

pub returns-in-Void-clause-done : goal.returns-in-Void-clause-done
unfolding names_unit unit_named
returns-in-Void-clause-done c = does_void c.args.setup.now c.args.station c.args.deed.now c.args.stores.now c.to_mark-in-Void.result c.in-Void.field-0 c.in-Void.is (c.to_mark-in-Void.ensures c.in-Void.field-0 (unit_place c.args.stores.now.content c.args.deed.now c.args.found.now c.requires.found c.in-Void.field-0 (ap names_unit c.in-Void.is) (ap unit_named c.in-Void.is) c.unit_found-in-Void.result c.unit_found-in-Void.ensures))

pub returns-in-Declare-clause-done : goal.returns-in-Declare-clause-done
unfolding is_about_batch batch_named
returns-in-Declare-clause-done c = does_declare c.args.setup.now c.args.station c.args.deed.now c.declare.new.stores c.declare.result c.in-Declare.field-0 c.in-Declare.good c.in-Declare.spoiled c.in-Declare.returned c.in-Declare.is (done_to c.declare.result (λ (name : Text). position (is_called name) c.args.stores.now.content.batches ≡ Some c.batch_found-batch.result) (λ (name : Text) (done : Done). Does c.declare.new.stores done Plain (with_declaration (world_in c.declare.new.stores.content) (record { batch = name; line = c.args.station; good = c.in-Declare.good; spoiled = c.in-Declare.spoiled; returned = c.in-Declare.returned }))) c.in-Declare.field-0 (batch_place c.args.stores.now.content c.args.deed.now c.args.found.now c.requires.found c.in-Declare.field-0 (ap is_about_batch c.in-Declare.is) (ap (batch_named (world_in c.args.stores.now.content)) c.in-Declare.is) c.batch_found-batch.result c.batch_found-batch.ensures) c.declare.ensures.done)

pub returns-in-Close-clause-done : goal.returns-in-Close-clause-done
unfolding is_about_batch batch_named
returns-in-Close-clause-done c = does_close c.args.setup.now c.args.station c.args.deed.now c.args.stores.now c.to_phase-in-Close.result c.in-Close.field-0 c.in-Close.is (c.to_phase-in-Close.ensures c.in-Close.field-0 (batch_place c.args.stores.now.content c.args.deed.now c.args.found.now c.requires.found c.in-Close.field-0 (ap is_about_batch c.in-Close.is) (ap (batch_named (world_in c.args.stores.now.content)) c.in-Close.is) c.batch_found-in-Close.result c.batch_found-in-Close.ensures))

pub returns-in-Amend-clause-done : goal.returns-in-Amend-clause-done
unfolding is_about_batch batch_named
returns-in-Amend-clause-done c = does_amend c.args.setup.now c.args.station c.args.deed.now c.args.stores.now c.amend.result c.in-Amend.field-0 c.in-Amend.quantity c.in-Amend.is (c.amend.ensures c.in-Amend.field-0 (batch_place c.args.stores.now.content c.args.deed.now c.args.found.now c.requires.found c.in-Amend.field-0 (ap is_about_batch c.in-Amend.is) (ap (batch_named (world_in c.args.stores.now.content)) c.in-Amend.is) c.batch_found-in-Amend.result c.batch_found-in-Amend.ensures))

pub returns-in-Commission-clause-done : goal.returns-in-Commission-clause-done
returns-in-Commission-clause-done c = does_move c.args.setup.now c.args.station c.args.deed.now c.args.stores.now c.move_rows.result (moves_rows c.args.deed.now c.in-Commission.is) c.move_rows.ensures
