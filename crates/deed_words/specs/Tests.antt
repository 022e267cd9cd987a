-- The twenty-eight rules, each with its test and what its refusal tells.
use Rattle.std.specs.Prelude.{ℕ, ◌+◌, Bool, true, false, not, ◌&&◌, ◌||◌, List, ◌++◌, length, filter, Option, None, is_none, is_some, nat_eq, nat_lt, option_map, option_and_then, take}
use Rattle.deed_words.specs.Names.{Text, same, is_among}
use Rattle.gs1_element.specs.declared.code.Code.{Code}
use Rattle.epc_urn.specs.declared.epc.Epc.{Epc}
use Rattle.epc_urn.specs.declared.epc.Epc.TheVariants.{Item, Unit as Box}
use Rattle.deed_words.specs.Setups.{Setup, role_of, product_of, half_pool, next_reference, reference_bound}
use Rattle.deed_words.specs.declared.deed.Deed.{Deed}
use Rattle.deed_words.specs.declared.deed.Deed.TheVariants.{Orders, Draw, Lend, Commission, Container as MakeUnit, Pack, Unseal}
use Rattle.deed_words.specs.declared.words.Phase.TheVariants.{Planned, Started, Closed}
use Rattle.deed_words.specs.declared.words.Level.{Level}
use Rattle.deed_words.specs.declared.words.Level.TheVariants.{Case, Pallet}
use Rattle.deed_words.specs.declared.words.What.{What}
use Rattle.deed_words.specs.declared.words.What.TheVariants.{Batches, Serials, Units}
use Rattle.deed_words.specs.declared.words.Condition.{Condition}
use Rattle.deed_words.specs.declared.rule.Rule.{Rule}
use Rattle.deed_words.specs.declared.rule.Rule.TheVariants as rule
use Rattle.deed_words.specs.Chain.{when, each, holds_of, is_empty}
use Rattle.deed_words.specs.declared.world.Batch.{Batch}
use Rattle.deed_words.specs.declared.world.Row.{Row}
use Rattle.deed_words.specs.declared.world.Container.{Container}
use Rattle.deed_words.specs.World.{World, batch_of, row_of, unit_of, parent, inside, home}
use Rattle.deed_words.specs.Deeds.{order_rows, unit_named, batch_named, batch_for, named, item_of}
use Rattle.deed_words.specs.Moves.{moved, is_fresh, is_active, is_filling, is_sealed, is_void, told_state, told_mark}
use Rattle.deed_words.specs.Roles.{is_for}
use Rattle.deed_words.specs.Orders.{new_orders, orders_in, conflicts}
use Rattle.deed_words.specs.Accounts.{finding, is_case}

-- what a rule says of a station's deed: nothing, or its refusal
abbrev pub Test : Type 0
Test = Setup → World → ℕ → Deed → Option Rule

-- a thing among those that the deed names, by its index
abbrev pub each_named : World → Deed → (ℕ → Epc → Option Rule) → Option Rule
each_named w deed test = each (named w deed) test

unfoldable pub role_forbids : Test
role_forbids site w station deed = when (not (holds_of (is_for deed) (role_of site station))) rule.RoleForbids

unfoldable pub unknown_product : Test
unknown_product site w station deed = each (order_rows deed) (λ k row. when (is_none (product_of site row.gtin)) (rule.UnknownProduct (k + 1)))

unfoldable pub order_conflict : Test
order_conflict site w station deed = each (order_rows deed) (λ k row. when (conflicts (orders_in w ++ order_rows deed) row) (rule.OrderConflict (k + 1)))

unfoldable pub unknown_batch : Test
unknown_batch site w station deed = when (is_none (batch_for w deed)) rule.UnknownBatch

unfoldable pub unknown_unit : Test
unknown_unit site w station deed = when (is_none (unit_of w (unit_named deed))) rule.UnknownUnit

unfoldable pub is_planned : Batch → Bool
is_planned batch = elim batch.phase [ Planned ↦ true | Started ↦ false | Closed ↦ false ]

unfoldable pub is_started : Batch → Bool
is_started batch = elim batch.phase [ Planned ↦ false | Started ↦ true | Closed ↦ false ]

unfoldable pub is_closed : Batch → Bool
is_closed batch = elim batch.phase [ Planned ↦ false | Started ↦ false | Closed ↦ true ]

unfoldable pub not_started : Test
not_started site w station deed = when (holds_of is_planned (batch_for w deed)) rule.BatchNotStarted

unfoldable pub started : Test
started site w station deed = when (holds_of is_started (batch_for w deed)) rule.BatchStarted

unfoldable pub closed : Test
closed site w station deed = when (holds_of is_closed (batch_for w deed)) rule.BatchClosed

unfoldable pub unit_void : Test
unit_void site w station deed = when (holds_of (λ unit. is_void unit.mark) (unit_of w (unit_named deed))) rule.UnitVoid

unfoldable pub unit_sealed : Test
unit_sealed site w station deed = when (holds_of (λ unit. is_sealed unit.mark) (unit_of w (unit_named deed))) rule.UnitSealed

unfoldable pub unit_not_sealed : Test
unit_not_sealed site w station deed = when (holds_of (λ unit. is_filling unit.mark) (unit_of w (unit_named deed))) rule.UnitNotSealed

-- a count is 1 to 10000
unfoldable pub count_range : ℕ → Option Rule
count_range count = when (nat_eq count 0 || nat_lt 10000 count) (rule.CountOutOfRange 10000)

unfoldable pub out_of_range : Test
out_of_range site w station (Draw name count) = count_range count
out_of_range site w station (Lend name count) = count_range count
out_of_range site w station (Orders rows) = when (is_empty rows) (rule.CountOutOfRange 1000)
out_of_range site w station deed = when (is_empty (named w deed)) (rule.CountOutOfRange 1000)

-- so many more pass the limit
unfoldable pub full : What → ℕ → ℕ → ℕ → Option Rule
full what have more most = when (nat_lt most (have + more)) (rule.SiteFull what have)

unfoldable pub site_full : Test
site_full site w station (Draw name count) = full Serials (length w.rows) count 1000000
site_full site w station (MakeUnit name level) = full Units (length w.units) 1 65536
site_full site w station deed = full Batches (length w.batches) (length (new_orders (orders_in w) (order_rows deed))) 4096

-- the rows that were drawn of the GTIN
unfoldable pub rows_of_gtin : World → Text → List Row
rows_of_gtin w gtin = filter (λ row. same row.gtin gtin) w.rows

unfoldable pub thin : Setup → World → ℕ → Batch → Option Rule
thin site w asked batch =
    let have : ℕ = length (rows_of_gtin w batch.order.gtin) in
    when (nat_lt (half_pool site batch.order.gtin) (have + asked)) (rule.PoolThin asked have)

-- how many serials the deed asks for
unfoldable pub asked : Deed → ℕ
asked (Draw name count) = count
asked (Lend name count) = count
asked deed = 0

unfoldable pub pool_thin : Test
pool_thin site w station deed = option_and_then (thin site w (asked deed)) (batch_for w deed)

-- the Fresh rows of the batch, in drawn order
unfoldable pub fresh_rows : World → Text → List Row
fresh_rows w name = filter (λ row. same row.batch name && is_fresh row.state) w.rows

unfoldable pub few_fresh : Test
few_fresh site w station deed =
    let have : ℕ = length (fresh_rows w (batch_named w deed)) in
    when (nat_lt have (asked deed)) (rule.FewFresh have)

unfoldable pub sscc_spent : Test
sscc_spent site w station deed = when (not (nat_lt (next_reference site w) (reference_bound site))) rule.SsccSpent

unfoldable pub repeated : Test
repeated site w station deed = each_named w deed (λ k name. when (is_among (take k (named w deed)) name) (rule.RepeatedInRequest k))

-- there is a row or, for pack, a unit of that name
unfoldable pub is_known : World → Deed → Epc → Bool
is_known w deed (Item gtin serial) = is_some (row_of w gtin serial)
is_known w (Pack unit children) (Box sscc) = is_some (unit_of w sscc)
is_known w deed (Box sscc) = false

unfoldable pub unknown_serial : Test
unknown_serial site w station deed = each_named w deed (λ k name. when (not (is_known w deed name)) (rule.UnknownSerial k))

-- the thing is of the batch
unfoldable pub is_of : World → Text → Epc → Bool
is_of w batch name = holds_of (same batch) (home w name)

-- lot and expiry of the code are those of the order
unfoldable pub fits_order : Option Batch → Code → Bool
fits_order batch code = holds_of (λ b. same b.order.lot code.lot && same b.order.expiry code.expiry) batch

-- a thing among these isn't of the batch
unfoldable pub strays : World → Text → List Epc → Option Rule
strays w batch names = each names (λ k name. when (not (is_of w batch name)) (rule.OtherBatch k))

unfoldable pub other_batch : Test
other_batch site w station (Commission name codes) =
    each codes (λ k code. when (not (is_of w name (item_of code) && fits_order (batch_of w name) code)) (rule.OtherBatch k))
other_batch site w station deed = strays w (batch_named w deed) (named w deed)

-- a case takes items, and a pallet takes cases
unfoldable pub takes : World → Level → Epc → Bool
takes w Case (Item gtin serial) = true
takes w Case (Box sscc) = false
takes w Pallet (Item gtin serial) = false
takes w Pallet (Box sscc) = holds_of (λ unit. is_case unit.level) (unit_of w sscc)

-- a thing among these doesn't go into a unit of the level
unfoldable pub misfits : World → Level → List Epc → Option Rule
misfits w level names = each names (λ k name. when (not (takes w level name)) (rule.WrongLevel k))

unfoldable pub wrong_level : Test
wrong_level site w station (MakeUnit name Case) = None
wrong_level site w station (MakeUnit name Pallet) = when (holds_of (λ batch. nat_eq batch.order.pallet_size 0) (batch_of w name)) (rule.WrongLevel 0)
wrong_level site w station deed = option_and_then (λ unit. misfits w unit.level (named w deed)) (unit_of w (unit_named deed))

-- the state of the thing, where it doesn't allow the deed
unfoldable pub unfit : World → Deed → Epc → Option Condition
unfit w (Pack unit children) (Item gtin serial) =
    option_and_then (λ row. when (not (is_active row.state)) (told_state row.state)) (row_of w gtin serial)
unfit w (Pack unit children) (Box sscc) = option_and_then (λ box. when (not (is_sealed box.mark)) (told_mark box.mark)) (unit_of w sscc)
unfit w deed (Item gtin serial) =
    option_and_then (λ row. when (is_none (moved deed row.state)) (told_state row.state)) (row_of w gtin serial)
unfit w deed (Box sscc) = None

unfoldable pub wrong_state : Test
wrong_state site w station deed = each_named w deed (λ k name. option_map (rule.WrongState k) (unfit w deed name))

-- the line that the item was lent to, where it isn't this one
unfoldable pub other_line : World → ℕ → Epc → Option ℕ
other_line w station (Item gtin serial) =
    option_and_then (λ row. option_and_then (λ line. when (not (nat_eq line station)) line) row.line) (row_of w gtin serial)
other_line w station (Box sscc) = None

unfoldable pub lent_to_other : Test
lent_to_other site w station deed = each_named w deed (λ k name. option_map (rule.LentToOther k) (other_line w station name))

unfoldable pub has_parent : Test
has_parent site w station (Unseal unit) = option_map (rule.HasParent 0) (parent w (Box unit))
has_parent site w station deed = each_named w deed (λ k name. option_map (rule.HasParent k) (parent w name))

unfoldable pub not_child : Test
not_child site w station deed = each_named w deed (λ k name. when (not (holds_of (same (unit_named deed)) (parent w name))) (rule.NotChild k))

-- how many a unit of the level takes
unfoldable pub room_of : Batch → Level → ℕ
room_of batch Case = batch.order.case_size
room_of batch Pallet = batch.order.pallet_size

unfoldable pub over : World → Text → ℕ → Container → Batch → Option Rule
over w sscc more unit batch =
    let have : ℕ = length (inside w sscc) in
    let room : ℕ = room_of batch unit.level in
    when (nat_lt room (have + more)) (rule.UnitFull have room)

unfoldable pub unit_full : Test
unit_full site w station deed =
    option_and_then (λ unit. option_and_then (over w (unit_named deed) (length (named w deed)) unit) (batch_for w deed)) (unit_of w (unit_named deed))

unfoldable pub unit_not_empty : Test
unit_not_empty site w station deed =
    let have : ℕ = length (inside w (unit_named deed)) in
    when (nat_lt 0 have) (rule.UnitNotEmpty have)

unfoldable pub nothing_inside : Test
nothing_inside site w station deed = when (is_empty (inside w (unit_named deed))) rule.NothingInside

unfoldable pub not_accounted : Test
not_accounted site w station deed = option_map rule.NotAccounted (finding site w (batch_named w deed))
