-- Worked examples: the definitions, computed.
use Rattle.std.proofs.Common.{◌≡◌, List, [], ◌∷◌, ◌++◌, refl, Some, length, replicate}
use Rattle.std.specs.Prelude.{codes}
use Rattle.gs1_keys.specs.Keys.{check, digits_of, issue}
use Rattle.epc_urn.specs.declared.epc.Epc.TheVariants.{Unit as Box}
use Rattle.deed_words.specs.declared.words.Level.TheVariants.{Case, Pallet}
use Rattle.deed_words.specs.declared.words.What.TheVariants.{Units}
use Rattle.deed_words.specs.declared.words.Mark.TheVariants as mark
use Rattle.deed_words.specs.declared.words.Condition.TheVariants as told
use Rattle.deed_words.specs.declared.entry.Entry.{Entry}
use Rattle.deed_words.specs.declared.deed.OrderRow.{OrderRow}
use Rattle.deed_words.specs.declared.deed.Deed.TheVariants as deed
use Rattle.deed_words.specs.declared.rule.Rule.TheVariants as rule
use Rattle.deed_words.specs.declared.rule.Finding.TheVariants as found
use Rattle.deed_words.specs.declared.reply.Reply.TheVariants.{Accepted, Refused}
use Rattle.deed_words.specs.declared.reply.Answer.TheVariants as answer
use Rattle.deed_words.proofs.ExampleSite.{first_product, site, p1, l1, l2, q1, by, drawing, batch, order, serials, items, code, printed, unit, stand_in, replies, ok}
use Rattle.deed_words.specs.Names.{Text, same, same_name, is_among, same_order}
use Rattle.deed_words.specs.Setups.{Setup, role_of, product_of, half_pool, next_reference, reference_bound, code_of, IsForPlanner}
use Rattle.deed_words.specs.World.{World, nothing_yet, batch_of, row_of, unit_of, parent, inside, rows_in, units_in, home}
use Rattle.deed_words.specs.Accounts.{is_good, is_spoiled, is_returned, is_case, was_lent_to, rows_of_line, how_many, line_numbers, declared_numbers, has_line, has_pallets, stands_loose, differs, still_lent, still_rejected, unpacked, unit_open, unit_loose, not_declared, declared_differs, findings, finding}
use Rattle.deed_words.specs.Chain.{first, when, each_from, each, holds_of, is_empty, numbers_below}
use Rattle.deed_words.specs.Counts.{is_unused, is_sampled, counts_as_rejected, is_gone, counts_over, counts_of, draws_for, drawn_of, counts_of_gtin, draws_of, drawn_of_gtin, drawn_of_gtin_from}
use Rattle.deed_words.specs.Deeds.{order_rows, unit_named, batch_with, batch_named, batch_for, items_of, named}
use Rattle.deed_words.specs.Effects.{with_orders, in_phase, with_phase, of_quantity, with_quantity, fresh_row, gtin_of, with_drawn, rewrite, with_rows, lent_rows, moved_row, with_unit, marked, with_mark, with_children, without_children, emptied, with_declaration, effect}
use Rattle.deed_words.specs.Walk.{steps_from}
use Rattle.deed_words.specs.History.{world_from, world_of, own, last_stamp, MayDraw, AllFollow, IsLawful, told_from, told_to}
use Rattle.deed_words.specs.Kept.{pairs_in, declared_in}
use Rattle.deed_words.specs.Moves.{moved, is_fresh, is_lent, is_active, is_rejected, is_filling, is_sealed, is_void, told_state, told_mark}
use Rattle.deed_words.specs.Numbers.{IsTold, Means}
use Rattle.deed_words.specs.Once.{drawn_by, lent_by, commissioned_by, if_accepted, issued_from, made_by, ordered_by}
use Rattle.deed_words.specs.Orders.{is_ordered, new_orders, orders_in, conflicts}
use Rattle.deed_words.specs.Replies.{orders_answer, answer_to, unless_broken, after, replied, reply_to}
use Rattle.deed_words.specs.Roles.{is_planner, is_line, is_quality, is_line_or_quality, is_for}
use Rattle.deed_words.specs.Rules.{on_rows, rules_of, broken}
use Rattle.deed_words.specs.Sound.{HasBatch, MayStandIn, StandsRightly, IsUntouched}
use Rattle.deed_words.specs.Tests.{role_forbids, unknown_product, order_conflict, unknown_batch, unknown_unit, is_planned, is_started, is_closed, not_started, started, closed, unit_void, unit_sealed, unit_not_sealed, count_range, out_of_range, full, site_full, rows_of_gtin, thin, asked, pool_thin, fresh_rows, few_fresh, sscc_spent, repeated, is_known, unknown_serial, is_of, fits_order, strays, other_batch, takes, misfits, wrong_level, unfit, wrong_state, other_line, lent_to_other, has_parent, not_child, room_of, over, unit_full, unit_not_empty, nothing_inside, not_accounted}

-- a line borrows serials, prints one, spoils one and gives one back
abbrev lending : List Entry
lending =
    by p1 (deed.Order (order 40 10 4)) ∷ by p1 (deed.Start batch) ∷ drawing (deed.Draw batch 4) (serials 1 4)
    ∷ by l1 (deed.Lend batch 3) ∷ by l1 (deed.Commission batch (printed 1 1)) ∷ by l1 (deed.Spoil batch (serials 2 1)) ∷ by l1 (deed.Giveback batch (serials 3 1))
    ∷ by l1 (deed.Lend batch 1) ∷ by l1 (deed.Lend batch 1) ∷ []

-- a batch is closed once its one serial is accounted for
abbrev closing : List Entry
closing =
    by p1 (deed.Order (order 40 10 4)) ∷ by p1 (deed.Start batch) ∷ drawing (deed.Draw batch 1) (serials 1 1) ∷ by l1 (deed.Lend batch 1)
    ∷ by p1 (deed.Close batch) ∷ by l1 (deed.Giveback batch (serials 1 1)) ∷ by p1 (deed.Close batch)
    ∷ by l1 (deed.Declare batch 0 0 0) ∷ by p1 (deed.Close batch) ∷ by l1 (deed.Declare batch 0 0 1) ∷ by p1 (deed.Close batch)
    ∷ by l1 (deed.Lend batch 0) ∷ by p1 (deed.Draw batch 10001) ∷ by p1 (deed.Amend batch 3) ∷ []

-- a sealed case takes nothing; an item goes into no second case, a case not into itself, a pallet into no case
abbrev packing : List Entry
packing =
    by p1 (deed.Order (order 40 10 4)) ∷ by p1 (deed.Start batch) ∷ drawing (deed.Draw batch 1) (serials 1 1) ∷ by l1 (deed.Lend batch 1)
    ∷ by l1 (deed.Commission batch (printed 1 1)) ∷ by l1 (deed.Container batch Case) ∷ by l1 (deed.Pack (unit 0) (items 1 1)) ∷ by l2 (deed.Seal (unit 0)) ∷ by l1 (deed.Pack (unit 0) (items 1 1))
    ∷ by l1 (deed.Container batch Case) ∷ by l1 (deed.Container batch Pallet) ∷ by l1 (deed.Pack (unit 1) (items 1 1))
    ∷ by l1 (deed.Pack (unit 1) (Box (unit 1) ∷ [])) ∷ by l1 (deed.Pack (unit 1) (Box (unit 2) ∷ [])) ∷ []

-- a whole batch
abbrev pub whole : List Entry
whole =
    by p1 (deed.Order (order 40 10 4)) ∷ by p1 (deed.Start batch) ∷ drawing (deed.Draw batch 50) (serials 1 50)
    ∷ by l1 (deed.Lend batch 22) ∷ by l2 (deed.Lend batch 22)
    ∷ by l1 (deed.Commission batch (printed 1 21)) ∷ by l1 (deed.Spoil batch (serials 22 1))
    ∷ by l2 (deed.Commission batch (printed 23 21)) ∷ by l2 (deed.Giveback batch (serials 44 1))
    ∷ by q1 (deed.Sample batch (items 21 1))
    ∷ by l1 (deed.Container batch Case) ∷ by l1 (deed.Container batch Case) ∷ by l1 (deed.Container batch Case) ∷ by l1 (deed.Container batch Case)
    ∷ by l1 (deed.Pack (unit 0) (items 1 10)) ∷ by l1 (deed.Pack (unit 1) (items 11 10)) ∷ by l1 (deed.Pack (unit 2) (items 23 10)) ∷ by l1 (deed.Pack (unit 3) (items 33 10))
    ∷ by q1 (deed.Unpack (unit 3) (items 42 1)) ∷ by q1 (deed.Reject batch (items 42 1)) ∷ by q1 (deed.Reinstate batch (items 42 1)) ∷ by l1 (deed.Pack (unit 3) (items 42 1))
    ∷ by q1 (deed.Reject batch (items 43 1)) ∷ by q1 (deed.Destroy batch (items 43 1))
    ∷ by l1 (deed.Seal (unit 0)) ∷ by l1 (deed.Seal (unit 1)) ∷ by l1 (deed.Seal (unit 2)) ∷ by l1 (deed.Seal (unit 3))
    ∷ by l1 (deed.Container batch Pallet) ∷ by l1 (deed.Pack (unit 4) (Box (unit 0) ∷ Box (unit 1) ∷ Box (unit 2) ∷ Box (unit 3) ∷ [])) ∷ by l1 (deed.Seal (unit 4))
    ∷ by l1 (deed.Declare batch 21 1 0) ∷ by l2 (deed.Declare batch 21 0 1) ∷ by p1 (deed.Close batch) ∷ []

-- two orders that come again, once changed, and after the quantity was
abbrev first_order : OrderRow
first_order = record { batch = codes "C1"; gtin = first_product; lot = codes "LA"; expiry = codes "271231"; quantity = 10; case_size = 5; pallet_size = 0 }

abbrev second_order : OrderRow
second_order = record { batch = codes "C2"; gtin = first_product; lot = codes "LB"; expiry = codes "270200"; quantity = 20; case_size = 5; pallet_size = 2 }

abbrev ordering : List Entry
ordering =
    by p1 (deed.Orders (first_order ∷ second_order ∷ [])) ∷ by p1 (deed.Orders (first_order ∷ second_order ∷ []))
    ∷ by p1 (deed.Orders (first_order ∷ record second_order { quantity = 21 } ∷ [])) ∷ by p1 (deed.Orders [])
    ∷ by p1 (deed.Amend (codes "C2") 25) ∷ by p1 (deed.Orders (first_order ∷ second_order ∷ [])) ∷ []

-- an equal row, and another one, within one request
abbrev within_one : List Entry
within_one = by p1 (deed.Orders (first_order ∷ first_order ∷ [])) ∷ by p1 (deed.Orders (second_order ∷ record second_order { quantity = 21 } ∷ [])) ∷ []

-- a case of one, and what it refuses
abbrev small : OrderRow
small = order 40 1 0

abbrev refusing : List Entry
refusing =
    by p1 (deed.Start batch) ∷ by p1 (deed.Order (record small { gtin = codes "00614141123469" })) ∷ by p1 (deed.Order small) ∷ by p1 (deed.Order (order 41 1 0)) ∷ by p1 (deed.Order small)
    ∷ by l1 (deed.Close batch) ∷ by l1 (deed.Lend batch 1) ∷ by p1 (deed.Start batch) ∷ by p1 (deed.Start batch) ∷ by l1 (deed.Lend batch 0) ∷ by l1 (deed.Seal (unit 0))
    ∷ drawing (deed.Draw batch 3) (serials 1 3) ∷ by l1 (deed.Commission batch (printed 1 1)) ∷ by l1 (deed.Lend batch 3) ∷ by l1 (deed.Commission batch (printed 1 1 ++ printed 1 1))
    ∷ by l1 (deed.Commission batch (printed 4 1)) ∷ by l1 (deed.Commission batch (record (code (digits_of 10 1)) { lot = codes "X" } ∷ [])) ∷ by l2 (deed.Commission batch (printed 1 1))
    ∷ by l1 (deed.Commission batch (printed 1 2)) ∷ by l1 (deed.Container batch Pallet) ∷ by l1 (deed.Container batch Case)
    ∷ by l1 (deed.Seal (unit 0)) ∷ by l1 (deed.Pack (unit 0) (items 1 2)) ∷ by l1 (deed.Pack (unit 0) (items 1 1)) ∷ by l1 (deed.Unpack (unit 0) (items 2 1)) ∷ by l1 (deed.Void (unit 0)) ∷ by l1 (deed.Unseal (unit 0))
    ∷ by l1 (deed.Seal (unit 0)) ∷ by l1 (deed.Seal (unit 0)) ∷ by l1 (deed.Unseal (unit 0)) ∷ by l1 (deed.UnpackAll (unit 0)) ∷ by l1 (deed.Void (unit 0)) ∷ by l1 (deed.Void (unit 0)) ∷ []

-- deeds that break two rules, or one rule twice
abbrev of_two : List Entry
of_two =
    by p1 (deed.Order small) ∷ by l1 (deed.Close (codes "B9")) ∷ by p1 (deed.Orders (order 41 1 0 ∷ record small { gtin = codes "00614141123469" } ∷ [])) ∷ by l1 (deed.Lend batch 0)
    ∷ by p1 (deed.Start batch) ∷ drawing (deed.Draw batch 3) (serials 1 3) ∷ by l1 (deed.Lend batch 2)
    ∷ by l1 (deed.Commission batch (printed 9 1 ++ printed 9 1)) ∷ by l1 (deed.Commission batch (record (code (digits_of 10 1)) { lot = codes "X" } ∷ printed 9 1))
    ∷ by l1 (deed.Commission batch (record (code (digits_of 10 3)) { expiry = codes "271230" } ∷ [])) ∷ by l1 (deed.Commission batch (printed 8 2))
    ∷ by l1 (deed.Commission batch (printed 1 2)) ∷ by l2 (deed.Commission batch (printed 1 1))
    ∷ by l1 (deed.Container batch Case) ∷ by l1 (deed.Container batch Case) ∷ by l1 (deed.Pack (unit 0) (items 1 1)) ∷ by l1 (deed.Pack (unit 1) (items 2 1))
    ∷ by l1 (deed.Pack (unit 0) (items 2 1)) ∷ by q1 (deed.Sample batch (items 1 1 ++ items 1 1)) ∷ by l1 (deed.Seal (unit 0)) ∷ by l1 (deed.Pack (unit 0) []) ∷ []

-- the last SSCC of a site
abbrev at_the_end : Setup
at_the_end = record site { reference = 999999999 }

abbrev spending : List Entry
spending = by p1 (deed.Order small) ∷ by p1 (deed.Start batch) ∷ by l1 (deed.Container batch Case) ∷ by l1 (deed.Container batch Pallet) ∷ []

-- the findings that closing didn't show
abbrev finding_more : List Entry
finding_more =
    by p1 (deed.Order (order 40 1 1)) ∷ by p1 (deed.Start batch) ∷ drawing (deed.Draw batch 1) (serials 1 1) ∷ by l1 (deed.Lend batch 1) ∷ by l1 (deed.Commission batch (printed 1 1))
    ∷ by p1 (deed.Close batch) ∷ by q1 (deed.Reject batch (items 1 1)) ∷ by p1 (deed.Close batch) ∷ by q1 (deed.Reinstate batch (items 1 1))
    ∷ by l1 (deed.Container batch Case) ∷ by l1 (deed.Pack (unit 0) (items 1 1)) ∷ by p1 (deed.Close batch) ∷ by l1 (deed.Seal (unit 0)) ∷ by p1 (deed.Close batch)
    ∷ by l1 (deed.Container batch Pallet) ∷ by l1 (deed.Pack (unit 1) (Box (unit 0) ∷ [])) ∷ by l1 (deed.Seal (unit 1)) ∷ by l1 (deed.Declare batch 1 0 0) ∷ by p1 (deed.Close batch) ∷ []

-- a second batch of the product
abbrev other : Text
other = codes "B8"

-- two batches: what is of another batch, goes into no unit of the level, or isn't in the state for it
abbrev mixing : List Entry
mixing =
    by p1 (deed.Order (order 40 2 2)) ∷ by p1 (deed.Order (record (order 40 2 2) { batch = other })) ∷ by p1 (deed.Start batch) ∷ by p1 (deed.Start other)
    ∷ drawing (deed.Draw batch 4) (serials 1 4) ∷ drawing (deed.Draw other 2) (serials 5 2)
    ∷ by l1 (deed.Lend batch 3) ∷ by l2 (deed.Lend batch 1) ∷ by l1 (deed.Lend other 2) ∷ by l1 (deed.Commission batch (printed 1 3)) ∷ by l1 (deed.Commission other (printed 5 1))
    ∷ by l1 (deed.Container batch Case) ∷ by l1 (deed.Container batch Pallet) ∷ by l1 (deed.Container other Case) ∷ by l1 (deed.Container batch Case)
    ∷ by q1 (deed.Sample batch (items 5 1)) ∷ by q1 (deed.Sample batch (Box (unit 0) ∷ [])) ∷ by l1 (deed.Pack (unit 0) (items 5 1)) ∷ by l1 (deed.Pack (unit 1) (Box (unit 2) ∷ []))
    ∷ by l1 (deed.Pack (unit 1) (items 1 1)) ∷ by l1 (deed.Pack (unit 0) (items 4 1)) ∷ by l1 (deed.Pack (unit 1) (Box (unit 0) ∷ []))
    ∷ by l1 (deed.Void (unit 3)) ∷ by l1 (deed.Pack (unit 1) (Box (unit 3) ∷ []))
    ∷ by l1 (deed.Pack (unit 0) (items 1 2)) ∷ by l1 (deed.Seal (unit 0)) ∷ by l1 (deed.Pack (unit 1) (Box (unit 0) ∷ [])) ∷ by l1 (deed.Unseal (unit 0)) ∷ by l1 (deed.Seal (unit 1)) ∷ []

-- and from there on: of each line the last declaration counts, and nothing is done with a unit of a closed batch
abbrev settling : List Entry
settling =
    by q1 (deed.Sample batch (items 3 1)) ∷ by l2 (deed.Giveback batch (serials 4 1)) ∷ by l1 (deed.Declare batch 3 0 0) ∷ by l2 (deed.Declare batch 0 0 0) ∷ by p1 (deed.Close batch)
    ∷ by l2 (deed.Declare batch 0 0 1) ∷ by l1 (deed.Declare batch 2 0 0) ∷ by p1 (deed.Close batch) ∷ by l1 (deed.Declare batch 3 0 0) ∷ by p1 (deed.Close batch)
    ∷ by l1 (deed.Unseal (unit 1)) ∷ by l1 (deed.Pack (unit 1) (Box (unit 2) ∷ [])) ∷ by l1 (deed.Pack (unit 2) (items 5 1)) ∷ []

-- a site that is full of units
abbrev crowded : World
crowded = record (world_from site nothing_yet (by p1 (deed.Order small) ∷ by p1 (deed.Start batch) ∷ [])) {
  units = replicate 65536 (record { sscc = unit 0; batch = batch; level = Case; mark = mark.Filling });
}

record Computed : Type 0 where
  lending_replies :
      replies site nothing_yet lending
      ≡ Accepted (answer.Orders 1 0) ∷ ok ∷ Accepted (answer.Listed (serials 1 4))
      ∷ Accepted (answer.Listed (serials 1 3)) ∷ ok ∷ ok ∷ ok
      ∷ Accepted (answer.Listed (serials 4 1)) ∷ Refused (rule.FewFresh 0) ∷ []
  lending_counts : counts_of (world_of site lending) batch ≡ record { unused = 1; lent = 1; commissioned = 1; sampled = 0; rejected = 1; destroyed = 0 }
  lending_drawn : (drawn_of lending batch ≡ 4) × (drawn_of_gtin site lending first_product ≡ 4)
  closing_replies :
      replies site nothing_yet closing
      ≡ Accepted (answer.Orders 1 0) ∷ ok ∷ Accepted (answer.Listed (serials 1 1)) ∷ Accepted (answer.Listed (serials 1 1))
      ∷ Refused (rule.NotAccounted (found.StillLent (codes "0000000001"))) ∷ ok ∷ Refused (rule.NotAccounted (found.NotDeclared l1))
      ∷ ok ∷ Refused (rule.NotAccounted (found.DeclaredDiffers l1 (0 ∷ 0 ∷ 1 ∷ []) (0 ∷ 0 ∷ 0 ∷ []))) ∷ ok ∷ ok
      ∷ Refused rule.BatchClosed ∷ Refused rule.BatchClosed ∷ Refused rule.BatchClosed ∷ []
  packing_replies :
      replies site nothing_yet packing
      ≡ Accepted (answer.Orders 1 0) ∷ ok ∷ Accepted (answer.Listed (serials 1 1)) ∷ Accepted (answer.Listed (serials 1 1))
      ∷ ok ∷ Accepted (answer.Made (codes "106141410000000019")) ∷ ok ∷ ok ∷ Refused rule.UnitSealed
      ∷ Accepted (answer.Made (unit 1)) ∷ Accepted (answer.Made (unit 2)) ∷ Refused (rule.HasParent 0 (codes "106141410000000019"))
      ∷ Refused (rule.WrongLevel 0) ∷ Refused (rule.WrongLevel 0) ∷ []
  whole_replies :
      replies site nothing_yet whole
      ≡ Accepted (answer.Orders 1 0) ∷ ok ∷ Accepted (answer.Listed (serials 1 50)) ∷ Accepted (answer.Listed (serials 1 22)) ∷ Accepted (answer.Listed (serials 23 22))
      ∷ replicate 5 ok ++ Accepted (answer.Made (unit 0)) ∷ Accepted (answer.Made (unit 1)) ∷ Accepted (answer.Made (unit 2)) ∷ Accepted (answer.Made (unit 3))
      ∷ replicate 14 ok ++ Accepted (answer.Made (unit 4)) ∷ replicate 5 ok
  whole_counts : counts_of (world_of site whole) batch ≡ record { unused = 7; lent = 0; commissioned = 40; sampled = 1; rejected = 1; destroyed = 1 }
  whole_by_gtin : counts_of_gtin (world_of site whole) first_product ≡ counts_of (world_of site whole) batch
  whole_drawn : (drawn_of whole batch ≡ 50) × (drawn_of_gtin site whole first_product ≡ 50)
  whole_lines : (line_numbers (world_of site whole) batch l1 ≡ 21 ∷ 1 ∷ 0 ∷ []) × (line_numbers (world_of site whole) batch l2 ≡ 21 ∷ 0 ∷ 1 ∷ [])
  whole_packing :
      (world_of site whole).pairs
      ≡ stand_in (unit 0) (items 1 10) ++ stand_in (unit 1) (items 11 10) ++ stand_in (unit 2) (items 23 10) ++ stand_in (unit 3) (items 33 9) ++ stand_in (unit 3) (items 42 1)
      ++ stand_in (unit 4) (Box (unit 0) ∷ Box (unit 1) ∷ Box (unit 2) ∷ Box (unit 3) ∷ [])
  whole_size : (length whole ≡ 34) × (length (world_of site whole).pairs ≡ 44)
  ordering_replies :
      replies site nothing_yet ordering
      ≡ Accepted (answer.Orders 2 0) ∷ Accepted (answer.Orders 0 2) ∷ Refused (rule.OrderConflict 2) ∷ Refused (rule.CountOutOfRange 1000) ∷ ok ∷ Accepted (answer.Orders 0 2) ∷ []
  within_one_replies : replies site nothing_yet within_one ≡ Accepted (answer.Orders 1 1) ∷ Refused (rule.OrderConflict 2) ∷ []
  refusing_replies :
      replies site nothing_yet refusing
      ≡ Refused rule.UnknownBatch ∷ Refused (rule.UnknownProduct 1) ∷ Accepted (answer.Orders 1 0) ∷ Refused (rule.OrderConflict 1) ∷ Accepted (answer.Orders 0 1)
      ∷ Refused rule.RoleForbids ∷ Refused rule.BatchNotStarted ∷ ok ∷ Refused rule.BatchStarted ∷ Refused (rule.CountOutOfRange 10000) ∷ Refused rule.UnknownUnit
      ∷ Accepted (answer.Listed (serials 1 3)) ∷ Refused (rule.WrongState 0 told.Fresh) ∷ Accepted (answer.Listed (serials 1 3)) ∷ Refused (rule.RepeatedInRequest 1)
      ∷ Refused (rule.UnknownSerial 0) ∷ Refused (rule.OtherBatch 0) ∷ Refused (rule.LentToOther 0 l1)
      ∷ ok ∷ Refused (rule.WrongLevel 0) ∷ Accepted (answer.Made (unit 0))
      ∷ Refused rule.NothingInside ∷ Refused (rule.UnitFull 0 1) ∷ ok ∷ Refused (rule.NotChild 0) ∷ Refused (rule.UnitNotEmpty 1) ∷ Refused rule.UnitNotSealed
      ∷ ok ∷ Refused rule.UnitSealed ∷ ok ∷ Accepted (answer.Taken 1) ∷ ok ∷ Refused rule.UnitVoid ∷ []
  of_two_replies :
      replies site nothing_yet of_two
      ≡ Accepted (answer.Orders 1 0) ∷ Refused rule.RoleForbids ∷ Refused (rule.UnknownProduct 2) ∷ Refused rule.BatchNotStarted
      ∷ ok ∷ Accepted (answer.Listed (serials 1 3)) ∷ Accepted (answer.Listed (serials 1 2))
      ∷ Refused (rule.RepeatedInRequest 1) ∷ Refused (rule.UnknownSerial 1) ∷ Refused (rule.OtherBatch 0) ∷ Refused (rule.UnknownSerial 0)
      ∷ ok ∷ Refused (rule.WrongState 0 told.Active)
      ∷ Accepted (answer.Made (unit 0)) ∷ Accepted (answer.Made (unit 1)) ∷ ok ∷ ok
      ∷ Refused (rule.HasParent 0 (unit 1)) ∷ Refused (rule.RepeatedInRequest 1) ∷ ok ∷ Refused rule.UnitSealed ∷ []
  spending_replies : replies at_the_end nothing_yet spending ≡ Accepted (answer.Orders 1 0) ∷ ok ∷ Accepted (answer.Made (codes "106141419999999991")) ∷ Refused rule.SsccSpent ∷ []
  finding_more_replies :
      replies site nothing_yet finding_more
      ≡ Accepted (answer.Orders 1 0) ∷ ok ∷ Accepted (answer.Listed (serials 1 1)) ∷ Accepted (answer.Listed (serials 1 1)) ∷ ok
      ∷ Refused (rule.NotAccounted (found.Unpacked (codes "0000000001"))) ∷ ok ∷ Refused (rule.NotAccounted (found.StillRejected (codes "0000000001"))) ∷ ok
      ∷ Accepted (answer.Made (unit 0)) ∷ ok ∷ Refused (rule.NotAccounted (found.UnitOpen (unit 0))) ∷ ok ∷ Refused (rule.NotAccounted (found.UnitLoose (unit 0)))
      ∷ Accepted (answer.Made (unit 1)) ∷ ok ∷ ok ∷ ok ∷ ok ∷ []
  mixing_replies :
      replies site nothing_yet mixing
      ≡ Accepted (answer.Orders 1 0) ∷ Accepted (answer.Orders 1 0) ∷ ok ∷ ok ∷ Accepted (answer.Listed (serials 1 4)) ∷ Accepted (answer.Listed (serials 5 2))
      ∷ Accepted (answer.Listed (serials 1 3)) ∷ Accepted (answer.Listed (serials 4 1)) ∷ Accepted (answer.Listed (serials 5 2)) ∷ ok ∷ ok
      ∷ Accepted (answer.Made (unit 0)) ∷ Accepted (answer.Made (unit 1)) ∷ Accepted (answer.Made (unit 2)) ∷ Accepted (answer.Made (unit 3))
      ∷ Refused (rule.OtherBatch 0) ∷ Refused (rule.UnknownSerial 0) ∷ Refused (rule.OtherBatch 0) ∷ Refused (rule.OtherBatch 0)
      ∷ Refused (rule.WrongLevel 0) ∷ Refused (rule.WrongState 0 told.Lent) ∷ Refused (rule.WrongState 0 told.Filling)
      ∷ ok ∷ Refused (rule.WrongState 0 told.Void) ∷ ok ∷ ok ∷ ok ∷ Refused (rule.HasParent 0 (unit 1)) ∷ ok ∷ []
  settling_replies :
      replies site (world_of site mixing) settling
      ≡ ok ∷ ok ∷ ok ∷ ok ∷ Refused (rule.NotAccounted (found.DeclaredDiffers l2 (0 ∷ 0 ∷ 1 ∷ []) (0 ∷ 0 ∷ 0 ∷ [])))
      ∷ ok ∷ ok ∷ Refused (rule.NotAccounted (found.DeclaredDiffers l1 (3 ∷ 0 ∷ 0 ∷ []) (2 ∷ 0 ∷ 0 ∷ []))) ∷ ok ∷ ok
      ∷ Refused rule.BatchClosed ∷ Refused rule.BatchClosed ∷ ok ∷ []
  crowded_rule : broken site crowded l1 (deed.Container batch Case) ≡ Some (rule.SiteFull Units 65536)

computed : Computed
unfolding check issue is_good is_spoiled is_returned is_case was_lent_to rows_of_line how_many line_numbers declared_numbers has_line has_pallets stands_loose differs still_lent still_rejected unpacked unit_open unit_loose not_declared declared_differs findings finding first when each_from each holds_of is_empty numbers_below is_unused is_sampled counts_as_rejected is_gone counts_over counts_of draws_for drawn_of order_rows unit_named batch_with batch_named batch_for items_of named with_orders in_phase with_phase of_quantity with_quantity fresh_row gtin_of with_drawn rewrite with_rows lent_rows moved_row with_unit marked with_mark with_children without_children emptied with_declaration effect world_from world_of own last_stamp MayDraw AllFollow IsLawful steps_from told_from told_to pairs_in declared_in moved is_fresh is_lent is_active is_rejected is_filling is_sealed is_void told_state told_mark same same_name is_among same_order IsTold Means drawn_by lent_by commissioned_by if_accepted issued_from made_by ordered_by is_ordered new_orders orders_in conflicts orders_answer answer_to unless_broken after replied reply_to is_planner is_line is_quality is_line_or_quality is_for on_rows rules_of broken role_of product_of half_pool next_reference reference_bound code_of IsForPlanner HasBatch MayStandIn StandsRightly IsUntouched role_forbids unknown_product order_conflict unknown_batch unknown_unit is_planned is_started is_closed not_started started closed unit_void unit_sealed unit_not_sealed count_range out_of_range full site_full rows_of_gtin thin asked pool_thin fresh_rows few_fresh sscc_spent repeated is_known unknown_serial is_of fits_order strays other_batch takes misfits wrong_level unfit wrong_state other_line lent_to_other has_parent not_child room_of over unit_full unit_not_empty nothing_inside not_accounted batch_of row_of unit_of parent inside rows_in units_in home counts_of_gtin draws_of drawn_of_gtin_from
computed = record {
  lending_replies = refl;
  lending_counts = refl;
  lending_drawn = (refl, refl);
  closing_replies = refl;
  packing_replies = refl;
  whole_replies = refl;
  whole_counts = refl;
  whole_by_gtin = refl;
  whole_drawn = (refl, refl);
  whole_lines = (refl, refl);
  whole_packing = refl;
  whole_size = (refl, refl);
  ordering_replies = refl;
  within_one_replies = refl;
  refusing_replies = refl;
  of_two_replies = refl;
  spending_replies = refl;
  finding_more_replies = refl;
  mixing_replies = refl;
  settling_replies = refl;
  crowded_rule = refl;
}
