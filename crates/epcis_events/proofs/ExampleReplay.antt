-- The events of a whole batch, and their replay, by computation.
use Rattle.std.proofs.Common.{◌≡◌, List, [], ◌∷◌, ◌++◌, refl, length, map}
use Rattle.gs1_keys.specs.Keys.{check, issue}
use Rattle.epc_urn.specs.declared.epc.Epc.TheVariants.{Unit as Box}
use Rattle.deed_words.specs.declared.words.Level.TheVariants.{Case}
use Rattle.deed_words.specs.declared.entry.Entry.{Entry}
use Rattle.deed_words.specs.declared.entry.Move.{Move}
use Rattle.deed_words.specs.declared.deed.Deed.TheVariants as deed
use Rattle.deed_words.proofs.ExampleSite.{site, p1, l1, by, drawing, batch, order, serials, items, printed, unit}
use Rattle.deed_words.specs.Names.{same, same_name, is_among, same_order}
use Rattle.deed_words.specs.Setups.{role_of, product_of, half_pool, next_reference, reference_bound, code_of, IsForPlanner}
use Rattle.deed_words.specs.World.{batch_of, row_of, unit_of, parent, inside, rows_in, units_in, home}
use Rattle.deed_words.specs.Accounts.{is_good, is_spoiled, is_returned, is_case, was_lent_to, rows_of_line, how_many, line_numbers, declared_numbers, has_line, has_pallets, stands_loose, differs, still_lent, still_rejected, unpacked, unit_open, unit_loose, not_declared, declared_differs, findings, finding}
use Rattle.deed_words.specs.Chain.{first, when, each_from, each, holds_of, is_empty, numbers_below}
use Rattle.deed_words.specs.Counts.{is_unused, is_sampled, counts_as_rejected, is_gone, counts_over, counts_of, draws_for, drawn_of, counts_of_gtin, draws_of, drawn_of_gtin_from}
use Rattle.deed_words.specs.Deeds.{order_rows, unit_named, batch_with, batch_named, batch_for, items_of, named}
use Rattle.deed_words.specs.Effects.{with_orders, in_phase, with_phase, of_quantity, with_quantity, fresh_row, gtin_of, with_drawn, rewrite, with_rows, lent_rows, moved_row, with_unit, marked, with_mark, with_children, without_children, emptied, with_declaration, effect}
use Rattle.deed_words.specs.Walk.{steps_from}
use Rattle.deed_words.specs.History.{world_from, world_of, own, last_stamp, MayDraw, AllFollow, IsLawful, told_from, told_to}
use Rattle.deed_words.specs.Kept.{pairs_in, declared_in}
use Rattle.deed_words.specs.Moves.{moved, is_fresh, is_lent, is_active, is_rejected, is_filling, is_sealed, is_void, told_state, told_mark}
use Rattle.deed_words.specs.Numbers.{IsTold, Means}
use Rattle.deed_words.specs.Once.{drawn_by, lent_by, commissioned_by, if_accepted, issued_from, made_by, ordered_by}
use Rattle.deed_words.specs.Orders.{is_ordered, new_orders, orders_in, conflicts}
use Rattle.deed_words.specs.Replies.{orders_answer, answer_to, unless_broken, after, replied, reply_to}
use Rattle.deed_words.specs.Roles.{is_planner, is_line, is_quality, is_line_or_quality, is_for}
use Rattle.deed_words.specs.Rules.{on_rows, rules_of, broken}
use Rattle.deed_words.specs.Sound.{HasBatch, MayStandIn, StandsRightly, IsUntouched}
use Rattle.deed_words.specs.Tests.{role_forbids, unknown_product, order_conflict, unknown_batch, unknown_unit, is_planned, is_started, is_closed, not_started, started, closed, unit_void, unit_sealed, unit_not_sealed, count_range, out_of_range, full, site_full, rows_of_gtin, thin, asked, pool_thin, fresh_rows, few_fresh, sscc_spent, repeated, is_known, unknown_serial, is_of, fits_order, strays, other_batch, takes, misfits, wrong_level, unfit, wrong_state, other_line, lent_to_other, has_parent, not_child, room_of, over, unit_full, unit_not_empty, nothing_inside, not_accounted}
use Rattle.deed_words.proofs.Examples.{whole}
use Rattle.deed_words.specs.Happenings.{has_event, things_of, holder_of, number_of, move_of, listed, moved_by, moves_from, moves, moves_of}
use Rattle.epcis_events.specs.Events.{kind_of, length_of, written_in, told_of, event_in, event_of, events, events_of}
use Rattle.epcis_events.specs.Replaying.{applied, fed, replay_from, replay}

-- 19 events, after which 46 names are live and 44 things stand in containers
pub whole_batch : (length (events site whole) ≡ 19) × (length (events_of site whole batch) ≡ 19) × (length (replay (events site whole)).live ≡ 46) × (length (replay (events site whole)).pairs ≡ 44)
unfolding check issue is_good is_spoiled is_returned is_case was_lent_to rows_of_line how_many line_numbers declared_numbers has_line has_pallets stands_loose differs still_lent still_rejected unpacked unit_open unit_loose not_declared declared_differs findings finding first when each_from each holds_of is_empty numbers_below is_unused is_sampled counts_as_rejected is_gone counts_over counts_of draws_for drawn_of order_rows unit_named batch_with batch_named batch_for items_of named with_orders in_phase with_phase of_quantity with_quantity fresh_row gtin_of with_drawn rewrite with_rows lent_rows moved_row with_unit marked with_mark with_children without_children emptied with_declaration effect world_from world_of own last_stamp MayDraw steps_from AllFollow IsLawful told_from told_to pairs_in declared_in moved is_fresh is_lent is_active is_rejected is_filling is_sealed is_void told_state told_mark same same_name is_among same_order IsTold Means drawn_by lent_by commissioned_by if_accepted issued_from made_by ordered_by is_ordered new_orders orders_in conflicts orders_answer answer_to unless_broken after replied reply_to is_planner is_line is_quality is_line_or_quality is_for on_rows rules_of broken role_of product_of half_pool next_reference reference_bound code_of IsForPlanner HasBatch MayStandIn StandsRightly IsUntouched role_forbids unknown_product order_conflict unknown_batch unknown_unit is_planned is_started is_closed not_started started closed unit_void unit_sealed unit_not_sealed count_range out_of_range full site_full rows_of_gtin thin asked pool_thin fresh_rows few_fresh sscc_spent repeated is_known unknown_serial is_of fits_order strays other_batch takes misfits wrong_level unfit wrong_state other_line lent_to_other has_parent not_child room_of over unit_full unit_not_empty nothing_inside not_accounted batch_of row_of unit_of parent inside rows_in units_in home counts_of_gtin draws_of drawn_of_gtin_from has_event things_of holder_of number_of move_of listed moved_by moves_from moves moves_of kind_of length_of written_in told_of event_in event_of events events_of applied fed replay_from replay
whole_batch = (refl, refl, refl, refl)

-- a case with two items, the second of which was put in first, is emptied
abbrev emptying : List Entry
emptying =
    by p1 (deed.Order (order 2 2 0)) ∷ by p1 (deed.Start batch) ∷ drawing (deed.Draw batch 2) (serials 1 2) ∷ by l1 (deed.Lend batch 2) ∷ by l1 (deed.Commission batch (printed 1 2))
    ∷ by l1 (deed.Container batch Case) ∷ by l1 (deed.Pack (unit 0) (items 2 1)) ∷ by l1 (deed.Pack (unit 0) (items 1 1)) ∷ by l1 (deed.UnpackAll (unit 0)) ∷ []

-- the item that was packed first is listed first
pub longest_first : map (λ (moved : Move). moved.epcs) (moves site emptying) ≡ items 1 2 ∷ (Box (unit 0) ∷ []) ∷ items 2 1 ∷ items 1 1 ∷ (items 2 1 ++ items 1 1) ∷ []
unfolding check issue is_good is_spoiled is_returned is_case was_lent_to rows_of_line how_many line_numbers declared_numbers has_line has_pallets stands_loose differs still_lent still_rejected unpacked unit_open unit_loose not_declared declared_differs findings finding first when each_from each holds_of is_empty numbers_below is_unused is_sampled counts_as_rejected is_gone counts_over counts_of draws_for drawn_of order_rows unit_named batch_with batch_named batch_for items_of named with_orders in_phase with_phase of_quantity with_quantity fresh_row gtin_of with_drawn rewrite with_rows lent_rows moved_row with_unit marked with_mark with_children without_children emptied with_declaration effect world_from world_of own last_stamp MayDraw steps_from AllFollow IsLawful told_from told_to pairs_in declared_in moved is_fresh is_lent is_active is_rejected is_filling is_sealed is_void told_state told_mark same same_name is_among same_order IsTold Means drawn_by lent_by commissioned_by if_accepted issued_from made_by ordered_by is_ordered new_orders orders_in conflicts orders_answer answer_to unless_broken after replied reply_to is_planner is_line is_quality is_line_or_quality is_for on_rows rules_of broken role_of product_of half_pool next_reference reference_bound code_of IsForPlanner HasBatch MayStandIn StandsRightly IsUntouched role_forbids unknown_product order_conflict unknown_batch unknown_unit is_planned is_started is_closed not_started started closed unit_void unit_sealed unit_not_sealed count_range out_of_range full site_full rows_of_gtin thin asked pool_thin fresh_rows few_fresh sscc_spent repeated is_known unknown_serial is_of fits_order strays other_batch takes misfits wrong_level unfit wrong_state other_line lent_to_other has_parent not_child room_of over unit_full unit_not_empty nothing_inside not_accounted batch_of row_of unit_of parent inside rows_in units_in home counts_of_gtin draws_of drawn_of_gtin_from has_event things_of holder_of number_of move_of listed moved_by moves_from moves moves_of kind_of length_of written_in told_of event_in event_of events events_of applied fed replay_from replay
longest_first = refl
