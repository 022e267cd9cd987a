-- The tests by name.
use Rattle.deed_words.specs.Tests.{Test as TheTest, role_forbids, unknown_product, order_conflict, unknown_batch, unknown_unit, not_started, started, closed, unit_void, unit_sealed, unit_not_sealed, out_of_range, site_full, pool_thin, few_fresh, sscc_spent, repeated, unknown_serial, other_batch, wrong_level, wrong_state, lent_to_other, has_parent, not_child, unit_full, unit_not_empty, nothing_inside, not_accounted}
use Rattle.std.specs.Prelude.{ℕ, Option}
use Rattle.deed_words.specs.Setups.{Setup}
use Rattle.deed_words.specs.World.{World}
use Rattle.deed_words.specs.declared.deed.Deed.{Deed}
use Rattle.deed_words.specs.declared.rule.Rule.{Rule}
use Rattle.site_rules.specs.declared.table.Test.{Test}
use Rattle.site_rules.specs.declared.table.Test.TheVariants.{RoleForbids, UnknownProduct, OrderConflict, UnknownBatch, UnknownUnit, NotStarted, Started, Closed, UnitVoid, UnitSealed, UnitNotSealed, OutOfRange, SiteFull, PoolThin, FewFresh, SsccSpent, Repeated, UnknownSerial, OtherBatch, WrongLevel, WrongState, LentToOther, HasParent, NotChild, UnitFull, UnitNotEmpty, NothingInside, NotAccounted}

abbrev pub test_of : Test → TheTest
test_of RoleForbids = role_forbids
test_of UnknownProduct = unknown_product
test_of OrderConflict = order_conflict
test_of UnknownBatch = unknown_batch
test_of UnknownUnit = unknown_unit
test_of NotStarted = not_started
test_of Started = started
test_of Closed = closed
test_of UnitVoid = unit_void
test_of UnitSealed = unit_sealed
test_of UnitNotSealed = unit_not_sealed
test_of OutOfRange = out_of_range
test_of SiteFull = site_full
test_of PoolThin = pool_thin
test_of FewFresh = few_fresh
test_of SsccSpent = sscc_spent
test_of Repeated = repeated
test_of UnknownSerial = unknown_serial
test_of OtherBatch = other_batch
test_of WrongLevel = wrong_level
test_of WrongState = wrong_state
test_of LentToOther = lent_to_other
test_of HasParent = has_parent
test_of NotChild = not_child
test_of UnitFull = unit_full
test_of UnitNotEmpty = unit_not_empty
test_of NothingInside = nothing_inside
test_of NotAccounted = not_accounted

-- what a test says, whatever its place
abbrev pub told : Setup → World → ℕ → Deed → ℕ → Test → Option Rule
told site w station deed k test = test_of test site w station deed
