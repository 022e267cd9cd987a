-- For which deeds a test is.
use Rattle.std.specs.Prelude.{Bool, true, false}
use Rattle.deed_words.specs.declared.deed.Deed.{Deed}
use Rattle.deed_words.specs.declared.deed.Deed.TheVariants.{Order, Orders, Draw, Lend, Container as MakeUnit, Pack, Unpack, UnpackAll, Seal, Unseal, Void, Close}
use Rattle.site_rules.specs.declared.table.Test.{Test}
use Rattle.site_rules.specs.declared.table.Test.TheVariants as test

-- the deed names a unit
unfoldable pub names_unit : Deed → Bool
names_unit (Pack unit children) = true
names_unit (Unpack unit children) = true
names_unit (UnpackAll unit) = true
names_unit (Seal unit) = true
names_unit (Unseal unit) = true
names_unit (Void unit) = true
names_unit deed = false

-- the deed is about a batch: that which it names, or that of its unit
unfoldable pub is_about_batch : Deed → Bool
is_about_batch (Order row) = false
is_about_batch (Orders rows) = false
is_about_batch deed = true

-- the deed is about a unit: one that it names, or a new one
unfoldable pub is_about_unit : Deed → Bool
is_about_unit (MakeUnit name level) = true
is_about_unit deed = names_unit deed

unfoldable pub is_draw : Deed → Bool
is_draw (Draw name count) = true
is_draw deed = false

unfoldable pub is_lend : Deed → Bool
is_lend (Lend name count) = true
is_lend deed = false

unfoldable pub is_close : Deed → Bool
is_close (Close name) = true
is_close deed = false

-- the test asks for nothing that the deed isn't about
unfoldable pub suits : Deed → Test → Bool
suits deed test.UnknownBatch = is_about_batch deed
suits deed test.NotStarted = is_about_batch deed
suits deed test.Started = is_about_batch deed
suits deed test.Closed = is_about_batch deed
suits deed test.OtherBatch = is_about_batch deed
suits deed test.UnknownUnit = names_unit deed
suits deed test.UnitVoid = names_unit deed
suits deed test.UnitSealed = names_unit deed
suits deed test.UnitNotSealed = names_unit deed
suits deed test.NotChild = names_unit deed
suits deed test.UnitFull = names_unit deed
suits deed test.UnitNotEmpty = names_unit deed
suits deed test.NothingInside = names_unit deed
suits deed test.WrongLevel = is_about_unit deed
suits deed test.PoolThin = is_draw deed
suits deed test.FewFresh = is_lend deed
suits deed test.NotAccounted = is_close deed
suits deed other = true
