-- What is told of an item or a unit has no float.
use Rattle.std.proofs.Common.{◌≡◌, false, refl, Option, Some, None}
use Rattle.serde_json.specs.Written.{has_float}
use Rattle.deed_words.specs.Names.{Text}
use Rattle.site_core.specs.declared.views.ItemView.{ItemView}
use Rattle.site_core.specs.declared.views.UnitView.{UnitView}
use Rattle.site_answers.specs.Things.{item_data, or_null, unit_data}

null_has_no_float : (o : Option Text) → has_float (or_null o) ≡ false
null_has_no_float None = refl
null_has_no_float (Some text) = refl

pub item_has_no_float : (item : ItemView) → has_float (item_data item) ≡ false
unfolding item_data
item_has_no_float item = rw (null_has_no_float item.line, null_has_no_float item.parent) refl

pub unit_has_no_float : (unit : UnitView) → has_float (unit_data unit) ≡ false
unfolding unit_data
unit_has_no_float unit = rw (null_has_no_float unit.parent) refl
