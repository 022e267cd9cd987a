-- What an item and a unit are answered with.
use Rattle.std.specs.Prelude.{true, Option, Some, None, codes}
use Rattle.serde_json.specs.Data.{Data, boolean, null, string, object, no_members, member}
use Rattle.serde_json.specs.Written.{compact_text}
use Rattle.deed_words.specs.Names.{Text}
use Rattle.deed_words.specs.declared.words.Level.{Level}
use Rattle.deed_words.specs.declared.words.Level.TheVariants as level
use Rattle.deed_words.specs.declared.words.Mark.{Mark}
use Rattle.deed_words.specs.declared.words.Mark.TheVariants as mark
use Rattle.deed_words.specs.declared.words.State.{State}
use Rattle.deed_words.specs.declared.words.State.TheVariants as state
use Rattle.deed_json.specs.Objects.{whole}
use Rattle.site_core.specs.declared.views.ItemView.{ItemView}
use Rattle.site_core.specs.declared.views.UnitView.{UnitView}
use Rattle.site_answers.specs.Saying.{Answer, fixed, in_json}
use Rattle.site_answers.specs.declared.fault_name.FaultName.TheVariants.{UnknownItem, UnknownUnit}

-- ---- words

unfoldable pub state_word : State → Text
state_word state.Fresh = codes "fresh"
state_word state.Lent = codes "lent"
state_word state.Returned = codes "returned"
state_word state.Spoiled = codes "spoiled"
state_word state.Active = codes "active"
state_word state.Sampled = codes "sampled"
state_word state.Rejected = codes "rejected"
state_word state.Gone = codes "gone"

unfoldable pub mark_word : Mark → Text
mark_word mark.Filling = codes "filling"
mark_word mark.Sealed = codes "sealed"
mark_word mark.Void = codes "void"

unfoldable pub level_word : Level → Text
level_word level.Case = codes "case"
level_word level.Pallet = codes "pallet"

-- a text, or null where there is none
abbrev pub or_null : Option Text → Data
or_null None = null
or_null (Some text) = string text

-- ---- items and units

unfoldable pub item_data : ItemView → Data
item_data view =
    object (member (codes "batch") (string view.batch)
    (member (codes "line") (or_null view.line)
    (member (codes "ok") (boolean true)
    (member (codes "parent") (or_null view.parent)
    (member (codes "state") (string (state_word view.state)) no_members)))))

unfoldable pub unit_data : UnitView → Data
unit_data view =
    object (member (codes "batch") (string view.batch)
    (member (codes "children") (whole view.children)
    (member (codes "level") (string (level_word view.level))
    (member (codes "mark") (string (mark_word view.mark))
    (member (codes "ok") (boolean true)
    (member (codes "parent") (or_null view.parent) no_members))))))

abbrev pub item_answer : Option ItemView → Answer
item_answer None = fixed UnknownItem
item_answer (Some view) = in_json 200 (compact_text (item_data view))

abbrev pub unit_answer : Option UnitView → Answer
unit_answer None = fixed UnknownUnit
unit_answer (Some view) = in_json 200 (compact_text (unit_data view))
