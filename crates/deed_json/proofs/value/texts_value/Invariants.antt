use Rattle.std.proofs.Common.{◌≡◌, take}
use Rattle.serde_json.specs.View.{items_view}
use Rattle.deed_json.specs.Objects.{texts_of}
use Rattle.deed_json.proofs.value.texts_value.Given as goal

abbrev pub invariant-loop-text : goal.invariant-loop-text
invariant-loop-text l = items_view l.list.items ≡ texts_of (take l.text-index l.texts)
