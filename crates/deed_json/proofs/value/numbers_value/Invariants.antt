use Rattle.std.proofs.Common.{◌≡◌, take}
use Rattle.serde_json.specs.View.{items_view}
use Rattle.deed_json.specs.Objects.{numbers_of}
use Rattle.deed_json.proofs.value.numbers_value.Given as goal

abbrev pub invariant-loop-number : goal.invariant-loop-number
invariant-loop-number l = items_view l.list.items ≡ numbers_of (take l.number-index l.numbers)
