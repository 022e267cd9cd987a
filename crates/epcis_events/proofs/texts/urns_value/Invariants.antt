use Rattle.std.proofs.Common.{◌≡◌, take}
use Rattle.serde_json.specs.View.{items_view}
use Rattle.epcis_events.specs.Documents.{urns_of}
use Rattle.epcis_events.proofs.texts.urns_value.Given as goal

abbrev pub invariant-loop-one : goal.invariant-loop-one
invariant-loop-one l = items_view l.list.items ≡ urns_of (take l.one-index l.named)
