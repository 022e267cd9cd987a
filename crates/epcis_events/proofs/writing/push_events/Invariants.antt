use Rattle.std.proofs.Common.{◌≡◌, ◌++◌, drop, false, nat_lt}
use Rattle.serde_json.specs.Written.{items_text}
use Rattle.epcis_events.specs.Documents.{events_data}
use Rattle.epcis_events.proofs.writing.push_events.Given as goal

abbrev pub invariant-loop-i : goal.invariant-loop-i
invariant-loop-i l = l.initial.out.items ++ items_text false (events_data l.events) ≡ l.out.items ++ items_text (nat_lt 0 l.i) (events_data (drop l.i l.events))
