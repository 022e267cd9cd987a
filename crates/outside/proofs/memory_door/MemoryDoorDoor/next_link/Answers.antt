use Rattle.std.proofs.Common.{◌≡◌, ◌++◌, ◌∷◌, Some, drop, map, ap, sym, ◌∙◌}
use Rattle.std.specs.Vec.Iter.{into_iter_items}
use Rattle.std.specs.Option.{option_to_list}
use Rattle.outside.specs.Doors.{wire}
use Rattle.outside.proofs.Nexts.{next_is, same_state, one_told}
use Rattle.outside.proofs.memory_door.MemoryDoorDoor.next_link.Goals as goal

pub invariant_of-self-2-clause-rest : goal.invariant_of-self-2-clause-rest
invariant_of-self-2-clause-rest g c =
    let old = c.args.self.now in
    let rest = into_iter_items c.next.new.self in
    let link = c.unwrap-link.result in
    let e : drop old.given old.first.value.items ≡ link ∷ rest = sym old.rest ∙ c.next.ensures.items ∙ ap (λ o. option_to_list o ++ rest) c.unwrap-link.ensures in
    (next_is g.row.L.Denot old.first.value.items old.given link rest e).left

pub returns-clause-given : goal.returns-clause-given
returns-clause-given g c =
    let old = c.args.self.now in
    let rest = into_iter_items c.next.new.self in
    let link = c.unwrap-link.result in
    let e : drop old.given old.first.value.items ≡ link ∷ rest = sym old.rest ∙ c.next.ensures.items ∙ ap (λ o. option_to_list o ++ rest) c.unwrap-link.ensures in
    let n = next_is g.row.L.Denot old.first.value.items old.given link rest e in
    let told = λ (l : g.row.L.Denot). wire (g.L.Source.left l) (g.L.Sink.held l) (g.L.Source.read_faults l) (g.L.Sink.write_faults l) in
    same_state _ _ _ _ _ _ _ _ _ _ c.reserve.ensures.len (one_told g.row.L.Denot told old.first.value.items old.given link rest n) (ap (λ xs. Some (map told xs)) c.reserve.ensures.items) c.if-next_fails.ensures.cause

pub returns-clause-unused : goal.returns-clause-unused
returns-clause-unused g c =
    let old = c.args.self.now in
    let rest = into_iter_items c.next.new.self in
    let link = c.unwrap-link.result in
    let e : drop old.given old.first.value.items ≡ link ∷ rest = sym old.rest ∙ c.next.ensures.items ∙ ap (λ o. option_to_list o ++ rest) c.unwrap-link.ensures in
    let n = next_is g.row.L.Denot old.first.value.items old.given link rest e in
    λ put told. old.unused old.given link n.there put (ap g.L.Sink.held n.is ∙ told)
