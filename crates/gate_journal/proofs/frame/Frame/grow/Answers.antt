use Rattle.std.proofs.Common.{◌≡◌, ◌∙◌, ◌+◌, ◌-◌, ◌++◌, ◌∷◌, [], List, ℕ, length, drop, ap, arith, vec_len}
use Rattle.std.specs.Int.{to_be_bytes, w32}
use Rattle.gate_journal.specs.Grammar.{block}
use Rattle.gate_journal.proofs.Blocks.{without_gate, grown, grown_short, frame_is, view_of, length-framed}
use Rattle.gate_journal.proofs.frame.Frame.grow.Goals as goal

pub push_reserved-requires : goal.push_reserved-requires
push_reserved-requires c =
    let framed : c.self.inside.bytes.items ≡ block c.args.self.now ++ 0 ∷ [] = c.self.invariant.1 ∙ ap (λ (l : List ℕ). block l ++ 0 ∷ []) c.self.view_is in
    let long = length-framed c.args.self.now c.self.inside.bytes.items framed in
    grind (arith, long, c.self.inside.bytes.ok, c.put_last.ensures.len, c.put_last.ensures.capacity, c.pop-gate.ensures.capacity, c.pop-gate.ensures.rest, c.pop-gate.ensures.cases, c.reserve.ensures.len, c.in-Ok.ensures.ok)

items_are : (c : goal.After-put_front) → c.put_front.new.bytes.items ≡ to_be_bytes w32 (length (c.args.first ∷ drop 1 c.args.self.now ++ c.args.more.now)) ++ (c.args.first ∷ drop 1 c.args.self.now ++ c.args.more.now) ++ 0 ∷ []
items_are c =
    let payload = c.args.self.now in
    let more = c.args.more.now in
    let framed : c.self.inside.bytes.items ≡ block c.args.self.now ++ 0 ∷ [] = c.self.invariant.1 ∙ ap (λ (l : List ℕ). block l ++ 0 ∷ []) c.self.view_is in
    let long = length-framed payload c.self.inside.bytes.items framed in
    let whole : vec_len c.reserve.new.self - 1 ≡ length c.reserve.new.self.items - 1 = grind (arith, c.reserve.new.self.ok) in
    let len : c.len.result - 5 + length more ≡ length payload + length more = grind (arith, long, c.len.ensures, c.self.inside.bytes.ok) in
    let popped = without_gate payload c.reserve.new.self.items (vec_len c.reserve.new.self - 1) (c.reserve.ensures.items ∙ framed) whole in
    grown payload more c.pop-gate.new.self.items c.put_last.new.bytes.items c.push_reserved.new.self.items c.put_front.new.bytes.items (c.len.result - 5 + length more) c.args.first c.requires.some (c.pop-gate.ensures.rest ∙ popped) c.put_last.ensures.items c.push_reserved.ensures.items c.put_front.ensures len

pub invariant_of-self-2 : goal.invariant_of-self-2
invariant_of-self-2 c =
    frame_is (c.args.first ∷ drop 1 c.args.self.now ++ c.args.more.now) c.put_front.new.bytes.items (grown_short c.args.self.now c.args.more.now c.args.first c.requires.some c.requires.few) (items_are c)

pub returns-clause-ok : goal.returns-clause-ok
returns-clause-ok c = view_of (c.args.first ∷ drop 1 c.args.self.now ++ c.args.more.now) c.put_front.new.bytes.items (items_are c)
