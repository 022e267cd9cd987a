use Rattle.std.proofs.Common.{◌≡◌, ℕ, length, get_or, ◌∙◌}
use Rattle.std.proofs.lemmas.List.{get_or_default}
use Rattle.pack_tree.specs.declared.node.Node.{Node}
use Rattle.pack_tree.specs.declared.node.Node.TheVariants.{Item as AnItem}
use Rattle.pack_tree.specs.Trees.{packed_of}
use Rattle.pack_tree.specs.Packing.{Packed}
use Rattle.pack_tree.specs.Many.{with_put, IsPut}
use Rattle.pack_tree.proofs.Stepping.{next_ok, next_may, next_all}
use Rattle.pack_tree.proofs.many.put_all.Goals as goal

here : (c : goal.After-put-arg-in-loop-node-1) → IsPut c.args.unit (packed_of c.loop-node.tree) (get_or c.args.nodes.now c.loop-node.node-index (AnItem 0))
here c =
    next_ok (with_put c.args.unit) (IsPut c.args.unit) (packed_of c.loop-node.tree) c.args.nodes.now c.loop-node.node-index (get_or c.args.nodes.now c.loop-node.node-index (AnItem 0)) c.loop-node-test.true
    (get_or_default c.args.nodes.now c.loop-node.node-index (AnItem 0) (get_or c.args.nodes.now c.loop-node.node-index (AnItem 0)) c.loop-node-test.true) c.loop-node.invariant.may

pub put-requires-clause-room : goal.put-requires-clause-room
put-requires-clause-room c = (here c).room

pub put-requires-clause-range : goal.put-requires-clause-range
put-requires-clause-range c = (here c).range

pub put-requires-clause-alone : goal.put-requires-clause-alone
put-requires-clause-alone c = (here c).alone

pub put-requires-clause-last : goal.put-requires-clause-last
put-requires-clause-last c = (here c).last

pub loop-node-preserved : goal.loop-node-preserved
loop-node-preserved c =
    let u : ℕ = c.args.unit in
    let i : ℕ = c.loop-node.node-index in
    let node : Node = get_or c.args.nodes.now i (AnItem 0) in
    let own : node ≡ get_or c.args.nodes.now i node = get_or_default c.args.nodes.now i (AnItem 0) node c.loop-node-test.true in
    let p : Packed = (packed_of c.loop-node.tree) in
    let new : (packed_of c.put.new.self) ≡ with_put u p node = λ z. record { pairs = c.put.ensures.pairs z; last = c.put.ensures.last z; items = c.put.ensures.items z; units = length (c.put.ensures.units z) } in
    record {
      may = next_may (with_put u) (IsPut u) p (packed_of c.put.new.self) c.args.nodes.now i node c.loop-node-test.true own new c.loop-node.invariant.may;
      is = next_all (with_put u) (IsPut u) p (packed_of c.put.new.self) c.args.nodes.now i node c.loop-node-test.true own new ∙ c.loop-node.invariant.is;
      units = c.put.ensures.units ∙ c.loop-node.invariant.units;
      rooms = (c.put.ensures.rooms.0 ∙ c.loop-node.invariant.rooms.0, c.put.ensures.rooms.1 ∙ c.loop-node.invariant.rooms.1);
    }
