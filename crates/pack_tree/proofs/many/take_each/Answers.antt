use Rattle.std.proofs.Common.{◌≡◌, ℕ, List, [], ◌∷◌, ◌++◌, length, map, get_or, refl, sym, ap, subst, ◌∙◌}
use Rattle.std.proofs.lemmas.List.{get_or_default}
use Rattle.pack_tree.specs.declared.node.Node.{Node}
use Rattle.pack_tree.specs.declared.node.Node.TheVariants.{Item as AnItem}
use Rattle.pack_tree.specs.declared.link.Taken.{Taken}
use Rattle.pack_tree.specs.Trees.{packed_of}
use Rattle.pack_tree.specs.Packing.{Packed}
use Rattle.pack_tree.specs.Pairs.{without}
use Rattle.pack_tree.specs.Many.{without_one, without_all, MayTake, IsThere}
use Rattle.pack_tree.proofs.Stepping.{no_steps, may_push, split_all}
use Rattle.pack_tree.proofs.ManyLaws.{one_there, first_can, head_can, next_can, next_names}
use Rattle.pack_tree.proofs.many.take_each.Goals as goal

pub loop-node-init : goal.loop-node-init
loop-node-init c =
    let none = c.requires.none in
    record {
      may = subst (λ (ts : List Taken). MayTake (packed_of c.args.tree.now) ts) (sym none) (no_steps without_one IsThere (packed_of c.args.tree.now));
      is = sym (ap (λ (ts : List Taken). without_all (packed_of c.args.tree.now) ts) none);
      can = c.requires.can;
      names = ap (λ (ts : List Taken). map (λ (t : Taken). t.child) ts) none;
      room = refl;
      units = refl;
      rooms = (refl, refl);
    }

pub take-taken-requires : goal.take-taken-requires
take-taken-requires c =
    let i : ℕ = c.loop-node.node-index in
    let node : Node = get_or c.args.nodes.now i (AnItem 0) in
    let own : node ≡ get_or c.args.nodes.now i node = get_or_default c.args.nodes.now i (AnItem 0) node c.loop-node-test.true in
    record { inside = (first_can (packed_of c.loop-node.tree).pairs node _ (head_can (packed_of c.loop-node.tree).pairs c.args.nodes.now i node c.loop-node-test.true own c.loop-node.invariant.can)).0 }

pub loop-node-preserved : goal.loop-node-preserved
loop-node-preserved c =
    let i : ℕ = c.loop-node.node-index in
    let node : Node = get_or c.args.nodes.now i (AnItem 0) in
    let own : node ≡ get_or c.args.nodes.now i node = get_or_default c.args.nodes.now i (AnItem 0) node c.loop-node-test.true in
    let p : Packed = (packed_of c.loop-node.tree) in
    let first : Packed = (packed_of c.args.tree.now) in
    let taken : Taken = c.take-taken.result in
    let t : Taken = record { child = taken.child; parent = taken.parent; previous = c.previous-previous.result; next = c.next-next.result; number = taken.number } in
    let told : t ≡ taken = λ z. record { child = taken.child; parent = taken.parent; previous = c.previous-previous.ensures z; next = c.next-next.ensures z; number = taken.number } in
    let new : (packed_of c.take-taken.new.self) ≡ record p { pairs = without node p.pairs } = λ z. record { pairs = c.take-taken.ensures.pairs z; last = c.take-taken.ensures.last z; items = c.take-taken.ensures.items z; units = length (c.take-taken.ensures.units z) } in
    let inside = (first_can p.pairs node _ (head_can p.pairs c.args.nodes.now i node c.loop-node-test.true own c.loop-node.invariant.can)).0 in
    let there : IsThere p taken = one_there p (packed_of c.take-taken.new.self) node taken c.take-taken.ensures.child inside c.take-taken.ensures.was new c.take-taken.ensures.gone in
    let gone : List Taken = c.loop-node.gone.items in
    let more : c.push_reserved.new.self.items ≡ gone ++ taken ∷ [] = c.push_reserved.ensures.items ∙ ap (λ (x : Taken). gone ++ x ∷ []) told in
    let is : p ≡ without_all first gone = c.loop-node.invariant.is in
    record {
      may = subst (λ (ts : List Taken). MayTake first ts) (sym more) (may_push without_one IsThere first gone taken c.loop-node.invariant.may (subst (λ (q : Packed). IsThere q taken) is there));
      is = new ∙ (λ z. record p { pairs = without (sym c.take-taken.ensures.child z) p.pairs }) ∙ ap (λ (q : Packed). without_one q taken) is ∙ sym (split_all without_one IsThere first gone taken) ∙ ap (λ (ts : List Taken). without_all first ts) (sym more);
      can = next_can p.pairs c.take-taken.new.self.pairs c.args.nodes.now i node c.loop-node-test.true own c.take-taken.ensures.pairs c.loop-node.invariant.can;
      names = ap (λ (ts : List Taken). map (λ (x : Taken). x.child) ts) more ∙ next_names gone taken c.args.nodes.now i node c.loop-node-test.true own c.take-taken.ensures.child c.loop-node.invariant.names;
      room = c.push_reserved.ensures.capacity ∙ c.loop-node.invariant.room;
      units = c.take-taken.ensures.units ∙ c.loop-node.invariant.units;
      rooms = (c.take-taken.ensures.rooms.0 ∙ c.loop-node.invariant.rooms.0, c.take-taken.ensures.rooms.1 ∙ c.loop-node.invariant.rooms.1);
    }
