use Rattle.std.proofs.Common.{length, ◌≡◌, ℕ, ◌-◌, List, ◌∷◌, [], ◌++◌, subst, sym, ap, ◌∙◌, rules}
use Rattle.pack_tree.specs.declared.node.Node.{Node}
use Rattle.pack_tree.specs.Trees.{packed_of}
use Rattle.pack_tree.specs.Packing.{Packed}
use Rattle.pack_tree.specs.Many.{with_put, IsPut, but_last, front, but_all_put, WerePut}
use Rattle.pack_tree.proofs.Stepping.{undone, split_back}
use Rattle.pack_tree.proofs.ManyLaws.{put_law, was_put, one_less}
use Rattle.pack_tree.proofs.many.unput_all.Goals as goal

pub unput-requires : goal.unput-requires
unput-requires c =
    let cut : c.loop-node.left.now ≡ c.in-Some.first.now ++ c.in-Some.node.now ∷ [] = search rules in
    let u : ℕ = c.args.unit in
    let w = undone (with_put u) (IsPut u) but_last (put_law u) (packed_of c.loop-node.tree) c.in-Some.first.now c.in-Some.node.now (subst (λ (ns : List Node). WerePut (packed_of c.loop-node.tree) u ns) cut c.loop-node.invariant.were) in
    record { put = was_put u (packed_of c.loop-node.tree) w.0 c.in-Some.node.now w.2 }

pub loop-node-preserved : goal.loop-node-preserved
loop-node-preserved c =
    let cut : c.loop-node.left.now ≡ c.in-Some.first.now ++ c.in-Some.node.now ∷ [] = search rules in
    let u : ℕ = c.args.unit in
    let p : Packed = (packed_of c.loop-node.tree) in
    let node : Node = c.in-Some.node.now in
    let w = undone (with_put u) (IsPut u) but_last (put_law u) p c.in-Some.first.now node (subst (λ (ns : List Node). WerePut p u ns) cut c.loop-node.invariant.were) in
    let pairs : c.unput.new.self.pairs ≡ front p.pairs = c.unput.ensures.pairs in
    let last : c.unput.new.self.last ≡ p.last - 1 = sym (ap (λ (n : ℕ). n - 1) c.unput.ensures.last ∙ one_less c.unput.new.self.last) in
    let new : (packed_of c.unput.new.self) ≡ but_last p node = λ z. record { pairs = pairs z; last = last z; items = c.unput.ensures.items z; units = length (c.unput.ensures.units z) } in
    record {
      were = subst (λ (q : Packed). WerePut q u c.in-Some.first.now) (sym new) w.3;
      is = ap (λ (q : Packed). but_all_put q c.in-Some.first.now) new ∙ sym (split_back (with_put u) (IsPut u) but_last (put_law u) p c.in-Some.first.now node) ∙ ap (λ (ns : List Node). but_all_put p ns) (sym cut) ∙ c.loop-node.invariant.is;
      units = c.unput.ensures.units ∙ c.loop-node.invariant.units;
      rooms = (c.unput.ensures.rooms.0 ∙ c.loop-node.invariant.rooms.0, c.unput.ensures.rooms.1 ∙ c.loop-node.invariant.rooms.1);
    }
