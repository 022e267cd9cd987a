use Rattle.std.proofs.Common.{◌≡◌, ℕ, length, get_or, None, ◌∙◌}
use Rattle.std.proofs.lemmas.List.{get_or_default}
use Rattle.pack_tree.specs.declared.node.Node.TheVariants.{Item as AnItem}
use Rattle.pack_tree.specs.declared.link.Taken.{Taken}
use Rattle.pack_tree.specs.Trees.{packed_of}
use Rattle.pack_tree.specs.Packing.{Packed}
use Rattle.pack_tree.specs.Many.{without_one, IsThere}
use Rattle.pack_tree.proofs.Stepping.{next_ok, next_may, next_all}
use Rattle.pack_tree.proofs.many.take_all.Goals as goal

first_taken : Taken
first_taken = record { child = AnItem 0; parent = 0; previous = None; next = None; number = 0 }

pub take-taken-requires : goal.take-taken-requires
unfolding first_taken
take-taken-requires c =
    let i : ℕ = c.loop-taken.taken-index in
    let taken : Taken = get_or c.args.gone.now i first_taken in
    let own : taken ≡ get_or c.args.gone.now i taken = get_or_default c.args.gone.now i first_taken taken c.loop-taken-test.true in
    record { inside = (next_ok without_one IsThere (packed_of c.loop-taken.tree) c.args.gone.now i taken c.loop-taken-test.true own c.loop-taken.invariant.may).inside }

pub loop-taken-preserved : goal.loop-taken-preserved
unfolding first_taken
loop-taken-preserved c =
    let i : ℕ = c.loop-taken.taken-index in
    let taken : Taken = get_or c.args.gone.now i first_taken in
    let own : taken ≡ get_or c.args.gone.now i taken = get_or_default c.args.gone.now i first_taken taken c.loop-taken-test.true in
    let p : Packed = (packed_of c.loop-taken.tree) in
    let new : (packed_of c.take-taken.new.self) ≡ without_one p taken = λ z. record { pairs = c.take-taken.ensures.pairs z; last = c.take-taken.ensures.last z; items = c.take-taken.ensures.items z; units = length (c.take-taken.ensures.units z) } in
    record {
      may = next_may without_one IsThere p (packed_of c.take-taken.new.self) c.args.gone.now i taken c.loop-taken-test.true own new c.loop-taken.invariant.may;
      is = next_all without_one IsThere p (packed_of c.take-taken.new.self) c.args.gone.now i taken c.loop-taken-test.true own new ∙ c.loop-taken.invariant.is;
      units = c.take-taken.ensures.units ∙ c.loop-taken.invariant.units;
      rooms = (c.take-taken.ensures.rooms.0 ∙ c.loop-taken.invariant.rooms.0, c.take-taken.ensures.rooms.1 ∙ c.loop-taken.invariant.rooms.1);
    }
