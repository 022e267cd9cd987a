use Rattle.std.proofs.Common.{sym, ◌∙◌, subst}
use Rattle.pack_tree.specs.Many.{CanTake}
use Rattle.pack_tree.proofs.Emptied.{can_empty}
use Rattle.pack_tree.proofs.many.try_empty.Goals as goal

pub try_all-requires : goal.try_all-requires
try_all-requires c = record {
  can = subst (CanTake c.args.tree.now.pairs) (sym (c.as_slice.ensures.value ∙ c.in_ok-nodes.ensures)) (can_empty c.args.tree.now.pairs c.args.unit c.tell_once.ensures);
}
