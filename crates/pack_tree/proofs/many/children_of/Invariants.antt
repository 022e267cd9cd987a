use Rattle.std.proofs.Common.{◌≡◌, ◌++◌}
use Rattle.pack_tree.specs.Pairs.{inside}
use Rattle.pack_tree.proofs.many.children_of.Given as goal

abbrev pub invariant-loop-node : goal.invariant-loop-node
invariant-loop-node l = record { all : l.nodes.items ++ l.node-iterator ≡ inside l.fn.unit l.tree.pairs }
