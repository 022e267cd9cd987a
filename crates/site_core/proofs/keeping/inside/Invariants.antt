use Rattle.std.proofs.Common.{◌≡◌, ◌++◌, map, length}
use Rattle.std.specs.List.{AllByRecursion as Every}
use Rattle.pack_tree.specs.Packing.{HasRoom}
use Rattle.batch_book.specs.Content.{node_name, row_names, unit_codes}
use Rattle.site_core.proofs.keeping.inside.Given as goal

-- the names so far, and those of the nodes that are left, which are there
abbrev pub invariant-loop-node : goal.invariant-loop-node
invariant-loop-node l =
    let content = l.stores.content in
    let name = node_name (row_names content) (unit_codes content) in
    record {
      told : l.names ++ map name l.node-iterator ≡ map name l.initial.node-iterator;
      there : Every (HasRoom (length content.rows) (length content.units)) l.node-iterator;
    }
