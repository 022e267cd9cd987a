use Rattle.std.proofs.Common.{◌≡◌, ◌++◌, List, map, length, append-nil, sym, ap, ◌∙◌, subst}
use Rattle.std.specs.List.{AllByRecursion as Every}
use Rattle.epc_urn.specs.declared.epc.Epc.{Epc}
use Rattle.pack_tree.specs.declared.node.Node.{Node}
use Rattle.pack_tree.specs.declared.link.Pair.{Pair as Link}
use Rattle.pack_tree.specs.Packing.{HasRoom}
use Rattle.pack_tree.specs.Pairs as tree
use Rattle.batch_book.specs.Content.{node_name, row_names, unit_codes}
use Rattle.site_stores.proofs.Placing.{inside_named, inside_nowhere}
use Rattle.site_core.proofs.Making.{children_there}
use Rattle.site_core.proofs.keeping.inside.Goals as goal

pub returns-in_default : goal.returns-in_default
returns-in_default c sscc place = c.new-names.ensures ∙ sym (inside_nowhere c.args.stores.now.content sscc c.tell_whole.ensures.there (sym place ∙ c.in_default.is))

pub loop-node-init : goal.loop-node-init
loop-node-init c =
    let content = c.args.stores.now.content in
    let name = node_name (row_names content) (unit_codes content) in
    let nodes : c.into_iter-node-iterator.result ≡ tree.inside c.in-Some.unit content.links =
    c.into_iter-node-iterator.ensures.into_iter_gives ∙ c.children-node-items.ensures ∙ ap (λ (links : List Link). tree.inside c.in-Some.unit links) c.tree.ensures.links in
    record {
      told = ap (λ (names : List Epc). names ++ map name c.into_iter-node-iterator.result) c.new-names.ensures;
      there = subst (λ (ns : List Node). Every (HasRoom (length content.rows) (length content.units)) ns) (sym nodes) (children_there (length content.rows) (length content.units) c.in-Some.unit content.links c.tell_whole.ensures.there);
    }

pub returns : goal.returns
returns c sscc place =
    let content = c.args.stores.now.content in
    let name = node_name (row_names content) (unit_codes content) in
    let nodes : c.into_iter-node-iterator.result ≡ tree.inside c.in-Some.unit content.links =
    c.into_iter-node-iterator.ensures.into_iter_gives ∙ c.children-node-items.ensures ∙ ap (λ (links : List Link). tree.inside c.in-Some.unit links) c.tree.ensures.links in
    sym (append-nil c.loop-node.names) ∙ ap (λ (ns : List Node). c.loop-node.names ++ map name ns) (sym c.in-None.ensures.steps.0) ∙ c.loop-node.invariant.told ∙ ap (λ (ns : List Node). map name ns) nodes
    ∙ sym (inside_named content sscc c.in-Some.unit c.tell_whole.ensures.units_apart c.tell_whole.ensures.there (sym place ∙ c.in-Some.is))
