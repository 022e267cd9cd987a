use Rattle.std.proofs.Common.{◌<◌, List, length, sym, ap, ◌∙◌, subst}
use Rattle.std.proofs.lemmas.List.{length-map}
use Rattle.deed_words.specs.Deeds.{unit_named}
use Rattle.pack_tree.specs.declared.link.Pair.{Pair as Link}
use Rattle.pack_tree.specs.declared.node.UnitRow.{UnitRow}
use Rattle.pack_tree.specs.Pairs as tree
use Rattle.pack_tree.specs.Units.{is_coded}
use Rattle.batch_book.specs.Content.{node_name, row_names, unit_codes}
use Rattle.site_stores.proofs.Finding.{within}
use Rattle.site_stores.proofs.Placing.{inside_named, inside_nowhere}
use Rattle.site_rules.proofs.units.count_inside.Goals as goal

pub returns-in_default : goal.returns-in_default
returns-in_default c =
    sym (ap length (inside_nowhere c.args.asked.now.stores.now.content (unit_named c.args.asked.now.deed.now) c.tell_whole.ensures.there (sym (c.requires.asked.unit_is c.requires.unit) ∙ c.in_default.is)))

pub count-requires : goal.count-requires
count-requires c =
    let k = c.args.asked.now.stores.now.content in
    subst (λ (units : List UnitRow). c.in-Some.unit < length units) (sym c.tree.ensures.units) (within (is_coded (unit_named c.args.asked.now.deed.now)) k.units c.in-Some.unit (sym (c.requires.asked.unit_is c.requires.unit) ∙ c.in-Some.is))

pub returns : goal.returns
returns c =
    let k = c.args.asked.now.stores.now.content in
    c.count.ensures ∙ ap (λ (links : List Link). length (tree.inside c.in-Some.unit links)) c.tree.ensures.links ∙ sym (length-map (tree.inside c.in-Some.unit k.links) (node_name (row_names k) (unit_codes k)))
    ∙ sym (ap length (inside_named k (unit_named c.args.asked.now.deed.now) c.in-Some.unit c.tell_whole.ensures.units_apart c.tell_whole.ensures.there (sym (c.requires.asked.unit_is c.requires.unit) ∙ c.in-Some.is)))
