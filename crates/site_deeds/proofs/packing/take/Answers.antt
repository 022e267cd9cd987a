use Rattle.std.proofs.Common.{List, sym, ◌∙◌, subst}
use Rattle.pack_tree.specs.declared.node.Node.{Node}
use Rattle.pack_tree.specs.Many.{CanTake, MayTake}
use Rattle.batch_book.specs.Content.{Content}
use Rattle.site_stores.specs.Holding.{IsWhole, packed_in}
use Rattle.site_stores.specs.Places.{AreAt}
use Rattle.site_stores.proofs.Packs.{can_unpack}
use Rattle.site_deeds.proofs.OfPacking.{take_does}
use Rattle.site_deeds.proofs.packing.take.Goals as goal

pub try_all-requires : goal.try_all-requires
try_all-requires c =
    let k = c.args.stores.now.content in
    record { can = subst (λ (ns : List Node). CanTake k.links ns) (sym c.as_slice.ensures) (can_unpack k c.args.children.now c.in_ok-nodes.nodes c.tell_whole.ensures c.requires.once (sym (c.in_ok-nodes.ensures ∙ c.requires.places)) c.requires.inside) }

pub returns-clause-done : goal.returns-clause-done
returns-clause-done c =
    let back = sym c.in_ok-gone.ensures.content in
    take_does c.try_all.new.self c.plain.result c.args.children.now c.in_ok-nodes.nodes c.in_ok-gone.gone (subst IsWhole back c.tell_whole.ensures)
    (subst (λ (k : Content). AreAt k c.args.children.now c.in_ok-nodes.nodes) back (sym (c.in_ok-nodes.ensures ∙ c.requires.places)))
    (subst (λ (k : Content). MayTake (packed_in k) c.in_ok-gone.gone) back c.in_ok-gone.ensures.may) (c.in_ok-gone.ensures.nodes ∙ c.as_slice.ensures) c.plain.ensures.answer c.plain.ensures.change
