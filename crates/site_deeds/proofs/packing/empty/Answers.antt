use Rattle.std.proofs.Common.{◌≡◌, length, Some, sym, ap, ◌∙◌, refl, subst}
use Rattle.std.specs.List.{position, slice_get}
use Rattle.pack_tree.specs.Many.{MayTake}
use Rattle.pack_tree.specs.Pairs.{inside}
use Rattle.pack_tree.specs.Units.{is_coded}
use Rattle.batch_book.specs.Content.{Content}
use Rattle.site_stores.specs.Holding.{IsWhole, packed_in}
use Rattle.site_deeds.proofs.OfPacking.{empty_does}
use Rattle.site_deeds.proofs.Shared.{got}
use Rattle.site_deeds.proofs.packing.empty.Goals as goal

pub returns-clause-done : goal.returns-clause-done
returns-clause-done c = λ sscc found.
    let back = sym c.in_ok-gone.ensures.content in
    let k = c.args.stores.now.content in
    let kept = got k.units c.args.unit c.requires.there in
    empty_does c.try_empty.new.self _ sscc c.args.unit kept.0 _ c.in_ok-gone.gone (subst IsWhole back c.tell_whole.ensures)
    (subst (λ (x : Content). position (is_coded sscc) x.units ≡ Some c.args.unit) back found) (subst (λ (x : Content). slice_get x.units c.args.unit ≡ Some kept.0) back kept.1)
    (subst (λ (x : Content). MayTake (packed_in x) c.in_ok-gone.gone) back c.in_ok-gone.ensures.may) (c.in_ok-gone.ensures.nodes ∙ ap (λ (x : Content). inside c.args.unit x.links) back) (ap length c.as_slice.ensures) refl refl
