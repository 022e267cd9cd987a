use Rattle.std.proofs.Common.{◌≡◌, ◌∙◌, map, length, sym, ap, subst, arith}
use Rattle.std.specs.List.{slice_get}
use Rattle.deed_words.specs.World.{World}
use Rattle.deed_words.specs.Happenings.{moves}
use Rattle.deed_words.specs.History.{world_of}
use Rattle.batch_book.specs.Content.{world_in}
use Rattle.move_list.specs.Kept.{kept_of}
use Rattle.site_core.specs.View.{View}
use Rattle.site_core.proofs.Making.{if_ok}
use Rattle.site_core.proofs.Owned.{kept_move, kept_place, kept_batch, again_is}
use Rattle.site_core.proofs.site.Site.move_at.Goals as goal

pub entry_at-requires : goal.entry_at-requires
entry_at-requires c =
    let site = c.args.self.now.setup in
    let history = c.args.self.now.history in
    let content = c.self.inside.stores.content in
    let kept = c.self.inside.moves.moves in
    let moved : kept ≡ map kept_of (moves site history) = subst (λ (v : View). kept ≡ map kept_of (moves v.setup v.history)) c.self.view_is c.self.invariant.moved in
    let world : world_in content ≡ world_of site history = subst (λ (v : View). world_in content ≡ world_of v.setup v.history) c.self.view_is c.self.invariant.stands.world in
    let k = kept_move site history kept c.args.at c.get-moved.result.now moved c.requires c.get-moved.ensures in
    kept_place site history c.args.at c.get-moved.result.now k

pub batch_at-row-requires : goal.batch_at-row-requires
batch_at-row-requires c =
    let site = c.args.self.now.setup in
    let history = c.args.self.now.history in
    let content = c.self.inside.stores.content in
    let kept = c.self.inside.moves.moves in
    let moved : kept ≡ map kept_of (moves site history) = subst (λ (v : View). kept ≡ map kept_of (moves v.setup v.history)) c.self.view_is c.self.invariant.moved in
    let world : world_in content ≡ world_of site history = subst (λ (v : View). world_in content ≡ world_of v.setup v.history) c.self.view_is c.self.invariant.stands.world in
    let k = kept_move site history kept c.args.at c.get-moved.result.now moved c.requires c.get-moved.ensures in
    let there = kept_batch site history c.args.at c.get-moved.result.now k in
    let long = ap (λ (w : World). length w.batches) world in
    omega (arith, there, long)

pub returns : goal.returns
returns c =
    let site = c.args.self.now.setup in
    let history = c.args.self.now.history in
    let content = c.self.inside.stores.content in
    let kept = c.self.inside.moves.moves in
    let moved : kept ≡ map kept_of (moves site history) = subst (λ (v : View). kept ≡ map kept_of (moves v.setup v.history)) c.self.view_is c.self.invariant.moved in
    let world : world_in content ≡ world_of site history = subst (λ (v : View). world_in content ≡ world_of v.setup v.history) c.self.view_is c.self.invariant.stands.world in
    let k = kept_move site history kept c.args.at c.get-moved.result.now moved c.requires c.get-moved.ensures in
    let here = ap (λ (w : World). slice_get w.batches c.get-moved.result.now.batch) (sym world) ∙ c.batch_at-row.ensures in
    if_ok c.move_again.result _ _ (λ found is. again_is site history c.args.at c.get-moved.result.now c.in_ok-entry.entry c.batch_at-row.result found k c.in_ok-entry.ensures here is) c.move_again.ensures
