use Rattle.std.proofs.Common.{◌≡◌, ◌∙◌, Some, List, map, ap, subst}
use Rattle.std.specs.List.{slice_get}
use Rattle.deed_words.specs.Setups.{Setup}
use Rattle.deed_words.specs.World.{World}
use Rattle.deed_words.specs.declared.world.Batch.{Batch}
use Rattle.batch_book.specs.Content.{content_of}
use Rattle.batch_report.specs.Views.{view_in, view_of}
use Rattle.deed_words.specs.Happenings.{moves}
use Rattle.deed_words.specs.History.{world_of}
use Rattle.batch_book.specs.Content.{world_in}
use Rattle.move_list.specs.Kept.{kept_of}
use Rattle.site_core.specs.View.{View}
use Rattle.site_core.proofs.Making.{if_ok}
use Rattle.site_core.proofs.Owned.{seen_events}
use Rattle.site_core.proofs.site.Site.batch_view.Goals as goal

pub returns : goal.returns
unfolding view_of
returns c =
    let site = c.args.self.now.setup in
    let history = c.args.self.now.history in
    let content = c.self.inside.stores.content in
    let kept = c.self.inside.moves.moves in
    let moved : kept ≡ map kept_of (moves site history) = subst (λ (v : View). kept ≡ map kept_of (moves v.setup v.history)) c.self.view_is c.self.invariant.moved in
    let world : world_in content ≡ world_of site history = subst (λ (v : View). world_in content ≡ world_of v.setup v.history) c.self.view_is c.self.invariant.stands.world in
    let same : content_of c.book.result.now c.items.result.now c.tree.result.now ≡ content =
    λ z. record { batches = c.book.ensures.batches z; rows = c.items.ensures z; units = c.tree.ensures.units z; links = c.tree.ensures.links z; last = c.tree.ensures.last z; said = c.book.ensures.said z } in
    let of_world : world_in (content_of c.book.result.now c.items.result.now c.tree.result.now) ≡ world_of site history = ap world_in same ∙ world in
    let setup : c.self.inside.setup ≡ site = ap (λ (v : View). v.setup) c.self.view_is in
    if_ok c.batch_view.result _ _ (λ view h b e.
    let here : slice_get c.book.result.now.batches c.args.batch ≡ Some b = ap (λ (bs : List Batch). slice_get bs c.args.batch) (c.book.ensures.batches ∙ ap (λ (w : World). w.batches) world) ∙ e in
    let events = c.count.ensures ∙ seen_events site history kept c.args.batch content b moved world c.tell_whole.ensures.batches_apart c.tell_whole.ensures.batches_named c.requires e in
    h b here
    ∙ ap (λ (s : Setup). view_in s (world_in (content_of c.book.result.now c.items.result.now c.tree.result.now)) c.count.result b) setup
    ∙ ap (λ (w : World). view_in site w c.count.result b) of_world
    ∙ ap (λ n. view_in site (world_of site history) n b) events) c.batch_view.ensures
