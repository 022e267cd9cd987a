use Rattle.std.proofs.Common.{◌≡◌, ◌<◌, ◌∙◌, ℕ, Option, map, length, sym, ap, subst}
use Rattle.std.specs.Prelude.{IfSome}
use Rattle.deed_words.specs.Happenings.{moves}
use Rattle.deed_words.specs.History.{world_of}
use Rattle.batch_book.specs.Content.{world_in}
use Rattle.move_list.specs.Kept.{kept_of}
use Rattle.site_core.specs.View.{View}
use Rattle.site_core.specs.Seen.{moves_seen}
use Rattle.site_core.proofs.Owned.{seen_all, seen_many}
use Rattle.site_core.proofs.site.Site.count_moves.Goals as goal

pub returns-in-Some : goal.returns-in-Some
returns-in-Some c =
    let site = c.args.self.now.setup in
    let history = c.args.self.now.history in
    let content = c.self.inside.stores.content in
    let kept = c.self.inside.moves.moves in
    let moved : kept ≡ map kept_of (moves site history) = subst (λ (v : View). kept ≡ map kept_of (moves v.setup v.history)) c.self.view_is c.self.invariant.moved in
    let world : world_in content ≡ world_of site history = subst (λ (v : View). world_in content ≡ world_of v.setup v.history) c.self.view_is c.self.invariant.stands.world in
    let within = subst (λ (o : Option ℕ). IfSome o (λ number. number < length (world_of site history).batches)) c.in-Some.is c.requires in
    c.count.ensures ∙ seen_many site history kept c.in-Some.batch content moved world c.tell_whole.ensures.batches_apart c.tell_whole.ensures.batches_named within ∙ ap (λ (o : Option ℕ). length (moves_seen site history o)) (sym c.in-Some.is)

pub returns-in-None : goal.returns-in-None
returns-in-None c =
    let site = c.args.self.now.setup in
    let history = c.args.self.now.history in
    let content = c.self.inside.stores.content in
    let kept = c.self.inside.moves.moves in
    let moved : kept ≡ map kept_of (moves site history) = subst (λ (v : View). kept ≡ map kept_of (moves v.setup v.history)) c.self.view_is c.self.invariant.moved in
    let world : world_in content ≡ world_of site history = subst (λ (v : View). world_in content ≡ world_of v.setup v.history) c.self.view_is c.self.invariant.stands.world in
    c.len.ensures ∙ seen_all site history kept moved ∙ ap (λ (o : Option ℕ). length (moves_seen site history o)) (sym c.in-None.is)
