use Rattle.std.proofs.Common.{◌≡◌, ◌<◌, ◌∙◌, ℕ, Some, Option, map, length, get_or, sym, ap, subst, arith}
use Rattle.std.specs.Prelude.{IfSome}
use Rattle.deed_words.specs.Happenings.{moves}
use Rattle.deed_words.specs.History.{world_of}
use Rattle.batch_book.specs.Content.{world_in}
use Rattle.move_list.specs.Kept.{kept_of}
use Rattle.site_core.specs.View.{View}
use Rattle.site_core.specs.Seen.{moves_seen}
use Rattle.site_core.proofs.Making.{if_ok}
use Rattle.site_core.proofs.Owned.{seen_many, seen_move}
use Rattle.site_core.proofs.site.Site.move_of.Goals as goal

pub place-requires : goal.place-requires
place-requires c =
    let site = c.args.self.now.setup in
    let history = c.args.self.now.history in
    let content = c.self.inside.stores.content in
    let kept = c.self.inside.moves.moves in
    let moved : kept ≡ map kept_of (moves site history) = subst (λ (v : View). kept ≡ map kept_of (moves v.setup v.history)) c.self.view_is c.self.invariant.moved in
    let world : world_in content ≡ world_of site history = subst (λ (v : View). world_in content ≡ world_of v.setup v.history) c.self.view_is c.self.invariant.stands.world in
    let within = subst (λ (o : Option ℕ). IfSome o (λ number. number < length (world_of site history).batches)) c.in-Some.is c.requires.batch in
    let many = seen_many site history kept c.in-Some.batch content moved world c.tell_whole.ensures.batches_apart c.tell_whole.ensures.batches_named within in
    let at : c.args.at < length (moves_seen site history (Some c.in-Some.batch)) = subst (λ (o : Option ℕ). c.args.at < length (moves_seen site history o)) c.in-Some.is c.requires.at in
    omega (arith, many, at)

pub move_at-requires-in-None : goal.move_at-requires-in-None
unfolding moves_seen
move_at-requires-in-None c = subst (λ (o : Option ℕ). c.args.at < length (moves_seen c.args.self.now.setup c.args.self.now.history o)) c.in-None.is c.requires.at

pub returns-in-Some : goal.returns-in-Some
returns-in-Some c =
    let site = c.args.self.now.setup in
    let history = c.args.self.now.history in
    let content = c.self.inside.stores.content in
    let kept = c.self.inside.moves.moves in
    let moved : kept ≡ map kept_of (moves site history) = subst (λ (v : View). kept ≡ map kept_of (moves v.setup v.history)) c.self.view_is c.self.invariant.moved in
    let world : world_in content ≡ world_of site history = subst (λ (v : View). world_in content ≡ world_of v.setup v.history) c.self.view_is c.self.invariant.stands.world in
    let within = subst (λ (o : Option ℕ). IfSome o (λ number. number < length (world_of site history).batches)) c.in-Some.is c.requires.batch in
    let apart = c.tell_whole.ensures.batches_apart in
    let named = c.tell_whole.ensures.batches_named in
    let many = seen_many site history kept c.in-Some.batch content moved world apart named within in
    let at : c.args.at < length (moves_seen site history (Some c.in-Some.batch)) = subst (λ (o : Option ℕ). c.args.at < length (moves_seen site history o)) c.in-Some.is c.requires.at in
    if_ok c.move_at.result _ _ (λ found is. is ∙ sym (seen_move site history kept c.in-Some.batch c.args.at c.place.result found content moved world apart named within (omega (arith, many, at)) c.place.ensures.is)
    ∙ ap (λ (o : Option ℕ). get_or (moves_seen site history o) c.args.at found) (sym c.in-Some.is)) c.move_at.ensures

pub returns-in-None : goal.returns-in-None
unfolding moves_seen
returns-in-None c =
    if_ok c.move_at-in-None.result _ _ (λ found is. is ∙ ap (λ (o : Option ℕ). get_or (moves_seen c.args.self.now.setup c.args.self.now.history o) c.args.at found) (sym c.in-None.is)) c.move_at-in-None.ensures
