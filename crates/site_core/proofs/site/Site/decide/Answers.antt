use Rattle.std.proofs.Common.{◌≡◌, ◌-◌, refl, subst}
use Rattle.std.specs.Prelude.{vec_len, vec_capacity}
use Rattle.batch_book.specs.Content.{world_in}
use Rattle.deed_words.specs.History.{world_of}
use Rattle.site_deeds.specs.Decisions.{Decides}
use Rattle.site_core.specs.Rooms.{IsRoomier}
use Rattle.site_core.specs.View.{View, Room}
use Rattle.site_core.proofs.Roomy.{both_fit, roomier_by}
use Rattle.site_core.proofs.Standing.{stands_still}
use Rattle.site_core.proofs.site.Site.decide.Goals as goal

pub invariant_of-self : goal.invariant_of-self
invariant_of-self g c = record {
  stands = stands_still c.self.inside.setup _ c.self.inside.memo.told _ _ c.self.inside.pool _ c.self.invariant.stands c.decide.ensures.content c.decide.ensures.drawn c.decide.ensures.still;
  moved = c.self.invariant.moved;
  few = c.self.invariant.few;
}

pub returns-clause-decides : goal.returns-clause-decides
returns-clause-decides g c =
    let e = c.decide.ensures.decides in
    (e.0, e.1, subst (λ (v : View). Decides v.setup v.content c.args.station c.args.deed.now e.0 c.decide.result) c.self.view_is e.2)

pub returns-clause-world : goal.returns-clause-world
returns-clause-world g c = subst (λ (v : View). world_in v.content ≡ world_of v.setup v.history) c.self.view_is c.self.invariant.stands.world

pub returns-clause-room : goal.returns-clause-room
returns-clause-room g c = both_fit c.decide.new.pool _ c.decide.result refl refl c.decide.ensures.room c.decide.ensures.draw_room

pub returns-clause-kept : goal.returns-clause-kept
returns-clause-kept g c =
    let new : Room = record {
      entries = vec_capacity c.self.inside.kept - vec_len c.self.inside.kept;
      numbers = c.self.inside.memo.room;
      stores = c.decide.new.stores.room;
      serials = c.decide.new.pool.room;
      gtins = c.decide.new.pool.gtins;
      moves = c.self.inside.moves.room;
    } in
    subst (λ (v : View). IsRoomier v.room new) c.self.view_is
    (roomier_by _ new c.self.inside.pool c.decide.new.pool refl refl c.decide.ensures.kept refl refl refl refl c.decide.ensures.pool_kept c.decide.ensures.still refl)
