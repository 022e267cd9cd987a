use Rattle.std.proofs.Common.{◌≡◌, ◌-◌, refl, subst}
use Rattle.std.specs.Prelude.{vec_len, vec_capacity, IfOk, IfErr}
use Rattle.batch_book.specs.Content.{world_in}
use Rattle.deed_words.specs.History.{world_of, MayDraw}
use Rattle.deed_words.specs.World.{World}
use Rattle.deed_words.specs.Rules.{broken}
use Rattle.site_deeds.specs.declared.fault.KnownFault.TheVariants.{NotDrawn}
use Rattle.site_deeds.specs.Decisions.{IsDecided}
use Rattle.site_core.specs.Rooms.{IsRoomier}
use Rattle.site_core.specs.View.{View, Room}
use Rattle.site_core.proofs.Roomy.{both_fit, roomier_by}
use Rattle.site_core.proofs.Standing.{stands_still}
use Rattle.site_core.proofs.site.Site.decide_known.Goals as goal

pub invariant_of-self : goal.invariant_of-self
invariant_of-self c = record {
  stands = stands_still c.self.inside.setup _ c.self.inside.memo.told _ _ c.self.inside.pool _ c.self.invariant.stands c.decide_known.ensures.content c.decide_known.ensures.drawn c.decide_known.ensures.still;
  moved = c.self.invariant.moved;
  few = c.self.invariant.few;
}

pub returns-clause-known : goal.returns-clause-known
returns-clause-known c =
    subst (λ (v : View). IfOk c.decide_known.result (λ decided. IsDecided v.setup v.content c.args.entry.now.station c.args.entry.now.deed c.args.entry.now.drawn decided)) c.self.view_is c.decide_known.ensures.known

pub returns-clause-fault : goal.returns-clause-fault
returns-clause-fault c =
    let world = c.self.invariant.stands.world in
    subst (λ (v : View). IfErr c.decide_known.result (λ fault. fault ≡ NotDrawn → MayDraw v.setup (world_of v.setup v.history) (broken v.setup (world_of v.setup v.history) c.args.entry.now.station c.args.entry.now.deed) c.args.entry.now.deed c.args.entry.now.drawn → ⊥)) c.self.view_is
    (subst (λ (w : World). IfErr c.decide_known.result (λ fault. fault ≡ NotDrawn → MayDraw c.self.inside.setup w (broken c.self.inside.setup w c.args.entry.now.station c.args.entry.now.deed) c.args.entry.now.deed c.args.entry.now.drawn → ⊥)) world c.decide_known.ensures.fault)

pub returns-clause-world : goal.returns-clause-world
returns-clause-world c = subst (λ (v : View). world_in v.content ≡ world_of v.setup v.history) c.self.view_is c.self.invariant.stands.world

pub returns-clause-room : goal.returns-clause-room
returns-clause-room c = both_fit c.decide_known.new.pool _ c.decide_known.result refl refl c.decide_known.ensures.room c.decide_known.ensures.draw_room

pub returns-clause-kept : goal.returns-clause-kept
returns-clause-kept c =
    let new : Room = record {
      entries = vec_capacity c.self.inside.kept - vec_len c.self.inside.kept;
      numbers = c.self.inside.memo.room;
      stores = c.decide_known.new.stores.room;
      serials = c.decide_known.new.pool.room;
      gtins = c.decide_known.new.pool.gtins;
      moves = c.self.inside.moves.room;
    } in
    subst (λ (v : View). IsRoomier v.room new) c.self.view_is
    (roomier_by _ new c.self.inside.pool c.decide_known.new.pool refl refl c.decide_known.ensures.kept refl refl refl refl c.decide_known.ensures.pool_kept c.decide_known.ensures.still refl)
