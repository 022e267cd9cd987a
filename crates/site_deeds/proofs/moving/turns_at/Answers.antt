use Rattle.std.proofs.Common.{None, sym, subst, refl}
use Rattle.site_deeds.specs.Placed.{AreTurnsOf}
use Rattle.site_deeds.proofs.OfRows.{no_turns, next_turn}
use Rattle.site_deeds.proofs.moving.turns_at.Goals as goal

pub loop-place-init : goal.loop-place-init
loop-place-init c = subst (AreTurnsOf c.args.deed.now c.args.stores.now.content.rows _) (sym c.new-turns.ensures) (no_turns c.args.deed.now c.args.stores.now.content.rows)

pub loop-place-preserved : goal.loop-place-preserved
loop-place-preserved c =
    next_turn c.args.deed.now c.args.stores.now.content.rows c.args.places.now c.loop-place.place-index _ None c.loop-place.turns c.push.new.self c.turn_at.result c.loop-place-test.true refl c.in_ok-push.ensures c.loop-place.invariant c.turn_at.ensures
