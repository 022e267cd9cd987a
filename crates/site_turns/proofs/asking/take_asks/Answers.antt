use Rattle.std.proofs.Common.{◌≡◌, ◌∙◌, ◌<◌, length, vec_capacity, arith, subst, sym}
use Rattle.site_store.specs.Asked.{AreOf}
use Rattle.site_turns.specs.Taking.{AreTaken}
use Rattle.site_turns.proofs.Taken.{of_more, one_taken, room_left}
use Rattle.site_turns.proofs.asking.take_asks.Goals as goal

pub push_reserved-requires : goal.push_reserved-requires
push_reserved-requires c =
    let inv = c.asks.invariant in
    let room = room_left c.args.setup.now c.args.posts.now.items c.asks.posts.items c.take_ask.new.posts.items c.asks.asks.items c.in-Some.ask (vec_capacity c.args.asks.now) inv.0 c.in-Some.ensures.taken c.requires.spare in
    let same = inv.2 in
    omega (arith, c.asks.asks.ok.0, room, same)

pub asks-preserved : goal.asks-preserved
asks-preserved c =
    let inv = c.asks.invariant in
    let site = c.args.setup.now in (
      subst (λ l. AreTaken site c.args.posts.now.items l c.take_ask.new.posts.items) (sym c.push_reserved.ensures.items) (one_taken site c.args.posts.now.items c.asks.posts.items c.take_ask.new.posts.items c.asks.asks.items c.in-Some.ask inv.0 c.in-Some.ensures.taken),
      subst (AreOf site) (sym c.push_reserved.ensures.items) (of_more site c.asks.asks.items c.in-Some.ask inv.1 c.in-Some.ensures.station c.in-Some.ensures.proper),
      c.push_reserved.ensures.capacity ∙ inv.2,
    )
