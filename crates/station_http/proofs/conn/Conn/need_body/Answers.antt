use Rattle.std.proofs.Common.{◌≡◌, ◌<◌, ◌++◌, length, ◌∙◌, ap, arith, inr}
use Rattle.station_http.specs.Reading.{Reading}
use Rattle.station_http.specs.Limits.{session_limit}
use Rattle.station_http.proofs.Bodies.{moved, more_body, body_end}
use Rattle.station_http.proofs.Ends.{full_not}
use Rattle.station_http.proofs.Idles.{body_idle_moved, body_not_there}
use Rattle.station_http.proofs.Askings.{body_asks_moved, body_asks_more, body_asks_failed}
use Rattle.station_http.proofs.conn.Conn.need_body.Goals as goal

pub returns-then-more-eq0-clause-body : goal.returns-then-more-eq0-clause-body
returns-then-more-eq0-clause-body g c =
    let mid = c.move_to.new.self in
    let new = c.fill.new.self in
    let s = moved _ _ c.args.self.now c.pieces.self mid c.pieces.body c.move_to.new.body c.pieces.invariant.came c.in-Ok.ensures.moved c.move_to.ensures.after in
    let b = c.in-Ok-fill.ensures.bytes in
    let short : length c.move_to.new.body < c.args.count = omega (arith, c.move_to.ensures.within, c.len-came.ensures, c.if-came-count.false) in
    let e = body_end _ _ _ c.args.self.now mid new c.move_to.new.body c.in-Ok-fill.more b.0 s b.1 b.2.0 b.2.1 b.2.2 b.2.3 c.if-more-eq0.true (c.in-Ok.ensures.all short) in
    let same : length (c.args.self.now.pending ++ e.0.bytes) ≡ length c.move_to.new.body = ap length e.1 in
    let below : new.taken < session_limit = omega (arith, b.2.2, ap (λ (r : Reading). r.taken) c.self-in-pieces.view_is, c.self-in-pieces.invariant) in
    (e.0.bytes, e.0.from, (e.0.size, (omega (arith, short, same), full_not new.taken below, b.2.4 c.if-more-eq0.true, omega (arith, same, c.len-came.ensures))))

pub pieces-preserved : goal.pieces-preserved
pieces-preserved g c =
    let mid = c.move_to.new.self in
    let s = moved _ _ c.args.self.now c.pieces.self mid c.pieces.body c.move_to.new.body c.pieces.invariant.came c.in-Ok.ensures.moved c.move_to.ensures.after in
    let b = c.in-Ok-fill.ensures.bytes in
    let short : length c.move_to.new.body < c.args.count = omega (arith, c.move_to.ensures.within, c.len-came.ensures, c.if-came-count.false) in
    let below : mid.taken < session_limit = omega (arith, ap (λ (r : Reading). r.taken) c.self-in-pieces.view_is, c.self-in-pieces.invariant) in
    record {
      came = more_body _ _ _ c.args.self.now mid c.fill.new.self c.move_to.new.body c.in-Ok-fill.more b.0 s b.1 b.2.0 b.2.1 b.2.2 b.2.3;
      fits = c.move_to.ensures.within;
      within = c.in-Ok-fill.ensures.within;
      faults = c.in-Ok-fill.ensures.cause.kept ∙ c.pieces.invariant.faults;
      beside = c.in-Ok-fill.ensures.beside ∙ c.pieces.invariant.beside;
      asks = body_asks_more _ _ _ c.args.self.now mid c.fill.new.self c.in-Ok-fill.more b.0 (body_asks_moved _ _ c.args.self.now c.pieces.self mid c.pieces.invariant.asks c.move_to.ensures.after) (c.in-Ok.ensures.all short) c.fill.ensures.asked b.2.0 b.2.1 b.2.2;
      idle = inr (body_not_there _ c.args.source.now c.pieces.source c.args.self.now mid c.move_to.new.body c.args.count (body_idle_moved _ c.args.source.now c.pieces.source c.args.self.now c.pieces.self mid c.pieces.body c.move_to.new.body c.args.count c.pieces.invariant.idle c.in-Ok.ensures.moved c.move_to.ensures.after) short (c.in-Ok.ensures.all short) below);
    }

pub returns-in_default-fill-clause-asks : goal.returns-in_default-fill-clause-asks
returns-in_default-fill-clause-asks g c =
    let mid = c.move_to.new.self in
    let short : length c.move_to.new.body < c.args.count = omega (arith, c.move_to.ensures.within, c.len-came.ensures, c.if-came-count.false) in
    let b = c.in_default-fill.ensures.bytes in
    body_asks_failed _ _ _ c.args.self.now mid c.fill.new.self (body_asks_moved _ _ c.args.self.now c.pieces.self mid c.pieces.invariant.asks c.move_to.ensures.after) (c.in-Ok.ensures.all short) c.fill.ensures.asked b.2.1

pub returns-then-more-eq0-clause-asks : goal.returns-then-more-eq0-clause-asks
returns-then-more-eq0-clause-asks g c =
    let mid = c.move_to.new.self in
    let short : length c.move_to.new.body < c.args.count = omega (arith, c.move_to.ensures.within, c.len-came.ensures, c.if-came-count.false) in
    let b = c.in-Ok-fill.ensures.bytes in
    body_asks_more _ _ _ c.args.self.now mid c.fill.new.self c.in-Ok-fill.more b.0 (body_asks_moved _ _ c.args.self.now c.pieces.self mid c.pieces.invariant.asks c.move_to.ensures.after) (c.in-Ok.ensures.all short) c.fill.ensures.asked b.2.0 b.2.1 b.2.2
