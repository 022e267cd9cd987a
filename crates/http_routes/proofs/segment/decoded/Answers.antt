use Rattle.std.proofs.Common.{◌≡◌, ◌<◌, length, sym, ◌∙◌, arith}
use Rattle.std.proofs.lemmas.List.{length-set}
use Rattle.http_routes.proofs.Places.{byte_more, too_many}
use Rattle.http_routes.proofs.segment.decoded.Goals as goal

pub returns-then-len-eq20 : goal.returns-then-len-eq20
returns-then-len-eq20 c =
    let i = c.loop-byte.invariant in
    let full : c.loop-byte.len ≡ length c.loop-byte.bytes = c.if-len-eq20.true ∙ sym i.room in
    let more = too_many c.loop-byte.bytes _ _ _ c.loop-byte.len c.in-Some.byte full c.in-Some.ensures.steps i.same in
    omega (arith, more, c.if-len-eq20.true)

pub loop-byte-preserved : goal.loop-byte-preserved
loop-byte-preserved c =
    let i = c.loop-byte.invariant in
    let some : c.loop-byte.len < length c.loop-byte.bytes = omega (arith, i.room, i.fits, c.if-len-eq20.false) in
    record {
      fits = omega (arith, i.room, some);
      room = length-set c.loop-byte.bytes c.loop-byte.len c.in-Some.byte ∙ i.room;
      same = byte_more c.loop-byte.bytes _ _ _ c.loop-byte.len c.in-Some.byte some c.in-Some.ensures.steps i.same;
    }
