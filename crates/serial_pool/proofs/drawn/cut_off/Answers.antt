use Rattle.std.proofs.Common.{◌≡◌, ◌+◌, ◌-◌, ◌<◌, ◌∙◌, List, ap, sym, vec_len, length, take, arith, subst}
use Rattle.serial_pool.specs.declared.drawn.DrawnSerial.{DrawnSerial}
use Rattle.serial_pool.proofs.Found.{cut_more, cut_hashes, front_is}
use Rattle.serial_pool.proofs.drawn.cut_off.Goals as goal

pub loop-i-preserved : goal.loop-i-preserved
loop-i-preserved c =
    let all = c.args.drawn.now.items in
    let now = c.loop-i.drawn.items in
    let next = c.take_last-serial.new.self.items in
    let front : next ≡ take (length now - 1) now = front_is now next c.take_last-serial.result c.take_last-serial.ensures.items in
    let size : vec_len c.args.drawn.now ≡ length all = omega (arith, c.args.drawn.now.ok.0) in
    let was : now ≡ take (length all - c.loop-i.i) all = subst (λ n. now ≡ take (n - c.loop-i.i) all) size c.loop-i.invariant.items in
    let left : c.loop-i.i < length all = omega (arith, size, c.requires.there, c.loop-i-test.true) in
    record {
      items = subst (λ n. next ≡ take (n - (c.loop-i.i + 1)) all) (sym size) (cut_more all now next c.loop-i.i was left front);
      capacity = c.take_last-serial.ensures.capacity ∙ c.loop-i.invariant.capacity;
      hashed = cut_hashes now next c.loop-i.table.hashes c.remove_last.new.self.hashes c.loop-i.invariant.hashed c.remove_last.ensures.hashes front;
      room = omega (arith, c.remove_last.ensures.room, c.loop-i.invariant.room);
    }
