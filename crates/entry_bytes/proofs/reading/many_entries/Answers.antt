use Rattle.std.proofs.lemmas.Result.{err_from_is_err_and}
use Rattle.entry_bytes.specs.Reading.{many}
use Rattle.entry_bytes.specs.Deeds.{entry_at}
use Rattle.entry_bytes.proofs.Loop.{goes_on, ends_due, is_done}
use Rattle.entry_bytes.proofs.reading.many_entries.Goals as goal

pub returns-in_err-item : goal.returns-in_err-item
returns-in_err-item c =
    let p = err_from_is_err_and c.from_residual.result c.from_residual.ensures.1 in
    rw (p.1, p.2) (ends_due (entry_at c.args.version) c.loop.all.items c.args.count c.loop.counter c.loop.bytes c.in_err-item.field-0.0 (many (entry_at c.args.version) c.args.count c.args.bytes.now) c.loop-test.true c.in_err-item.ensures c.loop.invariant)

pub loop-preserved : goal.loop-preserved
loop-preserved c =
    rw c.in_ok-push.ensures.items (goes_on (entry_at c.args.version) c.loop.all.items c.args.count c.loop.counter c.loop.bytes c.in_ok-item.item c.read_entry.new.bytes (many (entry_at c.args.version) c.args.count c.args.bytes.now) c.loop-test.true c.in_ok-item.ensures c.loop.invariant)

pub returns : goal.returns
returns c = is_done (entry_at c.args.version) c.loop.all.items c.args.count c.loop.counter c.loop.bytes (many (entry_at c.args.version) c.args.count c.args.bytes.now) c.loop-test.false c.loop.invariant
