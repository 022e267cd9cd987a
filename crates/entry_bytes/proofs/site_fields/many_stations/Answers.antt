use Rattle.std.proofs.Common.{◌≡◌, List, [], Ok, Err, inr, subst}
use Rattle.std.proofs.lemmas.Result.{err_from_is_err_and}
use Rattle.entry_bytes.specs.Reading.{many_after}
use Rattle.entry_bytes.specs.SiteFields.{station_at}
use Rattle.deed_words.specs.declared.setup.Station.{Station}
use Rattle.entry_bytes.proofs.Loop.{goes_on_after, ends_after, is_done_after}
use Rattle.entry_bytes.proofs.site_fields.many_stations.Goals as goal

pub returns-in_err-item : goal.returns-in_err-item
returns-in_err-item c =
    let p = err_from_is_err_and c.from_residual.result c.from_residual.ensures.1 in
    rw (p.1, p.2) (inr (ends_after station_at c.loop.all c.args.count c.loop.counter c.loop.bytes c.in_err-item.field-0.0 (many_after station_at [] c.args.count c.args.bytes.now) c.loop-test.true (subst (λ (before : List Station). station_at before c.loop.bytes ≡ Err c.in_err-item.field-0.0) c.as_slice.ensures c.in_err-item.ensures) c.loop.invariant))

pub loop-preserved : goal.loop-preserved
loop-preserved c =
    rw c.in_ok-push.ensures (goes_on_after station_at c.loop.all c.args.count c.loop.counter c.loop.bytes c.in_ok-item.item c.read_station.new.bytes (many_after station_at [] c.args.count c.args.bytes.now) c.loop-test.true (subst (λ (before : List Station). station_at before c.loop.bytes ≡ Ok (c.in_ok-item.item, c.read_station.new.bytes)) c.as_slice.ensures c.in_ok-item.ensures) c.loop.invariant)

pub returns : goal.returns
returns c = is_done_after station_at c.loop.all c.args.count c.loop.counter c.loop.bytes (many_after station_at [] c.args.count c.args.bytes.now) c.loop-test.false c.loop.invariant
