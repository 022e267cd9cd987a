use Rattle.std.proofs.Common.{[], take}
use Rattle.std.proofs.KnownBytes.{Consumes-nil, Consumes-kept}
use Rattle.std.proofs.lemmas.Result.{err_from_is_err_and}
use Rattle.site_console.proofs.site_file.take_more.Goals as goal

pub returns-in_default-clause-takes : goal.returns-in_default-clause-takes
returns-in_default-clause-takes g c =
    let old = g.S.Source.left c.args.site.now in
    ([], Consumes-kept old old (g.S.Source.left c.take.new.self) [] (Consumes-nil old) c.in_default.ensures.bytes, tt {0})

pub returns-in_err-extend_from_slice-clause-takes : goal.returns-in_err-extend_from_slice-clause-takes
returns-in_err-extend_from_slice-clause-takes g c =
    let p = err_from_is_err_and c.from_residual.result c.from_residual.ensures.1 in
    (take c.in-Ok.count c.take.new.piece, c.in-Ok.ensures.bytes.0, rw (p.1) (tt {0}))

pub returns-clause-takes : goal.returns-clause-takes
returns-clause-takes g c = (take c.in-Ok.count c.take.new.piece, c.in-Ok.ensures.bytes.0, (c.in_ok-extend_from_slice.ensures.items, c.in-Ok.ensures.bytes.1))
