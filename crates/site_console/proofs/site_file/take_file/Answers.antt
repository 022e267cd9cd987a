use Rattle.std.proofs.Common.{◌++◌, List, ℕ, inl, refl, sym, subst, ◌∙◌, arith}
use Rattle.std.specs.Io.KnownBytes.{Consumes}
use Rattle.std.proofs.KnownBytes.{Consumes-nil, Consumes-trans}
use Rattle.std.proofs.lemmas.Result.{err_from_is_err_and}
use Rattle.site_console.proofs.Filed.{source_carried}
use Rattle.site_console.proofs.site_file.take_file.Goals as goal

pub pieces-init : goal.pieces-init
pieces-init g c =
    let old = g.S.Source.left c.args.site.now in
    record { from = subst (λ (bs : List ℕ). Consumes old old bs) (sym c.new-bytes.ensures.items) (Consumes-nil old); piece = omega (arith, c.in_ok-piece.ensures.len); faults = refl }

pub returns-in_err-count-clause-takes : goal.returns-in_err-count-clause-takes
returns-in_err-count-clause-takes g c =
    let e = c.in_err-count.ensures.takes in
    let bytes = c.pieces.bytes.items in
    let p = err_from_is_err_and c.from_residual-in_err-count.result c.from_residual-in_err-count.ensures.1 in
    (bytes ++ e.0, Consumes-trans (g.S.Source.left c.args.site.now) (g.S.Source.left c.pieces.site) (g.S.Source.left c.take_more.new.site) bytes e.0 c.pieces.invariant.from e.1, rw (p.1) (tt {0}))

pub returns-in_err-count-clause-cause : goal.returns-in_err-count-clause-cause
returns-in_err-count-clause-cause g c =
    let p = err_from_is_err_and c.from_residual-in_err-count.result c.from_residual-in_err-count.ensures.1 in
    rw (p.1, p.2) (source_carried ℕ ℕ c.in_err-count.field-0.0 _ _ _ c.pieces.invariant.faults c.in_err-count.ensures.cause)

pub returns-in_err-count-clause-fault : goal.returns-in_err-count-clause-fault
returns-in_err-count-clause-fault g c =
    let p = err_from_is_err_and c.from_residual-in_err-count.result c.from_residual-in_err-count.ensures.1 in
    rw (p.1, p.2) c.in_err-count.ensures.fault

pub returns-then-count-eq0-clause-takes : goal.returns-then-count-eq0-clause-takes
returns-then-count-eq0-clause-takes g c =
    let e = c.in_ok-count.ensures.takes in
    let bytes = c.pieces.bytes.items in (
      bytes ++ e.0,
      Consumes-trans (g.S.Source.left c.args.site.now) (g.S.Source.left c.pieces.site) (g.S.Source.left c.take_more.new.site) bytes e.0 c.pieces.invariant.from e.1,
      (e.2.0, inl (e.2.1 c.if-count-eq0.true)),
    )

pub pieces-preserved : goal.pieces-preserved
pieces-preserved g c =
    let e = c.in_ok-count.ensures.takes in
    let bytes = c.pieces.bytes.items in
    let old = g.S.Source.left c.args.site.now in
    let new = g.S.Source.left c.take_more.new.site in
    record {
      from = subst (λ (bs : List ℕ). Consumes old new bs) (sym e.2.0) (Consumes-trans old (g.S.Source.left c.pieces.site) new bytes e.0 c.pieces.invariant.from e.1);
      piece = c.pieces.invariant.piece;
      faults = c.in_ok-count.ensures.cause.kept ∙ c.pieces.invariant.faults;
    }
