use Rattle.std.proofs.Common.{◌++◌, [], false, arith, ◌∙◌, refl}
use Rattle.std.specs.Io.KnownBytes.{IsAtEnd}
use Rattle.std.proofs.lemmas.Result.{err_from_is_err_and}
use Rattle.site_console.specs.Limits.{input_limit}
use Rattle.site_console.specs.Open.{point_of}
use Rattle.site_console.specs.declared.lines.Next.{Next}
use Rattle.site_console.proofs.Going.{start, heard, went_on, no_memory, next_failed, finished, gave_up, if_true, if_false, some_more, nearer}
use Rattle.site_console.proofs.Causing.{no_cause, read_carried, write_carried, reads_no_write, serves_no_read}
use Rattle.site_console.proofs.script.run.Goals as goal

pub returns-in_err-lines-clause-ran : goal.returns-in_err-lines-clause-ran
returns-in_err-lines-clause-ran g c =
    let p = err_from_is_err_and c.from_residual.result c.from_residual.ensures.1 in
    let s = c.args.store.now in
    let old = point_of g.D.Disk g.C.Clock g.W.Words s in
    rw (p.1, p.2) (no_memory s.site.setup old (Unit {0}) _ _ _ _ [] 0 _ (start s.site.setup _ _ [] 0 old refl refl) (omega arith))

pub lines-init : goal.lines-init
lines-init g c =
    let s = c.args.store.now in
    record {
      going = start s.site.setup _ _ c.in_ok-lines.lines.pending c.in_ok-lines.lines.taken (point_of g.D.Disk g.C.Clock g.W.Words s) c.in_ok-lines.ensures.0 c.in_ok-lines.ensures.1;
      setup = refl;
      opening = refl;
      opened = refl;
      stands = c.requires.stands;
      within = omega (arith, c.in_ok-lines.ensures.1);
      read_faults = refl;
      write_faults = refl;
    }

pub returns-in_err-line-clause-ran : goal.returns-in_err-line-clause-ran
returns-in_err-line-clause-ran g c =
    let s = c.args.store.now in
    let old = point_of g.D.Disk g.C.Clock g.W.Words s in
    let e = c.in_err-line.ensures.line in
    let p = err_from_is_err_and c.from_residual-in_err-line.result c.from_residual-in_err-line.ensures.1 in
    rw (p.1, p.2) (next_failed s.site.setup old (Unit {0}) c.in_err-line.field-0.0 _ _ _ _ (c.lines.lines.pending ++ e.0) c.next.new.self _ _
    (heard s.site.setup old _ _ _ _ _ c.lines.lines.pending e.0 c.lines.lines.taken c.next.new.self.taken _ c.lines.invariant.going e.1 e.2.0) c.in_err-line.ensures.within e.2.1)

pub returns-in_err-serve_line-clause-ran : goal.returns-in_err-serve_line-clause-ran
returns-in_err-serve_line-clause-ran g c =
    let s = c.args.store.now in
    let old = point_of g.D.Disk g.C.Clock g.W.Words s in
    let e = c.in_ok-line.ensures.line in
    let line = e.2.1.0 in
    let known = c.lines.lines.pending ++ e.0 in
    let going = heard s.site.setup old _ _ _ _ _ c.lines.lines.pending e.0 c.lines.lines.taken c.next.new.self.taken _ c.lines.invariant.going e.1 e.2.0 in
    let serves = rw (c.lines.invariant.setup) at (c.in_err-serve_line.ensures.serves line.text line.held) in
    let p = err_from_is_err_and c.from_residual-in_err-serve_line.result c.from_residual-in_err-serve_line.ensures.1 in
    let more = some_more c.in_ok-line.field-0.is_last known line.text c.next.new.self.pending _ (IsAtEnd (g.I.Source.left c.next.new.input)) line.cut e.2.1.1 in
    rw (p.1, p.2) (gave_up s.site.setup old (Unit {0}) c.in_err-serve_line.field-0.0 _ _ _ _ _ line.text known more.0 c.next.new.self.taken _ _ going c.in_ok-line.ensures.within more.1 more.2 line.one serves)

pub returns-then-is_last-clause-ran : goal.returns-then-is_last-clause-ran
returns-then-is_last-clause-ran g c =
    let s = c.args.store.now in
    let old = point_of g.D.Disk g.C.Clock g.W.Words s in
    let e = c.in_ok-line.ensures.line in
    let line = e.2.1.0 in
    let known = c.lines.lines.pending ++ e.0 in
    let going = heard s.site.setup old _ _ _ _ _ c.lines.lines.pending e.0 c.lines.lines.taken c.next.new.self.taken _ c.lines.invariant.going e.1 e.2.0 in
    let serves = rw (c.lines.invariant.setup) at (c.in_ok-serve_line.ensures.serves line.text line.held) in
    let last = c.if-is_last.true in
    let cut = if_true c.in_ok-line.field-0.is_last _ _ last line.cut in
    let room = if_true c.in_ok-line.field-0.is_last _ _ last e.2.1.1 in
    finished s.site.setup old (Unit {0}) (tt {0}) _ _ _ _ _ line.text known c.next.new.self.taken _ _ going cut.0 line.one room.0 room.1 serves

pub lines-smaller : goal.lines-smaller
lines-smaller g c =
    let e = c.in_ok-line.ensures.line in
    let line = e.2.1.0 in
    let cut = if_false c.in_ok-line.field-0.is_last _ _ c.if-is_last.false line.cut in
    nearer c.lines.lines.pending e.0 line.text c.next.new.self.pending c.lines.lines.taken c.next.new.self.taken input_limit cut e.2.0 c.in_ok-line.ensures.within

pub lines-preserved : goal.lines-preserved
lines-preserved g c =
    let s = c.args.store.now in
    let old = point_of g.D.Disk g.C.Clock g.W.Words s in
    let e = c.in_ok-line.ensures.line in
    let line = e.2.1.0 in
    let known = c.lines.lines.pending ++ e.0 in
    let going = heard s.site.setup old _ _ _ _ _ c.lines.lines.pending e.0 c.lines.lines.taken c.next.new.self.taken _ c.lines.invariant.going e.1 e.2.0 in
    let serves = rw (c.lines.invariant.setup) at (c.in_ok-serve_line.ensures.serves line.text line.held) in
    let cut = if_false c.in_ok-line.field-0.is_last _ _ c.if-is_last.false line.cut in
    record {
      going = went_on s.site.setup old (Unit {0}) (tt {0}) _ _ _ _ _ line.text known c.next.new.self.pending c.next.new.self.taken _ _ going cut line.one serves;
      setup = c.serve_line.ensures.setup ∙ c.lines.invariant.setup;
      opening = c.serve_line.ensures.opened.0 ∙ c.lines.invariant.opening;
      opened = c.serve_line.ensures.opened.1 ∙ c.lines.invariant.opened;
      stands = c.serve_line.ensures.stands;
      within = c.in_ok-line.ensures.within;
      read_faults = c.in_ok-line.ensures.cause.kept ∙ c.lines.invariant.read_faults;
      write_faults = c.in_ok-serve_line.ensures.write.kept ∙ c.lines.invariant.write_faults;
    }

pub returns-in_err-lines-clause-read : goal.returns-in_err-lines-clause-read
returns-in_err-lines-clause-read g c =
    let p = err_from_is_err_and c.from_residual.result c.from_residual.ensures.1 in
    rw (p.1, p.2) (no_cause false _ _ refl refl)

pub returns-in_err-lines-clause-write : goal.returns-in_err-lines-clause-write
returns-in_err-lines-clause-write g c =
    let p = err_from_is_err_and c.from_residual.result c.from_residual.ensures.1 in
    rw (p.1, p.2) (no_cause false _ _ refl refl)

pub returns-in_err-line-clause-read : goal.returns-in_err-line-clause-read
returns-in_err-line-clause-read g c =
    let p = err_from_is_err_and c.from_residual-in_err-line.result c.from_residual-in_err-line.ensures.1 in
    rw (p.1, p.2) (read_carried Next (Unit {0}) c.in_err-line.field-0.0 _ _ _ c.lines.invariant.read_faults c.in_err-line.ensures.cause)

pub returns-in_err-line-clause-write : goal.returns-in_err-line-clause-write
returns-in_err-line-clause-write g c =
    let e = c.in_err-line.ensures.line in
    let p = err_from_is_err_and c.from_residual-in_err-line.result c.from_residual-in_err-line.ensures.1 in
    rw (p.1, p.2) (no_cause _ _ _ (reads_no_write (Unit {0}) (c.lines.lines.pending ++ e.0) c.in_err-line.field-0.0 c.next.new.self _ e.2.1) c.lines.invariant.write_faults)

pub returns-in_err-serve_line-clause-read : goal.returns-in_err-serve_line-clause-read
returns-in_err-serve_line-clause-read g c =
    let e = c.in_ok-line.ensures.line in
    let line = e.2.1.0 in
    let p = err_from_is_err_and c.from_residual-in_err-serve_line.result c.from_residual-in_err-serve_line.ensures.1 in
    let none = serves_no_read (Unit {0}) (Unit {0}) _ _ _ _ _ c.in_err-serve_line.field-0.0 _ (c.in_err-serve_line.ensures.serves line.text line.held) in
    rw (p.1, p.2) (no_cause _ _ _ none (c.in_ok-line.ensures.cause.kept ∙ c.lines.invariant.read_faults))

pub returns-in_err-serve_line-clause-write : goal.returns-in_err-serve_line-clause-write
returns-in_err-serve_line-clause-write g c =
    let p = err_from_is_err_and c.from_residual-in_err-serve_line.result c.from_residual-in_err-serve_line.ensures.1 in
    rw (p.1, p.2) (write_carried (Unit {0}) (Unit {0}) c.in_err-serve_line.field-0.0 _ _ _ c.lines.invariant.write_faults c.in_err-serve_line.ensures.write)
