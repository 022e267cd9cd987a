use Rattle.std.proofs.Common.{◌<◌, arith, ◌∙◌, ap, subst}
use Rattle.std.specs.Io.KnownBytes.{IsAtEnd}
use Rattle.outside.specs.declared.devices.Failed.{Failed}
use Rattle.site_console.specs.Limits.{input_limit}
use Rattle.site_console.specs.Reading.{Reading}
use Rattle.site_console.specs.Lines.{CutsOff}
use Rattle.site_console.proofs.Cutting.{all_held, after_more, after_end}
use Rattle.site_console.proofs.lines.Lines.next.Goals as goal

pub returns-then-not-has_more-clause-line : goal.returns-then-not-has_more-clause-line
returns-then-not-has_more-clause-line g c =
    let s = c.pieces.invariant.sofar in
    let cut = subst (λ b. CutsOff s.text c.pieces.self.pending (c.in_ok-longer.longer, b) c.cut.new.self.pending) c.if-is_whole.false (c.in_ok-longer.ensures.cut s.text s.held) in
    let held = all_held _ _ c.args.self.now c.pieces.self c.pieces.line c.in_ok-longer.longer c.cut.new.self.taken s c.cut.ensures.taken cut.0 cut.2 in
    let room : c.cut.new.self.taken < input_limit = omega (arith, ap (λ (r : Reading). r.taken) c.self-in-pieces.view_is, c.self-in-pieces.invariant) in
    after_end Failed _ _ _ c.args.self.now c.cut.new.self c.fill.new.self c.in_ok-longer.longer c.in-Ok.has_more (IsAtEnd (g.I.Source.left c.fill.new.input)) held c.if-not-has_more.true room c.in-Ok.ensures.bytes

pub pieces-preserved : goal.pieces-preserved
pieces-preserved g c =
    let s = c.pieces.invariant.sofar in
    let cut = subst (λ b. CutsOff s.text c.pieces.self.pending (c.in_ok-longer.longer, b) c.cut.new.self.pending) c.if-is_whole.false (c.in_ok-longer.ensures.cut s.text s.held) in
    let held = all_held _ _ c.args.self.now c.pieces.self c.pieces.line c.in_ok-longer.longer c.cut.new.self.taken s c.cut.ensures.taken cut.0 cut.2 in
    record {
      sofar = after_more Failed _ _ _ c.args.self.now c.cut.new.self c.fill.new.self c.in_ok-longer.longer c.in-Ok.has_more (IsAtEnd (g.I.Source.left c.fill.new.input)) held c.if-not-has_more.false c.in-Ok.ensures.bytes;
      within = c.in-Ok.ensures.within;
      faults = c.in-Ok.ensures.cause.kept ∙ c.pieces.invariant.faults;
    }
