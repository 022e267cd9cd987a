use Rattle.std.proofs.Common.{◌++◌, List, ℕ, take, sym, ◌∙◌, ap, subst}
use Rattle.std.specs.Prelude.{slice_range}
use Rattle.site_console.specs.Reading.{Reading}
use Rattle.site_console.specs.Newline.{FoundNewline}
use Rattle.site_console.specs.Lines.{IsHeld}
use Rattle.site_console.proofs.Cutting.{cut_at}
use Rattle.site_console.proofs.lines.Lines.cut.Goals as goal

pub returns-in_ok-line-in-Some-clause-cut : goal.returns-in_ok-line-in-Some-clause-cut
returns-in_ok-line-in-Some-clause-cut c = λ text held.
    let s = c.self.inside in
    let count = c.in-Some.count in
    let same = c.deref.ensures.value in
    let found = subst (λ (xs : List ℕ). FoundNewline (slice_range xs s.at s.end) count) same c.in-Some.ensures in (
      take count (slice_range s.piece.items s.at s.end),
      found.before,
      sym (ap (λ (r : Reading). r.pending) c.self.view_is) ∙ cut_at s.piece.items s.at s.end count found,
      subst (λ (xs : List ℕ). IsHeld c.in_ok-line-in-Some.line (text ++ take count (slice_range xs s.at s.end))) same (c.in_ok-line-in-Some.ensures text held),
    )
