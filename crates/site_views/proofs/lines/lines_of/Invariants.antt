use Rattle.std.proofs.Common.{◌≡◌, ◌++◌, drop}
use Rattle.site_views.specs.Own.{row_of_line}
use Rattle.site_views.proofs.Listed.{told}
use Rattle.site_views.proofs.lines.lines_of.Given as goal

abbrev pub invariant-loop-line : goal.invariant-loop-line
invariant-loop-line l =
    told (λ k station. row_of_line l.batch l.items.rows k station.name) 0 l.stations ≡ l.lines ++ told (λ k station. row_of_line l.batch l.items.rows k station.name) l.line (drop l.line l.stations)
