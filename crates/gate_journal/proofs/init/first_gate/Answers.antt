use Rattle.std.proofs.Common.{List, ℕ}
use Rattle.gate_journal.specs.Grammar.{IsNone}
use Rattle.gate_journal.proofs.Loading.{none_short}
use Rattle.gate_journal.proofs.Making.{torn_first}
use Rattle.outside.proofs.Moments.{started, goes_on}
use Rattle.gate_journal.proofs.init.first_gate.Goals as goal

pub returns-in-Ok-sync-clause-any_moment : goal.returns-in-Ok-sync-clause-any_moment
returns-in-Ok-sync-clause-any_moment g c =
    let written : (f : List ℕ) → g.D.Disk.image c.write_at.new.self f → IsNone f = λ f left. let from = c.write_at.ensures.images f left in torn_first from.0 f (c.requires.short from.0 (c.requires.only from.0 from.1)) from.2 in
    let first = started g.D.Disk.moment g.D.Disk.image_since c.args.disk.now IsNone (λ f left. none_short f (c.requires.short f (c.requires.only f (g.met.D.Disk.only_now c.args.disk.now f left)))) in
    let second = goes_on g.D.Disk.moment g.D.Disk.image_since c.args.disk.now c.args.disk.now c.write_at.new.self IsNone _ first c.write_at.ensures.time written in
    goes_on g.D.Disk.moment g.D.Disk.image_since c.args.disk.now c.write_at.new.self c.sync.new.self IsNone _ second c.sync.ensures.time (λ f left. written f (c.sync.ensures.no_more f left))

pub returns-in-Err-clause-any_moment : goal.returns-in-Err-clause-any_moment
returns-in-Err-clause-any_moment g c =
    let written : (f : List ℕ) → g.D.Disk.image c.write_at.new.self f → IsNone f = λ f left. let from = c.write_at.ensures.images f left in torn_first from.0 f (c.requires.short from.0 (c.requires.only from.0 from.1)) from.2 in
    let first = started g.D.Disk.moment g.D.Disk.image_since c.args.disk.now IsNone (λ f left. none_short f (c.requires.short f (c.requires.only f (g.met.D.Disk.only_now c.args.disk.now f left)))) in
    let second = goes_on g.D.Disk.moment g.D.Disk.image_since c.args.disk.now c.args.disk.now c.write_at.new.self IsNone _ first c.write_at.ensures.time written in
    goes_on g.D.Disk.moment g.D.Disk.image_since c.args.disk.now c.write_at.new.self c.sync.new.self IsNone _ second c.sync.ensures.time (λ f left. written f (c.sync.ensures.no_more f left))
