use Rattle.gate_journal.specs.Gates.{HalfOpen, WithOrWithout}
use Rattle.std.proofs.Common.{List, ℕ, Option, sym, subst}
use Rattle.outside.specs.Disks.{Together, Torn}
use Rattle.gate_journal.proofs.Crash.{on_err, open_torn, open_synced, no_more, either}
use Rattle.gate_journal.proofs.Writing.{gate_may}
use Rattle.outside.proofs.Moments.{started, goes_on}
use Rattle.gate_journal.proofs.gates.open_gate.Goals as goal

pub returns-in_err-write_at-clause-half : goal.returns-in_err-write_at-clause-half
returns-in_err-write_at-clause-half g c front block at =
    open_torn g.D.Disk.image g.D.Disk.content g.met.D.Disk.as_read c.args.disk.now c.write_at.new.self c.args.end front block c.write_at.ensures.images at

pub returns-in_err-write_at-clause-any_moment : goal.returns-in_err-write_at-clause-any_moment
returns-in_err-write_at-clause-any_moment g c front block at =
    let written = open_torn g.D.Disk.image g.D.Disk.content g.met.D.Disk.as_read c.args.disk.now c.write_at.new.self c.args.end front block c.write_at.ensures.images at in
    let first = started g.D.Disk.moment g.D.Disk.image_since c.args.disk.now (WithOrWithout front block) (λ f left. either front block f (at f (g.met.D.Disk.only_now c.args.disk.now f left)).1) in
    goes_on g.D.Disk.moment g.D.Disk.image_since c.args.disk.now c.args.disk.now c.write_at.new.self (WithOrWithout front block) _ first c.write_at.ensures.time (λ f left. either front block f (written f left).1)

pub returns-in_err-sync-clause-half : goal.returns-in_err-sync-clause-half
returns-in_err-sync-clause-half g c front block at =
    no_more g.D.Disk.image g.D.Disk.content g.met.D.Disk.as_read c.write_at.new.self c.sync.new.self c.args.end front (HalfOpen front block) c.sync.ensures.no_more
    (open_torn g.D.Disk.image g.D.Disk.content g.met.D.Disk.as_read c.args.disk.now c.write_at.new.self c.args.end front block c.write_at.ensures.images at)

pub returns-in_err-sync-clause-any_moment : goal.returns-in_err-sync-clause-any_moment
returns-in_err-sync-clause-any_moment g c front block at =
    let written = open_torn g.D.Disk.image g.D.Disk.content g.met.D.Disk.as_read c.args.disk.now c.write_at.new.self c.args.end front block c.write_at.ensures.images at in
    let first = started g.D.Disk.moment g.D.Disk.image_since c.args.disk.now (WithOrWithout front block) (λ f left. either front block f (at f (g.met.D.Disk.only_now c.args.disk.now f left)).1) in
    let second = goes_on g.D.Disk.moment g.D.Disk.image_since c.args.disk.now c.args.disk.now c.write_at.new.self (WithOrWithout front block) _ first c.write_at.ensures.time (λ f left. either front block f (written f left).1) in
    goes_on g.D.Disk.moment g.D.Disk.image_since c.args.disk.now c.write_at.new.self c.sync.new.self (WithOrWithout front block) _ second c.sync.ensures.time (λ f left. either front block f (written f (c.sync.ensures.no_more f left)).1)

pub returns-clause-half : goal.returns-clause-half
returns-clause-half g c front block at =
    no_more g.D.Disk.image g.D.Disk.content g.met.D.Disk.as_read c.write_at.new.self c.sync.new.self c.args.end front (HalfOpen front block) c.sync.ensures.no_more
    (open_torn g.D.Disk.image g.D.Disk.content g.met.D.Disk.as_read c.args.disk.now c.write_at.new.self c.args.end front block c.write_at.ensures.images at)

pub returns-clause-opened : goal.returns-clause-opened
returns-clause-opened g c front block at =
    open_synced g.D.Disk.image g.D.Disk.content g.met.D.Disk.as_read c.args.disk.now c.write_at.new.self c.sync.new.self c.args.end front block c.in_ok-write_at.ensures.written c.in_ok-sync.ensures.synced at

pub returns-clause-any_moment : goal.returns-clause-any_moment
returns-clause-any_moment g c front block at =
    let written = open_torn g.D.Disk.image g.D.Disk.content g.met.D.Disk.as_read c.args.disk.now c.write_at.new.self c.args.end front block c.write_at.ensures.images at in
    let first = started g.D.Disk.moment g.D.Disk.image_since c.args.disk.now (WithOrWithout front block) (λ f left. either front block f (at f (g.met.D.Disk.only_now c.args.disk.now f left)).1) in
    let second = goes_on g.D.Disk.moment g.D.Disk.image_since c.args.disk.now c.args.disk.now c.write_at.new.self (WithOrWithout front block) _ first c.write_at.ensures.time (λ f left. either front block f (written f left).1) in
    goes_on g.D.Disk.moment g.D.Disk.image_since c.args.disk.now c.write_at.new.self c.sync.new.self (WithOrWithout front block) _ second c.sync.ensures.time (λ f left. either front block f (written f (c.sync.ensures.no_more f left)).1)

pub returns-in_err-sync-clause-torn : goal.returns-in_err-sync-clause-torn
returns-in_err-sync-clause-torn g c =
    on_err c.from_residual-in_err-sync.result (subst (λ (o : Option (List ℕ)). Together (Torn c.args.end 1) (g.D.Disk.content c.args.disk.now) o) (sym c.sync.ensures.content)
    (gate_may c.args.end (g.D.Disk.content c.args.disk.now) (g.D.Disk.content c.write_at.new.self) (λ l told. c.requires l (g.met.D.Disk.as_read c.args.disk.now l told)) c.in_ok-write_at.ensures.written))
