use Rattle.std.proofs.Common.{List, ℕ, length}
use Rattle.gate_journal.specs.Gates.{EndsAt}
use Rattle.gate_journal.proofs.Crash.{on_err, stage_torn, stage_synced, stage_reaches, no_more}
use Rattle.outside.proofs.Moments.{started, goes_on}
use Rattle.gate_journal.proofs.gates.stage.Goals as goal

pub returns-in_err-write_at-clause-failed : goal.returns-in_err-write_at-clause-failed
returns-in_err-write_at-clause-failed g c =
    on_err c.from_residual.result (λ (front : List ℕ) at. stage_torn g.D.Disk.image g.D.Disk.content g.met.D.Disk.as_read c.args.disk.now c.write_at.new.self c.args.end (length c.args.body.now) front c.write_at.ensures.images at)

pub returns-in_err-write_at-clause-any_moment : goal.returns-in_err-write_at-clause-any_moment
returns-in_err-write_at-clause-any_moment g c front at =
    let written = stage_torn g.D.Disk.image g.D.Disk.content g.met.D.Disk.as_read c.args.disk.now c.write_at.new.self c.args.end (length c.args.body.now) front c.write_at.ensures.images at in
    let first = started g.D.Disk.moment g.D.Disk.image_since c.args.disk.now (EndsAt front) (λ f left. (at f (g.met.D.Disk.only_now c.args.disk.now f left)).1) in
    goes_on g.D.Disk.moment g.D.Disk.image_since c.args.disk.now c.args.disk.now c.write_at.new.self (EndsAt front) _ first c.write_at.ensures.time (λ f left. (written f left).1)

pub returns-in_err-sync-clause-failed : goal.returns-in_err-sync-clause-failed
returns-in_err-sync-clause-failed g c =
    on_err c.from_residual-in_err-sync.result (λ (front : List ℕ) at.
    no_more g.D.Disk.image g.D.Disk.content g.met.D.Disk.as_read c.write_at.new.self c.sync.new.self c.args.end front (EndsAt front) c.sync.ensures.no_more
    (stage_torn g.D.Disk.image g.D.Disk.content g.met.D.Disk.as_read c.args.disk.now c.write_at.new.self c.args.end (length c.args.body.now) front c.write_at.ensures.images at))

pub returns-in_err-sync-clause-any_moment : goal.returns-in_err-sync-clause-any_moment
returns-in_err-sync-clause-any_moment g c front at =
    let written = stage_torn g.D.Disk.image g.D.Disk.content g.met.D.Disk.as_read c.args.disk.now c.write_at.new.self c.args.end (length c.args.body.now) front c.write_at.ensures.images at in
    let first = started g.D.Disk.moment g.D.Disk.image_since c.args.disk.now (EndsAt front) (λ f left. (at f (g.met.D.Disk.only_now c.args.disk.now f left)).1) in
    let second = goes_on g.D.Disk.moment g.D.Disk.image_since c.args.disk.now c.args.disk.now c.write_at.new.self (EndsAt front) _ first c.write_at.ensures.time (λ f left. (written f left).1) in
    goes_on g.D.Disk.moment g.D.Disk.image_since c.args.disk.now c.write_at.new.self c.sync.new.self (EndsAt front) _ second c.sync.ensures.time (λ f left. (written f (c.sync.ensures.no_more f left)).1)

pub returns-clause-staged : goal.returns-clause-staged
returns-clause-staged g c front block is at =
    stage_synced g.D.Disk.image g.D.Disk.content g.met.D.Disk.as_read c.args.disk.now c.write_at.new.self c.sync.new.self c.args.end front block c.args.body.now is c.in_ok-write_at.ensures.written c.in_ok-sync.ensures.synced at

pub returns-clause-any_moment : goal.returns-clause-any_moment
returns-clause-any_moment g c front at =
    let written = stage_torn g.D.Disk.image g.D.Disk.content g.met.D.Disk.as_read c.args.disk.now c.write_at.new.self c.args.end (length c.args.body.now) front c.write_at.ensures.images at in
    let first = started g.D.Disk.moment g.D.Disk.image_since c.args.disk.now (EndsAt front) (λ f left. (at f (g.met.D.Disk.only_now c.args.disk.now f left)).1) in
    let second = goes_on g.D.Disk.moment g.D.Disk.image_since c.args.disk.now c.args.disk.now c.write_at.new.self (EndsAt front) _ first c.write_at.ensures.time (λ f left. (written f left).1) in
    goes_on g.D.Disk.moment g.D.Disk.image_since c.args.disk.now c.write_at.new.self c.sync.new.self (EndsAt front) _ second c.sync.ensures.time (λ f left. (written f (c.sync.ensures.no_more f left)).1)

pub returns-clause-reach : goal.returns-clause-reach
returns-clause-reach g c =
    stage_reaches g.D.Disk.image g.D.Disk.content g.met.D.Disk.as_read c.args.disk.now c.write_at.new.self c.sync.new.self c.args.end c.args.body.now c.in_ok-write_at.ensures.written c.in_ok-sync.ensures.synced c.requires.there
