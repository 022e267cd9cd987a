use Rattle.std.proofs.Common.{[], length, arith, inl}
use Rattle.gate_journal.specs.Gates.{EndsAt, WithOrWithout}
use Rattle.gate_journal.specs.Grammar.{header, IsFresh}
use Rattle.gate_journal.proofs.Crash.{either}
use Rattle.gate_journal.proofs.Making.{fresh_at, none_at, made_settled}
use Rattle.outside.proofs.Moments.{and_then}
use Rattle.gate_journal.proofs.init.write_header.Goals as goal

pub returns-in-Ok-open_gate-clause-reach : goal.returns-in-Ok-open_gate-clause-reach
returns-in-Ok-open_gate-clause-reach g c = c.in-Ok-open_gate.ensures.there (length c.args.body.now) (λ d left. let far = c.in-Ok.ensures.reach d left in omega (arith, far))

pub returns-in-Ok-open_gate-clause-made : goal.returns-in-Ok-open_gate-clause-made
returns-in-Ok-open_gate-clause-made g c site fits is at =
    made_settled (g.D.Disk.image c.open_gate.new.disk) site c.args.body.now fits is (c.in-Ok-open_gate.ensures.opened [] (header site) (c.in-Ok.ensures.staged [] (header site) is at))

pub returns-in-Ok-open_gate-clause-fresh : goal.returns-in-Ok-open_gate-clause-fresh
returns-in-Ok-open_gate-clause-fresh g c site fits is at d left =
    fresh_at site d fits (either [] (header site) d (c.in-Ok-open_gate.ensures.half [] (header site) (c.in-Ok.ensures.staged [] (header site) is at) d left).1)

pub returns-in-Err-clause-fresh : goal.returns-in-Err-clause-fresh
returns-in-Err-clause-fresh g c site fits is at d left =
    fresh_at site d fits (either [] (header site) d (c.open_gate.ensures.half [] (header site) (c.in-Ok.ensures.staged [] (header site) is at) d left).1)

pub returns-in-Ok-open_gate-clause-any_moment : goal.returns-in-Ok-open_gate-clause-any_moment
returns-in-Ok-open_gate-clause-any_moment g c site fits is at =
    and_then g.D.Disk.moment g.D.Disk.image_since c.args.disk.now c.stage.new.disk c.open_gate.new.disk (EndsAt []) (WithOrWithout [] (header site)) (IsFresh site)
    (c.stage.ensures.any_moment [] at) (c.open_gate.ensures.any_moment [] (header site) (c.in-Ok.ensures.staged [] (header site) is at))
    (λ d ends. inl (none_at d ends)) (λ d half. fresh_at site d fits half)

pub returns-in-Err-clause-any_moment : goal.returns-in-Err-clause-any_moment
returns-in-Err-clause-any_moment g c site fits is at =
    and_then g.D.Disk.moment g.D.Disk.image_since c.args.disk.now c.stage.new.disk c.open_gate.new.disk (EndsAt []) (WithOrWithout [] (header site)) (IsFresh site)
    (c.stage.ensures.any_moment [] at) (c.open_gate.ensures.any_moment [] (header site) (c.in-Ok.ensures.staged [] (header site) is at))
    (λ d ends. inl (none_at d ends)) (λ d half. fresh_at site d fits half)
