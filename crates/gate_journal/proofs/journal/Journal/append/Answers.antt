use Rattle.std.proofs.Common.{◌≡◌, ◌+◌, ◌∷◌, List, ℕ, inl, inr, length, ap, subst, arith, Some}
use Rattle.gate_journal.specs.Gates.{EndsAt, WithOrWithout}
use Rattle.gate_journal.specs.Grammar.{block, front, Holds, IsShort}
use Rattle.gate_journal.specs.Journals.{HoldsWithOrWithout, Writes}
use Rattle.gate_journal.proofs.Blocks.{length-framed}
use Rattle.gate_journal.proofs.Settled.{settled_all, all_settled, all_behind, push_settled, without, with_or_without}
use Rattle.gate_journal.proofs.Writing.{both_written, body_torn, gate_torn}
use Rattle.outside.proofs.Moments.{and_then, weaker}
use Rattle.gate_journal.proofs.journal.Journal.append.Goals as goal

pub returns-in_default-clause-fault : goal.returns-in_default-clause-fault
returns-in_default-clause-fault g c _ site ps is =
    inl (all_settled (g.D.Disk.image c.stage.new.disk) c.args.self.now.end c.args.self.now.pending site ps is.settled is.site_fits is.payloads_fit
    (c.in_default.ensures.failed (front site ps) (settled_all (g.D.Disk.image c.args.self.now.disk) c.args.self.now.end c.args.self.now.pending site ps is)))

pub returns-in_default-clause-any_moment : goal.returns-in_default-clause-any_moment
returns-in_default-clause-any_moment g c site ps is =
    weaker g.D.Disk.moment g.D.Disk.image_since c.args.self.now.disk c.stage.new.disk (EndsAt (front site ps)) (HoldsWithOrWithout site ps c.args.frame.now)
    (c.stage.ensures.any_moment (front site ps) (settled_all (g.D.Disk.image c.args.self.now.disk) c.args.self.now.end c.args.self.now.pending site ps is))
    (λ d ends. without site ps c.args.frame.now d is.site_fits is.payloads_fit ends)

pub returns-in_default-open_gate-clause-fault : goal.returns-in_default-open_gate-clause-fault
returns-in_default-open_gate-clause-fault g c _ site ps is =
    let short : IsShort c.args.frame.now = omega (arith, c.len-asked.ensures.length, c.len-asked.ensures.bound) in
    let staged = c.in-Ok.ensures.staged (front site ps) (block c.args.frame.now) c.bytes.ensures (settled_all (g.D.Disk.image c.args.self.now.disk) c.args.self.now.end c.args.self.now.pending site ps is) in
    inr (all_behind (g.D.Disk.image c.open_gate.new.disk) c.args.self.now.end (Some (c.args.self.now.end + 5 + c.len-asked.result)) site ps c.args.frame.now
    (ap (λ n. Some (c.args.self.now.end + 5 + n)) c.len-asked.ensures.length) is.site_fits is.payloads_fit short
    (c.open_gate.ensures.half (front site ps) (block c.args.frame.now) staged))

pub returns-in_default-open_gate-clause-any_moment : goal.returns-in_default-open_gate-clause-any_moment
returns-in_default-open_gate-clause-any_moment g c site ps is =
    let short : IsShort c.args.frame.now = omega (arith, c.len-asked.ensures.length, c.len-asked.ensures.bound) in
    let all = settled_all (g.D.Disk.image c.args.self.now.disk) c.args.self.now.end c.args.self.now.pending site ps is in
    let staged = c.in-Ok.ensures.staged (front site ps) (block c.args.frame.now) c.bytes.ensures all in
    and_then g.D.Disk.moment g.D.Disk.image_since c.args.self.now.disk c.stage.new.disk c.open_gate.new.disk (EndsAt (front site ps)) (WithOrWithout (front site ps) (block c.args.frame.now)) (HoldsWithOrWithout site ps c.args.frame.now)
    (c.stage.ensures.any_moment (front site ps) all) (c.open_gate.ensures.any_moment (front site ps) (block c.args.frame.now) staged)
    (λ d ends. without site ps c.args.frame.now d is.site_fits is.payloads_fit ends)
    (λ d half. with_or_without site ps c.args.frame.now d is.site_fits is.payloads_fit short half)

pub returns-clause-any_moment : goal.returns-clause-any_moment
returns-clause-any_moment g c site ps is =
    let short : IsShort c.args.frame.now = omega (arith, c.len-asked.ensures.length, c.len-asked.ensures.bound) in
    let all = settled_all (g.D.Disk.image c.args.self.now.disk) c.args.self.now.end c.args.self.now.pending site ps is in
    let staged = c.in-Ok.ensures.staged (front site ps) (block c.args.frame.now) c.bytes.ensures all in
    and_then g.D.Disk.moment g.D.Disk.image_since c.args.self.now.disk c.stage.new.disk c.open_gate.new.disk (EndsAt (front site ps)) (WithOrWithout (front site ps) (block c.args.frame.now)) (HoldsWithOrWithout site ps c.args.frame.now)
    (c.stage.ensures.any_moment (front site ps) all) (c.open_gate.ensures.any_moment (front site ps) (block c.args.frame.now) staged)
    (λ d ends. without site ps c.args.frame.now d is.site_fits is.payloads_fit ends)
    (λ d half. with_or_without site ps c.args.frame.now d is.site_fits is.payloads_fit short half)

pub returns-clause-ok : goal.returns-clause-ok
returns-clause-ok g c site ps is =
    let short : IsShort c.args.frame.now = omega (arith, c.len-asked.ensures.length, c.len-asked.ensures.bound) in
    let all = settled_all (g.D.Disk.image c.args.self.now.disk) c.args.self.now.end c.args.self.now.pending site ps is in
    let staged = c.in-Ok.ensures.staged (front site ps) (block c.args.frame.now) c.bytes.ensures all in
    push_settled (g.D.Disk.image c.open_gate.new.disk) c.args.self.now.end (c.args.self.now.end + 5 + c.len-asked.result) site ps c.args.frame.now
    (ap (λ n. c.args.self.now.end + 5 + n) c.len-asked.ensures.length) is.site_fits is.payloads_fit short (c.in-Ok-open_gate.ensures.opened (front site ps) (block c.args.frame.now) staged)

pub invariant_of-self-in_default-open_gate : goal.invariant_of-self-in_default-open_gate
invariant_of-self-in_default-open_gate g c =
    let body : length c.bytes.result.now ≡ 5 + length c.args.frame.now = length-framed c.args.frame.now c.bytes.result.now c.bytes.ensures in
    let reach = c.open_gate.ensures.there (c.args.self.now.end + length c.bytes.result.now) c.in-Ok.ensures.reach in
    record {
      there = c.open_gate.ensures.there c.args.self.now.end c.stage.ensures.there;
      pending_there = λ n is d left. let far = reach d left in let same : c.args.self.now.end + 5 + c.len-asked.result ≡ n = cc in omega (arith, far, same, body, c.len-asked.ensures.length);
    }

pub invariant_of-self-2 : goal.invariant_of-self-2
invariant_of-self-2 g c =
    let body : length c.bytes.result.now ≡ 5 + length c.args.frame.now = length-framed c.args.frame.now c.bytes.result.now c.bytes.ensures in
    let reach = c.open_gate.ensures.there (c.args.self.now.end + length c.bytes.result.now) c.in-Ok.ensures.reach in
    record {
      there = λ d left. let far = reach d left in omega (arith, far, body, c.len-asked.ensures.length);
      pending_there = λ n is. absurd (cc);
    }

pub returns-in_default-clause-as_before : goal.returns-in_default-clause-as_before
returns-in_default-clause-as_before g c _ _ site ps is =
    weaker g.D.Disk.moment g.D.Disk.image_since c.args.self.now.disk c.stage.new.disk (EndsAt (front site ps)) (Holds site ps)
    (c.stage.ensures.any_moment (front site ps) (settled_all (g.D.Disk.image c.args.self.now.disk) c.args.self.now.end c.args.self.now.pending site ps is))
    (λ d ends. record { site_fits = is.site_fits; payloads_fit = is.payloads_fit; ends = ends })

pub returns-in_default-clause-torn : goal.returns-in_default-clause-torn
returns-in_default-clause-torn g c _ =
    let body : length c.bytes.result.now ≡ 5 + length c.args.frame.now = length-framed c.args.frame.now c.bytes.result.now c.bytes.ensures in
    body_torn c.args.self.now.end (length c.bytes.result.now) (6 + length c.args.frame.now) (g.D.Disk.content c.args.self.now.disk) (g.D.Disk.content c.stage.new.disk) (omega (arith, body)) c.in_default.ensures.torn

pub returns-in_default-open_gate-clause-torn : goal.returns-in_default-open_gate-clause-torn
returns-in_default-open_gate-clause-torn g c _ =
    let body : length c.bytes.result.now ≡ 5 + length c.args.frame.now = length-framed c.args.frame.now c.bytes.result.now c.bytes.ensures in
    gate_torn c.args.self.now.end (6 + length c.args.frame.now) c.bytes.result.now (g.D.Disk.content c.args.self.now.disk) (g.D.Disk.content c.stage.new.disk) (g.D.Disk.content c.open_gate.new.disk) (omega (arith, body))
    (λ l told. c.args.self.now.there l (g.met.D.Disk.as_read c.args.self.now.disk l told)) c.in-Ok.ensures.wrote c.in_default-open_gate.ensures.torn

pub returns-clause-wrote : goal.returns-clause-wrote
returns-clause-wrote g c =
    subst (λ (body : List ℕ). Writes c.args.self.now.end (1 ∷ body) (g.D.Disk.content c.args.self.now.disk) (g.D.Disk.content c.open_gate.new.disk)) c.bytes.ensures
    (both_written c.args.self.now.end c.bytes.result.now (g.D.Disk.content c.args.self.now.disk) (g.D.Disk.content c.stage.new.disk) (g.D.Disk.content c.open_gate.new.disk)
    (λ l told. c.args.self.now.there l (g.met.D.Disk.as_read c.args.self.now.disk l told)) c.in-Ok.ensures.wrote c.in-Ok-open_gate.ensures.wrote)
