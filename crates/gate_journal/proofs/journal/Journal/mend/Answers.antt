use Rattle.std.proofs.Common.{◌≡◌, ◌+◌, length}
use Rattle.gate_journal.specs.Gates.{WithOrWithout}
use Rattle.gate_journal.specs.Grammar.{block, front}
use Rattle.gate_journal.specs.Journals.{HoldsWithOrWithout}
use Rattle.gate_journal.proofs.Settled.{behind_all, all_behind, push_settled, with_or_without}
use Rattle.outside.proofs.Moments.{weaker}
use Rattle.gate_journal.proofs.journal.Journal.mend.Goals as goal

pub returns-in_default-open_gate-clause-fault : goal.returns-in_default-open_gate-clause-fault
returns-in_default-open_gate-clause-fault g c _ site ps p is =
    all_behind (g.D.Disk.image c.open_gate.new.disk) c.args.self.now.end c.args.self.now.pending site ps p is.behind is.site_fits is.payloads_fit is.fits
    (c.open_gate.ensures.half (front site ps) (block p) (behind_all (g.D.Disk.image c.args.self.now.disk) c.args.self.now.end c.args.self.now.pending site ps p is))

pub returns-in_default-open_gate-clause-any_moment : goal.returns-in_default-open_gate-clause-any_moment
returns-in_default-open_gate-clause-any_moment g c site ps p is =
    weaker g.D.Disk.moment g.D.Disk.image_since c.args.self.now.disk c.open_gate.new.disk (WithOrWithout (front site ps) (block p)) (HoldsWithOrWithout site ps p)
    (c.open_gate.ensures.any_moment (front site ps) (block p) (behind_all (g.D.Disk.image c.args.self.now.disk) c.args.self.now.end c.args.self.now.pending site ps p is))
    (λ d half. with_or_without site ps p d is.site_fits is.payloads_fit is.fits half)

pub returns-clause-any_moment : goal.returns-clause-any_moment
returns-clause-any_moment g c site ps p is =
    weaker g.D.Disk.moment g.D.Disk.image_since c.args.self.now.disk c.open_gate.new.disk (WithOrWithout (front site ps) (block p)) (HoldsWithOrWithout site ps p)
    (c.open_gate.ensures.any_moment (front site ps) (block p) (behind_all (g.D.Disk.image c.args.self.now.disk) c.args.self.now.end c.args.self.now.pending site ps p is))
    (λ d half. with_or_without site ps p d is.site_fits is.payloads_fit is.fits half)

pub returns-clause-ok : goal.returns-clause-ok
returns-clause-ok g c site ps p is =
    let was : c.in-Some.end ≡ c.args.self.now.end + 5 + length p = let h = c.in-Some.is in let k = is.behind in cc in
    push_settled (g.D.Disk.image c.open_gate.new.disk) c.args.self.now.end c.in-Some.end site ps p was is.site_fits is.payloads_fit is.fits
    (c.in-Ok.ensures.opened (front site ps) (block p) (behind_all (g.D.Disk.image c.args.self.now.disk) c.args.self.now.end c.args.self.now.pending site ps p is))

pub invariant_of-self : goal.invariant_of-self
invariant_of-self g c = record {
  there = c.open_gate.ensures.there c.args.self.now.end c.args.self.now.there;
  pending_there = λ n is. c.open_gate.ensures.there n (c.args.self.now.pending_there n is);
}

pub invariant_of-self-2 : goal.invariant_of-self-2
invariant_of-self-2 g c = record {
  there = c.open_gate.ensures.there c.in-Some.end (c.args.self.now.pending_there c.in-Some.end c.in-Some.is);
  pending_there = λ n is. absurd (cc);
}
