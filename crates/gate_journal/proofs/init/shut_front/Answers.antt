use Rattle.std.proofs.Common.{◌≡◌, ◌∷◌, ℕ, length, drop, ◌∙◌, ap, refl, arith}
use Rattle.gate_journal.proofs.Loading.{none_shut}
use Rattle.outside.proofs.Moments.{started}
use Rattle.gate_journal.specs.Grammar.{IsNone}
use Rattle.gate_journal.proofs.Making.{there, shut_at, none_at}
use Rattle.gate_journal.proofs.Touch.{and_untouched}
use Rattle.gate_journal.proofs.init.shut_front.Goals as goal

pub returns-then-gate-eq1-clause-there : goal.returns-then-gate-eq1-clause-there
returns-then-gate-eq1-clause-there g c _ d told =
    let size : c.in-Ok.size ≡ length d = c.in-Ok.ensures.size d told in
    let first = c.in-Ok-front_byte.ensures.read d (c.in-Ok.ensures.untouched.content_same ∙ told) in
    there d (omega (arith, size)) (first ∙ ap (λ (k : ℕ). k ∷ drop 1 d) c.if-gate-eq1.true)

pub returns-clause-shut : goal.returns-clause-shut
returns-clause-shut g c d left =
    let told = c.in-Ok.ensures.synced d (c.in-Ok-front_byte.ensures.untouched.no_more d left) in
    (refl, shut_at d c.in-Ok-front_byte.gate (c.in-Ok-front_byte.ensures.read d (c.in-Ok.ensures.untouched.content_same ∙ told)) (λ is. absurd (omega (arith, is))))

pub returns-clause-none : goal.returns-clause-none
returns-clause-none g c d told =
    none_shut d c.in-Ok-front_byte.gate (c.in-Ok-front_byte.ensures.read d (c.in-Ok.ensures.untouched.content_same ∙ told)) (λ is. absurd (omega (arith, is)))

pub returns-clause-first_write : goal.returns-clause-first_write
returns-clause-first_write g c = record {
  mid = c.front_byte.new.disk;
  untouched = and_untouched g.D.Disk.content g.D.Disk.image g.D.Disk.moment g.D.Disk.image_since c.args.disk.now c.measure.new.disk c.front_byte.new.disk c.in-Ok.ensures.untouched c.in-Ok-front_byte.ensures.untouched;
  since_then = started g.D.Disk.moment g.D.Disk.image_since c.front_byte.new.disk IsNone (λ d left. none_at d (returns-clause-shut g c d (g.met.D.Disk.only_now c.front_byte.new.disk d left)).1);
}
