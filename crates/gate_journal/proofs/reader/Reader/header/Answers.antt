use Rattle.std.proofs.Common.{length-drop, take, drop, refl, ◌∙◌, arith}
use Rattle.gate_journal.proofs.Headers.{short_header, wrong_name, no_site, header_there}
use Rattle.gate_journal.proofs.reader.Reader.header.Goals as goal

pub returns-then-self-lt9-clause-none : goal.returns-then-self-lt9-clause-none
returns-then-self-lt9-clause-none g c _ d told =
    let size = c.args.self.now.sized d told in
    short_header (drop 1 d) (omega (arith, size, length-drop 1 d))

pub returns-in-Ok-false-clause-none : goal.returns-in-Ok-false-clause-none
returns-in-Ok-false-clause-none g c _ d told =
    wrong_name (take 8 (drop 1 d)) (drop 1 d) refl (λ same. let yes = (c.in-Ok-false.ensures.name d told).1 same in let no = c.in-Ok-false.field-0-test in cc)

pub returns-in-Ok-Some-clause-some : goal.returns-in-Ok-Some-clause-some
returns-in-Ok-Some-clause-some g c =
    let some = rw c.in-Ok-Some.field-0-is at c.in-Ok-Some.ensures.some in (
      some.0,
      omega (arith, some.1, c.in-Ok-true.ensures.size),
      λ d told. header_there (take 8 (drop 1 d)) d c.in-Ok-Some.site refl ((c.in-Ok-true.ensures.name d told).0 c.in-Ok-true.field-0-test) (some.2 d (c.in-Ok-true.ensures.untouched.content_same ∙ told)),
    )

pub returns-in-Ok-None-clause-none : goal.returns-in-Ok-None-clause-none
returns-in-Ok-None-clause-none g c _ d told = no_site d (c.in-Ok-None.ensures.none c.in-Ok-None.field-0-is d (c.in-Ok-true.ensures.untouched.content_same ∙ told))
