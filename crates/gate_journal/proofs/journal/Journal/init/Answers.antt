use Rattle.std.proofs.Common.{◌⊎◌, inl, inr, ⊎_elim, ◌∙◌, arith, ap, subst, ℕ, List, [], ◌∷◌, length}
use Rattle.std.proofs.lemmas.List.{length-append}
use Rattle.gate_journal.specs.Grammar.{header, IsNone, IsFresh}
use Rattle.gate_journal.specs.Journals.{Writes}
use Rattle.outside.proofs.Moments.{and_then}
use Rattle.gate_journal.proofs.Writing.{header_written}
use Rattle.gate_journal.proofs.Loading.{length-header}
use Rattle.gate_journal.proofs.FirstWrite.{fresh_or_untouched, and_fresh}
use Rattle.gate_journal.proofs.journal.Journal.init.Goals as goal

pub returns-in-Err-shut_front-clause-first_write_err : goal.returns-in-Err-shut_front-clause-first_write_err
returns-in-Err-shut_front-clause-first_write_err g c =
    fresh_or_untouched g.D.Disk.content g.D.Disk.image g.D.Disk.moment g.D.Disk.image_since c.args.site.now c.args.disk c.shut_front.new.disk c.in-Err-shut_front.ensures.first_write_err

pub returns-in-Ok-write_header-clause-first_write : goal.returns-in-Ok-write_header-clause-first_write
returns-in-Ok-write_header-clause-first_write g c =
    and_fresh g.D.Disk.content g.D.Disk.image g.D.Disk.moment g.D.Disk.image_since c.args.site.now c.args.disk c.shut_front.new.disk c.write_header.new.disk c.in_default.ensures.first_write
    (c.in-Ok-write_header.ensures.any_moment c.args.site.now (omega (arith, c.requires)) (c.deref.ensures.value ∙ c.in-Ok.ensures.bytes) c.in_default.ensures.shut)

pub returns-clause-first_write_err : goal.returns-clause-first_write_err
returns-clause-first_write_err g c =
    inr (and_fresh g.D.Disk.content g.D.Disk.image g.D.Disk.moment g.D.Disk.image_since c.args.site.now c.args.disk c.shut_front.new.disk c.write_header.new.disk c.in_default.ensures.first_write
    (c.in-Err-write_header.ensures.any_moment c.args.site.now (omega (arith, c.requires)) (c.deref.ensures.value ∙ c.in-Ok.ensures.bytes) c.in_default.ensures.shut))

pub returns-in-Ok-write_header-clause-end : goal.returns-in-Ok-write_header-clause-end
returns-in-Ok-write_header-clause-end g c =
    let site = c.args.site.now in
    let is = ap (λ (l : List ℕ). length l) c.in-Ok.ensures.bytes in
    let long = length-append (header site) (0 ∷ []) in
    let head = length-header site in
    grind (arith, is, long, head)

pub returns-in-Ok-write_header-clause-wrote : goal.returns-in-Ok-write_header-clause-wrote
returns-in-Ok-write_header-clause-wrote g c =
    subst (λ (body : List ℕ). Writes 0 (1 ∷ body) (g.D.Disk.content c.args.disk) (g.D.Disk.content c.write_header.new.disk)) (c.deref.ensures.value ∙ c.in-Ok.ensures.bytes)
    (header_written c.deref.result.now (g.D.Disk.content c.args.disk) (g.D.Disk.content c.shut_front.new.disk) (g.D.Disk.content c.write_header.new.disk) c.in_default.ensures.wrote c.in-Ok-write_header.ensures.wrote)

pub returns-in-Err-shut_front-clause-failed : goal.returns-in-Err-shut_front-clause-failed
returns-in-Err-shut_front-clause-failed g c = ⊎_elim (λ same. inl same) (λ none. inr (λ d left. inl (none d left))) c.in-Err-shut_front.ensures.failed

pub returns-clause-any_moment_err : goal.returns-clause-any_moment_err
returns-clause-any_moment_err g c =
    and_then g.D.Disk.moment g.D.Disk.image_since c.args.disk c.shut_front.new.disk c.write_header.new.disk (λ d. g.D.Disk.image c.args.disk d ⊎ IsNone d) (IsFresh c.args.site.now) (λ d. g.D.Disk.image c.args.disk d ⊎ IsFresh c.args.site.now d)
    c.in_default.ensures.any_moment
    (c.in-Err-write_header.ensures.any_moment c.args.site.now (omega (arith, c.requires)) (c.deref.ensures.value ∙ c.in-Ok.ensures.bytes) c.in_default.ensures.shut)
    (λ d was. ⊎_elim (λ l. inl l) (λ r. inr (inl r)) was) (λ d fresh. inr fresh)
