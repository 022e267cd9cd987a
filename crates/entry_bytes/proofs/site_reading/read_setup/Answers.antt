use Rattle.std.proofs.Common.{arith, subst, sym}
use Rattle.std.proofs.lemmas.Result.{err_from_is_err_and}
use Rattle.deed_words.specs.Setups.{Setup}
use Rattle.entry_bytes.specs.Sites.{SpellsSetup}
use Rattle.entry_bytes.proofs.SiteWhole.{site_found, site_proper_read, err_only, ok_only}
use Rattle.entry_bytes.proofs.site_reading.read_setup.Goals as goal

pub returns-in_err-parts-clause-only : goal.returns-in_err-parts-clause-only
returns-in_err-parts-clause-only c =
    let p = err_from_is_err_and c.from_residual.result c.from_residual.ensures.1 in
    rw (p.1, p.2) (err_only c.args.bytes.now c.in_err-parts.field-0.0 c.in_err-parts.ensures)

pub made_of-requires : goal.made_of-requires
made_of-requires c = site_proper_read c.args.bytes.now c.in_ok-parts.parts (λ i. omega (arith, c.type_inv.bytes i)) c.in_ok-parts.ensures

pub returns-clause-found : goal.returns-clause-found
returns-clause-found c = subst (λ (s : Setup). SpellsSetup s c.args.bytes.now) (sym c.made_of.ensures) (site_found c.args.bytes.now c.in_ok-parts.parts (λ i. omega (arith, c.type_inv.bytes i)) c.in_ok-parts.ensures)

pub returns-clause-only : goal.returns-clause-only
returns-clause-only c = rw c.made_of.ensures (ok_only c.args.bytes.now c.in_ok-parts.parts c.in_ok-parts.ensures)
