use Rattle.std.proofs.Common.{List, ℕ, subst, ◌∙◌}
use Rattle.site_console.specs.Files.{SaysSetup, is_source_fault}
use Rattle.site_console.proofs.Causing.{no_cause}
use Rattle.site_console.proofs.Filed.{said_whole, says_no_fault, reads_none}
use Rattle.site_console.proofs.site_file.read_setup.Goals as goal

pub returns-in-Ok-clause-reads : goal.returns-in-Ok-clause-reads
returns-in-Ok-clause-reads g c =
    let t = c.in-Ok.ensures.takes in
    (t.0, t.1, said_whole _ t.0 c.setup_in.result t.2.1 (subst (λ (bs : List ℕ). SaysSetup bs c.setup_in.result) (c.deref.ensures.value ∙ t.2.0) c.setup_in.ensures))

pub returns-in-Ok-clause-cause : goal.returns-in-Ok-clause-cause
returns-in-Ok-clause-cause g c = no_cause (is_source_fault c.setup_in.result) _ _ (says_no_fault _ c.setup_in.result c.setup_in.ensures) c.in-Ok.ensures.cause.kept

pub returns-in-Err-clause-reads : goal.returns-in-Err-clause-reads
returns-in-Err-clause-reads g c =
    let t = c.in-Err.ensures.takes in
    (t.0, t.1, reads_none _ t.0 c.in-Err.fault c.in-Err.ensures.fault)
