use Rattle.std.proofs.Common.{◌∙◌}
use Rattle.site_console.proofs.Saying.{no_fault, said_as, unsaid}
use Rattle.site_console.proofs.exporting.put_event.Goals as goal

pub returns-in-Ok-clause-said : goal.returns-in-Ok-clause-said
returns-in-Ok-clause-said g c = said_as (Unit {0}) _ _ _ _ c.put_text.result (c.deref.ensures.value ∙ c.in-Ok.ensures) c.put_text.ensures.said

pub returns-in-Err-clause-said : goal.returns-in-Err-clause-said
returns-in-Err-clause-said g c = unsaid (Unit {0}) _ _

pub returns-in-Err-clause-write : goal.returns-in-Err-clause-write
returns-in-Err-clause-write g c = no_fault _
