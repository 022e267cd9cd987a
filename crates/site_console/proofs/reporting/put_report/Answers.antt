use Rattle.std.proofs.Common.{◌∙◌, sym}
use Rattle.site_console.proofs.Reported.{same_text}
use Rattle.site_console.proofs.Saying.{no_fault, said_as, unsaid}
use Rattle.site_console.proofs.reporting.put_report.Goals as goal

pub returns-in-Ok-clause-said : goal.returns-in-Ok-clause-said
returns-in-Ok-clause-said g c name text found told = said_as (Unit {0}) _ _ _ text c.put_text.result (c.deref.ensures.value ∙ same_text c.in-Ok.text.items text (sym (c.in-Ok.ensures name found) ∙ told)) c.put_text.ensures.said

pub returns-in-Err-clause-said : goal.returns-in-Err-clause-said
returns-in-Err-clause-said g c name text found told = unsaid (Unit {0}) _ text

pub returns-in-Err-clause-write : goal.returns-in-Err-clause-write
returns-in-Err-clause-write g c = no_fault _
