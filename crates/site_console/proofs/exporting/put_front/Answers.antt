use Rattle.std.proofs.Common.{◌∙◌, subst, sym}
use Rattle.std.proofs.lemmas.List.Elements.{recursion_from_All}
use Rattle.deed_words.specs.Proper.{IsProperEntry}
use Rattle.epcis_events.specs.Documents.{IsInTime}
use Rattle.site_console.proofs.Exported.{last_in_time}
use Rattle.site_console.proofs.Saying.{no_fault, said_as, unsaid}
use Rattle.site_console.proofs.exporting.put_front.Goals as goal

pub open_document-requires : goal.open_document-requires
open_document-requires g c =
    let history = c.args.site.now.history in
    subst IsInTime (sym c.last_stamp.ensures) (last_in_time history (recursion_from_All IsProperEntry history c.tell_kept.ensures.proper))

pub returns-in-Ok-clause-said : goal.returns-in-Ok-clause-said
returns-in-Ok-clause-said g c = rw (sym c.last_stamp.ensures) (said_as (Unit {0}) _ _ _ _ c.put_text.result (c.deref.ensures.value ∙ c.in-Ok.ensures) c.put_text.ensures.said)

pub returns-in-Err-clause-said : goal.returns-in-Err-clause-said
returns-in-Err-clause-said g c = unsaid (Unit {0}) _ _

pub returns-in-Err-clause-write : goal.returns-in-Err-clause-write
returns-in-Err-clause-write g c = no_fault _
