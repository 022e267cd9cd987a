use Rattle.std.proofs.Common.{◌∷◌, [], Err, ◌∙◌}
use Rattle.std.proofs.lemmas.Result.{err_from_is_err_and}
use Rattle.epcis_events.specs.Documents.{document_back}
use Rattle.site_console.specs.Newline.{newline}
use Rattle.site_console.proofs.Saying.{behind_said, first_said, said_as, write_behind}
use Rattle.site_console.proofs.exporting.put_back.Goals as goal

pub returns-clause-said : goal.returns-clause-said
returns-clause-said g c =
    let back = c.in_ok-put_text.ensures.said in
    behind_said (Unit {0}) _ _ _ document_back (newline ∷ []) c.put_text-2.result (back.0, back.1, back.2 ∙ c.close_document.ensures) c.put_text-2.ensures.said

pub returns-clause-write : goal.returns-clause-write
returns-clause-write g c = write_behind _ _ _ _ c.in_ok-put_text.ensures.write.kept c.put_text-2.ensures.write

pub returns-in_err-put_text-clause-said : goal.returns-in_err-put_text-clause-said
returns-in_err-put_text-clause-said g c =
    let p = err_from_is_err_and c.from_residual.result c.from_residual.ensures.1 in
    rw (p.1, p.2) (first_said (Unit {0}) (Unit {0}) _ _ document_back (newline ∷ []) c.in_err-put_text.field-0.0 (said_as (Unit {0}) _ _ _ _ (Err c.in_err-put_text.field-0.0) c.close_document.ensures c.in_err-put_text.ensures.said))
