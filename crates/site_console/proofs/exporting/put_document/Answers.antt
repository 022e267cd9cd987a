use Rattle.std.proofs.Common.{◌++◌, ◌-◌, ◌∷◌, [], Some, Err, false, take, drop, ◌∙◌}
use Rattle.std.proofs.lemmas.Result.{err_from_is_err_and}
use Rattle.deed_words.specs.History.{last_stamp}
use Rattle.epcis_events.specs.Documents.{document_back, document_front, events_text}
use Rattle.site_console.specs.Looks.{events_seen}
use Rattle.site_console.specs.Newline.{newline}
use Rattle.site_console.proofs.Causing.{write_carried}
use Rattle.site_console.proofs.Exported.{export_parts}
use Rattle.site_console.proofs.Saying.{behind_said, first_said, said_as, write_behind}
use Rattle.site_console.proofs.exporting.put_document.Goals as goal

pub returns-clause-said : goal.returns-clause-said
returns-clause-said g c name found =
    let site = c.args.site.now in
    let front = document_front (last_stamp site.history) in
    let texts = events_text false (take c.args.count (drop (c.args.from - 1) (events_seen site.setup site.history (Some c.args.batch)))) in
    let back = document_back ++ newline ∷ [] in
    said_as (Unit {0}) _ _ _ _ c.put_back.result (export_parts c.documents_have_parts.ensures site.setup site.history name c.args.batch c.args.from c.args.count found)
    (behind_said (Unit {0}) _ _ _ front (texts ++ back) c.put_back.result c.in_ok-put_front.ensures.said (behind_said (Unit {0}) _ _ _ texts back c.put_back.result c.in_ok-put_events.ensures.said c.put_back.ensures.said))

pub returns-in_err-put_front-clause-said : goal.returns-in_err-put_front-clause-said
returns-in_err-put_front-clause-said g c name found =
    let site = c.args.site.now in
    let front = document_front (last_stamp site.history) in
    let texts = events_text false (take c.args.count (drop (c.args.from - 1) (events_seen site.setup site.history (Some c.args.batch)))) in
    let back = document_back ++ newline ∷ [] in
    let p = err_from_is_err_and c.from_residual.result c.from_residual.ensures.1 in
    rw (p.1, p.2) (said_as (Unit {0}) _ _ _ _ (Err c.in_err-put_front.field-0.0) (export_parts c.documents_have_parts.ensures site.setup site.history name c.args.batch c.args.from c.args.count found)
    (first_said (Unit {0}) (Unit {0}) _ _ front (texts ++ back) c.in_err-put_front.field-0.0 c.in_err-put_front.ensures.said))

pub returns-in_err-put_events-clause-said : goal.returns-in_err-put_events-clause-said
returns-in_err-put_events-clause-said g c name found =
    let site = c.args.site.now in
    let front = document_front (last_stamp site.history) in
    let texts = events_text false (take c.args.count (drop (c.args.from - 1) (events_seen site.setup site.history (Some c.args.batch)))) in
    let back = document_back ++ newline ∷ [] in
    let p = err_from_is_err_and c.from_residual-in_err-put_events.result c.from_residual-in_err-put_events.ensures.1 in
    rw (p.1, p.2) (said_as (Unit {0}) _ _ _ _ (Err c.in_err-put_events.field-0.0) (export_parts c.documents_have_parts.ensures site.setup site.history name c.args.batch c.args.from c.args.count found)
    (behind_said (Unit {0}) _ _ _ front (texts ++ back) (Err c.in_err-put_events.field-0.0) c.in_ok-put_front.ensures.said (first_said (Unit {0}) (Unit {0}) _ _ texts back c.in_err-put_events.field-0.0 c.in_err-put_events.ensures.said)))

pub returns-clause-write : goal.returns-clause-write
returns-clause-write g c = write_behind _ _ _ _ (c.in_ok-put_events.ensures.write.kept ∙ c.in_ok-put_front.ensures.write.kept) c.put_back.ensures.write

pub returns-in_err-put_events-clause-write : goal.returns-in_err-put_events-clause-write
returns-in_err-put_events-clause-write g c =
    let p = err_from_is_err_and c.from_residual-in_err-put_events.result c.from_residual-in_err-put_events.ensures.1 in
    rw (p.1, p.2) (write_carried (Unit {0}) (Unit {0}) c.in_err-put_events.field-0.0 _ _ _ c.in_ok-put_front.ensures.write.kept c.in_err-put_events.ensures.write)
