use Rattle.std.proofs.Common.{◌∙◌, ap, sym, subst}
use Rattle.std.proofs.lemmas.List.Elements.{recursion_from_All}
use Rattle.deed_words.specs.Proper.{IsProperEntry}
use Rattle.epcis_events.specs.Documents.{IsInTime, document_text}
use Rattle.site_answers.proofs.Numbering.{document_is, in_turn, last_in_time}
use Rattle.site_answers.proofs.events.document_of.Goals as goal

pub document-requires-clause-created : goal.document-requires-clause-created
document-requires-clause-created c =
    let history = c.args.site.now.history in
    subst IsInTime (sym c.last_stamp.ensures) (last_in_time history (recursion_from_All IsProperEntry history c.tell_kept.ensures.proper))

pub returns : goal.returns
returns c =
    let site = c.args.site.now in
    let events = c.in_ok-events.events.items in
    let wrote = ap (λ es. document_text es c.last_stamp.result) c.deref.ensures.value ∙ ap (document_text events) c.last_stamp.ensures in
    in_turn c.document.result _ _
    (λ text is name found. document_is site.setup site.history name c.args.batch c.args.from c.args.count events text.items found c.in_ok-events.ensures.are (is ∙ wrote)) c.document.ensures
