use Rattle.std.proofs.Common.{ℕ, List, ◌++◌, ◌∙◌, sym, ap, codes, false}
use Rattle.serde_json.specs.Written.{items_text}
use Rattle.epcis_events.specs.Documents.{events_data}
use Rattle.epcis_events.proofs.Pieces.{document_is}
use Rattle.epcis_events.proofs.writing.document_bytes.Goals as goal

pub returns : goal.returns
returns c =
    c.in_ok-extend_from_slice.ensures.items
    ∙ ap (λ (xs : List ℕ). xs ++ codes "},\"schemaVersion\":\"2.0\",\"type\":\"EPCISDocument\"}") (c.in_ok-push_events.ensures
    ∙ ap (λ (xs : List ℕ). xs ++ items_text false (events_data c.args.events.now)) c.in_ok-out.ensures)
    ∙ sym (document_is c.args.events.now c.args.created)
