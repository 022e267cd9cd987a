-- The text of a document, event by event.
use Rattle.std.proofs.Common.{◌≡◌, ℕ, ◌+◌, ◌<◌, ◌≤◌, List, [], ◌∷◌, ◌++◌, length, get_or, drop, Bool, true, false, codes, refl, sym, ap, ◌∙◌, append_assoc}
use Rattle.std.proofs.lemmas.List.{drop_more, drop_all}
use Rattle.serde_json.specs.Data.{string}
use Rattle.serde_json.specs.Written.{compact_text, items_text, comma_if}
use Rattle.serde_json.proofs.OnLiterals.{serde_json_on_literals}
use Rattle.epcis_events.specs.declared.event.Event.{Event}
use Rattle.epcis_events.specs.Moment.{moment_text}
use Rattle.epcis_events.specs.Documents.{event_data, events_data, document_data, document_text, document_front, document_back, events_text}

pub text_more : (out : List ℕ) (later : Bool) (events : List Event) (i : ℕ) (d : Event) → i < length events
    → out ++ items_text later (events_data (drop i events)) ≡ ((out ++ comma_if later) ++ compact_text (event_data (get_or events i d))) ++ items_text true (events_data (drop (i + 1) events))
text_more out later events i d h = rw (drop_more events i d h) (sym (append_assoc (out ++ comma_if later) _ _ ∙ append_assoc out (comma_if later) _))

pub text_end : (out : List ℕ) (later : Bool) (events : List Event) (i : ℕ) → length events ≤ i → out ++ items_text later (events_data (drop i events)) ≡ out ++ 93 ∷ []
text_end out later events i h = rw (drop_all i events h) refl

regroup : (a b c d e : List ℕ) → a ++ (b ++ (c ++ (d ++ e))) ≡ (((a ++ b) ++ c) ++ d) ++ e
regroup a b c d e = sym (append_assoc ((a ++ b) ++ c) d e ∙ append_assoc (a ++ b) c (d ++ e) ∙ append_assoc a b (c ++ (d ++ e)))

-- a document in pieces
pub document_is : (events : List Event) (created : ℕ) → document_text events created ≡ (document_front created ++ items_text false (events_data events)) ++ codes "},\"schemaVersion\":\"2.0\",\"type\":\"EPCISDocument\"}"
unfolding serde_json_on_literals document_text document_data document_front
document_is events created =
    ap (λ (tail : List ℕ). codes "{\"@context\":[\"https://ref.gs1.org/standards/epcis/2.0.0/epcis-context.jsonld\"],\"creationDate\":" ++ (compact_text (string (moment_text created)) ++ (codes ",\"epcisBody\":{\"eventList\":[" ++ tail)))
    (append_assoc (items_text false (events_data events)) (125 ∷ []) (codes ",\"schemaVersion\":\"2.0\",\"type\":\"EPCISDocument\"}"))
    ∙ regroup (codes "{\"@context\":[\"https://ref.gs1.org/standards/epcis/2.0.0/epcis-context.jsonld\"],\"creationDate\":") (compact_text (string (moment_text created))) (codes ",\"epcisBody\":{\"eventList\":[") (items_text false (events_data events)) (codes "},\"schemaVersion\":\"2.0\",\"type\":\"EPCISDocument\"}")

-- the items of an array are the texts of the events, and the closing bracket
events_closed : (later : Bool) (events : List Event) → items_text later (events_data events) ≡ events_text later events ++ 93 ∷ []
unfolding events_text
events_closed later [] = refl
events_closed later (event ∷ events) =
    ap (λ (tail : List ℕ). comma_if later ++ (compact_text (event_data event) ++ tail)) (events_closed true events)
    ∙ sym (append_assoc (comma_if later ++ compact_text (event_data event)) (events_text true events) (93 ∷ []) ∙ append_assoc (comma_if later) (compact_text (event_data event)) (events_text true events ++ 93 ∷ []))

pub in_parts : (events : List Event) (created : ℕ) → document_text events created ≡ document_front created ++ events_text false events ++ document_back
in_parts events created =
    let back = codes "},\"schemaVersion\":\"2.0\",\"type\":\"EPCISDocument\"}" in
    let front = document_front created in
    let texts = events_text false events in
    document_is events created
    ∙ ap (λ (items : List ℕ). (front ++ items) ++ back) (events_closed false events)
    ∙ append_assoc front (texts ++ 93 ∷ []) back
    ∙ ap (λ (tail : List ℕ). front ++ tail) (append_assoc texts (93 ∷ []) back)
    ∙ sym (append_assoc front texts document_back)
