-- An array of URNs that grows.
use Rattle.std.proofs.Common.{◌≡◌, ℕ, List, [], ◌∷◌, ◌++◌, refl, ap, ap₂, sym, ◌∙◌}
use Rattle.serde_json.specs.Data.{Data, string, Items, no_items, item}
use Rattle.serde_json.specs.View.{view, items_view}
use Rattle.serde_json.specs.declared.value.Value.{Value}
use Rattle.epc_urn.specs.declared.epc.Epc.{Epc}
use Rattle.epc_urn.specs.Urns.{urn_text}
use Rattle.epcis_events.specs.Documents.{urns_of}

abbrev item_last : Items → Data → Items
item_last no_items e = item e no_items
item_last (item d ds) e = item d (item_last ds e)

items_view-push : (vs : List Value) (v : Value) → items_view (vs ++ v ∷ []) ≡ item_last (items_view vs) (view v)
items_view-push [] v = refl
items_view-push (x ∷ vs) v = ap (item (view x)) (items_view-push vs v)

urns_of-last : (named : List (Epc × ℕ)) (one : Epc × ℕ) → urns_of (named ++ one ∷ []) ≡ item_last (urns_of named) (string (urn_text one.0 one.1))
urns_of-last [] one = refl
urns_of-last (x ∷ named) one = ap (item (string (urn_text x.0 x.1))) (urns_of-last named one)

pub urns_of-push : (vs : List Value) (v : Value) (named : List (Epc × ℕ)) (one : Epc × ℕ) → items_view vs ≡ urns_of named → view v ≡ string (urn_text one.0 one.1) → items_view (vs ++ v ∷ []) ≡ urns_of (named ++ one ∷ [])
urns_of-push vs v named one same is = items_view-push vs v ∙ ap₂ item_last same is ∙ sym (urns_of-last named one)
