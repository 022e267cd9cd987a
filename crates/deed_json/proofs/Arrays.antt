-- An array that grows by a value, and a list that grows by an item.
use Rattle.std.proofs.Common.{◌≡◌, ℕ, List, [], ◌∷◌, ◌++◌, refl, ap, ap₂, sym, ◌∙◌}
use Rattle.serde_json.specs.Data.{Data, string, Items, no_items, item}
use Rattle.serde_json.specs.View.{view, items_view}
use Rattle.serde_json.specs.declared.value.Value.{Value}
use Rattle.deed_json.specs.Objects.{whole, texts_of, numbers_of}

-- one more item at the end
abbrev item_last : Items → Data → Items
item_last no_items e = item e no_items
item_last (item d ds) e = item d (item_last ds e)

items_view-push : (vs : List Value) (v : Value) → items_view (vs ++ v ∷ []) ≡ item_last (items_view vs) (view v)
items_view-push [] v = refl
items_view-push (x ∷ vs) v = ap (item (view x)) (items_view-push vs v)

texts_of-last : (texts : List (List ℕ)) (text : List ℕ) → texts_of (texts ++ text ∷ []) ≡ item_last (texts_of texts) (string text)
texts_of-last [] text = refl
texts_of-last (x ∷ texts) text = ap (item (string x)) (texts_of-last texts text)

numbers_of-last : (ns : List ℕ) (n : ℕ) → numbers_of (ns ++ n ∷ []) ≡ item_last (numbers_of ns) (whole n)
numbers_of-last [] n = refl
numbers_of-last (x ∷ ns) n = ap (item (whole x)) (numbers_of-last ns n)

-- one more value, and one more text
pub texts_of-push : (vs : List Value) (v : Value) (texts : List (List ℕ)) (text : List ℕ) → items_view vs ≡ texts_of texts → view v ≡ string text → items_view (vs ++ v ∷ []) ≡ texts_of (texts ++ text ∷ [])
texts_of-push vs v texts text same is = items_view-push vs v ∙ ap₂ item_last same is ∙ sym (texts_of-last texts text)

-- one more value, and one more number
pub numbers_of-push : (vs : List Value) (v : Value) (ns : List ℕ) (n : ℕ) → items_view vs ≡ numbers_of ns → view v ≡ whole n → items_view (vs ++ v ∷ []) ≡ numbers_of (ns ++ n ∷ [])
numbers_of-push vs v ns n same is = items_view-push vs v ∙ ap₂ item_last same is ∙ sym (numbers_of-last ns n)
