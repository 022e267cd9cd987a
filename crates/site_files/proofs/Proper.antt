-- An order that was read is in its ranges, and so are all.
use Rattle.std.proofs.Common.{◌≡◌, ℕ, ◌≤◌, ◌∙◌, true, false, List, [], ◌∷◌, ◌++◌, length, Ok, arith, refl, subst}
use Rattle.std.specs.List.{list_all}
use Rattle.std.proofs.lemmas.Bool.{le-leb}
use Rattle.std.proofs.lemmas.List.Folds.{list_all-append}
use Rattle.gs1_keys.specs.Keys.{text_of}
use Rattle.gs1_keys.proofs.Known.{text_length, text_same}
use Rattle.gs1_element.specs.Dates.{is_expiry}
use Rattle.deed_words.specs.Chain.{is_empty}
use Rattle.deed_words.specs.Proper.{is_order}
use Rattle.deed_words.specs.declared.deed.OrderRow.{OrderRow}

-- a text that was read isn't empty
pub text_is_some : (text word : List ℕ) → text_of text ≡ Ok word → 1 ≤ length word
text_is_some text word e = (text_length word (subst (λ (t : List ℕ). text_of t ≡ Ok word) (text_same text word e) e)).0

not_empty : (word : List ℕ) → 1 ≤ length word → is_empty word ≡ false
unfolding is_empty
not_empty [] some = absurd (omega arith)
not_empty (character ∷ word) some = refl

-- an order of these parts is in its ranges
pub order_is_proper : (row : OrderRow) → 1 ≤ length row.batch → is_expiry row.expiry ≡ true → 1 ≤ row.quantity → row.quantity ≤ 1000000 → 1 ≤ row.case_size → row.case_size ≤ 1000 → row.pallet_size ≤ 1000 → is_order row ≡ true
unfolding is_order
order_is_proper row named dated some few least most pallets =
    let name : is_empty row.batch ≡ false = not_empty row.batch named in
    rw (name, dated, le-leb 1 row.quantity some, le-leb row.quantity 1000000 few, le-leb 1 row.case_size least, le-leb row.case_size 1000 most, le-leb row.pallet_size 1000 pallets) refl

-- one more in its ranges
pub all_and_one : (rows : List OrderRow) (row : OrderRow) → list_all is_order rows ≡ true → is_order row ≡ true → list_all is_order (rows ++ row ∷ []) ≡ true
all_and_one rows row all one = list_all-append is_order rows (row ∷ []) ∙ (rw (all, one) refl)
