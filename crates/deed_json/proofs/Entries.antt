-- How the lists of a deed are read, entry by entry.
use Rattle.std.proofs.Common.{◌≡◌, ℕ, ◌+◌, ◌∙◌, ◌<◌, ◌≤◌, List, [], ◌∷◌, ◌++◌, length, get_or, drop, Ok, Err, true, false, refl, arith, Some, nat_lt}
use Rattle.std.specs.List.{list_all}
use Rattle.std.proofs.lemmas.Bool.Decides.{nat_tests}
use Rattle.std.proofs.lemmas.List.{drop_more, drop_all}
use Rattle.std.proofs.lemmas.List.Folds.{list_all-append}
use Rattle.serde_json.specs.Data.{Data, item}
use Rattle.serde_json.specs.Events.{items_len}
use Rattle.serde_json.specs.Find.{as_array}
use Rattle.serde_json.specs.View.{view, items_view}
use Rattle.serde_json.specs.declared.value.Value.{Value}
use Rattle.serde_json.proofs.Views.{items_len-items_view}
use Rattle.gs1_element.specs.declared.code.Code.{Code}
use Rattle.epc_urn.specs.declared.epc.Epc.{Epc}
use Rattle.deed_words.specs.Names.{Text}
use Rattle.deed_words.specs.Proper.{is_dated}
use Rattle.deed_json.specs.Deeds.{member_of, entries_of, code_entry, epc_entry, serial_entry, codes_after, epcs_after, serials_after}
use Rattle.deed_json.specs.declared.deed_fault.Member.{Member}
use Rattle.deed_json.specs.declared.deed_fault.DeedFault.{DeedFault}
use Rattle.deed_json.specs.declared.deed_fault.DeedFault.TheVariants.{TooMany}

items_view-drop : (vs : List Value) (i : ℕ) (d : Value) → i < length vs → items_view (drop i vs) ≡ item (view (get_or vs i d)) (items_view (drop (i + 1) vs))
items_view-drop vs i d h = rw (drop_more vs i d h)

pub all_dated : (cs : List Code) (c : Code) → list_all is_dated cs ≡ true → is_dated c ≡ true → list_all is_dated (cs ++ c ∷ []) ≡ true
all_dated cs c all one = list_all-append is_dated cs (c ∷ []) ∙ (rw (all, one) refl)

pub code_more : (seen : List Code) (vs : List Value) (i n : ℕ) (d : Value) (code : Code) → i < length vs → n ≡ length seen → code_entry n (view (get_or vs i d)) ≡ Ok code
    → codes_after seen (items_view (drop i vs)) ≡ codes_after (seen ++ code ∷ []) (items_view (drop (i + 1) vs))
unfolding codes_after
code_more seen vs i n d code h at is = rw (items_view-drop vs i d h, ← at, is)

pub code_fault : (seen : List Code) (vs : List Value) (i n : ℕ) (d : Value) (e : DeedFault) → i < length vs → n ≡ length seen → code_entry n (view (get_or vs i d)) ≡ Err e
    → codes_after seen (items_view (drop i vs)) ≡ Err e
unfolding codes_after
code_fault seen vs i n d e h at is = rw (items_view-drop vs i d h, ← at, is)

pub code_end : (seen : List Code) (vs : List Value) (i : ℕ) → length vs ≤ i → codes_after seen (items_view (drop i vs)) ≡ Ok seen
unfolding codes_after
code_end seen vs i h = rw (drop_all i vs h)

pub epc_more : (m : Member) (seen : List Epc) (vs : List Value) (i n : ℕ) (d : Value) (epc : Epc) → i < length vs → n ≡ length seen → epc_entry m n (view (get_or vs i d)) ≡ Ok epc
    → epcs_after m seen (items_view (drop i vs)) ≡ epcs_after m (seen ++ epc ∷ []) (items_view (drop (i + 1) vs))
unfolding epcs_after
epc_more m seen vs i n d epc h at is = rw (items_view-drop vs i d h, ← at, is)

pub epc_fault : (m : Member) (seen : List Epc) (vs : List Value) (i n : ℕ) (d : Value) (e : DeedFault) → i < length vs → n ≡ length seen → epc_entry m n (view (get_or vs i d)) ≡ Err e
    → epcs_after m seen (items_view (drop i vs)) ≡ Err e
unfolding epcs_after
epc_fault m seen vs i n d e h at is = rw (items_view-drop vs i d h, ← at, is)

pub epc_end : (m : Member) (seen : List Epc) (vs : List Value) (i : ℕ) → length vs ≤ i → epcs_after m seen (items_view (drop i vs)) ≡ Ok seen
unfolding epcs_after
epc_end m seen vs i h = rw (drop_all i vs h)

pub serial_more : (seen : List Text) (vs : List Value) (i : ℕ) (d : Value) (serial : Text) → i < length vs → serial_entry (view (get_or vs i d)) ≡ Ok serial
    → serials_after seen (items_view (drop i vs)) ≡ serials_after (seen ++ serial ∷ []) (items_view (drop (i + 1) vs))
unfolding serials_after
serial_more seen vs i d serial h is = rw (items_view-drop vs i d h, is)

pub serial_fault : (seen : List Text) (vs : List Value) (i : ℕ) (d : Value) (e : DeedFault) → i < length vs → serial_entry (view (get_or vs i d)) ≡ Err e
    → serials_after seen (items_view (drop i vs)) ≡ Err e
unfolding serials_after
serial_fault seen vs i d e h is = rw (items_view-drop vs i d h, is)

pub serial_end : (seen : List Text) (vs : List Value) (i : ℕ) → length vs ≤ i → serials_after seen (items_view (drop i vs)) ≡ Ok seen
unfolding serials_after
serial_end seen vs i h = rw (drop_all i vs h)

-- ---- how many there are

pub entries_many : (m : Member) (d v : Data) (vs : List Value) (n : ℕ) → member_of m d ≡ Ok v → Some (items_view vs) ≡ as_array v → n ≡ length vs → 1000 < n → entries_of m d ≡ Err (TooMany n)
unfolding entries_of
entries_many m d v vs n found is same more =
    let many : nat_lt 1000 (items_len (items_view vs)) ≡ true = rw (items_len-items_view vs, ← same) (grind (arith, nat_tests)) in
    rw (found, ← is, many, items_len-items_view vs, ← same)

pub entries_few : (m : Member) (d v : Data) (vs : List Value) (n : ℕ) → member_of m d ≡ Ok v → Some (items_view vs) ≡ as_array v → n ≡ length vs → n ≤ 1000 → entries_of m d ≡ Ok (items_view vs)
unfolding entries_of
entries_few m d v vs n found is same few =
    let some : nat_lt 1000 (items_len (items_view vs)) ≡ false = rw (items_len-items_view vs, ← same) (grind (arith, nat_tests)) in
    rw (found, ← is, some)
