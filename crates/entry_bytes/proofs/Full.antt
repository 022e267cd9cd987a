-- All that a spelling needs, field by field, and that it is what types keep together with the ranges.
use Rattle.std.proofs.Common.{◌≡◌, ℕ, ◌<◌, ◌≤◌, ◌^◌, Bool, true, List, [], ◌∷◌, length, Option, None, refl, sym, subst, arith}
use Rattle.std.specs.Prelude.{All, not, ◌&&◌, nat_le}
use Rattle.std.specs.List.{AllByRecursion, list_all}
use Rattle.std.proofs.lemmas.Bool.{and_parts, and_from, le-leb, leb-true}
use Rattle.std.proofs.lemmas.List.Elements.{All-from_recursion, recursion_from_All}
use Rattle.gs1_keys.specs.Keys.{is_between, IsGtin, IsSscc, IsText}
use Rattle.gs1_keys.proofs.Known.{between, text_length}
use Rattle.gs1_element.specs.Dates.{is_expiry}
use Rattle.gs1_element.specs.declared.code.Code.{Code}
use Rattle.deed_words.specs.Chain.{is_empty}
use Rattle.deed_words.specs.Proper.{is_order, is_dated, IsProperDeed, IsProperEntry}
use Rattle.deed_words.specs.declared.deed.OrderRow.{OrderRow}
use Rattle.deed_words.specs.declared.deed.Deed.{Deed}
use Rattle.deed_words.specs.declared.deed.Deed.TheVariants as deed
use Rattle.deed_words.specs.declared.entry.Entry.{Entry}
use Rattle.entry_bytes.specs.declared.version.Version.{Version}
use Rattle.entry_bytes.specs.declared.version.Version.TheVariants.{First, Second}
use Rattle.entry_bytes.specs.Kept.{IsKeptEpc, IsKeptCode, IsKeptRow, IsKeptOperator, IsKeptDeed, IsKept}

abbrev pub IsWithin : ℕ → ℕ → ℕ → Type 0
IsWithin low high n = (low ≤ n) × (n ≤ high)

abbrev pub IsList : {X : Type 0} → ℕ → (X → Type 0) → List X → Type 0
IsList most Is xs = (length xs ≤ most) × AllByRecursion Is xs

abbrev pub IsExpiry : List ℕ → Type 0
IsExpiry text = is_expiry text ≡ true

abbrev pub IsFullCode : Code → Type 0
IsFullCode c = IsGtin c.gtin × (IsText c.serial × (IsText c.lot × IsExpiry c.expiry))

abbrev pub IsFullRow : OrderRow → Type 0
IsFullRow r = IsText r.batch × (IsGtin r.gtin × (IsText r.lot × (IsExpiry r.expiry × (IsWithin 1 1000000 r.quantity × (IsWithin 1 1000 r.case_size × IsWithin 0 1000 r.pallet_size)))))

-- a deed whose fields are in their ranges
abbrev pub IsFullDeed : Deed → Type 0
IsFullDeed (deed.Order row) = IsFullRow row
IsFullDeed (deed.Orders rows) = IsList 1000 IsFullRow rows
IsFullDeed (deed.Start batch) = IsText batch
IsFullDeed (deed.Draw batch count) = IsText batch × (count < 2 ^ 32)
IsFullDeed (deed.Lend batch count) = IsText batch × (count < 2 ^ 32)
IsFullDeed (deed.Commission batch codes) = IsText batch × IsList 1000 IsFullCode codes
IsFullDeed (deed.Spoil batch serials) = IsText batch × IsList 1000 IsText serials
IsFullDeed (deed.Giveback batch serials) = IsText batch × IsList 1000 IsText serials
IsFullDeed (deed.Sample batch items) = IsText batch × IsList 1000 IsKeptEpc items
IsFullDeed (deed.Reject batch items) = IsText batch × IsList 1000 IsKeptEpc items
IsFullDeed (deed.Reinstate batch items) = IsText batch × IsList 1000 IsKeptEpc items
IsFullDeed (deed.Destroy batch items) = IsText batch × IsList 1000 IsKeptEpc items
IsFullDeed (deed.Decommission batch items) = IsText batch × IsList 1000 IsKeptEpc items
IsFullDeed (deed.Container batch level) = IsText batch × Unit {0}
IsFullDeed (deed.Pack unit children) = IsSscc unit × IsList 1000 IsKeptEpc children
IsFullDeed (deed.Unpack unit children) = IsSscc unit × IsList 1000 IsKeptEpc children
IsFullDeed (deed.UnpackAll unit) = IsSscc unit
IsFullDeed (deed.Seal unit) = IsSscc unit
IsFullDeed (deed.Unseal unit) = IsSscc unit
IsFullDeed (deed.Void unit) = IsSscc unit
IsFullDeed (deed.Declare batch good spoiled returned) = IsText batch × ((good < 2 ^ 32) × ((spoiled < 2 ^ 32) × (returned < 2 ^ 32)))
IsFullDeed (deed.Close batch) = IsText batch
IsFullDeed (deed.Amend batch quantity) = IsText batch × IsWithin 1 1000000 quantity

-- in version 1 there is none
abbrev pub IsOperator : Version → Option (List ℕ) → Type 0
IsOperator First operator = operator ≡ None
IsOperator Second operator = IsKeptOperator operator

abbrev pub IsFull : Version → Entry → Type 0
IsFull version e = (e.station < 256) × ((e.number < 2 ^ 64) × ((e.worker < 256) × (IsWithin 0 253402300799999 e.stamp × (IsOperator version e.operator × (IsFullDeed e.deed × IsList 10000 IsText e.drawn)))))

-- ---- to what types keep and ranges, and back

within : (low high n : ℕ) → IsWithin low high n → is_between low high n ≡ true
within low high n h = rw (le-leb low n h.0, le-leb n high h.1) refl

-- a text has a character
named : (t : List ℕ) → IsText t → not (is_empty t) ≡ true
unfolding is_empty
named [] h = absurd (let p = text_length [] h in omega (arith, p.0))
named (x ∷ xs) h = refl

pub row_kept : (r : OrderRow) → IsFullRow r → IsKeptRow r × (is_order r ≡ true)
unfolding is_order
row_kept r h = (
  (h.0, (h.1.0, h.1.1.0)),
  and_from (not (is_empty r.batch) && is_expiry r.expiry && is_between 1 1000000 r.quantity && is_between 1 1000 r.case_size) (nat_le r.pallet_size 1000)
      (and_from (not (is_empty r.batch) && is_expiry r.expiry && is_between 1 1000000 r.quantity) (is_between 1 1000 r.case_size)
      (and_from (not (is_empty r.batch) && is_expiry r.expiry) (is_between 1 1000000 r.quantity)
      (and_from (not (is_empty r.batch)) (is_expiry r.expiry) (named r.batch h.0) h.1.1.1.0) (within 1 1000000 r.quantity h.1.1.1.1.0))
      (within 1 1000 r.case_size h.1.1.1.1.1.0))
      (le-leb r.pallet_size 1000 h.1.1.1.1.1.1.1),
)

pub row_full : (r : OrderRow) → IsKeptRow r → is_order r ≡ true → IsFullRow r
unfolding is_order
row_full r k h =
    let p = and_parts (not (is_empty r.batch) && is_expiry r.expiry && is_between 1 1000000 r.quantity && is_between 1 1000 r.case_size) (nat_le r.pallet_size 1000) h in
    let q = and_parts (not (is_empty r.batch) && is_expiry r.expiry && is_between 1 1000000 r.quantity) (is_between 1 1000 r.case_size) p.0 in
    let s = and_parts (not (is_empty r.batch) && is_expiry r.expiry) (is_between 1 1000000 r.quantity) q.0 in
    let t = and_parts (not (is_empty r.batch)) (is_expiry r.expiry) s.0 in
    (k.0, (k.1.0, (k.1.1, (t.1, (between 1 1000000 r.quantity s.1, (between 1 1000 r.case_size q.1, (omega arith, leb-true r.pallet_size 1000 p.1)))))))

code_kept : (c : Code) → IsFullCode c → IsKeptCode c × (is_dated c ≡ true)
unfolding is_dated
code_kept c h = ((h.0, (h.1.0, h.1.1.0)), h.1.1.1)

code_full : (c : Code) → IsKeptCode c → is_dated c ≡ true → IsFullCode c
unfolding is_dated
code_full c k h = (k.0, (k.1.0, (k.1.1, h)))

all_kept : {X : Type 0} (F K : X → Type 0) (test : X → Bool) → ((x : X) → F x → K x × (test x ≡ true)) → (xs : List X) → AllByRecursion F xs → AllByRecursion K xs × (list_all test xs ≡ true)
all_kept F K test each [] h = (tt, refl)
all_kept F K test each (x ∷ xs) h =
    let first = each x h.0 in
    let others = all_kept F K test each xs h.1 in
    ((first.0, others.0), and_from (test x) (list_all test xs) first.1 others.1)

all_full : {X : Type 0} (F K : X → Type 0) (test : X → Bool) → ((x : X) → K x → test x ≡ true → F x) → (xs : List X) → AllByRecursion K xs → list_all test xs ≡ true → AllByRecursion F xs
all_full F K test each [] k h = tt
all_full F K test each (x ∷ xs) k h =
    let p = and_parts (test x) (list_all test xs) h in
    (each x k.0 p.0, all_full F K test each xs k.1 p.1)

-- a list of the items of which types keep all
kept_list : {X : Type 0} (P : X → Type 0) (most : ℕ) (xs : List X) → IsList most P xs → All P xs × (length xs ≤ most)
kept_list P most xs h = (All-from_recursion P xs h.1, h.0)

full_list : {X : Type 0} (P : X → Type 0) (most : ℕ) (xs : List X) → All P xs → length xs ≤ most → IsList most P xs
full_list P most xs k h = (h, recursion_from_All P xs k)

pub deed_kept : (d : Deed) → IsFullDeed d → IsKeptDeed d × IsProperDeed d
deed_kept (deed.Order row) h = row_kept row h
deed_kept (deed.Orders rows) h = let p = all_kept IsFullRow IsKeptRow is_order row_kept rows h.1 in (All-from_recursion IsKeptRow rows p.0, (h.0, p.1))
deed_kept (deed.Start batch) h = (h, tt)
deed_kept (deed.Draw batch count) h = (h, tt)
deed_kept (deed.Lend batch count) h = (h, tt)
deed_kept (deed.Commission batch codes) h = let p = all_kept IsFullCode IsKeptCode is_dated code_kept codes h.1.1 in ((h.0, All-from_recursion IsKeptCode codes p.0), (h.1.0, p.1))
deed_kept (deed.Spoil batch serials) h = let p = kept_list IsText 1000 serials h.1 in ((h.0, p.0), p.1)
deed_kept (deed.Giveback batch serials) h = let p = kept_list IsText 1000 serials h.1 in ((h.0, p.0), p.1)
deed_kept (deed.Sample batch items) h = let p = kept_list IsKeptEpc 1000 items h.1 in ((h.0, p.0), p.1)
deed_kept (deed.Reject batch items) h = let p = kept_list IsKeptEpc 1000 items h.1 in ((h.0, p.0), p.1)
deed_kept (deed.Reinstate batch items) h = let p = kept_list IsKeptEpc 1000 items h.1 in ((h.0, p.0), p.1)
deed_kept (deed.Destroy batch items) h = let p = kept_list IsKeptEpc 1000 items h.1 in ((h.0, p.0), p.1)
deed_kept (deed.Decommission batch items) h = let p = kept_list IsKeptEpc 1000 items h.1 in ((h.0, p.0), p.1)
deed_kept (deed.Container batch level) h = (h.0, tt)
deed_kept (deed.Pack unit children) h = let p = kept_list IsKeptEpc 1000 children h.1 in ((h.0, p.0), p.1)
deed_kept (deed.Unpack unit children) h = let p = kept_list IsKeptEpc 1000 children h.1 in ((h.0, p.0), p.1)
deed_kept (deed.UnpackAll unit) h = (h, tt)
deed_kept (deed.Seal unit) h = (h, tt)
deed_kept (deed.Unseal unit) h = (h, tt)
deed_kept (deed.Void unit) h = (h, tt)
deed_kept (deed.Declare batch good spoiled returned) h = (h, tt)
deed_kept (deed.Close batch) h = (h, tt)
deed_kept (deed.Amend batch quantity) h = (h.0, within 1 1000000 quantity h.1)

pub deed_full : (d : Deed) → IsKeptDeed d → IsProperDeed d → IsFullDeed d
deed_full (deed.Order row) k h = row_full row k h
deed_full (deed.Orders rows) k h = (h.0, all_full IsFullRow IsKeptRow is_order row_full rows (recursion_from_All IsKeptRow rows k) h.1)
deed_full (deed.Start batch) k h = k
deed_full (deed.Draw batch count) k h = k
deed_full (deed.Lend batch count) k h = k
deed_full (deed.Commission batch codes) k h = (k.0, (h.0, all_full IsFullCode IsKeptCode is_dated code_full codes (recursion_from_All IsKeptCode codes k.1) h.1))
deed_full (deed.Spoil batch serials) k h = (k.0, full_list IsText 1000 serials k.1 h)
deed_full (deed.Giveback batch serials) k h = (k.0, full_list IsText 1000 serials k.1 h)
deed_full (deed.Sample batch items) k h = (k.0, full_list IsKeptEpc 1000 items k.1 h)
deed_full (deed.Reject batch items) k h = (k.0, full_list IsKeptEpc 1000 items k.1 h)
deed_full (deed.Reinstate batch items) k h = (k.0, full_list IsKeptEpc 1000 items k.1 h)
deed_full (deed.Destroy batch items) k h = (k.0, full_list IsKeptEpc 1000 items k.1 h)
deed_full (deed.Decommission batch items) k h = (k.0, full_list IsKeptEpc 1000 items k.1 h)
deed_full (deed.Container batch level) k h = (k, tt)
deed_full (deed.Pack unit children) k h = (k.0, full_list IsKeptEpc 1000 children k.1 h)
deed_full (deed.Unpack unit children) k h = (k.0, full_list IsKeptEpc 1000 children k.1 h)
deed_full (deed.UnpackAll unit) k h = k
deed_full (deed.Seal unit) k h = k
deed_full (deed.Unseal unit) k h = k
deed_full (deed.Void unit) k h = k
deed_full (deed.Declare batch good spoiled returned) k h = k
deed_full (deed.Close batch) k h = k
deed_full (deed.Amend batch quantity) k h = (k, between 1 1000000 quantity h)

operator_kept : (version : Version) (operator : Option (List ℕ)) → IsOperator version operator → IsKeptOperator operator
operator_kept First operator h = subst (λ (o : Option (List ℕ)). IsKeptOperator o) (sym h) tt
operator_kept Second operator h = h

pub entry_kept : (version : Version) (e : Entry) → IsFull version e → IsKept e × IsProperEntry e
entry_kept version e h =
    let d = deed_kept e.deed h.1.1.1.1.1.0 in
    let s = kept_list IsText 10000 e.drawn h.1.1.1.1.1.1 in (
      record { head = (h.0, (h.1.0, h.1.1.0)); operator = operator_kept version e.operator h.1.1.1.1.0; deed = d.0; drawn = s.0 },
      record { stamp = h.1.1.1.0.1; deed = d.1; drawn = s.1 },
    )

pub entry_full : (version : Version) (e : Entry) → IsKept e → IsProperEntry e → IsOperator version e.operator → IsFull version e
entry_full version e k p o = (k.head.0, (k.head.1.0, (k.head.1.1, ((omega arith, p.stamp), (o, (deed_full e.deed k.deed p.deed, full_list IsText 10000 e.drawn k.drawn p.drawn))))))
