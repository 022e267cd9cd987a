-- How long groups are.
use Rattle.std.proofs.Common.{◌≡◌, ◌⊎◌, ℕ, ◌+◌, ◌≤◌, List, [], ◌∷◌, ◌++◌, length, drop, Option, Some, None, refl, ap, ◌∙◌, arith, inl, inr}
use Rattle.std.specs.List.{flat_map, sum_by}
use Rattle.std.proofs.lemmas.List.{append-nil, length-append}
use Rattle.std.proofs.lemmas.List.Sums.{sum_by-cons}
use Rattle.std.proofs.lemmas.Grind.{flat_map-append}
use Rattle.deed_words.specs.declared.entry.Entry.{Entry}
use Rattle.entry_bytes.specs.declared.version.Version.TheVariants.{First, Second}
use Rattle.entry_bytes.specs.Spelling.{operator_in, deed_bytes, list_bytes, text_bytes, head_bytes, entry_in, entry_bytes, group_bytes}
use Rattle.entry_bytes.specs.Groups.{IsOlder, SpellsGroup, entry_size, group_size}

pub entry_some : (entry : Entry) → 1 ≤ entry_size entry
unfolding head_bytes
entry_some entry = omega arith

entries_size : (es : List Entry) → length (flat_map entry_bytes es) ≡ sum_by entry_size es
entries_size [] = refl
entries_size (e ∷ es) =
    let first = sum_by-cons entry_size e es in
    let long = length-append (entry_bytes e) (flat_map entry_bytes es) in
    omega (arith, first, long, entries_size es)

pub group_written : (group : List Entry) → length (group_bytes group) ≡ group_size group
group_written group = let rest = entries_size group in omega (arith, rest)

operator_some : (operator : Option (List ℕ)) → 1 ≤ length (operator_in Second operator)
operator_some None = omega arith
operator_some (Some name) = omega arith

-- the field of the operator is what version 1 hasn't
older_entry : (e : Entry) → length (entry_in First e) ≤ entry_size e
older_entry e =
    let rest : List ℕ = deed_bytes e.deed ++ list_bytes text_bytes e.drawn in
    let new = length-append (head_bytes e) (operator_in Second e.operator ++ rest) in
    let new_rest = length-append (operator_in Second e.operator) rest in
    let old = length-append (head_bytes e) rest in
    omega (arith, new, new_rest, old)

first_some : (e : Entry) → 1 ≤ length (entry_in First e)
unfolding head_bytes
first_some e = omega arith

older_entries : (es : List Entry) → (length (flat_map (entry_in First) es) ≤ sum_by entry_size es) × (length es ≤ length (flat_map (entry_in First) es))
older_entries [] = (omega arith, omega arith)
older_entries (e ∷ es) =
    let first = sum_by-cons entry_size e es in
    let long = length-append (entry_in First e) (flat_map (entry_in First) es) in
    let others = older_entries es in
    (omega (arith, first, long, others.0, older_entry e), omega (arith, long, others.1, first_some e))

entries_counted : (es : List Entry) → length es ≤ sum_by entry_size es
entries_counted [] = omega arith
entries_counted (e ∷ es) = let first = sum_by-cons entry_size e es in omega (arith, first, entry_some e, entries_counted es)

pub group_longest : (group : List Entry) (bytes : List ℕ) → SpellsGroup group bytes → length bytes ≤ group_size group
group_longest group bytes s = by s.spelling
  where
    by : (bytes ≡ group_bytes group) ⊎ IsOlder group bytes → length bytes ≤ group_size group
    by (inl is) = let size = group_written group in let same = ap (λ (l : List ℕ). length l) is in omega (arith, size, same)
    by (inr o) = let same = ap (λ (l : List ℕ). length l) o.older in omega (arith, (older_entries group).0, same)

pub group_counted : (group : List Entry) (bytes : List ℕ) → SpellsGroup group bytes → length group ≤ length bytes
group_counted group bytes s = by s.spelling
  where
    by : (bytes ≡ group_bytes group) ⊎ IsOlder group bytes → length group ≤ length bytes
    by (inl is) = let size = group_written group in let same = ap (λ (l : List ℕ). length l) is in omega (arith, size, same, entries_counted group)
    by (inr o) = let same = ap (λ (l : List ℕ). length l) o.older in omega (arith, (older_entries group).1, same)

-- with an entry more: the count rises, and the entry's bytes come last
pub group_grows : (front : List Entry) (entry : Entry) → group_bytes (front ++ entry ∷ []) ≡ (129 + length front) ∷ (drop 1 (group_bytes front) ++ entry_bytes entry)
group_grows front entry =
    let many : 128 + length (front ++ entry ∷ []) ≡ 129 + length front = omega (arith, length-append front (entry ∷ [])) in
    let entries = flat_map-append entry_bytes front (entry ∷ []) ∙ ap (λ (w : List ℕ). flat_map entry_bytes front ++ w) (append-nil (entry_bytes entry)) in
    ap (λ (n : ℕ). n ∷ flat_map entry_bytes (front ++ entry ∷ [])) many ∙ ap (λ (w : List ℕ). (129 + length front) ∷ w) entries
