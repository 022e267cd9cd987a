-- How long groups and journals are.
use Rattle.std.proofs.Common.{◌≡◌, ◌+◌, ◌*◌, ◌≤◌, ℕ, List, [], ◌∷◌, length, refl, sym, subst, ap, arith}
use Rattle.std.specs.List.{sum_by}
use Rattle.std.proofs.lemmas.List.{length-append}
use Rattle.std.proofs.lemmas.List.Sums.{sum_by-append, sum_by-cons}
use Rattle.deed_words.specs.declared.entry.Entry.{Entry}
use Rattle.gate_journal.specs.Grammar.{block, header, front, records}
use Rattle.gate_journal.proofs.Blocks.{length-block}
use Rattle.gate_journal.proofs.Loading.{length-header}
use Rattle.entry_bytes.specs.Groups.{SpellsGroup, entry_size}
use Rattle.entry_bytes.proofs.Sizes.{entry_some, group_longest, group_counted}
use Rattle.site_store.specs.Held.{AreGroups}

abbrev pub alone : Entry → ℕ
alone entry = 6 + entry_size entry

pub entries_have_bytes : (entries : List Entry) → length entries ≤ sum_by entry_size entries
entries_have_bytes [] = omega arith
entries_have_bytes (entry ∷ entries) =
    let first = sum_by-cons entry_size entry entries in
    let some = entry_some entry in
    omega (arith, first, some, entries_have_bytes entries)

-- alone the entries of a group take no fewer bytes than together
pub alone_more : (entries : List Entry) → sum_by entry_size entries + 6 * length entries ≡ sum_by alone entries
alone_more [] = refl
alone_more (entry ∷ entries) =
    let first = sum_by-cons entry_size entry entries in
    let also = sum_by-cons alone entry entries in
    omega (arith, first, also, alone_more entries)

-- a group in a record takes no more than its entries alone
pub group_alone : (group : List Entry) (payload : List ℕ) → SpellsGroup group payload → 5 + length payload ≤ sum_by alone group
group_alone group payload spells =
    let long = group_longest group payload spells in
    let more = alone_more group in
    omega (arith, long, more, spells.is.some)

pub record Reach (payloads : List (List ℕ)) (history : List Entry) : Type 0 where
  pub reach : length (records payloads) ≤ sum_by alone history
  pub counted : length history ≤ length (records payloads)

pub groups_reach : (payloads : List (List ℕ)) (history : List Entry) → AreGroups payloads history → Reach payloads history
groups_reach [] history are = record {
  reach = subst (λ (h : List Entry). 0 ≤ sum_by alone h) (sym are) (omega arith);
  counted = subst (λ (h : List Entry). length h ≤ 0) (sym are) (omega arith);
}
groups_reach (payload ∷ payloads) history are =
    let rest = groups_reach payloads are.1 are.4 in
    let long = length-append (1 ∷ block payload) (records payloads) in
    let of_block = length-block payload in
    let first = group_alone are.0 payload are.3 in
    let count = group_counted are.0 payload are.3 in
    let sums = sum_by-append alone are.0 are.1 in
    let sum_is = ap (λ (h : List Entry). sum_by alone h) are.2 in
    let counts = length-append are.0 are.1 in
    let count_is = ap (λ (h : List Entry). length h) are.2 in
    record {
      reach = omega (arith, rest.reach, long, of_block, first, sums, sum_is);
      counted = omega (arith, rest.counted, long, of_block, count, counts, count_is);
    }

pub length-front : (site : List ℕ) (payloads : List (List ℕ)) → length (front site payloads) ≡ 13 + length site + length (records payloads)
unfolding front
length-front site payloads = let whole = length-append (1 ∷ header site) (records payloads) in let head = length-header site in omega (arith, whole, head)
