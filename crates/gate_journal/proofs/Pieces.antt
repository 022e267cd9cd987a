-- What is read in pieces, and where no block stands.
use Rattle.std.proofs.Common.{◌≡◌, ℕ, ◌+◌, ◌-◌, ◌<◌, ◌≤◌, ◌^◌, List, ◌++◌, length, take, drop, refl, sym, ◌∙◌, ap, arith, append_assoc, length-append, take-append-drop}
use Rattle.std.proofs.lemmas.List.{take_at, drop-drop, drop-take, take-take}
use Rattle.std.proofs.lemmas.Nat.{from_be_bytes-to_be_bytes_4}
use Rattle.std.specs.Int.{to_be_bytes, from_be_bytes, w32}
use Rattle.gate_journal.specs.Grammar.{block, IsShort}
use Rattle.gate_journal.specs.Readings.{NoBlock, BeginsWith}
use Rattle.gate_journal.proofs.Blocks.{block_is, length-block}

-- two parts that follow each other
pub take_add : (m n : ℕ) (xs : List ℕ) → take (m + n) xs ≡ take m xs ++ take n (drop m xs)
take_add m n xs =
    let front : take m (take (m + n) xs) ≡ take m xs = take-take m (m + n) xs (omega arith) in
    sym (take-append-drop m (take (m + n) xs)) ∙ ap (λ (l : List ℕ). l ++ drop m (take (m + n) xs)) front ∙ ap (λ (l : List ℕ). take m xs ++ l) (drop-take m n xs)

pub more_read : (c old new : List ℕ) (at done n : ℕ) → done ≡ length old → old ≡ take (length old) (drop at c) → new ≡ old ++ take n (drop (at + done) c) → length new ≡ length old + n
    → new ≡ take (length new) (drop at c)
more_read c old new at done n is was more long =
    let next : drop (at + done) c ≡ drop (length old) (drop at c) = ap (λ (k : ℕ). drop (at + k) c) is ∙ sym (drop-drop (length old) at c) in
    let second : new ≡ old ++ take n (drop (length old) (drop at c)) = more ∙ ap (λ (l : List ℕ). old ++ take n l) next in
    let first : old ++ take n (drop (length old) (drop at c)) ≡ take (length old) (drop at c) ++ take n (drop (length old) (drop at c)) = ap (λ (l : List ℕ). l ++ take n (drop (length old) (drop at c))) was in
    second ∙ first ∙ sym (take_add (length old) n (drop at c)) ∙ ap (λ (k : ℕ). take k (drop at c)) (sym long)

-- too short for a length
pub no_room : (rest : List ℕ) → length rest < 4 → NoBlock rest
no_room rest few payload after short is =
    let long = ap length is ∙ length-append (block payload) after in
    omega (arith, few, long, length-block payload)

-- the four bytes at the front of a block are its length
pub word_is : (n : ℕ) (rest payload after : List ℕ) → n < 2 ^ 32 → IsShort payload → to_be_bytes w32 n ≡ take 4 rest → rest ≡ block payload ++ after → n ≡ length payload
word_is n rest payload after small short word is =
    let whole : rest ≡ to_be_bytes w32 (length payload) ++ (payload ++ after) = is ∙ ap (λ (l : List ℕ). l ++ after) (block_is payload) ∙ append_assoc (to_be_bytes w32 (length payload)) payload after in
    let same : to_be_bytes w32 n ≡ to_be_bytes w32 (length payload) = word ∙ ap (λ (l : List ℕ). take 4 l) whole ∙ take_at (to_be_bytes w32 (length payload)) (payload ++ after) 4 refl in
    sym (from_be_bytes-to_be_bytes_4 n small) ∙ ap (λ (l : List ℕ). from_be_bytes w32 l) same ∙ from_be_bytes-to_be_bytes_4 (length payload) short

-- fewer bytes than the length says
pub cut_short : (n : ℕ) (rest : List ℕ) → n < 2 ^ 32 → to_be_bytes w32 n ≡ take 4 rest → length rest < 4 + n → NoBlock rest
cut_short n rest small word few payload after short is =
    let same = word_is n rest payload after small short word is in
    let long = ap length is ∙ length-append (block payload) after in
    omega (arith, few, long, same, length-block payload)

-- the length and as many bytes
pub block_there : (n at : ℕ) (c bytes : List ℕ) → length bytes ≡ n → to_be_bytes w32 n ≡ take 4 (drop at c) → bytes ≡ take n (drop (at + 4) c) → BeginsWith (block bytes) (drop at c)
block_there n at c bytes len word is =
    let rest = drop at c in
    let after : drop (at + 4) c ≡ drop 4 rest = sym (drop-drop 4 at c) in
    let text : bytes ≡ take n (drop 4 rest) = is ∙ ap (λ (l : List ℕ). take n l) after in
    let front : block bytes ≡ take 4 rest ++ take n (drop 4 rest) = block_is bytes ∙ ap (λ (k : ℕ). to_be_bytes w32 k ++ bytes) len ∙ ap (λ (l : List ℕ). l ++ bytes) word ∙ ap (λ (l : List ℕ). take 4 rest ++ l) text in
    record {
      after = drop (4 + n) rest;
      whole = sym (take-append-drop (4 + n) rest) ∙ ap (λ (l : List ℕ). l ++ drop (4 + n) rest) (take_add 4 n rest ∙ sym front);
    }

-- a part of what was read last
pub part_of : (c bytes view : List ℕ) (from at count : ℕ) → view ≡ bytes → bytes ≡ take (length bytes) (drop from c) → from ≤ at → at + count ≤ from + length bytes
    → take (at - from + count - (at - from)) (drop (at - from) view) ≡ take count (drop at c)
part_of c bytes view from at count same read begun reached =
    let skip = at - from in
    let left = length bytes - skip in
    let long : length bytes ≡ skip + left = omega arith in
    let place : from + skip ≡ at = omega arith in
    let asked : skip + count - skip ≡ count = omega arith in
    let whole : bytes ≡ take (skip + left) (drop from c) = read ∙ ap (λ (k : ℕ). take k (drop from c)) long in
    let rest : drop skip bytes ≡ take left (drop at c) = ap (λ (l : List ℕ). drop skip l) whole ∙ drop-take skip left (drop from c) ∙ ap (λ (l : List ℕ). take left l) (drop-drop skip from c ∙ ap (λ (k : ℕ). drop k c) place) in
    ap (λ (k : ℕ). take k (drop skip view)) asked ∙ ap (λ (l : List ℕ). take count (drop skip l)) same ∙ ap (λ (l : List ℕ). take count l) rest ∙ take-take count left (drop at c) (omega arith)
