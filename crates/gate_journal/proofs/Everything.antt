-- Each list of bytes is no journal, or bad at a place, or it holds a site and payloads.
use Rattle.std.proofs.Common.{◌≡◌, ◌⊎◌, inl, inr, ℕ, zero, suc, ◌+◌, ◌<◌, ◌≤◌, ◌^◌, List, [], ◌∷◌, ◌++◌, length, take, drop, refl, sym, ◌∙◌, ap, arith, append_assoc, length-append, length-drop, length-take}
use Rattle.std.specs.Prelude.{codes}
use Rattle.std.specs.Int.{to_be_bytes, from_be_bytes, w32}
use Rattle.std.proofs.lemmas.Bool.{cases_eq, cases_lt}
use Rattle.std.proofs.lemmas.List.{take_at}
use Rattle.std.proofs.lemmas.Nat.{from_be_bytes-to_be_bytes_4}
use Rattle.gate_journal.specs.Gates.{IsShut}
use Rattle.gate_journal.specs.Grammar.{block, header, front, records, IsShort, AreShort, IsNone, IsBroken, IsBad, Holds}
use Rattle.gate_journal.specs.Readings.{NoBlock, NoHeader, BeginsWith}
use Rattle.gate_journal.proofs.Blocks.{block_is}
use Rattle.gate_journal.proofs.Headers.{wrong_name, no_site, header_there}
use Rattle.gate_journal.proofs.Loading.{front_is}
use Rattle.gate_journal.proofs.Pieces.{cut_short, block_there}

lists_both : (x y : ℕ) (xs ys : List ℕ) → (x ≡ y) ⊎ (x ≡ y → ⊥) → (xs ≡ ys) ⊎ (xs ≡ ys → ⊥) → (x ∷ xs ≡ y ∷ ys) ⊎ (x ∷ xs ≡ y ∷ ys → ⊥)
lists_both x y xs ys (inl head) (inl tail) = inl (cc)
lists_both x y xs ys (inl head) (inr other) = inr (λ is. let same : xs ≡ ys = cc in other same)
lists_both x y xs ys (inr other) tail = inr (λ is. let same : x ≡ y = cc in other same)

lists_same_or_not : (xs ys : List ℕ) → (xs ≡ ys) ⊎ (xs ≡ ys → ⊥)
lists_same_or_not [] [] = inl refl
lists_same_or_not [] (y ∷ ys) = inr (λ is. cc)
lists_same_or_not (x ∷ xs) [] = inr (λ is. cc)
lists_same_or_not (x ∷ xs) (y ∷ ys) = lists_both x y xs ys (cases_eq x y) (lists_same_or_not xs ys)

-- a block stands at the front
record BlockFirst (rest : List ℕ) : Type 0 where
  pub text : List ℕ
  pub short : IsShort text
  pub begins : BeginsWith (block text) rest

-- the word at the front of a block
first_word : (rest payload after : List ℕ) → rest ≡ block payload ++ after → take 4 rest ≡ to_be_bytes w32 (length payload)
first_word rest payload after is =
    ap (λ (l : List ℕ). take 4 l) (is ∙ ap (λ (l : List ℕ). l ++ after) (block_is payload) ∙ append_assoc (to_be_bytes w32 (length payload)) payload after)
    ∙ take_at (to_be_bytes w32 (length payload)) (payload ++ after) 4 refl

first_length : (n : ℕ) (rest payload after : List ℕ) → n ≡ from_be_bytes w32 (take 4 rest) → IsShort payload → rest ≡ block payload ++ after → n ≡ length payload
first_length n rest payload after number short is =
    number ∙ ap (λ (l : List ℕ). from_be_bytes w32 l) (first_word rest payload after is) ∙ from_be_bytes-to_be_bytes_4 (length payload) short

not_a_word : (n : ℕ) (rest : List ℕ) → n ≡ from_be_bytes w32 (take 4 rest) → (to_be_bytes w32 n ≡ take 4 rest → ⊥) → NoBlock rest
not_a_word n rest number other payload after short is =
    other (ap (λ (k : ℕ). to_be_bytes w32 k) (first_length n rest payload after number short is) ∙ sym (first_word rest payload after is))

too_large : (n : ℕ) (rest : List ℕ) → n ≡ from_be_bytes w32 (take 4 rest) → 2 ^ 32 ≤ n → NoBlock rest
too_large n rest number large payload after short is = let same = first_length n rest payload after number short is in omega (arith, same, large, short)

whole_block : (n : ℕ) (rest : List ℕ) → n < 2 ^ 32 → to_be_bytes w32 n ≡ take 4 rest → 4 + n ≤ length rest → BlockFirst rest
whole_block n rest small word enough =
    let text = take n (drop 4 rest) in
    let long : length text ≡ n = omega (arith, length-take n (drop 4 rest), length-drop 4 rest) in
    record { text = text; short = omega (arith, long, small); begins = block_there n 0 rest text long word refl }

block_by_length : (n : ℕ) (rest : List ℕ) → to_be_bytes w32 n ≡ take 4 rest → n < 2 ^ 32 → (length rest < 4 + n) ⊎ (4 + n ≤ length rest) → BlockFirst rest ⊎ NoBlock rest
block_by_length n rest word small (inl few) = inr (cut_short n rest small word few)
block_by_length n rest word small (inr enough) = inl (whole_block n rest small word enough)

block_by_size : (n : ℕ) (rest : List ℕ) → n ≡ from_be_bytes w32 (take 4 rest) → to_be_bytes w32 n ≡ take 4 rest → (n < 2 ^ 32) ⊎ (2 ^ 32 ≤ n) → BlockFirst rest ⊎ NoBlock rest
block_by_size n rest number word (inl small) = block_by_length n rest word small (cases_lt (length rest) (4 + n))
block_by_size n rest number word (inr large) = inr (too_large n rest number large)

block_by_word : (n : ℕ) (rest : List ℕ) → n ≡ from_be_bytes w32 (take 4 rest) → (to_be_bytes w32 n ≡ take 4 rest) ⊎ (to_be_bytes w32 n ≡ take 4 rest → ⊥) → BlockFirst rest ⊎ NoBlock rest
block_by_word n rest number (inl word) = block_by_size n rest number word (cases_lt n (2 ^ 32))
block_by_word n rest number (inr other) = inr (not_a_word n rest number other)

block_or_none : (rest : List ℕ) → BlockFirst rest ⊎ NoBlock rest
block_or_none rest = block_by_word (from_be_bytes w32 (take 4 rest)) rest refl (lists_same_or_not (to_be_bytes w32 (from_be_bytes w32 (take 4 rest))) (take 4 rest))

-- a header stands at the front
record HeaderFirst (rest : List ℕ) : Type 0 where
  pub site : List ℕ
  pub short : IsShort site
  pub begins : BeginsWith (header site) rest

header_by_site : (rest : List ℕ) → take 8 rest ≡ codes "PACKSITE" → BlockFirst (drop 8 rest) ⊎ NoBlock (drop 8 rest) → HeaderFirst rest ⊎ NoHeader rest
header_by_site rest name (inl found) = inl (record { site = found.text; short = found.short; begins = header_there (take 8 rest) (0 ∷ rest) found.text refl name found.begins })
header_by_site rest name (inr none) = inr (no_site (0 ∷ rest) none)

header_by_name : (rest : List ℕ) → (take 8 rest ≡ codes "PACKSITE") ⊎ (take 8 rest ≡ codes "PACKSITE" → ⊥) → HeaderFirst rest ⊎ NoHeader rest
header_by_name rest (inl name) = header_by_site rest name (block_or_none (drop 8 rest))
header_by_name rest (inr other) = inr (wrong_name (take 8 rest) rest refl other)

header_or_none : (rest : List ℕ) → HeaderFirst rest ⊎ NoHeader rest
header_or_none rest = header_by_name rest (lists_same_or_not (take 8 rest) (codes "PACKSITE"))

-- records, and then a closed gate or bytes of no record
record Read (bytes : List ℕ) : Type 0 where
  pub payloads : List (List ℕ)
  pub short : AreShort payloads
  pub rest : List ℕ
  pub whole : bytes ≡ records payloads ++ rest
  pub ends : IsShut rest ⊎ IsBroken rest

read_none : (bytes : List ℕ) → IsShut bytes ⊎ IsBroken bytes → Read bytes
read_none bytes ends = record { payloads = []; short = tt; rest = bytes; whole = refl; ends = ends }

read_one : (gate : ℕ) (bytes : List ℕ) → gate ≡ 1 → (found : BlockFirst bytes) → Read found.begins.after → Read (gate ∷ bytes)
read_one gate bytes opened found more = record {
  payloads = found.text ∷ more.payloads;
  short = (found.short, more.short);
  rest = more.rest;
  whole = ap (λ (k : ℕ). k ∷ bytes) opened ∙ ap (λ (l : List ℕ). 1 ∷ l) (found.begins.whole ∙ ap (λ (l : List ℕ). block found.text ++ l) more.whole)
      ∙ sym (append_assoc (1 ∷ block found.text) (records more.payloads) more.rest);
  ends = more.ends;
}

shorter : (bytes : List ℕ) (found : BlockFirst bytes) → length found.begins.after ≤ length bytes
shorter bytes found = omega (arith, ap length found.begins.whole, length-append (block found.text) found.begins.after)

read_by_block : (gate : ℕ) (bytes : List ℕ) → ((found : BlockFirst bytes) → Read found.begins.after) → gate ≡ 1 → BlockFirst bytes ⊎ NoBlock bytes → Read (gate ∷ bytes)
read_by_block gate bytes more opened (inl found) = read_one gate bytes opened found (more found)
read_by_block gate bytes more opened (inr none) = read_none (gate ∷ bytes) (inr (opened, none))

read_by_gate : (gate : ℕ) (bytes : List ℕ) → ((found : BlockFirst bytes) → Read found.begins.after) → (gate ≡ 1) ⊎ (gate ≡ 1 → ⊥) → Read (gate ∷ bytes)
read_by_gate gate bytes more (inl opened) = read_by_block gate bytes more opened (block_or_none bytes)
read_by_gate gate bytes more (inr shut) = read_none (gate ∷ bytes) (inl shut)

read_records : (most : ℕ) (bytes : List ℕ) → length bytes ≤ most → Read bytes
read_records most [] le = read_none [] (inr tt)
read_records zero (gate ∷ bytes) le = absurd (omega (arith, le))
read_records (suc most) (gate ∷ bytes) le = read_by_gate gate bytes (λ found. read_records most found.begins.after (omega (arith, le, shorter bytes found))) (cases_eq gate 1)

abbrev pub Reading : List ℕ → Type 0
Reading c = IsNone c ⊎ ((place : ℕ) × IsBad c place) ⊎ ((site : List ℕ) × (payloads : List (List ℕ)) × Holds site payloads c)

behind : (gate : ℕ) (rest site more : List ℕ) (ps : List (List ℕ)) → gate ≡ 1 → rest ≡ header site ++ (records ps ++ more) → gate ∷ rest ≡ front site ps ++ more
behind gate rest site more ps opened is =
    ap (λ (k : ℕ). k ∷ rest) opened ∙ ap (λ (l : List ℕ). 1 ∷ l) is ∙ sym (append_assoc (1 ∷ header site) (records ps) more) ∙ ap (λ (l : List ℕ). l ++ more) (sym (front_is site ps))

by_end : (gate : ℕ) (rest : List ℕ) → gate ≡ 1 → (found : HeaderFirst rest) → (read : Read found.begins.after) → IsShut read.rest ⊎ IsBroken read.rest → Reading (gate ∷ rest)
by_end gate rest opened found read (inl shut) = inr (inr (
  found.site,
  read.payloads,
  record {
    site_fits = found.short;
    payloads_fit = read.short;
    ends = record { rest = read.rest; shut = shut; whole = behind gate rest found.site read.rest read.payloads opened (found.begins.whole ∙ ap (λ (l : List ℕ). header found.site ++ l) read.whole) };
  },
))
by_end gate rest opened found read (inr broken) = inr (inl (
  length (front found.site read.payloads),
  inr (record {
    site = found.site;
    payloads = read.payloads;
    site_fits = found.short;
    payloads_fit = read.short;
    rest = read.rest;
    whole = behind gate rest found.site read.rest read.payloads opened (found.begins.whole ∙ ap (λ (l : List ℕ). header found.site ++ l) read.whole);
    place_is = refl;
    broken = broken;
  }),
))

by_header : (gate : ℕ) (rest : List ℕ) → gate ≡ 1 → 0 < length rest → HeaderFirst rest ⊎ NoHeader rest → Reading (gate ∷ rest)
by_header gate rest opened more (inl found) =
    let read = read_records (length found.begins.after) found.begins.after (omega arith) in
    by_end gate rest opened found read read.ends
by_header gate rest opened more (inr none) = inr (inl (0, inl (refl, record { rest = rest; whole = ap (λ (k : ℕ). k ∷ rest) opened; more = more; broken = none })))

by_gate : (gate byte : ℕ) (rest : List ℕ) → (gate ≡ 1) ⊎ (gate ≡ 1 → ⊥) → Reading (gate ∷ byte ∷ rest)
by_gate gate byte rest (inl opened) = by_header gate (byte ∷ rest) opened (omega arith) (header_or_none (byte ∷ rest))
by_gate gate byte rest (inr shut) = inl shut

pub every_reading : (c : List ℕ) → Reading c
every_reading [] = inl tt
every_reading (gate ∷ []) = inl tt
every_reading (gate ∷ byte ∷ rest) = by_gate gate byte rest (cases_eq gate 1)
