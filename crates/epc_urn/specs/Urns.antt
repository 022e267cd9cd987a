-- URNs of items, logistic units and locations (EPC Tag Data Standard).
use Rattle.std.specs.Prelude.{ℕ, ◌+◌, ◌-◌, ◌≤◌, List, [], ◌∷◌, ◌++◌, length, take, drop, Option, Some, None, Result, Ok, Err, if◌then◌else◌, ◌==◌, codes}
use Rattle.gs1_keys.specs.Keys.{check, front, IsGtin, IsSscc, IsText}
use Rattle.epc_urn.specs.Reading.{◌>>=◌, dot_at, end_at, digits_at, prefix_at, placed}
use Rattle.epc_urn.specs.Serial.{serial_text, serial_at}
use Rattle.epc_urn.specs.declared.epc.Epc.{Epc}
use Rattle.epc_urn.specs.declared.epc.Epc.TheVariants.{Item, Unit as LogisticUnit}
use Rattle.epc_urn.specs.declared.fault.Stop.{Stop}
use Rattle.epc_urn.specs.declared.fault.Stop.TheVariants.{UnknownScheme}
use Rattle.epc_urn.specs.declared.fault.UrnFault.{UrnFault}

-- ---- how a value is spelled

unfoldable pub sgtin_scheme : List ℕ
sgtin_scheme = codes "urn:epc:id:sgtin:"

unfoldable pub sscc_scheme : List ℕ
sscc_scheme = codes "urn:epc:id:sscc:"

unfoldable pub sgln_scheme : List ℕ
sgln_scheme = codes "urn:epc:id:sgln:"

-- digits of a key without its check digit: the prefix, which begins at the second one, a dot, the first digit, and those after the prefix
abbrev pub key_text : ℕ → List ℕ → List ℕ
key_text prefix_length digits = take prefix_length (drop 1 digits) ++ 46 ∷ (take 1 digits ++ drop (1 + prefix_length) digits)

-- the URN of a value, whose company prefix has this length
unfoldable pub urn_text : Epc → ℕ → List ℕ
urn_text (Item gtin serial) prefix_length = sgtin_scheme ++ (key_text prefix_length (front gtin) ++ 46 ∷ serial_text serial)
urn_text (LogisticUnit sscc) prefix_length = sscc_scheme ++ key_text prefix_length (front sscc)

-- the URN of a location: the prefix, a dot, the digits after it but the check digit, and 0 for no extension
unfoldable pub sgln_text : List ℕ → ℕ → List ℕ
sgln_text gln prefix_length = sgln_scheme ++ ((take prefix_length (front gln) ++ 46 ∷ drop prefix_length (front gln)) ++ 46 ∷ 48 ∷ [])

abbrev pub IsEpc : Epc → Type 0
IsEpc (Item gtin serial) = IsGtin gtin × IsText serial
IsEpc (LogisticUnit sscc) = IsSscc sscc

abbrev pub IsPrefixLength : ℕ → Type 0
IsPrefixLength n = (6 ≤ n) × (n ≤ 12)

-- ---- what a text means, or its first fault

-- the bytes behind a text that others begin with
unfoldable pub behind : List ℕ → List ℕ → Option (List ℕ)
behind [] text = Some text
behind (x ∷ xs) [] = None
behind (x ∷ xs) (b ∷ bs) = if b == x then behind xs bs else None

-- the digits of a prefix and of the field after it, whose first digit stands before the prefix in the key
abbrev pub fields_of : List ℕ → List ℕ → List ℕ
fields_of prefix rest = take 1 rest ++ (prefix ++ drop 1 rest)

-- their key, which has its check digit last
unfoldable pub key_of : List ℕ → List ℕ → List ℕ
key_of prefix rest = fields_of prefix rest ++ (check (fields_of prefix rest) + 48) ∷ []

-- behind the scheme of an SGTIN: prefix, indicator and item reference with 13 digits in all, serial
unfoldable pub item_at : List ℕ → Result (Epc × ℕ) Stop
item_at text = prefix_at text >>= λ p. digits_at (13 - length p.0) p.1 >>= λ r. dot_at r.1 >>= λ s. serial_at s >>= λ serial. Ok (Item (key_of p.0 r.0) serial, length p.0)

-- behind the scheme of an SSCC: prefix, extension and serial reference with 17 digits in all
unfoldable pub unit_at : List ℕ → Result (Epc × ℕ) Stop
unit_at text = prefix_at text >>= λ p. digits_at (17 - length p.0) p.1 >>= λ r. end_at r.1 >>= λ _. Ok (LogisticUnit (key_of p.0 r.0), length p.0)

abbrev pub behind_sscc : Option (List ℕ) → Result (Epc × ℕ) Stop
behind_sscc (Some rest) = unit_at rest
behind_sscc None = Err UnknownScheme

abbrev pub behind_sgtin : Option (List ℕ) → List ℕ → Result (Epc × ℕ) Stop
behind_sgtin (Some rest) text = item_at rest
behind_sgtin None text = behind_sscc (behind sscc_scheme text)

unfoldable pub name_at : List ℕ → Result (Epc × ℕ) Stop
name_at text = behind_sgtin (behind sgtin_scheme text) text

abbrev pub in_text : ℕ → Result (Epc × ℕ) Stop → Result (Epc × ℕ) UrnFault
in_text total (Ok named) = Ok named
in_text total (Err stop) = Err (placed total stop)

-- the value that a text spells and the length of its prefix, or the first fault from the left
unfoldable pub urn_of : List ℕ → Result (Epc × ℕ) UrnFault
urn_of text = in_text (length text) (name_at text)
