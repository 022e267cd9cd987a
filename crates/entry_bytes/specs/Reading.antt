-- Reading from left to right. A place is told by how many bytes are left there.
use Rattle.std.specs.Prelude.{◌≡◌, ◌⊎◌, ℕ, zero, suc, List, [], ◌∷◌, ◌++◌, length, take, drop, Option, Some, None, Result, Ok, Err, nat_lt, if◌then◌else◌}
use Rattle.std.specs.Int.{Width, w16, byte_len, from_be_bytes}
use Rattle.gs1_keys.specs.Keys.{is_between}
use Rattle.entry_bytes.specs.declared.fault.Stop.{Stop}
use Rattle.entry_bytes.specs.declared.fault.Stop.TheVariants.{Short, BadField, Memory}

infixl 10 ◌>>=◌
abbrev pub ◌>>=◌ : {A B : Type 0} → Result A Stop → (A → Result B Stop) → Result B Stop
(Ok x) >>= f = f x
(Err e) >>= f = Err e

-- a value and the bytes after it, or where reading stopped
abbrev pub Reader : Type 0 → Type 0
Reader X = List ℕ → Result (X × List ℕ) Stop

-- what a function returned, seen by `seen`, is what is due, or it is want of memory
abbrev pub IsDue : {T D : Type 0} → (T → D) → Result T Stop → Result D Stop → Type 0
IsDue seen (Ok x) due = due ≡ Ok (seen x)
IsDue seen (Err e) due = (e ≡ Memory) ⊎ (due ≡ Err e)

-- the same where no memory is taken
abbrev pub IsExactly : {T D : Type 0} → (T → D) → Result T Stop → Result D Stop → Type 0
IsExactly seen (Ok x) due = due ≡ Ok (seen x)
IsExactly seen (Err e) due = due ≡ Err e

-- one field, two fields, and what is made of them
abbrev pub one : {X Y : Type 0} → (X → Y) → Reader X → Reader Y
one make first bytes = first bytes >>= λ x. Ok (make x.0, x.1)

abbrev pub two : {X Y Z : Type 0} → (X → Y → Z) → Reader X → Reader Y → Reader Z
two make first second bytes = first bytes >>= λ x. second x.1 >>= λ y. Ok (make x.0 y.0, y.1)

-- a field, and others that depend on it
abbrev pub two_after : {X Y Z : Type 0} → (X → Y → Z) → Reader X → (X → Reader Y) → Reader Z
two_after make first others bytes = first bytes >>= λ x. others x.0 x.1 >>= λ y. Ok (make x.0 y.0, y.1)

-- so many, one after the other
unfoldable pub many : {X : Type 0} → Reader X → ℕ → Reader (List X)
many item zero bytes = Ok ([], bytes)
many item (suc n) bytes = item bytes >>= λ x. many item n x.1 >>= λ xs. Ok (x.0 ∷ xs.0, xs.1)

-- so many, each of which depends on those before it
unfoldable pub many_after : {X : Type 0} → (List X → Reader X) → List X → ℕ → Reader (List X)
many_after item before zero bytes = Ok ([], bytes)
many_after item before (suc n) bytes = item before bytes >>= λ x. many_after item (before ++ x.0 ∷ []) n x.1 >>= λ xs. Ok (x.0 ∷ xs.0, xs.1)

abbrev pub byte_at : Reader ℕ
byte_at [] = Err (Short 0)
byte_at (b ∷ rest) = Ok (b, rest)

-- the most significant byte first
abbrev pub number_at : Width → Reader ℕ
number_at w bytes = if nat_lt (length bytes) (byte_len w) then Err (Short (length bytes)) else Ok (from_be_bytes w (take (byte_len w) bytes), drop (byte_len w) bytes)

-- a number in its range
abbrev pub ranged : ℕ → ℕ → Reader ℕ → Reader ℕ
ranged low high number bytes = number bytes >>= λ n. if is_between low high n.0 then Ok n else Err (BadField (length bytes))

-- a number that is below a bound
abbrev pub below : ℕ → Reader ℕ → Reader ℕ
below bound number bytes = number bytes >>= λ n. if nat_lt n.0 bound then Ok n else Err (BadField (length bytes))

abbrev pub meant : ℕ → Option (List ℕ) → List ℕ → Result (List ℕ × List ℕ) Stop
meant left (Some x) rest = Ok (x, rest)
meant left None rest = Err (BadField left)

-- the next n bytes and what they mean, in a field that begins where `left` bytes are left
abbrev pub cut : (List ℕ → Option (List ℕ)) → ℕ → ℕ → Reader (List ℕ)
cut meaning left n rest = if nat_lt (length rest) n then Err (Short left) else meant left (meaning (take n rest)) (drop n rest)

abbrev pub fixed : (List ℕ → Option (List ℕ)) → ℕ → Reader (List ℕ)
fixed meaning n bytes = cut meaning (length bytes) n bytes

-- a list of at most so many, behind its count
abbrev pub listed : {X : Type 0} → ℕ → Reader X → Reader (List X)
listed most item bytes = ranged 0 most (number_at w16) bytes >>= λ n. many item n.0 n.1
