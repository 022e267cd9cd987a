-- Reading from left to right. A place is told by how many bytes are left there, and only at the end by how many stand before it.
use Rattle.std.specs.Prelude.{◌≡◌, ℕ, ◌+◌, ◌-◌, ◌==◌, nat_le, List, [], ◌∷◌, length, take, drop, None, Result, Ok, Err, if◌then◌else◌}
use Rattle.std.specs.List.{prefix_len}
use Rattle.gs1_keys.specs.Keys.{is_between, is_digit, first_other}
use Rattle.epc_urn.specs.declared.fault.Stop.{Stop}
use Rattle.epc_urn.specs.declared.fault.Stop.TheVariants as stop
use Rattle.epc_urn.specs.declared.fault.UrnFault.{UrnFault}
use Rattle.epc_urn.specs.declared.fault.UrnFault.TheVariants as fault

infixl 10 ◌>>=◌
abbrev pub ◌>>=◌ : {A B : Type 0} → Result A Stop → (A → Result B Stop) → Result B Stop
(Ok x) >>= f = f x
(Err e) >>= f = Err e

-- a value and the bytes after it, or where reading stopped
abbrev pub Reader : Type 0 → Type 0
Reader X = List ℕ → Result (X × List ℕ) Stop

-- what was returned, seen by `seen`, is what is due
abbrev pub IsExactly : {T D : Type 0} → (T → D) → Result T Stop → Result D Stop → Type 0
IsExactly seen (Ok x) due = due ≡ Ok (seen x)
IsExactly seen (Err e) due = due ≡ Err e

-- the bytes after a dot, which has to stand here
abbrev pub dot_at : List ℕ → Result (List ℕ) Stop
dot_at [] = Err (stop.BadField 0)
dot_at (b ∷ rest) = if b == 46 then Ok rest else Err (stop.BadField (length rest + 1))

-- nothing may follow
abbrev pub end_at : List ℕ → Result (List ℕ) Stop
end_at [] = Ok []
end_at (b ∷ rest) = Err (stop.BadField (length rest + 1))

-- so many digits; where fewer stand here, the byte behind them, or the end, is the fault
unfoldable pub digits_at : ℕ → Reader (List ℕ)
digits_at count bytes = if nat_le count (prefix_len is_digit bytes) then Ok (take count bytes, drop count bytes) else Err (stop.BadField (length bytes - prefix_len is_digit bytes))

-- a company prefix: all digits up to the first other byte, which has to be a dot
unfoldable pub prefix_at : Reader (List ℕ)
prefix_at bytes = dot_at (drop (prefix_len is_digit bytes) bytes) >>= λ rest.
    if is_between 6 12 (prefix_len is_digit bytes) then Ok (take (prefix_len is_digit bytes) bytes, rest) else Err (stop.BadPrefixLength (prefix_len is_digit bytes))

-- digits alone
abbrev pub AreDigits : List ℕ → Type 0
AreDigits text = first_other is_digit 0 text ≡ None

-- the fault in a text of this length
abbrev pub placed : ℕ → Stop → UrnFault
placed total stop.UnknownScheme = fault.UnknownScheme
placed total (stop.BadPrefixLength n) = fault.BadPrefixLength n
placed total (stop.BadField left) = fault.BadField (total - left)
placed total (stop.BadEscape left) = fault.BadEscape (total - left)
placed total (stop.EscapeNotNeeded left) = fault.EscapeNotNeeded (total - left)
placed total stop.TooLong = fault.TooLong
