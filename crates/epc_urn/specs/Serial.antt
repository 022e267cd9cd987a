-- The serial of an SGTIN: 75 characters that stand as they are, and seven that are escaped.
use Rattle.std.specs.Prelude.{ℕ, zero, suc, ◌+◌, Bool, ◌&&◌, ◌||◌, not, List, [], ◌∷◌, length, Option, Some, None, Result, Ok, Err, if◌then◌else◌, ◌==◌}
use Rattle.std.specs.List.{flat_map}
use Rattle.gs1_keys.specs.Keys.{is_between, is_digit, is_in_set}
use Rattle.epc_urn.specs.Reading.{◌>>=◌, Reader}
use Rattle.epc_urn.specs.declared.fault.Stop.{Stop}
use Rattle.epc_urn.specs.declared.fault.Stop.TheVariants.{BadField, BadEscape, EscapeNotNeeded, TooLong}

-- how a character is written: " % & / < > ? as %22 %25 %26 %2F %3C %3E %3F, the others as they are
abbrev pub written : ℕ → List ℕ
written c =
    if c == 34 then 37 ∷ 50 ∷ 50 ∷ [] else (if c == 37 then 37 ∷ 50 ∷ 53 ∷ [] else (if c == 38 then 37 ∷ 50 ∷ 54 ∷ [] else (if c == 47 then 37 ∷ 50 ∷ 70 ∷ [] else
    (if c == 60 then 37 ∷ 51 ∷ 67 ∷ [] else (if c == 62 then 37 ∷ 51 ∷ 69 ∷ [] else (if c == 63 then 37 ∷ 51 ∷ 70 ∷ [] else c ∷ []))))))

abbrev pub serial_text : List ℕ → List ℕ
serial_text serial = flat_map written serial

-- an upper-case hexadecimal digit
abbrev pub is_hex : ℕ → Bool
is_hex b = is_digit b || is_between 65 70 b

-- the character that an escape stands for: one of " % & / < > ?
abbrev pub escaped : ℕ → ℕ → Option ℕ
escaped h l =
    if h == 50 then (if l == 50 then Some 34 else (if l == 53 then Some 37 else (if l == 54 then Some 38 else (if l == 70 then Some 47 else None))))
    else (if h == 51 then (if l == 67 then Some 60 else (if l == 69 then Some 62 else (if l == 70 then Some 63 else None))) else None)

-- a character that stands as it is
abbrev pub is_plain : ℕ → Bool
is_plain b = is_in_set b && not ((b == 34) || (b == 37) || (b == 38) || (b == 47) || (b == 60) || (b == 62) || (b == 63))

abbrev pub meant : ℕ → Option ℕ → Reader ℕ
meant left (Some c) rest = Ok (c, rest)
meant left None rest = Err (EscapeNotNeeded left)

-- behind a %: two hexadecimal digits of one of the seven escapes
abbrev pub escape_at : ℕ → Reader ℕ
escape_at left [] = Err (BadEscape left)
escape_at left (h ∷ []) = Err (BadEscape left)
escape_at left (h ∷ l ∷ rest) = if is_hex h && is_hex l then meant left (escaped h l) rest else Err (BadEscape left)

-- one character and the bytes after it
unfoldable pub char_at : Reader ℕ
char_at [] = Err (BadField 0)
char_at (b ∷ bs) = if b == 37 then escape_at (length bs + 1) bs else (if is_plain b then Ok (b, bs) else Err (BadField (length bs + 1)))

-- the characters that a text spells to its end, of which there may be so many
unfoldable pub serial_of : ℕ → List ℕ → Result (List ℕ) Stop
serial_of zero [] = Ok []
serial_of zero (b ∷ bs) = Err TooLong
serial_of (suc room) [] = Ok []
serial_of (suc room) (b ∷ bs) = char_at (b ∷ bs) >>= λ c. serial_of room c.1 >>= λ cs. Ok (c.0 ∷ cs)

-- 1 to 20 characters to the end of the text
unfoldable pub serial_at : List ℕ → Result (List ℕ) Stop
serial_at [] = Err (BadField 0)
serial_at (b ∷ bs) = serial_of 20 (b ∷ bs)
