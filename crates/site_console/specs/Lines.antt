-- Lines of bytes, and how a reader hands them out.
use Rattle.std.specs.Prelude.{◌≡◌, ◌+◌, ◌<◌, ◌≤◌, ℕ, Bool, true, false, List, [], ◌∷◌, ◌++◌, length, filter, not, Result, Ok, Err, MatchBool, nat_eq, ⊤}
use Rattle.std.specs.List.{All, flat_map}
use Rattle.site_console.specs.declared.lines.Line.{Line}
use Rattle.site_console.specs.declared.lines.Line.TheVariants.{Held, TooLong}
use Rattle.site_console.specs.declared.lines.Next.{Next}
use Rattle.site_console.specs.declared.fault.Fault.{Fault}
use Rattle.site_console.specs.declared.fault.Fault.TheVariants.{Read, Write, Memory, InputTooLong}
use Rattle.site_console.specs.Newline.{newline, HasNoNewline}
use Rattle.site_console.specs.Reading.{Reading}
use Rattle.site_console.specs.Limits.{line_limit, input_limit}

-- a line with its newline
abbrev pub ended : List ℕ → List ℕ
ended line = line ++ newline ∷ []

-- the bytes are these lines, each with its newline, and then a rest that has none
pub record Cuts (bytes : List ℕ) (lines : List (List ℕ)) (rest : List ℕ) : Type 0 where
  pub whole : bytes ≡ flat_map ended lines ++ rest
  pub each : All HasNoNewline lines
  pub last : HasNoNewline rest

abbrev pub is_empty : List ℕ → Bool
is_empty line = nat_eq (length line) 0

-- the lines that are answered
abbrev pub asked_lines : List (List ℕ) → List (List ℕ)
asked_lines lines = filter (λ line. not (is_empty line)) lines

-- the line's bytes, or that it is too long to be held
abbrev pub IsHeld : Line → List ℕ → Type 0
IsHeld (Held bytes) text = (bytes.items ≡ text) × (length text ≤ line_limit)
IsHeld TooLong text = line_limit < length text

-- from all that is known, the next line was cut off
pub record GivesLine (known : List ℕ) (next : Next) (rest : List ℕ) : Type 0 where
  pub text : List ℕ
  pub held : IsHeld next.line text
  pub one : HasNoNewline text
  pub cut : MatchBool next.is_last ((known ≡ text) × (rest ≡ [])) (known ≡ text ++ newline ∷ rest)

-- what the reader answers where known are the bytes that were pending and those that it took
abbrev pub Gives : List ℕ → Result Next Fault → Reading → Type 0 → Type 0
Gives known (Ok next) reading at_end = GivesLine known next reading.pending × MatchBool next.is_last ((reading.taken < input_limit) × at_end) ⊤
Gives known (Err Read) reading at_end = HasNoNewline known × (reading.taken < input_limit)
Gives known (Err InputTooLong) reading at_end = HasNoNewline known × (reading.taken ≡ input_limit)
Gives known (Err Write) reading at_end = ⊥
Gives known (Err Memory) reading at_end = ⊤

-- a piece was taken where there was one; a fault takes nothing
abbrev pub Fills : {E : Type 0} → Reading → List ℕ → Result Bool E → Reading → Type 0 → Type 0
Fills old bytes (Ok true) new at_end = (0 < length bytes) × (new.pending ≡ bytes) × (new.taken ≡ old.taken + length bytes)
Fills old bytes (Ok false) new at_end = (bytes ≡ []) × (new.pending ≡ []) × (new.taken ≡ old.taken) × at_end
Fills old bytes (Err fault) new at_end = (bytes ≡ []) × (new.pending ≡ []) × (new.taken ≡ old.taken)

-- the front of what was pending, to its first newline or whole, went to the end of the text
abbrev pub CutsOff : List ℕ → List ℕ → Line × Bool → List ℕ → Type 0
CutsOff text pending cut rest = MatchBool cut.1 ((part : List ℕ) × HasNoNewline part × (pending ≡ part ++ newline ∷ rest) × IsHeld cut.0 (text ++ part)) (HasNoNewline pending × (rest ≡ []) × IsHeld cut.0 (text ++ pending))

abbrev pub is_read_fault : {T : Type 0} → Result T Fault → Bool
is_read_fault (Ok value) = false
is_read_fault (Err Read) = true
is_read_fault (Err Write) = false
is_read_fault (Err Memory) = false
is_read_fault (Err InputTooLong) = false
