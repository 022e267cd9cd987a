-- Lists of notes.
use Rattle.std.specs.Prelude.{◌≡◌, ℕ, zero, suc, ◌+◌, ◌==◌, List, [], ◌++◌, length, filter}
use Rattle.deed_words.specs.declared.entry.Note.{Note}
use Rattle.deed_words.specs.declared.entry.Note.TheVariants.{Done, Fault}
use Rattle.turn_desk.specs.declared.view.Noted.{Noted}

-- the worker that a note names
abbrev pub maker : Note → ℕ
maker (Done i k) = k
maker (Fault kind k) = k

-- the worker in whose turn a note was made
abbrev pub by : Noted → ℕ
by x = maker x.note

-- the notes of worker k, in their order
abbrev pub own : ℕ → List Noted → List Noted
own k xs = filter (λ x. by x == k) xs

-- each note is worker k's
abbrev pub IsOf : ℕ → List Noted → Type 0
IsOf k xs = own k xs ≡ xs

-- no note is worker k's
abbrev pub IsOfOthers : ℕ → List Noted → Type 0
IsOfOthers k xs = own k xs ≡ []

-- xs begins ys
abbrev pub Begins : List Noted → List Noted → Type 0
Begins xs ys = (more : List Noted) × (ys ≡ xs ++ more)

-- notes of worker k alone were added
abbrev pub Appends : ℕ → List Noted → List Noted → Type 0
Appends k xs ys = (mine : List Noted) × IsOf k mine × (ys ≡ xs ++ mine)

-- One turn of worker k: others' notes were added to what had been seen, and then notes of its own, and the job's relation is between the lists before and after these
abbrev pub Turned : ℕ → List Noted → List Noted → (List Noted → List Noted → Type 0) → Type 0
Turned k before after relates =
    (others : List Noted) × (mine : List Noted) × (after ≡ (before ++ others) ++ mine) × IsOfOthers k others × IsOf k mine × relates (before ++ others) after

-- how many notes the workers below n have, added up
abbrev pub total_of : ℕ → List Noted → ℕ
total_of zero xs = 0
total_of (suc n) xs = total_of n xs + length (own n xs)
