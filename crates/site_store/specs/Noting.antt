-- The notes of a store, each with its group of entries, and what they stand for.
use Rattle.std.specs.Prelude.{◌≡◌, ◌≢◌, ℕ, ◌+◌, ◌==◌, Bool, List, [], ◌∷◌, ◌++◌, filter, count_by}
use Rattle.std.specs.List.{AllByRecursion as Every}
use Rattle.deed_words.specs.declared.entry.Entry.{Entry}
use Rattle.deed_words.specs.declared.entry.Note.{Note}
use Rattle.deed_words.specs.declared.entry.Note.TheVariants.{Done, Fault}
use Rattle.deed_words.specs.declared.entry.FaultKind.{FaultKind}
use Rattle.deed_words.specs.declared.entry.FaultKind.TheVariants as kind
use Rattle.std.specs.Prelude.{true, false}
use Rattle.site_store.specs.States.{State}

-- a note with its group: of a Done the entry that it added, of a fault of the disk the group that this fault left pending
pub record Noted : Type 0 where
  pub note : Note
  pub group : List Entry

-- the entries that a note added
abbrev pub added_by : Note → List Entry → List Entry
added_by (Done place worker) group = group
added_by (Fault kind worker) group = []

-- the entries that the notes added
abbrev pub made : List Noted → List Entry
made [] = []
made (x ∷ xs) = added_by x.note x.group ++ made xs

-- what is pending after a note, where this was pending before it
abbrev pub left_after : List Entry → Note → List Entry → List Entry
left_after pending (Done place worker) group = []
left_after pending (Fault kind worker) [] = pending
left_after pending (Fault kind worker) (entry ∷ entries) = entry ∷ entries

-- .. after the notes
abbrev pub left_from : List Entry → List Noted → List Entry
left_from pending [] = pending
left_from pending (x ∷ xs) = left_from (left_after pending x.note x.group) xs

-- the group of the last fault that has one, where no Done follows it
abbrev pub left : List Noted → List Entry
left noted = left_from [] noted

-- what a store stands for that was opened with this history
abbrev pub standing : List Entry → List Noted → State
standing opening noted = record { history = opening ++ made noted; pending = left noted }

-- a Done for each entry, the first of them at this place of the history
abbrev pub dones : ℕ → ℕ → List Entry → List Noted
dones worker place [] = []
dones worker place (entry ∷ entries) = record { note = Done place worker; group = entry ∷ [] } ∷ dones worker (place + 1) entries

-- one fault, which left this group pending
abbrev pub fault : FaultKind → ℕ → List Entry → List Noted
fault kind worker group = record { note = Fault kind worker; group = group } ∷ []

-- the worker that a note names
abbrev pub maker : Note → ℕ
maker (Done place worker) = worker
maker (Fault kind worker) = worker

-- the notes of a worker
abbrev pub own : ℕ → List Noted → List Noted
own worker noted = filter (λ x. maker x.note == worker) noted

-- each of them is the worker's
abbrev pub IsOf : ℕ → List Noted → Type 0
IsOf worker noted = own worker noted ≡ noted

-- some note names the worker of the entry
abbrev pub Names : List Noted → Entry → Type 0
Names noted entry = own entry.worker noted ≢ []

-- .. of each entry that the notes added, and of each that is pending
abbrev pub AreServed : List Noted → State → Type 0
AreServed noted s = Every (Names noted) (made noted) × Every (Names noted) s.pending

-- two kinds of fault are the same
abbrev pub same_kind : FaultKind → FaultKind → Bool
same_kind kind.Disk kind.Disk = true
same_kind kind.Clock kind.Clock = true
same_kind kind.Words kind.Words = true
same_kind kind.Range kind.Range = true
same_kind kind.Spent kind.Spent = true
same_kind a b = false

abbrev pub is_fault : FaultKind → Note → Bool
is_fault which (Done place worker) = false
is_fault which (Fault kind worker) = same_kind which kind

-- how many faults of a kind were noted
abbrev pub how_often : FaultKind → List Noted → ℕ
how_often which noted = count_by (λ x. is_fault which x.note) noted
