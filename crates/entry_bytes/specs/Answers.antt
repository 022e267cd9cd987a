-- What reading answers.
use Rattle.std.specs.Prelude.{◌≡◌, ◌⊎◌, Result, Ok, Err}
use Rattle.entry_bytes.specs.declared.fault.EntryFault.{EntryFault}
use Rattle.entry_bytes.specs.declared.fault.EntryFault.TheVariants.{Memory}

-- the result, seen by `seen`, is what is due, or it is want of memory
abbrev pub IsRead : {T D : Type 0} → (T → D) → Result T EntryFault → Result D EntryFault → Type 0
IsRead seen (Ok x) due = due ≡ Ok (seen x)
IsRead seen (Err e) due = (e ≡ Memory) ⊎ (due ≡ Err e)
