-- The calls of the disk in a step, where their number is told.
use Rattle.std.specs.Prelude.{◌≡◌, ◌≢◌, ◌⊎◌, ℕ, Bool, true, false, List, [], ◌∷◌, Option}
use Rattle.outside.specs.Disks.{two_calls_more, OneOrTwoCalls}
use Rattle.deed_words.specs.declared.entry.Entry.{Entry}
use Rattle.site_store.specs.States.{State, all_of}

-- after a mend that succeeds: two more, where something was pending
abbrev pub mended_calls : List Entry → Option ℕ → Option ℕ
mended_calls [] calls = calls
mended_calls (entry ∷ entries) calls = two_calls_more calls

-- Of the one append behind this history: none where nothing is new, and four where it was written. Where the disk
-- failed, one or two if nothing is pending, and three or four if what is new is.
pub record AppendCalls (g : List Entry) (failed : Bool) (new : State) (before now : Option ℕ) : Type 0 where
  pub none : failed ≡ false → new.history ≡ g → now ≡ before
  pub written : failed ≡ false → new.history ≢ g → now ≡ two_calls_more (two_calls_more before)
  pub first_two : failed ≡ true → new.pending ≡ [] → OneOrTwoCalls before now
  pub last_two : failed ≡ true → new.pending ≢ [] → OneOrTwoCalls (two_calls_more before) now

-- Of a step: where something was pending and everything stays, the mend failed, at its first call or its second. Else
-- those of the mend, and then those of the append.
pub record StepCalls (old : State) (failed : Bool) (new : State) (before now : Option ℕ) : Type 0 where
  pub unmended : old.pending ≢ [] → new ≡ old → OneOrTwoCalls before now
  pub mended : (old.pending ≡ []) ⊎ (new ≢ old) → AppendCalls (all_of old) failed new (mended_calls old.pending before) now
