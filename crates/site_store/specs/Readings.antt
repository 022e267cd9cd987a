-- What bytes are read as: all that a load may answer where no call fails and memory is found.
use Rattle.std.specs.Prelude.{ℕ, List}
use Rattle.deed_words.specs.Setups.{Setup}
use Rattle.deed_words.specs.declared.entry.Entry.{Entry}
use Rattle.gate_journal.specs.Grammar.{IsNone}
use Rattle.site_store.specs.Held.{Held, IsBadHistory}

-- no journal, one that is bad at this place, or a setup with its history
pub data Reading : Type 0 where
  Nothing : Reading
  Bad : (place : ℕ) → Reading
  Kept : (site : Setup) → (history : List Entry) → Reading

abbrev pub ReadsAs : Reading → List ℕ → Type 0
ReadsAs Nothing bytes = IsNone bytes
ReadsAs (Bad place) bytes = IsBadHistory bytes place
ReadsAs (Kept site history) bytes = Held site history bytes
