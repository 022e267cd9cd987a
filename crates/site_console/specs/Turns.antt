-- One request of the program to its store.
use Rattle.std.specs.Prelude.{◌≤◌, ℕ, List}
use Rattle.deed_words.specs.Setups.{Setup}
use Rattle.deed_words.specs.declared.entry.Ask.{Ask}
use Rattle.site_store.specs.declared.outcome.Outcome.{Outcome}
use Rattle.site_store.specs.Held.{furthest}
use Rattle.site_store.specs.Moved.{Taken}
use Rattle.site_store.specs.Noting.{Noted}
use Rattle.site_store.specs.One.{Steps}
use Rattle.site_store.specs.States.{State, all_of}

-- the store took one step for the request, as worker 0, where the journal ends no further than one of its history
pub record TurnsTo (site : Setup) (old : State) (ask : Ask) (taken : Taken) (outcome : Outcome) (new : State) : Type 0 where
  pub end : ℕ
  pub notes : List Noted
  pub reach : end ≤ furthest site (all_of old)
  pub step : Steps site end old 0 ask taken outcome new notes
