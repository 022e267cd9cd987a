-- What devices tell, and how often they failed.
use Rattle.std.specs.Prelude.{◌≤◌, ℕ, Bool, List, Option}
use Rattle.std.specs.Bool.{OnTrue}
use Rattle.outside.specs.Causes.{Rose}

-- a source with the bytes that are left, or a sink with those that were put
pub record Stream : Type 0 where
  pub bytes : Option (List ℕ)
  pub faults : ℕ

-- the bytes that were put, and the moments and the words that are left
pub record Told : Type 0 where
  pub held : Option (List ℕ)
  pub moments : Option (List ℕ)
  pub words : Option (List ℕ)

-- how often the devices of a store failed
pub record Counts : Type 0 where
  pub disk : ℕ
  pub clock : ℕ
  pub words : ℕ

-- a count never falls, and rose where the fault was told
pub record RoseIf (told : Bool) (before now : ℕ) : Type 0 where
  pub later : before ≤ now
  pub rose : OnTrue told (Rose before now)
