-- Which calls of a device in memory fail.
use Rattle.std.specs.Prelude.{◌≡◌, ◌+◌, ◌-◌, ◌^◌, ℕ, min, List}
use Rattle.std.specs.List.{Contains}

-- the numbers, from 1, of the calls that fail, how many calls were made, and how many of them failed
pub record Calls : Type 0 where
  pub failing : List ℕ
  pub made : ℕ
  pub failed : ℕ

-- with this list, before the first call
abbrev pub told : List ℕ → Calls
told failing = record { failing = failing; made = 0; failed = 0 }

-- one call more was made; the count stands still at the last u64
abbrev pub one_more : ℕ → ℕ
one_more made = min (made + 1) (2 ^ 64 - 1)

-- the number of the call that comes is on the list
abbrev pub IsListed : Calls → Type 0
IsListed calls = Contains calls.failing (one_more calls.made)

-- a call was made, and the list is the same
pub record IsCalled (old new : Calls) : Type 0 where
  pub same_list : new.failing ≡ old.failing
  pub counted : new.made ≡ one_more old.made
