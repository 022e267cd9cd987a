-- What the calls of a disk do to its content, and what a crash may leave between two syncs.
use Rattle.std.specs.Prelude.{◌≡◌, ◌⊎◌, ℕ, ◌+◌, ◌≤◌, max, List, ◌++◌, length, take, drop, Option, Some, None}
use Rattle.outside.specs.Failing.{one_more}

-- P holds of the content, where it is told
abbrev pub Tells : Option (List ℕ) → (List ℕ → Type 0) → Type 0
Tells told P = (c : List ℕ) → told ≡ Some c → P c

-- neither content is told, or both are, and the new one comes from the old one by this step
abbrev pub Together : (List ℕ → List ℕ → Type 0) → Option (List ℕ) → Option (List ℕ) → Type 0
Together step None None = Unit {0}
Together step None (Some new) = ⊥
Together step (Some old) None = ⊥
Together step (Some old) (Some new) = step old new

-- one call more was made, where their number is told
abbrev pub one_call_more : Option ℕ → Option ℕ
one_call_more None = None
one_call_more (Some made) = Some (one_more made)

abbrev pub two_calls_more : Option ℕ → Option ℕ
two_calls_more calls = one_call_more (one_call_more calls)

-- one call more was made, or two
abbrev pub OneOrTwoCalls : Option ℕ → Option ℕ → Type 0
OneOrTwoCalls old new = (new ≡ one_call_more old) ⊎ (new ≡ two_calls_more old)

-- old with these bytes at this offset
abbrev pub overwritten : ℕ → List ℕ → List ℕ → List ℕ
overwritten at bytes old = take at old ++ bytes ++ drop (at + length bytes) old

-- after a write of n bytes that a crash cuts short: any bytes in the range, any end between the old end and
-- that of the range, the same elsewhere
pub record Torn (at n : ℕ) (old new : List ℕ) : Type 0 where
  pub before : take at new ≡ take at old
  pub after : drop (at + n) new ≡ drop (at + n) old
  pub no_shorter : length old ≤ length new
  pub no_longer : length new ≤ max (length old) (at + n)

-- each new image is an old image after a step
abbrev pub Follows : (List ℕ → List ℕ → Type 0) → (List ℕ → Type 0) → (List ℕ → Type 0) → Type 0
Follows step old new = (c : List ℕ) → new c → (d : List ℕ) × old d × step d c

-- each step from an old image leads to a new image
abbrev pub LeadsTo : (List ℕ → List ℕ → Type 0) → (List ℕ → Type 0) → (List ℕ → Type 0) → Type 0
LeadsTo step old new = (d c : List ℕ) → old d → step d c → new c

-- there is no image but the content
abbrev pub Only : Option (List ℕ) → (List ℕ → Type 0) → Type 0
Only told image = (c : List ℕ) → image c → told ≡ Some c

abbrev pub NoMoreImages : (List ℕ → Type 0) → (List ℕ → Type 0) → Type 0
NoMoreImages old new = (c : List ℕ) → new c → old c

-- the images are the same
pub record SameImages (old new : List ℕ → Type 0) : Type 0 where
  pub no_more : NoMoreImages old new
  pub no_fewer : NoMoreImages new old

-- Time goes on: a crash since t may have left what it may have left before, or what it may leave now.
pub record Elapses (before now : ℕ) (past since : ℕ → List ℕ → Type 0) (image : List ℕ → Type 0) : Type 0 where
  pub later : before ≤ now
  pub nothing_else : (t : ℕ) (c : List ℕ) → t ≤ before → since t c → past t c ⊎ image c
  pub keeps : (t : ℕ) (c : List ℕ) → t ≤ before → past t c → since t c

-- Each image since old has P, and what was possible before is so still.
pub record LeavesOnly {D : Type 0} (moment : D → ℕ) (since : D → ℕ → List ℕ → Type 0) (old new : D) (P : List ℕ → Type 0) : Type 0 where
  pub later : moment old ≤ moment new
  pub each : (c : List ℕ) → since new (moment old) c → P c
  -- for a run that began earlier
  pub before : (t : ℕ) (c : List ℕ) → t ≤ moment old → since new t c → since old t c ⊎ P c
  pub keeps : (t : ℕ) (c : List ℕ) → t ≤ moment old → since old t c → since new t c

-- where nothing is told there is no content
pub untold : (c : List ℕ) → None ≡ Some c → ⊥
untold c told = cc
