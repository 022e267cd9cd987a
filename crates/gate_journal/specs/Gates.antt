-- Bytes up to a gate, and what a crash may leave around it.
use Rattle.std.specs.Prelude.{◌≡◌, ◌≢◌, ◌⊎◌, ◌<◌, ℕ, List, [], ◌∷◌, ◌++◌, length}

-- a gate that isn't open, and whatever stands behind it
abbrev pub IsShut : List ℕ → Type 0
IsShut [] = ⊥
IsShut (gate ∷ rest) = gate ≢ 1

-- these bytes, and then a closed gate
pub record EndsAt (front bytes : List ℕ) : Type 0 where
  pub rest : List ℕ
  pub shut : IsShut rest
  pub whole : bytes ≡ front ++ rest

-- a whole block between a gate that is open or closed and a closed one
pub record HalfOpen (front block bytes : List ℕ) : Type 0 where
  pub gate : ℕ
  pub ends : EndsAt (front ++ gate ∷ block) bytes

-- the block counts, or it doesn't
abbrev pub WithOrWithout : List ℕ → List ℕ → List ℕ → Type 0
WithOrWithout front block bytes = EndsAt front bytes ⊎ EndsAt (front ++ 1 ∷ block) bytes

-- each image has P, and end is the place behind these bytes
abbrev pub EachImage : (List ℕ → Type 0) → ℕ → List ℕ → (List ℕ → Type 0) → Type 0
EachImage image end front P = (c : List ℕ) → image c → (end ≡ length front) × P c

-- in each image there is a byte at this place
abbrev pub Reaches : (List ℕ → Type 0) → ℕ → Type 0
Reaches image end = (c : List ℕ) → image c → end < length c
