-- Readings one after the other.
use Rattle.std.specs.Prelude.{Option, Some, None}

-- what is read from what was read before, if anything was
infixl 10 ◌>>=◌
abbrev pub ◌>>=◌ : {A B : Type 0} → Option A → (A → Option B) → Option B
(Some x) >>= f = f x
None >>= f = None
