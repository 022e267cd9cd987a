-- The calls of a source in memory.
use Rattle.std.specs.Prelude.{ℕ, List, [], ◌∷◌, ◌++◌, take, drop, Option, Some, None}
use Rattle.outside.specs.Devices.{Ask, ask}
use Rattle.outside.specs.declared.call.Call.{Call, Call', Held-Call-before-1, None', Some'}

-- the calls up to this one, with what came of these bytes
abbrev mutual
  pub asks_to : List ℕ → Call → List Ask
  asks_to bytes (Call' room from count shape before) = asks_before bytes before ++ ask room (take count (drop from bytes)) ∷ []

  pub asks_before : List ℕ → Held-Call-before-1 → List Ask
  asks_before bytes None' = []
  asks_before bytes (Some' call) = asks_to bytes call

-- those up to the last one
abbrev pub asks_of : List ℕ → Option Call → List Ask
asks_of bytes None = []
asks_of bytes (Some call) = asks_to bytes call
