-- The clock and the random words of the simulation.
use Rattle.std.specs.Prelude.{◌+◌, ◌*◌, ◌%◌, ◌^◌, ℕ, List, map}
use Rattle.site_sim.specs.Requests.{below}

-- the moment behind so many, in milliseconds since 1970: one a second, the first a second after the year 2026 began
abbrev pub moment_at : ℕ → ℕ
moment_at k = 1767225600000 + 1000 * (k + 1)

-- the word behind so many
abbrev pub word_at : ℕ → ℕ → ℕ
word_at seed k = (seed + (k + 1) * 11400714819323198485) % 2 ^ 64

-- the first so many
unfoldable pub moments : ℕ → List ℕ
moments count = map moment_at (below count)

unfoldable pub words : ℕ → ℕ → List ℕ
words seed count = map (word_at seed) (below count)
