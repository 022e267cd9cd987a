-- What a memo holds, as contracts see it.
use Rattle.std.specs.Prelude.{ℕ, List, [], ◌∷◌, ◌++◌, slice_index_or, slice_set}
use Rattle.request_memo.specs.declared.page.Told.{Told}

-- by station: what it asked and was told, in the order of its numbers, and for how many more there is room
pub record Pages : Type 0 where
  pub told : List (List Told)
  pub room : List ℕ

-- what a station asked and was told
abbrev pub told_by : List (List Told) → ℕ → List Told
told_by pages station = slice_index_or pages station []

-- the pages, with one thing more at the end of a station's
abbrev pub with_told : List (List Told) → ℕ → Told → List (List Told)
with_told pages station told = slice_set pages station (told_by pages station ++ told ∷ [])
