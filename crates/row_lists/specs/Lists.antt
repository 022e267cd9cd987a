-- Rows by groups, and the rows of a group by number.
use Rattle.std.specs.Prelude.{◌≡◌, ℕ, suc, ◌^◌, ◌<◌, Bool, List, [], ◌∷◌, nat_eq, if◌then◌else◌, map, length, slice_index_or}
use Rattle.row_lists.specs.declared.list.RowList.{RowList}

-- the rows' groups; for how many more rows there is room in all, and of each group
pub record Listed : Type 0 where
  pub groups : List ℕ
  pub room : ℕ
  pub rooms : List ℕ

-- the places, from a number on, of those that pass the test
abbrev pub places_from : {A : Type 0} → (A → Bool) → ℕ → List A → List ℕ
places_from test at [] = []
places_from test at (x ∷ xs) = if test x then at ∷ places_from test (suc at) xs else places_from test (suc at) xs

-- the group is this one
abbrev pub is_group : ℕ → ℕ → Bool
is_group group other = nat_eq other group

-- the rows of the group
abbrev pub rows_of : List ℕ → ℕ → List ℕ
rows_of groups group = places_from (is_group group) 0 groups

-- the rows and the room of lists
abbrev pub rows_in : List RowList → List (List ℕ)
rows_in lists = map (λ list. list.rows.items) lists

abbrev pub rooms_in : List RowList → List ℕ
rooms_in lists = map (λ list. list.room) lists

-- the lists are those of the groups
pub record AreLists (groups : List ℕ) (all : List (List ℕ)) : Type 0 where
  pub few : length groups < 2 ^ 32
  pub lists : (group : ℕ) → slice_index_or all group [] ≡ rows_of groups group
