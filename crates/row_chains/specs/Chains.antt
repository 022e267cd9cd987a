-- Rows by groups, and their links.
use Rattle.std.specs.Prelude.{◌≡◌, ℕ, ◌+◌, ◌-◌, ◌^◌, ◌<◌, ◌≤◌, List, Option, None, Some, eqb, cond, length, slice_index, slice_set}

-- the rows' groups, and how many more rows have room
pub record Grouped : Type 0 where
  pub groups : List ℕ
  pub room : ℕ

-- no row of the group stands at or after the one place and before the other
abbrev pub NoneIn : List ℕ → ℕ → ℕ → ℕ → Type 0
NoneIn groups from to group = (k : ℕ) → from ≤ k → k < to → slice_index groups k ≡ group → ⊥

-- the row is the first of the group from a place on
abbrev pub IsFollowed : List ℕ → ℕ → ℕ → Option ℕ → Type 0
IsFollowed groups from group None = NoneIn groups from (length groups) group
IsFollowed groups from group (Some row) = (from ≤ row) × (row < length groups) × (slice_index groups row ≡ group) × NoneIn groups from row group

-- the link is to the first row of the group from a place on
pub record IsAfter (groups : List ℕ) (from group link : ℕ) : Type 0 where
  pub is : 0 < link → (from < link) × (link ≤ length groups) × (slice_index groups (link - 1) ≡ group) × NoneIn groups from (link - 1) group
  pub none : link ≡ 0 → NoneIn groups from (length groups) group

-- the link is to the last row of the group before a place
pub record IsBefore (groups : List ℕ) (to group link : ℕ) : Type 0 where
  pub within : link ≤ to
  pub is : 0 < link → slice_index groups (link - 1) ≡ group
  pub none : NoneIn groups link to group

pub record AreLinked (groups previous next first last : List ℕ) : Type 0 where
  pub firsts : (group : ℕ) → IsAfter groups 0 group (slice_index first group)
  pub lasts : (group : ℕ) → IsBefore groups (length groups) group (slice_index last group)
  pub nexts : (row : ℕ) → row < length groups → IsAfter groups (row + 1) (slice_index groups row) (slice_index next row)
  pub previouses : (row : ℕ) → row < length groups → IsBefore groups row (slice_index groups row) (slice_index previous row)

-- the ends, or the links, after a row that is followed by a link: it is the first where nothing is before it
abbrev pub first_with : ℕ → List ℕ → ℕ → ℕ → List ℕ
first_with before first group link = cond (eqb before 0) (slice_set first group link) first

abbrev pub next_with : ℕ → List ℕ → ℕ → List ℕ
next_with before next link = cond (eqb before 0) next (slice_set next (before - 1) link)

pub record AreChains (groups previous next first last : List ℕ) (of_groups of_previous of_next room : ℕ) : Type 0 where
  pub linked : AreLinked groups previous next first last
  pub previous_fits : length previous ≡ length groups
  pub next_fits : length next ≡ length groups
  pub first_fits : 0 < length groups + room → 65536 ≤ length first
  pub last_fits : 0 < length groups + room → 65536 ≤ length last
  pub few : length groups + room < 2 ^ 31
  pub in_groups : length groups + room ≤ of_groups
  pub in_previous : length groups + room ≤ of_previous
  pub in_next : length groups + room ≤ of_next
