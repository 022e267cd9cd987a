-- Which bytes spell which group, and how long they are.
use Rattle.std.specs.Prelude.{◌≡◌, ◌⊎◌, ◌≤◌, ℕ, ◌+◌, List, All, sum_by, length, None}
use Rattle.deed_words.specs.Proper.{IsProperEntry}
use Rattle.deed_words.specs.declared.entry.Entry.{Entry}
use Rattle.entry_bytes.specs.declared.version.Version.TheVariants.{First}
use Rattle.entry_bytes.specs.Kept.{IsKept}
use Rattle.entry_bytes.specs.Spelling.{group_in, entry_bytes, group_bytes}

-- 1 to 16 entries, each of them proper and as its types keep it
pub record IsGroup (group : List Entry) : Type 0 where
  pub some : 1 ≤ length group
  pub few : length group ≤ 16
  pub kept : All IsKept group
  pub proper : All IsProperEntry group

-- the spelling of version 1, which has no operators
pub record IsOlder (group : List Entry) (bytes : List ℕ) : Type 0 where
  pub unnamed : All (λ entry. entry.operator ≡ None) group
  pub older : bytes ≡ group_in First group

-- the bytes spell the group
pub record SpellsGroup (group : List Entry) (bytes : List ℕ) : Type 0 where
  pub is : IsGroup group
  pub spelling : (bytes ≡ group_bytes group) ⊎ IsOlder group bytes

abbrev pub entry_size : Entry → ℕ
entry_size entry = length (entry_bytes entry)

-- how many bytes a group takes as it is written
abbrev pub group_size : List Entry → ℕ
group_size group = 1 + sum_by entry_size group
