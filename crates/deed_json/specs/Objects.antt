-- The JSON objects of replies, whose members stand in order of the bytes of their keys.
use Rattle.std.specs.Prelude.{ℕ, List, [], ◌∷◌, true, false, codes}
use Rattle.serde_json.specs.Data.{Data, boolean, number, unsigned, string, object, Items, no_items, item, Members, no_members, member, put}

-- a key and its value
abbrev pub Told : Type 0
Told = List ℕ × Data

abbrev pub whole : ℕ → Data
whole n = number (unsigned n)

-- the texts as the items of an array, and the numbers
abbrev pub texts_of : List (List ℕ) → Items
texts_of [] = no_items
texts_of (text ∷ texts) = item (string text) (texts_of texts)

abbrev pub numbers_of : List ℕ → Items
numbers_of [] = no_items
numbers_of (n ∷ ns) = item (whole n) (numbers_of ns)

-- the members, and each of these put at its key
abbrev pub with_told : Members → List Told → Members
with_told members [] = members
with_told members (one ∷ told) = with_told (put one.0 one.1 members) told

-- the members of every refusal
abbrev pub refused_members : List ℕ → Members
refused_members rule = member (codes "ok") (boolean false) (member (codes "rule") (string rule) no_members)

-- a refusal by the rule of that name, which tells these
abbrev pub refused : List ℕ → List Told → Data
refused rule told = object (with_told (refused_members rule) told)

-- an acceptance that tells these
abbrev pub accepted : List Told → Data
accepted told = object (with_told (member (codes "ok") (boolean true) no_members) told)
