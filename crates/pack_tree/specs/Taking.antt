-- What may be put back.
use Rattle.std.specs.Prelude.{◌≡◌, ◌≢◌, ℕ, ◌+◌, ◌<◌, ◌≤◌, List, [], ◌∷◌, ◌++◌, length, Option, None, Some}
use Rattle.std.specs.List.{AllByRecursion}
use Rattle.pack_tree.specs.declared.node.Node.{Node}
use Rattle.pack_tree.specs.declared.link.Pair.{Pair}
use Rattle.pack_tree.specs.declared.link.Taken.{Taken}
use Rattle.pack_tree.specs.Pairs.{parent_in, inside}
use Rattle.pack_tree.specs.Numbers.{insert_pair}
use Rattle.pack_tree.specs.Packing.{Packed, HasRoom, put_pair}

abbrev pub taken_pair : Taken → Pair
taken_pair taken = record { child = taken.child; parent = taken.parent; number = taken.number }

abbrev pub first_of : List Node → Option Node
first_of [] = None
first_of (node ∷ nodes) = Some node

abbrev pub last_of : List Node → Option Node
last_of [] = None
last_of (node ∷ []) = Some node
last_of (node ∷ next ∷ nodes) = last_of (next ∷ nodes)

-- the pair was there, between its neighbours, and isn't there any more
pub record IsGone (packed : Packed) (taken : Taken) : Type 0 where
  pub room : HasRoom packed.items packed.units taken.child
  pub range : taken.parent < packed.units
  pub alone : parent_in packed.pairs taken.child ≡ None
  pub given : taken.number ≤ packed.last
  pub new : AllByRecursion (λ pair. pair.number ≢ taken.number) packed.pairs
  pub few : length packed.pairs + 1 ≤ packed.last
  pub before : List Node
  pub after : List Node
  pub between : inside taken.parent (insert_pair (taken_pair taken) packed.pairs) ≡ before ++ taken.child ∷ after
  pub previous : taken.previous ≡ last_of before
  pub next : taken.next ≡ first_of after

-- the child's pair is the last one that was put
pub record WasPut (packed : Packed) (child : Node) : Type 0 where
  pub parent : ℕ
  pub before : List Pair
  pub is : packed.pairs ≡ before ++ put_pair child parent packed.last ∷ []
