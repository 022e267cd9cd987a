-- That nothing of a batch changes.
use Rattle.std.specs.Prelude.{◌≡◌, List, filter}
use Rattle.deed_words.specs.Names.{Text, same}
use Rattle.deed_words.specs.declared.world.Pair.{Pair}
use Rattle.deed_words.specs.declared.world.Declaration.{Declaration}
use Rattle.deed_words.specs.World.{World, batch_of, rows_in, units_in}
use Rattle.deed_words.specs.Deeds.{batch_with}

-- the pairs whose parent is a unit of the batch
unfoldable pub pairs_in : World → Text → List Pair
pairs_in w name = filter (λ pair. same (batch_with w pair.parent) name) w.pairs

-- the declarations of the batch
unfoldable pub declared_in : World → Text → List Declaration
declared_in w name = filter (λ said. same said.batch name) w.declarations

-- order, quantity, phase, rows, units, packing and declarations of the batch stay
pub record KeepsBatch (w w' : World) (name : Text) : Type 0 where
  pub batch : batch_of w' name ≡ batch_of w name
  pub rows : rows_in w' name ≡ rows_in w name
  pub units : units_in w' name ≡ units_in w name
  pub pairs : pairs_in w' name ≡ pairs_in w name
  pub declared : declared_in w' name ≡ declared_in w name
