-- What a contract says of batches.
use Rattle.std.specs.Prelude.{ℕ, zero, suc, ◌<◌, Bool, List, [], ◌∷◌, map, length}
use Rattle.std.specs.List.{IsDistinct}
use Rattle.deed_words.specs.Names.{Text, same}
use Rattle.deed_words.specs.declared.deed.OrderRow.{OrderRow}
use Rattle.deed_words.specs.declared.words.Phase.{Phase}
use Rattle.deed_words.specs.declared.words.Phase.TheVariants.{Planned}
use Rattle.deed_words.specs.declared.world.Batch.{Batch}

-- the name of a batch
abbrev pub name_in : Batch → Text
name_in batch = batch.order.batch

-- the batch is of this name
unfoldable pub is_called : Text → Batch → Bool
is_called name batch = same (name_in batch) name

-- no two batches have one name
abbrev pub AreApart : List Batch → Type 0
AreApart batches = IsDistinct same (map name_in batches)

-- its name isn't empty
abbrev pub IsNamed : Batch → Type 0
IsNamed batch = 0 < length (name_in batch)

-- a batch as it is ordered
abbrev pub planned : OrderRow → Batch
planned order = record { order = order; quantity = order.quantity; phase = Planned }

-- a batch in another phase, and with another quantity
abbrev pub with_phase : Phase → Batch → Batch
with_phase phase batch = record batch { phase = phase }

abbrev pub with_quantity : ℕ → Batch → Batch
with_quantity quantity batch = record batch { quantity = quantity }

-- the batches, where the one at a place is changed
abbrev pub changed : (Batch → Batch) → List Batch → ℕ → List Batch
changed change [] at = []
changed change (batch ∷ batches) zero = change batch ∷ batches
changed change (batch ∷ batches) (suc at) = batch ∷ changed change batches at

-- the batches, where the one at a place is in another phase, or has another quantity
abbrev pub phased : List Batch → ℕ → Phase → List Batch
phased batches at phase = changed (with_phase phase) batches at

abbrev pub amended : List Batch → ℕ → ℕ → List Batch
amended batches at quantity = changed (with_quantity quantity) batches at
