-- Order rows: which are new, and which differ from what was first accepted.
use Rattle.std.specs.Prelude.{Bool, not, List, [], ◌∷◌, ◌++◌, map, find, if◌then◌else◌}
use Rattle.std.specs.List.{list_any}
use Rattle.deed_words.specs.Names.{Text, same, same_order}
use Rattle.deed_words.specs.declared.deed.OrderRow.{OrderRow}
use Rattle.deed_words.specs.declared.words.Phase.TheVariants.{Planned}
use Rattle.deed_words.specs.Chain.{holds_of}
use Rattle.deed_words.specs.declared.world.Batch.{Batch}
use Rattle.deed_words.specs.World.{World}

abbrev pub planned : OrderRow → Batch
planned row = record { order = row; quantity = row.quantity; phase = Planned }

-- a batch of that name was ordered
unfoldable pub is_ordered : List OrderRow → Text → Bool
is_ordered orders name = list_any (λ order. same order.batch name) orders

-- the rows whose batch is neither among the orders nor in an earlier row
unfoldable pub new_orders : List OrderRow → List OrderRow → List OrderRow
new_orders orders [] = []
new_orders orders (row ∷ rows) =
    if is_ordered orders row.batch then new_orders orders rows else row ∷ new_orders (orders ++ row ∷ []) rows

-- the order rows as they were first accepted
unfoldable pub orders_in : World → List OrderRow
orders_in w = map (λ batch. batch.order) w.batches

-- the first order of the row's batch is another
unfoldable pub conflicts : List OrderRow → OrderRow → Bool
conflicts orders row = holds_of (λ order. not (same_order order row)) (find (λ order. same order.batch row.batch) orders)
