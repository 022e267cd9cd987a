-- The six counts of a batch or a GTIN, and the serials that were drawn for it.
use Rattle.std.specs.Prelude.{ℕ, ◌+◌, Bool, true, false, List, length, filter, sum_by, if◌then◌else◌}
use Rattle.deed_words.specs.Names.{Text, same}
use Rattle.deed_words.specs.Setups.{Setup}
use Rattle.deed_words.specs.declared.entry.Entry.{Entry}
use Rattle.deed_words.specs.declared.deed.Deed.{Deed}
use Rattle.deed_words.specs.declared.deed.Deed.TheVariants.{Draw}
use Rattle.deed_words.specs.declared.words.State.{State}
use Rattle.deed_words.specs.declared.words.State.TheVariants as state
use Rattle.deed_words.specs.declared.world.Batch.{Batch}
use Rattle.deed_words.specs.declared.world.Row.{Row}
use Rattle.deed_words.specs.World.{World, rows_in, nothing_yet}
use Rattle.deed_words.specs.Accounts.{how_many}
use Rattle.deed_words.specs.Moves.{is_lent, is_active}
use Rattle.deed_words.specs.Tests.{rows_of_gtin}
use Rattle.deed_words.specs.Effects.{gtin_of}
use Rattle.deed_words.specs.Walk.{steps_from}

unfoldable pub is_unused : State → Bool
is_unused state.Fresh = true
is_unused state.Returned = true
is_unused other = false

unfoldable pub is_sampled : State → Bool
is_sampled state.Sampled = true
is_sampled other = false

unfoldable pub counts_as_rejected : State → Bool
counts_as_rejected state.Rejected = true
counts_as_rejected state.Spoiled = true
counts_as_rejected other = false

unfoldable pub is_gone : State → Bool
is_gone state.Gone = true
is_gone other = false

-- how some rows stand
pub record Counts : Type 0 where
  pub unused : ℕ
  pub lent : ℕ
  pub commissioned : ℕ
  pub sampled : ℕ
  pub rejected : ℕ
  pub destroyed : ℕ

unfoldable pub counts_over : List Row → Counts
counts_over rows = record {
  unused = how_many is_unused rows;
  lent = how_many is_lent rows;
  commissioned = how_many is_active rows;
  sampled = how_many is_sampled rows;
  rejected = how_many counts_as_rejected rows;
  destroyed = how_many is_gone rows;
}

unfoldable pub counts_of : World → Text → Counts
counts_of w name = counts_over (rows_in w name)

unfoldable pub counts_of_gtin : World → Text → Counts
counts_of_gtin w gtin = counts_over (rows_of_gtin w gtin)

unfoldable pub batches_of_gtin : World → Text → List Batch
batches_of_gtin w gtin = filter (λ batch. same batch.order.gtin gtin) w.batches

abbrev pub total : Counts → ℕ
total c = c.unused + c.lent + c.commissioned + c.sampled + c.rejected + c.destroyed

-- the deed draws for the batch
unfoldable pub draws_for : Text → Deed → Bool
draws_for name (Draw other count) = same other name
draws_for name deed = false

-- how many serials were drawn for the batch
unfoldable pub drawn_of : List Entry → Text → ℕ
drawn_of history name = sum_by (λ entry. if draws_for name entry.deed then length entry.drawn else 0) history

-- the deed draws for a batch of the GTIN
unfoldable pub draws_of : World → Text → Deed → Bool
draws_of w gtin (Draw name count) = same (gtin_of w name) gtin
draws_of w gtin deed = false

-- how many serials the entries draw for batches of the GTIN, from a world on
unfoldable pub drawn_of_gtin_from : Setup → World → List Entry → Text → ℕ
drawn_of_gtin_from site w entries gtin =
    sum_by (λ step. if draws_of step.before gtin step.entry.deed then length step.entry.drawn else 0) (steps_from site w entries)

-- how many serials were drawn for batches of the GTIN
abbrev pub drawn_of_gtin : Setup → List Entry → Text → ℕ
drawn_of_gtin site history gtin = drawn_of_gtin_from site nothing_yet history gtin
