-- What the trade wants of a history.
use Rattle.std.specs.Prelude.{◌≡◌, ◌<◌, ℕ, List, [], length, sum_by, Option, Some, option_map}
use Rattle.std.specs.List.{IsDistinct, AllByRecursion as Every}
use Rattle.deed_words.specs.Names.{Text, same, same_name}
use Rattle.deed_words.specs.Setups.{Setup, IsForPlanner}
use Rattle.deed_words.specs.World.{batch_of}
use Rattle.deed_words.specs.Accounts.{finding}
use Rattle.deed_words.specs.Rules.{broken}
use Rattle.deed_words.specs.Replies.{after, reply_to}
use Rattle.deed_words.specs.History.{world_of}
use Rattle.deed_words.specs.Sound.{IsSound}
use Rattle.deed_words.specs.Counts.{total, counts_of, drawn_of, counts_of_gtin, drawn_of_gtin, batches_of_gtin}
use Rattle.deed_words.specs.Once.{all_drawn, all_lent, all_commissioned, all_codes_made, WasOrdered}
use Rattle.deed_words.specs.declared.deed.OrderRow.{OrderRow}
use Rattle.deed_words.specs.declared.deed.Deed.TheVariants.{Orders, Close}
use Rattle.deed_words.specs.declared.entry.Entry.{Entry}
use Rattle.deed_words.specs.declared.reply.Reply.TheVariants.{Accepted}
use Rattle.deed_words.specs.declared.reply.Answer.TheVariants.{Orders as orders_told}
use Rattle.deed_words.specs.declared.rule.Rule.TheVariants.{NotAccounted}
use Rattle.deed_words.specs.declared.words.Phase.TheVariants.{Started}
use Rattle.deed_words.specs.declared.world.Batch.{Batch}

-- orders that a planner sends again
abbrev pub orders_again : ℕ → ℕ → ℕ → ℕ → Option Text → List OrderRow → Entry
orders_again station number worker stamp operator rows =
    record { station = station; number = number; worker = worker; stamp = stamp; operator = operator; deed = Orders rows; drawn = [] }

-- No serial of a product is drawn, lent or commissioned twice, and no container code is made twice. The six counts of a
-- batch and of a GTIN sum to the serials drawn. The world is sound. A planner's close on a Started batch is accepted
-- exactly where the batch is accounted for. Orders that were accepted before change nothing.
pub record Trade (site : Setup) (history : List Entry) : Type 0 where
  pub drawn_once : IsDistinct same_name (all_drawn site history)
  pub lent_once : IsDistinct same_name (all_lent site history)
  pub commissioned_once : IsDistinct same_name (all_commissioned site history)
  pub codes_once : IsDistinct same (all_codes_made site history)
  pub batch_sums : (name : Text) → total (counts_of (world_of site history) name) ≡ drawn_of history name
  pub gtin_sums : (gtin : Text) → total (counts_of_gtin (world_of site history) gtin) ≡ drawn_of_gtin site history gtin
  pub gtin_drawn : (gtin : Text) → drawn_of_gtin site history gtin ≡ sum_by (λ batch. drawn_of history batch.order.batch) (batches_of_gtin (world_of site history) gtin)
  pub sound : IsSound site (world_of site history)
  pub closes : (station : ℕ) (name : Text) (batch : Batch) → IsForPlanner site station → batch_of (world_of site history) name ≡ Some batch → batch.phase ≡ Started
      → broken site (world_of site history) station (Close name) ≡ option_map NotAccounted (finding site (world_of site history) name)
  pub orders : (station number worker stamp : ℕ) (operator : Option Text) (rows : List OrderRow) → IsForPlanner site station → 0 < length rows → Every (WasOrdered site history) rows
      → (after site (world_of site history) (orders_again station number worker stamp operator rows) ≡ world_of site history)
      × (reply_to site (world_of site history) (orders_again station number worker stamp operator rows) ≡ Accepted (orders_told 0 (length rows)))
