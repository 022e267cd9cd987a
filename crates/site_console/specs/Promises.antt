-- What is promised of a history.
use Rattle.std.specs.Prelude.{◌≡◌, List, ◌++◌, map, sum_by}
use Rattle.std.specs.List.{IsDistinct}
use Rattle.epcis_events.specs.Events.{events}
use Rattle.epcis_events.specs.Replaying.{replay}
use Rattle.epcis_events.specs.There.{pair_up}
use Rattle.deed_words.specs.Names.{Text, same, same_name}
use Rattle.deed_words.specs.Setups.{Setup}
use Rattle.deed_words.specs.declared.entry.Entry.{Entry}
use Rattle.deed_words.specs.History.{world_of}
use Rattle.deed_words.specs.Counts.{total, counts_of, counts_of_gtin, drawn_of, drawn_of_gtin, batches_of_gtin}
use Rattle.deed_words.specs.Once.{all_drawn, all_lent, all_commissioned, all_codes_made}
use Rattle.deed_words.specs.Sound.{IsSound}
use Rattle.site_console.specs.Closing.{ClosesWhereAccounted}

-- No GTIN and serial is drawn, lent or commissioned twice, and no container code is made twice. At each front of the
-- history the packing is sound and is what the replay of the events gives, a batch closes exactly where it is accounted
-- for, and the six counts of each batch sum to the serials drawn for it, and those of each GTIN to the serials drawn for
-- its batches, which are the sum of the serials drawn for each of its batches.
pub record Promises (site : Setup) (history : List Entry) : Type 0 where
  pub drawn_once : IsDistinct same_name (all_drawn site history)
  pub lent_once : IsDistinct same_name (all_lent site history)
  pub commissioned_once : IsDistinct same_name (all_commissioned site history)
  pub made_once : IsDistinct same (all_codes_made site history)
  pub sound : (front more : List Entry) → history ≡ front ++ more → IsSound site (world_of site front)
  pub packing : (front more : List Entry) → history ≡ front ++ more → (replay (events site front)).pairs ≡ map pair_up (world_of site front).pairs
  pub closes : (front more : List Entry) → history ≡ front ++ more → ClosesWhereAccounted site (world_of site front)
  pub batches_add_up : (front more : List Entry) (name : Text) → history ≡ front ++ more → total (counts_of (world_of site front) name) ≡ drawn_of front name
  pub gtins_add_up : (front more : List Entry) (gtin : Text) → history ≡ front ++ more → total (counts_of_gtin (world_of site front) gtin) ≡ drawn_of_gtin site front gtin
  pub gtins_are_sums : (front more : List Entry) (gtin : Text) → history ≡ front ++ more
      → drawn_of_gtin site front gtin ≡ sum_by (λ batch. drawn_of front batch.order.batch) (batches_of_gtin (world_of site front) gtin)
