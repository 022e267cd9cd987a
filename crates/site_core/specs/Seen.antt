-- What is seen of a site: of an item and a unit of its world, and of an entry of its history.
use Rattle.std.specs.Prelude.{◌≡◌, ◌+◌, ◌-◌, ℕ, List, length, take, drop, Option, None, Some, option_map, option_and_then}
use Rattle.std.specs.List.{slice_get}
use Rattle.epc_urn.specs.declared.epc.Epc.TheVariants.{Item, Unit as Box}
use Rattle.deed_words.specs.Names.{Text}
use Rattle.deed_words.specs.Setups.{Setup}
use Rattle.deed_words.specs.Happenings.{moves, moves_of}
use Rattle.deed_words.specs.History.{world_of}
use Rattle.deed_words.specs.Rules.{broken}
use Rattle.deed_words.specs.World.{World, row_of, unit_of, parent, inside}
use Rattle.deed_words.specs.declared.entry.Entry.{Entry}
use Rattle.deed_words.specs.declared.entry.Move.{Move}
use Rattle.deed_words.specs.declared.reply.Reply.{Reply}
use Rattle.deed_words.specs.declared.reply.Reply.TheVariants.{Accepted, Refused}
use Rattle.deed_words.specs.declared.rule.Rule.{Rule}
use Rattle.batch_book.specs.Content.{name_at}
use Rattle.site_core.specs.declared.views.ItemView.{ItemView}
use Rattle.site_core.specs.declared.views.UnitView.{UnitView}
use Rattle.site_core.specs.declared.views.Logged.{Logged}

-- the name of a station
unfoldable pub name_of_station : Setup → ℕ → Option Text
name_of_station site station = option_map (λ s. s.name) (slice_get site.stations station)

-- the item of that name, where it was drawn
unfoldable pub item_seen : Setup → World → Text → Text → Option ItemView
item_seen site w gtin serial =
    option_map
    (λ row. record { batch = row.batch; line = option_and_then (name_of_station site) row.line; state = row.state; parent = parent w (Item gtin serial) })
    (row_of w gtin serial)

-- the unit of that code, where it was made
unfoldable pub unit_seen : World → Text → Option UnitView
unit_seen w sscc =
    option_map
    (λ unit. record { batch = unit.batch; level = unit.level; mark = unit.mark; parent = parent w (Box sscc); children = length (inside w sscc) })
    (unit_of w sscc)

-- the rule that a reply tells
unfoldable pub rule_told : Reply → Option Rule
rule_told (Accepted answer) = None
rule_told (Refused rule) = Some rule

-- the log tells of the entry who asked what, and the rule that it breaks in the world before it
pub record IsLogOf (site : Setup) (w : World) (entry : Entry) (logged : Logged) : Type 0 where
  pub station : logged.station ≡ entry.station
  pub number : logged.number ≡ entry.number
  pub operator : logged.operator ≡ entry.operator
  pub deed : logged.deed.now ≡ entry.deed
  pub rule : logged.rule ≡ broken site w entry.station entry.deed

-- the moves, or those of the batch at that place
unfoldable pub moves_seen : Setup → List Entry → Option ℕ → List Move
moves_seen site history None = moves site history
moves_seen site history (Some batch) = moves_of site history (name_at (world_of site history).batches batch)

-- those with the numbers from the one on, so many, where the first has the number 1
abbrev pub numbered : ℕ → ℕ → List Move → List Move
numbered from count all = drop (from - 1) (take (from + count - 1) all)
