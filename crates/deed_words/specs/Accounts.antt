-- When a batch is accounted for, and what is found where it isn't.
use Rattle.std.specs.Prelude.{ℕ, Bool, true, false, not, ◌&&◌, List, [], ◌∷◌, length, filter, find, reverse, Option, None, is_none, nat_eq, nat_lt, option_map, option_and_then, if◌then◌else◌}
use Rattle.std.specs.List.{list_any}
use Rattle.deed_words.specs.Names.{Text, same}
use Rattle.epc_urn.specs.declared.epc.Epc.TheVariants.{Unit as Box}
use Rattle.deed_words.specs.Setups.{Setup}
use Rattle.deed_words.specs.declared.words.State.{State}
use Rattle.deed_words.specs.declared.words.State.TheVariants as state
use Rattle.deed_words.specs.declared.words.Level.{Level}
use Rattle.deed_words.specs.declared.words.Level.TheVariants.{Case, Pallet}
use Rattle.deed_words.specs.declared.rule.Finding.{Finding}
use Rattle.deed_words.specs.declared.rule.Finding.TheVariants.{StillLent, StillRejected, Unpacked, UnitOpen, UnitLoose, NotDeclared, DeclaredDiffers}
use Rattle.deed_words.specs.Chain.{first, when, each, holds_of}
use Rattle.deed_words.specs.Moves.{is_lent, is_rejected, is_active, is_filling, is_sealed}
use Rattle.deed_words.specs.declared.world.Row.{Row}
use Rattle.deed_words.specs.declared.world.Container.{Container}
use Rattle.deed_words.specs.World.{World, batch_of, parent, rows_in, units_in, name_of}

-- the row counts as good for its line
unfoldable pub is_good : State → Bool
is_good state.Active = true
is_good state.Sampled = true
is_good state.Rejected = true
is_good state.Gone = true
is_good other = false

unfoldable pub is_spoiled : State → Bool
is_spoiled state.Spoiled = true
is_spoiled other = false

unfoldable pub is_returned : State → Bool
is_returned state.Returned = true
is_returned other = false

unfoldable pub is_case : Level → Bool
is_case Case = true
is_case Pallet = false

-- the row was lent to the line
unfoldable pub was_lent_to : ℕ → Row → Bool
was_lent_to line row = holds_of (nat_eq line) row.line

-- the rows of the batch that were lent to the line
unfoldable pub rows_of_line : World → Text → ℕ → List Row
rows_of_line w name line = filter (was_lent_to line) (rows_in w name)

unfoldable pub how_many : (State → Bool) → List Row → ℕ
how_many test rows = length (filter (λ row. test row.state) rows)

-- good, spoiled and returned, as the rows have them
unfoldable pub line_numbers : World → Text → ℕ → List ℕ
line_numbers w name line =
    let rows : List Row = rows_of_line w name line in
    how_many is_good rows ∷ how_many is_spoiled rows ∷ how_many is_returned rows ∷ []

-- good, spoiled and returned, as the line declared them last
unfoldable pub declared_numbers : World → Text → ℕ → Option (List ℕ)
declared_numbers w name line =
    option_map (λ said. said.good ∷ said.spoiled ∷ said.returned ∷ [])
    (find (λ said. same said.batch name && nat_eq said.line line) (reverse w.declarations))

-- the line was lent serials of the batch
unfoldable pub has_line : World → Text → ℕ → Bool
has_line w name line = list_any (was_lent_to line) (rows_in w name)

-- the order of the batch has pallets
unfoldable pub has_pallets : World → Text → Bool
has_pallets w name = holds_of (λ batch. nat_lt 0 batch.order.pallet_size) (batch_of w name)

unfoldable pub stands_loose : World → Container → Bool
stands_loose w unit = is_case unit.level && is_sealed unit.mark && is_none (parent w (Box unit.sscc))

unfoldable pub differs : World → Text → ℕ → Option Finding
differs w name line =
    option_and_then
    (λ said. when (not (same said (line_numbers w name line))) (DeclaredDiffers line (line_numbers w name line) said))
    (declared_numbers w name line)

unfoldable pub still_lent : World → Text → Option Finding
still_lent w name = option_map (λ row. StillLent row.serial) (find (λ row. is_lent row.state) (rows_in w name))

unfoldable pub still_rejected : World → Text → Option Finding
still_rejected w name = option_map (λ row. StillRejected row.serial) (find (λ row. is_rejected row.state) (rows_in w name))

unfoldable pub unpacked : World → Text → Option Finding
unpacked w name = option_map (λ row. Unpacked row.serial) (find (λ row. is_active row.state && is_none (parent w (name_of row))) (rows_in w name))

unfoldable pub unit_open : World → Text → Option Finding
unit_open w name = option_map (λ unit. UnitOpen unit.sscc) (find (λ unit. is_filling unit.mark) (units_in w name))

unfoldable pub unit_loose : World → Text → Option Finding
unit_loose w name = if has_pallets w name then option_map (λ unit. UnitLoose unit.sscc) (find (stands_loose w) (units_in w name)) else None

unfoldable pub not_declared : Setup → World → Text → Option Finding
not_declared site w name = each site.stations (λ line station. when (has_line w name line && is_none (declared_numbers w name line)) (NotDeclared line))

unfoldable pub declared_differs : Setup → World → Text → Option Finding
declared_differs site w name = each site.stations (λ line station. if has_line w name line then differs w name line else None)

-- the seven findings in their order, each at the first row, unit or station that shows it
unfoldable pub findings : Setup → World → Text → List (Option Finding)
findings site w name =
    still_lent w name ∷ still_rejected w name ∷ unpacked w name ∷ unit_open w name ∷ unit_loose w name
    ∷ not_declared site w name ∷ declared_differs site w name ∷ []

-- why the batch isn't accounted for
unfoldable pub finding : Setup → World → Text → Option Finding
finding site w name = first (findings site w name)
