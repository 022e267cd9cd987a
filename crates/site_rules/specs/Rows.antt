-- What the rules say of one order row, one code, and one row.
use Rattle.std.specs.Prelude.{ℕ, true, false, ◌+◌, ◌++◌, ◌&&◌, Bool, not, List, [], ◌∷◌, Option, is_none}
use Rattle.gs1_element.specs.declared.code.Code.{Code}
use Rattle.deed_words.specs.Names.{Text}
use Rattle.deed_words.specs.Setups.{Setup, product_of}
use Rattle.deed_words.specs.World.{World, batch_of}
use Rattle.deed_words.specs.Chain.{when}
use Rattle.deed_words.specs.Deeds.{item_of}
use Rattle.deed_words.specs.Orders.{conflicts, orders_in}
use Rattle.deed_words.specs.Tests.{is_of, fits_order}
use Rattle.deed_words.specs.declared.deed.OrderRow.{OrderRow}
use Rattle.deed_words.specs.Moves.{moved, is_active}
use Rattle.deed_words.specs.declared.deed.Deed.{Deed}
use Rattle.deed_words.specs.declared.deed.Deed.TheVariants.{Pack}
use Rattle.deed_words.specs.declared.words.State.{State}
use Rattle.deed_words.specs.declared.rule.Rule.{Rule}
use Rattle.deed_words.specs.declared.rule.Rule.TheVariants.{UnknownProduct, OrderConflict, OtherBatch}

-- the site doesn't make the row's GTIN
abbrev pub unmade : Setup → ℕ → OrderRow → Option Rule
unmade site k row = when (is_none (product_of site row.gtin)) (UnknownProduct (k + 1))

-- the row differs from the first of its batch
abbrev pub conflicting : World → List OrderRow → ℕ → OrderRow → Option Rule
conflicting w rows k row = when (conflicts (orders_in w ++ rows) row) (OrderConflict (k + 1))

-- the code isn't of the batch, or not of its order
abbrev pub stray : World → Text → ℕ → Code → Option Rule
stray w name k code = when (not (is_of w name (item_of code) && fits_order (batch_of w name) code)) (OtherBatch k)

-- the deed can't be done to a row of the state
unfoldable pub forbids : Deed → State → Bool
forbids (Pack unit children) state = not (is_active state)
forbids deed state = is_none (moved deed state)

-- the order rows that a row adds, and how many batches: itself where it is new, and else none
abbrev pub kept : Bool → OrderRow → List OrderRow
kept true row = row ∷ []
kept false row = []

abbrev pub adds : Bool → ℕ
adds true = 1
adds false = 0
