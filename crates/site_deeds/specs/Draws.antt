-- What the site draws from random words.
use Rattle.std.specs.Prelude.{◌≡◌, ◌≤◌, ℕ, List, [], length, map, Option, Some, None}
use Rattle.std.specs.Option.{option_map_or}
use Rattle.serial_pool.specs.Drawing.{IsDraw, IsSpent, IsUnfinished, word_limit}
use Rattle.serial_pool.specs.declared.drawn.DrawnSerial.{DrawnSerial}
use Rattle.serial_pool.specs.Held.{PoolView, PlanView, IsPlanFor, HasRoomFor, drawn_for}
use Rattle.gs1_keys.specs.declared.form.SerialForm.{SerialForm}
use Rattle.gs1_keys.specs.declared.form.Alphabet.TheVariants.{Digits}
use Rattle.deed_words.specs.Names.{Text}
use Rattle.deed_words.specs.Setups.{Setup, product_of}
use Rattle.deed_words.specs.World.{World}
use Rattle.deed_words.specs.Effects.{gtin_of}
use Rattle.deed_words.specs.History.{serials_of}
use Rattle.deed_words.specs.declared.world.Row.{Row}
use Rattle.deed_words.specs.declared.deed.Deed.{Deed}
use Rattle.deed_words.specs.declared.deed.Deed.TheVariants.{Draw}
use Rattle.deed_words.specs.declared.rule.Rule.{Rule}

-- what a serial of the GTIN looks like; a GTIN that is no product has none
unfoldable pub form_for : Setup → Text → SerialForm
form_for site gtin = option_map_or (λ product. product.form) (product_of site gtin) (record { alphabet = Digits; length = 0 })

-- a draw that breaks no rule draws from these words, and any other deed takes none
unfoldable pub Draws : Setup → World → Option Rule → Deed → List ℕ → List Text → Type 0
Draws site w None (Draw name count) taken drawn = IsDraw (serials_of w (gtin_of w name)) (form_for site (gtin_of w name)) count taken drawn
Draws site w rule deed taken drawn = (taken ≡ []) × (drawn ≡ [])

-- all the words that the draw may take hold too few new serials
unfoldable pub Spends : Setup → World → Option Rule → Deed → List ℕ → ℕ → Type 0
Spends site w None (Draw name count) taken found = IsSpent (serials_of w (gtin_of w name)) (form_for site (gtin_of w name)) count taken found
Spends site w rule deed taken found = ⊥

-- the words so far hold too few, and the next one couldn't be had
unfoldable pub Stops : Setup → World → Option Rule → Deed → List ℕ → Type 0
Stops site w None (Draw name count) taken = IsUnfinished (serials_of w (gtin_of w name)) (form_for site (gtin_of w name)) count taken
Stops site w rule deed taken = ⊥

-- a draw that breaks no rule may take so many words, and any other deed none
unfoldable pub MayTake : Option Rule → Deed → List ℕ → Type 0
MayTake None (Draw name count) taken = length taken ≤ word_limit count
MayTake rule deed taken = taken ≡ []

-- ---- the pool beside the world

-- the row as the pool has it
abbrev pub drawn_serial : Row → DrawnSerial
drawn_serial row = record { gtin = row.gtin; serial = row.serial }

-- the serials that were drawn, each with its GTIN
abbrev pub drawn_in : World → List DrawnSerial
drawn_in w = map drawn_serial w.rows

-- what a draw adds to the pool, if there is one
abbrev pub drawn_by_plan : Option PlanView → List DrawnSerial
drawn_by_plan None = []
drawn_by_plan (Some plan) = drawn_for plan.gtin plan.serials

-- the pool has room for the draw, if there is one
abbrev pub HasRoomToDraw : PoolView → Option PlanView → Type 0
HasRoomToDraw pool None = Unit {0}
HasRoomToDraw pool (Some plan) = HasRoomFor pool plan

-- the draw may be committed where so much was drawn
abbrev pub MayCommit : List DrawnSerial → Option PlanView → Type 0
MayCommit pairs None = Unit {0}
MayCommit pairs (Some plan) = IsPlanFor pairs plan
