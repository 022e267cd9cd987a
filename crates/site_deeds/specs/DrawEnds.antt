-- How a draw of the site ends.
use Rattle.std.specs.Prelude.{◌≤◌, ℕ, Bool, true, false, List, length, Result, Ok, Err}
use Rattle.serial_pool.specs.Drawing.{IsDraw, IsSpent, IsUnfinished, word_limit}
use Rattle.serial_pool.specs.Held.{PlanView}
use Rattle.deed_words.specs.Names.{Text}
use Rattle.deed_words.specs.Setups.{Setup}
use Rattle.deed_words.specs.World.{World}
use Rattle.deed_words.specs.Effects.{gtin_of}
use Rattle.site_deeds.specs.declared.fault.PlanFault.{PlanFault}
use Rattle.site_deeds.specs.declared.fault.PlanFault.TheVariants.{Memory, WordsFault, WordsSpent}
use Rattle.deed_words.specs.History.{serials_of}
use Rattle.site_deeds.specs.Draws.{form_for}

-- what the draw answers after it took these words; want of memory may come at any of them
abbrev pub DrawEnds : Setup → World → Text → ℕ → List ℕ → Result PlanView PlanFault → Type 0
DrawEnds site w name count taken (Ok plan) = IsDraw (serials_of w (gtin_of w name)) (form_for site (gtin_of w name)) count taken plan.serials
DrawEnds site w name count taken (Err (WordsSpent found)) = IsSpent (serials_of w (gtin_of w name)) (form_for site (gtin_of w name)) count taken found
DrawEnds site w name count taken (Err WordsFault) = IsUnfinished (serials_of w (gtin_of w name)) (form_for site (gtin_of w name)) count taken
DrawEnds site w name count taken (Err Memory) = length taken ≤ word_limit count

abbrev pub is_words_fault : {T : Type 0} → Result T PlanFault → Bool
is_words_fault (Ok value) = false
is_words_fault (Err (WordsSpent found)) = false
is_words_fault (Err WordsFault) = true
is_words_fault (Err Memory) = false
