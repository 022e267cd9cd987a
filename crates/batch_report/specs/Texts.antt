-- The text of a report.
use Rattle.std.specs.Prelude.{ℕ, ◌-◌, ◌/◌, ◌%◌, ◌+◌, List, [], ◌∷◌, ◌++◌, length, replicate, slice_index, codes, decimal, if◌then◌else◌, ◌==◌}
use Rattle.std.specs.List.{flat_map}
use Rattle.gs1_element.specs.Dates.{two_digits, days_in}
use Rattle.deed_words.specs.Names.{Text}
use Rattle.deed_words.specs.declared.words.Phase.{Phase}
use Rattle.deed_words.specs.declared.words.Phase.TheVariants.{Planned, Started, Closed}
use Rattle.batch_report.specs.declared.view.BatchView.{BatchView}
use Rattle.batch_report.specs.declared.view.LineRow.{LineRow}

-- a text on the left and on the right of a column of so many places
unfoldable pub left : ℕ → Text → Text
left width text = text ++ replicate (width - length text) 32

unfoldable pub right : ℕ → Text → Text
right width text = replicate (width - length text) 32 ++ text

-- a number, on the right of nine places
unfoldable pub number_cell : ℕ → Text
number_cell number = right 9 (decimal number)

-- a line of a label and a text, and one of a label and a number
unfoldable pub text_line : Text → Text → Text
text_line label value = left 14 label ++ value ++ 10 ∷ []

unfoldable pub number_line : Text → ℕ → Text
number_line label number = left 14 label ++ number_cell number ++ 10 ∷ []

-- a line of the site, and how many of the serials that it was lent were good, spoiled and returned
unfoldable pub line_line : LineRow → Text
line_line line = left 14 (codes "line") ++ left 20 line.name ++ flat_map number_cell line.numbers ++ 10 ∷ []

unfoldable pub phase_word : Phase → Text
phase_word Planned = codes "planned"
phase_word Started = codes "started"
phase_word Closed = codes "closed"

-- the day that an expiry stands for, 00 being the last of its month
unfoldable pub day_meant : List ℕ → ℕ
day_meant expiry = if two_digits expiry 4 == 0 then days_in (two_digits expiry 0) (two_digits expiry 2) else two_digits expiry 4

-- `20YY-MM-DD`
unfoldable pub date_of : List ℕ → Text
date_of expiry =
    50 ∷ 48 ∷ slice_index expiry 0 ∷ slice_index expiry 1 ∷ 45 ∷ slice_index expiry 2 ∷ slice_index expiry 3
    ∷ 45 ∷ (48 + day_meant expiry / 10) ∷ (48 + day_meant expiry % 10) ∷ []

-- the report of what is seen of a batch
unfoldable pub report_of : BatchView → Text
report_of view =
    text_line (codes "batch") view.row.batch
    ++ text_line (codes "product") view.row.gtin
    ++ text_line (codes "lot") view.row.lot
    ++ text_line (codes "expiry") (date_of view.row.expiry)
    ++ text_line (codes "state") (phase_word view.phase)
    ++ number_line (codes "planned") view.quantity
    ++ number_line (codes "drawn") view.counts.drawn
    ++ number_line (codes "unused") view.counts.unused
    ++ number_line (codes "lent") view.counts.lent
    ++ number_line (codes "commissioned") view.counts.commissioned
    ++ number_line (codes "sampled") view.counts.sampled
    ++ number_line (codes "rejected") view.counts.rejected
    ++ number_line (codes "destroyed") view.counts.destroyed
    ++ number_line (codes "cases") view.cases
    ++ number_line (codes "pallets") view.pallets
    ++ number_line (codes "events") view.events
    ++ flat_map line_line view.lines
