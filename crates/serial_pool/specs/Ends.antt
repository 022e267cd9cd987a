-- How a plan ends.
use Rattle.std.specs.Prelude.{◌≡◌, ◌+◌, ◌<◌, ◌≤◌, ℕ, Bool, true, false, List, [], length, take, drop, Option, Some, Result, Ok, Err}
use Rattle.gs1_keys.specs.declared.form.SerialForm.{SerialForm}
use Rattle.gs1_keys.specs.Forms.{half_size, AreNew}
use Rattle.serial_pool.specs.declared.fault.DrawFault.{DrawFault}
use Rattle.serial_pool.specs.declared.fault.DrawFault.TheVariants.{PoolThin, WordsSpent, WordsFault, Memory}
use Rattle.serial_pool.specs.declared.fault.KnownFault.{KnownFault}
use Rattle.serial_pool.specs.declared.fault.KnownFault.TheVariants.{NotNew, Memory as NoMemory}
use Rattle.serial_pool.specs.Drawing.{drawn, found, used, word_limit, IsDraw, IsSpent, IsUnfinished}
use Rattle.serial_pool.specs.Held.{PlanView}

-- with those that are asked, no more than half of the serials of the form are drawn
abbrev pub IsAmple : List (List ℕ) → SerialForm → ℕ → Type 0
IsAmple had form count = length had + count ≤ half_size form

-- they would be more than half, by these numbers
pub record IsThin (had : List (List ℕ)) (form : SerialForm) (count have asked half : ℕ) : Type 0 where
  pub drawn_is : have ≡ length had
  pub asked_is : asked ≡ count
  pub half_is : half ≡ half_size form
  pub over : half < have + asked

-- what a draw of so many serials answers after it took these words; want of memory may come at any time
abbrev pub DrawEnds : List (List ℕ) → SerialForm → ℕ → List ℕ → Result PlanView DrawFault → Type 0
DrawEnds had form count taken (Ok plan) = IsAmple had form count × IsDraw had form count taken plan.serials
DrawEnds had form count taken (Err (PoolThin have asked half)) = IsThin had form count have asked half × (taken ≡ [])
DrawEnds had form count taken (Err (WordsSpent found)) = IsAmple had form count × IsSpent had form count taken found
DrawEnds had form count taken (Err WordsFault) = IsAmple had form count × IsUnfinished had form count taken
DrawEnds had form count taken (Err Memory) = length taken ≤ word_limit count

-- what a draw answers where these words were left: it holds what is drawn from them and takes the words for it, or
-- they hold too few and all are taken, or none is taken
abbrev pub DrawsFrom : List (List ℕ) → SerialForm → ℕ → List ℕ → Option (List ℕ) → Result PlanView DrawFault → Type 0
DrawsFrom had form count left new (Ok plan) = (plan.serials ≡ drawn left had form count) × (new ≡ Some (drop (used left had form count) left))
DrawsFrom had form count left new (Err (PoolThin have asked half)) = new ≡ Some left
DrawsFrom had form count left new (Err (WordsSpent few)) =
    (few ≡ found left had form count) × (few < count) × (new ≡ Some (drop (word_limit count) left))
DrawsFrom had form count left new (Err WordsFault) = Unit
DrawsFrom had form count left new (Err Memory) = Unit

-- the serials before this place may be drawn, and with the one at it they may not
pub record IsFirstNotNew (had : List (List ℕ)) (form : SerialForm) (serials : List (List ℕ)) (index : ℕ) : Type 0 where
  pub there : index < length serials
  pub before : AreNew had form (take index serials)
  pub not_new : AreNew had form (take (index + 1) serials) → ⊥

-- what a plan of serials that are known answers; want of memory may come at any time
abbrev pub KnownEnds : List (List ℕ) → SerialForm → List (List ℕ) → Result PlanView KnownFault → Type 0
KnownEnds had form serials (Ok plan) = (plan.serials ≡ serials) × AreNew had form serials
KnownEnds had form serials (Err (NotNew index)) = IsFirstNotNew had form serials index
KnownEnds had form serials (Err NoMemory) = Unit

abbrev pub is_words_fault : {T : Type 0} → Result T DrawFault → Bool
is_words_fault (Ok value) = false
is_words_fault (Err (PoolThin have asked half)) = false
is_words_fault (Err (WordsSpent found)) = false
is_words_fault (Err WordsFault) = true
is_words_fault (Err Memory) = false
