-- What a pool holds: the serials that were drawn, each with its GTIN.
use Rattle.std.specs.Prelude.{◌≡◌, ◌+◌, ◌++◌, ◌<◌, ◌≤◌, ◌^◌, ℕ, Bool, true, false, not, List, length, map, filter, bytes_eq, All, ◌&&◌}
use Rattle.gs1_keys.specs.declared.form.SerialForm.{SerialForm}
use Rattle.gs1_keys.specs.Forms.{is_among, is_in_form, AreDistinct}
use Rattle.serial_pool.specs.declared.drawn.DrawnSerial.{DrawnSerial}

-- the serials in the order in which they were drawn, for how many more there is room, and for which GTINs
pub record PoolView : Type 0 where
  pub drawn : List DrawnSerial
  pub room : ℕ
  pub gtins : List (List ℕ)

-- serials that are to be drawn for a GTIN
pub record PlanView : Type 0 where
  pub gtin : List ℕ
  pub serials : List (List ℕ)

-- the serials of a GTIN, in drawn order
abbrev pub had_of : List ℕ → List DrawnSerial → List (List ℕ)
had_of gtin pairs = map (λ pair. pair.serial) (filter (λ pair. bytes_eq gtin pair.gtin) pairs)

-- how many they are
abbrev pub drawn_count : List ℕ → List DrawnSerial → ℕ
drawn_count gtin pairs = length (had_of gtin pairs)

-- each serial beside the GTIN
abbrev pub drawn_for : List ℕ → List (List ℕ) → List DrawnSerial
drawn_for gtin serials = map (λ serial. record { gtin = gtin; serial = serial }) serials

-- no serial of any GTIN was drawn twice
abbrev pub DrawnOnce : List DrawnSerial → Type 0
DrawnOnce pairs = (gtin : List ℕ) → AreDistinct (had_of gtin pairs)

-- the serial of the form may be drawn beside those that were and behind these
abbrev pub may_follow : List (List ℕ) → SerialForm → List (List ℕ) → List ℕ → Bool
may_follow had form serials serial = is_in_form form serial && not (is_among had serial) && not (is_among serials serial)

-- the plan may be committed where so much was drawn: its serials are new for its GTIN, and that stays below 2 ^ 32
pub record IsPlanFor (pairs : List DrawnSerial) (plan : PlanView) : Type 0 where
  pub unknown : All (λ serial. is_among (had_of plan.gtin pairs) serial ≡ false) plan.serials
  pub distinct : AreDistinct plan.serials
  pub few : drawn_count plan.gtin pairs + length plan.serials < 2 ^ 32

-- there is room for all the plan's serials, and for their GTIN
pub record HasRoomFor (pool : PoolView) (plan : PlanView) : Type 0 where
  pub serials : length plan.serials ≤ pool.room
  pub gtin : is_among pool.gtins plan.gtin ≡ true

-- what is taken back is what was drawn last
pub record IsLastDrawn (pairs : List DrawnSerial) (done : PlanView) : Type 0 where
  pub before : List DrawnSerial
  pub is : pairs ≡ before ++ drawn_for done.gtin done.serials

-- what is always so of what was drawn: no serial of any GTIN twice, and fewer than 2 ^ 32 of each
pub record IsDrawn (pairs : List DrawnSerial) : Type 0 where
  pub once : DrawnOnce pairs
  pub few : (gtin : List ℕ) → drawn_count gtin pairs < 2 ^ 32
