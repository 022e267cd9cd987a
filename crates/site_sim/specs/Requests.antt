-- The requests of the simulation, as one list.
use Rattle.std.specs.Prelude.{◌+◌, ◌-◌, ◌*◌, ◌/◌, ◌%◌, ◌==◌, min, ℕ, Bool, true, false, List, [], ◌∷◌, ◌++◌, map, if◌then◌else◌}
use Rattle.std.specs.List.{range_with_len, flat_map}
use Rattle.deed_words.specs.declared.words.Level.TheVariants.{Case, Pallet}
use Rattle.site_sim.specs.declared.part.Part.{Part}
use Rattle.site_sim.specs.declared.request.Request.{Request}
use Rattle.site_sim.specs.declared.request.Request.TheVariants.{Order, Start, Draw, Lend, Commission, Make, PackItems, PackCases, Seal, Declare, Close}

-- the numbers below this one
abbrev pub below : ℕ → List ℕ
below n = range_with_len 0 n

-- how many parts of this size so many things make, and each of them: the last may be smaller
abbrev pub part_count : ℕ → ℕ → ℕ
part_count total most = (total + most - 1) / most

abbrev pub part_at : ℕ → ℕ → ℕ → Part
part_at total most k = record { from = k * most; size = min most (total - k * most) }

abbrev pub case_count : ℕ → ℕ
case_count count = part_count count 50

-- the case with this place is made, filled with its items and sealed
abbrev pub case_requests : ℕ → ℕ → List Request
case_requests count k = Make Case ∷ PackItems k (part_at count 50 k) ∷ Seal k ∷ []

-- .. and a pallet, with its cases: the units made before it are all cases, and the pallets in front of it
abbrev pub pallet_requests : ℕ → ℕ → List Request
pallet_requests count k =
    Make Pallet ∷ PackCases (case_count count + k) (part_at (case_count count) 20 k) ∷ Seal (case_count count + k) ∷ []

-- what comes at the end; then, each with all that follows, the pallets, the cases, what is printed, lent and drawn
unfoldable pub ending : ℕ → List Request
ending count = Declare count ∷ Close ∷ []

unfoldable pub from_pallets : ℕ → List Request
from_pallets count = flat_map (pallet_requests count) (below (part_count (case_count count) 20)) ++ ending count

unfoldable pub from_cases : ℕ → List Request
from_cases count = flat_map (case_requests count) (below (case_count count)) ++ from_pallets count

unfoldable pub from_codes : ℕ → List Request
from_codes count = map (λ k. Commission (part_at count 1000 k)) (below (part_count count 1000)) ++ from_cases count

unfoldable pub from_lends : ℕ → List Request
from_lends count = map (λ k. Lend (part_at count 10000 k).size) (below (part_count count 10000)) ++ from_codes count

unfoldable pub from_draws : ℕ → List Request
from_draws count = map (λ k. Draw (part_at count 10000 k).size) (below (part_count count 10000)) ++ from_lends count

-- all of them, each once, for so many items
unfoldable pub requests : ℕ → List Request
requests count = Order count ∷ Start ∷ from_draws count

-- the request is the planner's, and not the line's
abbrev pub is_planners : Request → Bool
is_planners (Order quantity) = true
is_planners Start = true
is_planners (Draw size) = true
is_planners (Lend size) = false
is_planners (Commission part) = false
is_planners (Make level) = false
is_planners (PackItems place part) = false
is_planners (PackCases place part) = false
is_planners (Seal place) = false
is_planners (Declare good) = false
is_planners Close = true

-- a request that is sent, for the first time or once more
pub record Send : Type 0 where
  pub request : Request
  pub again : Bool

abbrev pub send : Request → Bool → Send
send request again = record { request = request; again = again }

-- one whose place is a multiple of ten is sent twice in a row
abbrev pub sends_at : ℕ → Request → List Send
sends_at place request = if place % 10 == 0 then send request false ∷ send request true ∷ [] else send request false ∷ []

-- what is sent of the requests from this place on
unfoldable pub sends_from : ℕ → List Request → List Send
sends_from place [] = []
sends_from place (request ∷ requests) = sends_at place request ++ sends_from (place + 1) requests

-- places begin at 1
abbrev pub sends : ℕ → List Send
sends count = sends_from 1 (requests count)
