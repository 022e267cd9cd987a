-- The first fault of a scan, over its units from the left.
use Rattle.std.specs.Prelude.{ℕ, ◌+◌, Bool, false, ◌||◌, List, [], ◌∷◌, length, drop, Option, Some, None, Result, Ok, Err, if◌then◌else◌, ◌==◌, codes}
use Rattle.gs1_element.specs.declared.fault.ElementFault.{ElementFault}
use Rattle.gs1_element.specs.declared.fault.ElementFault.TheVariants.{Empty, Missing, Twice}
use Rattle.gs1_element.specs.Units.{number_of, Piece}
use Rattle.gs1_element.specs.Codes.{cuts, gtin_value, text_value, date_value, prefix_length}

abbrev pub fault_of : {X : Type 0} → Result X ElementFault → Option ElementFault
fault_of (Ok x) = None
fault_of (Err fault) = Some fault

abbrev pub or_else : Option ElementFault → Option ElementFault → Option ElementFault
or_else (Some fault) next = Some fault
or_else None next = next

-- whether a unit with this identifier is among these
abbrev pub came : ℕ → List Piece → Bool
came n [] = false
came n (p ∷ ps) = (number_of p.code == n) || came n ps

-- a needed unit that came before is a fault, whatever its value
abbrev pub unless_came : ℕ → List ℕ → List Piece → Option ElementFault → Option ElementFault
unless_came n name before fault = if came n before then Some (Twice name) else fault

-- what is wrong with a unit behind these
abbrev pub unit_fault : List Piece → Piece → Option ElementFault
unit_fault before p =
    if number_of p.code == 1 then unless_came 1 (codes "01") before (fault_of (gtin_value (p.at + 2) p.value)) else
    (if number_of p.code == 10 then unless_came 10 (codes "10") before (fault_of (text_value (codes "10") (p.at + 2) p.value)) else
    (if number_of p.code == 17 then unless_came 17 (codes "17") before (fault_of (date_value (p.at + 2) p.value)) else
    (if number_of p.code == 21 then unless_came 21 (codes "21") before (fault_of (text_value (codes "21") (p.at + 2) p.value)) else None)))

-- the first needed unit that is not among these
abbrev pub missing : List Piece → Option ElementFault
missing units =
    if came 1 units then (if came 10 units then (if came 17 units then (if came 21 units then None else Some (Missing (codes "21"))) else Some (Missing (codes "17"))) else Some (Missing (codes "10"))) else Some (Missing (codes "01"))

-- the first fault of units behind others, the nearest of which is in front: of one of them, then of the
-- one behind them that can't be cut, then a missing one
abbrev pub first_fault : List Piece → Option ElementFault → List Piece → Option ElementFault
first_fault before end [] = or_else end (missing before)
first_fault before end (p ∷ ps) = or_else (unit_fault before p) (first_fault (p ∷ before) end ps)

abbrev pub bytes_fault : ℕ → List ℕ → Option ElementFault
bytes_fault at bytes = first_fault [] (cuts (length bytes) at bytes).1 (cuts (length bytes) at bytes).0

unfoldable pub scan_fault : List ℕ → Option ElementFault
scan_fault scan = if length scan == prefix_length scan then Some Empty else bytes_fault (prefix_length scan) (drop (prefix_length scan) scan)
