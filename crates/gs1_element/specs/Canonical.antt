-- The scan that is printed of a code.
use Rattle.std.specs.Prelude.{ℕ, List, [], ◌∷◌, ◌++◌, codes}
use Rattle.gs1_element.specs.declared.code.Code.{Code}

-- a unit: its identifier, and its value
unfoldable pub unit : List ℕ → List ℕ → List ℕ
unit identifier value = identifier ++ value

-- GTIN, expiry and lot, which a separator ends, and serial, with no scanner prefix
abbrev pub canonical : Code → List ℕ
canonical c = unit (codes "01") c.gtin ++ unit (codes "17") c.expiry ++ unit (codes "10") c.lot ++ (29 ∷ []) ++ unit (codes "21") c.serial
