-- The units that a scan is made of, in any way of cutting it.
use Rattle.std.specs.Prelude.{◌≡◌, ◌⊎◌, ℕ, ◌+◌, ◌≤◌, Bool, true, false, List, [], ◌∷◌, ◌++◌, length, take, drop, slice_index, Option, Some, None, IsSome, if◌then◌else◌, ◌==◌, codes}
use Rattle.gs1_keys.specs.Keys.{is_digit, IsGtin, IsText}
use Rattle.gs1_element.specs.declared.code.Code.{Code}
use Rattle.gs1_element.specs.Dates.{is_expiry}
use Rattle.gs1_element.specs.Units.{number_of, run_length, predefined, Piece}

-- a unit's bytes, and whether a separator ends it
pub record Element : Type 0 where
  pub text : List ℕ
  pub ended : Bool

abbrev pub separator : Bool → List ℕ
separator true = 29 ∷ []
separator false = []

-- the units' bytes, one after the other
abbrev pub joined : List Element → List ℕ
joined [] = []
joined (u ∷ us) = u.text ++ (separator u.ended ++ joined us)

-- the length that is predefined, if one is
abbrev pub HasLength : Option ℕ → ℕ → Type 0
HasLength (Some m) n = n ≡ m
HasLength None n = Unit {0}

-- two digits in front, no separator inside, and the predefined length where there is one
abbrev pub IsElement : Element → Type 0
IsElement u = (2 ≤ length u.text) × (is_digit (slice_index u.text 0) ≡ true) × (is_digit (slice_index u.text 1) ≡ true) × (run_length u.text ≡ length u.text) × HasLength (predefined (number_of u.text)) (length u.text)

-- a unit of no predefined length has a separator, or is the last
abbrev pub MayPrecede : Element → List Element → Type 0
MayPrecede u us = (u.ended ≡ true) ⊎ (IsSome (predefined (number_of u.text)) ⊎ (us ≡ []))

abbrev pub AreElements : List Element → Type 0
AreElements [] = Unit {0}
AreElements (u ∷ us) = IsElement u × MayPrecede u us × AreElements us

-- the units with their places, the first of which stands at this one
abbrev pub pieces_of : ℕ → List Element → List Piece
pieces_of at [] = []
pieces_of at (u ∷ us) = record { at = at; code = take 2 u.text; value = drop 2 u.text } ∷ pieces_of (at + (length u.text + length (separator u.ended))) us

-- the values of the units with this identifier, in order
abbrev pub values : ℕ → List Piece → List (List ℕ)
values k [] = []
values k (p ∷ ps) = if number_of p.code == k then p.value ∷ values k ps else values k ps

-- 01, 10, 17 and 21 stand once each, with the values of the code
abbrev pub HasValues : List Piece → Code → Type 0
HasValues ps c = ((values 1 ps ≡ c.gtin ∷ []) × IsGtin c.gtin) × ((values 10 ps ≡ c.lot ∷ []) × IsText c.lot) × ((values 17 ps ≡ c.expiry ∷ []) × (is_expiry c.expiry ≡ true)) × ((values 21 ps ≡ c.serial ∷ []) × IsText c.serial)

-- a scanner prefix: none, ]d2 or ]C1
abbrev pub IsMark : List ℕ → Type 0
IsMark mark = (mark ≡ []) ⊎ ((mark ≡ codes "]d2") ⊎ (mark ≡ codes "]C1"))

-- the bytes are a scan of the code
abbrev pub IsScan : List ℕ → Code → Type 0
IsScan bytes c = (mark : List ℕ) × IsMark mark × (us : List Element) × (bytes ≡ mark ++ joined us) × AreElements us × HasValues (pieces_of (length mark) us) c
