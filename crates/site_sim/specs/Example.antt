-- The site of the simulation, and its batch.
use Rattle.std.specs.Prelude.{ℕ, [], ◌∷◌, codes}
use Rattle.gs1_keys.specs.declared.form.Alphabet.TheVariants.{Digits}
use Rattle.deed_words.specs.Names.{Text}
use Rattle.deed_words.specs.Setups.{Setup}
use Rattle.deed_words.specs.declared.setup.Product.{Product}
use Rattle.deed_words.specs.declared.setup.Station.{Station}
use Rattle.deed_words.specs.declared.words.Role.{Role}
use Rattle.deed_words.specs.declared.words.Role.TheVariants.{Planner, Line, Quality}

-- a product whose serials have so many digits
abbrev pub product : Text → ℕ → Product
product gtin digits = record { gtin = gtin; prefix_length = 7; form = record { alphabet = Digits; length = digits } }

abbrev pub station : Text → Role → Station
station name role = record { name = name; role = role }

abbrev pub first_gtin : Text
first_gtin = codes "00614141123452"

-- two products and four stations
unfoldable pub site : Setup
site = record {
  gln = codes "0614141000012";
  prefix = codes "0614141";
  extension = 1;
  reference = 1;
  offset = codes "+00:00";
  products = product first_gtin 10 ∷ product (codes "80614141123458") 6 ∷ [];
  stations = station (codes "P1") Planner ∷ station (codes "L1") Line ∷ station (codes "L2") Line ∷ station (codes "Q1") Quality ∷ [];
}

-- the places of its planner and of its first line
abbrev pub planner : ℕ
planner = 0

abbrev pub line : ℕ
line = 1

-- the name of the batch, which is that of its lot too, and its expiry
abbrev pub batch : Text
batch = codes "SIM"

abbrev pub expiry : Text
expiry = codes "271231"
