-- How sites are spelled, in each version, and which bytes spell which site.
use Rattle.std.specs.Prelude.{◌≡◌, ◌⊎◌, ◌<◌, ◌^◌, ℕ, List, [], ◌∷◌, ◌++◌, All, length}
use Rattle.std.specs.List.{flat_map}
use Rattle.std.specs.Int.{w64, to_be_bytes}
use Rattle.gs1_keys.specs.Keys.{IsGln, IsPrefix, IsGtin, IsText}
use Rattle.gs1_keys.specs.declared.form.Alphabet.{Alphabet}
use Rattle.gs1_keys.specs.declared.form.Alphabet.TheVariants.{Digits, Base32}
use Rattle.gs1_keys.specs.declared.form.SerialForm.{SerialForm}
use Rattle.deed_words.specs.Setups.{Setup, IsProper}
use Rattle.deed_words.specs.declared.setup.Product.{Product}
use Rattle.deed_words.specs.declared.setup.Station.{Station}
use Rattle.deed_words.specs.declared.words.Role.{Role}
use Rattle.deed_words.specs.declared.words.Role.TheVariants.{Planner, Line, Quality}
use Rattle.entry_bytes.specs.declared.version.Version.{Version}
use Rattle.entry_bytes.specs.declared.version.Version.TheVariants.{First, Second}
use Rattle.entry_bytes.specs.Spelling.{text_bytes, list_bytes}

abbrev pub alphabet_byte : Alphabet → ℕ
alphabet_byte Digits = 1
alphabet_byte Base32 = 2

-- version 1 has no field for the alphabet
abbrev pub form_in : Version → SerialForm → List ℕ
form_in First form = form.length ∷ []
form_in Second form = form.length ∷ alphabet_byte form.alphabet ∷ []

abbrev pub product_in : Version → Product → List ℕ
product_in version product = product.gtin ++ ((product.prefix_length ∷ []) ++ form_in version product.form)

abbrev pub role_byte : Role → ℕ
role_byte Planner = 1
role_byte Line = 2
role_byte Quality = 3

abbrev pub station_bytes : Station → List ℕ
station_bytes station = text_bytes station.name ++ (role_byte station.role ∷ [])

-- the stations behind their number
abbrev pub stations_bytes : List Station → List ℕ
stations_bytes stations = length stations ∷ flat_map station_bytes stations

-- the location number, the prefix, the extension digit and the first reference
unfoldable pub codes_bytes : Setup → List ℕ
codes_bytes site = site.gln ++ (text_bytes site.prefix ++ ((site.extension ∷ []) ++ to_be_bytes w64 site.reference))

abbrev pub parts_in : Version → Setup → List ℕ
parts_in version site = codes_bytes site ++ (site.offset ++ (list_bytes (product_in version) site.products ++ stations_bytes site.stations))

abbrev pub setup_in : Version → Setup → List ℕ
setup_in First site = parts_in First site
setup_in Second site = 2 ∷ parts_in Second site

-- as it is written: version 2
abbrev pub setup_bytes : Setup → List ℕ
setup_bytes site = setup_in Second site

abbrev pub IsKeptCodes : Setup → Type 0
IsKeptCodes site = IsGln site.gln × (IsPrefix site.prefix × (site.reference < 2 ^ 64))

-- what its types keep of a setup, apart from that it is proper
pub record IsKeptSetup (site : Setup) : Type 0 where
  pub codes : IsKeptCodes site
  pub gtins : All (λ product. IsGtin product.gtin) site.products
  pub names : All (λ station. IsText station.name) site.stations

-- the spelling of version 1, whose products have serials of digits
pub record IsOlderSetup (site : Setup) (bytes : List ℕ) : Type 0 where
  pub digits : All (λ product. product.form.alphabet ≡ Digits) site.products
  pub older : bytes ≡ setup_in First site

-- the bytes spell the site
pub record SpellsSetup (site : Setup) (bytes : List ℕ) : Type 0 where
  pub kept : IsKeptSetup site
  pub proper : IsProper site
  pub spelling : (bytes ≡ setup_bytes site) ⊎ IsOlderSetup site bytes
