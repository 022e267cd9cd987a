-- The setup of a site, and what it fixes: roles, products, and the next container code.
use Rattle.std.specs.Prelude.{◌≡◌, ◌≤◌, ◌<◌, true, Some, ℕ, ◌+◌, ◌-◌, ◌*◌, ◌^◌, ◌==◌, Bool, ◌&&◌, ◌||◌, List, length, map, take, find, Option, option_map, nat_le, slice_index}
use Rattle.std.specs.List.{slice_get, list_all, IsDistinct}
use Rattle.std.specs.Option.{option_map_or}
use Rattle.gs1_keys.specs.Keys.{issue, is_digit, is_between}
use Rattle.gs1_keys.specs.Forms.{is_form, half_size}
use Rattle.gs1_element.specs.Dates.{two_digits}
use Rattle.epc_urn.specs.Urns.{IsPrefixLength}
use Rattle.deed_words.specs.declared.setup.Product.{Product}
use Rattle.deed_words.specs.declared.setup.Station.{Station}
use Rattle.deed_words.specs.declared.words.Role.{Role}
use Rattle.deed_words.specs.declared.words.Role.TheVariants.{Planner}
use Rattle.deed_words.specs.Names.{Text, same}
use Rattle.deed_words.specs.World.{World}

pub record Setup : Type 0 where
  pub gln : Text
  pub prefix : Text
  pub extension : ℕ
  pub reference : ℕ
  pub offset : Text
  pub products : List Product
  pub stations : List Station

unfoldable pub role_of : Setup → ℕ → Option Role
role_of site station = option_map (λ s. s.role) (slice_get site.stations station)

unfoldable pub product_of : Setup → Text → Option Product
product_of site gtin = find (λ product. same product.gtin gtin) site.products

-- half of the serials that a product's form has
unfoldable pub half_pool : Setup → Text → ℕ
half_pool site gtin = option_map_or (λ product. half_size product.form) (product_of site gtin) 0

-- the reference of the next unit
unfoldable pub next_reference : Setup → World → ℕ
next_reference site w = site.reference + length w.units

-- references stay below it
unfoldable pub reference_bound : Setup → ℕ
reference_bound site = 10 ^ (16 - length site.prefix)

-- the code of the unit with that place
unfoldable pub code_of : Setup → ℕ → Text
code_of site place = issue site.prefix site.extension (site.reference + place)

-- the station is a planner's
unfoldable pub IsForPlanner : Setup → ℕ → Type 0
IsForPlanner site station = role_of site station ≡ Some Planner

unfoldable pub begins_with : Text → Text → Bool
begins_with front text = same (take (length front) text) front

-- a sign, two digits of hours, a colon, and two digits of minutes, at most 14 hours
unfoldable pub is_offset : Text → Bool
is_offset text =
    (length text == 6)
    && ((slice_index text 0 == 43) || (slice_index text 0 == 45))
    && is_digit (slice_index text 1) && is_digit (slice_index text 2)
    && (slice_index text 3 == 58)
    && is_digit (slice_index text 4) && is_digit (slice_index text 5)
    && nat_le (two_digits text 4) 59
    && nat_le (two_digits text 1 * 60 + two_digits text 4) 840

-- a product's prefix has 6 to 12 digits, and its serials are 6 to 18 digits or 6 to 12 of the 32 characters
unfoldable pub is_product : Product → Bool
is_product product = is_between 6 12 product.prefix_length && is_form product.form

abbrev pub gtins_of : List Product → List Text
gtins_of products = map (λ product. product.gtin) products

abbrev pub names_of : List Station → List Text
names_of stations = map (λ station. station.name) stations

-- what every setup keeps
pub record IsProper (site : Setup) : Type 0 where
  pub gln : begins_with site.prefix site.gln ≡ true
  pub prefix : IsPrefixLength (length site.prefix)
  pub extension : site.extension ≤ 9
  pub reference : site.reference < reference_bound site
  pub offset : is_offset site.offset ≡ true
  pub product_count : (1 ≤ length site.products) × (length site.products ≤ 256)
  pub products : list_all is_product site.products ≡ true
  pub gtins_differ : IsDistinct same (gtins_of site.products)
  pub station_count : (1 ≤ length site.stations) × (length site.stations ≤ 64)
  pub names_differ : IsDistinct same (names_of site.stations)
