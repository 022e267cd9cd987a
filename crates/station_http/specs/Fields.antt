-- The body's length by one field more.
use Rattle.std.specs.Prelude.{◌==◌, ℕ, Bool, false, List, [], ◌∷◌, Option, Some, None, if◌then◌else◌, codes}
use Rattle.station_http.specs.declared.fields.BodyLength.{BodyLength}
use Rattle.station_http.specs.declared.fields.BodyLength.TheVariants.{Absent, Bad, Said}
use Rattle.httparse.specs.Grammar.{is_ows}
use Rattle.numerals.specs.Numbers.{number_in}
use Rattle.station_http.specs.Plans.{FieldText, has_name}

abbrev pub value_with : BodyLength → Option ℕ → BodyLength
value_with so_far None = Bad
value_with Bad (Some n) = Bad
value_with Absent (Some n) = Said n
value_with (Said m) (Some n) = if n == m then Said n else Bad

abbrev pub length_with : BodyLength → FieldText → BodyLength
length_with so_far field = if has_name (codes "content-length") field then value_with so_far (number_in 10 field.1) else so_far

abbrev pub begins_ows : List ℕ → Bool
begins_ows [] = false
begins_ows (b ∷ rest) = is_ows b
