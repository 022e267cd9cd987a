-- What the segments of a path stand for.
use Rattle.std.specs.Prelude.{◌&&◌, ℕ, List, Option, Some, None, nat_le, if◌then◌else◌}
use Rattle.std.specs.Result.{result_ok}
use Rattle.http_routes.specs.Chain.{◌>>=◌}
use Rattle.percent_encoding.specs.Percent.{percent_decode}
use Rattle.gs1_keys.specs.Keys.{text_of, gtin_of, sscc_of}
use Rattle.numerals.specs.Numbers.{number_in}

-- the name, GTIN or SSCC that is left when each escape is read
abbrev pub name_in : List ℕ → Option (List ℕ)
name_in segment = result_ok (text_of (percent_decode segment))

abbrev pub gtin_in : List ℕ → Option (List ℕ)
gtin_in segment = result_ok (gtin_of (percent_decode segment))

abbrev pub sscc_in : List ℕ → Option (List ℕ)
sscc_in segment = result_ok (sscc_of (percent_decode segment))

-- the number of 1 to so many digits
abbrev pub number_at : ℕ → List ℕ → Option ℕ
number_at longest segment = number_in longest (percent_decode segment)

abbrev pub from_one_to : ℕ → ℕ → Option ℕ
from_one_to high n = if nat_le 1 n && nat_le n high then Some n else None

-- the number of 1 to 10 digits from 1 to high
unfoldable pub ranged_at : ℕ → List ℕ → Option ℕ
ranged_at high segment = number_at 10 segment >>= from_one_to high
