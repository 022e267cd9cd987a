-- Numbers that an order file writes.
use Rattle.std.specs.Prelude.{ℕ, List, Option, Some, None, if◌then◌else◌}
use Rattle.gs1_keys.specs.Keys.{is_between}
use Rattle.numerals.specs.Numbers.{number_in}

abbrev pub in_range : ℕ → ℕ → Option ℕ → Option ℕ
in_range low high None = None
in_range low high (Some n) = if is_between low high n then Some n else None

-- 1 to 7 digits that write a number of this range
unfoldable pub size_of : ℕ → ℕ → List ℕ → Option ℕ
size_of low high text = in_range low high (number_in 7 text)
