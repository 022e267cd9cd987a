-- Forms of serials: an alphabet and a length.
use Rattle.std.specs.Prelude.{◌≡◌, true, false, All, bytes_eq, ℕ, zero, suc, ◌+◌, ◌%◌, ◌/◌, ◌^◌, ◌==◌, Bool, ◌&&◌, List, [], ◌∷◌, ◌++◌, length, codes, nat_le, slice_index}
use Rattle.std.specs.List.{list_all, list_any, IsDistinct}
use Rattle.gs1_keys.specs.declared.form.Alphabet.{Alphabet}
use Rattle.gs1_keys.specs.declared.form.Alphabet.TheVariants.{Digits, Base32}
use Rattle.gs1_keys.specs.declared.form.SerialForm.{SerialForm}

-- the 32 characters, in the order of their values 0 to 31
abbrev pub base32 : List ℕ
base32 = codes "0123456789ABCDEFGHJKMNPQRSTVWXYZ"

-- how many characters the alphabet has
abbrev pub base : Alphabet → ℕ
base Digits = 10
base Base32 = 32

-- the character of a value below the base
abbrev pub character : Alphabet → ℕ → ℕ
character Digits value = value + 48
character Base32 value = slice_index base32 value

abbrev pub is_character : Alphabet → ℕ → Bool
is_character Digits byte = nat_le 48 byte && nat_le byte 57
is_character Base32 byte = list_any (λ other. other == byte) base32

-- the last so many characters of a number, with zeros on the left
abbrev pub number_in : Alphabet → ℕ → ℕ → List ℕ
number_in alphabet zero n = []
number_in alphabet (suc k) n = number_in alphabet k (n / base alphabet) ++ character alphabet (n % base alphabet) ∷ []

-- how many serials have the form
abbrev pub form_size : SerialForm → ℕ
form_size form = base form.alphabet ^ form.length

-- no more than these are drawn of a GTIN
abbrev pub half_size : SerialForm → ℕ
half_size form = form_size form / 2

-- the text of a number in the form
abbrev pub text_in : SerialForm → ℕ → List ℕ
text_in form n = number_in form.alphabet form.length n

-- the text is of the form
abbrev pub is_in_form : SerialForm → List ℕ → Bool
is_in_form form text = (length text == form.length) && list_all (is_character form.alphabet) text

abbrev pub longest : Alphabet → ℕ
longest Digits = 18
longest Base32 = 12

-- 6 to 18 digits, or 6 to 12 of the 32 characters
abbrev pub is_form : SerialForm → Bool
is_form form = nat_le 6 form.length && nat_le form.length (longest form.alphabet)

-- the serial is one of those
abbrev pub is_among : List (List ℕ) → List ℕ → Bool
is_among serials serial = list_any (bytes_eq serial) serials

-- no serial stands twice
abbrev pub AreDistinct : List (List ℕ) → Type 0
AreDistinct serials = IsDistinct bytes_eq serials

-- serials of the form that may be drawn beside those that were: none was, and none stands twice
pub record AreNew (had : List (List ℕ)) (form : SerialForm) (serials : List (List ℕ)) : Type 0 where
  pub formed : All (λ serial. is_in_form form serial ≡ true) serials
  pub unknown : All (λ serial. is_among had serial ≡ false) serials
  pub distinct : AreDistinct serials
