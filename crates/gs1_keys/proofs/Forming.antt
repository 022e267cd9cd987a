-- Serials of a form are texts, and not too many for a word.
use Rattle.std.proofs.Common.{◌≡◌, ℕ, zero, suc, ◌+◌, ◌≤◌, ◌%◌, ◌/◌, ◌^◌, ◌<◌, Bool, true, false, List, [], ◌∷◌, length, None, arith, refl, ap, sym, ◌∙◌, length-append, take, subst}
use Rattle.std.specs.Prelude.{◌==◌, ◌&&◌, ◌||◌, slice_index}
use Rattle.std.specs.List.{list_all, list_any}
use Rattle.std.proofs.Math.Nat.{one-le-pow, pow-le-pow_right}
use Rattle.std.proofs.lemmas.List.{length-take-le}
use Rattle.std.proofs.lemmas.Bool.{le-leb, eq-eqb, eqb-true}
use Rattle.std.proofs.lemmas.Bool.Decides.{nat_tests}
use Rattle.std.proofs.lemmas.List.Folds.{list_all-append}
use Rattle.gs1_keys.specs.Keys.{is_between, is_in_set, first_other, text_of, IsText}
use Rattle.gs1_keys.specs.Forms.{base32, base, character, is_character, longest, number_in, form_size, text_in, is_form, is_in_form}
use Rattle.gs1_keys.specs.declared.form.Alphabet.{Alphabet}
use Rattle.gs1_keys.specs.declared.form.Alphabet.TheVariants.{Digits, Base32}
use Rattle.gs1_keys.specs.declared.form.SerialForm.{SerialForm}
use Rattle.gs1_keys.proofs.Known.{between}

both : (a b : Bool) → a ≡ true → b ≡ true → (a && b) ≡ true
both true true e f = refl
both true false e f = absurd cc
both false b e f = absurd cc

first_true : (a b : Bool) → (a && b) ≡ true → a ≡ true
first_true true b e = refl
first_true false b e = absurd cc

second_true : (a b : Bool) → (a && b) ≡ true → b ≡ true
second_true true b e = e
second_true false b e = absurd cc

-- an item of a list stands among its items
stands : (xs : List ℕ) (k : ℕ) → k < length xs → list_any (λ other. other == slice_index xs k) xs ≡ true
stands [] k lt = absurd (omega arith)
stands (x ∷ xs) zero lt = rw (eq-eqb x x refl) refl
stands (x ∷ xs) (suc k) lt = or_second (x == slice_index xs k) (list_any (λ other. other == slice_index xs k) xs) (stands xs k (omega arith))
  where
    or_second : (a b : Bool) → b ≡ true → (a || b) ≡ true
    or_second true b e = refl
    or_second false b e = e

pub is_character-of : (alphabet : Alphabet) (value : ℕ) → value < base alphabet → is_character alphabet (character alphabet value) ≡ true
is_character-of Digits value lt = both _ _ (le-leb 48 (value + 48) (omega arith)) (le-leb (value + 48) 57 (omega arith))
is_character-of Base32 value lt = stands base32 value lt

pub length-number_in : (alphabet : Alphabet) (k n : ℕ) → length (number_in alphabet k n) ≡ k
length-number_in alphabet zero n = refl
length-number_in alphabet (suc k) n =
    omega (arith, length-number_in alphabet k (n / base alphabet), length-append (number_in alphabet k (n / base alphabet)) (character alphabet (n % base alphabet) ∷ []))

value_fits : (alphabet : Alphabet) (n : ℕ) → n % base alphabet < base alphabet
value_fits Digits n = omega arith
value_fits Base32 n = omega arith

all_characters : (alphabet : Alphabet) (k n : ℕ) → list_all (is_character alphabet) (number_in alphabet k n) ≡ true
all_characters alphabet zero n = refl
all_characters alphabet (suc k) n =
    let last : is_character alphabet (character alphabet (n % base alphabet)) ≡ true = is_character-of alphabet (n % base alphabet) (value_fits alphabet n) in
    list_all-append (is_character alphabet) (number_in alphabet k (n / base alphabet)) (character alphabet (n % base alphabet) ∷ [])
    ∙ both (list_all (is_character alphabet) (number_in alphabet k (n / base alphabet))) (list_all (is_character alphabet) (character alphabet (n % base alphabet) ∷ [])) (all_characters alphabet k (n / base alphabet)) (both _ true last refl)

-- the text of a number is of the form
pub is_in_form-text_in : (form : SerialForm) (n : ℕ) → is_in_form form (text_in form n) ≡ true
is_in_form-text_in form n = both _ _ (eq-eqb (length (text_in form n)) form.length (length-number_in form.alphabet form.length n)) (all_characters form.alphabet form.length n)

among_set : (b : ℕ) (xs : List ℕ) → list_all is_in_set xs ≡ true → list_any (λ other. other == b) xs ≡ true → is_in_set b ≡ true
among_set b [] all e = absurd cc
among_set b (x ∷ xs) all e = (elim (x == b) as (λ t. (x == b) ≡ t → (t || list_any (λ other. other == b) xs) ≡ true → is_in_set b ≡ true) [
  | true ↦ λ same f. subst (λ y. is_in_set y ≡ true) (eqb-true x b same) (first_true (is_in_set x) (list_all is_in_set xs) all)
  | false ↦ λ same f. among_set b xs (second_true (is_in_set x) (list_all is_in_set xs) all) f
]) refl e

character_in_set : (alphabet : Alphabet) (b : ℕ) → is_character alphabet b ≡ true → is_in_set b ≡ true
character_in_set Digits b e = grind (arith, nat_tests)
character_in_set Base32 b e = among_set b base32 refl e

all_in_set : (alphabet : Alphabet) (text : List ℕ) (at : ℕ) → list_all (is_character alphabet) text ≡ true → first_other is_in_set at text ≡ None
all_in_set alphabet [] at e = refl
all_in_set alphabet (b ∷ bs) at e =
    rw (character_in_set alphabet b (first_true (is_character alphabet b) (list_all (is_character alphabet) bs) e)) (all_in_set alphabet bs (at + 1) (second_true (is_character alphabet b) (list_all (is_character alphabet) bs) e))

form_range : (alphabet : Alphabet) (n : ℕ) → is_form (record { alphabet = alphabet; length = n }) ≡ true → (6 ≤ n) × (n ≤ longest alphabet) × (n ≤ 18)
form_range Digits n e = let p = between 6 18 n e in (p.0, p.1, p.1)
form_range Base32 n e = let p = between 6 12 n e in (p.0, p.1, omega arith)

pub length_range : (form : SerialForm) → is_form form ≡ true → (6 ≤ form.length) × (form.length ≤ 18)
length_range form e = let p = form_range form.alphabet form.length e in (p.0, p.2)

-- a serial of a form is a text
pub IsText-form : (form : SerialForm) (text : List ℕ) → is_form form ≡ true → is_in_form form text ≡ true → IsText text
unfolding text_of
IsText-form form text proper e =
    let p = length_range form proper in
    let size : length text ≡ form.length = eqb-true (length text) form.length (first_true (length text == form.length) (list_all (is_character form.alphabet) text) e) in
    let fits : is_between 1 20 (length text) ≡ true = both _ _ (le-leb 1 (length text) (omega (arith, p.0))) (le-leb (length text) 20 (omega (arith, p.1))) in
    let set : first_other is_in_set 0 text ≡ None = all_in_set form.alphabet text 0 (second_true (length text == form.length) (list_all (is_character form.alphabet) text) e) in
    rw (fits, set) refl

pub IsText-text_in : (form : SerialForm) (n : ℕ) → is_form form ≡ true → IsText (text_in form n)
IsText-text_in form n proper = IsText-form form (text_in form n) proper (is_in_form-text_in form n)

-- characters that were written into the front of a buffer
pub written : (form : SerialForm) (k n : ℕ) (out buffer : List ℕ) → k ≡ form.length → form.length ≤ length buffer → out ≡ number_in form.alphabet (length (take k buffer)) n → out ≡ text_in form n
written form k n out buffer same fits e = e ∙ ap (λ m. number_in form.alphabet m n) (length-take-le k buffer (omega arith) ∙ same)

-- there is a serial of any form
pub some_serials : (form : SerialForm) → 0 < form_size form
some_serials form = some_of form.alphabet form.length
  where
    some_of : (alphabet : Alphabet) (n : ℕ) → 0 < base alphabet ^ n
    some_of Digits n = omega (arith, one-le-pow n 10 (omega arith))
    some_of Base32 n = omega (arith, one-le-pow n 32 (omega arith))

-- as many serials as a form has are fewer than there are words
pub size_fits : (form : SerialForm) → is_form form ≡ true → form_size form < 2 ^ 64
size_fits form proper = size_of form.alphabet form.length proper
  where
    size_of : (alphabet : Alphabet) (n : ℕ) → is_form (record { alphabet = alphabet; length = n }) ≡ true → base alphabet ^ n < 2 ^ 64
    size_of Digits n e = let p = between 6 18 n e in let le : 10 ^ n ≤ 10 ^ 18 = pow-le-pow_right {n = 10} (omega arith) p.1 in omega (arith, le)
    size_of Base32 n e = let p = between 6 12 n e in let le : 32 ^ n ≤ 32 ^ 12 = pow-le-pow_right {n = 32} (omega arith) p.1 in omega (arith, le)

-- the test of a text's length and characters
pub form_is : (form : SerialForm) (text bytes : List ℕ) (size : ℕ) (all : Bool) → bytes ≡ text → length bytes ≡ size → size ≡ form.length → all ≡ list_all (is_character form.alphabet) bytes → all ≡ is_in_form form text
form_is form text bytes size all e f g h =
    let long : length text ≡ form.length = ap length (sym e) ∙ f ∙ g in
    h ∙ ap (list_all (is_character form.alphabet)) e ∙ rw (eq-eqb (length text) form.length long) refl
