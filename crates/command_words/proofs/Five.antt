use Rattle.std.proofs.Common.{◌≡◌, ◌==◌, ◌&&◌, ◌∙◌, ℕ, Bool, true, false, not, List, [], ◌∷◌, Some, None, refl, ap, length, codes, slice_get, ◌≤◌, nat_le, arith}
use Rattle.std.specs.List.{list_all}
use Rattle.std.proofs.lemmas.Bool.{leb-true}
use Rattle.std.proofs.lemmas.Grind.{common_steps}
use Rattle.std.specs.Str.{bytes_eq}
use Rattle.clap.specs.Words.{Row, Text, matches_of, takes, first_of, reading_of}
use Rattle.clap.specs.Lexer.{long_of, short_of}
use Rattle.clap.proofs.OnLiterals.{clap_on_literals}
use Rattle.clap.specs.declared.parser.matches.ValueSource.TheVariants.{CommandLine}
use Rattle.clap.specs.declared.builder.value_parser.ValueParser.TheVariants as vp
use Rattle.command_words.specs.Texts.{are_words, five_texts, is_word}

-- the word is neither `--` nor a flag
pub record IsPlain (w : Text) : Type 0 where
  pub dashes : bytes_eq w (45 ∷ 45 ∷ []) ≡ false
  pub long : long_of w ≡ None
  pub short : short_of w ≡ None

-- a first byte that is no hyphen
plain_at : (b : ℕ) (t : Text) → (b == 45) ≡ false → IsPlain (b ∷ t)
plain_at b t h = record { dashes = rw h refl; long = rw h refl; short = rw h refl }

no_hyphen : (x : Bool) → not x ≡ true → x ≡ false
no_hyphen true h = cc
no_hyphen false h = refl

pub plain_word : (w : Text) → is_word w ≡ true → IsPlain w
plain_word [] h = cc
plain_word (b ∷ t) h = plain_at b t (no_hyphen (b == 45) h)

abbrev text_row : Text → Text → Row
text_row id w = record { id = id; values = w ∷ []; count = None; source = Some CommandLine; reading = reading_of vp.String }

takes-1 : (w1 : Text) → IsPlain w1 → takes five_texts (w1 ∷ []) ≡ true
unfolding clap_on_literals
takes-1 w1 p1 = rw (p1.dashes, p1.long, p1.short) refl

rows-1 : (w1 : Text) → IsPlain w1 → matches_of five_texts (w1 ∷ []) ≡ text_row (codes "1") w1 ∷ []
unfolding clap_on_literals
rows-1 w1 p1 = rw (p1.dashes, p1.long, p1.short) refl

takes-2 : (w1 w2 : Text) → IsPlain w1 → IsPlain w2 → takes five_texts (w1 ∷ w2 ∷ []) ≡ true
unfolding clap_on_literals
takes-2 w1 w2 p1 p2 = rw (p1.dashes, p1.long, p1.short, p2.dashes, p2.long, p2.short) refl

rows-2 : (w1 w2 : Text) → IsPlain w1 → IsPlain w2 → matches_of five_texts (w1 ∷ w2 ∷ []) ≡ text_row (codes "1") w1 ∷ text_row (codes "2") w2 ∷ []
unfolding clap_on_literals
rows-2 w1 w2 p1 p2 = rw (p1.dashes, p1.long, p1.short, p2.dashes, p2.long, p2.short) refl

takes-3 : (w1 w2 w3 : Text) → IsPlain w1 → IsPlain w2 → IsPlain w3 → takes five_texts (w1 ∷ w2 ∷ w3 ∷ []) ≡ true
unfolding clap_on_literals
takes-3 w1 w2 w3 p1 p2 p3 = rw (p1.dashes, p1.long, p1.short, p2.dashes, p2.long, p2.short, p3.dashes, p3.long, p3.short) refl

rows-3 : (w1 w2 w3 : Text) → IsPlain w1 → IsPlain w2 → IsPlain w3 → matches_of five_texts (w1 ∷ w2 ∷ w3 ∷ []) ≡ text_row (codes "1") w1 ∷ text_row (codes "2") w2 ∷ text_row (codes "3") w3 ∷ []
unfolding clap_on_literals
rows-3 w1 w2 w3 p1 p2 p3 = rw (p1.dashes, p1.long, p1.short, p2.dashes, p2.long, p2.short, p3.dashes, p3.long, p3.short) refl

takes-4 : (w1 w2 w3 w4 : Text) → IsPlain w1 → IsPlain w2 → IsPlain w3 → IsPlain w4 → takes five_texts (w1 ∷ w2 ∷ w3 ∷ w4 ∷ []) ≡ true
unfolding clap_on_literals
takes-4 w1 w2 w3 w4 p1 p2 p3 p4 = rw (p1.dashes, p1.long, p1.short, p2.dashes, p2.long, p2.short, p3.dashes, p3.long, p3.short, p4.dashes, p4.long, p4.short) refl

rows-4 : (w1 w2 w3 w4 : Text) → IsPlain w1 → IsPlain w2 → IsPlain w3 → IsPlain w4 → matches_of five_texts (w1 ∷ w2 ∷ w3 ∷ w4 ∷ []) ≡ text_row (codes "1") w1 ∷ text_row (codes "2") w2 ∷ text_row (codes "3") w3 ∷ text_row (codes "4") w4 ∷ []
unfolding clap_on_literals
rows-4 w1 w2 w3 w4 p1 p2 p3 p4 = rw (p1.dashes, p1.long, p1.short, p2.dashes, p2.long, p2.short, p3.dashes, p3.long, p3.short, p4.dashes, p4.long, p4.short) refl

takes-5 : (w1 w2 w3 w4 w5 : Text) → IsPlain w1 → IsPlain w2 → IsPlain w3 → IsPlain w4 → IsPlain w5 → takes five_texts (w1 ∷ w2 ∷ w3 ∷ w4 ∷ w5 ∷ []) ≡ true
unfolding clap_on_literals
takes-5 w1 w2 w3 w4 w5 p1 p2 p3 p4 p5 = rw (p1.dashes, p1.long, p1.short, p2.dashes, p2.long, p2.short, p3.dashes, p3.long, p3.short, p4.dashes, p4.long, p4.short, p5.dashes, p5.long, p5.short) refl

rows-5 : (w1 w2 w3 w4 w5 : Text) → IsPlain w1 → IsPlain w2 → IsPlain w3 → IsPlain w4 → IsPlain w5 → matches_of five_texts (w1 ∷ w2 ∷ w3 ∷ w4 ∷ w5 ∷ []) ≡ text_row (codes "1") w1 ∷ text_row (codes "2") w2 ∷ text_row (codes "3") w3 ∷ text_row (codes "4") w4 ∷ text_row (codes "5") w5 ∷ []
unfolding clap_on_literals
rows-5 w1 w2 w3 w4 w5 p1 p2 p3 p4 p5 = rw (p1.dashes, p1.long, p1.short, p2.dashes, p2.long, p2.short, p3.dashes, p3.long, p3.short, p4.dashes, p4.long, p4.short, p5.dashes, p5.long, p5.short) refl

both : (a b : Bool) → (a && b) ≡ true → (a ≡ true) × (b ≡ true)
both true b h = (refl, h)
both false b h = cc

-- what `clap` makes of the words
pub record AreRead (ws : List Text) : Type 0 where
  pub taken : takes five_texts ws ≡ true
  pub first : first_of (codes "1") (matches_of five_texts ws) ≡ slice_get ws 0
  pub second : first_of (codes "2") (matches_of five_texts ws) ≡ slice_get ws 1
  pub third : first_of (codes "3") (matches_of five_texts ws) ≡ slice_get ws 2
  pub fourth : first_of (codes "4") (matches_of five_texts ws) ≡ slice_get ws 3
  pub fifth : first_of (codes "5") (matches_of five_texts ws) ≡ slice_get ws 4

by_rows : (ws : List Text) (rows : List Row) → takes five_texts ws ≡ true → matches_of five_texts ws ≡ rows
    → first_of (codes "1") rows ≡ slice_get ws 0 → first_of (codes "2") rows ≡ slice_get ws 1 → first_of (codes "3") rows ≡ slice_get ws 2
    → first_of (codes "4") rows ≡ slice_get ws 3 → first_of (codes "5") rows ≡ slice_get ws 4 → AreRead ws
by_rows ws rows t e a b c d f = record {
  taken = t;
  first = ap (first_of (codes "1")) e ∙ a;
  second = ap (first_of (codes "2")) e ∙ b;
  third = ap (first_of (codes "3")) e ∙ c;
  fourth = ap (first_of (codes "4")) e ∙ d;
  fifth = ap (first_of (codes "5")) e ∙ f;
}

each : (ws : List Text) → list_all is_word ws ≡ true → nat_le 1 (length ws) ≡ true → nat_le (length ws) 5 ≡ true → AreRead ws
each [] h low high = cc
each (w1 ∷ []) h low high =
    let h1 = both (is_word w1) (list_all is_word ([])) h in
    by_rows _ _ (takes-1 w1 (plain_word w1 h1.0)) (rows-1 w1 (plain_word w1 h1.0)) refl refl refl refl refl
each (w1 ∷ w2 ∷ []) h low high =
    let h1 = both (is_word w1) (list_all is_word (w2 ∷ [])) h in
    let h2 = both (is_word w2) (list_all is_word ([])) h1.1 in
    by_rows _ _ (takes-2 w1 w2 (plain_word w1 h1.0) (plain_word w2 h2.0)) (rows-2 w1 w2 (plain_word w1 h1.0) (plain_word w2 h2.0)) refl refl refl refl refl
each (w1 ∷ w2 ∷ w3 ∷ []) h low high =
    let h1 = both (is_word w1) (list_all is_word (w2 ∷ w3 ∷ [])) h in
    let h2 = both (is_word w2) (list_all is_word (w3 ∷ [])) h1.1 in
    let h3 = both (is_word w3) (list_all is_word ([])) h2.1 in
    by_rows _ _ (takes-3 w1 w2 w3 (plain_word w1 h1.0) (plain_word w2 h2.0) (plain_word w3 h3.0)) (rows-3 w1 w2 w3 (plain_word w1 h1.0) (plain_word w2 h2.0) (plain_word w3 h3.0)) refl refl refl refl refl
each (w1 ∷ w2 ∷ w3 ∷ w4 ∷ []) h low high =
    let h1 = both (is_word w1) (list_all is_word (w2 ∷ w3 ∷ w4 ∷ [])) h in
    let h2 = both (is_word w2) (list_all is_word (w3 ∷ w4 ∷ [])) h1.1 in
    let h3 = both (is_word w3) (list_all is_word (w4 ∷ [])) h2.1 in
    let h4 = both (is_word w4) (list_all is_word ([])) h3.1 in
    by_rows _ _ (takes-4 w1 w2 w3 w4 (plain_word w1 h1.0) (plain_word w2 h2.0) (plain_word w3 h3.0) (plain_word w4 h4.0)) (rows-4 w1 w2 w3 w4 (plain_word w1 h1.0) (plain_word w2 h2.0) (plain_word w3 h3.0) (plain_word w4 h4.0)) refl refl refl refl refl
each (w1 ∷ w2 ∷ w3 ∷ w4 ∷ w5 ∷ []) h low high =
    let h1 = both (is_word w1) (list_all is_word (w2 ∷ w3 ∷ w4 ∷ w5 ∷ [])) h in
    let h2 = both (is_word w2) (list_all is_word (w3 ∷ w4 ∷ w5 ∷ [])) h1.1 in
    let h3 = both (is_word w3) (list_all is_word (w4 ∷ w5 ∷ [])) h2.1 in
    let h4 = both (is_word w4) (list_all is_word (w5 ∷ [])) h3.1 in
    let h5 = both (is_word w5) (list_all is_word ([])) h4.1 in
    by_rows _ _ (takes-5 w1 w2 w3 w4 w5 (plain_word w1 h1.0) (plain_word w2 h2.0) (plain_word w3 h3.0) (plain_word w4 h4.0) (plain_word w5 h5.0)) (rows-5 w1 w2 w3 w4 w5 (plain_word w1 h1.0) (plain_word w2 h2.0) (plain_word w3 h3.0) (plain_word w4 h4.0) (plain_word w5 h5.0)) refl refl refl refl refl
each (w1 ∷ w2 ∷ w3 ∷ w4 ∷ w5 ∷ w6 ∷ ws) h low high =
    let few : length (w1 ∷ w2 ∷ w3 ∷ w4 ∷ w5 ∷ w6 ∷ ws) ≤ 5 = leb-true _ _ high in
    absurd (grind (arith, common_steps, few))

pub words_read : (ws : List Text) → are_words ws ≡ true → AreRead ws
words_read ws h =
    let a = both (nat_le 1 (length ws)) _ h in
    let b = both (nat_le (length ws) 5) _ a.1 in
    each ws b.1 a.0 b.0
