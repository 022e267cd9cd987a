-- A read is Ok exactly for the texts of its key.
use Rattle.std.proofs.Common.{◌≡◌, ℕ, ◌≤◌, ◌+◌, Bool, true, false, cond, List, [], ◌∷◌, length, Option, Some, None, Result, refl}
use Rattle.std.specs.Prelude.{◌↔◌, ◌==◌, All, IsOk, is_ok}
use Rattle.std.proofs.lemmas.List.Elements.{All-nil, All-cons, All-head, All-tail}
use Rattle.std.proofs.lemmas.Bool.{eqb-true, eq-eqb, le-leb}
use Rattle.gs1_keys.specs.Keys.{is_digit, is_in_set, is_between, is_gtin_length, first_other, check, key_fault, if_length, or_fault, or_at, padded, IsChecked, IsGtinText, IsSsccText, IsGlnText, IsPrefixText, IsSetText, IsUnchecked, check_of, gtin_of, sscc_of, gln_of, prefix_of, text_of}
use Rattle.gs1_keys.specs.declared.fault.KeyFault.{KeyFault}
use Rattle.gs1_keys.specs.declared.fault.KeyFault.TheVariants.{NotDigit, NotInSet}
use Rattle.gs1_keys.proofs.Padding.{key_has, is_key}
use Rattle.gs1_keys.proofs.Known.{between}

-- no byte fails the test exactly where all pass it
all_pass : (test : ℕ → Bool) (xs : List ℕ) (at : ℕ) → first_other test at xs ≡ None → All (λ b. test b ≡ true) xs
all_pass test [] at e = All-nil (λ b. test b ≡ true)
all_pass test (x ∷ xs) at e = by (test x) refl e (λ f. all_pass test xs (at + 1) f)
  where
    by : (v : Bool) → test x ≡ v → cond v (first_other test (at + 1) xs) (Some at) ≡ None → (first_other test (at + 1) xs ≡ None → All (λ b. test b ≡ true) xs) → All (λ b. test b ≡ true) (x ∷ xs)
    by true h e others = All-cons (λ b. test b ≡ true) x xs h (others e)
    by false h e others = absurd cc

none_fails : (test : ℕ → Bool) (xs : List ℕ) (at : ℕ) → All (λ b. test b ≡ true) xs → first_other test at xs ≡ None
none_fails test [] at h = refl
none_fails test (x ∷ xs) at h =
    let here : test x ≡ true = All-head (λ b. test b ≡ true) x xs h in
    let others : first_other test (at + 1) xs ≡ None = none_fails test xs (at + 1) (All-tail (λ b. test b ≡ true) x xs h) in
    rw here others

checked : (text : List ℕ) → key_fault text ≡ None → IsChecked text
checked text e = let p = key_has text e in (all_pass is_digit text 0 p.0, p.1)

faultless : (text : List ℕ) → IsChecked text → key_fault text ≡ None
faultless text h = is_key text (none_fails is_digit text 0 h.0) h.1

-- Ok where the length fits and there is no fault
ok_key : (b : Bool) (o : Option KeyFault) (text x : List ℕ) → is_ok (if_length b text (or_fault o x)) ≡ true → (b ≡ true) × (o ≡ None)
ok_key true None text x e = (refl, refl)
ok_key true (Some f) text x e = absurd cc
ok_key false o text x e = absurd cc

key_ok : (b : Bool) (o : Option KeyFault) (text x : List ℕ) → b ≡ true → o ≡ None → is_ok (if_length b text (or_fault o x)) ≡ true
key_ok b o text x e f = rw (e, f) refl

ok_text : {X : Type 0} (b : Bool) (o : Option ℕ) (fault : ℕ → KeyFault) (text : List ℕ) (x : X) → is_ok (if_length b text (or_at o fault x)) ≡ true → (b ≡ true) × (o ≡ None)
ok_text true None fault text x e = (refl, refl)
ok_text true (Some at) fault text x e = absurd cc
ok_text false o fault text x e = absurd cc

text_ok : {X : Type 0} (b : Bool) (o : Option ℕ) (fault : ℕ → KeyFault) (text : List ℕ) (x : X) → b ≡ true → o ≡ None → is_ok (if_length b text (or_at o fault x)) ≡ true
text_ok b o fault text x e f = rw (e, f) refl

gtin_texts : (text : List ℕ) → IsOk (gtin_of text) ↔ IsGtinText text
unfolding gtin_of
gtin_texts text = (
  λ e. (let p = ok_key (is_gtin_length (length text)) (key_fault text) text (padded text) e in (p.0, checked text p.1)),
  λ h. key_ok (is_gtin_length (length text)) (key_fault text) text (padded text) h.0 (faultless text h.1),
)

sscc_texts : (text : List ℕ) → IsOk (sscc_of text) ↔ IsSsccText text
unfolding sscc_of
sscc_texts text = (
  λ e. (let p = ok_key (length text == 18) (key_fault text) text text e in (eqb-true (length text) 18 p.0, checked text p.1)),
  λ h. key_ok (length text == 18) (key_fault text) text text (eq-eqb (length text) 18 h.0) (faultless text h.1),
)

gln_texts : (text : List ℕ) → IsOk (gln_of text) ↔ IsGlnText text
unfolding gln_of
gln_texts text = (
  λ e. (let p = ok_key (length text == 13) (key_fault text) text text e in (eqb-true (length text) 13 p.0, checked text p.1)),
  λ h. key_ok (length text == 13) (key_fault text) text text (eq-eqb (length text) 13 h.0) (faultless text h.1),
)

is_within : (low high n : ℕ) → low ≤ n → n ≤ high → is_between low high n ≡ true
is_within low high n l h = rw (le-leb low n l, le-leb n high h) refl

prefix_texts : (text : List ℕ) → IsOk (prefix_of text) ↔ IsPrefixText text
unfolding prefix_of
prefix_texts text = (
  λ e. (let p = ok_text (is_between 6 12 (length text)) (first_other is_digit 0 text) NotDigit text text e in let q = between 6 12 (length text) p.0 in (q.0, q.1, all_pass is_digit text 0 p.1)),
  λ h. text_ok (is_between 6 12 (length text)) (first_other is_digit 0 text) NotDigit text text (is_within 6 12 (length text) h.0 h.1) (none_fails is_digit text 0 h.2),
)

text_texts : (text : List ℕ) → IsOk (text_of text) ↔ IsSetText text
unfolding text_of
text_texts text = (
  λ e. (let p = ok_text (is_between 1 20 (length text)) (first_other is_in_set 0 text) NotInSet text text e in let q = between 1 20 (length text) p.0 in (q.0, q.1, all_pass is_in_set text 0 p.1)),
  λ h. text_ok (is_between 1 20 (length text)) (first_other is_in_set 0 text) NotInSet text text (is_within 1 20 (length text) h.0 h.1) (none_fails is_in_set text 0 h.2),
)

check_texts : (digits : List ℕ) → IsOk (check_of digits) ↔ IsUnchecked digits
unfolding check_of
check_texts digits = (
  λ e. (let p = ok_text (is_between 1 17 (length digits)) (first_other is_digit 0 digits) NotDigit digits (check digits) e in let q = between 1 17 (length digits) p.0 in (q.0, q.1, all_pass is_digit digits 0 p.1)),
  λ h. text_ok (is_between 1 17 (length digits)) (first_other is_digit 0 digits) NotDigit digits (check digits) (is_within 1 17 (length digits) h.0 h.1) (none_fails is_digit digits 0 h.2),
)

-- ---- of an answer that is what reading the text gives

pub gtin_exactly : (r : Result (List ℕ) KeyFault) (text : List ℕ) → r ≡ gtin_of text → IsOk r ↔ IsGtinText text
gtin_exactly r text e = rw e (gtin_texts text)

pub sscc_exactly : (r : Result (List ℕ) KeyFault) (text : List ℕ) → r ≡ sscc_of text → IsOk r ↔ IsSsccText text
sscc_exactly r text e = rw e (sscc_texts text)

pub gln_exactly : (r : Result (List ℕ) KeyFault) (text : List ℕ) → r ≡ gln_of text → IsOk r ↔ IsGlnText text
gln_exactly r text e = rw e (gln_texts text)

pub prefix_exactly : (r : Result (List ℕ) KeyFault) (text : List ℕ) → r ≡ prefix_of text → IsOk r ↔ IsPrefixText text
prefix_exactly r text e = rw e (prefix_texts text)

pub text_exactly : (r : Result (List ℕ) KeyFault) (text : List ℕ) → r ≡ text_of text → IsOk r ↔ IsSetText text
text_exactly r text e = rw e (text_texts text)

pub check_exactly : (r : Result ℕ KeyFault) (text : List ℕ) → r ≡ check_of text → IsOk r ↔ IsUnchecked text
check_exactly r text e = rw e (check_texts text)
