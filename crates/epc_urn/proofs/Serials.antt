-- Reading a serial character by character.
use Rattle.std.proofs.Common.{◌≡◌, ℕ, zero, suc, ◌+◌, ◌-◌, ◌≤◌, ◌<◌, List, [], ◌∷◌, ◌++◌, length, take, set, Bool, true, false, eqb, None, Result, Ok, Err, refl, sym, ap, ◌∙◌, arith, append_assoc}
use Rattle.std.proofs.lemmas.List.{append-nil, length-append}
use Rattle.std.proofs.Math.Seq.{take-suc-set}
use Rattle.std.specs.List.{AllByRecursion, flat_map}
use Rattle.std.proofs.lemmas.Bool.{le-leb, eqb-true}
use Rattle.std.proofs.lemmas.Bool.Decides.{nat_tests}
use Rattle.gs1_keys.specs.Keys.{is_in_set, first_other, text_of, IsText}
use Rattle.gs1_keys.proofs.Known.{text_length, text_set}
use Rattle.gs1_keys.specs.declared.fault.KeyFault.{KeyFault}
use Rattle.epc_urn.specs.declared.fault.Stop.{Stop}
use Rattle.epc_urn.specs.declared.fault.Stop.TheVariants.{BadField, TooLong}
use Rattle.epc_urn.specs.Reading.{◌>>=◌}
use Rattle.epc_urn.specs.Serial.{written, char_at, serial_of, serial_at, serial_text}
use Rattle.epc_urn.proofs.Digits.{passes}
use Rattle.epc_urn.proofs.Spelled.{IsSerial, serial_takes, serial_again}

-- what was read before, and what is still read
abbrev pub with_front : List ℕ → Result (List ℕ) Stop → Result (List ℕ) Stop
with_front front read = read >>= λ cs. Ok (front ++ cs)

pub begins : (bytes characters : List ℕ) → serial_of 20 bytes ≡ with_front (take 0 characters) (serial_of 20 bytes)
begins bytes characters = by (serial_of 20 bytes)
  where
    by : (r : Result (List ℕ) Stop) → r ≡ with_front (take 0 characters) r
    by (Ok cs) = refl
    by (Err e) = refl

regroup : (front : List ℕ) (c : ℕ) (read : Result (List ℕ) Stop) → with_front front (read >>= λ cs. Ok (c ∷ cs)) ≡ with_front (front ++ c ∷ []) read
regroup front c (Ok cs) = ap Ok (sym (append_assoc front (c ∷ []) cs))
regroup front c (Err e) = refl

more : (room : ℕ) (bytes : List ℕ) → 1 ≤ length bytes → serial_of (suc room) bytes ≡ (char_at bytes >>= λ c. serial_of room c.1 >>= λ cs. Ok (c.0 ∷ cs))
unfolding serial_of
more room [] some = absurd (omega arith)
more room (b ∷ bs) some = refl

pub goes_on : (total : Result (List ℕ) Stop) (characters bytes after : List ℕ) (len c : ℕ) → 1 ≤ length bytes → len < 20 → length characters ≡ 20 → char_at bytes ≡ Ok (c, after)
    → total ≡ with_front (take len characters) (serial_of (20 - len) bytes) → total ≡ with_front (take (len + 1) (set characters len c)) (serial_of (20 - (len + 1)) after)
goes_on total characters bytes after len c some lt size h so_far =
    let room : 20 - len ≡ suc (20 - (len + 1)) = omega arith in
    let step : serial_of (20 - len) bytes ≡ (serial_of (20 - (len + 1)) after >>= λ cs. Ok (c ∷ cs)) = ap (λ (n : ℕ). serial_of n bytes) room ∙ more (20 - (len + 1)) bytes some ∙ ap (λ r. r >>= λ d. serial_of (20 - (len + 1)) d.1 >>= λ cs. Ok (d.0 ∷ cs)) h in
    let front : take len characters ++ c ∷ [] ≡ take (len + 1) (set characters len c) = sym (take-suc-set characters len c (omega arith)) ∙ ap (λ (n : ℕ). take n (set characters len c)) (let next : suc len ≡ len + 1 = omega arith in next) in
    so_far ∙ ap (with_front (take len characters)) step ∙ regroup (take len characters) c (serial_of (20 - (len + 1)) after) ∙ ap (λ (w : List ℕ). with_front w (serial_of (20 - (len + 1)) after)) front

pub stops : (total : Result (List ℕ) Stop) (front bytes : List ℕ) (len : ℕ) (e : Stop) → 1 ≤ length bytes → len < 20 → char_at bytes ≡ Err e → total ≡ with_front front (serial_of (20 - len) bytes) → total ≡ Err e
stops total front bytes len e some lt h so_far =
    let room : 20 - len ≡ suc (20 - (len + 1)) = omega arith in
    so_far ∙ ap (with_front front) (ap (λ (n : ℕ). serial_of n bytes) room ∙ more (20 - (len + 1)) bytes some ∙ ap (λ r. r >>= λ d. serial_of (20 - (len + 1)) d.1 >>= λ cs. Ok (d.0 ∷ cs)) h)

pub too_long : (total : Result (List ℕ) Stop) (front bytes : List ℕ) (len : ℕ) → 1 ≤ length bytes → len ≡ 20 → total ≡ with_front front (serial_of (20 - len) bytes) → total ≡ Err TooLong
unfolding serial_of
too_long total front [] len some e so_far = absurd (omega arith)
too_long total front (b ∷ bs) len some e so_far = so_far ∙ ap (λ (n : ℕ). with_front front (serial_of (20 - n) (b ∷ bs))) e

none_left : (room : ℕ) (bytes : List ℕ) → length bytes ≡ 0 → serial_of room bytes ≡ Ok []
unfolding serial_of
none_left zero [] e = refl
none_left (suc room) [] e = refl
none_left room (b ∷ bs) e = absurd (omega arith)

pub is_done : (total : Result (List ℕ) Stop) (front bytes : List ℕ) (room : ℕ) → length bytes ≡ 0 → total ≡ with_front front (serial_of room bytes) → total ≡ Ok front
is_done total front bytes room none so_far = so_far ∙ ap (with_front front) (none_left room bytes none) ∙ ap Ok (append-nil front)

-- what `is_empty` says
pub some_bytes : (b : Bool) (text bytes : List ℕ) → b ≡ eqb (length text) 0 → b ≡ false → text ≡ bytes → 1 ≤ length bytes
some_bytes b text bytes e f same = let h = e in let k = f in let len = ap length same in grind (arith, nat_tests)

pub no_bytes : (b : Bool) (text bytes : List ℕ) → b ≡ eqb (length text) 0 → b ≡ true → text ≡ bytes → length bytes ≡ 0
no_bytes b text bytes e f same = ap length (sym same) ∙ eqb-true (length text) 0 (sym e ∙ f)

pub none_at : (bytes : List ℕ) → length bytes ≡ 0 → serial_at bytes ≡ Err (BadField 0)
unfolding serial_at
none_at [] e = refl
none_at (b ∷ bs) e = absurd (omega arith)

pub at_is : (bytes : List ℕ) → 1 ≤ length bytes → serial_at bytes ≡ serial_of 20 bytes
unfolding serial_at
at_is [] some = absurd (omega arith)
at_is (b ∷ bs) some = refl

-- characters of the set are a text
all_in_set : (at : ℕ) (cs : List ℕ) → AllByRecursion (λ c. is_in_set c ≡ true) cs → first_other is_in_set at cs ≡ None
all_in_set at [] h = refl
all_in_set at (c ∷ cs) h = rw (h.0) (all_in_set (at + 1) cs h.1)

in_set_all : (at : ℕ) (cs : List ℕ) → first_other is_in_set at cs ≡ None → AllByRecursion (λ c. is_in_set c ≡ true) cs
in_set_all at [] e = tt
in_set_all at (c ∷ cs) e = let p = passes (is_in_set c) (first_other is_in_set (at + 1) cs) at e in (p.0, in_set_all (at + 1) cs p.1)

serial_is_text : (cs : List ℕ) → 1 ≤ length cs → IsSerial 20 cs → IsText cs
unfolding text_of
serial_is_text cs some h = rw (le-leb 1 (length cs) some, le-leb (length cs) 20 (h.0), all_in_set 0 cs (h.1)) refl

some_character : (bytes cs : List ℕ) → 1 ≤ length bytes → bytes ≡ serial_text cs → 1 ≤ length cs
some_character bytes [] some e = absurd (omega (arith, ap length e))
some_character bytes (c ∷ cs) some e = omega arith

pub serial_at_takes : (bytes serial : List ℕ) → serial_at bytes ≡ Ok serial → (bytes ≡ serial_text serial) × IsText serial
unfolding serial_at
serial_at_takes [] serial e = absurd cc
serial_at_takes (b ∷ bs) serial e =
    let t = serial_takes 20 (b ∷ bs) serial e in
    (t.0, serial_is_text serial (some_character (b ∷ bs) serial (omega arith) t.0) t.1)

pub text_read : (bytes serial : List ℕ) → 1 ≤ length bytes → serial_of 20 bytes ≡ Ok serial → text_of serial ≡ Ok serial
text_read bytes serial some e =
    let t = serial_takes 20 bytes serial e in
    serial_is_text serial (some_character bytes serial some t.0) t.1

written_some : (c : ℕ) → 1 ≤ length (written c)
written_some c = grind arith

pub serial_at_again : (serial : List ℕ) → IsText serial → serial_at (serial_text serial) ≡ Ok serial
serial_at_again [] h = absurd (omega (arith, text_length [] h))
serial_at_again (c ∷ cs) h =
    let size = text_length (c ∷ cs) h in
    let some : 1 ≤ length (serial_text (c ∷ cs)) = omega (arith, written_some c, length-append (written c) (flat_map written cs)) in
    at_is (serial_text (c ∷ cs)) some ∙ serial_again 20 (c ∷ cs) (size.1, in_set_all 0 (c ∷ cs) (text_set (c ∷ cs) h))

abbrev read_as : List ℕ → Result (List ℕ) KeyFault
read_as x = Ok x

abbrev refused : KeyFault → Result (List ℕ) KeyFault
refused fault = Err fault

-- reading the characters again as a text gives them
pub text_is : (bytes serial x : List ℕ) → 1 ≤ length bytes → serial_of 20 bytes ≡ Ok serial → read_as x ≡ text_of serial → serial_of 20 bytes ≡ Ok x
text_is bytes serial x some e f =
    let again = text_read bytes serial some e in
    let same : serial ≡ x = cc (f, again) in
    e ∙ ap Ok same

pub no_text_fault : (bytes serial : List ℕ) (fault : KeyFault) → 1 ≤ length bytes → serial_of 20 bytes ≡ Ok serial → refused fault ≡ text_of serial → ⊥
no_text_fault bytes serial fault some e f =
    let again = text_read bytes serial some e in
    absurd (cc (f, again))
