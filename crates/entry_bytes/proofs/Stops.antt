-- Where a reader stops: the bytes in front of that place are fields that were read, and there the next field begins.
use Rattle.std.proofs.Common.{◌≡◌, ◌⊎◌, ℕ, zero, suc, Bool, true, false, cond, ltb, List, [], ◌∷◌, ◌++◌, length, take, drop, Option, Some, None, Result, Ok, Err, refl, sym, ap, ◌∙◌, append_assoc, inl, inr}
use Rattle.std.specs.Int.{Width, byte_len, from_be_bytes}
use Rattle.gs1_keys.specs.Keys.{is_between}
use Rattle.entry_bytes.specs.declared.fault.Stop.{Stop}
use Rattle.entry_bytes.specs.declared.fault.Stop.TheVariants.{Short, BadTag, BadField, Memory}
use Rattle.entry_bytes.specs.Reading.{◌>>=◌, Reader, one, two, two_after, many, many_after, byte_at, number_at, ranged, below, meant, cut, fixed}
use Rattle.entry_bytes.proofs.Codec.{IsBytes, Codec}

-- how many bytes are left where it stopped
abbrev pub left_of : Stop → ℕ
left_of (Short left) = left
left_of (BadTag left) = left
left_of (BadField left) = left
left_of Memory = 0

abbrev stopped : {X : Type 0} → Stop → Result X Stop
stopped e = Err e

pub record StopsAt {X : Type 0} (read : Reader X) (bytes : List ℕ) (e : Stop) : Type 0 where
  pub front : List ℕ
  pub back : List ℕ
  pub parts : bytes ≡ front ++ back
  pub left : left_of e ≡ length back
  pub next : read front ≡ Err (Short 0)

abbrev pub Stops : {X : Type 0} → Reader X → Type 0
Stops {X} read = (bytes : List ℕ) (e : Stop) → IsBytes bytes → read bytes ≡ Err e → StopsAt read bytes e

-- a reader of one field: whatever is wrong is told where it begins
pub record Field {X : Type 0} (read : Reader X) : Type 0 where
  pub told : (bytes : List ℕ) (e : Stop) → read bytes ≡ Err e → left_of e ≡ length bytes
  pub missing : read [] ≡ Err (Short 0)

pub field_stops : {X : Type 0} {read : Reader X} → Field read → Stops read
field_stops field bytes e fits h = record { front = []; back = bytes; parts = refl; left = field.told bytes e h; next = field.missing }

abbrev pub done : {A : Type 0} → A → Result A Stop
done x = Ok x

err_is : {A : Type 0} (d e : Stop) → stopped {X = A} d ≡ stopped e → d ≡ e
err_is d e h = cc

-- a step that failed: the first did, or the second on what the first gave
pub bind_err : {A B : Type 0} (r : Result A Stop) (f : A → Result B Stop) (e : Stop) → (r >>= f) ≡ Err e → (r ≡ Err e) ⊎ ((x : A) × (r ≡ Ok x) × (f x ≡ Err e))
bind_err (Ok x) f e h = inr (x, refl, h)
bind_err {A} {B} (Err d) f e h = inl (let s : d ≡ e = cc in ap Err s)

bind_stopped : {A B : Type 0} (r : Result A Stop) (f : A → Result B Stop) (e : Stop) → r ≡ Err e → (r >>= f) ≡ Err e
bind_stopped (Ok x) f e h = absurd cc
bind_stopped (Err d) f e h = let s : d ≡ e = cc in ap Err s

-- a reader, and one that depends on what it gave
pub bind_stops : {X Y : Type 0} {p : X → List ℕ} {F : X → Type 0} {r : Reader X} (s : X → Reader Y) → Codec p F r → Stops r → ((x : X) → Stops (s x)) → Stops (λ bytes. r bytes >>= λ x. s x.0 x.1)
bind_stops {X} {Y} {p} {F} {r} s codec first others bytes e fits h = by (bind_err (r bytes) (λ x. s x.0 x.1) e h)
  where
    after : (x : X × List ℕ) → r bytes ≡ Ok x → s x.0 x.1 ≡ Err e → StopsAt (λ bytes. r bytes >>= λ y. s y.0 y.1) bytes e
    after x is h =
        let t = codec.takes bytes x fits is in
        let rest = others x.0 x.1 e t.0.rest_fits h in
        record {
          front = p x.0 ++ rest.front;
          back = rest.back;
          parts = t.0.parts ∙ ap (λ (w : List ℕ). p x.0 ++ w) rest.parts ∙ sym (append_assoc (p x.0) rest.front rest.back);
          left = rest.left;
          next = ap (λ (q : Result (X × List ℕ) Stop). q >>= λ y. s y.0 y.1) (codec.again x.0 rest.front t.1) ∙ rest.next;
        }

    by : (r bytes ≡ Err e) ⊎ ((x : X × List ℕ) × (r bytes ≡ Ok x) × (s x.0 x.1 ≡ Err e)) → StopsAt (λ bytes. r bytes >>= λ y. s y.0 y.1) bytes e
    by (inl d) =
        let here = first bytes e fits d in
        record { front = here.front; back = here.back; parts = here.parts; left = here.left; next = bind_stopped (r here.front) (λ y. s y.0 y.1) (Short 0) here.next }
    by (inr o) = after o.0 o.1 o.2

pub one_stops : {X Y : Type 0} {r : Reader X} (make : X → Y) → Stops r → Stops (one make r)
one_stops {X} {Y} {r} make first bytes e fits h = by (bind_err (r bytes) (λ x. Ok (make x.0, x.1)) e h)
  where
    by : (r bytes ≡ Err e) ⊎ ((x : X × List ℕ) × (r bytes ≡ Ok x) × ((let made : Y × List ℕ = (make x.0, x.1) in done made) ≡ Err e)) → StopsAt (one make r) bytes e
    by (inl d) =
        let here = first bytes e fits d in
        record { front = here.front; back = here.back; parts = here.parts; left = here.left; next = bind_stopped (r here.front) (λ x. Ok (make x.0, x.1)) (Short 0) here.next }
    by (inr o) = absurd (let no_way = o.2 in cc)

pub two_stops : {X Y Z : Type 0} {p : X → List ℕ} {F : X → Type 0} {r : Reader X} {s : Reader Y} (make : X → Y → Z) → Codec p F r → Stops r → Stops s → Stops (two make r s)
two_stops {X} {Y} {Z} {p} {F} {r} {s} make codec first second = bind_stops (λ x. one (make x) s) codec first (λ x. one_stops (make x) second)

pub two_after_stops : {X Y Z : Type 0} {p : X → List ℕ} {F : X → Type 0} {r : Reader X} {s : X → Reader Y} (make : X → Y → Z) → Codec p F r → Stops r → ((x : X) → Stops (s x)) → Stops (two_after make r s)
two_after_stops {X} {Y} {Z} {p} {F} {r} {s} make codec first others = bind_stops (λ x. one (make x) (s x)) codec first (λ x. one_stops (make x) (others x))

pub many_stops : {X : Type 0} {p : X → List ℕ} {F : X → Type 0} {r : Reader X} → Codec p F r → Stops r → (n : ℕ) → Stops (many r n)
unfolding many
many_stops codec first zero bytes e fits h = absurd cc
many_stops {X} {p} {F} {r} codec first (suc n) bytes e fits h = two_stops (λ (x : X) (xs : List X). x ∷ xs) codec first (many_stops codec first n) bytes e fits h

pub many_after_stops : {X : Type 0} {p : X → List ℕ} (G : List X → X → Type 0) (r : List X → Reader X) → ((before : List X) → Codec p (G before) (r before)) → ((before : List X) → Stops (r before)) → (before : List X) (n : ℕ) → Stops (many_after r before n)
unfolding many_after
many_after_stops G r codec first before zero bytes e fits h = absurd cc
many_after_stops {X} {p} G r codec first before (suc n) bytes e fits h = two_after_stops (λ (x : X) (xs : List X). x ∷ xs) (codec before) (first before) (λ x. many_after_stops {X = X} {p = p} G r codec first (before ++ x ∷ []) n) bytes e fits h

-- ---- fields

pub byte_field : Field byte_at
byte_field = record { told = told; missing = refl }
  where
    told : (bytes : List ℕ) (e : Stop) → byte_at bytes ≡ Err e → left_of e ≡ length bytes
    told [] e h = let s : Short 0 ≡ e = cc in ap left_of (sym s)
    told (b ∷ rest) e h = absurd cc

pub number_field : (w : Width) → ltb 0 (byte_len w) ≡ true → Field (number_at w)
number_field w some = record { told = told; missing = rw some refl }
  where
    told : (bytes : List ℕ) (e : Stop) → number_at w bytes ≡ Err e → left_of e ≡ length bytes
    told bytes e h = by (ltb (length bytes) (byte_len w)) h
      where
        by : (b : Bool) → (let read : ℕ × List ℕ = (from_be_bytes w (take (byte_len w) bytes), drop (byte_len w) bytes) in cond b (Err (Short (length bytes))) (done read)) ≡ Err e → left_of e ≡ length bytes
        by true h = let s : Short (length bytes) ≡ e = cc in ap left_of (sym s)
        by false h = absurd cc

-- a field of which something more is asked
pub tested_field : {X Y : Type 0} {read : Reader X} (test : List ℕ → X × List ℕ → Result (Y × List ℕ) Stop) → Field read → ((bytes : List ℕ) (x : X × List ℕ) (e : Stop) → test bytes x ≡ Err e → left_of e ≡ length bytes) → Field (λ bytes. read bytes >>= test bytes)
tested_field {X} {Y} {read} test field asked = record { told = told; missing = bind_stopped (read []) (test []) (Short 0) field.missing }
  where
    told : (bytes : List ℕ) (e : Stop) → (read bytes >>= test bytes) ≡ Err e → left_of e ≡ length bytes
    told bytes e h = by (bind_err (read bytes) (test bytes) e h)
      where
        by : (read bytes ≡ Err e) ⊎ ((x : X × List ℕ) × (read bytes ≡ Ok x) × (test bytes x ≡ Err e)) → left_of e ≡ length bytes
        by (inl d) = field.told bytes e d
        by (inr o) = asked bytes o.0 e o.2

-- a test that tells its own place
pub if_told : {A : Type 0} (b : Bool) (x : A) (left : ℕ) (e : Stop) → cond b (Ok x) (Err (BadField left)) ≡ Err e → left_of e ≡ left
if_told true x left e h = absurd cc
if_told false x left e h = let s : BadField left ≡ e = cc in ap left_of (sym s)

pub ranged_field : {number : Reader ℕ} (low high : ℕ) → Field number → Field (ranged low high number)
ranged_field {number} low high field = tested_field {read = number} (λ bytes n. cond (is_between low high n.0) (Ok n) (Err (BadField (length bytes)))) field (λ bytes x e h. if_told (is_between low high x.0) x (length bytes) e h)

pub below_field : {number : Reader ℕ} (bound : ℕ) → Field number → Field (below bound number)
below_field {number} bound field = tested_field {read = number} (λ bytes n. cond (ltb n.0 bound) (Ok n) (Err (BadField (length bytes)))) field (λ bytes x e h. if_told (ltb x.0 bound) x (length bytes) e h)

pub cut_told : (meaning : List ℕ → Option (List ℕ)) (left n : ℕ) (rest : List ℕ) (e : Stop) → cut meaning left n rest ≡ Err e → left_of e ≡ left
cut_told meaning left n rest e h = by (ltb (length rest) n) h
  where
    is_meant : (o : Option (List ℕ)) → meant left o (drop n rest) ≡ Err e → left_of e ≡ left
    is_meant None h = let s : BadField left ≡ e = cc in ap left_of (sym s)
    is_meant (Some x) h = absurd cc

    by : (b : Bool) → cond b (Err (Short left)) (meant left (meaning (take n rest)) (drop n rest)) ≡ Err e → left_of e ≡ left
    by true h = let s : Short left ≡ e = cc in ap left_of (sym s)
    by false h = is_meant (meaning (take n rest)) h

pub fixed_field : (meaning : List ℕ → Option (List ℕ)) (n : ℕ) → ltb 0 n ≡ true → Field (fixed meaning n)
fixed_field meaning n some = record { told = λ bytes e h. cut_told meaning (length bytes) n bytes e h; missing = rw some refl }
