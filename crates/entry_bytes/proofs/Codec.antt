-- A spelling and a reader that undo each other, and what is made of such pairs.
use Rattle.std.proofs.Common.{◌≡◌, ℕ, zero, suc, ◌+◌, ◌^◌, ◌<◌, ◌≤◌, Bool, true, false, cond, ltb, List, [], ◌∷◌, ◌++◌, length, get_or, take, drop, Option, Some, None, Result, Ok, Err, refl, sym, ap, subst, ◌∙◌, append_assoc, arith, inl, inr}
use Rattle.std.specs.List.{flat_map, AllByRecursion}
use Rattle.std.specs.Result.{result_ok}
use Rattle.std.specs.Int.{Width, w16, w32, w64, byte_len, from_be_bytes, to_be_bytes}
use Rattle.std.proofs.lemmas.Bool.{cases_lt, ltb-false, le-ltb, le-leb}
use Rattle.std.proofs.lemmas.Bool.Decides.{nat_tests}
use Rattle.std.proofs.lemmas.List.{take_at, drop_at, take-append-drop, length-append, length-take, get_or-drop, get_or-take, get_or_past}
use Rattle.std.proofs.lemmas.Nat.{be_bytes_2, be_bytes_4, be_bytes_8, from_be_bytes-to_be_bytes_2, from_be_bytes-to_be_bytes_4, from_be_bytes-to_be_bytes_8}
use Rattle.gs1_keys.specs.Keys.{is_between}
use Rattle.entry_bytes.specs.declared.fault.Stop.{Stop}
use Rattle.entry_bytes.specs.declared.fault.Stop.TheVariants.{Short, BadField}
use Rattle.entry_bytes.specs.Reading.{◌>>=◌, Reader, one, two, many, byte_at, number_at, ranged, meant, cut, fixed, listed}
use Rattle.entry_bytes.specs.Fields.{pair}
use Rattle.entry_bytes.specs.Spelling.{list_bytes}
use Rattle.entry_bytes.proofs.Full.{IsWithin, IsList}

abbrev pub IsBytes : List ℕ → Type 0
IsBytes bytes = (i : ℕ) → get_or bytes i 0 < 256

pub IsBytes-drop : (n : ℕ) (bytes : List ℕ) → IsBytes bytes → IsBytes (drop n bytes)
IsBytes-drop n bytes h i = rw get_or-drop (h (n + i))

IsBytes-take : (n : ℕ) (bytes : List ℕ) → IsBytes bytes → IsBytes (take n bytes)
IsBytes-take n bytes h i =
    elim (cases_lt i n) [
      | inl lt ↦ rw (get_or-take n bytes i 0 lt) (h i)
      | inr le ↦ rw (get_or_past (take n bytes) i 0 (omega (arith, length-take n bytes))) (omega arith)
    ]

-- the value of a step that did not fail
pub bind_ok : {A B : Type 0} (r : Result A Stop) (f : A → Result B Stop) (y : B) → (r >>= f) ≡ Ok y → (x : A) × (r ≡ Ok x) × (f x ≡ Ok y)
bind_ok (Ok x) f y e = (x, refl, e)
bind_ok (Err d) f y e = absurd cc

-- a test that did not fail
pub guard_ok : {A : Type 0} (b : Bool) (d : Stop) (x y : A) → cond b (Err d) (Ok x) ≡ Ok y → (b ≡ false) × (x ≡ y)
guard_ok true d x y e = absurd cc
guard_ok false d x y e = (refl, cc)

abbrev pub done : {A : Type 0} → A → Result A Stop
done x = Ok x

pub ok_is : {A : Type 0} (x y : A) → done x ≡ done y → x ≡ y
ok_is x y e = cc

-- what a reader took from the front
pub record Takes (bytes text rest : List ℕ) : Type 0 where
  pub parts : bytes ≡ text ++ rest
  pub rest_fits : IsBytes rest

pub Takes-then : (a x b y c : List ℕ) → Takes a x b → Takes b y c → Takes a (x ++ y) c
Takes-then a x b y c p q = record { parts = p.parts ∙ ap (λ (t : List ℕ). x ++ t) q.parts ∙ sym (append_assoc x y c); rest_fits = q.rest_fits }

-- ---- numbers

pub record IsWide (w : Width) (limit : ℕ) : Type 0 where
  pub len : (n : ℕ) → length (to_be_bytes w n) ≡ byte_len w
  pub back : (bytes : List ℕ) → length bytes ≡ byte_len w → IsBytes bytes → to_be_bytes w (from_be_bytes w bytes) ≡ bytes
  pub again : (n : ℕ) → n < limit → from_be_bytes w (to_be_bytes w n) ≡ n
  pub below : (bytes : List ℕ) → IsBytes bytes → from_be_bytes w bytes < limit

pub wide16 : IsWide w16 (2 ^ 16)
wide16 = record {
  len = λ n. refl;
  back = λ bytes len fits. be_bytes_2 bytes _ len fits refl;
  again = λ n lt. from_be_bytes-to_be_bytes_2 n lt;
  below = λ bytes fits. omega (arith, fits 0, fits 1);
}

pub wide32 : IsWide w32 (2 ^ 32)
wide32 = record {
  len = λ n. refl;
  back = λ bytes len fits. be_bytes_4 bytes _ len fits refl;
  again = λ n lt. from_be_bytes-to_be_bytes_4 n lt;
  below = λ bytes fits. omega (arith, fits 0, fits 1, fits 2, fits 3);
}

pub wide64 : IsWide w64 (2 ^ 64)
wide64 = record {
  len = λ n. refl;
  back = λ bytes len fits. be_bytes_8 bytes _ len fits refl;
  again = λ n lt. from_be_bytes-to_be_bytes_8 n lt;
  below = λ bytes fits. omega (arith, fits 0, fits 1, fits 2, fits 3, fits 4, fits 5, fits 6, fits 7);
}

pub number_takes : (w : Width) (limit : ℕ) (wide : IsWide w limit) (bytes : List ℕ) (n : ℕ) (rest : List ℕ) → IsBytes bytes → number_at w bytes ≡ Ok (n, rest) → Takes bytes (to_be_bytes w n) rest × (n < limit)
number_takes w limit wide bytes n rest fits e =
    let g = guard_ok (ltb (length bytes) (byte_len w)) (Short (length bytes)) (from_be_bytes w (take (byte_len w) bytes), drop (byte_len w) bytes) (n, rest) e in
    let long : byte_len w ≤ length bytes = ltb-false _ _ g.0 in
    let n-is : from_be_bytes w (take (byte_len w) bytes) ≡ n = ap (λ (p : ℕ × List ℕ). p.0) g.1 in
    let rest-is : drop (byte_len w) bytes ≡ rest = ap (λ (p : ℕ × List ℕ). p.1) g.1 in
    let front : to_be_bytes w n ≡ take (byte_len w) bytes = rw (← n-is) (wide.back (take (byte_len w) bytes) (omega (arith, length-take (byte_len w) bytes)) (IsBytes-take (byte_len w) bytes fits)) in
    (record { parts = rw (front, ← rest-is) (sym (take-append-drop (byte_len w) bytes)); rest_fits = rw (← rest-is) (IsBytes-drop (byte_len w) bytes fits) }, rw (← n-is) (wide.below (take (byte_len w) bytes) (IsBytes-take (byte_len w) bytes fits)))

pub number_again : (w : Width) (limit : ℕ) (wide : IsWide w limit) (n : ℕ) (rest : List ℕ) → n < limit → number_at w (to_be_bytes w n ++ rest) ≡ Ok (n, rest)
number_again w limit wide n rest lt =
    let len = wide.len n in
    let long : ltb (length (to_be_bytes w n ++ rest)) (byte_len w) ≡ false = le-ltb _ _ (omega (arith, length-append (to_be_bytes w n) rest)) in
    rw (long, take_at (to_be_bytes w n) rest (byte_len w) len, drop_at (to_be_bytes w n) rest (byte_len w) len, wide.again n lt) refl

-- ---- codecs

-- what is read is spelled so and fits, and what fits is read again
pub record Codec {X : Type 0} (spell : X → List ℕ) (Is : X → Type 0) (read : Reader X) : Type 0 where
  pub takes : (bytes : List ℕ) (x : X × List ℕ) → IsBytes bytes → read bytes ≡ Ok x → Takes bytes (spell x.0) x.1 × Is x.0
  pub again : (x : X) (rest : List ℕ) → Is x → read (spell x ++ rest) ≡ Ok (x, rest)

abbrev pub TakesBy : {X : Type 0} → (X → List ℕ) → (X → Type 0) → Reader X → Type 0
TakesBy {X} spell Is read = (bytes : List ℕ) (x : X × List ℕ) → IsBytes bytes → read bytes ≡ Ok x → Takes bytes (spell x.0) x.1 × Is x.0

pub IsBytes-rest : (b : ℕ) (bytes : List ℕ) → IsBytes (b ∷ bytes) → IsBytes bytes
IsBytes-rest b bytes h i = h (suc i)

abbrev pub single : ℕ → List ℕ
single b = b ∷ []

byte_takes : TakesBy single (λ b. b < 256) byte_at
byte_takes [] x fits e = absurd cc
byte_takes (b ∷ rest) x fits e =
    subst (λ (y : ℕ × List ℕ). Takes (b ∷ rest) (y.0 ∷ []) y.1 × (y.0 < 256)) (ok_is (b, rest) x e) (record { parts = refl; rest_fits = IsBytes-rest b rest fits }, fits 0)

pub byte_codec : Codec single (λ b. b < 256) byte_at
byte_codec = record { takes = byte_takes; again = λ b rest h. refl }

number_codec : (w : Width) (limit : ℕ) → IsWide w limit → Codec (to_be_bytes w) (λ n. n < limit) (number_at w)
number_codec w limit wide = record {
  takes = λ bytes x fits e. number_takes w limit wide bytes x.0 x.1 fits e;
  again = λ n rest lt. number_again w limit wide n rest lt;
}

pub number16 : Codec (to_be_bytes w16) (λ n. n < 2 ^ 16) (number_at w16)
number16 = number_codec w16 (2 ^ 16) wide16

pub number32 : Codec (to_be_bytes w32) (λ n. n < 2 ^ 32) (number_at w32)
number32 = number_codec w32 (2 ^ 32) wide32

pub number64 : Codec (to_be_bytes w64) (λ n. n < 2 ^ 64) (number_at w64)
number64 = number_codec w64 (2 ^ 64) wide64

-- a number in its range
in_range : (low high left : ℕ) (n x : ℕ × List ℕ) → cond (is_between low high n.0) (Ok n) (Err (BadField left)) ≡ Ok x → (n ≡ x) × IsWithin low high x.0
in_range low high left n x e = elim_range (is_between low high n.0) refl e
  where
    elim_range : (b : Bool) → is_between low high n.0 ≡ b → cond b (Ok n) (Err (BadField left)) ≡ Ok x → (n ≡ x) × IsWithin low high x.0
    elim_range true h e = let s : n ≡ x = cc in (s, subst (λ (y : ℕ × List ℕ). IsWithin low high y.0) s (grind (arith, nat_tests)))
    elim_range false h e = absurd cc

pub is_within : (low high n : ℕ) → low ≤ n → n ≤ high → is_between low high n ≡ true
is_within low high n l h = rw (le-leb low n l, le-leb n high h) refl

pub ranged_codec : {spell : ℕ → List ℕ} {Is : ℕ → Type 0} {number : Reader ℕ} (low high : ℕ) → ((n : ℕ) → n ≤ high → Is n) → Codec spell Is number → Codec spell (IsWithin low high) (ranged low high number)
ranged_codec {spell} {Is} {number} low high small codec = record {
  takes = λ bytes x fits e.
      let a = bind_ok (number bytes) (λ n. cond (is_between low high n.0) (Ok n) (Err (BadField (length bytes)))) x e in
      let r = in_range low high (length bytes) a.0 x a.2 in
      let t = codec.takes bytes a.0 fits a.1 in
      (subst (λ (y : ℕ × List ℕ). Takes bytes (spell y.0) y.1) r.0 t.0, r.1);
  again = λ n rest h. rw (codec.again n rest (small n h.1), is_within low high n h.0 h.1) refl;
}

-- ---- one field, two fields

pub one_takes : {X Y : Type 0} {p : X → List ℕ} {F : X → Type 0} {r : Reader X} (make : X → Y) (P : Y → List ℕ) (H : Y → Type 0) → Codec p F r → ((x : X) → P (make x) ≡ p x) → ((x : X) → F x → H (make x)) → TakesBy P H (one make r)
one_takes {X} {Y} {p} {F} {r} make P H first e h bytes z fits is =
    let a = bind_ok (r bytes) (λ x. Ok (make x.0, x.1)) z is in
    let t = first.takes bytes a.0 fits a.1 in
    let made : Y × List ℕ = (make a.0.0, a.0.1) in
    subst (λ (y : Y × List ℕ). Takes bytes (P y.0) y.1 × H y.0) (ok_is made z a.2) (subst (λ (w : List ℕ). Takes bytes w a.0.1) (sym (e a.0.0)) t.0, h a.0.0 t.1)

pub two_takes : {X Y Z : Type 0} {p : X → List ℕ} {F : X → Type 0} {r : Reader X} {q : Y → List ℕ} {G : Y → Type 0} {s : Reader Y} (make : X → Y → Z) (P : Z → List ℕ) (H : Z → Type 0) → Codec p F r → Codec q G s → ((x : X) (y : Y) → P (make x y) ≡ p x ++ q y) → ((x : X) (y : Y) → F x → G y → H (make x y)) → TakesBy P H (two make r s)
two_takes {X} {Y} {Z} {p} {F} {r} {q} {G} {s} make P H first second e h bytes z fits is =
    let a = bind_ok (r bytes) (λ x. s x.1 >>= λ y. Ok (make x.0 y.0, y.1)) z is in
    let b = bind_ok (s a.0.1) (λ y. Ok (make a.0.0 y.0, y.1)) z a.2 in
    let t0 = first.takes bytes a.0 fits a.1 in
    let t1 = second.takes a.0.1 b.0 t0.0.rest_fits b.1 in
    let both = Takes-then bytes (p a.0.0) a.0.1 (q b.0.0) b.0.1 t0.0 t1.0 in
    let made : Z × List ℕ = (make a.0.0 b.0.0, b.0.1) in
    subst (λ (y : Z × List ℕ). Takes bytes (P y.0) y.1 × H y.0) (ok_is made z b.2) (subst (λ (w : List ℕ). Takes bytes w b.0.1) (sym (e a.0.0 b.0.0)) both, h a.0.0 b.0.0 t0.1 t1.1)

pub one_again : {X Y : Type 0} {p : X → List ℕ} {F : X → Type 0} {r : Reader X} (make : X → Y) → Codec p F r → (x : X) (rest : List ℕ) → F x → one make r (p x ++ rest) ≡ Ok (make x, rest)
one_again {X} {Y} {p} {F} {r} make first x rest f = rw (first.again x rest f) refl

pub two_again : {X Y Z : Type 0} {p : X → List ℕ} {F : X → Type 0} {r : Reader X} {q : Y → List ℕ} {G : Y → Type 0} {s : Reader Y} (make : X → Y → Z) → Codec p F r → Codec q G s → (x : X) (y : Y) (rest : List ℕ) → F x → G y → two make r s ((p x ++ q y) ++ rest) ≡ Ok (make x y, rest)
two_again {X} {Y} {Z} {p} {F} {r} {q} {G} {s} make first second x y rest f g =
    ap (two make r s) (append_assoc (p x) (q y) rest) ∙ rw (first.again x (q y ++ rest) f, second.again y rest g) refl

-- a pair of fields
pub pair_codec : {X Y : Type 0} {p : X → List ℕ} {F : X → Type 0} {r : Reader X} {q : Y → List ℕ} {G : Y → Type 0} {s : Reader Y} → Codec p F r → Codec q G s → Codec (λ (z : X × Y). p z.0 ++ q z.1) (λ (z : X × Y). F z.0 × G z.1) (two pair r s)
pair_codec {X} {Y} {p} {F} {r} {q} {G} {s} first second = record {
  takes = two_takes pair (λ (z : X × Y). p z.0 ++ q z.1) (λ (z : X × Y). F z.0 × G z.1) first second (λ x y. refl) (λ x y f g. (f, g));
  again = λ z rest h. two_again pair first second z.0 z.1 rest h.0 h.1;
}

-- a record of fields: the first, and the others
pub two_codec : {X Y Z : Type 0} {p : X → List ℕ} {F : X → Type 0} {r : Reader X} {q : Y → List ℕ} {G : Y → Type 0} {s : Reader Y} (make : X → Y → Z) (first : Z → X) (others : Z → Y) → ((z : Z) → make (first z) (others z) ≡ z) → ((x : X) (y : Y) → first (make x y) ≡ x) → ((x : X) (y : Y) → others (make x y) ≡ y)
    → Codec p F r → Codec q G s → Codec (λ (z : Z). p (first z) ++ q (others z)) (λ (z : Z). F (first z) × G (others z)) (two make r s)
two_codec {X} {Y} {Z} {p} {F} {r} {q} {G} {s} make first others whole one_is two_is c d = record {
  takes = two_takes make (λ (z : Z). p (first z) ++ q (others z)) (λ (z : Z). F (first z) × G (others z)) c d (λ x y. rw (one_is x y, two_is x y) refl) (λ x y f g. (subst F (sym (one_is x y)) f, subst G (sym (two_is x y)) g));
  again = λ z rest h. two_again make c d (first z) (others z) rest h.0 h.1 ∙ ap (λ (w : Z). Ok (w, rest)) (whole z);
}

-- ---- lists

pub many_takes : {X : Type 0} {p : X → List ℕ} {F : X → Type 0} {r : Reader X} → Codec p F r → (n : ℕ) (bytes : List ℕ) (x : List X × List ℕ) → IsBytes bytes → many r n bytes ≡ Ok x → Takes bytes (flat_map p x.0) x.1 × (length x.0 ≡ n) × AllByRecursion F x.0
unfolding many
many_takes {X} {p} {F} {r} item zero bytes x fits e =
    subst (λ (y : List X × List ℕ). Takes bytes (flat_map p y.0) y.1 × (length y.0 ≡ 0) × AllByRecursion F y.0) (ok_is ([], bytes) x e) (record { parts = refl; rest_fits = fits }, refl, tt)
many_takes {X} {p} {F} {r} item (suc n) bytes x fits e =
    let a = bind_ok (r bytes) (λ first. many r n first.1 >>= λ others. Ok (first.0 ∷ others.0, others.1)) x e in
    let b = bind_ok (many r n a.0.1) (λ others. Ok (a.0.0 ∷ others.0, others.1)) x a.2 in
    let first = item.takes bytes a.0 fits a.1 in
    let second = many_takes item n a.0.1 b.0 first.0.rest_fits b.1 in
    let both = Takes-then bytes (p a.0.0) a.0.1 (flat_map p b.0.0) b.0.1 first.0 second.0 in
    let made : List X × List ℕ = (a.0.0 ∷ b.0.0, b.0.1) in
    subst (λ (y : List X × List ℕ). Takes bytes (flat_map p y.0) y.1 × (length y.0 ≡ suc n) × AllByRecursion F y.0) (ok_is made x b.2) (both, ap suc second.1, (first.1, second.2))

pub many_again : {X : Type 0} {p : X → List ℕ} {F : X → Type 0} {r : Reader X} → Codec p F r → (xs : List X) (rest : List ℕ) → AllByRecursion F xs → many r (length xs) (flat_map p xs ++ rest) ≡ Ok (xs, rest)
unfolding many
many_again item [] rest h = refl
many_again {X} {p} {F} {r} item (x ∷ xs) rest h =
    ap (many r (suc (length xs))) (append_assoc (p x) (flat_map p xs) rest) ∙ rw (item.again x (flat_map p xs ++ rest) h.0, many_again item xs rest h.1) refl

-- a list behind its number of items
pub counted_codec : {X : Type 0} {count : ℕ → List ℕ} {number : Reader ℕ} {p : X → List ℕ} {F : X → Type 0} {r : Reader X} (low most : ℕ) → Codec count (IsWithin low most) number → Codec p F r → Codec (λ (xs : List X). count (length xs) ++ flat_map p xs) (λ (xs : List X). IsWithin low most (length xs) × AllByRecursion F xs) (λ bytes. number bytes >>= λ n. many r n.0 n.1)
counted_codec {X} {count} {number} {p} {F} {r} low most counts item = record {
  takes = λ bytes x fits e.
      let a = bind_ok (number bytes) (λ n. many r n.0 n.1) x e in
      let t0 = counts.takes bytes a.0 fits a.1 in
      let t1 = many_takes item a.0.0 a.0.1 x t0.0.rest_fits a.2 in
      let both = Takes-then bytes (count a.0.0) a.0.1 (flat_map p x.0) x.1 t0.0 t1.0 in
      (subst (λ (n : ℕ). Takes bytes (count n ++ flat_map p x.0) x.1) (sym t1.1) both, (subst (λ (n : ℕ). IsWithin low most n) (sym t1.1) t0.1, t1.2));
  again = λ xs rest h. ap (λ bytes. number bytes >>= λ n. many r n.0 n.1) (append_assoc (count (length xs)) (flat_map p xs) rest) ∙ rw (counts.again (length xs) (flat_map p xs ++ rest) h.0) (many_again item xs rest h.1);
}

pub listed_codec : {X : Type 0} {p : X → List ℕ} {F : X → Type 0} {r : Reader X} (most : ℕ) → most < 2 ^ 16 → Codec p F r → Codec (list_bytes p) (IsList most F) (listed most r)
listed_codec {X} {p} {F} {r} most small item =
    let c = counted_codec 0 most (ranged_codec 0 most (λ n le. omega arith) number16) item in
    record {
      takes = λ bytes x fits e. let t = c.takes bytes x fits e in (t.0, (t.1.0.1, t.1.1));
      again = λ xs rest h. c.again xs rest ((omega arith, h.0), h.1);
    }

-- ---- bytes with a meaning

meant_is : (left : ℕ) (o : Option (List ℕ)) (rest : List ℕ) (x : List ℕ × List ℕ) → meant left o rest ≡ Ok x → (o ≡ Some x.0) × (rest ≡ x.1)
meant_is left None rest x e = absurd cc
meant_is left (Some y) rest x e = let s : (y, rest) ≡ x = ok_is (y, rest) x e in (ap (λ (z : List ℕ × List ℕ). Some z.0) s, ap (λ (z : List ℕ × List ℕ). z.1) s)

pub cut_takes : (meaning : List ℕ → Option (List ℕ)) (left n : ℕ) (bytes : List ℕ) (x : List ℕ × List ℕ) → cut meaning left n bytes ≡ Ok x → (meaning (take n bytes) ≡ Some x.0) × (drop n bytes ≡ x.1) × (length (take n bytes) ≡ n)
cut_takes meaning left n bytes x e = cut_by (ltb (length bytes) n) refl e
  where
    cut_by : (b : Bool) → ltb (length bytes) n ≡ b → cond b (Err (Short left)) (meant left (meaning (take n bytes)) (drop n bytes)) ≡ Ok x → (meaning (take n bytes) ≡ Some x.0) × (drop n bytes ≡ x.1) × (length (take n bytes) ≡ n)
    cut_by true h e = absurd cc
    cut_by false h e =
        let m = meant_is left (meaning (take n bytes)) (drop n bytes) x e in
        let le : n ≤ length bytes = ltb-false _ _ h in
        (m.0, m.1, omega (arith, length-take n bytes))

pub cut_again : (meaning : List ℕ → Option (List ℕ)) (left n : ℕ) (y rest : List ℕ) → length y ≡ n → meaning y ≡ Some y → cut meaning left n (y ++ rest) ≡ Ok (y, rest)
cut_again meaning left n y rest len e =
    let long : ltb (length (y ++ rest)) n ≡ false = le-ltb _ _ (omega (arith, length-append y rest)) in
    rw (long, take_at y rest n len, drop_at y rest n len, e) refl

abbrev pub same : List ℕ → List ℕ
same x = x

pub fixed_codec : {F : List ℕ → Type 0} (meaning : List ℕ → Option (List ℕ)) (n : ℕ) → ((x y : List ℕ) → length x ≡ n → meaning x ≡ Some y → (x ≡ y) × F y) → ((y : List ℕ) → F y → (meaning y ≡ Some y) × (length y ≡ n)) → Codec same F (fixed meaning n)
fixed_codec {F} meaning n there back = record {
  takes = λ bytes x fits e.
      let c = cut_takes meaning (length bytes) n bytes x e in
      let m = there (take n bytes) x.0 c.2 c.0 in
      (record { parts = sym (take-append-drop n bytes) ∙ ap (λ (w : List ℕ). w ++ drop n bytes) m.0 ∙ ap (λ (w : List ℕ). x.0 ++ w) c.1; rest_fits = subst IsBytes c.1 (IsBytes-drop n bytes fits) }, m.1);
  again = λ y rest f. let b = back y f in cut_again meaning (length (y ++ rest)) n y rest b.1 b.0;
}

pub ok_from : {E : Type 0} (r : Result (List ℕ) E) (y : List ℕ) → result_ok r ≡ Some y → r ≡ Ok y
ok_from (Ok x) y e = ap Ok (let s : x ≡ y = cc in s)
ok_from (Err e) y h = absurd cc

-- the same pair with what is kept said otherwise
pub codec_as : {X : Type 0} {p : X → List ℕ} {F G : X → Type 0} {r : Reader X} → Codec p F r → ((x : X) → F x → G x) → ((x : X) → G x → F x) → Codec p G r
codec_as {X} {p} {F} {G} {r} codec there back = record {
  takes = λ bytes x fits e. let t = codec.takes bytes x fits e in (t.0, there x.0 t.1);
  again = λ x rest g. codec.again x rest (back x g);
}
