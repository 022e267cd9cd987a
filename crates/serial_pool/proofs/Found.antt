-- Serials that are found by their hashes.
use Rattle.std.proofs.Common.{◌≡◌, ℕ, zero, suc, ◌+◌, ◌-◌, ◌<◌, ◌≤◌, Bool, true, false, cond, List, [], ◌∷◌, ◌++◌, length, get_or, take, refl, sym, ap, ap₂, ◌∙◌, subst, arith, true≢false}
use Rattle.std.specs.Prelude.{map, filter, bytes_eq, All, ◌||◌, ◌&&◌}
use Rattle.std.proofs.lemmas.List.{length-map, get_or-map, length-take-le, length-append, take-map, take_at}
use Rattle.std.proofs.lemmas.List.Elements.{All-head, All-tail}
use Rattle.std.proofs.lemmas.Slice.Eq.{bytes_eq-Decides}
use Rattle.gs1_keys.specs.Forms.{is_among}
use Rattle.place_table.specs.Hash.{text_hash, pair_hash}
use Rattle.serial_pool.specs.declared.drawn.DrawnSerial.{DrawnSerial}
use Rattle.serial_pool.specs.Held.{had_of}
use Rattle.serial_pool.specs.Index.{hash_in}

or_true : (a b : Bool) → b ≡ true → (a || b) ≡ true
or_true true b e = refl
or_true false b e = e

-- a serial that stands at a place is among them
pub stands_among : (serials : List (List ℕ)) (at : ℕ) (d serial : List ℕ) → at < length serials → bytes_eq serial (get_or serials at d) ≡ true → is_among serials serial ≡ true
stands_among [] at d serial lt e = absurd (omega arith)
stands_among (s ∷ serials) zero d serial lt e = rw e refl
stands_among (s ∷ serials) (suc at) d serial lt e = or_true (bytes_eq serial s) (is_among serials serial) (stands_among serials at d serial (omega arith) e)

pub nowhere_among : (serials : List (List ℕ)) (serial : List ℕ) → All (λ other. bytes_eq serial other ≡ false) serials → is_among serials serial ≡ false
nowhere_among [] serial none = refl
nowhere_among (s ∷ serials) serial none =
    let apart : bytes_eq serial s ≡ false = All-head (λ (o : List ℕ). bytes_eq serial o ≡ false) s serials none in
    rw apart (nowhere_among serials serial (All-tail (λ (o : List ℕ). bytes_eq serial o ≡ false) s serials none))

-- the places with another hash have another serial
pub text_apart : (serials : List (List ℕ)) (hashes : List ℕ) (serial : List ℕ) (hash : ℕ) → hashes ≡ map text_hash serials → hash ≡ text_hash serial
    → ((k : ℕ) → k < length hashes → get_or hashes k 0 ≡ hash → (d : List ℕ) → bytes_eq serial (get_or serials k d) ≡ false) → All (λ other. bytes_eq serial other ≡ false) serials
text_apart serials hashes serial hash e f absent = λ k d lt.
    let size : length hashes ≡ length serials = ap (λ (xs : List ℕ). length xs) e ∙ length-map serials text_hash in
    let here : get_or hashes k 0 ≡ text_hash (get_or serials k d) = ap (λ (xs : List ℕ). get_or xs k 0) e ∙ get_or-map text_hash serials k d 0 lt in
    (elim (bytes_eq serial (get_or serials k d)) as (λ b. bytes_eq serial (get_or serials k d) ≡ b → b ≡ false) [
      | true ↦ λ same. sym same ∙ absent k (omega (arith, size, lt)) (here ∙ ap text_hash (sym ((bytes_eq-Decides serial (get_or serials k d)).0 same)) ∙ sym f) d
      | false ↦ λ same. refl
    ]) refl

-- ---- serials with their GTINs

-- the pair at a place is of the GTIN and has the serial
pub pair_among : (pairs : List DrawnSerial) (at : ℕ) (d : DrawnSerial) (gtin serial : List ℕ) → at < length pairs → (bytes_eq gtin (get_or pairs at d).gtin && bytes_eq serial (get_or pairs at d).serial) ≡ true → is_among (had_of gtin pairs) serial ≡ true
pair_among [] at d gtin serial lt e = absurd (omega arith)
pair_among (p ∷ pairs) zero d gtin serial lt e = (elim (bytes_eq gtin p.gtin) as (λ b. (b && bytes_eq serial p.serial) ≡ true → is_among (map (λ (q : DrawnSerial). q.serial) (cond b (p ∷ filter (λ (q : DrawnSerial). bytes_eq gtin q.gtin) pairs) (filter (λ (q : DrawnSerial). bytes_eq gtin q.gtin) pairs))) serial ≡ true) [
  | true ↦ λ f. rw f refl
  | false ↦ λ f. absurd (true≢false (sym f))
]) e
pair_among (p ∷ pairs) (suc at) d gtin serial lt e =
    let rest = pair_among pairs at d gtin serial (omega arith) e in
    elim (bytes_eq gtin p.gtin) as (λ b. is_among (map (λ (q : DrawnSerial). q.serial) (cond b (p ∷ filter (λ (q : DrawnSerial). bytes_eq gtin q.gtin) pairs) (filter (λ (q : DrawnSerial). bytes_eq gtin q.gtin) pairs))) serial ≡ true) [
      | true ↦ or_true (bytes_eq serial p.serial) (is_among (had_of gtin pairs) serial) rest
      | false ↦ rest
    ]

pub pair_nowhere : (pairs : List DrawnSerial) (gtin serial : List ℕ) → All (λ pair. (bytes_eq gtin pair.gtin && bytes_eq serial pair.serial) ≡ false) pairs → is_among (had_of gtin pairs) serial ≡ false
pair_nowhere [] gtin serial none = refl
pair_nowhere (p ∷ pairs) gtin serial none =
    let P : DrawnSerial → Type 0 = λ q. (bytes_eq gtin q.gtin && bytes_eq serial q.serial) ≡ false in
    let rest = pair_nowhere pairs gtin serial (All-tail P p pairs none) in
    (elim (bytes_eq gtin p.gtin) as (λ b. (b && bytes_eq serial p.serial) ≡ false → is_among (map (λ (q : DrawnSerial). q.serial) (cond b (p ∷ filter (λ (q : DrawnSerial). bytes_eq gtin q.gtin) pairs) (filter (λ (q : DrawnSerial). bytes_eq gtin q.gtin) pairs))) serial ≡ false) [
      | true ↦ λ f. rw f rest
      | false ↦ λ f. rest
    ]) (All-head P p pairs none)

both_true : (a b : Bool) → (a && b) ≡ true → (a ≡ true) × (b ≡ true)
both_true true true e = (refl, refl)
both_true true false e = absurd (true≢false (sym e))
both_true false b e = absurd (true≢false (sym e))

pub pair_apart : (pairs : List DrawnSerial) (hashes : List ℕ) (gtin serial : List ℕ) (hash : ℕ) → hashes ≡ map hash_in pairs → hash ≡ pair_hash gtin serial
    → ((k : ℕ) → k < length hashes → get_or hashes k 0 ≡ hash → (d : DrawnSerial) → (bytes_eq gtin (get_or pairs k d).gtin && bytes_eq serial (get_or pairs k d).serial) ≡ false)
    → All (λ pair. (bytes_eq gtin pair.gtin && bytes_eq serial pair.serial) ≡ false) pairs
pair_apart pairs hashes gtin serial hash e f absent = λ k d lt.
    let pair : DrawnSerial = get_or pairs k d in
    let size : length hashes ≡ length pairs = ap (λ (xs : List ℕ). length xs) e ∙ length-map pairs hash_in in
    let here : get_or hashes k 0 ≡ hash_in pair = ap (λ (xs : List ℕ). get_or xs k 0) e ∙ get_or-map hash_in pairs k d 0 lt in
    (elim (bytes_eq gtin pair.gtin && bytes_eq serial pair.serial) as (λ b. (bytes_eq gtin pair.gtin && bytes_eq serial pair.serial) ≡ b → b ≡ false) [
      | true ↦ λ same. let both = both_true (bytes_eq gtin pair.gtin) (bytes_eq serial pair.serial) same in
          sym same ∙ absent k (omega (arith, size, lt)) (here ∙ sym (ap₂ pair_hash ((bytes_eq-Decides gtin pair.gtin).0 both.0) ((bytes_eq-Decides serial pair.serial).0 both.1)) ∙ sym f) d
      | false ↦ λ same. refl
    ]) refl

-- ---- one serial less

take_none : {A : Type 0} (n : ℕ) → let none : List A = [] in take n none ≡ none
take_none zero = refl
take_none (suc n) = refl

take_shorter : {A : Type 0} (xs : List A) (m n : ℕ) → m ≤ n → take m (take n xs) ≡ take m xs
take_shorter {A} [] m n le = ap (λ (ys : List A). take m ys) (take_none n)
take_shorter (x ∷ xs) zero n le = refl
take_shorter (x ∷ xs) (suc m) zero le = absurd (omega arith)
take_shorter (x ∷ xs) (suc m) (suc n) le = ap (λ ys. x ∷ ys) (take_shorter xs m n (omega arith))

pub cut_more : (all now next : List DrawnSerial) (i : ℕ) → now ≡ take (length all - i) all → i < length all → next ≡ take (length now - 1) now → next ≡ take (length all - (i + 1)) all
cut_more all now next i e lt f =
    let size : length now ≡ length all - i = ap length e ∙ length-take-le (length all - i) all (omega arith) in
    f ∙ ap (take (length now - 1)) e ∙ take_shorter all (length now - 1) (length all - i) (omega (arith, size)) ∙ ap (λ n. take n all) (let z : length now - 1 ≡ length all - (i + 1) = omega (arith, size) in z)

-- all but the last one
pub front_is : (now next : List DrawnSerial) (last : DrawnSerial) → now ≡ next ++ last ∷ [] → next ≡ take (length now - 1) now
front_is now next last e =
    let size : length now ≡ length next + 1 = ap length e ∙ length-append next (last ∷ []) in
    sym (ap (take (length now - 1)) e ∙ take_at next (last ∷ []) (length now - 1) (omega (arith, size)))

pub cut_hashes : (now next : List DrawnSerial) (hashes new : List ℕ) → hashes ≡ map hash_in now → new ≡ take (length hashes - 1) hashes → next ≡ take (length now - 1) now → new ≡ map hash_in next
cut_hashes now next hashes new e f g =
    let size : length hashes ≡ length now = ap (λ (xs : List ℕ). length xs) e ∙ length-map now hash_in in
    f ∙ ap₂ (λ (n : ℕ) (xs : List ℕ). take (n - 1) xs) size e ∙ take-map hash_in (length now - 1) now ∙ ap (map hash_in) (sym g)
