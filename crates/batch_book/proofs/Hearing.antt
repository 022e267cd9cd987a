-- Declarations added and taken back, and walked in their order.
use Rattle.std.proofs.Common.{◌≡◌, ℕ, zero, suc, ◌+◌, ◌-◌, ◌<◌, ◌≤◌, ◌&&◌, Bool, true, false, cond, List, [], ◌∷◌, ◌++◌, length, take, get_or, Some, None, refl, sym, ap, ◌∙◌, arith}
use Rattle.std.specs.Prelude.{find, reverse, option_map}
use Rattle.std.proofs.lemmas.Bool.{eq-eqb}
use Rattle.std.proofs.lemmas.List.{length_push, map_push, get_or-map, take_at, take_more, take_all, reverse-append}
use borrow.Author.Tests.{eqb-true}
use native.Mathlib.Decide.{dec_lt}
use Rattle.row_chains.specs.Chains.{Grouped}
use Rattle.batch_book.specs.declared.row.DeclarationRow.{DeclarationRow}
use Rattle.batch_book.specs.Said.{batch_in, batches, is_by, IsReached, declared, declared_last, numbers_in, last_by}
use Rattle.batch_book.specs.Ledgers.{AreHeard}
use Rattle.batch_book.proofs.Lists.{false_by}

pub heard_none : (said : List DeclarationRow) (chains : Grouped) (capacity : ℕ) → said ≡ [] → chains.groups ≡ [] → AreHeard said chains capacity 0
heard_none said chains capacity e g =
    let n : length said ≡ 0 = ap (λ (xs : List DeclarationRow). length xs) e in
    record {
      grouped = g ∙ sym (ap batches e);
      chained = omega arith;
      reserved = omega (arith, n);
      few = omega (arith, n);
    }

pub heard_push : (said new : List DeclarationRow) (row : DeclarationRow) (chains longer : Grouped) (capacity room spare left : ℕ) → AreHeard said chains capacity spare
    → new ≡ said ++ row ∷ [] → longer.groups ≡ chains.groups ++ row.batch ∷ [] → longer.room + 1 ≡ chains.room → room ≡ capacity → left + 1 ≡ spare → AreHeard new longer room left
heard_push said new row chains longer capacity room spare left s e g q c l =
    let m : length new ≡ length said + 1 = ap (λ (xs : List DeclarationRow). length xs) e ∙ length_push said row in
    record {
      grouped = g ∙ ap (λ gs. gs ++ row.batch ∷ []) s.grouped ∙ sym (map_push batch_in said row) ∙ ap batches (sym e);
      chained = omega (arith, s.chained);
      reserved = omega (arith, s.reserved);
      few = omega (arith, s.few);
    }

pub heard_pop : (said new : List DeclarationRow) (row : DeclarationRow) (chains shorter : Grouped) (capacity room spare left : ℕ) → AreHeard said chains capacity spare
    → said ≡ new ++ row ∷ [] → shorter.groups ≡ take (length chains.groups - 1) chains.groups → shorter.room ≡ chains.room + 1 → room ≡ capacity → left ≡ spare + 1 → AreHeard new shorter room left
heard_pop said new row chains shorter capacity room spare left s e g q c l =
    let m : length said ≡ length new + 1 = ap (λ (xs : List DeclarationRow). length xs) e ∙ length_push new row in
    let gs : chains.groups ≡ batches new ++ row.batch ∷ [] = s.grouped ∙ ap batches e ∙ map_push batch_in new row in
    let k : length chains.groups - 1 ≡ length (batches new) = omega (arith, ap (λ (xs : List ℕ). length xs) gs, length_push (batches new) row.batch) in
    record {
      grouped = g ∙ ap (λ xs. take (length chains.groups - 1) xs) gs ∙ take_at (batches new) (row.batch ∷ []) _ (sym k);
      chained = omega (arith, s.chained);
      reserved = omega (arith, s.reserved);
      few = omega (arith, s.few);
    }

-- ---- the last one that passes, as far as a walk has come
module _ {A : Type 0} (test : A → Bool) where
  reversed_more : (xs : List A) (at : ℕ) (d : A) → at < length xs → reverse (take (at + 1) xs) ≡ get_or xs at d ∷ reverse (take at xs)
  reversed_more xs at d l = ap (λ (ys : List A). reverse ys) (take_more xs at d l) ∙ reverse-append (take at xs) (get_or xs at d ∷ [])

  pub last_more : (xs : List A) (at : ℕ) (d : A) → at < length xs → find test (reverse (take (at + 1) xs)) ≡ cond (test (get_or xs at d)) (Some (get_or xs at d)) (find test (reverse (take at xs)))
  last_more xs at d l = ap (find test) (reversed_more xs at d l)

  -- those that are passed over don't pass the test
  pub last_over : (xs : List A) (from skip : ℕ) → ((i : ℕ) (d : A) → from ≤ i → i < from + skip → i < length xs → test (get_or xs i d) ≡ false) → find test (reverse (take (from + skip) xs)) ≡ find test (reverse (take from xs))
  last_over xs from zero none = let e : from + 0 ≡ from = omega arith in ap (λ n. find test (reverse (take n xs))) e
  last_over xs from (suc skip) none = elim (dec_lt (from + skip) (length xs)) [
    | yes l ↦
        let d : A = some xs (omega (arith, l)) in
        let e : from + suc skip ≡ from + skip + 1 = omega arith in
        ap (λ n. find test (reverse (take n xs))) e ∙ last_more xs (from + skip) d l
        ∙ ap (λ b. cond b (Some (get_or xs (from + skip) d)) (find test (reverse (take (from + skip) xs)))) (none (from + skip) d (omega arith) (omega arith) l)
        ∙ last_over xs from skip (λ i d p q m. none i d p (omega (arith, q)) m)
    | no l ↦
        ap (λ (ys : List A). find test (reverse ys)) (take_all (from + suc skip) xs (omega (arith, l)) ∙ sym (take_all (from + skip) xs (omega (arith, l))))
        ∙ last_over xs from skip (λ i d p q m. none i d p (omega (arith, q)) m)
  ]
    where
      some : (xs : List A) → 0 < length xs → A
      some [] l = absurd (omega (arith, l))
      some (x ∷ xs) l = x

left_true : (a b : Bool) → (a && b) ≡ true → a ≡ true
left_true true b e = refl
left_true false b e = e

-- what is passed over is of other batches
other_batch : (said : List DeclarationRow) (batch line from next : ℕ) → IsReached (batches said) from batch next → (i : ℕ) (d : DeclarationRow) → from ≤ i → i < next → i < length said → is_by batch line (get_or said i d) ≡ false
other_batch said batch line from next x i d l m q = false_by _ (λ t. x.none i l m (get_or-map batch_in said i d 0 q ∙ eqb-true _ _ (left_true _ _ t)))

pub last_reached : (said : List DeclarationRow) (batch line from next : ℕ) → IsReached (batches said) from batch next → find (is_by batch line) (reverse (take next said)) ≡ find (is_by batch line) (reverse (take from said))
last_reached said batch line from next x =
    let e : next ≡ from + (next - from) = omega (arith, x.later) in
    let f : from + (next - from) ≡ next = sym e in
    ap (λ n. find (is_by batch line) (reverse (take n said))) e
    ∙ last_over (is_by batch line) said from (next - from) (λ i d p q m. other_batch said batch line from next x i d p (omega (arith, q, f)) m)

pub last_none : (said : List DeclarationRow) (batch line : ℕ) → find (is_by batch line) (reverse (take 0 said)) ≡ None
last_none said batch line = refl

-- ---- the declaration that came last
said_last : (said : List DeclarationRow) (row : DeclarationRow) (batch line : ℕ) → last_by batch line (said ++ row ∷ []) ≡ cond (is_by batch line row) (Some row) (last_by batch line said)
said_last said row batch line = ap (find (is_by batch line)) (reverse-append said (row ∷ []))

pub own_last : (said : List DeclarationRow) (batch line good spoiled returned : ℕ) → declared_last batch line (said ++ declared batch line (good ∷ spoiled ∷ returned ∷ []) ∷ []) ≡ Some (good ∷ spoiled ∷ returned ∷ [])
own_last said batch line good spoiled returned =
    let row : DeclarationRow = declared batch line (good ∷ spoiled ∷ returned ∷ []) in
    ap (option_map numbers_in) (said_last said row batch line)
    ∙ (λ z. option_map numbers_in (cond (eq-eqb batch batch refl z && eq-eqb line line refl z) (Some row) (last_by batch line said)))

pub other_last : (said : List DeclarationRow) (row : DeclarationRow) (batch line : ℕ) → is_by batch line row ≡ false → declared_last batch line (said ++ row ∷ []) ≡ declared_last batch line said
other_last said row batch line e =
    ap (option_map numbers_in) (said_last said row batch line ∙ ap (λ b. cond b (Some row) (last_by batch line said)) e)
