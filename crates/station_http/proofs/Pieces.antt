-- A piece that is taken behind what is pending.
use Rattle.std.proofs.Common.{◌≡◌, ◌+◌, ◌-◌, ◌≤◌, ℕ, List, ◌++◌, length, drop, take, sym, refl, ap, ◌∙◌, arith}
use Rattle.std.specs.Prelude.{slice_range}
use Rattle.std.specs.List.{copy_within}
use Rattle.std.proofs.lemmas.List.{take-append-drop, take-take, drop-take, take_at, length-take-le, length-drop, drop-drop, drop_at}
use Rattle.std.proofs.lemmas.Slice.{between_from_start, between_is}

pub take-plus : (m n : ℕ) (zs : List ℕ) → take (m + n) zs ≡ take m zs ++ take n (drop m zs)
take-plus m n zs =
    let le : m ≤ m + n = omega arith in
    sym (take-append-drop m (take (m + n) zs)) ∙ ap (λ (a : List ℕ). a ++ drop m (take (m + n) zs)) (take-take m (m + n) zs le) ∙ ap (λ (a : List ℕ). take m zs ++ a) (drop-take m n zs)

-- what stands at the front after it was moved there
moved_front : (xs : List ℕ) (s e : ℕ) → s ≤ e → e ≤ length xs → take (e - s) (copy_within xs s e 0) ≡ slice_range xs s e
moved_front xs s e le within =
    let fits : length (take (e - s) (drop s xs)) ≡ e - s = length-take-le (e - s) (drop s xs) (omega (arith, length-drop s xs)) in
    take_at (take (e - s) (drop s xs)) (drop (0 + (e - s)) xs) (e - s) fits

-- the pending bytes, and behind them those that were taken
pub filled : (xs ys zs : List ℕ) (s e n : ℕ) → s ≤ e → e ≤ length xs → ys ≡ copy_within xs s e 0 → take (e - s) zs ≡ take (e - s) ys
    → slice_range zs 0 (e - s + n) ≡ slice_range xs s e ++ take n (drop (e - s) zs)
filled xs ys zs s e n le within moved same =
    between_from_start zs (e - s + n) ∙ take-plus (e - s) n zs
    ∙ ap (λ (a : List ℕ). a ++ take n (drop (e - s) zs)) (same ∙ ap (take (e - s)) moved ∙ moved_front xs s e le within)

-- a part of a part
pub drop-slice_range : (xs : List ℕ) (i j m : ℕ) → drop m (slice_range xs i j) ≡ slice_range xs (i + m) j
drop-slice_range xs i j m = ap (drop m) (between_is xs i j) ∙ drop-drop m i (take j xs) ∙ sym (between_is xs (i + m) j)

pub length_part : (xs : List ℕ) (i j : ℕ) → j ≤ length xs → length (slice_range xs i j) ≡ j - i
length_part xs i j within = length-take-le (j - i) (drop i xs) (omega (arith, length-drop i xs))

pub part_is : (xs : List ℕ) (i j k : ℕ) → k ≤ j - i → slice_range xs i (i + k) ≡ take k (slice_range xs i j)
part_is xs i j k le =
    let e : i + k - i ≡ k = omega arith in
    ap (λ (m : ℕ). take m (drop i xs)) e ∙ sym (take-take k (j - i) (drop i xs) le)

-- the front of a list that is joined, beyond its first part
pub take_over : (n : ℕ) (xs ys : List ℕ) → length xs ≤ n → take n (xs ++ ys) ≡ xs ++ take (n - length xs) ys
take_over n xs ys le =
    let e : n ≡ length xs + (n - length xs) = omega arith in
    ap (λ (m : ℕ). take m (xs ++ ys)) e ∙ take-plus (length xs) (n - length xs) (xs ++ ys)
    ∙ ap (λ (a : List ℕ). a ++ take (n - length xs) (drop (length xs) (xs ++ ys))) (take_at xs ys (length xs) refl)
    ∙ ap (λ (a : List ℕ). xs ++ take (n - length xs) a) (drop_at xs ys (length xs) refl)
