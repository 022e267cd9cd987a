-- The weighted sum of digits, from the left.
use Rattle.std.proofs.Common.{◌≡◌, ℕ, suc, ◌+◌, ◌-◌, ◌*◌, ◌%◌, List, [], ◌∷◌, ◌++◌, length, reverse, refl, ap, ◌∙◌, arith}
use Rattle.std.specs.Prelude.{if◌then◌else◌, ◌==◌}
use Rattle.std.proofs.lemmas.Bool.Decides.{nat_tests}
use Rattle.std.proofs.lemmas.List.{length-map, length-reverse, reverse-append}
use Rattle.gs1_keys.specs.Keys.{alternating, values, weighted}

-- the weight of what stands behind so many
abbrev turn : ℕ → ℕ → ℕ → ℕ
turn a b n = if n % 2 == 0 then a else b

turn-suc : (a b n : ℕ) → turn b a n ≡ turn a b (suc n)
turn-suc a b n = grind (arith, nat_tests)

alternating-push : (a b : ℕ) (xs : List ℕ) (y : ℕ) → alternating a b (xs ++ y ∷ []) ≡ alternating a b xs + turn a b (length xs) * y
alternating-push a b [] y = omega arith
alternating-push a b (x ∷ xs) y =
    let others : alternating b a (xs ++ y ∷ []) ≡ alternating b a xs + turn a b (suc (length xs)) * y = alternating-push b a xs y ∙ ap (λ (w : ℕ). alternating b a xs + w * y) (turn-suc a b (length xs)) in
    omega (arith, others)

-- the weight of a digit in front of so many others
abbrev pub weight : ℕ → ℕ
weight others = turn 3 1 others

pub weighted-cons : (d : ℕ) (ds : List ℕ) → weighted (d ∷ ds) ≡ weight (length ds) * (d - 48) + weighted ds
weighted-cons d ds =
    let turned : reverse (values (d ∷ ds)) ≡ reverse (values ds) ++ (d - 48) ∷ [] = reverse-append ((d - 48) ∷ []) (values ds) in
    let len : length (reverse (values ds)) ≡ length ds = length-reverse (values ds) ∙ length-map ds (λ d. d - 48) in
    let pushed : weighted (d ∷ ds) ≡ weighted ds + weight (length ds) * (d - 48) = ap (alternating 3 1) turned ∙ alternating-push 3 1 (reverse (values ds)) (d - 48) ∙ ap (λ (n : ℕ). weighted ds + weight n * (d - 48)) len in
    omega (arith, pushed)

-- the same sum, from the left
abbrev pub from_left : List ℕ → ℕ
from_left [] = 0
from_left (d ∷ ds) = weight (length ds) * (d - 48) + from_left ds

pub weighted_from_left : (ds : List ℕ) → weighted ds ≡ from_left ds
weighted_from_left [] = refl
weighted_from_left (d ∷ ds) = weighted-cons d ds ∙ ap (λ (n : ℕ). weight (length ds) * (d - 48) + n) (weighted_from_left ds)
