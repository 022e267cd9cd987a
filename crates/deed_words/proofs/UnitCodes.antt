-- Container codes differ.
use Rattle.std.proofs.Common.{◌≡◌, ℕ, zero, suc, ◌+◌, ◌-◌, ◌*◌, ◌/◌, ◌%◌, ◌^◌, ◌≤◌, ◌<◌, false, List, [], ◌∷◌, ◌++◌, length, map, sym, refl, subst, arith}
use Rattle.std.specs.List.{AllByRecursion as Every, IsDistinct}
use Rattle.std.proofs.lemmas.List.{map-append}
use Rattle.std.proofs.lemmas.Bool.{false_from_ne_true}
use Rattle.std.proofs.lemmas.Map.Keys.{IsDistinct-push}
use Rattle.deed_words.specs.Names.{Text, same}
use Rattle.gs1_keys.specs.Keys.{issue, digits_of, unchecked}
use Rattle.deed_words.specs.Setups.{Setup, reference_bound, code_of}
use Rattle.deed_words.specs.declared.world.Container.{Container}
use Rattle.deed_words.specs.Chain.{numbers_below}
use Rattle.deed_words.specs.World.{World}
use Rattle.deed_words.specs.Sound.{IsSound}
use Rattle.deed_words.proofs.Sameness.{same-true, same_equiv}
use Rattle.deed_words.proofs.Items.{Every-append, Every-weaker, Every-map, none_like}
use Rattle.std.proofs.Math.Nat.{pow-suc}

pub last_apart : {A : Type 0} (xs ys : List A) (x y : A) → xs ++ x ∷ [] ≡ ys ++ y ∷ [] → (xs ≡ ys) × (x ≡ y)
last_apart [] [] x y e = (refl, cc)
last_apart [] (b ∷ []) x y e = absurd (cc)
last_apart [] (b ∷ c ∷ ys) x y e = absurd (cc)
last_apart (a ∷ []) [] x y e = absurd (cc)
last_apart (a ∷ c ∷ xs) [] x y e = absurd (cc)
last_apart {A} (a ∷ xs) (b ∷ ys) x y e =
    let tails : xs ++ x ∷ [] ≡ ys ++ y ∷ [] = cc in
    let heads : a ≡ b = cc in
    let p = last_apart xs ys x y tails in
    let l : xs ≡ ys = p.0 in
    let m : x ≡ y = p.1 in
    (cc, m)

front_apart : {A : Type 0} (xs a b : List A) → xs ++ a ≡ xs ++ b → a ≡ b
front_apart [] a b e = e
front_apart (x ∷ xs) a b e = let t : xs ++ a ≡ xs ++ b = cc in front_apart xs a b t

digits_apart : (k a b : ℕ) → a < 10 ^ k → b < 10 ^ k → digits_of k a ≡ digits_of k b → a ≡ b
digits_apart zero a b la lb e = let la' : a < 1 = la in let lb' : b < 1 = lb in omega arith
digits_apart (suc k) a b la lb e =
    let p = last_apart (digits_of k (a / 10)) (digits_of k (b / 10)) (a % 10 + 48) (b % 10 + 48) e in
    let power : 10 ^ suc k ≡ 10 ^ k * 10 = pow-suc 10 k in
    let qa : a / 10 < 10 ^ k = omega (arith, power) in
    let qb : b / 10 < 10 ^ k = omega (arith, power) in
    let q : a / 10 ≡ b / 10 = digits_apart k (a / 10) (b / 10) qa qb p.0 in
    let r : a % 10 + 48 ≡ b % 10 + 48 = p.1 in
    omega arith

pub code_apart : (site : Setup) (i j : ℕ) → site.reference + i < reference_bound site → site.reference + j < reference_bound site → code_of site i ≡ code_of site j → i ≡ j
unfolding code_of issue reference_bound
code_apart site i j li lj e =
    let k : ℕ = 16 - length site.prefix in
    let front : Text = (site.extension + 48) ∷ site.prefix in
    let p = last_apart (unchecked site.prefix site.extension (site.reference + i)) (unchecked site.prefix site.extension (site.reference + j)) _ _ e in
    let d : site.reference + i ≡ site.reference + j = digits_apart k (site.reference + i) (site.reference + j) li lj (front_apart front _ _ p.0) in
    omega arith

below : (n : ℕ) → Every (λ i. i < n) (numbers_below n)
unfolding numbers_below
below zero = tt
below (suc n) = Every-append (λ i. i < suc n) (numbers_below n) (n ∷ []) (Every-weaker (λ i. i < n) (λ i. i < suc n) (λ i h. omega arith) (numbers_below n) (below n)) (omega arith, tt)

pub codes_differ : (site : Setup) (n : ℕ) → site.reference + n ≤ reference_bound site → IsDistinct same (map (code_of site) (numbers_below n))
unfolding numbers_below IsDistinct
codes_differ site zero le = tt
codes_differ site (suc n) le =
    let apart : Every (λ i. same (code_of site n) (code_of site i) ≡ false) (numbers_below n) =
    Every-weaker (λ i. i < n) (λ i. same (code_of site n) (code_of site i) ≡ false)
    (λ i h. false_from_ne_true (same (code_of site n) (code_of site i)) (λ t. let e : n ≡ i = code_apart site n i (omega arith) (omega arith) (same-true (code_of site n) (code_of site i) t) in absurd (omega arith)))
    (numbers_below n) (below n) in
    subst (IsDistinct same) (sym (map-append (code_of site) (numbers_below n) (n ∷ [])))
    (IsDistinct-push same_equiv (map (code_of site) (numbers_below n)) (code_of site n) (codes_differ site n (omega arith)) (none_like same (code_of site n) (map (code_of site) (numbers_below n)) (Every-map (λ (c : Text). same (code_of site n) c ≡ false) (code_of site) (numbers_below n) apart)))

-- the units of a sound world have codes that differ
pub units_differ : (site : Setup) (w : World) → IsSound site w → IsDistinct same (map (λ (u : Container). u.sscc) w.units)
units_differ site w s = subst (IsDistinct same) (sym s.issued) (codes_differ site (length w.units) s.in_range)
