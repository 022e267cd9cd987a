-- Requests by their places.
use Rattle.std.proofs.Common.{◌≡◌, ◌<◌, ◌≤◌, ◌+◌, ◌-◌, ◌*◌, ◌/◌, ◌%◌, ◌∙◌, ℕ, zero, suc, List, [], ◌∷◌, ◌++◌, length, map, Some, None, refl, sym, ap, subst, arith}
use Rattle.std.specs.Prelude.{option_map}
use Rattle.std.specs.List.{slice_get, flat_map}
use Rattle.std.proofs.lemmas.Option.{slice_get-map, slice_get-get_or, slice_get_past}
use Rattle.std.proofs.lemmas.List.FromFn.{length-range_with_len, get_or-range_with_len, length-map-range_with_len}
use Rattle.site_sim.specs.declared.request.Request.{Request}
use Rattle.site_sim.specs.declared.request.Request.TheVariants.{Draw, Lend, Commission, Make, PackItems, PackCases, Seal}
use Rattle.deed_words.specs.declared.words.Level.TheVariants.{Case, Pallet}
use Rattle.site_sim.specs.Requests.{below, part_count, part_at, case_count, case_requests, pallet_requests, ending, from_pallets, from_cases, from_codes, from_lends, from_draws}

get_front : {X : Type 0} (xs ys : List X) (at : ℕ) → at < length xs → slice_get (xs ++ ys) at ≡ slice_get xs at
get_front [] ys at less = absurd (omega (arith, less))
get_front (x ∷ xs) ys zero less = refl
get_front (x ∷ xs) ys (suc at) less = get_front xs ys at (omega (arith, less))

get_behind : {X : Type 0} (xs ys : List X) (at : ℕ) → length xs ≤ at → slice_get (xs ++ ys) at ≡ slice_get ys (at - length xs)
get_behind [] ys at le = ap (slice_get ys) (omega arith)
get_behind (x ∷ xs) ys zero le = absurd (omega (arith, le))
get_behind (x ∷ xs) ys (suc at) le = get_behind xs ys at (omega (arith, le)) ∙ ap (slice_get ys) (omega arith)

below_at : (n k : ℕ) → k < n → slice_get (below n) k ≡ Some k
below_at n k less =
    let long = length-range_with_len 0 n in
    slice_get-get_or (below n) k 0 (omega (arith, less, long)) ∙ ap (λ (x : ℕ). Some x) (get_or-range_with_len 0 n k 0 less ∙ omega arith)

-- one for each number
mapped_there : (f : ℕ → Request) (n at : ℕ) (rest : List Request) → at < n → slice_get (map f (below n) ++ rest) at ≡ Some (f at)
mapped_there f n at rest less =
    let long = length-map-range_with_len f 0 n in
    get_front (map f (below n)) rest at (omega (arith, less, long)) ∙ slice_get-map f (below n) at ∙ ap (option_map f) (below_at n at less)

mapped_over : (f : ℕ → Request) (n at : ℕ) (rest : List Request) → n ≤ at → slice_get (map f (below n) ++ rest) at ≡ slice_get rest (at - n)
mapped_over f n at rest le =
    let long = length-map-range_with_len f 0 n in
    get_behind (map f (below n)) rest at (omega (arith, le, long)) ∙ ap (λ (m : ℕ). slice_get rest (at - m)) long

-- three for each number
abbrev three : (ℕ → Request) → (ℕ → Request) → (ℕ → Request) → ℕ → List Request
three a b c x = a x ∷ b x ∷ c x ∷ []

three_at : (a b c : ℕ → Request) (xs : List ℕ) (rest : List Request) (k j at x : ℕ) → slice_get xs k ≡ Some x → j < 3 → at ≡ 3 * k + j → slice_get (flat_map (three a b c) xs ++ rest) at ≡ slice_get (three a b c x) j
three_at a b c [] rest k j at x is less e = absurd (cc)
three_at a b c (y ∷ ys) rest zero zero at x is less e =
    let at_is : at ≡ 0 = omega (arith, e) in
    let same : y ≡ x = cc in
    subst (λ (n : ℕ). slice_get (flat_map (three a b c) (y ∷ ys) ++ rest) n ≡ Some (a x)) (sym at_is) (ap (λ (z : ℕ). Some (a z)) same)
three_at a b c (y ∷ ys) rest zero (suc zero) at x is less e =
    let at_is : at ≡ 1 = omega (arith, e) in
    let same : y ≡ x = cc in
    subst (λ (n : ℕ). slice_get (flat_map (three a b c) (y ∷ ys) ++ rest) n ≡ Some (b x)) (sym at_is) (ap (λ (z : ℕ). Some (b z)) same)
three_at a b c (y ∷ ys) rest zero (suc (suc zero)) at x is less e =
    let at_is : at ≡ 2 = omega (arith, e) in
    let same : y ≡ x = cc in
    subst (λ (n : ℕ). slice_get (flat_map (three a b c) (y ∷ ys) ++ rest) n ≡ Some (c x)) (sym at_is) (ap (λ (z : ℕ). Some (c z)) same)
three_at a b c (y ∷ ys) rest zero (suc (suc (suc j))) at x is less e = absurd (omega (arith, less))
three_at a b c (y ∷ ys) rest (suc k) j at x is less e =
    let at_is : at ≡ suc (suc (suc (3 * k + j))) = omega (arith, e) in
    subst (λ (n : ℕ). slice_get (flat_map (three a b c) (y ∷ ys) ++ rest) n ≡ slice_get (three a b c x) j) (sym at_is) (three_at a b c ys rest k j (3 * k + j) x is less refl)

three_over : (a b c : ℕ → Request) (xs : List ℕ) (rest : List Request) (at : ℕ) → 3 * length xs ≤ at → slice_get (flat_map (three a b c) xs ++ rest) at ≡ slice_get rest (at - 3 * length xs)
three_over a b c [] rest at le = ap (slice_get rest) (omega arith)
three_over a b c (y ∷ ys) rest zero le = absurd (omega (arith, le))
three_over a b c (y ∷ ys) rest (suc zero) le = absurd (omega (arith, le))
three_over a b c (y ∷ ys) rest (suc (suc zero)) le = absurd (omega (arith, le))
three_over a b c (y ∷ ys) rest (suc (suc (suc at))) le =
    let same : at - 3 * length ys ≡ suc (suc (suc at)) - 3 * suc (length ys) = omega arith in
    three_over a b c ys rest at (omega (arith, le)) ∙ ap (slice_get rest) same

-- ---- by stages

pub draw_there : (count at : ℕ) → at < part_count count 10000 → slice_get (from_draws count) at ≡ Some (Draw (part_at count 10000 at).size)
unfolding from_draws
draw_there count at less = mapped_there (λ k. Draw (part_at count 10000 k).size) (part_count count 10000) at (from_lends count) less

pub draws_over : (count at : ℕ) → part_count count 10000 ≤ at → slice_get (from_draws count) at ≡ slice_get (from_lends count) (at - part_count count 10000)
unfolding from_draws
draws_over count at le = mapped_over (λ k. Draw (part_at count 10000 k).size) (part_count count 10000) at (from_lends count) le

pub lend_there : (count at : ℕ) → at < part_count count 10000 → slice_get (from_lends count) at ≡ Some (Lend (part_at count 10000 at).size)
unfolding from_lends
lend_there count at less = mapped_there (λ k. Lend (part_at count 10000 k).size) (part_count count 10000) at (from_codes count) less

pub lends_over : (count at : ℕ) → part_count count 10000 ≤ at → slice_get (from_lends count) at ≡ slice_get (from_codes count) (at - part_count count 10000)
unfolding from_lends
lends_over count at le = mapped_over (λ k. Lend (part_at count 10000 k).size) (part_count count 10000) at (from_codes count) le

pub code_there : (count at : ℕ) → at < part_count count 1000 → slice_get (from_codes count) at ≡ Some (Commission (part_at count 1000 at))
unfolding from_codes
code_there count at less = mapped_there (λ k. Commission (part_at count 1000 k)) (part_count count 1000) at (from_cases count) less

pub codes_over : (count at : ℕ) → part_count count 1000 ≤ at → slice_get (from_codes count) at ≡ slice_get (from_cases count) (at - part_count count 1000)
unfolding from_codes
codes_over count at le = mapped_over (λ k. Commission (part_at count 1000 k)) (part_count count 1000) at (from_cases count) le

pub case_there : (count at : ℕ) → at < 3 * case_count count → slice_get (from_cases count) at ≡ slice_get (case_requests count (at / 3)) (at % 3)
unfolding from_cases
case_there count at less =
    three_at (λ k. Make Case) (λ k. PackItems k (part_at count 50 k)) (λ k. Seal k) (below (case_count count)) (from_pallets count) (at / 3) (at % 3) at (at / 3)
    (below_at (case_count count) (at / 3) (omega (arith, less))) (omega arith) (omega arith)

pub cases_over : (count at : ℕ) → 3 * case_count count ≤ at → slice_get (from_cases count) at ≡ slice_get (from_pallets count) (at - 3 * case_count count)
unfolding from_cases
cases_over count at le =
    let long = length-range_with_len 0 (case_count count) in
    three_over (λ k. Make Case) (λ k. PackItems k (part_at count 50 k)) (λ k. Seal k) (below (case_count count)) (from_pallets count) at (omega (arith, le, long))
    ∙ ap (λ (n : ℕ). slice_get (from_pallets count) (at - 3 * n)) long

pub pallet_there : (count at : ℕ) → at < 3 * part_count (case_count count) 20 → slice_get (from_pallets count) at ≡ slice_get (pallet_requests count (at / 3)) (at % 3)
unfolding from_pallets
pallet_there count at less =
    three_at (λ k. Make Pallet) (λ k. PackCases (case_count count + k) (part_at (case_count count) 20 k)) (λ k. Seal (case_count count + k)) (below (part_count (case_count count) 20)) (ending count) (at / 3) (at % 3) at (at / 3)
    (below_at (part_count (case_count count) 20) (at / 3) (omega (arith, less))) (omega arith) (omega arith)

pub pallets_over : (count at : ℕ) → 3 * part_count (case_count count) 20 ≤ at → slice_get (from_pallets count) at ≡ slice_get (ending count) (at - 3 * part_count (case_count count) 20)
unfolding from_pallets
pallets_over count at le =
    let long = length-range_with_len 0 (part_count (case_count count) 20) in
    three_over (λ k. Make Pallet) (λ k. PackCases (case_count count + k) (part_at (case_count count) 20 k)) (λ k. Seal (case_count count + k)) (below (part_count (case_count count) 20)) (ending count) at (omega (arith, le, long))
    ∙ ap (λ (n : ℕ). slice_get (ending count) (at - 3 * n)) long

-- behind two others, or past both
pub behind_two : (a b : Request) (rest : List Request) (at : ℕ) → 2 ≤ at → slice_get (a ∷ b ∷ rest) at ≡ slice_get rest (at - 2)
behind_two a b rest zero le = absurd (omega (arith, le))
behind_two a b rest (suc zero) le = absurd (omega (arith, le))
behind_two a b rest (suc (suc at)) le = ap (slice_get rest) (omega arith)

pub past_two : (a b : Request) (at : ℕ) → 2 ≤ at → slice_get (a ∷ b ∷ []) at ≡ None
past_two a b at le = slice_get_past (a ∷ b ∷ []) at le
