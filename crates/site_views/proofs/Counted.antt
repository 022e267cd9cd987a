-- The units of a batch, counted from the newest on.
use Rattle.std.proofs.Common.{◌≡◌, ℕ, zero, suc, ◌+◌, ◌<◌, ◌≤◌, ◌&&◌, Bool, true, false, eqb, cond, List, [], ◌∷◌, length, take, map, get_or, Some, refl, sym, ap, ◌∙◌, arith}
use Rattle.std.specs.Prelude.{filter}
use Rattle.std.specs.List.{slice_get}
use Rattle.std.proofs.lemmas.List.{get_or-map, take_all}
use Rattle.std.proofs.lemmas.List.Filters.{length-filter_more}
use Rattle.std.proofs.lemmas.List.Sums.{length-filter, count_by-le-length}
use Rattle.std.proofs.lemmas.Option.{slice_get-get_or}
use Rattle.deed_words.specs.Chain.{holds_of}
use Rattle.deed_words.specs.declared.words.Level.TheVariants.{Case}
use Rattle.pack_tree.specs.declared.node.UnitRow.{UnitRow}
use Rattle.pack_tree.specs.Chains.{newest_below}
use Rattle.pack_tree.specs.Units.{batch_in, new_unit}
use Rattle.batch_book.proofs.Walked.{newest_step}

-- the unit at a place passes
abbrev pub passes : (UnitRow → Bool) → List UnitRow → ℕ → Bool
passes test units at = holds_of test (slice_get units at)

-- how many more, where one passes or doesn't
more : (p : ℕ → Bool) (n : ℕ) (ns : List ℕ) → length (filter p (n ∷ ns)) ≡ length (filter p ns) + cond (p n) 1 0
more p n ns = by (p n)
  where
    by : (b : Bool) → length (cond b (n ∷ filter p ns) (filter p ns)) ≡ length (filter p ns) + cond b 1 0
    by true = omega arith
    by false = omega arith

module _ (batch : ℕ) (test : UnitRow → Bool) (units : List UnitRow) where
  abbrev own : UnitRow → Bool
  own unit = eqb (batch_in unit) batch && test unit

  abbrev all : List ℕ
  all = map batch_in units

  -- the units of the batch below a place
  tally : (m : ℕ) → m ≤ length units → length (filter (passes test units) (newest_below batch all m)) ≡ length (filter own (take m units))
  unfolding holds_of
  tally zero h = refl
  tally (suc m) h =
      let d : UnitRow = new_unit [] 0 Case in
      let l : m < length units = omega (arith, h) in
      let there : slice_get units m ≡ Some (get_or units m d) = slice_get-get_or units m d l in
      let of_batch : get_or all m 0 ≡ batch_in (get_or units m d) = get_or-map batch_in units m d 0 l in
      let passed : passes test units m ≡ test (get_or units m d) = ap (holds_of test) there in
      let up : suc m ≡ m + 1 = omega arith in
      by (eqb (get_or all m 0) batch)
      ∙ (λ z. tally m (omega (arith, h)) z + cond (eqb (of_batch z) batch && passed z) 1 0)
      ∙ sym (length-filter_more own units m d l)
      ∙ ap (λ (k : ℕ). length (filter own (take k units))) (sym up)
    where
      by : (b : Bool) → length (filter (passes test units) (cond b (m ∷ newest_below batch all m) (newest_below batch all m))) ≡ length (filter (passes test units) (newest_below batch all m)) + cond (b && passes test units m) 1 0
      by true = more (passes test units) m (newest_below batch all m)
      by false = omega arith

-- what is left of the walk, and how many passed so far
pub record IsCounted (batch : ℕ) (test : UnitRow → Bool) (units : List UnitRow) (rest : List ℕ) (count : ℕ) : Type 0 where
  pub below : ℕ
  pub within : below ≤ length units
  pub rest_is : rest ≡ newest_below batch (map batch_in units) below
  pub counted : count + length (filter (passes test units) rest) ≡ length (filter (λ unit. eqb (batch_in unit) batch && test unit) units)

pub begins : (batch : ℕ) (test : UnitRow → Bool) (units : List UnitRow) (rest : List ℕ) → rest ≡ newest_below batch (map batch_in units) (length units) → IsCounted batch test units rest 0
begins batch test units rest e =
    let all_of : length (filter (passes test units) rest) ≡ length (filter (own batch test units) units) =
    ap (λ (ns : List ℕ). length (filter (passes test units) ns)) e
    ∙ tally batch test units (length units) (omega arith)
    ∙ ap (λ (us : List UnitRow). length (filter (own batch test units) us)) (take_all (length units) units (omega arith)) in
    record { below = length units; within = omega arith; rest_is = e; counted = omega (arith, all_of) }

pub is_there : (batch : ℕ) (test : UnitRow → Bool) (units : List UnitRow) (n : ℕ) (ns : List ℕ) (count : ℕ) → IsCounted batch test units (n ∷ ns) count → n < length units
is_there batch test units n ns count w = omega (arith, w.within, (newest_step batch (map batch_in units) w.below n ns (sym w.rest_is)).0)

module _ (batch : ℕ) (test : UnitRow → Bool) (units : List UnitRow) (n : ℕ) (ns : List ℕ) (count : ℕ) (unit : UnitRow) (w : IsCounted batch test units (n ∷ ns) count) (there : slice_get units n ≡ Some unit) where
  counts : length (filter (passes test units) (n ∷ ns)) ≡ length (filter (passes test units) ns) + cond (test unit) 1 0
  unfolding holds_of
  counts = more (passes test units) n ns ∙ ap (λ (o : _). length (filter (passes test units) ns) + cond (holds_of test o) 1 0) there

  pub one_more : test unit ≡ true → IsCounted batch test units ns (count + 1)
  one_more t =
      let s = newest_step batch (map batch_in units) w.below n ns (sym w.rest_is) in
      let c = counts ∙ ap (λ (b : Bool). length (filter (passes test units) ns) + cond b 1 0) t in
      record { below = n; within = omega (arith, w.within, s.0); rest_is = s.2; counted = omega (arith, w.counted, c) }

  pub none_more : test unit ≡ false → IsCounted batch test units ns count
  none_more t =
      let s = newest_step batch (map batch_in units) w.below n ns (sym w.rest_is) in
      let c = counts ∙ ap (λ (b : Bool). length (filter (passes test units) ns) + cond b 1 0) t in
      record { below = n; within = omega (arith, w.within, s.0); rest_is = s.2; counted = omega (arith, w.counted, c) }

-- so many fit
pub fits : (batch : ℕ) (test : UnitRow → Bool) (units : List UnitRow) (ns : List ℕ) (count : ℕ) → IsCounted batch test units ns count → count ≤ length units
fits batch test units ns count w = omega (arith, w.counted, length-filter (own batch test units) units, count_by-le-length (own batch test units) units)

pub ends : (batch : ℕ) (test : UnitRow → Bool) (units : List UnitRow) (rest : List ℕ) (count : ℕ) → IsCounted batch test units rest count → rest ≡ [] → count ≡ length (filter (own batch test units) units)
ends batch test units rest count w e =
    let none : length (filter (passes test units) rest) ≡ 0 = ap (λ (ns : List ℕ). length (filter (passes test units) ns)) e in
    omega (arith, w.counted, none)
