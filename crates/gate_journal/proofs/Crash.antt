-- What a crash leaves in each of the two steps of an append.
use Rattle.std.proofs.Common.{◌≡◌, ◌≢◌, inl, inr, ℕ, ◌+◌, ◌<◌, ◌≤◌, List, [], ◌∷◌, ◌++◌, length, get_or, take, drop, Option, Some, None, Result, Ok, Err, OnErr, refl, sym, ◌∙◌, ap, subst, arith, append_assoc, length-append, take-append-drop}
use Rattle.std.proofs.lemmas.List.{take_at, drop_at, drop_more, length-take-le}
use Rattle.std.proofs.lemmas.Bool.{cases_eq}
use Rattle.outside.specs.Disks.{Torn, overwritten, Together, Follows, Only, NoMoreImages}
use Rattle.gate_journal.specs.Gates.{IsShut, EndsAt, HalfOpen, WithOrWithout, EachImage, Reaches}

-- where the new content is told, the old one was
pub before_step : (step : List ℕ → List ℕ → Type 0) (old new : Option (List ℕ)) (c : List ℕ) → Together step old new → new ≡ Some c → (d : List ℕ) × (old ≡ Some d) × step d c
before_step step None None c both is = absurd (cc)
before_step step None (Some new) c both is = absurd both
before_step step (Some old) None c both is = absurd both
before_step step (Some old) (Some new) c both is = let same : new ≡ c = cc in (old, refl, subst (λ (l : List ℕ). step old l) same both)

-- a closed gate
pub record Gate (rest : List ℕ) : Type 0 where
  pub gate : ℕ
  pub after : List ℕ
  pub shut : gate ≢ 1
  pub whole : rest ≡ gate ∷ after

pub gate_of : (rest : List ℕ) → IsShut rest → Gate rest
gate_of [] shut = absurd shut
gate_of (gate ∷ after) shut = record { gate = gate; after = after; shut = shut; whole = refl }

pub reaches : (front c : List ℕ) → EndsAt front c → length front < length c
reaches front c ends =
    let at = gate_of ends.rest ends.shut in
    let long : length c ≡ length front + length ends.rest = ap length ends.whole ∙ length-append front ends.rest in
    let some : length ends.rest ≡ length (at.gate ∷ at.after) = ap length at.whole in
    omega (arith, long, some)

-- the closed gate stands in each outcome of the first write
pub torn_behind : (end n : ℕ) (front d c : List ℕ) → end ≡ length front → EndsAt front d → Torn (end + 1) n d c → EndsAt front c
torn_behind end n front d c place ends torn =
    let at = gate_of ends.rest ends.shut in
    let split : d ≡ (front ++ at.gate ∷ []) ++ at.after = ends.whole ∙ ap (λ (l : List ℕ). front ++ l) at.whole ∙ sym (append_assoc front (at.gate ∷ []) at.after) in
    let long : length (front ++ at.gate ∷ []) ≡ end + 1 = omega (arith, place, length-append front (at.gate ∷ [])) in
    let kept : take (end + 1) c ≡ front ++ at.gate ∷ [] = torn.before ∙ ap (λ (l : List ℕ). take (end + 1) l) split ∙ take_at (front ++ at.gate ∷ []) at.after (end + 1) long in
    record {
      rest = at.gate ∷ drop (end + 1) c;
      shut = at.shut;
      whole = sym (take-append-drop (end + 1) c) ∙ ap (λ (l : List ℕ). l ++ drop (end + 1) c) kept ∙ append_assoc front (at.gate ∷ []) (drop (end + 1) c);
    }

-- the block stands whole behind a closed gate
pub written_behind : (end : ℕ) (front block d c : List ℕ) → end ≡ length front → EndsAt front d → c ≡ overwritten (end + 1) (block ++ 0 ∷ []) d → HalfOpen front block c
written_behind end front block d c place ends written =
    let at = gate_of ends.rest ends.shut in
    let split : d ≡ (front ++ at.gate ∷ []) ++ at.after = ends.whole ∙ ap (λ (l : List ℕ). front ++ l) at.whole ∙ sym (append_assoc front (at.gate ∷ []) at.after) in
    let long : length (front ++ at.gate ∷ []) ≡ end + 1 = omega (arith, place, length-append front (at.gate ∷ [])) in
    let kept : take (end + 1) d ≡ front ++ at.gate ∷ [] = ap (λ (l : List ℕ). take (end + 1) l) split ∙ take_at (front ++ at.gate ∷ []) at.after (end + 1) long in
    let tail = drop (end + 1 + length (block ++ 0 ∷ [])) d in
    let regroup : ((front ++ at.gate ∷ []) ++ (block ++ 0 ∷ [])) ++ tail ≡ (front ++ at.gate ∷ block) ++ (0 ∷ tail) = simp append_assoc in
    record {
      gate = at.gate;
      ends = record {
        rest = 0 ∷ tail;
        shut = λ is. absurd (omega arith);
        whole = written ∙ ap (λ (l : List ℕ). (l ++ (block ++ 0 ∷ [])) ++ tail) kept ∙ regroup;
      };
    }

-- a block between its gates, taken apart
half_split : (front block d : List ℕ) (half : HalfOpen front block d) → d ≡ front ++ (half.gate ∷ (block ++ half.ends.rest))
half_split front block d half = half.ends.whole ∙ append_assoc front (half.gate ∷ block) half.ends.rest

pub half_reaches : (front block d : List ℕ) → HalfOpen front block d → length front < length d
half_reaches front block d half =
    omega (arith, ap length (half_split front block d half), length-append front (half.gate ∷ (block ++ half.ends.rest)))

half_front : (end : ℕ) (front block d : List ℕ) (half : HalfOpen front block d) → end ≡ length front → take end d ≡ front
half_front end front block d half place =
    ap (λ (l : List ℕ). take end l) (half_split front block d half) ∙ take_at front (half.gate ∷ (block ++ half.ends.rest)) end (sym place)

half_back : (end : ℕ) (front block d : List ℕ) (half : HalfOpen front block d) → end ≡ length front → drop (end + 1) d ≡ block ++ half.ends.rest
half_back end front block d half place =
    ap (λ (l : List ℕ). drop (end + 1) l) (half_split front block d half ∙ sym (append_assoc front (half.gate ∷ []) (block ++ half.ends.rest)))
    ∙ drop_at (front ++ half.gate ∷ []) (block ++ half.ends.rest) (end + 1) (omega (arith, place, length-append front (half.gate ∷ [])))

-- the block stands whole in each outcome of the second write
pub torn_gate : (end : ℕ) (front block d c : List ℕ) → end ≡ length front → HalfOpen front block d → Torn end 1 d c → HalfOpen front block c
torn_gate end front block d c place half torn =
    let gate = get_or c end 0 in
    let long : end < length c = omega (arith, torn.no_shorter, place, half_reaches front block d half) in
    let rest : drop end c ≡ gate ∷ (block ++ half.ends.rest) = drop_more c end 0 long ∙ ap (λ (l : List ℕ). gate ∷ l) (torn.after ∙ half_back end front block d half place) in
    record {
      gate = gate;
      ends = record {
        rest = half.ends.rest;
        shut = half.ends.shut;
        whole = sym (take-append-drop end c) ∙ ap (λ (l : List ℕ). l ++ drop end c) (torn.before ∙ half_front end front block d half place) ∙ ap (λ (l : List ℕ). front ++ l) rest
            ∙ sym (append_assoc front (gate ∷ block) half.ends.rest);
      };
    }

-- the open gate
pub written_gate : (end : ℕ) (front block d c : List ℕ) → end ≡ length front → HalfOpen front block d → c ≡ overwritten end (1 ∷ []) d → EndsAt (front ++ 1 ∷ block) c
written_gate end front block d c place half written =
    let regroup : (front ++ 1 ∷ []) ++ (block ++ half.ends.rest) ≡ (front ++ 1 ∷ block) ++ half.ends.rest = simp append_assoc in
    record {
      rest = half.ends.rest;
      shut = half.ends.shut;
      whole = written ∙ ap (λ (l : List ℕ). (l ++ 1 ∷ []) ++ drop (end + 1) d) (half_front end front block d half place)
          ∙ ap (λ (l : List ℕ). (front ++ 1 ∷ []) ++ l) (half_back end front block d half place) ∙ regroup;
    }

pub opened_half : (front block c : List ℕ) → EndsAt (front ++ 1 ∷ block) c → HalfOpen front block c
opened_half front block c ends = record { gate = 1; ends = ends }

-- a whole block behind any gate counts or it doesn't
pub either : (front block c : List ℕ) → HalfOpen front block c → WithOrWithout front block c
either front block c half = elim (cases_eq half.gate 1) [
  | inl is ↦ inr (subst (λ (n : ℕ). EndsAt (front ++ n ∷ block) c) is half.ends)
  | inr shut ↦ inl (record { rest = half.gate ∷ (block ++ half.ends.rest); shut = shut; whole = half_split front block c half })
]

pub on_err : {T E Q : Type 0} (r : Result T E) → Q → OnErr r Q
on_err (Ok x) q = tt
on_err (Err e) q = q

module _ {D : Type 0} (image : D → List ℕ → Type 0) (content : D → Option (List ℕ)) (as_read : (d : D) (c : List ℕ) → content d ≡ Some c → image d c) where
  -- the first write, as images follow
  pub stage_torn : (old new : D) (end n : ℕ) (front : List ℕ) → Follows (Torn (end + 1) n) (image old) (image new) → EachImage (image old) end front (EndsAt front) → EachImage (image new) end front (EndsAt front)
  stage_torn old new end n front follows at c left =
      let from = follows c left in
      let was = at from.0 from.1 in
      (was.0, torn_behind end n front from.0 c was.0 was.1 from.2)

  -- after its sync
  pub stage_synced : (old mid new : D) (end : ℕ) (front block body : List ℕ) → body ≡ block ++ 0 ∷ [] → Together (λ d c. c ≡ overwritten (end + 1) body d) (content old) (content mid)
      → Only (content mid) (image new) → EachImage (image old) end front (EndsAt front) → EachImage (image new) end front (HalfOpen front block)
  stage_synced old mid new end front block body is both only at c left =
      let from = before_step (λ d c. c ≡ overwritten (end + 1) body d) (content old) (content mid) c both (only c left) in
      let was = at from.0 (as_read old from.0 from.1) in
      (was.0, written_behind end front block from.0 c was.0 was.1 (from.2 ∙ ap (λ (l : List ℕ). overwritten (end + 1) l from.0) is))

  pub open_torn : (old new : D) (end : ℕ) (front block : List ℕ) → Follows (Torn end 1) (image old) (image new) → EachImage (image old) end front (HalfOpen front block) → EachImage (image new) end front (HalfOpen front block)
  open_torn old new end front block follows at c left =
      let from = follows c left in
      let was = at from.0 from.1 in
      (was.0, torn_gate end front block from.0 c was.0 was.1 from.2)

  pub open_synced : (old mid new : D) (end : ℕ) (front block : List ℕ) → Together (λ d c. c ≡ overwritten end (1 ∷ []) d) (content old) (content mid)
      → Only (content mid) (image new) → EachImage (image old) end front (HalfOpen front block) → EachImage (image new) end front (EndsAt (front ++ 1 ∷ block))
  open_synced old mid new end front block both only at c left =
      let from = before_step (λ d c. c ≡ overwritten end (1 ∷ []) d) (content old) (content mid) c both (only c left) in
      let was = at from.0 (as_read old from.0 from.1) in
      (was.0, written_gate end front block from.0 c was.0 was.1 from.2)

  pub no_more : (old new : D) (end : ℕ) (front : List ℕ) (P : List ℕ → Type 0) → NoMoreImages (image old) (image new) → EachImage (image old) end front P → EachImage (image new) end front P
  no_more old new end front P fewer at c left = at c (fewer c left)

-- what is written is there
pub long_enough : (at : ℕ) (piece d c : List ℕ) → at ≤ length d → c ≡ overwritten at piece d → at + length piece ≤ length c
long_enough at piece d c le written =
    let whole = written ∙ append_assoc (take at d) piece (drop (at + length piece) d) in
    omega (arith, ap length whole, length-append (take at d) (piece ++ drop (at + length piece) d), length-append piece (drop (at + length piece) d), length-take-le at d le)

pub stage_reaches : {D : Type 0} (image : D → List ℕ → Type 0) (content : D → Option (List ℕ)) (as_read : (d : D) (c : List ℕ) → content d ≡ Some c → image d c)
    (old mid new : D) (end : ℕ) (body : List ℕ) → Together (λ d c. c ≡ overwritten (end + 1) body d) (content old) (content mid)
    → Only (content mid) (image new) → Reaches (image old) end → Reaches (image new) (end + length body)
stage_reaches image content as_read old mid new end body both only there c left =
    let from = before_step (λ d c. c ≡ overwritten (end + 1) body d) (content old) (content mid) c both (only c left) in
    let was : end < length from.0 = there from.0 (as_read old from.0 from.1) in
    let long : end + 1 + length body ≤ length c = long_enough (end + 1) body from.0 c (omega arith) from.2 in
    omega arith
