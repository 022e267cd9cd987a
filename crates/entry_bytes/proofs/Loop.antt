-- Reading items one after the other, as a loop does.
use Rattle.std.proofs.Common.{◌≡◌, ◌⊎◌, ℕ, suc, ◌-◌, ◌+◌, ◌≤◌, ◌<◌, List, [], ◌∷◌, ◌++◌, Result, Ok, Err, refl, sym, ap, ◌∙◌, append_assoc, arith, inl, inr}
use Rattle.std.proofs.lemmas.List.{append-nil}
use Rattle.entry_bytes.specs.declared.fault.Stop.{Stop}
use Rattle.entry_bytes.specs.declared.fault.Stop.TheVariants.{Memory}
use Rattle.entry_bytes.specs.Reading.{◌>>=◌, Reader, many, many_after}

-- what was read before, and what is still read
abbrev pub with_front : {X : Type 0} → List X → Result (List X × List ℕ) Stop → Result (List X × List ℕ) Stop
with_front front read = read >>= λ x. Ok (front ++ x.0, x.1)

regroup : {X : Type 0} (front : List X) (x : X) (read : Result (List X × List ℕ) Stop) → with_front front (read >>= λ xs. Ok (x ∷ xs.0, xs.1)) ≡ with_front (front ++ x ∷ []) read
regroup {X} front x (Ok xs) = ap (λ (ys : List X). Ok (ys, xs.1)) (simp append_assoc)
regroup front x (Err e) = refl

pub goes_on : {X : Type 0} (item : Reader X) (front : List X) (count i : ℕ) (bytes : List ℕ) (x : X) (after : List ℕ) (total : Result (List X × List ℕ) Stop) → i < count → item bytes ≡ Ok (x, after)
    → with_front front (many item (count - i) bytes) ≡ total → with_front (front ++ x ∷ []) (many item (count - (i + 1)) after) ≡ total
unfolding many
goes_on {X} item front count i bytes x after total lt h so_far =
    let k : count - i ≡ suc (count - (i + 1)) = omega arith in
    let one : with_front front (many item (count - i) bytes) ≡ with_front (front ++ x ∷ []) (many item (count - (i + 1)) after) = rw (k, h) (regroup front x (many item (count - (i + 1)) after)) in
    sym one ∙ so_far

pub ends : {X : Type 0} (item : Reader X) (front : List X) (count i : ℕ) (bytes : List ℕ) (e : Stop) (total : Result (List X × List ℕ) Stop) → i < count → item bytes ≡ Err e
    → with_front front (many item (count - i) bytes) ≡ total → total ≡ Err e
unfolding many
ends {X} item front count i bytes e total lt h so_far =
    let k : count - i ≡ suc (count - (i + 1)) = omega arith in
    let one : with_front front (many item (count - i) bytes) ≡ Err e = rw (k, h) refl in
    sym so_far ∙ one

pub is_done : {X : Type 0} (item : Reader X) (front : List X) (count i : ℕ) (bytes : List ℕ) (total : Result (List X × List ℕ) Stop) → count ≤ i → with_front front (many item (count - i) bytes) ≡ total → total ≡ Ok (front, bytes)
unfolding many
is_done {X} item front count i bytes total le so_far =
    let k : count - i ≡ 0 = omega arith in
    let one : with_front front (many item (count - i) bytes) ≡ Ok (front, bytes) = rw k (ap (λ (xs : List X). Ok (xs, bytes)) (append-nil front)) in
    sym so_far ∙ one

pub ends_due : {X : Type 0} (item : Reader X) (front : List X) (count i : ℕ) (bytes : List ℕ) (e : Stop) (total : Result (List X × List ℕ) Stop) → i < count → (e ≡ Memory) ⊎ (item bytes ≡ Err e)
    → with_front front (many item (count - i) bytes) ≡ total → (e ≡ Memory) ⊎ (total ≡ Err e)
ends_due {X} item front count i bytes e total lt (inl m) so_far = inl m
ends_due {X} item front count i bytes e total lt (inr h) so_far = inr (ends item front count i bytes e total lt h so_far)

-- ---- the same where each item depends on those before it

pub goes_on_after : {X : Type 0} (item : List X → Reader X) (front : List X) (count i : ℕ) (bytes : List ℕ) (x : X) (after : List ℕ) (total : Result (List X × List ℕ) Stop) → i < count → item front bytes ≡ Ok (x, after)
    → with_front front (many_after item front (count - i) bytes) ≡ total → with_front (front ++ x ∷ []) (many_after item (front ++ x ∷ []) (count - (i + 1)) after) ≡ total
unfolding many_after
goes_on_after {X} item front count i bytes x after total lt h so_far =
    let k : count - i ≡ suc (count - (i + 1)) = omega arith in
    let one : with_front front (many_after item front (count - i) bytes) ≡ with_front (front ++ x ∷ []) (many_after item (front ++ x ∷ []) (count - (i + 1)) after) = rw (k, h) (regroup front x (many_after item (front ++ x ∷ []) (count - (i + 1)) after)) in
    sym one ∙ so_far

pub ends_after : {X : Type 0} (item : List X → Reader X) (front : List X) (count i : ℕ) (bytes : List ℕ) (e : Stop) (total : Result (List X × List ℕ) Stop) → i < count → item front bytes ≡ Err e
    → with_front front (many_after item front (count - i) bytes) ≡ total → total ≡ Err e
unfolding many_after
ends_after {X} item front count i bytes e total lt h so_far =
    let k : count - i ≡ suc (count - (i + 1)) = omega arith in
    let one : with_front front (many_after item front (count - i) bytes) ≡ Err e = rw (k, h) refl in
    sym so_far ∙ one

pub is_done_after : {X : Type 0} (item : List X → Reader X) (front : List X) (count i : ℕ) (bytes : List ℕ) (total : Result (List X × List ℕ) Stop) → count ≤ i → with_front front (many_after item front (count - i) bytes) ≡ total → total ≡ Ok (front, bytes)
unfolding many_after
is_done_after {X} item front count i bytes total le so_far =
    let k : count - i ≡ 0 = omega arith in
    let one : with_front front (many_after item front (count - i) bytes) ≡ Ok (front, bytes) = rw k (ap (λ (xs : List X). Ok (xs, bytes)) (append-nil front)) in
    sym so_far ∙ one
