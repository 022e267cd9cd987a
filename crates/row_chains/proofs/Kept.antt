-- How the chains go from one state to the next.
use Rattle.std.proofs.Common.{◌≡◌, ℕ, ◌+◌, ◌-◌, ◌<◌, ◌≤◌, List, [], ◌∷◌, ◌++◌, length, get_or, set, refl, sym, ap, subst, ◌∙◌, arith, Option, None, Some, IfSome}
use Rattle.std.proofs.lemmas.List.{length-set, length_push}
use Rattle.row_chains.specs.Chains.{IsAfter, IsFollowed, NoneIn, AreLinked, AreChains, first_with, next_with}
use Rattle.row_chains.proofs.Ends.{first_length, next_length}
use Rattle.row_chains.proofs.Links.{linked_push, linked_pop}

pub chains_push : (groups previous next first last : List ℕ) (og op on room g n p : ℕ) (gs ps links ns fs ls : List ℕ) (og' op' on' left : ℕ) → AreChains groups previous next first last og op on room
    → g < 65536 → left + 1 ≡ room → n ≡ length groups + 1 → p ≡ get_or last g 0 → gs ≡ groups ++ g ∷ [] → ps ≡ previous ++ p ∷ [] → links ≡ next_with p next n → ns ≡ links ++ 0 ∷ [] → fs ≡ first_with p first g n → ls ≡ set last g n
    → og' ≡ og → op' ≡ op → on' ≡ on → AreChains gs ps ns fs ls og' op' on' left
chains_push groups previous next first last og op on room g n p gs ps links ns fs ls og' op' on' left c small some en ep eg es ek ex ef el kg kp kn =
    let lf : 65536 ≤ length first = c.first_fits (omega (arith, some)) in
    let ll : 65536 ≤ length last = c.last_fits (omega (arith, some)) in
    let links_are : links ≡ next_with (get_or last g 0) next (length groups + 1) = ek ∙ ap (λ k. next_with p next k) en ∙ ap (λ k. next_with k next (length groups + 1)) ep in
    let ends_are : fs ≡ first_with (get_or last g 0) first g (length groups + 1) = ef ∙ ap (λ k. first_with p first g k) en ∙ ap (λ k. first_with k first g (length groups + 1)) ep in
    let lasts_are : ls ≡ set last g (length groups + 1) = el ∙ ap (set last g) en in
    let befores_are : ps ≡ previous ++ get_or last g 0 ∷ [] = es ∙ ap (λ k. previous ++ k ∷ []) ep in
    let nexts_are : ns ≡ next_with (get_or last g 0) next (length groups + 1) ++ 0 ∷ [] = ex ∙ ap (λ (xs : List ℕ). xs ++ 0 ∷ []) links_are in
    let lg : length gs ≡ length groups + 1 = ap (λ (xs : List ℕ). length xs) eg ∙ length_push groups g in
    let lp : length ps ≡ length previous + 1 = ap (λ (xs : List ℕ). length xs) es ∙ length_push previous p in
    let ln : length ns ≡ length next + 1 = ap (λ (xs : List ℕ). length xs) ex ∙ length_push links 0 ∙ ap (λ k. k + 1) (ap (λ (xs : List ℕ). length xs) ek ∙ next_length p next n) in
    let lfs : length fs ≡ length first = ap (λ (xs : List ℕ). length xs) ef ∙ first_length p first g n in
    let lls : length ls ≡ length last = ap (λ (xs : List ℕ). length xs) el ∙ length-set last g n in
    record {
      linked =
          rw (eg) (rw (befores_are) (rw (nexts_are) (rw (ends_are) (rw (lasts_are) (linked_push groups previous next first last g c.linked (omega (arith, small, lf)) (omega (arith, small, ll)) c.previous_fits c.next_fits)))));
      previous_fits = omega (arith, lp, lg, c.previous_fits);
      next_fits = omega (arith, ln, lg, c.next_fits);
      first_fits = λ l. omega (arith, lf, lfs);
      last_fits = λ l. omega (arith, ll, lls);
      few = omega (arith, lg, some, c.few);
      in_groups = omega (arith, lg, some, kg, c.in_groups);
      in_previous = omega (arith, lg, some, kp, c.in_previous);
      in_next = omega (arith, lg, some, kn, c.in_next);
    }

pub chains_pop : (groups previous next first last : List ℕ) (og op on room g p z : ℕ) (gs ps links ns fs ls : List ℕ) (og' op' on' left : ℕ) → AreChains groups previous next first last og op on room
    → g < 65536 → left ≡ room + 1 → groups ≡ gs ++ g ∷ [] → previous ≡ ps ++ p ∷ [] → next ≡ links ++ z ∷ [] → ns ≡ next_with p links 0 → fs ≡ first_with p first g 0 → ls ≡ set last g p
    → og' ≡ og → op' ≡ op → on' ≡ on → AreChains gs ps ns fs ls og' op' on' left
chains_pop groups previous next first last og op on room g p z gs ps links ns fs ls og' op' on' left c small some eg es ek ex ef el kg kp kn =
    let lg : length groups ≡ length gs + 1 = ap (λ (xs : List ℕ). length xs) eg ∙ length_push gs g in
    let lp : length previous ≡ length ps + 1 = ap (λ (xs : List ℕ). length xs) es ∙ length_push ps p in
    let ln : length next ≡ length links + 1 = ap (λ (xs : List ℕ). length xs) ek ∙ length_push links z in
    let lns : length ns ≡ length links = ap (λ (xs : List ℕ). length xs) ex ∙ next_length p links 0 in
    let lf : 65536 ≤ length first = c.first_fits (omega (arith, lg)) in
    let ll : 65536 ≤ length last = c.last_fits (omega (arith, lg)) in
    let lfs : length fs ≡ length first = ap (λ (xs : List ℕ). length xs) ef ∙ first_length p first g 0 in
    let lls : length ls ≡ length last = ap (λ (xs : List ℕ). length xs) el ∙ length-set last g p in
    let was : AreLinked (gs ++ g ∷ []) (ps ++ p ∷ []) (links ++ z ∷ []) first last =
    subst (λ (xs : List ℕ). AreLinked (gs ++ g ∷ []) (ps ++ p ∷ []) xs first last) ek (subst (λ (xs : List ℕ). AreLinked (gs ++ g ∷ []) xs next first last) es (subst (λ (xs : List ℕ). AreLinked xs previous next first last) eg c.linked)) in
    record {
      linked = rw (ex) (rw (ef) (rw (el) (linked_pop gs ps links first last g p z was (omega (arith, small, lf)) (omega (arith, small, ll)) (omega (arith, lp, lg, c.previous_fits)) (omega (arith, ln, lg, c.next_fits)))));
      previous_fits = omega (arith, lp, lg, c.previous_fits);
      next_fits = omega (arith, ln, lns, lg, c.next_fits);
      first_fits = λ l. omega (arith, lf, lfs);
      last_fits = λ l. omega (arith, ll, lls);
      few = omega (arith, lg, some, c.few);
      in_groups = omega (arith, lg, some, kg, c.in_groups);
      in_previous = omega (arith, lg, some, kp, c.in_previous);
      in_next = omega (arith, lg, some, kn, c.in_next);
    }

pub followed : (groups : List ℕ) (from group link : ℕ) (row : Option ℕ) → IsAfter groups from group link → (row ≡ None → link ≡ 0) → IfSome row (λ r. link ≡ r + 1) → IsFollowed groups from group row
followed groups from group link None x none_ some_ = x.none (none_ refl)
followed groups from group link (Some row) x none_ some_ =
    let e : link - 1 ≡ row = omega (arith, some_) in
    let y = x.is (omega (arith, some_)) in
    (omega (arith, y.0, some_), omega (arith, y.1, some_), ap (λ k. get_or groups k 0) (sym e) ∙ y.2, subst (λ k. NoneIn groups from k group) e y.3)
