-- A chain grows and shrinks at its newest end.
use Rattle.std.proofs.Common.{◌≡◌, ℕ, zero, suc, ◌<◌, ◌≤◌, eqb, cond, Bool, true, false, List, [], ◌∷◌, ◌++◌, length, replicate, set, slice_index, slice_index_or, Option, None, Some, refl, sym, ap, ◌∙◌, arith, true≢false}
use Rattle.std.proofs.lemmas.Bool.{eqb-true, eq-eqb}
use Rattle.std.proofs.lemmas.List.{get_or-set_same, get_or-set_other, get_or_append_left}
use Rattle.std.proofs.Math.Seq.{get_or-append_seam}
use Rattle.pack_tree.specs.Chains.{latest_below, newest_below, newest_from, IsChain, IsOwn}
use Rattle.pack_tree.proofs.Steps.{past_free}

-- only what stands below the number counts
pub agree : (batch : ℕ) (xs ys : List ℕ) (n : ℕ) → ((i : ℕ) → i < n → slice_index xs i ≡ slice_index ys i) → latest_below batch xs n ≡ latest_below batch ys n
agree batch xs ys zero h = refl
agree batch xs ys (suc n) h = λ z. cond (eqb (h n (omega arith) z) batch) (Some n) (agree batch xs ys n (λ i l. h i (omega (arith, l))) z)

longer : (bs : List ℕ) (b : ℕ) → length (bs ++ b ∷ []) ≡ suc (length bs)
longer [] b = refl
longer (x ∷ bs) b = ap suc (longer bs b)

pushed : (bs : List ℕ) (b x : ℕ) → latest_below x (bs ++ b ∷ []) (length (bs ++ b ∷ [])) ≡ cond (eqb b x) (Some (length bs)) (latest_below x bs (length bs))
pushed bs b x =
    ap (latest_below x (bs ++ b ∷ [])) (longer bs b)
    ∙ (λ z. cond (eqb (get_or-append_seam bs b [] 0 z) x) (Some (length bs)) (agree x (bs ++ b ∷ []) bs (length bs) (λ i l. get_or_append_left bs (b ∷ []) 0 i l) z))

-- a written link, read at any batch
written : (links : List (Option ℕ)) (b x : ℕ) (link : Option ℕ) → b < length links → slice_index_or (set links b link) x None ≡ cond (eqb b x) link (slice_index_or links x None)
written links b x link l = cases (eqb b x) refl
  where
    cases : (t : Bool) → eqb b x ≡ t → slice_index_or (set links b link) x None ≡ cond t link (slice_index_or links x None)
    cases true e = ap (λ (i : ℕ). slice_index_or (set links b link) i None) (sym (eqb-true b x e)) ∙ get_or-set_same links b link None l
    cases false e = get_or-set_other links b x link None (λ f. absurd (true≢false (sym (eq-eqb b x (sym f)) ∙ e)))

pub chain_push : (bs : List ℕ) (b : ℕ) (latest earlier latest2 earlier2 : List (Option ℕ)) → IsChain bs latest earlier → b < length latest → length bs < length earlier
    → earlier2 ≡ set earlier (length bs) (slice_index_or latest b None) → latest2 ≡ set latest b (Some (length bs)) → IsChain (bs ++ b ∷ []) latest2 earlier2
chain_push bs b latest earlier latest2 earlier2 s l m e f = record {
  ends = λ x.
      ap (λ (ls : List (Option ℕ)). slice_index_or ls x None) f ∙ written latest b x (Some (length bs)) l
      ∙ ap (λ (o : Option ℕ). cond (eqb b x) (Some (length bs)) o) (s.ends x) ∙ sym (pushed bs b x);
  steps = λ at here.
      ap (λ (ls : List (Option ℕ)). slice_index_or ls at None) e ∙ written earlier (length bs) at (slice_index_or latest b None) m
      ∙ cases at (omega (arith, here, longer bs b)) (eqb (length bs) at) refl;
}
  where
    front : (i : ℕ) → i < length bs → slice_index (bs ++ b ∷ []) i ≡ slice_index bs i
    front i k = get_or_append_left bs (b ∷ []) 0 i k

    cases : (at : ℕ) → at < suc (length bs) → (t : Bool) → eqb (length bs) at ≡ t → cond t (slice_index_or latest b None) (slice_index_or earlier at None) ≡ latest_below (slice_index (bs ++ b ∷ []) at) (bs ++ b ∷ []) at
    cases at k true q =
        let n : length bs ≡ at = eqb-true (length bs) at q in
        s.ends b ∙ sym (agree b (bs ++ b ∷ []) bs (length bs) front)
        ∙ (λ z. latest_below (sym (get_or-append_seam bs b [] 0) z) (bs ++ b ∷ []) (length bs))
        ∙ (λ z. latest_below (slice_index (bs ++ b ∷ []) (n z)) (bs ++ b ∷ []) (n z))
    cases at k false q =
        let apart : length bs ≡ at → ⊥ = λ f. absurd (true≢false (sym (eq-eqb (length bs) at f) ∙ q)) in
        let below : at < length bs = omega (arith, k, apart) in
        s.steps at below ∙ sym (agree (slice_index bs at) (bs ++ b ∷ []) bs at (λ i j. front i (omega (arith, j, below))))
        ∙ (λ z. latest_below (sym (front at below) z) (bs ++ b ∷ []) at)

pub chain_pop : (bs : List ℕ) (b : ℕ) (latest earlier latest2 : List (Option ℕ)) → IsChain (bs ++ b ∷ []) latest earlier → b < length latest
    → latest2 ≡ set latest b (slice_index_or earlier (length bs) None) → IsChain bs latest2 earlier
chain_pop bs b latest earlier latest2 s l f = record {
  ends = λ x.
      ap (λ (ls : List (Option ℕ)). slice_index_or ls x None) f ∙ written latest b x (slice_index_or earlier (length bs) None) l ∙ cases x (eqb b x) refl;
  steps = λ at here.
      s.steps at (omega (arith, here, longer bs b)) ∙ (λ z. latest_below (front at here z) (bs ++ b ∷ []) at)
      ∙ agree (slice_index bs at) (bs ++ b ∷ []) bs at (λ i j. front i (omega (arith, j, here)));
}
  where
    front : (i : ℕ) → i < length bs → slice_index (bs ++ b ∷ []) i ≡ slice_index bs i
    front i k = get_or_append_left bs (b ∷ []) 0 i k

    cases : (x : ℕ) (t : Bool) → eqb b x ≡ t → cond t (slice_index_or earlier (length bs) None) (slice_index_or latest x None) ≡ latest_below x bs (length bs)
    cases x true q =
        s.steps (length bs) (omega (arith, longer bs b)) ∙ (λ z. latest_below (get_or-append_seam bs b [] 0 z) (bs ++ b ∷ []) (length bs))
        ∙ agree b (bs ++ b ∷ []) bs (length bs) front ∙ ap (λ (y : ℕ). latest_below y bs (length bs)) (eqb-true b x q)
    cases x false q = s.ends x ∙ pushed bs b x ∙ ap (λ (t : Bool). cond t (Some (length bs)) (latest_below x bs (length bs))) q

pub chain_grow : (bs : List ℕ) (latest earlier latest2 earlier2 : List (Option ℕ)) (j k : ℕ) → IsChain bs latest earlier → latest2 ≡ latest ++ replicate j None → earlier2 ≡ earlier ++ replicate k None → IsChain bs latest2 earlier2
chain_grow bs latest earlier latest2 earlier2 j k s e f = record {
  ends = λ x. ap (λ (ls : List (Option ℕ)). slice_index_or ls x None) e ∙ past_free latest j x None ∙ s.ends x;
  steps = λ at here. ap (λ (ls : List (Option ℕ)). slice_index_or ls at None) f ∙ past_free earlier k at None ∙ s.steps at here;
}

-- from the newest place on stand all below
pub from_latest : (batch : ℕ) (bs : List ℕ) (n : ℕ) → newest_from (latest_below batch bs n) batch bs ≡ newest_below batch bs n
from_latest batch bs zero = refl
from_latest batch bs (suc n) = cases (from_latest batch bs n) (eqb (slice_index bs n) batch)
  where
    cases : newest_from (latest_below batch bs n) batch bs ≡ newest_below batch bs n → (t : Bool) → newest_from (cond t (Some n) (latest_below batch bs n)) batch bs ≡ cond t (n ∷ newest_below batch bs n) (newest_below batch bs n)
    cases ih true = refl
    cases ih false = ih

-- the newest place is one of the batch's
pub latest_own : (batch : ℕ) (bs : List ℕ) (n : ℕ) → n ≤ length bs → IsOwn (latest_below batch bs n) batch bs
latest_own batch bs zero l = tt
latest_own batch bs (suc n) l = cases (latest_own batch bs n (omega (arith, l))) (eqb (slice_index bs n) batch) refl
  where
    cases : IsOwn (latest_below batch bs n) batch bs → (t : Bool) → eqb (slice_index bs n) batch ≡ t → IsOwn (cond t (Some n) (latest_below batch bs n)) batch bs
    cases ih true e = (omega (arith, l), eqb-true (slice_index bs n) batch e)
    cases ih false e = ih
