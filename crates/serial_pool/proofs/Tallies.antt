-- Rows of numbers, one a GTIN.
use Rattle.std.proofs.Common.{◌≡◌, ◌≢◌, ℕ, zero, suc, ◌+◌, ◌-◌, ◌<◌, ◌≤◌, Bool, true, false, cond, List, [], ◌∷◌, ◌++◌, length, get_or, set, Option, Some, None, refl, sym, ap, ap₂, ◌∙◌, subst, arith, true≢false}
use Rattle.std.specs.Prelude.{map, find, bytes_eq, All, ◌||◌, Result, Ok, Err, OnOk, is_ok, if◌then◌else◌}
use Rattle.std.specs.Option.{option_map_or}
use Rattle.std.specs.List.{IsDistinct, list_any, AllByRecursion}
use Rattle.std.proofs.lemmas.List.{length-map, map-append}
use Rattle.std.proofs.lemmas.List.Elements.{All-head, All-tail}
use Rattle.std.proofs.lemmas.Slice.Eq.{bytes_eq-Decides}
use Rattle.std.proofs.lemmas.Cmp.{nat_list_eq_equiv}
use Rattle.std.proofs.lemmas.Map.Keys.{IsDistinct-push, IsDistinct-head, IsDistinct-tail}
use Rattle.gs1_keys.specs.Forms.{is_among, AreDistinct}
use Rattle.place_table.specs.Hash.{text_hash}
use Rattle.serial_pool.specs.declared.tally.GtinCount.{GtinCount}
use Rattle.gs1_keys.specs.declared.fault.Memory.{Memory}
use Rattle.place_table.specs.View.{Indexed}
use Rattle.serial_pool.specs.Index.{gtins_of, count_of, IsTally}

same_text : (text : List ℕ) → bytes_eq text text ≡ true
same_text text = nat_list_eq_equiv.refl text

other_text : (one other : List ℕ) → one ≢ other → bytes_eq one other ≡ false
other_text one other ne = by_test (bytes_eq one other) refl
  where
    by_test : (b : Bool) → bytes_eq one other ≡ b → b ≡ false
    by_test true e = absurd (ne ((bytes_eq-Decides one other).0 e))
    by_test false e = refl

-- a row that stands at a place is among the rows
among_at : (rows : List GtinCount) (at : ℕ) (d : GtinCount) → at < length rows → is_among (gtins_of rows) (get_or rows at d).gtin ≡ true
among_at [] at d lt = absurd (omega arith)
among_at (row ∷ rows) zero d lt = rw (same_text row.gtin) refl
among_at (row ∷ rows) (suc at) d lt = or_second (bytes_eq (get_or rows at d).gtin row.gtin) (is_among (gtins_of rows) (get_or rows at d).gtin) (among_at rows at d (omega arith))
  where
    or_second : (a b : Bool) → b ≡ true → (a || b) ≡ true
    or_second true b e = refl
    or_second false b e = e

pub among_of : (rows : List GtinCount) (at : ℕ) (d : GtinCount) (gtin : List ℕ) → at < length rows → (get_or rows at d).gtin ≡ gtin → is_among (gtins_of rows) gtin ≡ true
among_of rows at d gtin lt e = subst (λ g. is_among (gtins_of rows) g ≡ true) e (among_at rows at d lt)

pub among_none : (rows : List GtinCount) (gtin : List ℕ) → All (λ row. row.gtin ≡ gtin → ⊥) rows → is_among (gtins_of rows) gtin ≡ false
among_none [] gtin none = refl
among_none (row ∷ rows) gtin none =
    let apart : bytes_eq gtin row.gtin ≡ false = other_text gtin row.gtin (λ e. All-head (λ (r : GtinCount). r.gtin ≡ gtin → ⊥) row rows none (sym e)) in
    rw apart (among_none rows gtin (All-tail (λ (r : GtinCount). r.gtin ≡ gtin → ⊥) row rows none))

-- a GTIN without a row has no serials
find_none : (rows : List GtinCount) (gtin : List ℕ) → is_among (gtins_of rows) gtin ≡ false → find (λ row. bytes_eq gtin row.gtin) rows ≡ None
find_none [] gtin e = refl
find_none (row ∷ rows) gtin e = (elim (bytes_eq gtin row.gtin) as (λ b. (b || is_among (gtins_of rows) gtin) ≡ false → cond b (Some row) (find (λ r. bytes_eq gtin r.gtin) rows) ≡ None) [
  | true ↦ λ f. absurd (true≢false f)
  | false ↦ λ f. find_none rows gtin f
]) e

pub count_none : (rows : List GtinCount) (gtin : List ℕ) → is_among (gtins_of rows) gtin ≡ false → count_of gtin rows ≡ 0
count_none rows gtin e = ap (λ (o : Option GtinCount). option_map_or (λ (r : GtinCount). r.drawn) o 0) (find_none rows gtin e)

later_apart : (row : GtinCount) (rows : List GtinCount) (gtin : List ℕ) → AreDistinct (gtins_of (row ∷ rows)) → is_among (gtins_of rows) gtin ≡ true → bytes_eq gtin row.gtin ≡ false
later_apart row rows gtin once e = apart_from (gtins_of rows) (IsDistinct-head bytes_eq row.gtin (gtins_of rows) once) e
  where
    apart_from : (others : List (List ℕ)) → AllByRecursion (λ other. bytes_eq row.gtin other ≡ false) others → is_among others gtin ≡ true → bytes_eq gtin row.gtin ≡ false
    apart_from [] a e = absurd (true≢false (sym e))
    apart_from (other ∷ others) a e = (elim (bytes_eq gtin other) as (λ b. bytes_eq gtin other ≡ b → (b || is_among others gtin) ≡ true → bytes_eq gtin row.gtin ≡ false) [
      | true ↦ λ same f. subst (λ g. bytes_eq g row.gtin ≡ false) (sym ((bytes_eq-Decides gtin other).0 same)) (nat_list_eq_equiv.symm other row.gtin ∙ a.0)
      | false ↦ λ same f. apart_from others a.1 f
    ]) refl e

-- the number in the GTIN's row
pub count_at : (rows : List GtinCount) (at : ℕ) (d : GtinCount) (gtin : List ℕ) → AreDistinct (gtins_of rows) → at < length rows → (get_or rows at d).gtin ≡ gtin → count_of gtin rows ≡ (get_or rows at d).drawn
count_at [] at d gtin once lt e = absurd (omega arith)
count_at (row ∷ rows) zero d gtin once lt e = let same : bytes_eq gtin row.gtin ≡ true = subst (λ g. bytes_eq g row.gtin ≡ true) e (same_text row.gtin) in rw same refl
count_at (row ∷ rows) (suc at) d gtin once lt e =
    let apart = later_apart row rows gtin once (among_of rows at d gtin (omega arith) e) in
    rw apart (count_at rows at d gtin (IsDistinct-tail bytes_eq row.gtin (gtins_of rows) once) (omega arith) e)

-- another number in the row of a GTIN
pub gtins_set : (rows : List GtinCount) (at n : ℕ) (d : GtinCount) (gtin : List ℕ) → at < length rows → (get_or rows at d).gtin ≡ gtin → gtins_of (set rows at (record { gtin = gtin; drawn = n })) ≡ gtins_of rows
gtins_set [] at n d gtin lt e = absurd (omega arith)
gtins_set (row ∷ rows) zero n d gtin lt e = ap (λ g. g ∷ gtins_of rows) (sym e)
gtins_set (row ∷ rows) (suc at) n d gtin lt e = ap (λ gs. row.gtin ∷ gs) (gtins_set rows at n d gtin (omega arith) e)

pub count_set : (rows : List GtinCount) (at n : ℕ) (d : GtinCount) (gtin other : List ℕ) → AreDistinct (gtins_of rows) → at < length rows → (get_or rows at d).gtin ≡ gtin
    → count_of other (set rows at (record { gtin = gtin; drawn = n })) ≡ cond (bytes_eq other gtin) n (count_of other rows)
count_set [] at n d gtin other once lt e = absurd (omega arith)
count_set (row ∷ rows) zero n d gtin other once lt e =
    subst (λ g. option_map_or (λ (r : GtinCount). r.drawn) (cond (bytes_eq other gtin) (Some (record { gtin = gtin; drawn = n })) (find (λ r. bytes_eq other r.gtin) rows)) 0 ≡ cond (bytes_eq other gtin) n (option_map_or (λ (r : GtinCount). r.drawn) (cond (bytes_eq other g) (Some row) (find (λ r. bytes_eq other r.gtin) rows)) 0)) (sym e)
    (by_test (bytes_eq other gtin))
  where
    by_test : (b : Bool) → option_map_or (λ (r : GtinCount). r.drawn) (cond b (Some (record { gtin = gtin; drawn = n })) (find (λ r. bytes_eq other r.gtin) rows)) 0 ≡ cond b n (option_map_or (λ (r : GtinCount). r.drawn) (cond b (Some row) (find (λ r. bytes_eq other r.gtin) rows)) 0)
    by_test true = refl
    by_test false = refl
count_set (row ∷ rows) (suc at) n d gtin other once lt e =
    let rest = count_set rows at n d gtin other (IsDistinct-tail bytes_eq row.gtin (gtins_of rows) once) (omega arith) e in
    let apart : bytes_eq gtin row.gtin ≡ false = later_apart row rows gtin once (among_of rows at d gtin (omega arith) e) in
    (elim (bytes_eq other row.gtin) as (λ b. bytes_eq other row.gtin ≡ b → option_map_or (λ (r : GtinCount). r.drawn) (cond b (Some row) (find (λ r. bytes_eq other r.gtin) (set rows at (record { gtin = gtin; drawn = n })))) 0 ≡ cond (bytes_eq other gtin) n (option_map_or (λ (r : GtinCount). r.drawn) (cond b (Some row) (find (λ r. bytes_eq other r.gtin) rows)) 0)) [
      | true ↦ λ same. let is : other ≡ row.gtin = (bytes_eq-Decides other row.gtin).0 same in
          let differs : bytes_eq other gtin ≡ false = subst (λ g. bytes_eq g gtin ≡ false) (sym is) (nat_list_eq_equiv.symm row.gtin gtin ∙ apart) in
          rw differs refl
      | false ↦ λ same. rest
    ]) refl

-- a row without serials behind the others
pub count_push : (rows : List GtinCount) (gtin other : List ℕ) → count_of other (rows ++ record { gtin = gtin; drawn = 0 } ∷ []) ≡ count_of other rows
count_push [] gtin other = elim (bytes_eq other gtin) as (λ b. option_map_or (λ (r : GtinCount). r.drawn) (cond b (Some (record { gtin = gtin; drawn = 0 })) None) 0 ≡ 0) [ true ↦ refl | false ↦ refl ]
count_push (row ∷ rows) gtin other = elim (bytes_eq other row.gtin) as (λ b. option_map_or (λ (r : GtinCount). r.drawn) (cond b (Some row) (find (λ r. bytes_eq other r.gtin) (rows ++ record { gtin = gtin; drawn = 0 } ∷ []))) 0 ≡ option_map_or (λ (r : GtinCount). r.drawn) (cond b (Some row) (find (λ r. bytes_eq other r.gtin) rows)) 0) [ true ↦ refl | false ↦ count_push rows gtin other ]

pub gtins_push : (rows : List GtinCount) (gtin : List ℕ) → gtins_of (rows ++ record { gtin = gtin; drawn = 0 } ∷ []) ≡ gtins_of rows ++ gtin ∷ []
gtins_push rows gtin = map-append (λ (r : GtinCount). r.gtin) rows (record { gtin = gtin; drawn = 0 } ∷ [])

pub apart_push : (rows : List GtinCount) (gtin : List ℕ) → AreDistinct (gtins_of rows) → is_among (gtins_of rows) gtin ≡ false → AreDistinct (gtins_of (rows ++ record { gtin = gtin; drawn = 0 } ∷ []))
apart_push rows gtin once none = subst AreDistinct (sym (gtins_push rows gtin)) (IsDistinct-push nat_list_eq_equiv (gtins_of rows) gtin once (flip (gtins_of rows) none))
  where
    flip : (xs : List (List ℕ)) → is_among xs gtin ≡ false → list_any (bytes_eq gtin) xs ≡ false
    flip xs e = e

pub among_more : (xs : List (List ℕ)) (gtin other : List ℕ) → is_among xs other ≡ true → is_among (xs ++ gtin ∷ []) other ≡ true
among_more [] gtin other e = absurd (true≢false (sym e))
among_more (x ∷ xs) gtin other e = (elim (bytes_eq other x) as (λ b. (b || is_among xs other) ≡ true → (b || is_among (xs ++ gtin ∷ []) other) ≡ true) [ true ↦ λ f. refl | false ↦ λ f. among_more xs gtin other f ]) e

pub among_last : (xs : List (List ℕ)) (gtin : List ℕ) → is_among (xs ++ gtin ∷ []) gtin ≡ true
among_last [] gtin = rw (same_text gtin) refl
among_last (x ∷ xs) gtin = elim (bytes_eq gtin x) as (λ b. (b || is_among (xs ++ gtin ∷ []) gtin) ≡ true) [ true ↦ refl | false ↦ among_last xs gtin ]

-- nothing was counted yet
pub none_counted : (rows : List GtinCount) (table : Indexed) → rows ≡ [] → table.hashes ≡ [] → IsTally rows table
unfolding IsDistinct
none_counted rows table e f =
    record {
      hashed = f ∙ sym (ap (map (λ (row : GtinCount). text_hash row.gtin)) e);
      apart = subst (λ (xs : List GtinCount). AreDistinct (gtins_of xs)) (sym e) tt;
    }

hashes_of : (rows other : List GtinCount) → gtins_of rows ≡ gtins_of other → map (λ (row : GtinCount). text_hash row.gtin) rows ≡ map (λ (row : GtinCount). text_hash row.gtin) other
hashes_of [] [] e = refl
hashes_of [] (o ∷ other) e = cc
hashes_of (r ∷ rows) [] e = cc
hashes_of (r ∷ rows) (o ∷ other) e = let p : r.gtin ≡ o.gtin = cc in let q : gtins_of rows ≡ gtins_of other = cc in ap₂ (λ (h : ℕ) (hs : List ℕ). h ∷ hs) (ap text_hash p) (hashes_of rows other q)

-- rows of the same GTINs are found alike
pub still_tally : (rows new : List GtinCount) (table : Indexed) → IsTally rows table → gtins_of new ≡ gtins_of rows → IsTally new table
still_tally rows new table t e = record { hashed = t.hashed ∙ hashes_of rows new (sym e); apart = subst AreDistinct (sym e) t.apart }

-- one row more, or none
pub pushed_tally : (rows new : List GtinCount) (old table : Indexed) (ok : Bool) (gtin : List ℕ) → IsTally rows old → All (λ row. row.gtin ≡ gtin → ⊥) rows
    → new ≡ (if ok then rows ++ record { gtin = gtin; drawn = 0 } ∷ [] else rows) → table.hashes ≡ map (λ (row : GtinCount). text_hash row.gtin) new → IsTally new table
pushed_tally rows new old table true gtin t none e f = record { hashed = f; apart = subst (λ (xs : List GtinCount). AreDistinct (gtins_of xs)) (sym e) (apart_push rows gtin t.apart (among_none rows gtin none)) }
pushed_tally rows new old table false gtin t none e f = record { hashed = f; apart = subst (λ (xs : List GtinCount). AreDistinct (gtins_of xs)) (sym e) t.apart }

pub pushed_counts : (rows new : List GtinCount) (ok : Bool) (gtin other : List ℕ) → new ≡ (if ok then rows ++ record { gtin = gtin; drawn = 0 } ∷ [] else rows) → count_of other new ≡ count_of other rows
pushed_counts rows new true gtin other e = ap (count_of other) e ∙ count_push rows gtin other
pushed_counts rows new false gtin other e = ap (count_of other) e

pub pushed_gtins : (rows new : List GtinCount) (ok : Bool) (gtin other : List ℕ) → new ≡ (if ok then rows ++ record { gtin = gtin; drawn = 0 } ∷ [] else rows) → is_among (gtins_of rows) other ≡ true → is_among (gtins_of new) other ≡ true
pushed_gtins rows new true gtin other e among = ap (λ (xs : List GtinCount). is_among (gtins_of xs) other) e ∙ ap (λ (gs : List (List ℕ)). is_among gs other) (gtins_push rows gtin) ∙ among_more (gtins_of rows) gtin other among
pushed_gtins rows new false gtin other e among = ap (λ (xs : List GtinCount). is_among (gtins_of xs) other) e ∙ among

pub known_now : (rows new : List GtinCount) (result : Result Unit Memory) (gtin : List ℕ) → new ≡ (if is_ok result then rows ++ record { gtin = gtin; drawn = 0 } ∷ [] else rows) → OnOk result (is_among (gtins_of new) gtin ≡ true)
known_now rows new (Ok done) gtin e = ap (λ (xs : List GtinCount). is_among (gtins_of xs) gtin) e ∙ ap (λ (gs : List (List ℕ)). is_among gs gtin) (gtins_push rows gtin) ∙ among_last (gtins_of rows) gtin
known_now rows new (Err fault) gtin e = tt

-- a GTIN with a row isn't without one
pub known_row : (rows : List GtinCount) (gtin : List ℕ) → is_among (gtins_of rows) gtin ≡ true → All (λ row. row.gtin ≡ gtin → ⊥) rows → ⊥
known_row rows gtin e none = true≢false (sym e ∙ among_none rows gtin none)

pub raised : (rows : List GtinCount) (at more : ℕ) (row : GtinCount) (gtin other : List ℕ) → AreDistinct (gtins_of rows) → at < length rows → get_or rows at row ≡ row → row.gtin ≡ gtin
    → count_of other (set rows at (record { gtin = row.gtin; drawn = row.drawn + more })) ≡ count_of other rows + cond (bytes_eq other gtin) more 0
raised rows at more row gtin other once lt here own =
    let there : (get_or rows at row).gtin ≡ row.gtin = ap (λ (r : GtinCount). r.gtin) here in
    let now : count_of row.gtin rows ≡ row.drawn = count_at rows at row row.gtin once lt there ∙ ap (λ (r : GtinCount). r.drawn) here in
    count_set rows at (row.drawn + more) row row.gtin other once lt there
    ∙ (elim (bytes_eq other row.gtin) as (λ b. bytes_eq other row.gtin ≡ b → cond b (row.drawn + more) (count_of other rows) ≡ count_of other rows + cond b more 0) [
      | true ↦ λ e. let same : count_of other rows ≡ row.drawn = ap (λ g. count_of g rows) ((bytes_eq-Decides other row.gtin).0 e) ∙ now in ap (λ n. n + more) (sym same)
      | false ↦ λ e. let z : count_of other rows ≡ count_of other rows + 0 = omega arith in z
    ]) refl
    ∙ ap (λ g. count_of other rows + cond (bytes_eq other g) more 0) own

pub lowered : (rows : List GtinCount) (at fewer : ℕ) (row : GtinCount) (gtin other : List ℕ) → AreDistinct (gtins_of rows) → at < length rows → get_or rows at row ≡ row → row.gtin ≡ gtin → fewer ≤ row.drawn
    → count_of other (set rows at (record { gtin = row.gtin; drawn = row.drawn - fewer })) + cond (bytes_eq other gtin) fewer 0 ≡ count_of other rows
lowered rows at fewer row gtin other once lt here own le =
    let there : (get_or rows at row).gtin ≡ row.gtin = ap (λ (r : GtinCount). r.gtin) here in
    let now : count_of row.gtin rows ≡ row.drawn = count_at rows at row row.gtin once lt there ∙ ap (λ (r : GtinCount). r.drawn) here in
    ap (λ n. n + cond (bytes_eq other gtin) fewer 0) (count_set rows at (row.drawn - fewer) row row.gtin other once lt there)
    ∙ ap (λ g. cond (bytes_eq other row.gtin) (row.drawn - fewer) (count_of other rows) + cond (bytes_eq other g) fewer 0) (sym own)
    ∙ (elim (bytes_eq other row.gtin) as (λ b. bytes_eq other row.gtin ≡ b → cond b (row.drawn - fewer) (count_of other rows) + cond b fewer 0 ≡ count_of other rows) [
      | true ↦ λ e. let same : count_of other rows ≡ row.drawn = ap (λ g. count_of g rows) ((bytes_eq-Decides other row.gtin).0 e) ∙ now in omega (arith, same)
      | false ↦ λ e. omega arith
    ]) refl
