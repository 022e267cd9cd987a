-- Units found, made and taken back.
use Rattle.std.proofs.Common.{◌≡◌, ℕ, zero, suc, ◌+◌, ◌-◌, ◌<◌, ◌≤◌, ◌^◌, cond, nat_lt, Bool, true, false, List, [], ◌∷◌, ◌++◌, length, map, take, get_or, set, slice_index_or, Option, None, Some, refl, sym, ap, subst, ◌∙◌, arith, true≢false}
use Rattle.std.specs.List.{slice_get, IsDistinct, AllByRecursion as Every, position, position_or_len, list_any}
use Rattle.std.proofs.lemmas.Bool.Decides.{nat_tests}
use Rattle.std.proofs.lemmas.List.{length-map, length_push, map_push, get_or-map, length-set}
use Rattle.std.proofs.lemmas.List.Folds.{list_any_none}
use Rattle.std.proofs.lemmas.List.Sums.{position_or_len_is, fails_before_first}
use Rattle.std.proofs.lemmas.Map.Keys.{IsDistinct-head, IsDistinct-tail, IsDistinct-push}
use Rattle.deed_words.specs.Names.{Text, same}
use Rattle.deed_words.specs.declared.words.Mark.{Mark}
use Rattle.deed_words.specs.declared.words.Mark.TheVariants.{Filling}
use Rattle.deed_words.specs.declared.words.Level.TheVariants.{Case}
use Rattle.deed_words.proofs.Sameness.{same-true, same_equiv}
use Rattle.place_table.specs.View.{Indexed}
use Rattle.place_table.specs.Hash.{text_hash}
use Rattle.pack_tree.specs.declared.node.UnitRow.{UnitRow}
use Rattle.pack_tree.specs.Chains.{IsChain}
use Rattle.pack_tree.specs.Units.{code_in, batch_in, hash_in, is_coded, AreApart, marked, IsShelf}
use Rattle.pack_tree.proofs.Chaining.{chain_push, chain_pop}

-- ---- finding
every_get : {A : Type 0} (P : A → Type 0) (xs : List A) (i : ℕ) (d : A) → i < length xs → Every P xs → P (get_or xs i d)
every_get P [] i d l a = absurd (omega (arith, l))
every_get P (x ∷ xs) zero d l a = a.0
every_get P (x ∷ xs) (suc i) d l a = every_get P xs i d (omega (arith, l)) a.1

-- of two places with one key, neither comes first
apart_at : {K : Type 0} (e : K → K → Bool) (xs : List K) (d : K) → IsDistinct e xs → (i j : ℕ) → i < j → j < length xs → e (get_or xs i d) (get_or xs j d) ≡ false
apart_at e [] d a i j l m = absurd (omega (arith, m))
apart_at e (x ∷ xs) d a i zero l m = absurd (omega (arith, l))
apart_at e (x ∷ xs) d a zero (suc j) l m = every_get (λ k. e x k ≡ false) xs j d (omega (arith, m)) (IsDistinct-head e x xs a)
apart_at e (x ∷ xs) d a (suc i) (suc j) l m = apart_at e xs d (IsDistinct-tail e x xs a) i j (omega (arith, l)) (omega (arith, m))

none_true : (b : Bool) → (b ≡ true → ⊥) → b ≡ false
none_true true h = absurd (h refl)
none_true false h = refl

is_below : (i n : ℕ) → i < n → nat_lt i n ≡ true
is_below i n l = grind (arith, nat_tests, l)

not_below : (n : ℕ) → nat_lt n n ≡ false
not_below n = grind (arith, nat_tests)

some_first : {A : Type 0} (p : A → Bool) (xs : List A) (i : ℕ) → position_or_len p xs ≡ i → i < length xs → position p xs ≡ Some i
some_first p xs i e l = (λ z. cond (nat_lt (e z) (length xs)) (Some (e z)) None) ∙ ap (λ (b : Bool). cond b (Some i) None) (is_below i (length xs) l)

no_first : {A : Type 0} (p : A → Bool) (xs : List A) → position_or_len p xs ≡ length xs → position p xs ≡ None
no_first p xs e = (λ z. cond (nat_lt (e z) (length xs)) (Some (e z)) None) ∙ ap (λ (b : Bool). cond b (Some (length xs)) None) (not_below (length xs))

pub found : (units : List UnitRow) (sscc : Text) (i : ℕ) → AreApart units → i < length units → ((d : UnitRow) → true ≡ is_coded sscc (slice_index_or units i d)) → Some i ≡ position (is_coded sscc) units
unfolding is_coded
found [] sscc i a l is = absurd (omega (arith, l))
found (u ∷ us) sscc i a l is =
    let units = u ∷ us in
    let code : (k : ℕ) → k < length units → get_or (map code_in units) k [] ≡ code_in (get_or units k u) = λ k m. get_or-map code_in units k u [] m in
    let own : code_in (get_or units i u) ≡ sscc = same-true _ _ (sym (is u)) in
    sym (some_first (is_coded sscc) units i (position_or_len_is (is_coded sscc) units i u (omega (arith, l)) (λ k m.
    ap (same (code_in (get_or units k u))) (sym own)
    ∙ (λ z. same (sym (code k (omega (arith, m, l))) z) (sym (code i l) z))
    ∙ apart_at same (map code_in units) [] a k i m (omega (arith, l, length-map units code_in))) (λ m. sym (is u))) l)

pub missed : (units : List UnitRow) (sscc : Text) → ((i : ℕ) → i < length units → (d : UnitRow) → hash_in (slice_index_or units i d) ≡ text_hash sscc → false ≡ is_coded sscc (slice_index_or units i d)) → None ≡ position (is_coded sscc) units
unfolding is_coded
missed [] sscc h = sym (no_first (is_coded sscc) [] (position_or_len_is (is_coded sscc) [] 0 (record { sscc = []; batch = 0; level = Case; mark = Filling }) (omega arith) (λ k m. absurd (omega (arith, m))) (λ m. absurd (omega (arith, m)))))
missed (u ∷ us) sscc h =
    let units = u ∷ us in
    sym (no_first (is_coded sscc) units (position_or_len_is (is_coded sscc) units (length units) u (omega arith)
    (λ k m. none_true _ (λ t. absurd (true≢false (sym t ∙ sym (h k m u (ap text_hash (same-true _ _ t))))))) (λ m. absurd (omega (arith, m)))))

-- ---- one more, and one less
none_length : {A : Type 0} (p : A → Bool) (xs : List A) → position p xs ≡ None → length xs ≤ position_or_len p xs
none_length p xs e = cases (nat_lt (position_or_len p xs) (length xs)) refl e
  where
    cases : (b : Bool) → nat_lt (position_or_len p xs) (length xs) ≡ b → cond b (Some (position_or_len p xs)) None ≡ None → length xs ≤ position_or_len p xs
    cases true t f = absurd (cc)
    cases false t f = grind (arith, nat_tests, t)

pub new_code : (units : List UnitRow) (sscc : Text) → position (is_coded sscc) units ≡ None → list_any (same sscc) (map code_in units) ≡ false
unfolding is_coded
new_code units sscc e = list_any_none (same sscc) (map code_in units) (λ k d l.
    let m : k < length units = omega (arith, l, length-map units code_in) in
    let n = none_length (is_coded sscc) units e in
    none_true _ (λ t.
    absurd (true≢false (sym t ∙ same_equiv.symm sscc (get_or (map code_in units) k d) ∙ (λ z. same (at_code units k d m z) sscc) ∙ fails units k m n))))
  where
    unit_at : (units : List UnitRow) (k : ℕ) → k < length units → UnitRow
    unit_at [] k m = absurd (omega (arith, m))
    unit_at (u ∷ us) k m = get_or (u ∷ us) k u

    at_code : (units : List UnitRow) (k : ℕ) (d : Text) (m : k < length units) → get_or (map code_in units) k d ≡ code_in (unit_at units k m)
    at_code [] k d m = absurd (omega (arith, m))
    at_code (u ∷ us) k d m = get_or-map code_in (u ∷ us) k u d m

    fails : (units : List UnitRow) (k : ℕ) (m : k < length units) → length units ≤ position_or_len (is_coded sscc) units → same (code_in (unit_at units k m)) sscc ≡ false
    fails [] k m n = absurd (omega (arith, m))
    fails (u ∷ us) k m n = fails_before_first (is_coded sscc) (u ∷ us) k u (omega (arith, m, n))

-- no units
pub shelf_new : IsShelf [] (record { hashes = []; room = 0 }) 0 [] [] 0
unfolding IsDistinct
shelf_new = record {
  hashed = refl;
  placed = omega arith;
  reserved = omega arith;
  within = omega arith;
  few = omega arith;
  apart = tt;
  chain = record { ends = λ b. refl; steps = λ at l. absurd (omega (arith, l)) };
  wide = λ l. absurd (omega (arith, l));
  long = omega arith;
}

-- one unit more
pub shelf_push : (rows new : List UnitRow) (unit : UnitRow) (table after : Indexed) (capacity room : ℕ) (latest earlier latest2 earlier2 : List (Option ℕ))
    → IsShelf rows table capacity latest earlier room → new ≡ rows ++ unit ∷ [] → after.hashes ≡ table.hashes ++ hash_in unit ∷ [] → after.room + 1 ≡ table.room
    → length rows < room → position (is_coded (code_in unit)) rows ≡ None → batch_in unit < 2 ^ 16
    → earlier2 ≡ set earlier (length rows) (slice_index_or latest (batch_in unit) None) → latest2 ≡ set latest (batch_in unit) (Some (length rows)) → IsShelf new after capacity latest2 earlier2 room
shelf_push rows new unit table after capacity room latest earlier latest2 earlier2 s e h r l fresh b f g =
    let m : length new ≡ length rows + 1 = ap (λ (xs : List UnitRow). length xs) e ∙ length_push rows unit in
    let k : length (map batch_in rows) ≡ length rows = length-map rows batch_in in
    let w = s.wide (omega (arith, l)) in
    let chain : IsChain (map batch_in rows ++ batch_in unit ∷ []) latest2 earlier2 =
    chain_push (map batch_in rows) (batch_in unit) latest earlier latest2 earlier2 s.chain (omega (arith, w, b)) (omega (arith, k, l, s.long))
    (f ∙ (λ z. set earlier (sym k z) (slice_index_or latest (batch_in unit) None))) (g ∙ (λ z. set latest (batch_in unit) (Some (sym k z)))) in
    record {
      hashed = h ∙ ap (λ (hs : List ℕ). hs ++ hash_in unit ∷ []) s.hashed ∙ sym (map_push hash_in rows unit) ∙ ap (map hash_in) (sym e);
      placed = omega (arith, s.placed, m, r);
      reserved = s.reserved;
      within = omega (arith, m, l);
      few = s.few;
      apart = subst AreApart (sym e) (subst (IsDistinct same) (sym (map_push code_in rows unit)) (IsDistinct-push same_equiv (map code_in rows) (code_in unit) s.apart (new_code rows (code_in unit) fresh)));
      chain = subst (λ (bs : List ℕ). IsChain bs latest2 earlier2) (sym (map_push batch_in rows unit) ∙ ap (map batch_in) (sym e)) chain;
      wide = λ z. omega (arith, s.wide z, ap (λ (xs : List (Option ℕ)). length xs) g, length-set latest (batch_in unit) (Some (length rows)));
      long = omega (arith, s.long, ap (λ (xs : List (Option ℕ)). length xs) f, length-set earlier (length rows) (slice_index_or latest (batch_in unit) None));
    }

take_front : (xs : List ℕ) (y n : ℕ) → n ≡ length xs → take n (xs ++ y ∷ []) ≡ xs
take_front [] y zero e = refl
take_front [] y (suc n) e = absurd (omega (arith, e))
take_front (x ∷ xs) y zero e = absurd (omega (arith, e))
take_front (x ∷ xs) y (suc n) e = ap (λ (zs : List ℕ). x ∷ zs) (take_front xs y n (omega (arith, e)))

apart_front : (xs : List Text) (y : Text) → IsDistinct same (xs ++ y ∷ []) → IsDistinct same xs
unfolding IsDistinct
apart_front [] y a = tt
apart_front (x ∷ xs) y a = (every_front (λ k. same x k ≡ false) xs y a.0, apart_front xs y a.1)
  where
    every_front : (P : Text → Type 0) (xs : List Text) (y : Text) → Every P (xs ++ y ∷ []) → Every P xs
    every_front P [] y a = tt
    every_front P (x ∷ xs) y a = (a.0, every_front P xs y a.1)

-- the last unit taken back
pub shelf_pop : (rows new : List UnitRow) (unit : UnitRow) (table after : Indexed) (capacity room : ℕ) (latest earlier latest2 : List (Option ℕ))
    → IsShelf rows table capacity latest earlier room → rows ≡ new ++ unit ∷ [] → after.hashes ≡ take (length table.hashes - 1) table.hashes → after.room ≡ table.room + 1 → batch_in unit < 2 ^ 16
    → latest2 ≡ set latest (batch_in unit) (slice_index_or earlier (length new) None) → IsShelf new after capacity latest2 earlier room
shelf_pop rows new unit table after capacity room latest earlier latest2 s e h r b g =
    let m : length rows ≡ length new + 1 = ap (λ (xs : List UnitRow). length xs) e ∙ length_push new unit in
    let hs : table.hashes ≡ map hash_in new ++ hash_in unit ∷ [] = s.hashed ∙ ap (map hash_in) e ∙ map_push hash_in new unit in
    let n : length table.hashes - 1 ≡ length (map hash_in new) = omega (arith, ap (λ (xs : List ℕ). length xs) hs, length_push (map hash_in new) (hash_in unit)) in
    let k : length (map batch_in new) ≡ length new = length-map new batch_in in
    let w = s.wide (omega (arith, m, s.within)) in
    let codes : IsDistinct same (map code_in new ++ code_in unit ∷ []) = subst (IsDistinct same) (ap (map code_in) e ∙ map_push code_in new unit) s.apart in
    record {
      hashed = h ∙ ap (λ (xs : List ℕ). take (length table.hashes - 1) xs) hs ∙ take_front (map hash_in new) (hash_in unit) _ n;
      placed = omega (arith, s.placed, m, r);
      reserved = s.reserved;
      within = omega (arith, m, s.within);
      few = s.few;
      apart = apart_front (map code_in new) (code_in unit) codes;
      chain = chain_pop (map batch_in new) (batch_in unit) latest earlier latest2 (subst (λ (bs : List ℕ). IsChain bs latest earlier) (ap (map batch_in) e ∙ map_push batch_in new unit) s.chain) (omega (arith, w, b))
          (g ∙ (λ z. set latest (batch_in unit) (slice_index_or earlier (sym k z) None)));
      wide = λ z. omega (arith, s.wide z, ap (λ (xs : List (Option ℕ)). length xs) g, length-set latest (batch_in unit) (slice_index_or earlier (length new) None));
      long = s.long;
    }

-- ---- a unit with another mark
pub marked_set : (units : List UnitRow) (at : ℕ) (unit : UnitRow) (mark : Mark) → at < length units → slice_index_or units at unit ≡ unit → set units at (record unit { mark = mark }) ≡ marked units at mark
marked_set [] at unit mark l e = absurd (omega (arith, l))
marked_set (u ∷ us) zero unit mark l e = ap (λ (x : UnitRow). (record x { mark = mark }) ∷ us) (sym e)
marked_set (u ∷ us) (suc at) unit mark l e = ap (λ (xs : List UnitRow). u ∷ xs) (marked_set us at unit mark (omega (arith, l)) e)

module _ {X : Type 0} (f : UnitRow → X) (keeps : (u : UnitRow) (mark : Mark) → f (record u { mark = mark }) ≡ f u) where
  marked_keeps : (units : List UnitRow) (at : ℕ) (mark : Mark) → map f (marked units at mark) ≡ map f units
  marked_keeps [] at mark = refl
  marked_keeps (u ∷ us) zero mark = ap (λ (x : X). x ∷ map f us) (keeps u mark)
  marked_keeps (u ∷ us) (suc at) mark = ap (λ (xs : List X). f u ∷ xs) (marked_keeps us at mark)

pub length_marked : (units : List UnitRow) (at : ℕ) (mark : Mark) → length (marked units at mark) ≡ length units
length_marked [] at mark = refl
length_marked (u ∷ us) zero mark = refl
length_marked (u ∷ us) (suc at) mark = ap suc (length_marked us at mark)

pub shelf_marked : (rows new : List UnitRow) (table : Indexed) (capacity capacity2 room at : ℕ) (mark : Mark) (latest earlier : List (Option ℕ))
    → IsShelf rows table capacity latest earlier room → new ≡ marked rows at mark → capacity2 ≡ capacity → IsShelf new table capacity2 latest earlier room
shelf_marked rows new table capacity capacity2 room at mark latest earlier s e c =
    let l : length new ≡ length rows = ap (λ (xs : List UnitRow). length xs) e ∙ length_marked rows at mark in
    record {
      hashed = s.hashed ∙ sym (ap (map hash_in) e ∙ marked_keeps hash_in (λ u m. refl) rows at mark);
      placed = omega (arith, s.placed, l);
      reserved = omega (arith, s.reserved, c);
      within = omega (arith, s.within, l);
      few = s.few;
      apart = subst (IsDistinct same) (sym (ap (map code_in) e ∙ marked_keeps code_in (λ u m. refl) rows at mark)) s.apart;
      chain = subst (λ (bs : List ℕ). IsChain bs latest earlier) (sym (ap (map batch_in) e ∙ marked_keeps batch_in (λ u m. refl) rows at mark)) s.chain;
      wide = s.wide;
      long = s.long;
    }

pub shelf_none : (rows : List UnitRow) (table : Indexed) (capacity : ℕ) (latest earlier : List (Option ℕ)) → rows ≡ [] → table.hashes ≡ [] → table.room ≡ 0 → latest ≡ [] → earlier ≡ [] → IsShelf rows table capacity latest earlier 0
shelf_none rows table capacity latest earlier e h r l a =
    let n : length rows ≡ 0 = ap (λ (xs : List UnitRow). length xs) e in
    record {
      hashed = h ∙ sym (ap (map hash_in) e);
      placed = omega arith;
      reserved = omega arith;
      within = omega (arith, n);
      few = omega arith;
      apart = subst AreApart (sym e) shelf_new.apart;
      chain = subst (λ (xs : List UnitRow). IsChain (map batch_in xs) latest earlier) (sym e) (subst (λ (ls : List (Option ℕ)). IsChain [] ls earlier) (sym l) (subst (λ (ls : List (Option ℕ)). IsChain [] [] ls) (sym a) shelf_new.chain));
      wide = λ z. absurd (omega (arith, z));
      long = omega arith;
    }

-- a mark given back
pub marked_back : (units : List UnitRow) (at : ℕ) (unit : UnitRow) (mark : Mark) → slice_get units at ≡ Some unit → marked (marked units at mark) at unit.mark ≡ units
marked_back [] at unit mark e = refl
marked_back (u ∷ us) zero unit mark e = let s : u ≡ unit = cc in ap (λ (x : UnitRow). (record u { mark = x.mark }) ∷ us) (sym s)
marked_back (u ∷ us) (suc at) unit mark e = ap (λ (xs : List UnitRow). u ∷ xs) (marked_back us at unit mark e)
