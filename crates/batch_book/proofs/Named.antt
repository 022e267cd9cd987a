-- Batches found, added, changed and taken back.
use Rattle.std.proofs.Common.{◌≡◌, ℕ, zero, suc, ◌+◌, ◌-◌, ◌<◌, true, false, List, [], ◌∷◌, ◌++◌, length, map, take, get_or, set, Some, None, refl, sym, ap, subst, ◌∙◌, arith, All}
use Rattle.std.specs.List.{IsDistinct, position}
use Rattle.std.proofs.lemmas.List.Sums.{position_or_len_is}
use Rattle.std.proofs.lemmas.List.{length-map, length_push, map_push, get_or-map, take_at, get_or_append_left}
use Rattle.std.proofs.lemmas.List.Folds.{list_any_none}
use Rattle.std.proofs.lemmas.Map.Keys.{IsDistinct-push, IsDistinct-from_apart, apart_from_distinct}
use Rattle.deed_words.specs.Names.{Text, same}
use Rattle.deed_words.specs.declared.words.Phase.{Phase}
use Rattle.deed_words.specs.declared.words.Phase.TheVariants.{Planned, Closed}
use Rattle.deed_words.specs.declared.world.Batch.{Batch}
use Rattle.deed_words.proofs.Sameness.{same-true, same_equiv}
use Rattle.place_table.specs.View.{Indexed}
use Rattle.place_table.specs.Hash.{text_hash}
use Rattle.batch_book.specs.Batches.{name_in, is_called, AreApart, IsNamed, changed, with_phase, with_quantity, phased, amended}
use Rattle.batch_book.specs.Ledgers.{hash_in, AreOrdered}
use Rattle.batch_book.proofs.Lists.{place_is, nowhere, all_push, all_front}

pub no_batch : Batch
no_batch = record {
  order = record { batch = []; gtin = []; lot = []; expiry = []; quantity = 0; case_size = 0; pallet_size = 0 };
  quantity = 0;
  phase = Planned;
}

-- ---- finding
-- the place of a batch of the name is the only one
pub found_there : (batches : List Batch) (name : Text) (at : ℕ) (d : Batch) → AreApart batches → at < length batches → is_called name (get_or batches at d) ≡ true → position (is_called name) batches ≡ Some at
unfolding is_called
found_there batches name at d a l n =
    let there : name_in (get_or batches at d) ≡ name = same-true _ _ n in
    let names : (k : ℕ) → k < length batches → get_or (map name_in batches) k name ≡ name_in (get_or batches k d) = λ k m. get_or-map name_in batches k d name m in
    let before : (k : ℕ) → k < at → is_called name (get_or batches k d) ≡ false = λ k m.
    subst (λ e. same (name_in (get_or batches k d)) e ≡ false) (names at l ∙ there)
    (subst (λ e. same e (get_or (map name_in batches) at name) ≡ false) (names k (omega (arith, m, l)))
    (apart_from_distinct same (map name_in batches) k at name a m (omega (arith, l, length-map batches name_in)))) in
    place_is (is_called name) batches at l (position_or_len_is (is_called name) batches at d (omega (arith, l)) before (λ m. n))

pub found_nowhere : (batches : List Batch) (name : Text) → All (λ batch. is_called name batch ≡ false) batches → position (is_called name) batches ≡ None
found_nowhere batches name a = nowhere (is_called name) batches a

-- a batch of the name has its hash
pub hash_there : (name : Text) (batch : Batch) → is_called name batch ≡ true → hash_in batch ≡ text_hash name
unfolding is_called
hash_there name batch n = ap text_hash (same-true _ _ n)

-- ---- no batches, one more, and one less
none_apart : AreApart []
unfolding IsDistinct
none_apart = tt

pub ordered_none : (batches : List Batch) (table : Indexed) (capacity : ℕ) → batches ≡ [] → table.hashes ≡ [] → AreOrdered batches table capacity 0
ordered_none batches table capacity e h =
    let n : length batches ≡ 0 = ap (λ (xs : List Batch). length xs) e in
    record {
      hashed = h ∙ sym (ap (map hash_in) e);
      room = omega arith;
      reserved = omega (arith, n);
      few = omega (arith, n);
      apart = subst AreApart (sym e) none_apart;
      named = λ k d l. absurd (omega (arith, l, n));
    }

no_name : (name : Text) (batch : Batch) → is_called name batch ≡ false → same name (name_in batch) ≡ false
unfolding is_called
no_name name batch e = sym (same_equiv.symm (name_in batch) name) ∙ e

apart_push : (batches : List Batch) (batch : Batch) → AreApart batches → All (λ other. is_called (name_in batch) other ≡ false) batches → AreApart (batches ++ batch ∷ [])
apart_push batches batch a new =
    let none : All (λ e. same (name_in batch) e ≡ false) (map name_in batches) = λ k d l.
    let m : k < length batches = omega (arith, l, length-map batches name_in) in
    subst (λ e. same (name_in batch) e ≡ false) (sym (get_or-map name_in batches k batch d m)) (no_name (name_in batch) (get_or batches k batch) (new k batch m)) in
    subst (IsDistinct same) (sym (map_push name_in batches batch)) (IsDistinct-push same_equiv (map name_in batches) (name_in batch) a (list_any_none (same (name_in batch)) (map name_in batches) none))

apart_front : (batches : List Batch) (batch : Batch) → AreApart (batches ++ batch ∷ []) → AreApart batches
apart_front batches batch a =
    let all : IsDistinct same (map name_in batches ++ name_in batch ∷ []) = subst (IsDistinct same) (map_push name_in batches batch) a in
    IsDistinct-from_apart same (map name_in batches) (λ i j d l m.
    let p : get_or (map name_in batches ++ name_in batch ∷ []) i d ≡ get_or (map name_in batches) i d = get_or_append_left (map name_in batches) (name_in batch ∷ []) d i (omega (arith, l, m)) in
    let q : get_or (map name_in batches ++ name_in batch ∷ []) j d ≡ get_or (map name_in batches) j d = get_or_append_left (map name_in batches) (name_in batch ∷ []) d j m in
    subst (λ e. same e (get_or (map name_in batches) j d) ≡ false) p (subst (λ e. same (get_or (map name_in batches ++ name_in batch ∷ []) i d) e ≡ false) q
    (apart_from_distinct same (map name_in batches ++ name_in batch ∷ []) i j d all l (omega (arith, m, length_push (map name_in batches) (name_in batch))))))

pub ordered_push : (batches new : List Batch) (batch : Batch) (table after : Indexed) (capacity room spare left : ℕ) → AreOrdered batches table capacity spare
    → new ≡ batches ++ batch ∷ [] → after.hashes ≡ table.hashes ++ hash_in batch ∷ [] → after.room + 1 ≡ table.room → room ≡ capacity → left + 1 ≡ spare
    → All (λ other. is_called (name_in batch) other ≡ false) batches → IsNamed batch → AreOrdered new after room left
ordered_push batches new batch table after capacity room spare left s e h r c l fresh named =
    let m : length new ≡ length batches + 1 = ap (λ (xs : List Batch). length xs) e ∙ length_push batches batch in
    record {
      hashed = h ∙ ap (λ hs. hs ++ hash_in batch ∷ []) s.hashed ∙ sym (map_push hash_in batches batch) ∙ ap (map hash_in) (sym e);
      room = omega (arith, s.room);
      reserved = omega (arith, s.reserved);
      few = omega (arith, s.few);
      apart = subst AreApart (sym e) (apart_push batches batch s.apart fresh);
      named = subst (λ (xs : List Batch). All IsNamed xs) (sym e) (all_push IsNamed batches batch s.named named);
    }

pub ordered_pop : (batches new : List Batch) (batch : Batch) (table after : Indexed) (capacity room spare left : ℕ) → AreOrdered batches table capacity spare
    → batches ≡ new ++ batch ∷ [] → after.hashes ≡ take (length table.hashes - 1) table.hashes → after.room ≡ table.room + 1 → room ≡ capacity → left ≡ spare + 1 → AreOrdered new after room left
ordered_pop batches new batch table after capacity room spare left s e h r c l =
    let m : length batches ≡ length new + 1 = ap (λ (xs : List Batch). length xs) e ∙ length_push new batch in
    let hs : table.hashes ≡ map hash_in new ++ hash_in batch ∷ [] = s.hashed ∙ ap (map hash_in) e ∙ map_push hash_in new batch in
    let n : length table.hashes - 1 ≡ length (map hash_in new) = omega (arith, ap (λ (xs : List ℕ). length xs) hs, length_push (map hash_in new) (hash_in batch)) in
    record {
      hashed = h ∙ ap (λ xs. take (length table.hashes - 1) xs) hs ∙ take_at (map hash_in new) (hash_in batch ∷ []) _ (sym n);
      room = omega (arith, s.room);
      reserved = omega (arith, s.reserved);
      few = omega (arith, s.few);
      apart = apart_front new batch (subst AreApart e s.apart);
      named = all_front IsNamed new batch (subst (λ (xs : List Batch). All IsNamed xs) e s.named);
    }

-- ---- one batch changed
module _ (change : Batch → Batch) where
  pub changed_set : (batches : List Batch) (at : ℕ) (batch : Batch) → at < length batches → get_or batches at batch ≡ batch → set batches at (change batch) ≡ changed change batches at
  changed_set [] at batch l e = absurd (omega (arith, l))
  changed_set (b ∷ bs) zero batch l e = ap (λ (x : Batch). change x ∷ bs) (sym e)
  changed_set (b ∷ bs) (suc at) batch l e = ap (λ (xs : List Batch). b ∷ xs) (changed_set bs at batch (omega (arith, l)) e)

  pub length_changed : (batches : List Batch) (at : ℕ) → length (changed change batches at) ≡ length batches
  length_changed [] at = refl
  length_changed (b ∷ bs) zero = refl
  length_changed (b ∷ bs) (suc at) = ap suc (length_changed bs at)

module _ {X : Type 0} (f : Batch → X) (change : Batch → Batch) (keeps : (b : Batch) → f (change b) ≡ f b) where
  pub changed_keeps : (batches : List Batch) (at : ℕ) → map f (changed change batches at) ≡ map f batches
  changed_keeps [] at = refl
  changed_keeps (b ∷ bs) zero = ap (λ (x : X). x ∷ map f bs) (keeps b)
  changed_keeps (b ∷ bs) (suc at) = ap (λ (xs : List X). f b ∷ xs) (changed_keeps bs at)

named_by : (batches other : List Batch) → map name_in other ≡ map name_in batches → length other ≡ length batches → All IsNamed batches → All IsNamed other
named_by batches other e m a k d l =
    let n : k < length batches = omega (arith, l, m) in
    subst (λ (t : Text). 0 < length t) (sym (get_or-map name_in batches k d [] n) ∙ ap (λ (ts : List Text). get_or ts k []) (sym e) ∙ get_or-map name_in other k d [] l) (a k d n)

pub ordered_changed : (change : Batch → Batch) (keeps : (b : Batch) → name_in (change b) ≡ name_in b) (batches new : List Batch) (table : Indexed) (capacity room spare at : ℕ)
    → AreOrdered batches table capacity spare → new ≡ changed change batches at → room ≡ capacity → AreOrdered new table room spare
ordered_changed change keeps batches new table capacity room spare at s e c =
    let m : length new ≡ length batches = ap (λ (xs : List Batch). length xs) e ∙ length_changed change batches at in
    let names : map name_in new ≡ map name_in batches = ap (map name_in) e ∙ changed_keeps name_in change keeps batches at in
    record {
      hashed = s.hashed ∙ sym (ap (map hash_in) e ∙ changed_keeps hash_in change (λ b. ap text_hash (keeps b)) batches at);
      room = s.room;
      reserved = omega (arith, s.reserved);
      few = omega (arith, s.few);
      apart = subst (IsDistinct same) (sym names) s.apart;
      named = named_by batches new names m s.named;
    }

-- ---- a phase and a quantity given back
pub phased_back : (batches : List Batch) (at : ℕ) (was phase : Phase) → at < length batches → ((d : Batch) → (get_or batches at d).phase ≡ was) → phased (phased batches at phase) at was ≡ batches
phased_back [] at was phase l e = refl
phased_back (b ∷ bs) zero was phase l e = ap (λ (p : Phase). with_phase p b ∷ bs) (sym (e b))
phased_back (b ∷ bs) (suc at) was phase l e = ap (λ (xs : List Batch). b ∷ xs) (phased_back bs at was phase (omega (arith, l)) e)

pub amended_back : (batches : List Batch) (at was quantity : ℕ) → at < length batches → ((d : Batch) → (get_or batches at d).quantity ≡ was) → amended (amended batches at quantity) at was ≡ batches
amended_back [] at was quantity l e = refl
amended_back (b ∷ bs) zero was quantity l e = ap (λ (q : ℕ). with_quantity q b ∷ bs) (sym (e b))
amended_back (b ∷ bs) (suc at) was quantity l e = ap (λ (xs : List Batch). b ∷ xs) (amended_back bs at was quantity (omega (arith, l)) e)

-- a batch isn't closed by another quantity
pub amended_open : (batches new : List Batch) (at quantity : ℕ) → at < length batches → new ≡ amended batches at quantity → ((d : Batch) → (get_or batches at d).phase ≡ Closed → ⊥) → (d : Batch) → (get_or new at d).phase ≡ Closed → ⊥
amended_open batches new at quantity l e open_ d = subst (λ (xs : List Batch). (get_or xs at d).phase ≡ Closed → ⊥) (sym e) (kept batches at quantity l open_ d)
  where
    kept : (batches : List Batch) (at quantity : ℕ) → at < length batches → ((d : Batch) → (get_or batches at d).phase ≡ Closed → ⊥) → (d : Batch) → (get_or (amended batches at quantity) at d).phase ≡ Closed → ⊥
    kept [] at quantity l o d = o d
    kept (b ∷ bs) zero quantity l o d = o d
    kept (b ∷ bs) (suc at) quantity l o d = kept bs at quantity (omega (arith, l)) o d
