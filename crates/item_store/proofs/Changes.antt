-- How the store's invariant goes from one state to the next.
use Rattle.std.proofs.Common.{◌≡◌, ℕ, min, zero, suc, Option, Bool, true, false, ◌+◌, ◌-◌, ◌<◌, ◌≤◌, List, [], ◌∷◌, ◌++◌, length, map, take, get_or, set, refl, sym, ap, subst, ◌∙◌, arith}
use Rattle.std.specs.Prelude.{cond, nat_lt, Some, None}
use Rattle.std.specs.List.{All, IsDistinct, position, position_or_len, slice_get}
use Rattle.std.proofs.lemmas.List.Sums.{position_or_len_is}
use Rattle.std.proofs.lemmas.Bool.Decides.{nat_tests}
use Rattle.place_table.specs.Hash.{pair_hash}
use Rattle.std.proofs.lemmas.List.{length-set, length-map, length_push, take_at, map_push, map-set, get_or-map, set-get_or, get_or_append_left, get_or_push, get_or-set_same, get_or-set_other, get_or_default, get_or_past, set_past}
use Rattle.std.proofs.lemmas.List.Folds.{list_any_none}
use Rattle.std.proofs.lemmas.Map.Keys.{IsDistinct-push, IsDistinct-from_apart, apart_from_distinct}
use Rattle.epc_urn.specs.declared.epc.Epc.TheVariants.{Item}
use Rattle.deed_words.specs.Names.{Text, same_name}
use Rattle.deed_words.proofs.Sameness.{same_name-true, same_name_equiv}
use Rattle.deed_words.specs.declared.words.State.{State}
use Rattle.deed_words.specs.declared.words.State.TheVariants.{Fresh}
use native.Mathlib.Decide.{dec_lt, ℕ_discrete}
use Rattle.place_table.specs.View.{Indexed}
use Rattle.item_store.specs.declared.row.ItemRow.{ItemRow}
use Rattle.row_chains.specs.Chains.{Grouped}
use Rattle.item_store.specs.Rows.{is_named, item_name, AreApart, IsLined, batch_in, batches, moved_row, changed}
use Rattle.item_store.specs.Cells.{state_cell, line_cell, IsTally, raised, lowered}
use Rattle.item_store.specs.Store.{hash_in, AreBehind, back_to, IsStore}
use Rattle.item_store.proofs.Tallies.{tally_push, tally_pop, tally_set}

-- a name that no row has
no_name : (gtin serial : Text) (row : ItemRow) → is_named gtin serial row ≡ false → same_name (Item gtin serial) (item_name row) ≡ false
unfolding is_named
no_name gtin serial row e = sym (same_name_equiv.symm (item_name row) (Item gtin serial)) ∙ e

apart_push : (rows : List ItemRow) (row : ItemRow) → AreApart rows → All (λ r. is_named row.gtin row.serial r ≡ false) rows → AreApart (rows ++ row ∷ [])
apart_push rows row a new =
    let none : All (λ e. same_name (item_name row) e ≡ false) (map item_name rows) = λ k d l.
    let m : k < length rows = omega (arith, l, length-map rows item_name) in
    subst (λ e. same_name (item_name row) e ≡ false) (sym (get_or-map item_name rows k row d m)) (no_name row.gtin row.serial (get_or rows k row) (new k row m)) in
    subst (IsDistinct same_name) (sym (map_push item_name rows row)) (IsDistinct-push same_name_equiv (map item_name rows) (item_name row) a (list_any_none (same_name (item_name row)) (map item_name rows) none))

apart_front : (rows : List ItemRow) (row : ItemRow) → AreApart (rows ++ row ∷ []) → AreApart rows
apart_front rows row a =
    let all : IsDistinct same_name (map item_name rows ++ item_name row ∷ []) = subst (IsDistinct same_name) (map_push item_name rows row) a in
    IsDistinct-from_apart same_name (map item_name rows) (λ i j d l m.
    let p : get_or (map item_name rows ++ item_name row ∷ []) i d ≡ get_or (map item_name rows) i d = get_or_append_left (map item_name rows) (item_name row ∷ []) d i (omega (arith, l, m)) in
    let q : get_or (map item_name rows ++ item_name row ∷ []) j d ≡ get_or (map item_name rows) j d = get_or_append_left (map item_name rows) (item_name row ∷ []) d j m in
    subst (λ e. same_name e (get_or (map item_name rows) j d) ≡ false) p (subst (λ e. same_name (get_or (map item_name rows ++ item_name row ∷ []) i d) e ≡ false) q
    (apart_from_distinct same_name (map item_name rows ++ item_name row ∷ []) i j d all l (omega (arith, m, length_push (map item_name rows) (item_name row))))))

-- the row has a line exactly where it isn't Fresh
abbrev HasLine : ItemRow → Type 0
HasLine row = IsLined row.line row.state

all_push : (P : ItemRow → Type 0) (rows : List ItemRow) (row : ItemRow) → All P rows → P row → All P (rows ++ row ∷ [])
all_push P rows row a p k d l =
    let m = length_push rows row in
    elim (ℕ_discrete k (length rows)) [
      | yes e ↦ subst P (sym (get_or_push rows row d k (sym e))) p
      | no e ↦ let q : k < length rows = omega arith in subst P (sym (get_or_append_left rows (row ∷ []) d k q)) (a k d q)
    ]

all_front : (P : ItemRow → Type 0) (rows : List ItemRow) (row : ItemRow) → All P (rows ++ row ∷ []) → All P rows
all_front P rows row a k d l = subst P (get_or_append_left rows (row ∷ []) d k l) (a k d (omega (arith, length_push rows row)))

-- ---- the cursors
row_other : (rows : List ItemRow) (row : ItemRow) (i : ℕ) (d : ItemRow) → i < length rows → get_or (rows ++ row ∷ []) i d ≡ get_or rows i d
row_other rows row i d l = get_or_append_left rows (row ∷ []) d i l

-- a cursor that went back was no earlier
pub back_le : (cs : List ℕ) (b at c : ℕ) → get_or (back_to cs b at) c 0 ≤ get_or cs c 0
back_le cs b at c = elim (ℕ_discrete c b) [
  | yes e ↦ elim (dec_lt b (length cs)) [
    | yes l ↦
        let z : get_or (back_to cs b at) c 0 ≡ min (get_or cs b 0) at = ap (λ x. get_or (back_to cs b at) x 0) e ∙ get_or-set_same cs b (min (get_or cs b 0) at) 0 l in
        let y : get_or cs c 0 ≡ get_or cs b 0 = ap (λ x. get_or cs x 0) e in
        omega arith
    | no l ↦ let z : get_or (back_to cs b at) c 0 ≡ get_or cs c 0 = ap (λ (xs : List ℕ). get_or xs c 0) (set_past cs b (min (get_or cs b 0) at) (omega arith)) in omega arith
  ]
  | no ne ↦ let z = get_or-set_other cs b c (min (get_or cs b 0) at) 0 ne in omega arith
]

pub back_own : (cs : List ℕ) (b at : ℕ) → get_or (back_to cs b at) b 0 ≤ at
back_own cs b at = elim (dec_lt b (length cs)) [
  | yes l ↦ let z = get_or-set_same cs b (min (get_or cs b 0) at) 0 l in omega arith
  | no l ↦
      let z : get_or (back_to cs b at) b 0 ≡ get_or cs b 0 = ap (λ (xs : List ℕ). get_or xs b 0) (set_past cs b (min (get_or cs b 0) at) (omega arith)) in
      let y : get_or cs b 0 ≡ 0 = get_or_past cs b 0 (omega arith) in
      omega arith
]

behind_push : (rows : List ItemRow) (cs : List ℕ) (row : ItemRow) → AreBehind rows cs → AreBehind (rows ++ row ∷ []) (back_to cs row.batch (length rows))
behind_push rows cs row x = record {
  behind = λ i d p q f.
      let m = length_push rows row in
      let ds = back_to cs row.batch (length rows) in
      elim (ℕ_discrete i (length rows)) [
        | yes e ↦
            let a : get_or (rows ++ row ∷ []) i d ≡ row = get_or_push rows row d i (sym e) in
            let b : i < get_or ds row.batch 0 = subst (λ (r : ItemRow). i < get_or ds r.batch 0) a q in
            omega (arith, back_own cs row.batch (length rows))
        | no e ↦
            let l : i < length rows = omega arith in
            let a = row_other rows row i d l in
            let b : i < get_or ds (get_or rows i d).batch 0 = subst (λ (r : ItemRow). i < get_or ds r.batch 0) a q in
            x.behind i d l (omega (arith, back_le cs row.batch (length rows) (get_or rows i d).batch)) (subst (λ (r : ItemRow). r.state ≡ Fresh) a f)
      ];
}

behind_front : (rows : List ItemRow) (row : ItemRow) (cs : List ℕ) → AreBehind (rows ++ row ∷ []) cs → AreBehind rows cs
behind_front rows row cs x = record {
  behind = λ i d p q f.
      let a = row_other rows row i d p in
      x.behind i d (omega (arith, length_push rows row)) (subst (λ (r : ItemRow). i < get_or cs r.batch 0) (sym a) q) (subst (λ (r : ItemRow). r.state ≡ Fresh) (sym a) f);
}

-- a row that isn't Fresh afterwards
pub behind_set : (rows : List ItemRow) (cs : List ℕ) (at : ℕ) (row : ItemRow) → AreBehind rows cs → at < length rows → (row.state ≡ Fresh → ⊥) → AreBehind (set rows at row) cs
behind_set rows cs at row x within not_fresh = record {
  behind = λ i d p q f.
      let m = length-set rows at row in
      elim (ℕ_discrete i at) [
        | yes e ↦
            let a : get_or (set rows at row) i d ≡ row = ap (λ y. get_or (set rows at row) y d) e ∙ get_or-set_same rows at row d within in
            not_fresh (subst (λ (r : ItemRow). r.state ≡ Fresh) a f)
        | no e ↦
            let a = get_or-set_other rows at i row d e in
            x.behind i d (omega arith) (subst (λ (r : ItemRow). i < get_or cs r.batch 0) a q) (subst (λ (r : ItemRow). r.state ≡ Fresh) a f)
      ];
}

-- a row that may be Fresh: its batch's cursor goes back to it
pub behind_back : (rows : List ItemRow) (cs : List ℕ) (at : ℕ) (row : ItemRow) → AreBehind rows cs → at < length rows → AreBehind (set rows at row) (back_to cs row.batch at)
behind_back rows cs at row x within = record {
  behind = λ i d p q f.
      let m = length-set rows at row in
      let ds = back_to cs row.batch at in
      elim (ℕ_discrete i at) [
        | yes e ↦
            let a : get_or (set rows at row) i d ≡ row = ap (λ y. get_or (set rows at row) y d) e ∙ get_or-set_same rows at row d within in
            let b : i < get_or ds row.batch 0 = subst (λ (r : ItemRow). i < get_or ds r.batch 0) a q in
            omega (arith, back_own cs row.batch at)
        | no e ↦
            let a = get_or-set_other rows at i row d e in
            let b : i < get_or ds (get_or rows i d).batch 0 = subst (λ (r : ItemRow). i < get_or ds r.batch 0) a q in
            x.behind i d (omega arith) (omega (arith, back_le cs row.batch at (get_or rows i d).batch)) (subst (λ (r : ItemRow). r.state ≡ Fresh) a f)
      ];
}

-- the last row added
pub store_push : (rows new : List ItemRow) (row : ItemRow) (table after : Indexed) (chains longer : Grouped) (capacity room spare left : ℕ) (cells counted lines told cursors after_cursors : List ℕ)
    → IsStore rows table chains capacity spare cells lines cursors → new ≡ rows ++ row ∷ [] → after.hashes ≡ table.hashes ++ hash_in row ∷ [] → after.room + 1 ≡ table.room → longer.groups ≡ chains.groups ++ row.batch ∷ [] → longer.room + 1 ≡ chains.room
    → room ≡ capacity → left + 1 ≡ spare → counted ≡ raised cells (state_cell row) → told ≡ raised lines (line_cell row)
    → All (λ r. is_named row.gtin row.serial r ≡ false) rows → IsLined row.line row.state → after_cursors ≡ back_to cursors row.batch (length rows) → IsStore new after longer room left counted told after_cursors
store_push rows new row table after chains longer capacity room spare left cells counted lines told cursors after_cursors s e h r g q c l t u fresh lined back =
    let m : length new ≡ length rows + 1 = ap (λ (xs : List ItemRow). length xs) e ∙ length_push rows row in
    record {
      hashed = h ∙ ap (λ hs. hs ++ hash_in row ∷ []) s.hashed ∙ sym (map_push hash_in rows row) ∙ ap (map hash_in) (sym e);
      room = omega (arith, s.room);
      grouped = g ∙ ap (λ gs. gs ++ row.batch ∷ []) s.grouped ∙ sym (map_push batch_in rows row) ∙ ap batches (sym e);
      chained = omega (arith, s.chained);
      reserved = omega (arith, s.reserved);
      few = omega (arith, s.few);
      apart = subst AreApart (sym e) (apart_push rows row s.apart fresh);
      lined = subst (λ (xs : List ItemRow). All HasLine xs) (sym e) (all_push HasLine rows row s.lined lined);
      by_state = subst (IsTally state_cell new) (sym t) (subst (λ (xs : List ItemRow). IsTally state_cell xs (raised cells (state_cell row))) (sym e) (tally_push state_cell rows cells s.by_state row));
      by_line = subst (IsTally line_cell new) (sym u) (subst (λ (xs : List ItemRow). IsTally line_cell xs (raised lines (line_cell row))) (sym e) (tally_push line_cell rows lines s.by_line row));
      fresh = subst (AreBehind new) (sym back) (subst (λ (xs : List ItemRow). AreBehind xs (back_to cursors row.batch (length rows))) (sym e) (behind_push rows cursors row s.fresh));
    }

-- the last row taken back
pub store_pop : (rows new : List ItemRow) (row : ItemRow) (table after : Indexed) (chains shorter : Grouped) (capacity room spare left : ℕ) (cells counted lines told cursors : List ℕ)
    → IsStore rows table chains capacity spare cells lines cursors → rows ≡ new ++ row ∷ [] → after.hashes ≡ take (length table.hashes - 1) table.hashes → after.room ≡ table.room + 1
    → shorter.groups ≡ take (length chains.groups - 1) chains.groups → shorter.room ≡ chains.room + 1
    → room ≡ capacity → left ≡ spare + 1 → counted ≡ lowered cells (state_cell row) → told ≡ lowered lines (line_cell row) → IsStore new after shorter room left counted told cursors
store_pop rows new row table after chains shorter capacity room spare left cells counted lines told cursors s e h r g q c l t u =
    let m : length rows ≡ length new + 1 = ap (λ (xs : List ItemRow). length xs) e ∙ length_push new row in
    let hs : table.hashes ≡ map hash_in new ++ hash_in row ∷ [] = s.hashed ∙ ap (map hash_in) e ∙ map_push hash_in new row in
    let gs : chains.groups ≡ batches new ++ row.batch ∷ [] = s.grouped ∙ ap batches e ∙ map_push batch_in new row in
    let k : length chains.groups - 1 ≡ length (batches new) = omega (arith, ap (λ (xs : List ℕ). length xs) gs, length_push (batches new) row.batch) in
    let n : length table.hashes - 1 ≡ length (map hash_in new) = omega (arith, ap (λ (xs : List ℕ). length xs) hs, length_push (map hash_in new) (hash_in row)) in
    record {
      hashed = h ∙ ap (λ xs. take (length table.hashes - 1) xs) hs ∙ take_at (map hash_in new) (hash_in row ∷ []) _ (sym n);
      room = omega (arith, s.room);
      grouped = g ∙ ap (λ xs. take (length chains.groups - 1) xs) gs ∙ take_at (batches new) (row.batch ∷ []) _ (sym k);
      chained = omega (arith, s.chained);
      reserved = omega (arith, s.reserved);
      few = omega (arith, s.few);
      apart = apart_front new row (subst AreApart e s.apart);
      lined = all_front HasLine new row (subst (λ (xs : List ItemRow). All HasLine xs) e s.lined);
      by_state = subst (IsTally state_cell new) (sym t) (tally_pop state_cell new row cells (subst (λ (xs : List ItemRow). IsTally state_cell xs cells) e s.by_state));
      by_line = subst (IsTally line_cell new) (sym u) (tally_pop line_cell new row lines (subst (λ (xs : List ItemRow). IsTally line_cell xs lines) e s.by_line));
      fresh = behind_front new row cursors (subst (λ (xs : List ItemRow). AreBehind xs cursors) e s.fresh);
    }

-- ---- one row changed
pub changed_is : (rows : List ItemRow) (at : ℕ) (row : ItemRow) (line : Option ℕ) (state : State) → at < length rows → row ≡ get_or rows at row → changed rows at line state ≡ set rows at (moved_row row line state)
changed_is [] at row line state l e = absurd (omega arith)
changed_is (r ∷ rows) zero row line state l e = ap (λ (x : ItemRow). moved_row x line state ∷ rows) (sym e)
changed_is (r ∷ rows) (suc at) row line state l e = ap (λ xs. r ∷ xs) (changed_is rows at row line state (omega arith) e)

-- ---- places that pass
cond_yes : (b : Bool) (n : ℕ) → b ≡ true → cond b (Some n) None ≡ Some n
cond_yes true n e = refl
cond_yes false n e = absurd (cc)

cond_no : (b : Bool) (n : ℕ) → b ≡ false → cond b (Some n) None ≡ None
cond_no true n e = absurd (cc)
cond_no false n e = refl

pub place_is : (test : ItemRow → Bool) (rows : List ItemRow) (at : ℕ) → at < length rows → position_or_len test rows ≡ at → position test rows ≡ Some at
place_is test rows at l e = cond_yes (nat_lt (position_or_len test rows) (length rows)) (position_or_len test rows) (grind (arith, nat_tests, e, l)) ∙ ap Some e

pub nowhere : (test : ItemRow → Bool) (rows : List ItemRow) → All (λ row. test row ≡ false) rows → position test rows ≡ None
nowhere test [] a = refl
nowhere test (row ∷ rows) a =
    let e : position_or_len test (row ∷ rows) ≡ length (row ∷ rows) = position_or_len_is test (row ∷ rows) (length (row ∷ rows)) row (omega arith) (λ k l. a k row l) (λ l. absurd (omega (arith, l))) in
    cond_no (nat_lt (position_or_len test (row ∷ rows)) (length (row ∷ rows))) (position_or_len test (row ∷ rows)) (grind (arith, nat_tests, e))

-- a row that keeps its name
module _ (rows : List ItemRow) (at : ℕ) (old row : ItemRow) (within : at < length rows) (read : old ≡ get_or rows at old) (kept : item_name row ≡ item_name old) where
  read_any : (d : ItemRow) → get_or rows at d ≡ old
  read_any d = get_or_default rows at d old within ∙ sym read

  names_set : map item_name (set rows at row) ≡ map item_name rows
  names_set =
      map-set item_name rows at row
      ∙ ap (set (map item_name rows) at) (kept ∙ sym (ap item_name (read_any old)) ∙ sym (get_or-map item_name rows at old (item_name old) within))
      ∙ set-get_or (map item_name rows) at (item_name old)

  hashes_set : hash_in row ≡ hash_in old → map hash_in (set rows at row) ≡ map hash_in rows
  hashes_set same =
      map-set hash_in rows at row
      ∙ ap (set (map hash_in rows) at) (same ∙ sym (ap hash_in (read_any old)) ∙ sym (get_or-map hash_in rows at old 0 within))
      ∙ set-get_or (map hash_in rows) at 0

  lined_set : All HasLine rows → HasLine row → All HasLine (set rows at row)
  lined_set a p k d l = elim (ℕ_discrete k at) [
    | yes e ↦ subst HasLine (sym (ap (λ x. get_or (set rows at row) x d) e ∙ get_or-set_same rows at row d within)) p
    | no e ↦ subst HasLine (sym (get_or-set_other rows at k row d e)) (a k d (omega (arith, length-set rows at row)))
  ]

  tally_there : (f : ItemRow → ℕ) (cells : List ℕ) → IsTally f rows cells → IsTally f (set rows at row) (raised (lowered cells (f old)) (f row))
  tally_there f cells t = subst (λ (r : ItemRow). IsTally f (set rows at row) (raised (lowered cells (f r)) (f row))) (read_any old) (tally_set f rows cells t at old row within)

  pub batches_set : row.batch ≡ old.batch → batches (set rows at row) ≡ batches rows
  batches_set same =
      map-set batch_in rows at row
      ∙ ap (set (batches rows) at) (same ∙ sym (ap batch_in (read_any old)) ∙ sym (get_or-map batch_in rows at old 0 within))
      ∙ set-get_or (batches rows) at 0

  pub store_set : (new : List ItemRow) (table : Indexed) (chains : Grouped) (capacity room spare : ℕ) (cells counted lines told cursors after_cursors : List ℕ)
      → IsStore rows table chains capacity spare cells lines cursors → new ≡ set rows at row → room ≡ capacity → hash_in row ≡ hash_in old → row.batch ≡ old.batch
      → counted ≡ raised (lowered cells (state_cell old)) (state_cell row) → told ≡ raised (lowered lines (line_cell old)) (line_cell row)
      → HasLine row → AreBehind new after_cursors → IsStore new table chains room spare counted told after_cursors
  store_set new table chains capacity room spare cells counted lines told cursors after_cursors s e c same own t u lined behind =
      let m : length new ≡ length rows = ap (λ (xs : List ItemRow). length xs) e ∙ length-set rows at row in
      record {
        hashed = s.hashed ∙ sym (hashes_set same) ∙ ap (map hash_in) (sym e);
        room = s.room;
        grouped = s.grouped ∙ sym (batches_set own) ∙ ap batches (sym e);
        chained = s.chained;
        reserved = omega (arith, s.reserved);
        few = omega (arith, s.few);
        apart = subst AreApart (sym e) (subst (IsDistinct same_name) (sym names_set) s.apart);
        lined = subst (λ (xs : List ItemRow). All HasLine xs) (sym e) (lined_set s.lined lined);
        by_state = subst (IsTally state_cell new) (sym t) (subst (λ (xs : List ItemRow). IsTally state_cell xs (raised (lowered cells (state_cell old)) (state_cell row))) (sym e) (tally_there state_cell cells s.by_state));
        by_line = subst (IsTally line_cell new) (sym u) (subst (λ (xs : List ItemRow). IsTally line_cell xs (raised (lowered lines (line_cell old)) (line_cell row))) (sym e) (tally_there line_cell lines s.by_line));
        fresh = behind;
      }

-- ---- finding
-- the place of a row of the name is the only one
pub found_there : (rows : List ItemRow) (gtin serial : Text) (at : ℕ) (d : ItemRow) → AreApart rows → at < length rows → is_named gtin serial (get_or rows at d) ≡ true → position (is_named gtin serial) rows ≡ Some at
unfolding is_named
found_there rows gtin serial at d a l n =
    let there : item_name (get_or rows at d) ≡ Item gtin serial = same_name-true _ _ n in
    let names : (k : ℕ) → k < length rows → get_or (map item_name rows) k (Item gtin serial) ≡ item_name (get_or rows k d) = λ k m. get_or-map item_name rows k d (Item gtin serial) m in
    let before : (k : ℕ) → k < at → is_named gtin serial (get_or rows k d) ≡ false = λ k m.
    subst (λ e. same_name (item_name (get_or rows k d)) e ≡ false) (names at l ∙ there)
    (subst (λ e. same_name e (get_or (map item_name rows) at (Item gtin serial)) ≡ false) (names k (omega (arith, m, l)))
    (apart_from_distinct same_name (map item_name rows) k at (Item gtin serial) a m (omega (arith, l, length-map rows item_name)))) in
    place_is (is_named gtin serial) rows at l (position_or_len_is (is_named gtin serial) rows at d (omega (arith, l)) before (λ m. n))

pub found_nowhere : (rows : List ItemRow) (gtin serial : Text) → All (λ row. is_named gtin serial row ≡ false) rows → position (is_named gtin serial) rows ≡ None
found_nowhere rows gtin serial a = nowhere (is_named gtin serial) rows a

-- a row of the name has its hash
pub hash_there : (gtin serial : Text) (row : ItemRow) → is_named gtin serial row ≡ true → hash_in row ≡ pair_hash gtin serial
unfolding is_named
hash_there gtin serial row n =
    let e : item_name row ≡ Item gtin serial = same_name-true _ _ n in
    let one : row.gtin ≡ gtin = cc in
    let two : row.serial ≡ serial = cc in
    ap (λ g. pair_hash g row.serial) one ∙ ap (pair_hash gtin) two

-- ---- no rows
none_apart : AreApart []
unfolding IsDistinct
none_apart = tt

pub store_none : (table : Indexed) (chains : Grouped) (capacity : ℕ) → table.hashes ≡ [] → chains.groups ≡ [] → IsStore [] table chains capacity 0 [] [] []
store_none table chains capacity h g = record {
  hashed = h;
  room = omega arith;
  grouped = g;
  chained = omega arith;
  reserved = omega arith;
  few = omega arith;
  apart = none_apart;
  lined = λ k d l. absurd (omega (arith, l));
  by_state = record { each = λ at l. absurd (omega (arith, l)) };
  by_line = record { each = λ at l. absurd (omega (arith, l)) };
  fresh = record { behind = λ i d l m f. absurd (omega (arith, l)) };
}

-- ---- taken back
pub front_is : (rows : List ItemRow) (row : ItemRow) → take (length (rows ++ row ∷ []) - 1) (rows ++ row ∷ []) ≡ rows
front_is rows row = take_at rows (row ∷ []) _ (omega (arith, length_push rows row))

pub changed_back : (rows : List ItemRow) (at : ℕ) (row : ItemRow) (line : Option ℕ) (state : State) → slice_get rows at ≡ Some row → changed (changed rows at line state) at row.line row.state ≡ rows
changed_back [] at row line state e = refl
changed_back (r ∷ rows) zero row line state e = let s : r ≡ row = cc in ap (λ (x : ItemRow). moved_row r x.line x.state ∷ rows) (sym s)
changed_back (r ∷ rows) (suc at) row line state e = ap (λ (xs : List ItemRow). r ∷ xs) (changed_back rows at row line state e)

pub length_changed : (rows : List ItemRow) (at : ℕ) (line : Option ℕ) (state : State) → length (changed rows at line state) ≡ length rows
length_changed [] at line state = refl
length_changed (r ∷ rows) zero line state = refl
length_changed (r ∷ rows) (suc at) line state = ap suc (length_changed rows at line state)
