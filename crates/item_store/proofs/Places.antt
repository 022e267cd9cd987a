-- The Fresh rows from a cursor on, and a row by its place.
use Rattle.std.proofs.Common.{◌≡◌, ℕ, zero, suc, ◌+◌, ◌<◌, ◌&&◌, Bool, true, false, cond, List, [], ◌∷◌, length, drop, get_or, Some, refl, sym, ap, subst, ◌∙◌, arith}
use Rattle.std.specs.List.{slice_get}
use borrow.Author.Tests.{eqb-true}
use Rattle.deed_words.specs.declared.words.State.{State}
use Rattle.deed_words.specs.declared.words.State.TheVariants.{Fresh, Lent, Returned, Spoiled, Active, Sampled, Rejected, Gone}
use Rattle.item_store.specs.declared.row.ItemRow.{ItemRow}
use Rattle.item_store.specs.Rows.{state_code, is_in, moved_row, changed, restated, places_of, fresh_places}
use Rattle.item_store.specs.Store.{AreBehind}

fresh_code : (s : State) → state_code s ≡ 0 → s ≡ Fresh
fresh_code Fresh e = refl
fresh_code Lent e = absurd (omega arith)
fresh_code Returned e = absurd (omega arith)
fresh_code Spoiled e = absurd (omega arith)
fresh_code Active e = absurd (omega arith)
fresh_code Sampled e = absurd (omega arith)
fresh_code Rejected e = absurd (omega arith)
fresh_code Gone e = absurd (omega arith)

pub left_true : (a b : Bool) → (a && b) ≡ true → a ≡ true
left_true true b e = refl
left_true false b e = e

right_true : (a b : Bool) → (a && b) ≡ true → b ≡ true
right_true true b e = e
right_true false b e = cc

pub false_by : (t : Bool) → (t ≡ true → ⊥) → t ≡ false
false_by true n = absurd (n refl)
false_by false n = refl

-- the places that pass begin behind those that don't
pub places_skip : (test : ItemRow → Bool) (rows : List ItemRow) (from skip : ℕ) → ((i : ℕ) (d : ItemRow) → i < skip → i < length rows → test (get_or rows i d) ≡ false) → places_of test from rows ≡ places_of test (from + skip) (drop skip rows)
places_skip test [] from zero none = refl
places_skip test [] from (suc skip) none = refl
places_skip test (row ∷ rows) from zero none = let e : from ≡ from + 0 = omega arith in ap (λ n. places_of test n (row ∷ rows)) e
places_skip test (row ∷ rows) from (suc skip) none =
    let h : test row ≡ false = none 0 row (omega arith) (omega arith) in
    let e : from + 1 + skip ≡ from + suc skip = omega arith in
    ap (λ b. cond b (from ∷ places_of test (from + 1) rows) (places_of test (from + 1) rows)) h
    ∙ places_skip test rows (from + 1) skip (λ i d l m. none (suc i) d (omega arith) (omega arith))
    ∙ ap (λ n. places_of test n (drop skip rows)) e

-- no Fresh row of the batch is before its cursor
pub fresh_behind : (rows : List ItemRow) (cs : List ℕ) (batch : ℕ) → AreBehind rows cs → fresh_places batch rows ≡ places_of (is_in batch Fresh) (get_or cs batch 0) (drop (get_or cs batch 0) rows)
fresh_behind rows cs batch x =
    let c : ℕ = get_or cs batch 0 in
    let z : 0 + c ≡ c = omega arith in
    places_skip (is_in batch Fresh) rows 0 c (λ i d l m. false_by _ (λ t.
    let row = get_or rows i d in
    let b : row.batch ≡ batch = eqb-true _ _ (left_true _ _ t) in
    let f : row.state ≡ Fresh = fresh_code row.state (eqb-true _ _ (right_true _ _ t)) in
    x.behind i d m (subst (λ n. i < get_or cs n 0) (sym b) l) f))
    ∙ ap (λ n. places_of (is_in batch Fresh) n (drop c rows)) z

-- a row that was read
pub get_or_got : (rows : List ItemRow) (at : ℕ) (row d : ItemRow) → slice_get rows at ≡ Some row → get_or rows at d ≡ row
get_or_got [] at row d e = cc
get_or_got (r ∷ rows) zero row d e = cc
get_or_got (r ∷ rows) (suc at) row d e = get_or_got rows at row d e

pub restated_is : (rows : List ItemRow) (at : ℕ) (row : ItemRow) (state : State) → slice_get rows at ≡ Some row → restated rows at state ≡ changed rows at row.line state
restated_is [] at row state e = refl
restated_is (r ∷ rows) zero row state e = let f : r ≡ row = cc in ap (λ (x : ItemRow). moved_row r x.line state ∷ rows) f
restated_is (r ∷ rows) (suc at) row state e = ap (λ xs. r ∷ xs) (restated_is rows at row state e)
