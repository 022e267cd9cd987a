-- Rows turned, and turned back.
use Rattle.std.proofs.Common.{◌≡◌, ◌<◌, ℕ, zero, suc, List, [], ◌∷◌, length, get_or, Option, refl, sym, ap, ◌∙◌, subst, arith}
use Rattle.std.proofs.lemmas.Option.{slice_get_within}
use Rattle.std.proofs.lemmas.List.{get_or-map}
use Rattle.deed_words.specs.declared.words.State.{State}
use Rattle.item_store.specs.declared.row.ItemRow.{ItemRow}
use Rattle.item_store.specs.Rows.{Store, changed, batch_in, batches}
use Rattle.item_store.proofs.Changes.{changed_back, length_changed}
use Rattle.pack_tree.specs.Trees.{Forest}
use Rattle.pack_tree.proofs.Stepping.{kept_by_all, kept_back}
use Rattle.batch_book.specs.Ledgers.{Ledger}
use Rattle.site_stores.specs.declared.change.Turn.{Turn}
use Rattle.site_stores.specs.Changes.{one_turned, one_turned_back, IsTurn, turned, turned_back}
use Rattle.site_stores.specs.Holding.{AreOne}

-- what was turned and is turned back is as it was
pub turn_law : (rows : List ItemRow) (turn : Turn) → IsTurn rows turn → one_turned_back (one_turned rows turn) turn ≡ rows
turn_law rows turn is =
    let new : List ItemRow = one_turned rows turn in
    ap (λ (line : Option ℕ). changed new turn.item line turn.old_state) (sym is.line) ∙ ap (λ (state : State). changed new turn.item is.row.line state) (sym is.state)
    ∙ changed_back rows turn.item is.row turn.new_line turn.new_state is.there

pub turn_there : (rows : List ItemRow) (turn : Turn) → IsTurn rows turn → turn.item < length rows
turn_there rows turn is = slice_get_within rows turn.item is.row is.there

-- a row turned from these is there afterwards too
pub turned_there : (rows new : List ItemRow) (turn : Turn) → IsTurn rows turn → new ≡ one_turned rows turn → turn.item < length new
turned_there rows new turn is e = subst (λ (n : ℕ). turn.item < n) (sym (ap (λ (rs : List ItemRow). length rs) e ∙ length_changed rows turn.item turn.new_line turn.new_state)) (turn_there rows turn is)

-- ---- what rows that turn keep
batches_changed : (rows : List ItemRow) (at : ℕ) (line : Option ℕ) (state : State) → batches (changed rows at line state) ≡ batches rows
batches_changed [] at line state = refl
batches_changed (row ∷ rows) zero line state = refl
batches_changed (row ∷ rows) (suc at) line state = ap (λ (bs : List ℕ). row.batch ∷ bs) (batches_changed rows at line state)

pub length_turned : (rows : List ItemRow) (turns : List Turn) → length (turned rows turns) ≡ length rows
length_turned rows turns = kept_by_all (λ (rs : List ItemRow). length rs) one_turned (λ rs t. length_changed rs t.item t.new_line t.new_state) rows turns

pub length_back : (rows : List ItemRow) (turns : List Turn) → length (turned_back rows turns) ≡ length rows
length_back rows turns = kept_back (λ (rs : List ItemRow). length rs) one_turned_back (λ rs t. length_changed rs t.item t.old_line t.old_state) rows turns

pub batches_turned : (rows : List ItemRow) (turns : List Turn) → batches (turned rows turns) ≡ batches rows
batches_turned rows turns = kept_by_all batches one_turned (λ rs t. batches_changed rs t.item t.new_line t.new_state) rows turns

pub batches_back : (rows : List ItemRow) (turns : List Turn) → batches (turned_back rows turns) ≡ batches rows
batches_back rows turns = kept_back batches one_turned_back (λ rs t. batches_changed rs t.item t.old_line t.old_state) rows turns

-- the stores fit one another where the rows are of the same batches
pub one_turning : (book : Ledger) (items new : Store) (tree : Forest) (row_room : ℕ) → AreOne book items tree row_room → length new.rows ≡ length items.rows → batches new.rows ≡ batches items.rows → new.spare ≡ items.spare → AreOne book new tree row_room
one_turning book items new tree row_room one long same spare =
    let fewer : (k : ℕ) → k < length new.rows → k < length items.rows = λ k l. subst (λ (n : ℕ). k < n) long l in
    let batch : (k : ℕ) (d : ItemRow) → k < length new.rows → (get_or new.rows k d).batch ≡ (get_or items.rows k d).batch =
    λ k d l. sym (get_or-map batch_in new.rows k d d.batch l) ∙ ap (λ (bs : List ℕ). get_or bs k d.batch) same ∙ get_or-map batch_in items.rows k d d.batch (fewer k l) in
    record {
      rows = λ k d l. subst (λ (b : ℕ). b < length book.batches) (sym (batch k d l)) (one.rows k d (fewer k l));
      units = one.units;
      counted = one.counted ∙ sym long;
      reserved = omega (arith, one.reserved, spare);
      roomy = omega (arith, one.roomy, long);
      within = one.within;
      few = omega (arith, one.few, long);
    }
