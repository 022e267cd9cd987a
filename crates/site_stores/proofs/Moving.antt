-- Turns that move the rows of these names are the rows of the names rewritten.
use Rattle.std.proofs.Common.{◌≡◌, ℕ, zero, suc, true, false, ◌||◌, List, [], ◌∷◌, map, set, Option, Some, refl, ap, sym, ◌∙◌, subst, true≢false}
use Rattle.std.specs.Prelude.{if◌then◌else◌}
use Rattle.std.specs.List.{slice_get, IsDistinct, AllByRecursion as Every}
use Rattle.std.proofs.lemmas.Map.Keys.{IsDistinct-head, IsDistinct-tail}
use Rattle.epc_urn.specs.declared.epc.Epc.{Epc}
use Rattle.deed_words.specs.Effects.{rewrite, with_rows}
use Rattle.deed_words.specs.Names.{Text, same_name, is_among}
use Rattle.deed_words.specs.World.{name_of}
use Rattle.deed_words.specs.declared.world.Row.{Row}
use Rattle.deed_words.specs.declared.words.State.{State}
use Rattle.deed_words.proofs.Items.{none_like}
use Rattle.deed_words.proofs.Rewriting.{set_at}
use Rattle.deed_words.proofs.Sameness.{same_name-true, same_name-from}
use Rattle.item_store.specs.declared.row.ItemRow.{ItemRow}
use Rattle.item_store.specs.Rows.{changed, item_name, moved_row, AreApart}
use Rattle.pack_tree.specs.Stepping.{MayStep}
use Rattle.batch_book.specs.Content.{Content, world_in, row_in, batch_names, pair_in, unit_codes}
use Rattle.site_stores.specs.Changes.{one_turned, turned, MayTurn, applied}
use Rattle.site_stores.specs.Holding.{IsWhole}
use Rattle.site_stores.specs.Moving.{IsMove, AreMoves}
use Rattle.site_stores.specs.declared.change.Change.TheVariants.{Turned}
use Rattle.site_stores.specs.declared.change.Turn.{Turn}

-- ---- turns of rows that differ don't touch each other

other_place : (rows : List ItemRow) (at other : ℕ) (row : ItemRow) (line : Option ℕ) (state : State) → (at ≡ other → ⊥) → slice_get rows other ≡ Some row → slice_get (changed rows at line state) other ≡ Some row
other_place [] at other row line state n e = e
other_place (x ∷ rows) zero zero row line state n e = absurd (n refl)
other_place (x ∷ rows) zero (suc other) row line state n e = e
other_place (x ∷ rows) (suc at) zero row line state n e = e
other_place (x ∷ rows) (suc at) (suc other) row line state n e = other_place rows at other row line state (λ p. n (ap suc p)) e

names_changed : (rows : List ItemRow) (at : ℕ) (line : Option ℕ) (state : State) → map item_name (changed rows at line state) ≡ map item_name rows
names_changed [] at line state = refl
names_changed (row ∷ rows) zero line state = refl
names_changed (row ∷ rows) (suc at) line state = ap (λ (es : List Epc). item_name row ∷ es) (names_changed rows at line state)

module _ (change : Row → Row) (batches : List Text) where
  other_move : (rows : List ItemRow) (at : ℕ) (here : ItemRow) (line : Option ℕ) (state : State) (name : Epc) (turn : Turn) → slice_get rows at ≡ Some here → same_name (item_name here) name ≡ false → IsMove change batches rows name turn
      → IsMove change batches (changed rows at line state) name turn
  other_move rows at here line state name turn is apart m =
      let differ : at ≡ turn.item → ⊥ = λ p.
      let one : Some here ≡ Some m.row = sym is ∙ ap (λ (k : ℕ). slice_get rows k) p ∙ m.here in
      let row : here ≡ m.row = cc in
      true≢false (sym (same_name-from (item_name here) name (ap item_name row ∙ m.named)) ∙ apart) in
      record {
        row = m.row;
        here = other_place rows at turn.item m.row line state differ m.here;
        named = m.named;
        line = m.line;
        state = m.state;
        old_lined = m.old_lined;
        new_lined = m.new_lined;
        moved = m.moved;
      }

  others_move : (rows : List ItemRow) (at : ℕ) (here : ItemRow) (line : Option ℕ) (state : State) (names : List Epc) (turns : List Turn) → slice_get rows at ≡ Some here → Every (λ n. same_name (item_name here) n ≡ false) names → AreMoves change batches rows names turns
      → AreMoves change batches (changed rows at line state) names turns
  unfolding AreMoves
  others_move rows at here line state [] [] is a m = tt
  others_move rows at here line state [] (turn ∷ turns) is a m = m
  others_move rows at here line state (name ∷ names) [] is a m = m
  others_move rows at here line state (name ∷ names) (turn ∷ turns) is a m = (other_move rows at here line state name turn is a.0 m.0, others_move rows at here line state names turns is a.1 m.1)

apart_from : (here : ItemRow) (name : Epc) (names : List Epc) → item_name here ≡ name → Every (λ n. same_name name n ≡ false) names → Every (λ n. same_name (item_name here) n ≡ false) names
apart_from here name names e a = subst (λ (x : Epc). Every (λ n. same_name x n ≡ false) names) (sym e) a

-- the turns may be made one after the other
pub moves_may : (change : Row → Row) (batches : List Text) (rows : List ItemRow) (names : List Epc) (turns : List Turn) → IsDistinct same_name names → AreMoves change batches rows names turns → MayTurn rows turns
unfolding AreMoves MayStep
moves_may change batches rows [] [] d m = tt
moves_may change batches rows [] (turn ∷ turns) d m = absurd m
moves_may change batches rows (name ∷ names) [] d m = absurd m
moves_may change batches rows (name ∷ names) (turn ∷ turns) d m =
    let one = m.0 in
    let rest = others_move change batches rows turn.item one.row turn.new_line turn.new_state names turns one.here (apart_from one.row name names one.named (IsDistinct-head same_name name names d)) m.1 in (
      record { row = one.row; there = one.here; line = one.line; state = one.state; old_lined = one.old_lined; new_lined = one.new_lined },
      moves_may change batches (one_turned rows turn) names turns (IsDistinct-tail same_name name names d) rest,
    )

-- ---- they are the effect of the deed

pub names_in : (batches : List Text) (rows : List ItemRow) → map name_of (map (row_in batches) rows) ≡ map item_name rows
names_in batches [] = refl
names_in batches (row ∷ rows) = ap (λ (es : List Epc). item_name row ∷ es) (names_in batches rows)

rows_set : (batches : List Text) (rows : List ItemRow) (at : ℕ) (row : ItemRow) (line : Option ℕ) (state : State) → slice_get rows at ≡ Some row → map (row_in batches) (changed rows at line state) ≡ set (map (row_in batches) rows) at (row_in batches (moved_row row line state))
rows_set batches [] at row line state e = refl
rows_set batches (x ∷ rows) zero row line state e = let s : x ≡ row = cc in ap (λ (r : ItemRow). row_in batches (moved_row r line state) ∷ map (row_in batches) rows) s
rows_set batches (x ∷ rows) (suc at) row line state e = ap (λ (rs : List Row). row_in batches x ∷ rs) (rows_set batches rows at row line state e)

got_in : (batches : List Text) (rows : List ItemRow) (at : ℕ) (row : ItemRow) → slice_get rows at ≡ Some row → slice_get (map (row_in batches) rows) at ≡ Some (row_in batches row)
got_in batches [] at row e = absurd (cc)
got_in batches (x ∷ rows) zero row e = let s : x ≡ row = cc in ap (λ (r : ItemRow). Some (row_in batches r)) s
got_in batches (x ∷ rows) (suc at) row e = got_in batches rows at row e

-- the first name, and then the others
first_then : (change : Row → Row) → ((row : Row) → name_of (change row) ≡ name_of row) → (name : Epc) (names : List Epc) → Every (λ n. same_name name n ≡ false) names → (row : Row) → rewrite change names (rewrite change (name ∷ []) row) ≡ rewrite change (name ∷ names) row
unfolding rewrite is_among
first_then change keeps name names apart row =
    (elim (same_name (name_of row) name) as (λ b. same_name (name_of row) name ≡ b
    → (if is_among names (name_of (if b || false then change row else row)) then change (if b || false then change row else row) else (if b || false then change row else row)) ≡ (if b || is_among names (name_of row) then change row else row)) [
      | true ↦ λ t.
          let out : is_among names (name_of (change row)) ≡ false =
          ap (is_among names) (keeps row ∙ same_name-true (name_of row) name t) ∙ none_like same_name name names apart in
          ap (λ b. if b then change (change row) else change row) out
      | false ↦ λ t. refl
    ]) refl

all_then : (change : Row → Row) → ((row : Row) → name_of (change row) ≡ name_of row) → (name : Epc) (names : List Epc) → Every (λ n. same_name name n ≡ false) names → (rows : List Row) → map (rewrite change names) (map (rewrite change (name ∷ [])) rows) ≡ map (rewrite change (name ∷ names)) rows
all_then change keeps name names apart [] = refl
all_then change keeps name names apart (row ∷ rows) =
    ap (λ (r : Row). r ∷ map (rewrite change names) (map (rewrite change (name ∷ [])) rows)) (first_then change keeps name names apart row)
    ∙ ap (λ (rs : List Row). rewrite change (name ∷ names) row ∷ rs) (all_then change keeps name names apart rows)

none_rewritten : (change : Row → Row) (rows : List Row) → map (rewrite change []) rows ≡ rows
unfolding rewrite is_among
none_rewritten change [] = refl
none_rewritten change (row ∷ rows) = ap (λ (rs : List Row). row ∷ rs) (none_rewritten change rows)

moves_rewrite : (change : Row → Row) → ((row : Row) → name_of (change row) ≡ name_of row) → (batches : List Text) (rows : List ItemRow) (names : List Epc) (turns : List Turn) → AreApart rows → IsDistinct same_name names → AreMoves change batches rows names turns
    → map (row_in batches) (turned rows turns) ≡ map (rewrite change names) (map (row_in batches) rows)
unfolding AreMoves
moves_rewrite change keeps batches rows [] [] a d m = sym (none_rewritten change (map (row_in batches) rows))
moves_rewrite change keeps batches rows [] (turn ∷ turns) a d m = absurd m
moves_rewrite change keeps batches rows (name ∷ names) [] a d m = absurd m
moves_rewrite change keeps batches rows (name ∷ names) (turn ∷ turns) a d m =
    let one = m.0 in
    let head = IsDistinct-head same_name name names d in
    let next : List ItemRow = one_turned rows turn in
    let rest = others_move change batches rows turn.item one.row turn.new_line turn.new_state names turns one.here (apart_from one.row name names one.named head) m.1 in
    let w : List Row = map (row_in batches) rows in
    let apart : IsDistinct same_name (map name_of w) = subst (IsDistinct same_name) (sym (names_in batches rows)) a in
    let step : map (row_in batches) next ≡ map (rewrite change (name ∷ [])) w =
    rows_set batches rows turn.item one.row turn.new_line turn.new_state one.here ∙ ap (λ (r : Row). set w turn.item r) one.moved
    ∙ set_at change w turn.item (row_in batches one.row) apart (got_in batches rows turn.item one.row one.here)
    ∙ ap (λ (n : Epc). map (rewrite change (n ∷ [])) w) one.named in
    moves_rewrite change keeps batches next names turns (subst (IsDistinct same_name) (sym (names_changed rows turn.item turn.new_line turn.new_state)) a) (IsDistinct-tail same_name name names d) rest
    ∙ ap (λ (rs : List Row). map (rewrite change names) rs) step ∙ all_then change keeps name names head w

pub names_turned : (rows : List ItemRow) (turns : List Turn) → map item_name (turned rows turns) ≡ map item_name rows
names_turned rows [] = refl
names_turned rows (turn ∷ turns) = names_turned (one_turned rows turn) turns ∙ names_changed rows turn.item turn.new_line turn.new_state

pub turned_world : (c : Content) (change : Row → Row) (names : List Epc) (turns : List Turn) → ((row : Row) → name_of (change row) ≡ name_of row) → IsWhole c → IsDistinct same_name names → AreMoves change (batch_names c) c.rows names turns
    → world_in (applied c (Turned turns)) ≡ with_rows (world_in c) change names
unfolding with_rows
turned_world c change names turns keeps whole distinct moves =
    ap (λ (es : List Epc). record (world_in c) { rows = map (row_in (batch_names c)) (turned c.rows turns); pairs = map (pair_in es (unit_codes c)) c.links }) (names_turned c.rows turns)
    ∙ ap (λ (rs : List Row). record (world_in c) { rows = rs }) (moves_rewrite change keeps (batch_names c) c.rows names turns whole.rows_apart distinct moves)
