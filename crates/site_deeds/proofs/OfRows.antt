-- Deeds that move rows.
use Rattle.std.proofs.Common.{◌≡◌, ◌<◌, ◌+◌, ℕ, zero, suc, List, [], ◌∷◌, ◌++◌, length, map, take, get_or, Option, Some, None, refl, sym, ap, ◌∙◌, subst, arith, add-one}
use Rattle.std.specs.Prelude.{unwrap_or}
use Rattle.std.specs.List.{slice_get, IsDistinct, AllByRecursion as Every}
use Rattle.std.proofs.Math.Seq.{take-suc}
use Rattle.epc_urn.specs.declared.epc.Epc.{Epc}
use Rattle.epc_urn.specs.declared.epc.Epc.TheVariants.{Unit as Box}
use Rattle.deed_words.specs.Effects.{with_rows, moved_row}
use Rattle.deed_words.specs.Moves.{moved}
use Rattle.deed_words.specs.Names.{same_name}
use Rattle.deed_words.specs.World.{name_of}
use Rattle.deed_words.specs.declared.deed.Deed.{Deed}
use Rattle.deed_words.specs.declared.deed.Deed.TheVariants.{Commission, Spoil, Giveback, Sample, Reject, Reinstate, Destroy, Decommission}
use Rattle.deed_words.specs.declared.reply.Answer.TheVariants.{Plain}
use Rattle.deed_words.specs.declared.words.State.{State}
use Rattle.deed_words.specs.declared.words.State.TheVariants as state
use Rattle.deed_words.specs.declared.world.Row.{Row}
use Rattle.item_store.specs.declared.row.ItemRow.{ItemRow}
use Rattle.item_store.specs.Rows.{item_name, IsLined}
use Rattle.pack_tree.specs.declared.node.Node.{Node}
use Rattle.pack_tree.specs.declared.node.Node.TheVariants.{Item as AnItem}
use Rattle.batch_book.specs.Content.{Content, world_in, batch_names}
use Rattle.site_stores.specs.declared.change.Change.TheVariants.{Turned}
use Rattle.site_stores.specs.declared.change.Turn.{Turn}
use Rattle.site_stores.specs.Changes.{MayChange}
use Rattle.site_stores.specs.Holding.{Held, IsWhole}
use Rattle.site_stores.specs.Moving.{IsMove, AreMoves}
use Rattle.site_stores.specs.Places.{place_of}
use Rattle.site_stores.proofs.Finding.{part_there}
use Rattle.site_stores.proofs.Moving.{moves_may, turned_world}
use Rattle.site_stores.proofs.Placing.{named_place}
use Rattle.site_deeds.specs.declared.done.Done.{Done}
use Rattle.site_deeds.specs.Does.{Does}
use Rattle.site_deeds.specs.Placed.{IsTurnOf, AreTurnsOf}
use Rattle.site_deeds.proofs.Shared.{nothing_needed, does_by}

-- ---- a turn at the place of a name moves the row of the name

pub item_at : (c : Content) (name : Epc) (at : ℕ) (row : ItemRow) → place_of c.rows c.units name ≡ Some (AnItem at) → slice_get c.rows at ≡ Some row → item_name row ≡ name
item_at c name at row e here = sym (part_there item_name c.rows at row (Box []) here) ∙ (named_place c name (AnItem at) e).1

none_some : {A : Type 0} (x : A) → None ≡ Some x → ⊥
none_some x e = absurd (cc)

-- no move is from Fresh or to it
move_is_late : (deed : Deed) (from to : State) → moved deed from ≡ Some to → (from ≡ state.Fresh → ⊥) × (to ≡ state.Fresh → ⊥)
unfolding moved
move_is_late (Commission name codes) state.Lent to e = let s : state.Active ≡ to = cc in (λ p. absurd (cc), λ p. absurd (cc))
move_is_late (Spoil name serials) state.Lent to e = let s : state.Spoiled ≡ to = cc in (λ p. absurd (cc), λ p. absurd (cc))
move_is_late (Giveback name serials) state.Lent to e = let s : state.Returned ≡ to = cc in (λ p. absurd (cc), λ p. absurd (cc))
move_is_late (Sample name items) state.Active to e = let s : state.Sampled ≡ to = cc in (λ p. absurd (cc), λ p. absurd (cc))
move_is_late (Reject name items) state.Active to e = let s : state.Rejected ≡ to = cc in (λ p. absurd (cc), λ p. absurd (cc))
move_is_late (Reinstate name items) state.Rejected to e = let s : state.Active ≡ to = cc in (λ p. absurd (cc), λ p. absurd (cc))
move_is_late (Destroy name items) state.Rejected to e = let s : state.Gone ≡ to = cc in (λ p. absurd (cc), λ p. absurd (cc))
move_is_late (Destroy name items) state.Sampled to e = let s : state.Gone ≡ to = cc in (λ p. absurd (cc), λ p. absurd (cc))
move_is_late (Decommission name items) state.Active to e = let s : state.Gone ≡ to = cc in (λ p. absurd (cc), λ p. absurd (cc))
move_is_late deed from to e = absurd (none_some to e)

is_move : (c : Content) (deed : Deed) (name : Epc) (turn : Turn) → IsTurnOf deed c.rows (place_of c.rows c.units name) turn → IsMove (moved_row deed) (batch_names c) c.rows name turn
unfolding moved_row
is_move c deed name turn t =
    let late = move_is_late deed turn.old_state turn.new_state t.moves in
    let lined : IsLined turn.old_line turn.old_state = subst (λ (l : Option ℕ). IsLined l turn.old_state) t.line (subst (λ (s : State). IsLined t.row.line s) t.state t.lined) in
    let lines : turn.new_line ≡ t.row.line = t.kept ∙ sym t.line in
    let states : turn.new_state ≡ unwrap_or (moved deed t.row.state) t.row.state = sym (ap (λ (o : Option State). unwrap_or o t.row.state) (ap (moved deed) t.state ∙ t.moves)) in
    record {
      row = t.row;
      here = t.there;
      named = item_at c name turn.item t.row t.place_is t.there;
      line = t.line;
      state = t.state;
      old_lined = lined;
      new_lined = (λ p. absurd (late.1 p), λ p. absurd (late.0 (lined.1 (sym t.kept ∙ p))));
      moved = λ z. record { gtin = t.row.gtin; serial = t.row.serial; batch = get_or (batch_names c) t.row.batch []; line = lines z; state = states z };
    }

are_moves : (c : Content) (deed : Deed) (names : List Epc) (turns : List Turn) → AreTurnsOf deed c.rows (map (place_of c.rows c.units) names) turns → AreMoves (moved_row deed) (batch_names c) c.rows names turns
unfolding AreTurnsOf AreMoves
are_moves c deed [] [] t = tt
are_moves c deed [] (turn ∷ turns) t = absurd t
are_moves c deed (name ∷ names) [] t = absurd t
are_moves c deed (name ∷ names) (turn ∷ turns) t = (is_move c deed name turn t.0, are_moves c deed names turns t.1)

keeps_name : (deed : Deed) (row : Row) → name_of (moved_row deed row) ≡ name_of row
unfolding moved_row
keeps_name deed row = refl

pub move_does : (held : Held) (done : Done) (deed : Deed) (names : List Epc) (places : List (Option Node)) (turns : List Turn) → IsWhole held.content → IsDistinct same_name names → places ≡ map (place_of held.content.rows held.content.units) names
    → AreTurnsOf deed held.content.rows places turns → done.answer ≡ Plain → done.change ≡ Turned turns → Does held done Plain (with_rows (world_in held.content) (moved_row deed) names)
unfolding MayChange
move_does held done deed names places turns whole once are t told is =
    let moves = are_moves held.content deed names turns (subst (λ ps. AreTurnsOf deed held.content.rows ps turns) are t) in
    does_by held done Plain (Turned turns) _ told is whole (moves_may (moved_row deed) (batch_names held.content) held.content.rows names turns once moves)
    (turned_world held.content (moved_row deed) names turns (keeps_name deed) whole once moves) (nothing_needed held.room)

-- ---- turns one after the other

pub no_turns : (deed : Deed) (rows : List ItemRow) → AreTurnsOf deed rows [] []
unfolding AreTurnsOf
no_turns deed rows = tt

turns_push : (deed : Deed) (rows : List ItemRow) (places : List (Option Node)) (place : Option Node) (turns : List Turn) (turn : Turn) → AreTurnsOf deed rows places turns → IsTurnOf deed rows place turn → AreTurnsOf deed rows (places ++ place ∷ []) (turns ++ turn ∷ [])
unfolding AreTurnsOf
turns_push deed rows [] place [] turn m one = (one, tt)
turns_push deed rows [] place (x ∷ turns) turn m one = absurd m
turns_push deed rows (p ∷ places) place [] turn m one = absurd m
turns_push deed rows (p ∷ places) place (x ∷ turns) turn m one = (m.0, turns_push deed rows places place turns turn m.1 one)

pub next_turn : (deed : Deed) (rows : List ItemRow) (places : List (Option Node)) (i : ℕ) (place d : Option Node) (turns later : List Turn) (turn : Turn) → i < length places → place ≡ get_or places i d → later ≡ turns ++ turn ∷ []
    → AreTurnsOf deed rows (take i places) turns → IsTurnOf deed rows place turn → AreTurnsOf deed rows (take (i + 1) places) later
next_turn deed rows places i place d turns later turn l e next m one =
    let more : take (suc i) places ≡ take i places ++ place ∷ [] = take-suc places i d l ∙ ap (λ (p : Option Node). take i places ++ p ∷ []) (sym e) in
    subst (AreTurnsOf deed rows (take (i + 1) places)) (sym next)
    (rw (add-one) (subst (λ (ps : List (Option Node)). AreTurnsOf deed rows ps (turns ++ turn ∷ [])) (sym more) (turns_push deed rows (take i places) place turns turn m one)))

pub every_at : {A : Type 0} (P : A → Type 0) (xs : List A) (i : ℕ) (x : A) → i < length xs → x ≡ get_or xs i x → Every P xs → P x
every_at P [] i x l e a = absurd (omega (arith, l))
every_at P (y ∷ xs) zero x l e a = subst P (sym e) a.0
every_at P (y ∷ xs) (suc i) x l e a = every_at P xs i x (omega (arith, l)) e a.1
