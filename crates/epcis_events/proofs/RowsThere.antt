-- What is there after rows moved or came.
use Rattle.std.proofs.Common.{◌≡◌, ℕ, Bool, true, false, ◌&&◌, ◌||◌, not, List, map, sym, ◌∙◌, ap, refl, Option, None, Some, true≢false}
use Rattle.std.specs.Prelude.{if◌then◌else◌, find, is_none, is_some, unwrap_or, option_map, option_and_then}
use Rattle.std.specs.List.{AllByRecursion as Every}
use Rattle.std.proofs.lemmas.List.Folds.{find-append}
use Rattle.epc_urn.specs.declared.epc.Epc.{Epc}
use Rattle.epc_urn.specs.declared.epc.Epc.TheVariants.{Item, Unit as Box}
use Rattle.deed_words.specs.declared.deed.Deed.{Deed}
use Rattle.deed_words.specs.declared.words.State.{State}
use Rattle.deed_words.specs.declared.words.State.TheVariants as state
use Rattle.deed_words.specs.declared.world.Row.{Row}
use Rattle.deed_words.specs.Setups.{Setup}
use Rattle.deed_words.specs.Names.{Text, same, same_name, is_among}
use Rattle.deed_words.specs.Chain.{when, holds_of}
use Rattle.deed_words.specs.World.{World, row_of, unit_of, name_of}
use Rattle.deed_words.specs.Moves.{moved, told_state, is_fresh}
use Rattle.deed_words.specs.Effects.{rewrite, with_rows, moved_row, fresh_row, gtin_of, with_drawn, lent_rows, lent_to}
use Rattle.deed_words.specs.Sound.{IsSound}
use Rattle.deed_words.proofs.Sameness.{same-true, same_name-true}
use Rattle.deed_words.proofs.Items.{Every-map, Every-always, find-map, find_passes, find_Some}
use Rattle.deed_words.proofs.Broken.{when_None}
use Rattle.deed_words.proofs.Allowed.{is_there_too, among_every}
use Rattle.deed_words.proofs.IssuedOnce.{lent_are_fresh}
use Rattle.epcis_events.specs.There.{is_live}
use Rattle.epcis_events.proofs.Bools.{and_false, and_true, or_true, or_false, found_passes_not, found_in_front}
use Rattle.epcis_events.proofs.Parts.{Chosen, there_in}

-- what a change of rows keeps
pub record KeepsNames (change : Row → Row) : Type 0 where
  pub gtin : (row : Row) → (change row).gtin ≡ row.gtin
  pub serial : (row : Row) → (change row).serial ≡ row.serial
  pub batch : (row : Row) → (change row).batch ≡ row.batch

pub moved_keeps : (deed : Deed) → KeepsNames (moved_row deed)
unfolding moved_row
moved_keeps deed = record { gtin = λ row. refl; serial = λ row. refl; batch = λ row. refl }

pub lent_keeps : (station : ℕ) → KeepsNames (lent_to station)
lent_keeps station = record { gtin = λ row. refl; serial = λ row. refl; batch = λ row. refl }

keeps_name : (change : Row → Row) → KeepsNames change → (names : List Epc) (row : Row) → name_of (rewrite change names row) ≡ name_of row
unfolding rewrite
keeps_name change k names row =
    elim (is_among names (name_of row)) as (λ b. Item (if b then change row else row).gtin (if b then change row else row).serial ≡ Item row.gtin row.serial) [
      | true ↦ ap (λ (g : Text). Item g (change row).serial) (k.gtin row) ∙ ap (λ (n : Text). Item row.gtin n) (k.serial row)
      | false ↦ refl
    ]

-- what is there of rewritten rows
rewritten_of : (mine : Chosen) (change : Row → Row) → KeepsNames change → (names : List Epc) (name : Epc) (o : Option Row) → ((row : Row) → o ≡ Some row → name_of row ≡ name)
    → holds_of (λ (row : Row). mine row.batch && is_live row.state) (option_map (rewrite change names) o) ≡ holds_of (λ (row : Row). mine row.batch && is_live (if is_among names name then change row else row).state) o
unfolding rewrite holds_of
rewritten_of mine change k names name None found = refl
rewritten_of mine change k names name (Some row) found =
    ap (λ (n : Epc). mine (if is_among names n then change row else row).batch && is_live (if is_among names n then change row else row).state) (found row refl)
    ∙ ap (λ (b : Text). mine b && is_live (if is_among names name then change row else row).state)
    (elim (is_among names name) as (λ t. (if t then change row else row).batch ≡ row.batch) [ true ↦ k.batch row | false ↦ refl ])

pub there_rewritten : (mine : Chosen) (w : World) (change : Row → Row) → KeepsNames change → (names : List Epc) (gtin serial : Text)
    → there_in mine (with_rows w change names) (Item gtin serial) ≡ holds_of (λ (row : Row). mine row.batch && is_live (if is_among names (Item gtin serial) then change row else row).state) (row_of w gtin serial)
unfolding there_in with_rows row_of
there_rewritten mine w change k names gtin serial =
    let test : Row → Bool = λ row. same_name (name_of row) (Item gtin serial) in
    ap (holds_of (λ (row : Row). mine row.batch && is_live row.state)) (find-map test (rewrite change names) (λ row. ap (λ (n : Epc). same_name n (Item gtin serial)) (keeps_name change k names row)) w.rows)
    ∙ rewritten_of mine change k names (Item gtin serial) (find test w.rows) (λ row e. same_name-true (name_of row) (Item gtin serial) (find_passes test w.rows row e))

-- rows that stay live or not
live_still : (mine : Chosen) (change : Row → Row) (t : Bool) (o : Option Row) → ((row : Row) → o ≡ Some row → t ≡ true → is_live (change row).state ≡ is_live row.state)
    → holds_of (λ (row : Row). mine row.batch && is_live (if t then change row else row).state) o ≡ holds_of (λ (row : Row). mine row.batch && is_live row.state) o
unfolding holds_of
live_still mine change t None h = refl
live_still mine change true (Some row) h = ap (λ b. mine row.batch && b) (h row refl refl)
live_still mine change false (Some row) h = refl

pub there_still : (mine : Chosen) (w : World) (change : Row → Row) → KeepsNames change → (names : List Epc)
    → ((gtin serial : Text) (row : Row) → row_of w gtin serial ≡ Some row → is_among names (Item gtin serial) ≡ true → is_live (change row).state ≡ is_live row.state)
    → (name : Epc) → there_in mine (with_rows w change names) name ≡ there_in mine w name
unfolding there_in with_rows unit_of
there_still mine w change k names h (Item gtin serial) = there_rewritten mine w change k names gtin serial ∙ live_still mine change (is_among names (Item gtin serial)) (row_of w gtin serial) (λ row. h gtin serial row)
there_still mine w change k names h (Box sscc) = refl

-- moves that keep rows live or not
pub there_moved_still : (mine : Chosen) (w : World) (deed : Deed) → ((s : State) → is_live (unwrap_or (moved deed s) s) ≡ is_live s) → (names : List Epc) (name : Epc) → there_in mine (with_rows w (moved_row deed) names) name ≡ there_in mine w name
unfolding moved_row
there_moved_still mine w deed h names name = there_still mine w (moved_row deed) (moved_keeps deed) names (λ gtin serial row _ _. h row.state) name

fresh_dead : (s : State) → is_fresh s ≡ true → is_live s ≡ false
unfolding is_fresh is_live
fresh_dead state.Fresh e = refl
fresh_dead state.Lent e = refl
fresh_dead state.Returned e = refl
fresh_dead state.Spoiled e = refl
fresh_dead state.Active e = absurd (true≢false (sym e))
fresh_dead state.Sampled e = absurd (true≢false (sym e))
fresh_dead state.Rejected e = absurd (true≢false (sym e))
fresh_dead state.Gone e = refl

pub there_lent : (mine : Chosen) (site : Setup) (w : World) (station : ℕ) (batch : Text) (count : ℕ) → IsSound site w
    → (name : Epc) → there_in mine (with_rows w (lent_to station) (map name_of (lent_rows w batch count))) name ≡ there_in mine w name
unfolding is_live row_of
there_lent mine site w station batch count s name =
    let names : List Epc = map name_of (lent_rows w batch count) in
    there_still mine w (lent_to station) (lent_keeps station) names
    (λ gtin serial row found among.
    let test : Row → Bool = λ r. same_name (name_of r) (Item gtin serial) in
    let is : name_of row ≡ Item gtin serial = same_name-true (name_of row) (Item gtin serial) (find_passes test w.rows row found) in
    let fresh : is_among names (name_of row) ≡ true → is_fresh row.state ≡ true = find_Some (λ (r : Row). is_among names (name_of r) ≡ true → is_fresh r.state ≡ true) test w.rows row found (lent_are_fresh site w batch count s) in
    sym (fresh_dead row.state (fresh (ap (is_among names) is ∙ among)))) name

-- new rows aren't there yet
pub there_drawn : (mine : Chosen) (w : World) (batch : Text) (serials : List Text) (name : Epc) → there_in mine (with_drawn w batch serials) name ≡ there_in mine w name
unfolding there_in with_drawn row_of unit_of fresh_row is_live
there_drawn mine w batch serials (Item gtin serial) =
    let test : Row → Bool = λ row. same_name (name_of row) (Item gtin serial) in
    let pass : Row → Bool = λ row. mine row.batch && is_live row.state in
    let more : List Row = map (fresh_row (gtin_of w batch) batch) serials in
    ap (holds_of pass) (find-append test w.rows more)
    ∙ found_in_front pass (find test w.rows) (find test more) (found_passes_not pass test more (Every-map (λ (row : Row). pass row ≡ false) (fresh_row (gtin_of w batch) batch) serials (Every-always (λ (n : Text). pass (fresh_row (gtin_of w batch) batch n) ≡ false) (λ n. and_false (mine batch)) serials)))
there_drawn mine w batch serials (Box sscc) = refl

-- a name that the deed may move: that of a row of the batch, in a state from which it moves
unfoldable pub MayMove : World → Deed → Text → Epc → Type 0
MayMove w deed batch (Item gtin serial) = (row : Row) × (row_of w gtin serial ≡ Some row) × (row.batch ≡ batch) × (is_none (moved deed row.state) ≡ false)
MayMove w deed batch (Box sscc) = ⊥

pub may_move : (w : World) (deed : Deed) (batch gtin serial : Text) → is_some (row_of w gtin serial) ≡ true → holds_of (same batch) (option_map (λ (row : Row). row.batch) (row_of w gtin serial)) ≡ true
    → option_and_then (λ (row : Row). when (is_none (moved deed row.state)) (told_state row.state)) (row_of w gtin serial) ≡ None → MayMove w deed batch (Item gtin serial)
unfolding MayMove holds_of
may_move w deed batch gtin serial known home fit =
    let row = is_there_too (row_of w gtin serial) known in
    let here : same batch row.0.batch ≡ true = sym (ap (λ (o : Option Row). holds_of (same batch) (option_map (λ (r : Row). r.batch) o)) row.1) ∙ home in
    let able : when (is_none (moved deed row.0.state)) (told_state row.0.state) ≡ None = sym (ap (option_and_then (λ (r : Row). when (is_none (moved deed r.state)) (told_state r.state))) row.1) ∙ fit in
    (row.0, row.1, sym (same-true batch row.0.batch here), when_None (is_none (moved deed row.0.state)) (told_state row.0.state) able)

-- where the deed moves rows from states that are live or not, to others
pub record Turns (deed : Deed) (before after : Bool) : Type 0 where
  pub was : (s : State) → is_none (moved deed s) ≡ false → is_live s ≡ before
  pub is : (s : State) → is_none (moved deed s) ≡ false → is_live (unwrap_or (moved deed s) s) ≡ after

-- what was there of the names that move
pub was_there : (mine : Chosen) (w : World) (deed : Deed) (batch : Text) (before after : Bool) → Turns deed before after → (name : Epc) → MayMove w deed batch name → there_in mine w name ≡ (mine batch && before)
unfolding there_in MayMove holds_of
was_there mine w deed batch before after turns (Item gtin serial) m =
    ap (holds_of (λ (row : Row). mine row.batch && is_live row.state)) m.1 ∙ ap (λ (b : Text). mine b && is_live m.0.state) m.2 ∙ ap (λ b. mine batch && b) (turns.was m.0.state m.3)
was_there mine w deed batch before after turns (Box sscc) m = absurd m

-- and what is there of them
pub now_there : (mine : Chosen) (w : World) (deed : Deed) (batch : Text) (before after : Bool) (names : List Epc) → Turns deed before after → (name : Epc) → is_among names name ≡ true → MayMove w deed batch name
    → there_in mine (with_rows w (moved_row deed) names) name ≡ (mine batch && after)
unfolding MayMove holds_of moved_row
now_there mine w deed batch before after names turns (Item gtin serial) t m =
    there_rewritten mine w (moved_row deed) (moved_keeps deed) names gtin serial
    ∙ ap (λ (b : Bool). holds_of (λ (row : Row). mine row.batch && is_live (if b then moved_row deed row else row).state) (row_of w gtin serial)) t
    ∙ ap (holds_of (λ (row : Row). mine row.batch && is_live (moved_row deed row).state)) m.1
    ∙ ap (λ (b : Text). mine b && is_live (unwrap_or (moved deed m.0.state) m.0.state)) m.2
    ∙ ap (λ b. mine batch && b) (turns.is m.0.state m.3)
now_there mine w deed batch before after names turns (Box sscc) t m = absurd m

-- the other names
pub others_there : (mine : Chosen) (w : World) (deed : Deed) (names : List Epc) (name : Epc) → is_among names name ≡ false → there_in mine (with_rows w (moved_row deed) names) name ≡ there_in mine w name
unfolding there_in with_rows unit_of
others_there mine w deed names (Item gtin serial) f =
    there_rewritten mine w (moved_row deed) (moved_keeps deed) names gtin serial
    ∙ ap (λ (b : Bool). holds_of (λ (row : Row). mine row.batch && is_live (if b then moved_row deed row else row).state) (row_of w gtin serial)) f
others_there mine w deed names (Box sscc) f = refl

-- whatever the moves do, where the batch isn't meant
pub there_elsewhere : (mine : Chosen) (w : World) (deed : Deed) (batch : Text) (before after : Bool) (names : List Epc) → Turns deed before after → Every (MayMove w deed batch) names → mine batch ≡ false
    → (name : Epc) → there_in mine (with_rows w (moved_row deed) names) name ≡ there_in mine w name
there_elsewhere mine w deed batch before after names turns may other name =
    (elim (is_among names name) as (λ b. is_among names name ≡ b → there_in mine (with_rows w (moved_row deed) names) name ≡ there_in mine w name) [
      | true ↦ λ t.
          let m = among_every (MayMove w deed batch) names name t may in
          now_there mine w deed batch before after names turns name t m ∙ ap (λ b. b && after) other ∙ ap (λ b. b && before) (sym other) ∙ sym (was_there mine w deed batch before after turns name m)
      | false ↦ λ f. others_there mine w deed names name f
    ]) refl

-- rows become live
pub there_more : (mine : Chosen) (w : World) (deed : Deed) (batch : Text) (names : List Epc) → Turns deed false true → Every (MayMove w deed batch) names → mine batch ≡ true
    → (name : Epc) → there_in mine (with_rows w (moved_row deed) names) name ≡ (there_in mine w name || is_among names name)
there_more mine w deed batch names turns may meant name =
    (elim (is_among names name) as (λ b. is_among names name ≡ b → there_in mine (with_rows w (moved_row deed) names) name ≡ (there_in mine w name || b)) [
      | true ↦ λ t.
          let m = among_every (MayMove w deed batch) names name t may in
          now_there mine w deed batch false true names turns name t m ∙ ap (λ b. b && true) meant ∙ sym (or_true (there_in mine w name))
      | false ↦ λ f. others_there mine w deed names name f ∙ sym (or_false (there_in mine w name))
    ]) refl

-- rows are live no more
pub there_less : (mine : Chosen) (w : World) (deed : Deed) (batch : Text) (names : List Epc) → Turns deed true false → Every (MayMove w deed batch) names
    → (name : Epc) → there_in mine (with_rows w (moved_row deed) names) name ≡ (there_in mine w name && not (is_among names name))
there_less mine w deed batch names turns may name =
    (elim (is_among names name) as (λ b. is_among names name ≡ b → there_in mine (with_rows w (moved_row deed) names) name ≡ (there_in mine w name && not b)) [
      | true ↦ λ t.
          let m = among_every (MayMove w deed batch) names name t may in
          now_there mine w deed batch true false names turns name t m ∙ and_false (mine batch) ∙ sym (and_false (there_in mine w name))
      | false ↦ λ f. others_there mine w deed names name f ∙ sym (and_true (there_in mine w name))
    ]) refl
