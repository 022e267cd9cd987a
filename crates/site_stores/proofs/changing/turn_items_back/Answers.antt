use Rattle.std.proofs.Common.{◌≡◌, ◌∷◌, [], ◌++◌, ℕ, Option, List, sym, ap, subst, ◌∙◌, rules}
use Rattle.item_store.specs.declared.row.ItemRow.{ItemRow}
use Rattle.item_store.specs.Rows.{changed, IsLined}
use Rattle.pack_tree.proofs.Stepping.{undone, split_back}
use Rattle.site_stores.specs.declared.change.Turn.{Turn}
use Rattle.site_stores.specs.Changes.{one_turned, one_turned_back, IsTurn, turned_back, WereTurned}
use Rattle.site_stores.proofs.Turning.{turn_law, turned_there}
use Rattle.site_stores.proofs.changing.turn_items_back.Goals as goal

pub set_row-requires-clause-range : goal.set_row-requires-clause-range
set_row-requires-clause-range c =
    let cut : c.loop-turn.left.now ≡ c.in-Some.first.now ++ c.in-Some.turn.now ∷ [] = search rules in
    let w = undone one_turned IsTurn one_turned_back turn_law c.loop-turn.items.rows c.in-Some.first.now c.in-Some.turn.now (subst (λ (ts : List Turn). WereTurned c.loop-turn.items.rows ts) cut c.loop-turn.invariant.were) in
    turned_there w.0 c.loop-turn.items.rows c.in-Some.turn.now w.1 w.2

pub set_row-requires-clause-lined : goal.set_row-requires-clause-lined
set_row-requires-clause-lined c =
    let cut : c.loop-turn.left.now ≡ c.in-Some.first.now ++ c.in-Some.turn.now ∷ [] = search rules in
    let w = undone one_turned IsTurn one_turned_back turn_law c.loop-turn.items.rows c.in-Some.first.now c.in-Some.turn.now (subst (λ (ts : List Turn). WereTurned c.loop-turn.items.rows ts) cut c.loop-turn.invariant.were) in
    subst (λ (line : Option ℕ). IsLined line c.in-Some.turn.now.old_state) (sym c.old_line.ensures) w.1.old_lined

pub loop-turn-preserved : goal.loop-turn-preserved
loop-turn-preserved c =
    let cut : c.loop-turn.left.now ≡ c.in-Some.first.now ++ c.in-Some.turn.now ∷ [] = search rules in
    let rows : List ItemRow = c.loop-turn.items.rows in
    let turn : Turn = c.in-Some.turn.now in
    let w = undone one_turned IsTurn one_turned_back turn_law rows c.in-Some.first.now turn (subst (λ (ts : List Turn). WereTurned rows ts) cut c.loop-turn.invariant.were) in
    let new : c.set_row.new.self.rows ≡ one_turned_back rows turn = c.set_row.ensures.rows ∙ ap (λ (line : Option ℕ). changed rows turn.item line turn.old_state) c.old_line.ensures in
    record {
      were = subst (λ (rs : List ItemRow). WereTurned rs c.in-Some.first.now) (sym new) w.3;
      rows = ap (λ (rs : List ItemRow). turned_back rs c.in-Some.first.now) new ∙ sym (split_back one_turned IsTurn one_turned_back turn_law rows c.in-Some.first.now turn) ∙ ap (λ (ts : List Turn). turned_back rows ts) (sym cut) ∙ c.loop-turn.invariant.rows;
      spare = c.set_row.ensures.spare ∙ c.loop-turn.invariant.spare;
    }
