use Rattle.std.proofs.Common.{◌≡◌, ℕ, Option, sym, ap, subst, ◌∙◌}
use Rattle.item_store.specs.Rows.{changed, IsLined}
use Rattle.pack_tree.proofs.Stepping.{next_ok, next_may, next_all}
use Rattle.site_stores.specs.Changes.{one_turned, IsTurn}
use Rattle.site_stores.proofs.Turning.{turn_there}
use Rattle.site_stores.proofs.changing.turn_items.Goals as goal

pub set_row-requires-clause-range : goal.set_row-requires-clause-range
set_row-requires-clause-range c =
    turn_there c.loop-turn.items.rows c.turn-item.result (next_ok one_turned IsTurn c.loop-turn.items.rows c.args.turns.now c.loop-turn.turn-index c.turn-item.result c.loop-turn-test.true c.turn-item.is c.loop-turn.invariant.may)

pub set_row-requires-clause-lined : goal.set_row-requires-clause-lined
set_row-requires-clause-lined c =
    let turn = next_ok one_turned IsTurn c.loop-turn.items.rows c.args.turns.now c.loop-turn.turn-index c.turn-item.result c.loop-turn-test.true c.turn-item.is c.loop-turn.invariant.may in
    subst (λ (line : Option ℕ). IsLined line c.turn-item.result.new_state) (sym c.new_line.ensures) turn.new_lined

pub loop-turn-preserved : goal.loop-turn-preserved
loop-turn-preserved c =
    let new : c.set_row.new.self.rows ≡ one_turned c.loop-turn.items.rows c.turn-item.result =
    c.set_row.ensures.rows ∙ ap (λ (line : Option ℕ). changed c.loop-turn.items.rows c.turn-item.result.item line c.turn-item.result.new_state) c.new_line.ensures in
    record {
      may = next_may one_turned IsTurn c.loop-turn.items.rows c.set_row.new.self.rows c.args.turns.now c.loop-turn.turn-index c.turn-item.result c.loop-turn-test.true c.turn-item.is new c.loop-turn.invariant.may;
      rows = next_all one_turned IsTurn c.loop-turn.items.rows c.set_row.new.self.rows c.args.turns.now c.loop-turn.turn-index c.turn-item.result c.loop-turn-test.true c.turn-item.is new ∙ c.loop-turn.invariant.rows;
      spare = c.set_row.ensures.spare ∙ c.loop-turn.invariant.spare;
    }
