use Rattle.std.proofs.Common.{sym, subst, refl, List}
use Rattle.deed_words.specs.Names.{Text}
use Rattle.site_stores.specs.declared.change.Turn.{Turn}
use Rattle.site_deeds.specs.Placed.{AreLent}
use Rattle.site_deeds.proofs.OfLoan.{none_lent, next_lent}
use Rattle.site_deeds.proofs.lending.lend_each.Goals as goal

pub loop-item-init : goal.loop-item-init
loop-item-init c =
    subst (λ (ts : List Turn). AreLent c.args.line c.args.stores.now.content.rows _ ts c.new-serials.result) (sym c.new-turns.ensures)
    (subst (λ (ss : List Text). AreLent c.args.line c.args.stores.now.content.rows _ _ ss) (sym c.new-serials.ensures) (none_lent c.args.line c.args.stores.now.content.rows))

pub loop-item-preserved : goal.loop-item-preserved
loop-item-preserved c =
    next_lent c.args.line c.args.stores.now.content.rows c.args.items.now c.loop-item.item-index c.item-item.result c.loop-item.turns c.push-in-loop-item.new.self c.turn_to.result c.loop-item.serials c.push.new.self c.item_at-row.result.serial c.loop-item-test.true c.item-item.is
    c.in_ok-push-2.ensures c.in_ok-push.ensures c.loop-item.invariant
    (record {
      row = c.item_at-row.result;
      item_is = c.turn_to.ensures.item;
      there = c.item_at-row.ensures.is;
      old_line = sym c.turn_to.ensures.old_line;
      old_state = sym c.turn_to.ensures.old_state;
      lined = c.item_at-row.ensures.lined;
      new_line = c.turn_to.ensures.new_line;
      new_state = c.turn_to.ensures.new_state;
      serial_is = refl;
    })
