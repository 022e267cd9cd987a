use Rattle.std.proofs.Common.{◌≡◌, ◌-◌, ◌+◌, ◌∷◌, [], ◌++◌, List, length, All, sym, ap, subst, ◌∙◌, rules, arith}
use Rattle.std.proofs.lemmas.List.{length_push}
use Rattle.deed_words.specs.Names.{Text}
use Rattle.item_store.specs.declared.row.ItemRow.{ItemRow}
use Rattle.pack_tree.specs.declared.link.Pair.{Pair as Link}
use Rattle.pack_tree.specs.Packing.{IsThereIn}
use Rattle.pack_tree.proofs.Stepping.{undone, split_back}
use Rattle.site_stores.specs.Changes.{one_drawn, one_undrawn, IsNewRow, undrawn, WereDrawn}
use Rattle.site_stores.proofs.RowsDrawn.{draw_law, drawn_long, none_above, one_less_row}
use Rattle.site_stores.proofs.drawing.undraw_all.Goals as goal

pub remove_last_item-requires-clause-there : goal.remove_last_item-requires-clause-there
remove_last_item-requires-clause-there c =
    let cut : c.loop-serial.left.now ≡ c.in-Some.first.now ++ c.in-Some._serial.now ∷ [] = search rules in
    let long : length c.loop-serial.left.now ≡ length c.in-Some.first.now + 1 = ap (λ (ss : List Text). length ss) cut ∙ length_push c.in-Some.first.now c.in-Some._serial.now in
    let rows = drawn_long c.args.batch c.args.gtin.now c.loop-serial.items.rows c.loop-serial.left.now c.loop-serial.invariant.were in
    let counted = c.loop-serial.invariant.counted in
    omega (arith, long, rows, counted)

pub remove_last_item-requires-clause-alone : goal.remove_last_item-requires-clause-alone
remove_last_item-requires-clause-alone c =
    let cut : c.loop-serial.left.now ≡ c.in-Some.first.now ++ c.in-Some._serial.now ∷ [] = search rules in
    let long : length c.loop-serial.left.now ≡ length c.in-Some.first.now + 1 = ap (λ (ss : List Text). length ss) cut ∙ length_push c.in-Some.first.now c.in-Some._serial.now in
    let items = c.loop-serial.invariant.items in
    none_above (c.args.tree.now.items - length c.args.serials.now) (length c.args.tree.now.units) (c.loop-serial.tree.items - 1) c.loop-serial.tree.pairs
    (subst (λ (ls : List Link). All (IsThereIn (c.args.tree.now.items - length c.args.serials.now) (length c.args.tree.now.units)) ls) (sym c.loop-serial.invariant.pairs) c.requires.unpacked)
    (omega (arith, long, items))

pub remove_last-requires : goal.remove_last-requires
remove_last-requires c =
    let cut : c.loop-serial.left.now ≡ c.in-Some.first.now ++ c.in-Some._serial.now ∷ [] = search rules in
    let long : length c.loop-serial.left.now ≡ length c.in-Some.first.now + 1 = ap (λ (ss : List Text). length ss) cut ∙ length_push c.in-Some.first.now c.in-Some._serial.now in
    let rows = drawn_long c.args.batch c.args.gtin.now c.loop-serial.items.rows c.loop-serial.left.now c.loop-serial.invariant.were in
    omega (arith, long, rows)

pub loop-serial-preserved : goal.loop-serial-preserved
loop-serial-preserved c =
    let first : List Text = c.in-Some.first.now in
    let serial : Text = c.in-Some._serial.now in
    let rows : List ItemRow = c.loop-serial.items.rows in
    let cut : c.loop-serial.left.now ≡ first ++ serial ∷ [] = search rules in
    let long : length c.loop-serial.left.now ≡ length first + 1 = ap (λ (ss : List Text). length ss) cut ∙ length_push first serial in
    let step = one_drawn c.args.batch c.args.gtin.now in
    let ok = IsNewRow c.args.gtin.now in
    let law = draw_law c.args.batch c.args.gtin.now in
    let w = undone step ok one_undrawn law rows first serial (subst (λ (ss : List Text). WereDrawn c.args.batch c.args.gtin.now rows ss) cut c.loop-serial.invariant.were) in
    let new : c.remove_last.new.self.rows ≡ one_undrawn rows serial = c.remove_last.ensures.rows in
    let fewer = ap (λ (rs : List ItemRow). length rs) new ∙ one_less_row rows in
    let spare = c.remove_last.ensures.spare in
    let so_far = c.loop-serial.invariant.spare in
    let items = c.remove_last_item.ensures.items in
    let all_items = c.loop-serial.invariant.items in
    let counted = c.loop-serial.invariant.counted in
    record {
      were = subst (λ (rs : List ItemRow). WereDrawn c.args.batch c.args.gtin.now rs first) (sym new) w.3;
      rows = ap (λ (rs : List ItemRow). undrawn rs first) new ∙ sym (split_back step ok one_undrawn law rows first serial) ∙ ap (λ (ss : List Text). undrawn rows ss) (sym cut) ∙ c.loop-serial.invariant.rows;
      counted = omega (arith, items, counted, fewer);
      spare = omega (arith, spare, so_far, long);
      pairs = c.remove_last_item.ensures.pairs ∙ c.loop-serial.invariant.pairs;
      last = c.remove_last_item.ensures.last ∙ c.loop-serial.invariant.last;
      items = omega (arith, items, all_items, long);
      units = c.remove_last_item.ensures.units ∙ c.loop-serial.invariant.units;
      rooms = (c.remove_last_item.ensures.rooms.0 ∙ c.loop-serial.invariant.rooms.0, c.remove_last_item.ensures.rooms.1 ∙ c.loop-serial.invariant.rooms.1);
    }
