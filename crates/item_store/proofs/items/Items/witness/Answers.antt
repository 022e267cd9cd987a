use Rattle.std.proofs.Common.{◌≡◌, sym, ap, ◌∙◌}
use Rattle.item_store.specs.Rows.{Store, is_in, count_in}
use Rattle.item_store.proofs.Changes.{nowhere}
use Rattle.item_store.proofs.Lent.{none_pass}
use Rattle.item_store.proofs.items.Items.witness.Goals as goal

pub returns-then-count_in-eq0 : goal.returns-then-count_in-eq0
returns-then-count_in-eq0 c =
    let e : c.as_slice-2.result.now ≡ c.args.self.now.rows = c.as_slice-2.ensures.value ∙ ap (λ (v : Store). v.rows) c.self.view_is in
    sym (nowhere (is_in c.args.batch c.args.state) c.args.self.now.rows (none_pass (is_in c.args.batch c.args.state) c.args.self.now.rows (ap (count_in c.args.batch c.args.state) (sym e) ∙ sym c.count_in.ensures.value ∙ c.if-count_in-eq0.true)))
