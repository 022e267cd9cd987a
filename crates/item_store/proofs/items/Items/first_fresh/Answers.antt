use Rattle.std.proofs.Common.{◌≡◌, take, drop, IfOk, ap, subst, ◌∙◌}
use Rattle.deed_words.specs.declared.words.State.TheVariants.{Fresh}
use Rattle.item_store.specs.Rows.{Store, is_in, places_of, fresh_places}
use Rattle.item_store.proofs.items.Items.first_fresh.Goals as goal

pub returns : goal.returns
returns c =
    let rows = c.as_slice-rows.result.now in
    let from = c.start-from.result in
    let e : places_of (is_in c.args.batch Fresh) from (drop from rows) ≡ fresh_places c.args.batch c.args.self.now.rows =
    c.start-from.ensures.fresh
    ∙ ap (fresh_places c.args.batch) c.as_slice-rows.ensures.value
    ∙ ap (λ (v : Store). fresh_places c.args.batch v.rows) c.self.view_is in
    subst (λ ps. IfOk c.fresh_from.result (λ ids. ids ≡ take c.args.count ps)) e c.fresh_from.ensures
