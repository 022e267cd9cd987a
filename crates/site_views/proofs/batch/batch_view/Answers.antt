use Rattle.std.proofs.Common.{◌≡◌, List, Some, sym, ap, ◌∙◌, refl}
use Rattle.std.specs.Prelude.{filter_map}
use Rattle.deed_words.specs.Chain.{each_from}
use Rattle.deed_words.specs.Setups.{Setup}
use Rattle.deed_words.specs.declared.setup.Station.{Station}
use Rattle.site_views.specs.Own.{row_of_line}
use Rattle.deed_words.specs.declared.world.Batch.{Batch}
use Rattle.batch_book.specs.Content.{content_of}
use Rattle.site_views.proofs.Seen.{view_is}
use Rattle.site_views.proofs.batch.batch_view.Goals as goal

some_same : (a b : Batch) → Some a ≡ Some b → a ≡ b
some_same a b e = cc

pub returns : goal.returns
returns c = λ kept there.
    let same = some_same c.batch-kept.result kept (sym c.batch-kept.ensures ∙ there) in
    view_is (content_of c.args.book.now c.args.items.now c.args.tree.now) c.tell_named.ensures.apart c.tell_named.ensures.named c.args.batch c.requires c.args.setup.now c.args.events kept _ there
    (ap (λ (b : Batch). b.order) same) (ap (λ (b : Batch). b.quantity) same) (ap (λ (b : Batch). b.phase) same)
    c.counts.ensures c.used_units.ensures c.used_units-2.ensures refl (c.in_ok-lines.ensures ∙ ap (λ (ss : List Station). filter_map (λ row. row) (each_from 0 (λ line station. row_of_line c.args.batch c.args.items.now.rows line station.name) ss)) (c.as_slice.ensures ∙ ap (λ (s : Setup). s.stations) c.setup.view_is))
