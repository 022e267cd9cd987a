use Rattle.std.proofs.Common.{◌≡◌, Some, sym, subst}
use Rattle.std.specs.List.{position, slice_get}
use Rattle.batch_book.specs.Batches.{is_called}
use Rattle.batch_book.specs.Content.{Content}
use Rattle.site_deeds.proofs.OfBatch.{declare_does}
use Rattle.site_deeds.proofs.Shared.{got}
use Rattle.site_deeds.proofs.batches.declare.Goals as goal

pub returns-clause-done : goal.returns-clause-done
returns-clause-done c = λ name found.
    let back = sym c.in_ok-ready.ensures.content in
    let kept = got c.args.stores.now.content.batches c.args.batch c.requires.there in
    declare_does c.ready.new.self c.plain.result name c.args.batch kept.0 c.tell_whole.ensures (subst (λ (k : Content). position (is_called name) k.batches ≡ Some c.args.batch) back found)
    (subst (λ (k : Content). slice_get k.batches c.args.batch ≡ Some kept.0) back kept.1) c.plain.ensures.answer c.args.line c.args.good c.args.spoiled c.args.returned (c.requires.started kept.0 kept.1) c.in_ok-ready.ensures.ok.declarations c.plain.ensures.change
