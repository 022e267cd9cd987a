use Rattle.std.proofs.Common.{ap, sym, ◌∙◌}
use Rattle.batch_book.specs.Content.{Content}
use Rattle.site_stores.specs.Changes.{taken_back}
use Rattle.site_stores.proofs.Undoing.{applied_and_back, held_same}
use Rattle.site_stores.proofs.laws.applied_and_taken_back.Goals as goal

pub take_back-requires : goal.take_back-requires
take_back-requires c = record { before = c.args.stores.now.content; may = c.requires.may; is = c.apply.ensures.content }

pub returns : goal.returns
returns c = held_same c.take_back.new.self c.args.stores.now
    (c.take_back.ensures.content ∙ ap (λ (k : Content). taken_back k c.args.change.now) c.apply.ensures.content ∙ applied_and_back c.args.stores.now.content c.args.change.now c.requires.may)
    (c.take_back.ensures.room ∙ sym c.apply.ensures.room)
