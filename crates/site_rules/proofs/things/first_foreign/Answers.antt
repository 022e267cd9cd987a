use Rattle.std.proofs.Common.{sym, ap, ◌∙◌}
use Rattle.deed_words.specs.Names.{Text}
use Rattle.deed_words.specs.Deeds.{batch_named}
use Rattle.deed_words.specs.Tests.{strays}
use Rattle.batch_book.specs.Content.{world_in}
use Rattle.site_rules.proofs.Naming.{foreign_none, foreign_first}
use Rattle.site_rules.proofs.things.first_foreign.Goals as goal

pub first_of-requires : goal.first_of-requires
first_of-requires c = record { places = c.as_slice.ensures.value ∙ c.requires.asked.places_are }

pub returns-then-is_empty : goal.returns-then-is_empty
returns-then-is_empty c =
    let w = world_in c.args.asked.now.stores.now.content in
    sym (foreign_none w (batch_named w c.args.asked.now.deed.now) c.args.asked.now.names.now (sym c.is_empty.ensures ∙ c.if-is_empty.true))

pub returns-in_default : goal.returns-in_default
returns-in_default c =
    let k = c.args.asked.now.stores.now.content in
    sym (ap (λ (b : Text). strays (world_in k) b c.args.asked.now.names.now) c.in_default.ensures.none ∙ foreign_first k c.tell_whole.ensures c.args.asked.now.names.now (sym c.is_empty.ensures ∙ c.if-is_empty.false))

pub returns : goal.returns
unfolding strays
returns c =
    let k = c.args.asked.now.stores.now.content in
    c.first_of.ensures ∙ ap (λ (b : Text). strays (world_in k) b c.args.asked.now.names.now) (sym c.in-Some.ensures.some)
