use Rattle.std.proofs.Common.{Bool, sym, ap, ◌∙◌, List}
use Rattle.epc_urn.specs.declared.epc.Epc.{Epc}
use Rattle.deed_words.specs.Chain.{when, is_empty}
use Rattle.deed_words.specs.Tests.{out_of_range}
use Rattle.deed_words.specs.declared.deed.Deed.{Deed}
use Rattle.deed_words.specs.declared.deed.OrderRow.{OrderRow}
use Rattle.deed_words.specs.declared.rule.Rule.TheVariants.{CountOutOfRange}
use Rattle.batch_book.specs.Content.{world_in}
use Rattle.site_rules.proofs.Ranges.{emptiness, range_else}
use Rattle.site_rules.proofs.counts.out_of_range.Goals as goal

pub returns-in-Orders : goal.returns-in-Orders
unfolding out_of_range
returns-in-Orders c =
    let w = world_in c.args.asked.now.stores.now.content in
    c.list_range.ensures ∙ ap (λ (b : Bool). when b (CountOutOfRange 1000)) (emptiness c.is_empty.result c.as_slice.result.now c.is_empty.ensures) ∙ ap (λ (rows : List OrderRow). when (is_empty rows) (CountOutOfRange 1000)) c.as_slice.ensures
    ∙ ap (λ (deed : Deed). out_of_range c.args.asked.now.setup.now w c.args.asked.now.station deed) (sym c.in-Orders.is)

pub returns-in_default : goal.returns-in_default
returns-in_default c =
    c.list_range-in_default.ensures ∙ ap (λ (b : Bool). when b (CountOutOfRange 1000)) (emptiness c.is_empty-in_default.result c.args.asked.now.names.now c.is_empty-in_default.ensures) ∙ ap (λ (ns : List Epc). when (is_empty ns) (CountOutOfRange 1000)) c.requires.asked.names_are
    ∙ sym (range_else c.args.asked.now.setup.now (world_in c.args.asked.now.stores.now.content) c.args.asked.now.station c.args.asked.now.deed.now c.in_default.not-Draw c.in_default.not-Lend c.in_default.not-Orders)
