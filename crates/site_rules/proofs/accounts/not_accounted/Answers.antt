use Rattle.std.proofs.Common.{Option, sym, ap, ◌∙◌}
use Rattle.std.specs.Prelude.{option_map}
use Rattle.deed_words.specs.Accounts.{finding}
use Rattle.deed_words.specs.Deeds.{batch_named}
use Rattle.deed_words.specs.Tests.{not_accounted}
use Rattle.deed_words.specs.declared.rule.Finding.{Finding}
use Rattle.deed_words.specs.declared.rule.Rule.TheVariants.{NotAccounted}
use Rattle.batch_book.specs.Content.{world_in}
use Rattle.site_stores.proofs.Counted.{named_at, nothing_found}
use Rattle.site_rules.proofs.Elses.{close_about}
use Rattle.site_rules.proofs.accounts.not_accounted.Goals as goal

pub returns-in_default : goal.returns-in_default
unfolding not_accounted
returns-in_default c =
    let k = c.args.asked.now.stores.now.content in
    sym (ap (λ (o : Option Finding). option_map NotAccounted o) (nothing_found k c.args.asked.now.setup.now (batch_named (world_in k) c.args.asked.now.deed.now) c.tell_whole.ensures.rows c.tell_whole.ensures.units
    (sym (c.requires.asked.batch_is (close_about c.args.asked.now.deed.now c.requires.close)) ∙ c.in_default.is)))

pub finding-requires : goal.finding-requires
finding-requires c =
    let k = c.args.asked.now.stores.now.content in
    (named_at k (batch_named (world_in k) c.args.asked.now.deed.now) c.in-Some.batch (sym (c.requires.asked.batch_is (close_about c.args.asked.now.deed.now c.requires.close)) ∙ c.in-Some.is)).0

pub returns-in_default-finding : goal.returns-in_default-finding
unfolding not_accounted
returns-in_default-finding c =
    let k = c.args.asked.now.stores.now.content in
    let n = named_at k (batch_named (world_in k) c.args.asked.now.deed.now) c.in-Some.batch (sym (c.requires.asked.batch_is (close_about c.args.asked.now.deed.now c.requires.close)) ∙ c.in-Some.is) in
    ap (λ (o : Option Finding). option_map NotAccounted o) (sym c.in_default-finding.is ∙ c.finding.ensures c.args.asked.now.setup.now (sym c.station_count.ensures) ∙ ap (finding c.args.asked.now.setup.now (world_in k)) n.1)

pub returns : goal.returns
unfolding not_accounted
returns c =
    let k = c.args.asked.now.stores.now.content in
    let n = named_at k (batch_named (world_in k) c.args.asked.now.deed.now) c.in-Some.batch (sym (c.requires.asked.batch_is (close_about c.args.asked.now.deed.now c.requires.close)) ∙ c.in-Some.is) in
    ap (λ (o : Option Finding). option_map NotAccounted o) (sym c.in-Some-finding.is ∙ c.finding.ensures c.args.asked.now.setup.now (sym c.station_count.ensures) ∙ ap (finding c.args.asked.now.setup.now (world_in k)) n.1)
