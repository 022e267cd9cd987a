use Rattle.std.proofs.Common.{◌∙◌}
use Rattle.batch_book.specs.Content.{world_in}
use Rattle.site_rules.proofs.Tabled.{table_is}
use Rattle.site_rules.proofs.telling.broken.Goals as goal

pub first_rule-requires-clause-suited : goal.first_rule-requires-clause-suited
first_rule-requires-clause-suited c = c.rules_of.ensures.suited

pub returns : goal.returns
returns c =
    c.first_rule.ensures ∙ table_is c.args.asked.now.setup.now (world_in c.args.asked.now.stores.now.content) c.args.asked.now.station c.args.asked.now.deed.now c.rules_of.result.now c.rules_of.ensures.is
