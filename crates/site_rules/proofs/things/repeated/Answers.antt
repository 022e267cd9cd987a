use Rattle.std.proofs.Common.{sym, ap, ◌∙◌, List, take}
use Rattle.std.specs.Prelude.{option_map}
use Rattle.epc_urn.specs.declared.epc.Epc.{Epc}
use Rattle.deed_words.specs.Chain.{each, when}
use Rattle.deed_words.specs.Tests.{repeated}
use Rattle.deed_words.specs.Names.{is_among}
use Rattle.deed_words.specs.declared.rule.Rule.TheVariants.{RepeatedInRequest}
use Rattle.site_rules.proofs.Ranges.{repeats}
use Rattle.site_rules.proofs.things.repeated.Goals as goal

pub returns-in-Some : goal.returns-in-Some
unfolding repeated
returns-in-Some c =
    ap (option_map RepeatedInRequest) (sym c.in-Some.is ∙ c.requires.asked.repeat_is) ∙ repeats c.args.asked.now.names.now ∙ ap (λ (ns : List Epc). each ns (λ k name. when (is_among (take k ns) name) (RepeatedInRequest k))) c.requires.asked.names_are

pub returns-in-None : goal.returns-in-None
unfolding repeated
returns-in-None c =
    ap (option_map RepeatedInRequest) (sym c.in-None.is ∙ c.requires.asked.repeat_is) ∙ repeats c.args.asked.now.names.now ∙ ap (λ (ns : List Epc). each ns (λ k name. when (is_among (take k ns) name) (RepeatedInRequest k))) c.requires.asked.names_are
