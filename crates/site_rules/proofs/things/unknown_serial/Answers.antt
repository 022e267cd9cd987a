use Rattle.std.proofs.Common.{ap, ◌∙◌, List, not}
use Rattle.epc_urn.specs.declared.epc.Epc.{Epc}
use Rattle.deed_words.specs.Chain.{each, when}
use Rattle.deed_words.specs.Tests.{unknown_serial, is_known}
use Rattle.deed_words.specs.declared.rule.Rule.TheVariants.{UnknownSerial}
use Rattle.batch_book.specs.Content.{world_in}
use Rattle.site_rules.proofs.things.unknown_serial.Goals as goal

pub first_of-requires : goal.first_of-requires
first_of-requires c = record { places = c.as_slice.ensures.value ∙ c.requires.asked.places_are }

pub returns : goal.returns
unfolding unknown_serial
returns c =
    let w = world_in c.args.asked.now.stores.now.content in
    c.first_of.ensures ∙ ap (λ (ns : List Epc). each ns (λ k name. when (not (is_known w c.args.asked.now.deed.now name)) (UnknownSerial k))) c.requires.asked.names_are
