use Rattle.std.proofs.Common.{map, sym, ap, ◌∙◌}
use Rattle.deed_words.specs.Rules.{broken}
use Rattle.batch_book.specs.Content.{world_in}
use Rattle.site_stores.specs.Places.{place_of}
use Rattle.site_deeds.specs.Verdicts.{IsJudged}
use Rattle.site_deeds.proofs.judging.judge.Goals as goal

pub returns-in-Some : goal.returns-in-Some
unfolding IsJudged
returns-in-Some c =
    let e = c.in_ok-asked.ensures in
    ((λ z. broken (sym e.setup z) (world_in (sym e.stores z).content) (sym e.station z) (sym e.deed z)) ∙ sym c.broken.ensures ∙ c.in-Some.is, c.find_subject-subject.ensures)

pub returns : goal.returns
unfolding IsJudged
returns c =
    let e = c.in_ok-asked.ensures in
    let k = c.args.stores.now.content in
    ((λ z. broken (sym e.setup z) (world_in (sym e.stores z).content) (sym e.station z) (sym e.deed z)) ∙ sym c.broken.ensures ∙ c.in-None.is, record { unit_is = e.asked.unit_is; batch_is = e.asked.batch_is; places_are = e.asked.places_are ∙ ap (map (place_of k.rows k.units)) e.asked.names_are; origins_are = e.asked.origins_are })
