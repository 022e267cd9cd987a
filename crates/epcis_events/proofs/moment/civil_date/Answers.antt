use Rattle.std.proofs.Common.{arith, ◌∙◌, ◌+ℤ◌}
use Rattle.jiff.specs.Words.{epoch_day, IsEpochDay}
use Rattle.jiff.proofs.SpanFacts.{signed_arith, date_add-days, can_add-days}
use Rattle.std.proofs.lemmas.Int.{to_z-of_z}
use Rattle.epcis_events.proofs.Days.{first_date}
use Rattle.epcis_events.proofs.moment.civil_date.Goals as goal

pub add-requires : goal.add-requires
add-requires c =
    let zero = first_date c.date.result c.date.ensures in
    let only = simp (to_z-of_z, c.ranges.days) at c.days.ensures in
    let day : IsEpochDay (epoch_day c.date.result +ℤ c.args.days) = rw zero (omega (arith, signed_arith, c.requires.0), omega (arith, signed_arith, c.requires.1)) in
    (can_add-days c.date.result c.args.days c.days.result only).1 day

pub returns : goal.returns
returns c =
    let zero = first_date c.date.result c.date.ensures in
    let only = simp (to_z-of_z, c.ranges.days) at c.days.ensures in
    c.add.ensures ∙ date_add-days c.date.result c.args.days c.days.result only ∙ rw zero (omega (arith, signed_arith))
