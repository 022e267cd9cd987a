use Rattle.std.proofs.Common.{◌∙◌}
use Rattle.site_rules.proofs.things.misfits.Goals as goal

pub first_of-requires : goal.first_of-requires
first_of-requires c = record { places = c.as_slice.ensures.value ∙ c.requires.asked.places_are }
