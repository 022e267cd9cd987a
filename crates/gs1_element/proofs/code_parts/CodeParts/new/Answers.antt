use Rattle.std.proofs.Common.{ap, ◌∙◌}
use Rattle.gs1_element.specs.Parts.{pieces_from}
use Rattle.gs1_element.proofs.Whole.{units_are_cut}
use Rattle.gs1_element.proofs.code_parts.CodeParts.new.Goals as goal

pub returns-clause-units : goal.returns-clause-units
returns-clause-units c = λ mark us m h e. ap (λ at. pieces_from at c.args.scan.now) c.length_of_prefix-at.ensures.is ∙ units_are_cut c.args.scan.now mark us m h e
