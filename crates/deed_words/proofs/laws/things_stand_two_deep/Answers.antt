use Rattle.deed_words.proofs.Nesting.{two_deep}
use Rattle.deed_words.proofs.laws.things_stand_two_deep.Goals as goal

pub returns : goal.returns
returns c = two_deep
