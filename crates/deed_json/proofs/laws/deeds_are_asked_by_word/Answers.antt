use Rattle.deed_json.proofs.DeedWords.{asked_by_its_word}
use Rattle.deed_json.proofs.laws.deeds_are_asked_by_word.Goals as goal

pub returns : goal.returns
returns c = asked_by_its_word
