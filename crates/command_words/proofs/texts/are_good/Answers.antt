use Rattle.std.proofs.Common.{string_bytes, arith}
use Rattle.std.proofs.lemmas.List.Folds.{list_all-map}
use Rattle.std.proofs.lemmas.Grind.{common_steps}
use Rattle.command_words.specs.Texts.{is_word}
use Rattle.command_words.proofs.texts.are_good.Goals as goal

pub returns : goal.returns
returns c = grind (arith, common_steps, list_all-map is_word string_bytes c.args.args.now)
