-- A history step by step: each entry with the world before it.
use Rattle.std.specs.Prelude.{List, [], ◌∷◌, Option}
use Rattle.deed_words.specs.Setups.{Setup}
use Rattle.deed_words.specs.declared.entry.Entry.{Entry}
use Rattle.deed_words.specs.declared.rule.Rule.{Rule}
use Rattle.deed_words.specs.World.{World, nothing_yet}
use Rattle.deed_words.specs.Rules.{broken}
use Rattle.deed_words.specs.Replies.{after}

pub record Step : Type 0 where
  pub before : World
  pub entry : Entry

-- the steps of the entries, from a world on
unfoldable pub steps_from : Setup → World → List Entry → List Step
steps_from site w [] = []
steps_from site w (entry ∷ entries) = record { before = w; entry = entry } ∷ steps_from site (after site w entry) entries

abbrev pub steps_of : Setup → List Entry → List Step
steps_of site history = steps_from site nothing_yet history

-- the rule that the entry breaks, if there is one
abbrev pub rule_at : Setup → Step → Option Rule
rule_at site step = broken site step.before step.entry.station step.entry.deed
