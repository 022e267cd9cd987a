use Rattle.std.proofs.Common.{◌≡◌, map, take}
use Rattle.deed_words.specs.Deeds.{item_of}
use Rattle.site_rules.proofs.asking.of_codes.Given as goal

abbrev pub invariant-loop-code : goal.invariant-loop-code
invariant-loop-code l = l.names ≡ map item_of (take l.code-index l.codes)
