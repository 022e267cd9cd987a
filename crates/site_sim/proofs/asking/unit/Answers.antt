use Rattle.std.proofs.Common.{◌+◌, ◌∙◌, ℕ, ap}
use Rattle.gs1_keys.specs.Keys.{issue}
use Rattle.deed_words.specs.Names.{Text}
use Rattle.deed_words.specs.Setups.{code_of}
use Rattle.site_sim.specs.Example as example
use Rattle.site_sim.proofs.asking.unit.Goals as goal

pub returns : goal.returns
unfolding code_of example.site
returns c =
    c.issue.ensures ∙ ap (λ (p : Text). issue p 1 (1 + c.from.result)) c.prefix.ensures ∙ ap (λ (n : ℕ). issue example.site.prefix 1 (1 + n)) c.from.ensures
