-- Whether a deed may be done.
use Rattle.std.specs.Prelude.{◌≡◌, ℕ, None, Some}
use Rattle.deed_words.specs.Rules.{broken}
use Rattle.deed_words.specs.Setups.{Setup}
use Rattle.deed_words.specs.declared.deed.Deed.{Deed}
use Rattle.batch_book.specs.Content.{Content, world_in}
use Rattle.site_rules.specs.Asked.{IsFound, IsSubject}
use Rattle.site_deeds.specs.declared.judging.Judged.{Judged}
use Rattle.site_deeds.specs.declared.judging.Judged.TheVariants.{Breaks, Allowed}

-- the rule that the deed breaks first, and what it is about; or that it breaks none, and what its names stand for
unfoldable pub IsJudged : Setup → Content → ℕ → Deed → Judged → Type 0
IsJudged site c station deed (Breaks rule subject) = (broken site (world_in c) station deed ≡ Some rule) × IsSubject c deed subject
IsJudged site c station deed (Allowed found) = (broken site (world_in c) station deed ≡ None) × IsFound c deed found
