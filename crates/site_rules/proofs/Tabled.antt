-- The table of rules, as the code reads it.
use Rattle.std.proofs.Common.{◌≡◌, ◌<◌, ℕ, zero, suc, Bool, true, List, [], ◌∷◌, map, length, get_or, refl, ap, ◌∙◌, Option, None, Some, arith}
use Rattle.std.specs.List.{list_all}
use Rattle.std.proofs.lemmas.Bool.{and_parts}
use Rattle.deed_words.specs.Setups.{Setup}
use Rattle.deed_words.specs.World.{World}
use Rattle.deed_words.specs.Chain.{first, each, each_from}
use Rattle.deed_words.specs.Rules.{broken, rules_of}
use Rattle.deed_words.specs.Tests.{Test as TheTest}
use Rattle.deed_words.specs.declared.deed.Deed.{Deed}
use Rattle.deed_words.specs.declared.rule.Rule.{Rule}
use Rattle.site_rules.specs.declared.table.Test.{Test}
use Rattle.site_rules.specs.Rules.{test_of, told}

told_from : (site : Setup) (w : World) (station : ℕ) (deed : Deed) (k : ℕ) (tests : List Test) → first (each_from k (told site w station deed) tests) ≡ first (map (λ (test : TheTest). test site w station deed) (map test_of tests))
unfolding each_from first
told_from site w station deed k [] = refl
told_from site w station deed k (test ∷ tests) =
    elim (test_of test site w station deed) as (λ (o : Option Rule). first (o ∷ each_from (suc k) (told site w station deed) tests) ≡ first (o ∷ map (λ (t : TheTest). t site w station deed) (map test_of tests))) [
      | None ↦ told_from site w station deed (suc k) tests
      | Some rule ↦ refl
    ]

-- the first test that answers is the broken rule
pub table_is : (site : Setup) (w : World) (station : ℕ) (deed : Deed) (tests : List Test) → map test_of tests ≡ rules_of deed → each tests (told site w station deed) ≡ broken site w station deed
unfolding each broken
table_is site w station deed tests e = told_from site w station deed 0 tests ∙ ap (λ (ts : List TheTest). first (map (λ (test : TheTest). test site w station deed) ts)) e

-- what holds of all tests holds of each
pub all_at : (holds : Test → Bool) (tests : List Test) (i : ℕ) (test : Test) → list_all holds tests ≡ true → i < length tests → test ≡ get_or tests i test → holds test ≡ true
all_at holds [] i test a l e = absurd (omega (arith, l))
all_at holds (x ∷ tests) zero test a l e = ap holds e ∙ (and_parts (holds x) (list_all holds tests) a).0
all_at holds (x ∷ tests) (suc i) test a l e = all_at holds tests i test (and_parts (holds x) (list_all holds tests) a).1 (omega (arith, l)) e

pub there_is : {A : Type 0} (xs : List A) (i : ℕ) (d : A) → i < length xs → get_or xs i d ≡ get_or xs i (get_or xs i d)
there_is [] i d l = absurd (omega (arith, l))
there_is (x ∷ xs) zero d l = refl
there_is (x ∷ xs) (suc i) d l = there_is xs i d (omega (arith, l))
