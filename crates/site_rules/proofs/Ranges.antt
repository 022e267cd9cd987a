-- Counts and lengths.
use Rattle.std.proofs.Common.{◌≡◌, ℕ, suc, Bool, true, false, eqb, length, List, [], ◌∷◌, take, refl, ◌∙◌, arith}
use Rattle.std.specs.Prelude.{option_map}
use Rattle.std.proofs.lemmas.Bool.Decides.{nat_tests}
use Rattle.epc_urn.specs.declared.epc.Epc.{Epc}
use Rattle.deed_words.specs.Names.{Text, is_among}
use Rattle.deed_words.specs.Setups.{Setup}
use Rattle.deed_words.specs.World.{World}
use Rattle.deed_words.specs.Chain.{first, when, each, each_from, is_empty}
use Rattle.deed_words.specs.Deeds.{named}
use Rattle.deed_words.specs.Tests.{out_of_range}
use Rattle.deed_words.specs.declared.deed.OrderRow.{OrderRow}
use Rattle.deed_words.specs.declared.deed.Deed.{Deed}
use Rattle.deed_words.specs.declared.deed.Deed.TheVariants.{Draw, Lend, Orders}
use Rattle.deed_words.specs.declared.rule.Rule.TheVariants.{CountOutOfRange, RepeatedInRequest}
use Rattle.name_marks.specs.Repeats.{first_repeat}

more_than_none : (n : ℕ) → eqb (suc n) 0 ≡ false
more_than_none n = grind (arith, nat_tests)

pub emptiness : {A : Type 0} (b : Bool) (xs : List A) → b ≡ eqb (length xs) 0 → b ≡ is_empty xs
unfolding is_empty
emptiness b [] e = e
emptiness b (x ∷ xs) e = e ∙ more_than_none (length xs)

-- deeds that list things
pub range_else : (site : Setup) (w : World) (station : ℕ) (deed : Deed) → ((name : Text) (count : ℕ) → deed ≡ Draw name count → ⊥) → ((name : Text) (count : ℕ) → deed ≡ Lend name count → ⊥) → ((rows : List OrderRow) → deed ≡ Orders rows → ⊥)
    → out_of_range site w station deed ≡ when (is_empty (named w deed)) (CountOutOfRange 1000)
unfolding out_of_range
range_else site w station (Draw name count) a b c = absurd (a name count refl)
range_else site w station (Lend name count) a b c = absurd (b name count refl)
range_else site w station (Orders rows) a b c = absurd (c rows refl)
range_else site w station deed a b c = refl

repeats_from : {A B : Type 0} (test : ℕ → A → Bool) (rule : ℕ → B) (k : ℕ) (xs : List A) → option_map rule (first (each_from k (λ i x. when (test i x) i) xs)) ≡ first (each_from k (λ i x. when (test i x) (rule i)) xs)
unfolding each_from first when
repeats_from test rule k [] = refl
repeats_from {A} {B} test rule k (x ∷ xs) =
    elim (test k x) as (λ b. option_map rule (first (when b k ∷ each_from (suc k) (λ i x. when (test i x) i) xs)) ≡ first (when b (rule k) ∷ each_from (suc k) (λ i x. when (test i x) (rule i)) xs)) [
      | true ↦ refl
      | false ↦ repeats_from test rule (suc k) xs
    ]

pub repeats : (names : List Epc) → option_map RepeatedInRequest (first_repeat names) ≡ each names (λ k name. when (is_among (take k names) name) (RepeatedInRequest k))
unfolding first_repeat each
repeats names = repeats_from (λ k name. is_among (take k names) name) RepeatedInRequest 0 names
