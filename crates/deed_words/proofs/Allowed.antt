-- What it says of a deed that it breaks no rule.
use Rattle.std.proofs.Common.{◌≡◌, ℕ, ◌+◌, ◌≤◌, Bool, true, false, ◌||◌, not, List, [], ◌∷◌, map, sym, ◌∙◌, ap, refl, subst, arith, Option, None, Some, true≢false}
use Rattle.std.specs.Prelude.{is_none, is_some, nat_lt}
use Rattle.std.specs.List.{AllByRecursion as Every, list_any}
use Rattle.epc_urn.specs.declared.epc.Epc.{Epc}
use Rattle.deed_words.specs.Setups.{Setup}
use Rattle.deed_words.specs.declared.rule.Rule.{Rule}
use Rattle.deed_words.specs.declared.rule.Rule.TheVariants as rule
use Rattle.deed_words.specs.declared.deed.Deed.{Deed}
use Rattle.deed_words.specs.declared.words.Phase.{Phase}
use Rattle.deed_words.specs.declared.words.Phase.TheVariants.{Planned, Started, Closed}
use Rattle.deed_words.specs.declared.words.What.{What}
use Rattle.deed_words.specs.declared.world.Batch.{Batch}
use Rattle.deed_words.specs.declared.world.Container.{Container}
use Rattle.deed_words.specs.Names.{same_name, is_among}
use Rattle.deed_words.specs.Chain.{first, holds_of}
use Rattle.deed_words.specs.World.{World, batch_of, unit_of}
use Rattle.deed_words.specs.Deeds.{unit_named, batch_named, batch_for}
use Rattle.deed_words.specs.Tests.{Test, unknown_batch, unknown_unit, not_started, is_planned, full}
use Rattle.deed_words.specs.Rules.{broken, rules_of}
use Rattle.deed_words.proofs.Sameness.{same_name-true}
use Rattle.deed_words.proofs.Broken.{first_None, when_None}
use Rattle.std.proofs.lemmas.Bool.Decides.{nat_tests}

-- none of the tests answers
unfoldable pub NoneOf : List (Option Rule) → Type 0
NoneOf [] = Unit {0}
NoneOf (answer ∷ answers) = (answer ≡ None) × NoneOf answers

none_of : (answers : List (Option Rule)) → first answers ≡ None → NoneOf answers
unfolding NoneOf
none_of [] e = tt
none_of (answer ∷ answers) e = let p = first_None answer answers e in (p.0, none_of answers p.1)

pub allowed : (site : Setup) (w : World) (station : ℕ) (deed : Deed) → broken site w station deed ≡ None → NoneOf (map (λ (test : Test). test site w station deed) (rules_of deed))
unfolding broken
allowed site w station deed e = none_of (map (λ (test : Test). test site w station deed) (rules_of deed)) e

pub is_there : {A : Type 0} (o : Option A) → is_none o ≡ false → (x : A) × (o ≡ Some x)
is_there None e = absurd (true≢false e)
is_there (Some x) e = (x, refl)

pub is_there_too : {A : Type 0} (o : Option A) → is_some o ≡ true → (x : A) × (o ≡ Some x)
is_there_too None e = absurd (true≢false (sym e))
is_there_too (Some x) e = (x, refl)

pub at_found : {A : Type 0} (test : A → Bool) (o : Option A) (x : A) (b : Bool) → o ≡ Some x → holds_of test o ≡ b → test x ≡ b
unfolding holds_of
at_found {A} test o x b e h = sym (ap (holds_of test) e) ∙ h

pub has_batch : (site : Setup) (w : World) (station : ℕ) (deed : Deed) → unknown_batch site w station deed ≡ None → (batch : Batch) × (batch_of w (batch_named w deed) ≡ Some batch)
unfolding unknown_batch batch_for
has_batch site w station deed e = is_there (batch_of w (batch_named w deed)) (when_None (is_none (batch_of w (batch_named w deed))) rule.UnknownBatch e)

pub has_unit : (site : Setup) (w : World) (station : ℕ) (deed : Deed) → unknown_unit site w station deed ≡ None → (unit : Container) × (unit_of w (unit_named deed) ≡ Some unit)
unfolding unknown_unit
has_unit site w station deed e = is_there (unit_of w (unit_named deed)) (when_None (is_none (unit_of w (unit_named deed))) rule.UnknownUnit e)

phase-planned : (batch : Batch) → batch.phase ≡ Planned → is_planned batch ≡ true
unfolding is_planned
phase-planned batch e = subst (λ (p : Phase). elim p as (λ _. Bool) [ Planned ↦ true | Started ↦ false | Closed ↦ false ] ≡ true) (sym e) refl

pub has_begun : (site : Setup) (w : World) (station : ℕ) (deed : Deed) (batch : Batch) → not_started site w station deed ≡ None → batch_of w (batch_named w deed) ≡ Some batch → batch.phase ≡ Planned → ⊥
unfolding not_started batch_for
has_begun site w station deed batch e at plan =
    let f : is_planned batch ≡ false = at_found is_planned (batch_of w (batch_named w deed)) batch false at (when_None (holds_of is_planned (batch_of w (batch_named w deed))) rule.BatchNotStarted e) in
    true≢false (sym (phase-planned batch plan) ∙ f)

at_most : (n most : ℕ) → nat_lt most n ≡ false → n ≤ most
at_most n most e = grind (arith, nat_tests)

pub has_room : (what : What) (have more most : ℕ) → full what have more most ≡ None → have + more ≤ most
unfolding full
has_room what have more most e = at_most (have + more) most (when_None (nat_lt most (have + more)) (rule.SiteFull what have) e)

pub among_every : (P : Epc → Type 0) (names : List Epc) (name : Epc) → is_among names name ≡ true → Every P names → P name
unfolding is_among
among_every P [] name e a = absurd (true≢false (sym e))
among_every P (x ∷ names) name e a =
    (elim (same_name name x) as (λ b. same_name name x ≡ b → (b || list_any (same_name name) names) ≡ true → P name) [
      | true ↦ λ t _. subst P (sym (same_name-true name x t)) a.0
      | false ↦ λ _ h. among_every P names name h a.1
    ]) refl e

pub not_false : (b : Bool) → not b ≡ false → b ≡ true
not_false true e = refl
not_false false e = absurd (true≢false e)
