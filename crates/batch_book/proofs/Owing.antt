-- What a line owes of a batch.
use Rattle.std.proofs.Common.{◌≡◌, ◌↔◌, ℕ, Bool, true, false, not, List, Option, Some, None, Result, Ok, Err, refl, ap, sym, ◌∙◌, true≢false}
use Rattle.std.specs.Prelude.{option_and_then, if◌then◌else◌, IsOk}
use Rattle.std.specs.Result.{result_err}
use Rattle.deed_words.specs.Names.{same}
use Rattle.deed_words.specs.Chain.{when}
use Rattle.deed_words.specs.declared.rule.Finding.{Finding}
use Rattle.deed_words.specs.declared.rule.Finding.TheVariants.{DeclaredDiffers}

-- the finding where the numbers are the same, and where they aren't
module _ (lent : Bool) (declared : Option (List ℕ)) (said counted : List ℕ) (line : ℕ) (l : lent ≡ true) (e : declared ≡ Some said) where
  reached : (if lent then option_and_then (λ s. when (not (same s counted)) (DeclaredDiffers line counted s)) declared else None) ≡ when (not (same said counted)) (DeclaredDiffers line counted said)
  reached = λ z. if l z then option_and_then (λ s. when (not (same s counted)) (DeclaredDiffers line counted s)) (e z) else None

  pub agreed : same said counted ≡ true → (if lent then option_and_then (λ s. when (not (same s counted)) (DeclaredDiffers line counted s)) declared else None) ≡ None
  unfolding when
  agreed s = reached ∙ ap (λ b. when (not b) (DeclaredDiffers line counted said)) s

  pub differed : same said counted ≡ false → (if lent then option_and_then (λ s. when (not (same s counted)) (DeclaredDiffers line counted s)) declared else None) ≡ Some (DeclaredDiffers line counted said)
  unfolding when
  differed s = reached ∙ ap (λ b. when (not b) (DeclaredDiffers line counted said)) s

-- an answer is Ok exactly where nothing is found
some_none : {A : Type 0} (x : A) → Some x ≡ None → ⊥
some_none x e = cc

pub ok_is : (answer : Result (Unit {0}) Finding) (found : Option Finding) (P : Type 0) → result_err answer ≡ found → (found ≡ None → P) × (P → found ≡ None) → IsOk answer ↔ P
ok_is (Ok x) found P e w = (λ _. w.0 (sym e), λ _. refl)
ok_is (Err y) found P e w = (λ z. absurd (true≢false (sym z)), λ p. absurd (some_none y (e ∙ w.1 p)))
