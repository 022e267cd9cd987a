-- What stands behind a scheme.
use Rattle.std.proofs.Common.{◌≡◌, ◌≢◌, ℕ, Bool, true, false, cond, eqb, eq-eqb, List, [], ◌∷◌, ◌++◌, Option, Some, None, MatchOption, refl, ap, ◌∙◌}
use denote.Ref.{Bor}
use Rattle.std.proofs.lemmas.Bool.{eqb-true}
use Rattle.epc_urn.specs.Urns.{behind}

pub behind_again : (scheme rest : List ℕ) → behind scheme (scheme ++ rest) ≡ Some rest
unfolding behind
behind_again [] rest = refl
behind_again (x ∷ xs) rest = ap (λ (b : Bool). cond b (behind xs (xs ++ rest)) None) (eq-eqb x x refl) ∙ behind_again xs rest

found : (b : Bool) (o : Option (List ℕ)) (rest : List ℕ) → cond b o None ≡ Some rest → (b ≡ true) × (o ≡ Some rest)
found true o rest e = (refl, e)
found false o rest e = absurd cc

pub behind_takes : (scheme text rest : List ℕ) → behind scheme text ≡ Some rest → text ≡ scheme ++ rest
unfolding behind
behind_takes [] text rest e = cc
behind_takes (x ∷ xs) [] rest e = absurd cc
behind_takes (x ∷ xs) (b ∷ bs) rest e =
    let f = found (eqb b x) (behind xs bs) rest e in
    ap (λ (c : ℕ). c ∷ bs) (eqb-true b x f.0) ∙ ap (λ (w : List ℕ). x ∷ w) (behind_takes xs bs rest f.1)

no_rest : (scheme text : List ℕ) (o : Option (List ℕ)) → behind scheme text ≡ o → ((rest : List ℕ) → text ≢ scheme ++ rest) → o ≡ None
no_rest scheme text None e h = refl
no_rest scheme text (Some rest) e h = absurd (h rest (behind_takes scheme text rest e))

pub is_behind : (scheme text : List ℕ) (r : Option (Bor (List ℕ))) → MatchOption r ((rest : List ℕ) → text ≢ scheme ++ rest) (λ x. text ≡ scheme ++ x.now)
    → MatchOption r (behind scheme text ≡ None) (λ rest. behind scheme text ≡ Some rest.now)
is_behind scheme text None h = no_rest scheme text (behind scheme text) refl h
is_behind scheme text (Some x) h = ap (behind scheme) h ∙ behind_again scheme x.now
