use Rattle.std.proofs.Common.{◌≡◌, ◌∷◌, ℕ, List, Option, length, map, Some, sym, ap, subst, ◌∙◌, arith}
use Rattle.pack_tree.specs.Chains.{latest_below, newest_from, IsOwn}
use Rattle.pack_tree.specs.Units.{batch_in}
use Rattle.pack_tree.proofs.Chaining.{from_latest, latest_own}
use Rattle.pack_tree.proofs.units.OwnUnitsIterator.next.Goals as goal

before : (c : goal.After-self-1) → c.earlier-self-inside.result ≡ latest_below c.self.inside.batch (map batch_in c.self.inside.units.now.rows) c.in_ok-at.at
before c =
    let bs : List ℕ = map batch_in c.self.inside.units.now.rows in
    let own : IsOwn (Some c.in_ok-at.at) c.self.inside.batch bs = subst (λ (o : Option ℕ). IsOwn o c.self.inside.batch bs) c.in_ok-at.was c.self.invariant in
    c.earlier-self-inside.ensures ∙ ap (λ (b : ℕ). latest_below b bs c.in_ok-at.at) own.1

steps : (c : goal.After-self-1) → c.args.self.now ≡ c.in_ok-at.at ∷ newest_from c.earlier-self-inside.result c.self.inside.batch (map batch_in c.self.inside.units.now.rows)
steps c =
    let bs : List ℕ = map batch_in c.self.inside.units.now.rows in
    let b : ℕ = c.self.inside.batch in
    let at : c.self.inside.at ≡ Some c.in_ok-at.at = c.in_ok-at.was in
    sym c.self.view_is ∙ ap (λ (o : Option ℕ). newest_from o b bs) at
    ∙ ap (λ (ns : List ℕ). c.in_ok-at.at ∷ ns) (sym (ap (λ (o : Option ℕ). newest_from o b bs) (before c) ∙ from_latest b bs c.in_ok-at.at))

pub invariant_of-self : goal.invariant_of-self
invariant_of-self c =
    let bs : List ℕ = map batch_in c.self.inside.units.now.rows in
    let own : IsOwn (Some c.in_ok-at.at) c.self.inside.batch bs = subst (λ (o : Option ℕ). IsOwn o c.self.inside.batch bs) c.in_ok-at.was c.self.invariant in
    subst (λ (o : Option ℕ). IsOwn o c.self.inside.batch bs) (sym (before c)) (latest_own c.self.inside.batch bs c.in_ok-at.at (omega (arith, own.0)))

pub returns-clause-steps : goal.returns-clause-steps
returns-clause-steps c = steps c

pub returns-clause-goes : goal.returns-clause-goes
returns-clause-goes c = let e = ap (λ (ns : List ℕ). length ns) (steps c) in record { on = λ _. (tt, tt, omega arith); keeps = tt; rests = λ _. tt }
