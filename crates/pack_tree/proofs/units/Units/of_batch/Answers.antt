use Rattle.std.proofs.Common.{ℕ, List, Option, length, map, sym, subst, ◌∙◌, arith}
use Rattle.std.proofs.lemmas.List.{length-map}
use Rattle.pack_tree.specs.Chains.{newest_from, IsOwn}
use Rattle.pack_tree.specs.Units.{batch_in}
use Rattle.pack_tree.proofs.Chaining.{from_latest, latest_own}
use Rattle.pack_tree.proofs.units.Units.of_batch.Goals as goal

pub invariant_of-result : goal.invariant_of-result
invariant_of-result c =
    let bs : List ℕ = map batch_in c.args.self.now.rows in
    subst (λ (b : ℕ). IsOwn c.latest.result b bs) (sym c.batch.view_is)
    (subst (λ (o : Option ℕ). IsOwn o c.args.batch bs) (sym c.latest.ensures) (latest_own c.args.batch bs (length c.args.self.now.rows) (omega (arith, length-map c.args.self.now.rows batch_in))))

pub returns : goal.returns
returns c =
    let bs : List ℕ = map batch_in c.args.self.now.rows in
    (λ z. newest_from (c.latest.ensures z) (c.batch.view_is z) bs) ∙ from_latest c.args.batch bs (length c.args.self.now.rows)
