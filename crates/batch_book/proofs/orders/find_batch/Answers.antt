use Rattle.std.proofs.Common.{◌≡◌, ℕ, ◌<◌, true, false, List, length, get_or, refl, sym, ap, subst, ◌∙◌}
use Rattle.std.proofs.lemmas.List.{length-map, get_or-map}
use Rattle.batch_book.specs.Batches.{is_called}
use Rattle.batch_book.specs.Ledgers.{hash_in}
use Rattle.batch_book.proofs.Named.{no_batch, hash_there, found_nowhere, found_there}
use Rattle.batch_book.proofs.orders.find_batch.Goals as goal

pub returns-in-None-clause-absent : goal.returns-in-None-clause-absent
returns-in-None-clause-absent c = λ k d l.
    elim (is_called c.args.name.now (get_or c.args.batches.now k d)) as (λ b. is_called c.args.name.now (get_or c.args.batches.now k d) ≡ b → b ≡ false) [
      | true ↦ λ n.
          let m : length c.args.table.now.hashes ≡ length c.args.batches.now = ap (λ (xs : List ℕ). length xs) c.requires.hashed ∙ length-map c.args.batches.now hash_in in
          let e : get_or c.args.table.now.hashes k 0 ≡ c.hash_of.result =
          ap (λ (xs : List ℕ). get_or xs k 0) c.requires.hashed ∙ get_or-map hash_in c.args.batches.now k d 0 l ∙ hash_there _ _ n ∙ sym c.hash_of.ensures.is in
          sym n ∙ (c.in-None.ensures.absent k (subst (λ x. k < x) (sym m) l) e).1 d
      | false ↦ λ n. refl
    ] refl

pub returns-in-None-clause-is : goal.returns-in-None-clause-is
returns-in-None-clause-is c = sym (found_nowhere c.args.batches.now c.args.name.now (returns-in-None-clause-absent c))

pub returns-in-Some-clause-is : goal.returns-in-Some-clause-is
returns-in-Some-clause-is c =
    let within : c.in-Some.at < length c.args.batches.now = subst (λ n. c.in-Some.at < n) (ap (λ (xs : List ℕ). length xs) c.requires.hashed ∙ length-map c.args.batches.now hash_in) c.in-Some.ensures.found.0 in
    sym (found_there c.args.batches.now c.args.name.now c.in-Some.at no_batch c.requires.apart within (c.in-Some.ensures.found.1.0 no_batch))
