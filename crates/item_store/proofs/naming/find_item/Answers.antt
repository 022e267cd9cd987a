use Rattle.std.proofs.Common.{◌≡◌, ℕ, ◌<◌, true, false, List, [], length, get_or, refl, sym, ap, subst, ◌∙◌}
use Rattle.std.proofs.lemmas.List.{length-map, get_or-map}
use Rattle.item_store.specs.Rows.{is_named, fresh_row}
use Rattle.item_store.specs.Store.{hash_in}
use Rattle.item_store.proofs.Changes.{hash_there, found_nowhere, found_there}
use Rattle.item_store.proofs.naming.find_item.Goals as goal

pub returns-in-None-clause-absent : goal.returns-in-None-clause-absent
returns-in-None-clause-absent c = λ k d l.
    elim (is_named c.args.gtin.now c.args.serial.now (get_or c.args.rows.now k d)) as (λ b. is_named c.args.gtin.now c.args.serial.now (get_or c.args.rows.now k d) ≡ b → b ≡ false) [
      | true ↦ λ n.
          let m : length c.args.table.now.hashes ≡ length c.args.rows.now = ap (λ (xs : List ℕ). length xs) c.requires.hashed ∙ length-map c.args.rows.now hash_in in
          let e : get_or c.args.table.now.hashes k 0 ≡ c.hash_of.result =
          ap (λ (xs : List ℕ). get_or xs k 0) c.requires.hashed ∙ get_or-map hash_in c.args.rows.now k d 0 l ∙ hash_there _ _ _ n ∙ sym c.hash_of.ensures in
          sym n ∙ (c.in-None.ensures.absent k (subst (λ x. k < x) (sym m) l) e).1 d
      | false ↦ λ n. refl
    ] refl

pub returns-in-None-clause-is : goal.returns-in-None-clause-is
returns-in-None-clause-is c = sym (found_nowhere c.args.rows.now c.args.gtin.now c.args.serial.now (returns-in-None-clause-absent c))

pub returns-in-Some-clause-is : goal.returns-in-Some-clause-is
returns-in-Some-clause-is c =
    let within : c.in-Some.at < length c.args.rows.now = subst (λ n. c.in-Some.at < n) (ap (λ (xs : List ℕ). length xs) c.requires.hashed ∙ length-map c.args.rows.now hash_in) c.in-Some.ensures.found.0 in
    sym (found_there c.args.rows.now c.args.gtin.now c.args.serial.now c.in-Some.at (fresh_row [] [] 0) c.requires.apart within (c.in-Some.ensures.found.1.0 (fresh_row [] [] 0)))
