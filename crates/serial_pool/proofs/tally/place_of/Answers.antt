use Rattle.std.proofs.Common.{◌≡◌, ℕ, ◌<◌, List, length, get_or, sym, ap, subst, ◌∙◌}
use Rattle.std.proofs.lemmas.List.{length-map, get_or-map}
use Rattle.place_table.specs.Hash.{text_hash}
use Rattle.serial_pool.specs.declared.tally.GtinCount.{GtinCount}
use Rattle.serial_pool.proofs.tally.place_of.Goals as goal

pub returns-in-None-clause-absent : goal.returns-in-None-clause-absent
returns-in-None-clause-absent c = λ k d l n.
    let hash : GtinCount → ℕ = λ row. text_hash row.gtin in
    let m : length c.args.table.now.hashes ≡ length c.args.rows.now = ap (λ (xs : List ℕ). length xs) c.requires.hashed ∙ length-map c.args.rows.now hash in
    let e : get_or c.args.table.now.hashes k 0 ≡ c.text_hash.result =
    ap (λ (xs : List ℕ). get_or xs k 0) c.requires.hashed ∙ get_or-map hash c.args.rows.now k d 0 l ∙ ap text_hash (n ∙ sym c.digits.ensures.is) ∙ sym c.text_hash.ensures in
    (c.in-None.ensures.absent k (subst (λ x. k < x) (sym m) l) e).1 d n
