use Rattle.std.proofs.Common.{◌≡◌, ℕ, ◌<◌, List, length, get_or, sym, ap, subst, ◌∙◌}
use Rattle.std.proofs.lemmas.List.{length-map, get_or-map}
use Rattle.pack_tree.specs.Units.{hash_in}
use Rattle.pack_tree.proofs.Shelves.{found, missed}
use Rattle.pack_tree.proofs.units.find_unit.Goals as goal

pub returns-in-Some : goal.returns-in-Some
returns-in-Some c =
    let m : length c.args.table.now.hashes ≡ length c.args.rows.now = ap (λ (xs : List ℕ). length xs) c.requires.hashed ∙ length-map c.args.rows.now hash_in in
    found c.args.rows.now c.args.sscc.now c.in-Some.i c.requires.apart (subst (λ (n : ℕ). c.in-Some.i < n) m c.in-Some.ensures.found.0) c.in-Some.ensures.found.1

pub returns-in-None : goal.returns-in-None
returns-in-None c =
    let m : length c.args.table.now.hashes ≡ length c.args.rows.now = ap (λ (xs : List ℕ). length xs) c.requires.hashed ∙ length-map c.args.rows.now hash_in in
    missed c.args.rows.now c.args.sscc.now (λ i l d e.
    c.in-None.ensures.absent i (subst (λ (n : ℕ). i < n) (sym m) l) (ap (λ (xs : List ℕ). get_or xs i 0) c.requires.hashed ∙ get_or-map hash_in c.args.rows.now i d 0 l ∙ e ∙ sym c.hash_of.ensures) d)
