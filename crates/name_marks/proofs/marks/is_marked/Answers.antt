use Rattle.std.proofs.Common.{ℕ, List, ◌<◌, length, ap, sym, subst, ◌∙◌}
use Rattle.std.proofs.lemmas.List.{length-map}
use Rattle.name_marks.specs.Hashes.{hash_of}
use Rattle.name_marks.proofs.Marked.{marked_there, marked_nowhere}
use Rattle.name_marks.proofs.marks.is_marked.Goals as goal

pub returns-in-Some : goal.returns-in-Some
returns-in-Some c =
    let many = ap (λ (xs : List ℕ). length xs) c.requires ∙ length-map c.args.names.now hash_of in
    sym (marked_there c.args.names.now c.args.name.now c.in-Some.field-0 (subst (λ (n : ℕ). c.in-Some.field-0 < n) many c.in-Some.ensures.found.0) c.in-Some.ensures.found.1)

pub returns-in-None : goal.returns-in-None
returns-in-None c = sym (marked_nowhere c.args.table.now.hashes c.args.names.now c.args.name.now c.hash_of.result c.requires c.hash_of.ensures c.in-None.ensures.absent)
