use Rattle.std.proofs.Common.{◌≡◌, ◌≢◌, ℕ, ◌+◌, ◌≤◌, List, length, refl, sym, ap, subst, ◌∙◌}
use Rattle.std.specs.Prelude.{IsSome}
use Rattle.std.specs.List.{AllByRecursion}
use Rattle.pack_tree.specs.declared.link.Pair.{Pair}
use Rattle.pack_tree.specs.Pairs.{parent_in}
use Rattle.pack_tree.specs.Numbers.{pairs_of}
use Rattle.pack_tree.specs.Packing.{Packed, put_pair}
use Rattle.pack_tree.specs.Taking.{taken_pair}
use Rattle.pack_tree.specs.Many.{front}
use Rattle.pack_tree.proofs.ManyLaws.{front_push}
use Rattle.pack_tree.proofs.Back.{drawn_last, packing_lower, put_there}
use Rattle.pack_tree.proofs.packing.Packing.unput.Goals as goal

pub take-taken-requires : goal.take-taken-requires
take-taken-requires c = record { inside = subst (λ (ps : List Pair). IsSome (parent_in ps c.args.child)) (sym c.requires.put.is) (put_there c.requires.put.before (put_pair c.args.child c.requires.put.parent c.args.self.now.last) c.args.child refl) }

drawn : (c : goal.After-self-1) → (taken_pair c.take-taken.result ≡ put_pair c.args.child c.requires.put.parent c.args.self.now.last) × (c.take-taken.new.self.pairs ≡ c.requires.put.before)
drawn c =
    drawn_last (taken_pair c.take-taken.result) (put_pair c.args.child c.requires.put.parent c.args.self.now.last) c.take-taken.new.self.pairs c.requires.put.before
    (ap (parent_in c.take-taken.new.self.pairs) (sym c.take-taken.ensures.child) ∙ c.take-taken.ensures.gone.alone) (sym c.take-taken.ensures.was ∙ c.requires.put.is)

pub invariant_of-self : goal.invariant_of-self
invariant_of-self c =
    let v = c.self.view_is in
    let last : c.self.inside.last ≡ c.args.self.now.last = ap (λ (p : Packed). p.last) v ∙ c.take-taken.ensures.last in
    let number : c.take-taken.result.number ≡ c.self.inside.last = ap (λ (p : Pair). p.number) (drawn c).0 ∙ sym last in
    let pairs : pairs_of c.self.inside.items.items c.self.inside.units.items ≡ c.take-taken.new.self.pairs = ap (λ (p : Packed). p.pairs) v in
    packing_lower c.self.inside.items.items c.self.inside.units.items c.self.inside.heads.items c.self.inside.last c.self.invariant
    (subst (λ (ps : List Pair). AllByRecursion (λ (q : Pair). q.number ≢ c.self.inside.last) ps) (sym pairs) (subst (λ (n : ℕ). AllByRecursion (λ (q : Pair). q.number ≢ n) c.take-taken.new.self.pairs) number c.take-taken.ensures.gone.new))
    (subst (λ (ps : List Pair). length ps + 1 ≤ c.self.inside.last) (sym pairs) (subst (λ (n : ℕ). length c.take-taken.new.self.pairs + 1 ≤ n) (sym (ap (λ (p : Packed). p.last) v)) c.take-taken.ensures.gone.few))

pub returns-clause-pairs : goal.returns-clause-pairs
returns-clause-pairs c =
    ap (λ (p : Packed). p.pairs) c.self.view_is ∙ (drawn c).1 ∙ sym (ap front c.requires.put.is ∙ front_push c.requires.put.before (put_pair c.args.child c.requires.put.parent c.args.self.now.last))
