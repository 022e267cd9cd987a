-- The ends of chains, and the lengths of lists of pairs.
use Rattle.std.proofs.Common.{◌≡◌, ◌+◌, Bool, true, false, cond, ltb, List, [], ◌∷◌, length, Option, None, Some, refl, ◌∙◌, arith}
use Rattle.pack_tree.specs.declared.node.Node.{Node}
use Rattle.pack_tree.specs.declared.link.Pair.{Pair}
use Rattle.pack_tree.specs.declared.link.Link.{Link}
use Rattle.pack_tree.specs.Numbers.{insert_pair, sorted}
use Rattle.pack_tree.specs.Taking.{first_of, last_of}
use Rattle.pack_tree.specs.Links.{Leads}

-- the ends of a chain
leads_end : (f : Node → Link) (b a : Option Node) (x : Node) (xs : List Node) (l t : Option Node) → Leads f b a (x ∷ xs) l t → last_of (x ∷ xs) ≡ l
leads_end f b a x [] l t h = h.2.0
leads_end f b a x (y ∷ xs) l t h = leads_end f (Some x) (f x).next y xs l t h.2

pub leads_last : (f : Node → Link) (a : Option Node) (xs : List Node) (l t : Option Node) → Leads f None a xs l t → last_of xs ≡ l
leads_last f a [] l t h = h.0
leads_last f a (x ∷ xs) l t h = leads_end f None a x xs l t h

pub leads_first : (f : Node → Link) (b a : Option Node) (ys : List Node) (l : Option Node) → Leads f b a ys l None → a ≡ first_of ys
leads_first f b a [] l h = h.1
leads_first f b a (y ∷ ys) l h = h.0

pub insert_length : (p : Pair) (ps : List Pair) → length (insert_pair p ps) ≡ length ps + 1
insert_length p [] = refl
insert_length p (q ∷ ps) = cases (insert_length p ps) (ltb p.number q.number)
  where
    cases : length (insert_pair p ps) ≡ length ps + 1 → (t : Bool) → length (cond t (p ∷ q ∷ ps) (q ∷ insert_pair p ps)) ≡ length (q ∷ ps) + 1
    cases ih true = omega arith
    cases ih false = omega arith

pub sorted_length : (ps : List Pair) → length (sorted ps) ≡ length ps
sorted_length [] = refl
sorted_length (p ∷ ps) = insert_length p (sorted ps) ∙ omega (arith, sorted_length ps)
