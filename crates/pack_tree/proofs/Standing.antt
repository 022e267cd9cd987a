-- What is packed is there, and stays there.
use Rattle.std.proofs.Common.{◌≡◌, ℕ, ◌+◌, ◌<◌, ◌≤◌, cond, eqb, nat_lt, Bool, true, false, List, [], ◌∷◌, ◌++◌, None, Some, refl, sym, ap, subst, ◌∙◌, arith, true≢false}
use Rattle.std.specs.List.{AllByRecursion as Every}
use Rattle.std.proofs.lemmas.Bool.{eq-eqb}
use Rattle.pack_tree.specs.declared.node.Node.{Node}
use Rattle.pack_tree.specs.declared.node.Node.TheVariants.{Item as AnItem, Unit as AUnit}
use Rattle.pack_tree.specs.declared.link.Pair.{Pair}
use Rattle.pack_tree.specs.declared.link.Taken.{Taken}
use Rattle.pack_tree.specs.Many.{front}
use Rattle.pack_tree.specs.Numbers.{insert_pair}
use Rattle.pack_tree.specs.Packing.{Packed, HasRoom, IsThereIn}
use Rattle.pack_tree.specs.Pairs.{same_node, parent_in, inside, without}
use Rattle.pack_tree.specs.Taking.{IsGone}

module _ (P : Pair → Type 0) where
  pub every_push : (ps : List Pair) (p : Pair) → Every P ps → P p → Every P (ps ++ p ∷ [])
  every_push [] p a h = (h, tt)
  every_push (q ∷ ps) p a h = (a.0, every_push ps p a.1 h)

  pub every_front : (ps : List Pair) → Every P ps → Every P (front ps)
  every_front [] a = tt
  every_front (p ∷ []) a = tt
  every_front (p ∷ q ∷ ps) a = (a.0, every_front (q ∷ ps) a.1)

  pub every_without : (child : Node) (ps : List Pair) → Every P ps → Every P (without child ps)
  every_without child [] a = tt
  every_without child (p ∷ ps) a = cases (same_node p.child child) (every_without child ps a.1)
    where
      cases : (t : Bool) → Every P (without child ps) → Every P (cond t (without child ps) (p ∷ without child ps))
      cases true h = h
      cases false h = (a.0, h)

  pub every_insert : (p : Pair) (ps : List Pair) → Every P ps → P p → Every P (insert_pair p ps)
  every_insert p [] a h = (h, tt)
  every_insert p (q ∷ ps) a h = cases (nat_lt p.number q.number) (every_insert p ps a.1 h)
    where
      cases : (t : Bool) → Every P (insert_pair p ps) → Every P (cond t (p ∷ q ∷ ps) (q ∷ insert_pair p ps))
      cases true i = (h, a)
      cases false i = (a.0, i)

  pub every_inserted : (p : Pair) (ps : List Pair) → Every P (insert_pair p ps) → P p
  every_inserted p [] a = a.0
  every_inserted p (q ∷ ps) a = cases (nat_lt p.number q.number) (every_inserted p ps) a
    where
      cases : (t : Bool) → (Every P (insert_pair p ps) → P p) → Every P (cond t (p ∷ q ∷ ps) (q ∷ insert_pair p ps)) → P p
      cases true f b = b.0
      cases false f b = f b.1

pub more_room : (node : Node) (items units more_items more_units : ℕ) → items ≤ more_items → units ≤ more_units → HasRoom items units node → HasRoom more_items more_units node
more_room (AnItem at) items units more_items more_units l m h = omega (arith, l, h)
more_room (AUnit at) items units more_items more_units l m h = omega (arith, m, h)

pub more_there : (items units more_items more_units : ℕ) → items ≤ more_items → units ≤ more_units → (ps : List Pair) → Every (IsThereIn items units) ps → Every (IsThereIn more_items more_units) ps
more_there items units more_items more_units l m [] a = tt
more_there items units more_items more_units l m (p ∷ ps) a = (
  record { child = more_room p.child items units more_items more_units l m a.0.child; parent = omega (arith, m, a.0.parent) },
  more_there items units more_items more_units l m ps a.1,
)

some_none : (n : ℕ) → Some n ≡ None → ⊥
some_none n e = cc

-- no pair names the last item
pub less_items : (items units : ℕ) (ps : List Pair) → parent_in ps (AnItem items) ≡ None → Every (IsThereIn (items + 1) units) ps → Every (IsThereIn items units) ps
less_items items units [] e a = tt
less_items items units (p ∷ ps) e a =
    cases (λ f. less_items items units ps (sym (ap (λ (b : Bool). cond b (Some p.parent) (parent_in ps (AnItem items))) f) ∙ e) a.1)
    p.child (same_node p.child (AnItem items)) refl refl
  where
    cases : (same_node p.child (AnItem items) ≡ false → Every (IsThereIn items units) ps) → (node : Node) (t : Bool) → p.child ≡ node → same_node p.child (AnItem items) ≡ t → Every (IsThereIn items units) (p ∷ ps)
    cases rest node true q f = absurd (some_none p.parent (sym (ap (λ (b : Bool). cond b (Some p.parent) (parent_in ps (AnItem items))) f) ∙ e))
    cases rest (AnItem at) false q f =
        let l : at < items + 1 = subst (λ (n : Node). HasRoom (items + 1) units n) q a.0.child in
        let other : at ≡ items → ⊥ = λ g. absurd (true≢false (sym (eq-eqb at items g) ∙ sym (ap (λ (n : Node). same_node n (AnItem items)) q) ∙ f)) in
        (record { child = subst (λ (n : Node). HasRoom items units n) (sym q) (omega (arith, l, other)); parent = a.0.parent }, rest f)
    cases rest (AUnit at) false q f =
        let l : at < units = subst (λ (n : Node). HasRoom (items + 1) units n) q a.0.child in
        (record { child = subst (λ (n : Node). HasRoom items units n) (sym q) l; parent = a.0.parent }, rest f)

-- no pair names the last unit
pub less_units : (items units : ℕ) (ps : List Pair) → parent_in ps (AUnit units) ≡ None → inside units ps ≡ [] → Every (IsThereIn items (units + 1)) ps → Every (IsThereIn items units) ps
less_units items units [] e i a = tt
less_units items units (p ∷ ps) e i a =
    cases (λ f g. less_units items units ps (sym (ap (λ (b : Bool). cond b (Some p.parent) (parent_in ps (AUnit units))) f) ∙ e)
    (sym (ap (λ (b : Bool). cond b (p.child ∷ inside units ps) (inside units ps)) g) ∙ i) a.1)
    p.child (same_node p.child (AUnit units)) (eqb p.parent units) refl refl refl
  where
    no_cons : (n : Node) (ns : List Node) → n ∷ ns ≡ [] → ⊥
    no_cons n ns g = cc

    below : eqb p.parent units ≡ false → p.parent < units
    below g = let other : p.parent ≡ units → ⊥ = λ q. absurd (true≢false (sym (eq-eqb p.parent units q) ∙ g)) in omega (arith, a.0.parent, other)

    cases : (same_node p.child (AUnit units) ≡ false → eqb p.parent units ≡ false → Every (IsThereIn items units) ps) → (node : Node) (t u : Bool) → p.child ≡ node → same_node p.child (AUnit units) ≡ t → eqb p.parent units ≡ u → Every (IsThereIn items units) (p ∷ ps)
    cases rest node true u q f g = absurd (some_none p.parent (sym (ap (λ (b : Bool). cond b (Some p.parent) (parent_in ps (AUnit units))) f) ∙ e))
    cases rest node false true q f g = absurd (no_cons p.child (inside units ps) (sym (ap (λ (b : Bool). cond b (p.child ∷ inside units ps) (inside units ps)) g) ∙ i))
    cases rest (AnItem at) false false q f g =
        let l : at < items = subst (λ (n : Node). HasRoom items (units + 1) n) q a.0.child in
        (record { child = subst (λ (n : Node). HasRoom items units n) (sym q) l; parent = below g }, rest f g)
    cases rest (AUnit at) false false q f g =
        let l : at < units + 1 = subst (λ (n : Node). HasRoom items (units + 1) n) q a.0.child in
        let other : at ≡ units → ⊥ = λ h. absurd (true≢false (sym (eq-eqb at units h) ∙ sym (ap (λ (n : Node). same_node n (AUnit units)) q) ∙ f)) in
        (record { child = subst (λ (n : Node). HasRoom items units n) (sym q) (omega (arith, l, other)); parent = below g }, rest f g)

-- what may be put back may be so among fewer or more
pub gone_in : (p : Packed) (items units : ℕ) (taken : Taken) → IsGone p taken → HasRoom items units taken.child → taken.parent < units → IsGone (record p { items = items; units = units }) taken
gone_in p items units taken g h l = record {
  room = h;
  range = l;
  alone = g.alone;
  given = g.given;
  new = g.new;
  few = g.few;
  before = g.before;
  after = g.after;
  between = g.between;
  previous = g.previous;
  next = g.next;
}
