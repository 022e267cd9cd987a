-- What is put may be taken back, and what is taken put back.
use Rattle.std.proofs.Common.{◌≡◌, ℕ, suc, ◌+◌, ◌-◌, ◌<◌, List, [], ◌∷◌, ◌++◌, length, map, get_or, drop, take, refl, ap, sym, subst, ◌∙◌, arith, drop-cons, add-one}
use Rattle.std.specs.Prelude.{IsSome}
use Rattle.std.proofs.Math.Seq.{take-suc}
use Rattle.std.proofs.lemmas.List.{map-append}
use Rattle.pack_tree.specs.Pairs.{parent_in, without}
use Rattle.pack_tree.specs.Numbers.{insert_pair}
use Rattle.pack_tree.specs.declared.node.Node.{Node}
use Rattle.pack_tree.specs.declared.link.Pair.{Pair}
use Rattle.pack_tree.specs.declared.link.Taken.{Taken}
use Rattle.pack_tree.specs.Packing.{Packed, put_pair}
use Rattle.pack_tree.specs.Taking.{WasPut, IsGone, taken_pair}
use Rattle.pack_tree.specs.Many.{with_put, IsPut, front, but_last, without_one, IsThere, with_back, CanTake, with_all_put, but_all_put, without_all, with_all_back, MayPut, MayTake}
use Rattle.pack_tree.proofs.Stepping.{kept_by_all, kept_back, there_and_back}

pub front_push : (ps : List Pair) (p : Pair) → front (ps ++ p ∷ []) ≡ ps
front_push [] p = refl
front_push (q ∷ []) p = refl
front_push (q ∷ r ∷ ps) p = ap (λ (xs : List Pair). q ∷ xs) (front_push (r ∷ ps) p)

pub one_less : (n : ℕ) → n + 1 - 1 ≡ n
one_less n = omega arith

pub put_law : (unit : ℕ) (p : Packed) (node : Node) → IsPut unit p node → but_last (with_put unit p node) node ≡ p
put_law unit p node o = λ z. record p { pairs = front_push p.pairs (put_pair node unit (p.last + 1)) z; last = one_less p.last z }

pub take_law : (p : Packed) (taken : Taken) → IsThere p taken → with_back (without_one p taken) taken ≡ p
take_law p taken o = λ z. record p { pairs = sym o.was z }

pub was_put : (unit : ℕ) (p q : Packed) (node : Node) → p ≡ with_put unit q node → WasPut p node
was_put unit p q node e = record {
  parent = unit;
  before = q.pairs;
  is = ap (λ (x : Packed). x.pairs) e ∙ ap (λ (n : ℕ). q.pairs ++ put_pair node unit n ∷ []) (sym (ap (λ (x : Packed). x.last) e));
}

-- ---- how nodes would be taken

pub one_there : (p new : Packed) (node : Node) (taken : Taken) → taken.child ≡ node → IsSome (parent_in p.pairs node) → p.pairs ≡ insert_pair (taken_pair taken) new.pairs → new ≡ record p { pairs = without node p.pairs } → IsGone new taken → IsThere p taken
one_there p new node taken e i was is gone =
    let less : new.pairs ≡ without taken.child p.pairs = ap (λ (q : Packed). q.pairs) is ∙ ap (λ (n : Node). without n p.pairs) (sym e) in
    record {
      inside = subst (λ (n : Node). IsSome (parent_in p.pairs n)) (sym e) i;
      was = was ∙ ap (insert_pair (taken_pair taken)) less;
      gone = subst (λ (q : Packed). IsGone q taken) (is ∙ (λ z. record p { pairs = without (sym e z) p.pairs })) gone;
    }

pub first_can : (ps : List Pair) (node : Node) (nodes : List Node) → CanTake ps (node ∷ nodes) → IsSome (parent_in ps node) × CanTake (without node ps) nodes
unfolding CanTake
first_can ps node nodes c = c

pub head_can : (ps : List Pair) (nodes : List Node) (i : ℕ) (node : Node) → i < length nodes → node ≡ get_or nodes i node → CanTake ps (drop i nodes) → CanTake ps (node ∷ drop (suc i) nodes)
head_can ps nodes i node l e c = subst (λ (y : Node). CanTake ps (y ∷ drop (suc i) nodes)) (sym e) (subst (CanTake ps) (drop-cons nodes i node l) c)

pub next_can : (ps new : List Pair) (nodes : List Node) (i : ℕ) (node : Node) → i < length nodes → node ≡ get_or nodes i node → new ≡ without node ps → CanTake ps (drop i nodes) → CanTake new (drop (i + 1) nodes)
next_can ps new nodes i node l e is c = rw (add-one) (subst (λ (qs : List Pair). CanTake qs (drop (suc i) nodes)) (sym is) (first_can ps node (drop (suc i) nodes) (head_can ps nodes i node l e c)).1)

pub next_names : (gone : List Taken) (taken : Taken) (nodes : List Node) (i : ℕ) (node : Node) → i < length nodes → node ≡ get_or nodes i node → taken.child ≡ node → map (λ (t : Taken). t.child) gone ≡ take i nodes → map (λ (t : Taken). t.child) (gone ++ taken ∷ []) ≡ take (i + 1) nodes
next_names gone taken nodes i node l e same is =
    let more : take (suc i) nodes ≡ take i nodes ++ node ∷ [] = take-suc nodes i node l ∙ ap (λ (n : Node). take i nodes ++ n ∷ []) (sym e) in
    rw (add-one) (map-append (λ (t : Taken). t.child) gone (taken ∷ []) ∙ (λ z. is z ++ same z ∷ []) ∙ sym more)

-- ---- the rooms stay
pub put_keeps : (p : Packed) (unit : ℕ) (nodes : List Node) → (((with_all_put p unit nodes).items ≡ p.items)) × ((with_all_put p unit nodes).units ≡ p.units)
put_keeps p unit nodes = (kept_by_all (λ (q : Packed). q.items) (with_put unit) (λ q n. refl) p nodes, kept_by_all (λ (q : Packed). q.units) (with_put unit) (λ q n. refl) p nodes)

pub unput_keeps : (p : Packed) (nodes : List Node) → ((but_all_put p nodes).items ≡ p.items) × ((but_all_put p nodes).units ≡ p.units)
unput_keeps p nodes = (kept_back (λ (q : Packed). q.items) but_last (λ q n. refl) p nodes, kept_back (λ (q : Packed). q.units) but_last (λ q n. refl) p nodes)

pub take_keeps : (p : Packed) (gone : List Taken) → ((without_all p gone).items ≡ p.items) × ((without_all p gone).units ≡ p.units)
take_keeps p gone = (kept_by_all (λ (q : Packed). q.items) without_one (λ q n. refl) p gone, kept_by_all (λ (q : Packed). q.units) without_one (λ q n. refl) p gone)

pub untake_keeps : (p : Packed) (gone : List Taken) → ((with_all_back p gone).items ≡ p.items) × ((with_all_back p gone).units ≡ p.units)
untake_keeps p gone = (kept_back (λ (q : Packed). q.items) with_back (λ q n. refl) p gone, kept_back (λ (q : Packed). q.units) with_back (λ q n. refl) p gone)

pub put_and_back : (p : Packed) (unit : ℕ) (nodes : List Node) → MayPut p unit nodes → but_all_put (with_all_put p unit nodes) nodes ≡ p
put_and_back p unit nodes may = there_and_back (with_put unit) (IsPut unit) but_last (put_law unit) p nodes may

pub take_and_back : (p : Packed) (gone : List Taken) → MayTake p gone → with_all_back (without_all p gone) gone ≡ p
take_and_back p gone may = there_and_back without_one IsThere with_back take_law p gone may
