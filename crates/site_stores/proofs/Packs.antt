-- Things that are put into a unit and taken out of units, by their names.
use Rattle.std.proofs.Common.{◌≡◌, ◌<◌, ◌+◌, ◌^◌, ◌||◌, ℕ, suc, Bool, true, false, not, cond, List, [], ◌∷◌, map, length, get_or, Option, Some, None, refl, sym, ap, ◌∙◌, subst, arith, true≢false, inl, inr, All}
use Rattle.std.specs.Prelude.{filter, option_map}
use Rattle.std.specs.List.{slice_get, IsDistinct, AllByRecursion as Every}
use Rattle.std.specs.Option.{IsSome}
use Rattle.std.proofs.lemmas.Map.Keys.{IsDistinct-head, IsDistinct-tail}
use Rattle.epc_urn.specs.declared.epc.Epc.{Epc}
use Rattle.deed_words.specs.Effects.{with_children, without_children}
use Rattle.deed_words.specs.Names.{Text, same_name, is_among}
use Rattle.deed_words.specs.World.{parent}
use Rattle.deed_words.specs.declared.world.Pair.{Pair}
use Rattle.deed_words.proofs.Sameness.{same_name-from}
use Rattle.pack_tree.specs.declared.link.Pair.{Pair as Link}
use Rattle.pack_tree.specs.declared.link.Taken.{Taken as OneTaken}
use Rattle.pack_tree.specs.declared.node.Node.{Node}
use Rattle.pack_tree.specs.declared.node.UnitRow.{UnitRow}
use Rattle.pack_tree.specs.Children.{In}
use Rattle.pack_tree.specs.Many.{CanTake}
use Rattle.pack_tree.specs.Packing.{HasRoom}
use Rattle.pack_tree.specs.Pairs.{same_node, parent_in, without}
use Rattle.pack_tree.specs.Units.{code_in}
use Rattle.pack_tree.proofs.Nodes.{Distinct}
use Rattle.pack_tree.proofs.Packable.{may_put}
use Rattle.pack_tree.proofs.Emptied.{can_all, without_each, all_gone}
use Rattle.batch_book.specs.Content.{Content, world_in, pair_in, node_name, row_names, unit_codes}
use Rattle.site_stores.specs.Changes.{applied, MayChange, MayApply}
use Rattle.site_stores.specs.declared.change.Change.TheVariants.{Put, Taken}
use Rattle.site_stores.specs.Holding.{IsWhole, packed_in}
use Rattle.site_stores.specs.Places.{place_of, AreAt}
use Rattle.site_stores.proofs.Finding.{part_there}
use Rattle.site_stores.proofs.Naming.{node_same}
use Rattle.site_stores.proofs.Placing.{named_place, parent_named}
use Rattle.site_stores.proofs.Worlds.{put_world}

-- ---- names and nodes, one by one
first_is : {A : Type 0} (x y : A) (xs ys : List A) → x ∷ xs ≡ y ∷ ys → x ≡ y
first_is x y xs ys e = cc

rest_is : {A : Type 0} (x y : A) (xs ys : List A) → x ∷ xs ≡ y ∷ ys → xs ≡ ys
rest_is x y xs ys e = cc

not_empty : {A : Type 0} (y : A) (ys : List A) → [] ≡ y ∷ ys → ⊥
not_empty y ys e = cc

none_more : {A : Type 0} (x : A) (xs : List A) → x ∷ xs ≡ [] → ⊥
none_more x xs e = cc

-- what each name has, its node has
module _ (c : Content) (P : Epc → Type 0) (Q : Node → Type 0) (tells : (name : Epc) (node : Node) → place_of c.rows c.units name ≡ Some node → P name → Q node) where
  each_node : (names : List Epc) (nodes : List Node) → AreAt c names nodes → Every P names → (node : Node) → In node nodes → Q node
  each_node [] [] at all node i = absurd i
  each_node [] (n ∷ ns) at all node i = absurd (not_empty (Some n) (map Some ns) at)
  each_node (name ∷ names) [] at all node i = absurd (none_more (place_of c.rows c.units name) (map (place_of c.rows c.units) names) at)
  each_node (name ∷ names) (n ∷ ns) at all node (inl e) =
      subst Q e (tells name n (first_is (place_of c.rows c.units name) (Some n) (map (place_of c.rows c.units) names) (map Some ns) at) all.0)
  each_node (name ∷ names) (n ∷ ns) at all node (inr i) =
      each_node names ns (rest_is (place_of c.rows c.units name) (Some n) (map (place_of c.rows c.units) names) (map Some ns) at) all.1 node i

-- nodes whose names differ, differ
differ : (c : Content) (one : Epc) (first : Node) → place_of c.rows c.units one ≡ Some first → (name : Epc) (node : Node) → place_of c.rows c.units name ≡ Some node → same_name one name ≡ false → first ≡ node → ⊥
differ c one first here name node at apart e =
    let same : one ≡ name = sym (named_place c one first here).1 ∙ ap (node_name (row_names c) (unit_codes c)) e ∙ (named_place c name node at).1 in
    true≢false (sym (same_name-from one name same) ∙ apart)

distinct_nodes : (c : Content) (names : List Epc) (nodes : List Node) → IsDistinct same_name names → AreAt c names nodes → Distinct nodes
distinct_nodes c [] [] d at = tt
distinct_nodes c [] (n ∷ ns) d at = absurd (not_empty (Some n) (map Some ns) at)
distinct_nodes c (name ∷ names) [] d at = tt
distinct_nodes c (name ∷ names) (n ∷ ns) d at =
    let place = place_of c.rows c.units in
    let here = first_is (place name) (Some n) (map place names) (map Some ns) at in
    let rest = rest_is (place name) (Some n) (map place names) (map Some ns) at in (
      λ i. each_node c (λ other. same_name name other ≡ false) (λ node. n ≡ node → ⊥) (λ other node e apart. differ c name n here other node e apart) names ns rest (IsDistinct-head same_name name names d) n i refl,
      distinct_nodes c names ns (IsDistinct-tail same_name name names d) rest,
    )

as_many : (c : Content) (names : List Epc) (nodes : List Node) → AreAt c names nodes → length nodes ≡ length names
as_many c [] [] at = refl
as_many c [] (n ∷ ns) at = absurd (not_empty (Some n) (map Some ns) at)
as_many c (name ∷ names) [] at = absurd (none_more (place_of c.rows c.units name) (map (place_of c.rows c.units) names) at)
as_many c (name ∷ names) (n ∷ ns) at = ap suc (as_many c names ns (rest_is (place_of c.rows c.units name) (Some n) (map (place_of c.rows c.units) names) (map Some ns) at))

-- the names of the nodes are the names
names_of_nodes : (c : Content) (names : List Epc) (nodes : List Node) → AreAt c names nodes → map (node_name (row_names c) (unit_codes c)) nodes ≡ names
names_of_nodes c [] [] at = refl
names_of_nodes c [] (n ∷ ns) at = absurd (not_empty (Some n) (map Some ns) at)
names_of_nodes c (name ∷ names) [] at = absurd (none_more (place_of c.rows c.units name) (map (place_of c.rows c.units) names) at)
names_of_nodes c (name ∷ names) (n ∷ ns) at =
    let place = place_of c.rows c.units in
    let one = (named_place c name n (first_is (place name) (Some n) (map place names) (map Some ns) at)).1 in
    let more = names_of_nodes c names ns (rest_is (place name) (Some n) (map place names) (map Some ns) at) in
    λ z. one z ∷ more z

-- ---- things that stand in nothing may be put
none_of : (f : ℕ → Text) (o : Option ℕ) → option_map f o ≡ None → o ≡ None
none_of f None e = refl
none_of f (Some k) e = absurd (some_is (f k) e)
  where
    some_is : (t : Text) → Some t ≡ None → ⊥
    some_is t z = cc

free_node : (c : Content) → IsWhole c → (name : Epc) (node : Node) → place_of c.rows c.units name ≡ Some node → parent (world_in c) name ≡ None → HasRoom (length c.rows) (length c.units) node × (parent_in c.links node ≡ None)
free_node c whole name node at free = (
  (named_place c name node at).0,
  none_of (λ (k : ℕ). get_or (unit_codes c) k []) (parent_in c.links node) (sym (parent_named c name node whole.rows_apart whole.units_apart whole.there at) ∙ free),
)

pub may_pack : (c : Content) (unit : ℕ) (names : List Epc) (nodes : List Node) → IsWhole c → unit < length c.units → IsDistinct same_name names → AreAt c names nodes → Every (λ name. parent (world_in c) name ≡ None) names
    → c.last + length names < 2 ^ 64 → MayApply c (Put unit nodes)
unfolding MayChange
may_pack c unit names nodes whole within distinct at free last = record {
  whole = whole;
  may = may_put (packed_in c) unit nodes (distinct_nodes c names nodes distinct at)
      (each_node c (λ name. parent (world_in c) name ≡ None) (λ node. HasRoom (length c.rows) (length c.units) node × (parent_in c.links node ≡ None)) (free_node c whole) names nodes at free)
      within (subst (λ (n : ℕ). c.last + n < 2 ^ 64) (sym (as_many c names nodes at)) last);
}

pub packed_world : (c : Content) (unit : ℕ) (kept : UnitRow) (names : List Epc) (nodes : List Node) → slice_get c.units unit ≡ Some kept → AreAt c names nodes → world_in (applied c (Put unit nodes)) ≡ with_children (world_in c) kept.sscc names
packed_world c unit kept names nodes there at =
    put_world c unit nodes ∙ ap (λ (code : Text). with_children (world_in c) code (map (node_name (row_names c) (unit_codes c)) nodes)) (part_there code_in c.units unit kept [] there)
    ∙ ap (with_children (world_in c) kept.sscc) (names_of_nodes c names nodes at)

-- ---- things that stand in units may be taken
some_of : (f : ℕ → Text) (o : Option ℕ) → IsSome (option_map f o) → IsSome o
some_of f None e = e
some_of f (Some k) e = refl

held_node : (c : Content) → IsWhole c → (name : Epc) (node : Node) → place_of c.rows c.units name ≡ Some node → IsSome (parent (world_in c) name) → IsSome (parent_in c.links node)
held_node c whole name node at held =
    some_of (λ (k : ℕ). get_or (unit_codes c) k []) (parent_in c.links node) (subst (λ (o : Option Text). IsSome o) (parent_named c name node whole.rows_apart whole.units_apart whole.there at) held)

pub can_unpack : (c : Content) (names : List Epc) (nodes : List Node) → IsWhole c → IsDistinct same_name names → AreAt c names nodes → Every (λ name. IsSome (parent (world_in c) name)) names → CanTake c.links nodes
can_unpack c names nodes whole distinct at held =
    can_all c.links nodes whole.once (distinct_nodes c names nodes distinct at) (each_node c (λ name. IsSome (parent (world_in c) name)) (λ node. IsSome (parent_in c.links node)) (held_node c whole) names nodes at held)

-- ---- and the world is without them
abbrev any_node : List Node → Node → Bool
any_node [] child = false
any_node (n ∷ ns) child = same_node child n || any_node ns child

none_left : (ns : List Node) → without_each ns [] ≡ []
none_left [] = refl
none_left (n ∷ ns) = none_left ns

kept_or_gone : (ns : List Node) (link : Link) (links : List Link) → without_each ns (link ∷ links) ≡ cond (any_node ns link.child) (without_each ns links) (link ∷ without_each ns links)
kept_or_gone [] link links = refl
kept_or_gone (n ∷ ns) link links = cases (same_node link.child n) (kept_or_gone ns link (without n links))
  where
    cases : (b : Bool) → without_each ns (link ∷ without n links) ≡ cond (any_node ns link.child) (without_each ns (without n links)) (link ∷ without_each ns (without n links))
        → without_each ns (cond b (without n links) (link ∷ without n links)) ≡ cond (b || any_node ns link.child) (without_each ns (without n links)) (link ∷ without_each ns (without n links))
    cases true ih = refl
    cases false ih = ih

among_same : (c : Content) → IsWhole c → (names : List Epc) (nodes : List Node) → AreAt c names nodes → (child : Node) → HasRoom (length c.rows) (length c.units) child → is_among names (node_name (row_names c) (unit_codes c) child) ≡ any_node nodes child
unfolding is_among
among_same c whole [] [] at child room = refl
among_same c whole [] (n ∷ ns) at child room = absurd (not_empty (Some n) (map Some ns) at)
among_same c whole (name ∷ names) [] at child room = absurd (none_more (place_of c.rows c.units name) (map (place_of c.rows c.units) names) at)
among_same c whole (name ∷ names) (n ∷ ns) at child room =
    let place = place_of c.rows c.units in
    let own : Epc = node_name (row_names c) (unit_codes c) child in
    let here = named_place c name n (first_is (place name) (Some n) (map place names) (map Some ns) at) in
    let one = ap (same_name own) (sym here.1) ∙ node_same c whole.rows_apart whole.units_apart child n room here.0 in
    let more = among_same c whole names ns (rest_is (place name) (Some n) (map place names) (map Some ns) at) child room in
    λ z. one z || more z

abbrev but_these : List Epc → List Pair → List Pair
but_these names pairs = filter (λ (pair : Pair). not (is_among names pair.child)) pairs

taken_from : (items : List Epc) (codes : List Text) (names : List Epc) (nodes : List Node) (links : List Link) → All (λ (link : Link). is_among names (node_name items codes link.child) ≡ any_node nodes link.child) links
    → map (pair_in items codes) (without_each nodes links) ≡ but_these names (map (pair_in items codes) links)
taken_from items codes names nodes [] h = ap (map (pair_in items codes)) (none_left nodes)
taken_from items codes names nodes (link ∷ links) h =
    ap (map (pair_in items codes)) (kept_or_gone nodes link links)
    ∙ cases (any_node nodes link.child) (taken_from items codes names nodes links (λ k d l. h (suc k) d (omega (arith, l))))
    ∙ sym (ap (λ (b : Bool). cond (not b) (pair_in items codes link ∷ but_these names (map (pair_in items codes) links)) (but_these names (map (pair_in items codes) links))) (h 0 link (omega arith)))
  where
    cases : (b : Bool) → map (pair_in items codes) (without_each nodes links) ≡ but_these names (map (pair_in items codes) links)
        → map (pair_in items codes) (cond b (without_each nodes links) (link ∷ without_each nodes links))
        ≡ cond (not b) (pair_in items codes link ∷ but_these names (map (pair_in items codes) links)) (but_these names (map (pair_in items codes) links))
    cases true ih = ih
    cases false ih = ap (λ (ps : List Pair). pair_in items codes link ∷ ps) ih

pub unpacked_world : (c : Content) (gone : List OneTaken) (names : List Epc) → IsWhole c → AreAt c names (map (λ (taken : OneTaken). taken.child) gone) → world_in (applied c (Taken gone)) ≡ without_children (world_in c) names
unfolding without_children
unpacked_world c gone names whole at =
    let nodes : List Node = map (λ (taken : OneTaken). taken.child) gone in
    ap (λ (ls : List Link). record (world_in c) { pairs = map (pair_in (row_names c) (unit_codes c)) ls }) (all_gone (packed_in c) gone)
    ∙ ap (λ (ps : List Pair). record (world_in c) { pairs = ps })
    (taken_from (row_names c) (unit_codes c) names nodes c.links (λ k d l. among_same c whole names nodes at (get_or c.links k d).child (whole.there k d l).child))
