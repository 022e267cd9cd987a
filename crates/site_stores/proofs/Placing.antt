-- What stands in what, by the names of what is there.
use Rattle.std.proofs.Common.{◌≡◌, ◌<◌, ℕ, zero, suc, Bool, true, false, cond, List, [], ◌∷◌, map, length, get_or, Option, Some, None, refl, ap, sym, ◌∙◌, subst, arith, All}
use Rattle.std.specs.Prelude.{find, filter, option_map}
use Rattle.std.specs.List.{position}
use Rattle.std.proofs.lemmas.List.Quantifiers.{position-Some}
use Rattle.std.proofs.lemmas.List.{get_or-map}
use Rattle.epc_urn.specs.declared.epc.Epc.{Epc}
use Rattle.epc_urn.specs.declared.epc.Epc.TheVariants.{Item, Unit as Box}
use Rattle.deed_words.specs.Names.{Text, same, same_name}
use Rattle.deed_words.specs.World.{parent, inside}
use Rattle.deed_words.specs.declared.world.Pair.{Pair}
use Rattle.deed_words.specs.declared.words.Level.TheVariants.{Case}
use Rattle.deed_words.proofs.Sameness.{same_name-true, same-true}
use Rattle.item_store.specs.declared.row.ItemRow.{ItemRow}
use Rattle.item_store.specs.Rows.{is_named, item_name, fresh_row}
use Rattle.item_store.specs.Rows as rows
use Rattle.pack_tree.specs.declared.node.Node.{Node}
use Rattle.pack_tree.specs.declared.node.Node.TheVariants.{Item as AnItem, Unit as AUnit}
use Rattle.pack_tree.specs.declared.node.UnitRow.{UnitRow}
use Rattle.pack_tree.specs.declared.link.Pair.{Pair as Link}
use Rattle.pack_tree.specs.Packing.{HasRoom, IsThereIn}
use Rattle.pack_tree.specs.Pairs.{parent_in, same_node}
use Rattle.pack_tree.specs.Pairs as tree
use Rattle.pack_tree.specs.Units.{code_in, is_coded, new_unit}
use Rattle.pack_tree.specs.Units as units
use Rattle.batch_book.specs.Content.{Content, world_in, row_names, unit_codes, node_name, pair_in}
use Rattle.site_stores.specs.Places.{place_of}
use Rattle.site_stores.proofs.Finding.{nowhere}
use Rattle.site_stores.proofs.Naming.{parent_is, inside_is}

no_item : ItemRow
no_item = fresh_row [] [] 0

no_box : UnitRow
no_box = new_unit [] 0 Case

-- each child is there
abbrev pub AllThere : Content → List Link → Type 0
AllThere c links = All (IsThereIn (length c.rows) (length c.units)) links

-- ---- a name that is there
mapped : (f : ℕ → Node) (o : Option ℕ) (n : Node) → option_map f o ≡ Some n → (k : ℕ) × (o ≡ Some k) × (f k ≡ n)
mapped f None n e = absurd (none_is n e)
  where
    none_is : (m : Node) → None ≡ Some m → ⊥
    none_is m z = cc
mapped f (Some k) n e = let z : f k ≡ n = cc in (k, refl, z)

unmapped : (f : ℕ → Node) (o : Option ℕ) → option_map f o ≡ None → o ≡ None
unmapped f None e = refl
unmapped f (Some k) e = absurd (some_is (f k) e)
  where
    some_is : (m : Node) → Some m ≡ None → ⊥
    some_is m z = cc

pub named_place : (c : Content) (name : Epc) (node : Node) → place_of c.rows c.units name ≡ Some node → HasRoom (length c.rows) (length c.units) node × (node_name (row_names c) (unit_codes c) node ≡ name)
unfolding place_of is_named is_coded
named_place c (Item gtin serial) node e =
    let m = mapped AnItem (position (is_named gtin serial) c.rows) node e in
    let p = position-Some (is_named gtin serial) c.rows m.0 no_item m.1 in
    let here : get_or (row_names c) m.0 (Box []) ≡ Item gtin serial = get_or-map item_name c.rows m.0 no_item (Box []) p.0 ∙ same_name-true (item_name (get_or c.rows m.0 no_item)) (Item gtin serial) p.1 in
    subst (λ (n : Node). HasRoom (length c.rows) (length c.units) n × (node_name (row_names c) (unit_codes c) n ≡ Item gtin serial)) m.2 (p.0, here)
named_place c (Box sscc) node e =
    let m = mapped AUnit (position (is_coded sscc) c.units) node e in
    let p = position-Some (is_coded sscc) c.units m.0 no_box m.1 in
    let here : get_or (unit_codes c) m.0 [] ≡ sscc = get_or-map code_in c.units m.0 no_box [] p.0 ∙ same-true (code_in (get_or c.units m.0 no_box)) sscc p.1 in
    subst (λ (n : Node). HasRoom (length c.rows) (length c.units) n × (node_name (row_names c) (unit_codes c) n ≡ Box sscc)) m.2 (p.0, ap Box here)

pub parent_named : (c : Content) (name : Epc) (node : Node) → rows.AreApart c.rows → units.AreApart c.units → AllThere c c.links → place_of c.rows c.units name ≡ Some node
    → parent (world_in c) name ≡ option_map (λ (at : ℕ). get_or (unit_codes c) at []) (parent_in c.links node)
parent_named c name node a u t e =
    let n = named_place c name node e in
    ap (parent (world_in c)) (sym n.1) ∙ parent_is c a u t node n.0

-- ---- a name that isn't
pub none_passes : {A : Type 0} (test : A → Bool) (xs : List A) → find test xs ≡ None → (k : ℕ) (d : A) → k < length xs → test (get_or xs k d) ≡ false
none_passes test [] e k d l = absurd (omega (arith, l))
none_passes {A} test (x ∷ xs) e k d l = cases (λ f. none_passes test xs f) (test x) refl e k l
  where
    some_is : Some x ≡ None → ⊥
    some_is z = cc

    cases : (find test xs ≡ None → (j : ℕ) (y : A) → j < length xs → test (get_or xs j y) ≡ false) → (b : Bool) → test x ≡ b → cond b (Some x) (find test xs) ≡ None → (j : ℕ) → j < length (x ∷ xs) → test (get_or (x ∷ xs) j d) ≡ false
    cases ih true t f j m = absurd (some_is f)
    cases ih false t f zero m = t
    cases ih false t f (suc j) m = ih f j d (omega (arith, m))

name_other : (c : Content) (name : Epc) (node : Node) → place_of c.rows c.units name ≡ None → HasRoom (length c.rows) (length c.units) node → same_name (node_name (row_names c) (unit_codes c) node) name ≡ false
unfolding place_of same_name is_named is_coded
name_other c (Item gtin serial) (AnItem at) e l =
    ap (λ (n : Epc). same_name n (Item gtin serial)) (get_or-map item_name c.rows at no_item (Box []) l)
    ∙ none_passes (is_named gtin serial) c.rows (nowhere (is_named gtin serial) c.rows (unmapped AnItem _ e)) at no_item l
name_other c (Item gtin serial) (AUnit at) e l = refl
name_other c (Box sscc) (AnItem at) e l = ap (λ (n : Epc). same_name n (Box sscc)) (get_or-map item_name c.rows at no_item (Box []) l)
name_other c (Box sscc) (AUnit at) e l =
    ap (λ (code : Text). same code sscc) (get_or-map code_in c.units at no_box [] l)
    ∙ none_passes (is_coded sscc) c.units (nowhere (is_coded sscc) c.units (unmapped AUnit _ e)) at no_box l

code_other : (c : Content) (sscc : Text) (at : ℕ) → position (is_coded sscc) c.units ≡ None → at < length c.units → same (get_or (unit_codes c) at []) sscc ≡ false
unfolding is_coded
code_other c sscc at e l =
    ap (λ (code : Text). same code sscc) (get_or-map code_in c.units at no_box [] l)
    ∙ none_passes (is_coded sscc) c.units (nowhere (is_coded sscc) c.units e) at no_box l

none_found : (c : Content) (name : Epc) → place_of c.rows c.units name ≡ None → (links : List Link) → AllThere c links → find (λ (pair : Pair). same_name pair.child name) (map (pair_in (row_names c) (unit_codes c)) links) ≡ None
none_found c name e [] t = refl
none_found c name e (link ∷ links) t =
    let pair = pair_in (row_names c) (unit_codes c) in
    ap (λ b. cond b (Some (pair link)) (find (λ (p : Pair). same_name p.child name) (map pair links))) (name_other c name link.child e (t 0 link (omega arith)).child)
    ∙ none_found c name e links (λ k d l. t (suc k) d (omega (arith, l)))

pub parent_nowhere : (c : Content) (name : Epc) → AllThere c c.links → place_of c.rows c.units name ≡ None → parent (world_in c) name ≡ None
unfolding parent
parent_nowhere c name t e = ap (option_map (λ (pair : Pair). pair.parent)) (none_found c name e c.links t)

-- ---- what stands in the unit of the code
pub inside_named : (c : Content) (sscc : Text) (at : ℕ) → units.AreApart c.units → AllThere c c.links → position (is_coded sscc) c.units ≡ Some at
    → inside (world_in c) sscc ≡ map (node_name (row_names c) (unit_codes c)) (tree.inside at c.links)
unfolding is_coded
inside_named c sscc at u t e =
    let p = position-Some (is_coded sscc) c.units at no_box e in
    let code : get_or (unit_codes c) at [] ≡ sscc = get_or-map code_in c.units at no_box [] p.0 ∙ same-true (code_in (get_or c.units at no_box)) sscc p.1 in
    ap (inside (world_in c)) (sym code) ∙ inside_is c u t at p.0

none_inside : (c : Content) (sscc : Text) → position (is_coded sscc) c.units ≡ None → (links : List Link) → AllThere c links
    → filter (λ (pair : Pair). same pair.parent sscc) (map (pair_in (row_names c) (unit_codes c)) links) ≡ []
none_inside c sscc e [] t = refl
none_inside c sscc e (link ∷ links) t =
    let pair = pair_in (row_names c) (unit_codes c) in
    ap (λ b. cond b (pair link ∷ filter (λ (p : Pair). same p.parent sscc) (map pair links)) (filter (λ (p : Pair). same p.parent sscc) (map pair links))) (code_other c sscc link.parent e (t 0 link (omega arith)).parent)
    ∙ none_inside c sscc e links (λ k d l. t (suc k) d (omega (arith, l)))

pub inside_nowhere : (c : Content) (sscc : Text) → AllThere c c.links → position (is_coded sscc) c.units ≡ None → inside (world_in c) sscc ≡ []
unfolding inside
inside_nowhere c sscc t e = ap (map (λ (pair : Pair). pair.child)) (none_inside c sscc e c.links t)

-- the unit of a child is there
pub parent_there : (n : ℕ) (links : List Link) (node : Node) (u : ℕ) → parent_in links node ≡ Some u → All (λ (link : Link). link.parent < n) links → u < n
parent_there n [] node u e t = absurd (none_is e)
  where
    none_is : None ≡ Some u → ⊥
    none_is z = cc
parent_there n (link ∷ links) node u e t = cases (λ f. parent_there n links node u f (λ k d l. t (suc k) d (omega (arith, l)))) (same_node link.child node) e
  where
    cases : (parent_in links node ≡ Some u → u < n) → (b : Bool) → cond b (Some link.parent) (parent_in links node) ≡ Some u → u < n
    cases ih true f = let z : link.parent ≡ u = cc in subst (λ k. k < n) z (t 0 link (omega arith))
    cases ih false f = ih f

pub parents_in : (c : Content) → AllThere c c.links → All (λ (link : Link). link.parent < length c.units) c.links
parents_in c t k d l = (t k d l).parent
