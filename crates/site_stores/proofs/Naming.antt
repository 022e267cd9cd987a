-- What stands in what, by number and by name.
use Rattle.std.proofs.Common.{◌≡◌, ◌<◌, ℕ, zero, suc, Bool, true, false, eqb, cond, List, [], ◌∷◌, map, length, get_or, Some, refl, ap, sym, ◌∙◌, arith, All}
use Rattle.std.specs.Prelude.{find, filter, option_map}
use Rattle.std.specs.List.{IsDistinct, AllByRecursion as Every}
use Rattle.std.specs.Cmp.{IsEquivalence}
use Rattle.std.proofs.lemmas.Bool.Decides.{nat_tests}
use Rattle.std.proofs.lemmas.List.{length-map, get_or-map}
use Rattle.std.proofs.lemmas.Map.Keys.{IsDistinct-head, IsDistinct-tail}
use Rattle.epc_urn.specs.declared.epc.Epc.{Epc}
use Rattle.epc_urn.specs.declared.epc.Epc.TheVariants.{Unit as Box}
use Rattle.deed_words.specs.Names.{Text, same, same_name}
use Rattle.deed_words.specs.World.{parent, inside}
use Rattle.deed_words.specs.declared.world.Pair.{Pair}
use Rattle.deed_words.proofs.Sameness.{same_equiv, same_name_equiv}
use Rattle.item_store.specs.Rows.{item_name, fresh_row}
use Rattle.item_store.specs.Rows as rows
use Rattle.pack_tree.specs.declared.node.Node.{Node}
use Rattle.pack_tree.specs.declared.node.Node.TheVariants.{Item as AnItem, Unit as AUnit}
use Rattle.pack_tree.specs.declared.link.Pair.{Pair as Link}
use Rattle.pack_tree.specs.Packing.{HasRoom, IsThereIn}
use Rattle.pack_tree.specs.Pairs.{same_node, parent_in}
use Rattle.pack_tree.specs.Pairs as tree
use Rattle.pack_tree.specs.Units.{code_in}
use Rattle.pack_tree.specs.Units as units
use Rattle.batch_book.specs.Content.{Content, world_in, row_names, unit_codes, node_name, pair_in}

-- ---- numbers are the same exactly where names are

every_get : {A : Type 0} (P : A → Type 0) (xs : List A) (i : ℕ) (d : A) → i < length xs → Every P xs → P (get_or xs i d)
every_get P [] i d l a = absurd (omega (arith, l))
every_get P (x ∷ xs) zero d l a = a.0
every_get P (x ∷ xs) (suc i) d l a = every_get P xs i d (omega (arith, l)) a.1

next_same : (i j : ℕ) → eqb (suc i) (suc j) ≡ eqb i j
next_same i j = grind (arith, nat_tests)

first_not : (j : ℕ) → false ≡ eqb 0 (suc j)
first_not j = grind (arith, nat_tests)

not_first : (j : ℕ) → false ≡ eqb (suc j) 0
not_first j = grind (arith, nat_tests)

both_first : true ≡ eqb 0 0
both_first = refl

pub places_apart : {K : Type 0} (e : K → K → Bool) → IsEquivalence e → (xs : List K) (d : K) → IsDistinct e xs → (i j : ℕ) → i < length xs → j < length xs → e (get_or xs i d) (get_or xs j d) ≡ eqb i j
places_apart e o [] d a i j l m = absurd (omega (arith, l))
places_apart e o (x ∷ xs) d a zero zero l m = o.refl x ∙ both_first
places_apart e o (x ∷ xs) d a zero (suc j) l m = every_get (λ k. e x k ≡ false) xs j d (omega (arith, m)) (IsDistinct-head e x xs a) ∙ first_not j
places_apart e o (x ∷ xs) d a (suc i) zero l m = o.symm (get_or xs i d) x ∙ every_get (λ k. e x k ≡ false) xs i d (omega (arith, l)) (IsDistinct-head e x xs a) ∙ not_first i
places_apart e o (x ∷ xs) d a (suc i) (suc j) l m = places_apart e o xs d (IsDistinct-tail e x xs a) i j (omega (arith, l)) (omega (arith, m)) ∙ sym (next_same i j)

module _ (c : Content) (rows_apart : rows.AreApart c.rows) (units_apart : units.AreApart c.units) where
  -- a thing has a node's name exactly where it is the node
  pub node_same : (one other : Node) → HasRoom (length c.rows) (length c.units) one → HasRoom (length c.rows) (length c.units) other
      → same_name (node_name (row_names c) (unit_codes c) one) (node_name (row_names c) (unit_codes c) other) ≡ same_node one other
  unfolding same_name
  node_same (AnItem i) (AnItem j) l m = places_apart same_name same_name_equiv (row_names c) (Box []) rows_apart i j (omega (arith, l, length-map c.rows item_name)) (omega (arith, m, length-map c.rows item_name))
  node_same (AnItem i) (AUnit j) l m = ap (λ (e : Epc). same_name e (Box (get_or (unit_codes c) j []))) (get_or-map item_name c.rows i (fresh_row [] [] 0) (Box []) l)
  node_same (AUnit i) (AnItem j) l m = ap (λ (e : Epc). same_name (Box (get_or (unit_codes c) i [])) e) (get_or-map item_name c.rows j (fresh_row [] [] 0) (Box []) m)
  node_same (AUnit i) (AUnit j) l m = places_apart same same_equiv (unit_codes c) [] units_apart i j (omega (arith, l, length-map c.units code_in)) (omega (arith, m, length-map c.units code_in))

-- ---- so look-ups by name are look-ups by number

parent_from : (items : List Epc) (codes : List Text) (name : Epc) (node : Node) (links : List Link) → All (λ (link : Link). same_name (node_name items codes link.child) name ≡ same_node link.child node) links
    → option_map (λ (pair : Pair). pair.parent) (find (λ (pair : Pair). same_name pair.child name) (map (pair_in items codes) links)) ≡ option_map (λ (at : ℕ). get_or codes at []) (parent_in links node)
parent_from items codes name node [] h = refl
parent_from items codes name node (link ∷ links) h =
    ap (λ b. option_map (λ (pair : Pair). pair.parent) (cond b (Some (pair_in items codes link)) (find (λ (pair : Pair). same_name pair.child name) (map (pair_in items codes) links)))) (h 0 link (omega arith))
    ∙ cases (same_node link.child node) (parent_from items codes name node links (λ k d l. h (suc k) d (omega (arith, l))))
  where
    cases : (b : Bool) → option_map (λ (pair : Pair). pair.parent) (find (λ (pair : Pair). same_name pair.child name) (map (pair_in items codes) links)) ≡ option_map (λ (at : ℕ). get_or codes at []) (parent_in links node)
        → option_map (λ (pair : Pair). pair.parent) (cond b (Some (pair_in items codes link)) (find (λ (pair : Pair). same_name pair.child name) (map (pair_in items codes) links))) ≡ option_map (λ (at : ℕ). get_or codes at []) (cond b (Some link.parent) (parent_in links node))
    cases true ih = refl
    cases false ih = ih

-- the parent of a node, by name and by number
pub parent_is : (c : Content) → rows.AreApart c.rows → units.AreApart c.units → All (IsThereIn (length c.rows) (length c.units)) c.links → (node : Node) → HasRoom (length c.rows) (length c.units) node
    → parent (world_in c) (node_name (row_names c) (unit_codes c) node) ≡ option_map (λ (at : ℕ). get_or (unit_codes c) at []) (parent_in c.links node)
unfolding parent
parent_is c a u t node n =
    parent_from (row_names c) (unit_codes c) (node_name (row_names c) (unit_codes c) node) node c.links (λ k d l. node_same c a u (get_or c.links k d).child node (t k d l).child n)

inside_from : (items : List Epc) (codes : List Text) (sscc : Text) (unit : ℕ) (links : List Link) → All (λ (link : Link). same (get_or codes link.parent []) sscc ≡ eqb link.parent unit) links
    → map (λ (pair : Pair). pair.child) (filter (λ (pair : Pair). same pair.parent sscc) (map (pair_in items codes) links)) ≡ map (node_name items codes) (tree.inside unit links)
inside_from items codes sscc unit [] h = refl
inside_from items codes sscc unit (link ∷ links) h =
    ap (λ b. map (λ (pair : Pair). pair.child) (cond b (pair_in items codes link ∷ filter (λ (pair : Pair). same pair.parent sscc) (map (pair_in items codes) links)) (filter (λ (pair : Pair). same pair.parent sscc) (map (pair_in items codes) links)))) (h 0 link (omega arith))
    ∙ cases (eqb link.parent unit) (inside_from items codes sscc unit links (λ k d l. h (suc k) d (omega (arith, l))))
  where
    cases : (b : Bool) → map (λ (pair : Pair). pair.child) (filter (λ (pair : Pair). same pair.parent sscc) (map (pair_in items codes) links)) ≡ map (node_name items codes) (tree.inside unit links)
        → map (λ (pair : Pair). pair.child) (cond b (pair_in items codes link ∷ filter (λ (pair : Pair). same pair.parent sscc) (map (pair_in items codes) links)) (filter (λ (pair : Pair). same pair.parent sscc) (map (pair_in items codes) links)))
        ≡ map (node_name items codes) (cond b (link.child ∷ tree.inside unit links) (tree.inside unit links))
    cases true ih = ap (λ (names : List Epc). node_name items codes link.child ∷ names) ih
    cases false ih = ih

-- what stands in a unit, by name and by number
pub inside_is : (c : Content) → units.AreApart c.units → All (IsThereIn (length c.rows) (length c.units)) c.links → (unit : ℕ) → unit < length c.units
    → inside (world_in c) (get_or (unit_codes c) unit []) ≡ map (node_name (row_names c) (unit_codes c)) (tree.inside unit c.links)
unfolding inside
inside_is c u t unit n =
    inside_from (row_names c) (unit_codes c) (get_or (unit_codes c) unit []) unit c.links (λ k d l. places_apart same same_equiv (unit_codes c) [] u (get_or c.links k d).parent unit (omega (arith, (t k d l).parent, length-map c.units code_in)) (omega (arith, n, length-map c.units code_in)))
