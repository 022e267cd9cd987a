-- Names in place of numbers: the rows and units of a batch, and what they stand in.
use Rattle.std.proofs.Common.{◌≡◌, ℕ, suc, ◌<◌, ◌&&◌, Bool, true, false, eqb, cond, List, [], ◌∷◌, length, map, get_or, Some, None, refl, sym, ap, subst, ◌∙◌, arith, All}
use Rattle.std.specs.Prelude.{find, option_map}
use Rattle.std.specs.List.{slice_get}
use Rattle.std.proofs.lemmas.List.{length-map, get_or-map, get_or_past}
use Rattle.std.proofs.lemmas.Option.{slice_get_within}
use Rattle.std.proofs.lemmas.Bool.{eq-eqb, ne_eqb, false_from_ne_true}
use native.Mathlib.Decide.{dec_lt}
use Rattle.epc_urn.specs.declared.epc.Epc.{Epc}
use Rattle.epc_urn.specs.declared.epc.Epc.TheVariants.{Unit as Box}
use Rattle.deed_words.specs.Names.{Text, same, same_name}
use Rattle.deed_words.specs.World.{parent, rows_in, units_in, batch_of}
use Rattle.deed_words.specs.declared.world.Batch.{Batch}
use Rattle.deed_words.specs.declared.world.Row.{Row}
use Rattle.deed_words.specs.declared.world.Container.{Container}
use Rattle.deed_words.specs.declared.world.Pair.{Pair}
use Rattle.deed_words.proofs.Sameness.{same-true, same_equiv, same_name_equiv}
use Rattle.item_store.specs.declared.row.ItemRow.{ItemRow}
use Rattle.item_store.specs.Rows.{is_of, item_name, fresh_row}
use Rattle.item_store.specs.Rows as rows
use Rattle.pack_tree.specs.declared.node.Node.{Node}
use Rattle.pack_tree.specs.declared.node.Node.TheVariants.{Item as AnItem, Unit as AUnit}
use Rattle.pack_tree.specs.declared.node.UnitRow.{UnitRow}
use Rattle.pack_tree.specs.declared.link.Pair.{Pair as Link}
use Rattle.pack_tree.specs.Pairs.{same_node, parent_in}
use Rattle.pack_tree.specs.Packing.{HasRoom, IsThereIn}
use Rattle.pack_tree.specs.Units.{code_in, batch_in}
use Rattle.pack_tree.specs.Units as units
use Rattle.batch_book.specs.Batches.{name_in, AreApart, IsNamed}
use Rattle.batch_book.specs.Content.{Content, row_names, unit_codes, name_at, row_in, unit_in, node_name, pair_in, world_in}
use Rattle.batch_book.specs.Closing.{IsFirstIn}
use Rattle.batch_book.proofs.Lists.{get_or_got}
use Rattle.batch_book.proofs.Found.{distinct_at, find_plain, first_there, first_nowhere}

-- ---- a number is the batch's exactly where its name is
module _ (batches : List Batch) (apart : AreApart batches) (named : All IsNamed batches) (batch : ℕ) (within : batch < length batches) where
  has_name : 0 < length (name_at batches batch)
  has_name =
      let d : Batch = some batches within in
      subst (λ (t : Text). 0 < length t) (sym (get_or-map name_in batches batch d [] within)) (named batch d within)
    where
      some : (xs : List Batch) → batch < length xs → Batch
      some [] l = absurd (omega (arith, l))
      some (x ∷ xs) l = x

  pub own_name : (k : ℕ) → same (name_at batches k) (name_at batches batch) ≡ eqb k batch
  own_name k = elim (dec_lt k (length batches)) [
    | yes l ↦ distinct_at same same_equiv (map name_in batches) apart [] k batch (omega (arith, l, length-map batches name_in)) (omega (arith, within, length-map batches name_in))
    | no l ↦
        let past : name_at batches k ≡ [] = get_or_past (map name_in batches) k [] (omega (arith, l, length-map batches name_in)) in
        ap (λ (t : Text). same t (name_at batches batch)) past
        ∙ false_from_ne_true _ (λ t. let e : length (name_at batches batch) ≡ 0 = ap (λ (x : Text). length x) (sym (same-true [] (name_at batches batch) t)) in absurd (omega (arith, e, has_name)))
        ∙ sym (ne_eqb k batch (λ e. absurd (omega (arith, e, within, l))))
  ]

-- ---- the rows and the units of a batch
module _ (c : Content) (apart : AreApart c.batches) (named : All IsNamed c.batches) (batch : ℕ) (within : batch < length c.batches) where
  abbrev names : List Text
  names = map name_in c.batches

  abbrev name : Text
  name = name_at c.batches batch

  module _ (test : Row → Bool) (number : ℕ → ItemRow → Bool) (agree : (k : ℕ) (row : ItemRow) → slice_get c.rows k ≡ Some row → test (row_in names row) ≡ number k row) where
    pub row_there : (at : ℕ) (row : ItemRow) → slice_get c.rows at ≡ Some row → IsFirstIn (λ k r. is_of batch r && number k r) c.rows (Some at) → find test (rows_in (world_in c) name) ≡ Some (row_in names row)
    unfolding rows_in
    row_there at row e h = first_there (row_in names) (λ (r : Row). same r.batch name) test (is_of batch) number c.rows (λ r. own_name c.batches apart named batch within r.batch) agree at row e h

    pub row_nowhere : IsFirstIn (λ k r. is_of batch r && number k r) c.rows None → find test (rows_in (world_in c) name) ≡ None
    unfolding rows_in
    row_nowhere h = first_nowhere (row_in names) (λ (r : Row). same r.batch name) test (is_of batch) number c.rows (λ r. own_name c.batches apart named batch within r.batch) agree h

  module _ (test : Container → Bool) (number : ℕ → UnitRow → Bool) (agree : (k : ℕ) (unit : UnitRow) → slice_get c.units k ≡ Some unit → test (unit_in names unit) ≡ number k unit) where
    pub unit_there : (at : ℕ) (unit : UnitRow) → slice_get c.units at ≡ Some unit → IsFirstIn (λ k u. eqb (batch_in u) batch && number k u) c.units (Some at) → find test (units_in (world_in c) name) ≡ Some (unit_in names unit)
    unfolding units_in
    unit_there at unit e h = first_there (unit_in names) (λ (u : Container). same u.batch name) test (λ u. eqb (batch_in u) batch) number c.units (λ u. own_name c.batches apart named batch within u.batch) agree at unit e h

    pub unit_nowhere : IsFirstIn (λ k u. eqb (batch_in u) batch && number k u) c.units None → find test (units_in (world_in c) name) ≡ None
    unfolding units_in
    unit_nowhere h = first_nowhere (unit_in names) (λ (u : Container). same u.batch name) test (λ u. eqb (batch_in u) batch) number c.units (λ u. own_name c.batches apart named batch within u.batch) agree h

-- ---- the batch
-- the batch of the name is the one at the place
pub batch_there : (c : Content) → AreApart c.batches → All IsNamed c.batches → (batch : ℕ) (kept : Batch) → slice_get c.batches batch ≡ Some kept → batch_of (world_in c) (name_at c.batches batch) ≡ Some kept
unfolding batch_of
batch_there c apart named batch kept e =
    let within : batch < length c.batches = slice_get_within c.batches batch kept e in
    let own = own_name c.batches apart named batch within in
    let placed : (k : ℕ) (other : Batch) → slice_get c.batches k ≡ Some other → name_in other ≡ name_at c.batches k = λ k other f.
    sym (get_or-map name_in c.batches k other [] (slice_get_within c.batches k other f) ∙ ap name_in (get_or_got c.batches k other other f)) in
    find_plain (λ (b : Batch). same b.order.batch (name_at c.batches batch)) c.batches batch kept e
    (ap (λ (t : Text). same t (name_at c.batches batch)) (placed batch kept e) ∙ own batch ∙ eq-eqb batch batch refl)
    (λ k other l f. ap (λ (t : Text). same t (name_at c.batches batch)) (placed k other f) ∙ own k ∙ ne_eqb k batch (λ z. absurd (omega (arith, l, z))))

-- ---- what a node stands in
-- the parent by name is the code of the parent by number, where each child has the name exactly where it is the node
pub parent_same : (items : List Epc) (codes : List Text) (thing : Epc) (node : Node) (links : List Link) → ((k : ℕ) (link : Link) → slice_get links k ≡ Some link → same_name (node_name items codes link.child) thing ≡ same_node link.child node)
    → option_map (λ (pair : Pair). pair.parent) (find (λ (pair : Pair). same_name pair.child thing) (map (pair_in items codes) links)) ≡ option_map (λ at. get_or codes at []) (parent_in links node)
parent_same items codes thing node [] h = refl
parent_same items codes thing node (link ∷ links) h =
    ap (λ b. option_map (λ (pair : Pair). pair.parent) (cond b (Some (pair_in items codes link)) (find (λ (pair : Pair). same_name pair.child thing) (map (pair_in items codes) links)))) (h 0 link refl)
    ∙ cases (same_node link.child node) (parent_same items codes thing node links (λ k l e. h (suc k) l e))
  where
    cases : (b : Bool) → option_map (λ (pair : Pair). pair.parent) (find (λ (pair : Pair). same_name pair.child thing) (map (pair_in items codes) links)) ≡ option_map (λ at. get_or codes at []) (parent_in links node)
        → option_map (λ (pair : Pair). pair.parent) (cond b (Some (pair_in items codes link)) (find (λ (pair : Pair). same_name pair.child thing) (map (pair_in items codes) links))) ≡ option_map (λ at. get_or codes at []) (cond b (Some link.parent) (parent_in links node))
    cases true ih = refl
    cases false ih = ih

module _ (c : Content) (items_apart : rows.AreApart c.rows) (units_apart : units.AreApart c.units) (there : All (IsThereIn (length c.rows) (length c.units)) c.links) where
  -- a child has a node's name exactly where it is the node
  child_same : (child node : Node) → HasRoom (length c.rows) (length c.units) child → HasRoom (length c.rows) (length c.units) node → same_name (node_name (row_names c) (unit_codes c) child) (node_name (row_names c) (unit_codes c) node) ≡ same_node child node
  unfolding same_name
  child_same (AnItem i) (AnItem j) l m = distinct_at same_name same_name_equiv (row_names c) items_apart (Box []) i j (omega (arith, l, length-map c.rows item_name)) (omega (arith, m, length-map c.rows item_name))
  child_same (AnItem i) (AUnit j) l m = ap (λ (e : Epc). same_name e (Box (get_or (unit_codes c) j []))) (get_or-map item_name c.rows i (fresh_row [] [] 0) (Box []) l)
  child_same (AUnit i) (AnItem j) l m = ap (λ (e : Epc). same_name (Box (get_or (unit_codes c) i [])) e) (get_or-map item_name c.rows j (fresh_row [] [] 0) (Box []) m)
  child_same (AUnit i) (AUnit j) l m = distinct_at same same_equiv (unit_codes c) units_apart [] i j (omega (arith, l, length-map c.units code_in)) (omega (arith, m, length-map c.units code_in))

  -- what a node stands in, by name
  pub parent_is : (node : Node) → HasRoom (length c.rows) (length c.units) node → parent (world_in c) (node_name (row_names c) (unit_codes c) node) ≡ option_map (λ at. get_or (unit_codes c) at []) (parent_in c.links node)
  unfolding parent
  parent_is node h =
      parent_same (row_names c) (unit_codes c) (node_name (row_names c) (unit_codes c) node) node c.links (λ k link e. child_same link.child node (there_at k link e) h)
    where
      there_at : (k : ℕ) (link : Link) → slice_get c.links k ≡ Some link → HasRoom (length c.rows) (length c.units) link.child
      there_at k link e = subst (λ (l : Link). HasRoom (length c.rows) (length c.units) l.child) (get_or_got c.links k link link e) (there k link (slice_get_within c.links k link e)).child
