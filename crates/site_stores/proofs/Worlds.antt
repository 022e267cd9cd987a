-- What each kind of change does to the world.
use Rattle.std.proofs.Common.{◌≡◌, ◌<◌, ◌+◌, ℕ, zero, suc, Bool, true, false, eqb, not, cond, List, [], ◌∷◌, ◌++◌, map, length, get_or, Some, refl, sym, ap, ◌∙◌, subst, arith, append_assoc, All}
use Rattle.std.specs.Prelude.{filter, slice_index}
use Rattle.std.specs.List.{slice_get, IsDistinct, AllByRecursion as Every}
use Rattle.std.proofs.lemmas.List.{length-map, map_push, map-append, append-nil}
use Rattle.std.proofs.lemmas.Map.Keys.{IsDistinct-head, IsDistinct-tail}
use Rattle.epc_urn.specs.declared.epc.Epc.{Epc}
use Rattle.deed_words.specs.Effects.{in_phase, with_phase, of_quantity, with_quantity, marked as marked_unit, with_mark, with_declaration, put_in, with_children, emptied}
use Rattle.deed_words.specs.Names.{Text, same}
use Rattle.deed_words.specs.declared.words.Mark.{Mark}
use Rattle.deed_words.specs.declared.words.Phase.{Phase}
use Rattle.deed_words.specs.declared.world.Batch.{Batch}
use Rattle.deed_words.specs.declared.world.Container.{Container}
use Rattle.deed_words.specs.declared.world.Declaration.{Declaration}
use Rattle.deed_words.specs.declared.world.Pair.{Pair}
use Rattle.deed_words.proofs.Sameness.{same_equiv, same-itself}
use Rattle.pack_tree.specs.declared.link.Pair.{Pair as Link}
use Rattle.pack_tree.specs.declared.link.Taken.{Taken as OneTaken}
use Rattle.pack_tree.specs.declared.node.Node.{Node}
use Rattle.pack_tree.specs.declared.node.UnitRow.{UnitRow}
use Rattle.pack_tree.specs.Many.{with_put, with_all_put, without_all}
use Rattle.pack_tree.specs.Packing.{Packed, put_pair}
use Rattle.pack_tree.specs.Pairs.{inside}
use Rattle.pack_tree.specs.Units.{code_in, marked}
use Rattle.pack_tree.proofs.Emptied.{without_each, all_gone, emptied_is}
use Rattle.pack_tree.proofs.Emptied as tree
use Rattle.batch_book.specs.Batches.{name_in, changed, with_phase as batch_phased, with_quantity as batch_amended, phased, amended}
use Rattle.batch_book.specs.Content.{Content, world_in, row_in, unit_in, said_in, pair_in, node_name, batch_names, row_names, unit_codes}
use Rattle.batch_book.specs.Said.{declared}
use Rattle.batch_book.proofs.Named.{changed_keeps}
use Rattle.site_stores.specs.Changes.{applied}
use Rattle.site_stores.specs.declared.change.Change.TheVariants.{Put, Taken, Phased, Amended, Marked, Said}
use Rattle.site_stores.specs.Holding.{IsWhole, packed_in}
use Rattle.site_stores.proofs.Finding.{part_there}
use Rattle.site_stores.proofs.Naming.{places_apart}

-- ---- one thing changed by its place is the one of its name changed

every_get : {A : Type 0} (P : A → Type 0) (xs : List A) (i : ℕ) (x : A) → slice_get xs i ≡ Some x → Every P xs → P x
every_get P [] i x e a = absurd (cc)
every_get P (y ∷ xs) zero x e a = let s : y ≡ x = cc in subst P s a.0
every_get P (y ∷ xs) (suc i) x e a = every_get P xs i x e a.1

name_got : {A : Type 0} (name : A → Text) (xs : List A) (i : ℕ) (x : A) → slice_get xs i ≡ Some x → slice_get (map name xs) i ≡ Some (name x)
name_got name [] i x e = absurd (cc)
name_got name (y ∷ xs) zero x e = let s : y ≡ x = cc in ap (λ z. Some (name z)) s
name_got name (y ∷ xs) (suc i) x e = name_got name xs i x e

module _ {A : Type 0} (name : A → Text) (change : A → A) where
  abbrev pub changed_at : List A → ℕ → List A
  changed_at [] at = []
  changed_at (x ∷ xs) zero = change x ∷ xs
  changed_at (x ∷ xs) (suc at) = x ∷ changed_at xs at

  abbrev pub if_named : Text → A → A
  if_named n x = cond (same (name x) n) (change x) x

  untouched : (n : Text) (xs : List A) → Every (λ other. same n other ≡ false) (map name xs) → map (if_named n) xs ≡ xs
  untouched n [] a = refl
  untouched n (x ∷ xs) a =
      ap (λ (b : Bool). cond b (change x) x ∷ map (if_named n) xs) (same_equiv.symm (name x) n ∙ a.0) ∙ ap (λ (ys : List A). x ∷ ys) (untouched n xs a.1)

  pub only_named : (xs : List A) (at : ℕ) (x : A) → IsDistinct same (map name xs) → slice_get xs at ≡ Some x → changed_at xs at ≡ map (if_named (name x)) xs
  only_named [] at x d e = absurd (cc)
  only_named (y ∷ xs) zero x d e =
      let s : y ≡ x = cc in
      sym (ap (λ (b : Bool). cond b (change y) y ∷ map (if_named (name x)) xs) (ap (λ (z : A). same (name y) (name z)) (sym s) ∙ same-itself (name y))
      ∙ ap (λ (ys : List A). change y ∷ ys) (untouched (name x) xs (subst (λ (z : A). Every (λ other. same (name z) other ≡ false) (map name xs)) s (IsDistinct-head same (name y) (map name xs) d))))
  only_named (y ∷ xs) (suc at) x d e =
      let other : same (name y) (name x) ≡ false = every_get (λ o. same (name y) o ≡ false) (map name xs) at (name x) (name_got name xs at x e) (IsDistinct-head same (name y) (map name xs) d) in
      ap (λ (ys : List A). y ∷ ys) (only_named xs at x (IsDistinct-tail same (name y) (map name xs) d) e)
      ∙ sym (ap (λ (b : Bool). cond b (change y) y ∷ map (if_named (name x)) xs) other)

-- ---- batches

changed_is : (change : Batch → Batch) (batches : List Batch) (at : ℕ) → changed change batches at ≡ changed_at name_in change batches at
changed_is change [] at = refl
changed_is change (b ∷ batches) zero = refl
changed_is change (b ∷ batches) (suc at) = ap (λ (bs : List Batch). b ∷ bs) (changed_is change batches at)

-- a batch that is changed and keeps its name changes the world's batches alone
batches_world : (c : Content) (batches : List Batch) → map name_in batches ≡ map name_in c.batches → world_in (record c { batches = batches }) ≡ record (world_in c) { batches = batches }
batches_world c batches names = ap (λ (ns : List Text). record {
  batches = batches;
  rows = map (row_in ns) c.rows;
  units = map (unit_in ns) c.units;
  pairs = (world_in c).pairs;
  declarations = map (said_in ns) c.said;
}) names

pub phased_world : (c : Content) (batch : ℕ) (old new : Phase) (kept : Batch) → IsWhole c → slice_get c.batches batch ≡ Some kept → world_in (applied c (Phased batch old new)) ≡ with_phase (world_in c) new kept.order.batch
unfolding with_phase in_phase
phased_world c batch old new kept whole there =
    batches_world c (phased c.batches batch new) (changed_keeps name_in (batch_phased new) (λ b. refl) c.batches batch)
    ∙ ap (λ (bs : List Batch). record (world_in c) { batches = bs }) (changed_is (batch_phased new) c.batches batch ∙ only_named name_in (batch_phased new) c.batches batch kept whole.batches_apart there)

pub amended_world : (c : Content) (batch old new : ℕ) (kept : Batch) → IsWhole c → slice_get c.batches batch ≡ Some kept → world_in (applied c (Amended batch old new)) ≡ with_quantity (world_in c) new kept.order.batch
unfolding with_quantity of_quantity
amended_world c batch old new kept whole there =
    batches_world c (amended c.batches batch new) (changed_keeps name_in (batch_amended new) (λ b. refl) c.batches batch)
    ∙ ap (λ (bs : List Batch). record (world_in c) { batches = bs }) (changed_is (batch_amended new) c.batches batch ∙ only_named name_in (batch_amended new) c.batches batch kept whole.batches_apart there)

-- ---- units

abbrev with_its_mark : Mark → Container → Container
with_its_mark mark unit = record unit { mark = mark }

abbrev sscc_of : Container → Text
sscc_of unit = unit.sscc

codes_marked : (units : List UnitRow) (at : ℕ) (mark : Mark) → map code_in (marked units at mark) ≡ map code_in units
codes_marked [] at mark = refl
codes_marked (unit ∷ units) zero mark = refl
codes_marked (unit ∷ units) (suc at) mark = ap (λ (cs : List Text). unit.sscc ∷ cs) (codes_marked units at mark)

units_marked : (names : List Text) (units : List UnitRow) (at : ℕ) (mark : Mark) → map (unit_in names) (marked units at mark) ≡ changed_at sscc_of (with_its_mark mark) (map (unit_in names) units) at
units_marked names [] at mark = refl
units_marked names (unit ∷ units) zero mark = refl
units_marked names (unit ∷ units) (suc at) mark = ap (λ (us : List Container). unit_in names unit ∷ us) (units_marked names units at mark)

codes_in : (names : List Text) (units : List UnitRow) → map sscc_of (map (unit_in names) units) ≡ map code_in units
codes_in names [] = refl
codes_in names (unit ∷ units) = ap (λ (cs : List Text). unit.sscc ∷ cs) (codes_in names units)

unit_got : (names : List Text) (units : List UnitRow) (at : ℕ) (unit : UnitRow) → slice_get units at ≡ Some unit → slice_get (map (unit_in names) units) at ≡ Some (unit_in names unit)
unit_got names [] at unit e = absurd (cc)
unit_got names (u ∷ units) zero unit e = let s : u ≡ unit = cc in ap (λ z. Some (unit_in names z)) s
unit_got names (u ∷ units) (suc at) unit e = unit_got names units at unit e

pub marked_world : (c : Content) (unit : ℕ) (old new : Mark) (kept : UnitRow) → IsWhole c → slice_get c.units unit ≡ Some kept → world_in (applied c (Marked unit old new)) ≡ with_mark (world_in c) new kept.sscc
unfolding with_mark marked_unit
marked_world c unit old new kept whole there =
    let units : List Container = map (unit_in (batch_names c)) c.units in
    ap (λ (codes : List Text). record (world_in c) { units = map (unit_in (batch_names c)) (marked c.units unit new); pairs = map (pair_in (row_names c) codes) c.links }) (codes_marked c.units unit new)
    ∙ ap (λ (us : List Container). record (world_in c) { units = us }) (units_marked (batch_names c) c.units unit new
    ∙ only_named sscc_of (with_its_mark new) units unit (unit_in (batch_names c) kept) (subst (IsDistinct same) (sym (codes_in (batch_names c) c.units)) whole.units_apart) (unit_got (batch_names c) c.units unit kept there))

-- ---- declarations

pub said_world : (c : Content) (batch line : ℕ) (numbers : List ℕ) (kept : Batch) → slice_get c.batches batch ≡ Some kept
    → world_in (applied c (Said batch line numbers)) ≡ with_declaration (world_in c) (record { batch = kept.order.batch; line = line; good = slice_index numbers 0; spoiled = slice_index numbers 1; returned = slice_index numbers 2 })
unfolding with_declaration
said_world c batch line numbers kept there =
    ap (λ (ds : List Declaration). record (world_in c) { declarations = ds }) (map_push (said_in (batch_names c)) c.said (declared batch line numbers))
    ∙ ap (λ (name : Text). record (world_in c) { declarations = (world_in c).declarations ++ record { batch = name; line = line; good = slice_index numbers 0; spoiled = slice_index numbers 1; returned = slice_index numbers 2 } ∷ [] }) (part_there name_in c.batches batch kept [] there)

-- ---- packing

pairs_put : (names : List Epc) (codes : List Text) (p : Packed) (unit : ℕ) (nodes : List Node) → map (pair_in names codes) (with_all_put p unit nodes).pairs ≡ map (pair_in names codes) p.pairs ++ map (put_in (get_or codes unit [])) (map (node_name names codes) nodes)
pairs_put names codes p unit [] = sym (append-nil (map (pair_in names codes) p.pairs))
pairs_put names codes p unit (node ∷ nodes) =
    let pair = pair_in names codes in
    let rest = map (put_in (get_or codes unit [])) (map (node_name names codes) nodes) in
    let one = put_in (get_or codes unit []) (node_name names codes node) in
    pairs_put names codes (with_put unit p node) unit nodes
    ∙ ap (λ (ps : List Pair). ps ++ rest) (map-append pair p.pairs (put_pair node unit (p.last + 1) ∷ []))
    ∙ append_assoc (map pair p.pairs) (one ∷ []) rest

pub put_world : (c : Content) (unit : ℕ) (nodes : List Node) → world_in (applied c (Put unit nodes)) ≡ with_children (world_in c) (get_or (unit_codes c) unit []) (map (node_name (row_names c) (unit_codes c)) nodes)
unfolding with_children
put_world c unit nodes = ap (λ (ps : List Pair). record (world_in c) { pairs = ps }) (pairs_put (row_names c) (unit_codes c) (packed_in c) unit nodes)

emptied_from : (names : List Epc) (codes : List Text) (sscc : Text) (unit : ℕ) (links : List Link) → All (λ (link : Link). same (get_or codes link.parent []) sscc ≡ eqb link.parent unit) links
    → map (pair_in names codes) (tree.emptied unit links) ≡ filter (λ (pair : Pair). not (same pair.parent sscc)) (map (pair_in names codes) links)
emptied_from names codes sscc unit [] h = refl
emptied_from names codes sscc unit (link ∷ links) h =
    cases (eqb link.parent unit) (emptied_from names codes sscc unit links (λ k d l. h (suc k) d (omega (arith, l))))
    ∙ sym (ap (λ (b : Bool). cond (not b) (pair_in names codes link ∷ filter (λ (pair : Pair). not (same pair.parent sscc)) (map (pair_in names codes) links)) (filter (λ (pair : Pair). not (same pair.parent sscc)) (map (pair_in names codes) links))) (h 0 link (omega arith)))
  where
    cases : (b : Bool) → map (pair_in names codes) (tree.emptied unit links) ≡ filter (λ (pair : Pair). not (same pair.parent sscc)) (map (pair_in names codes) links)
        → map (pair_in names codes) (cond b (tree.emptied unit links) (link ∷ tree.emptied unit links))
        ≡ cond (not b) (pair_in names codes link ∷ filter (λ (pair : Pair). not (same pair.parent sscc)) (map (pair_in names codes) links)) (filter (λ (pair : Pair). not (same pair.parent sscc)) (map (pair_in names codes) links))
    cases true ih = ih
    cases false ih = ap (λ (ps : List Pair). pair_in names codes link ∷ ps) ih

-- what stands in a unit, taken out of it one after the other
pub emptied_world : (c : Content) (gone : List OneTaken) (unit : ℕ) → IsWhole c → unit < length c.units → map (λ (taken : OneTaken). taken.child) gone ≡ inside unit c.links
    → world_in (applied c (Taken gone)) ≡ emptied (world_in c) (get_or (unit_codes c) unit [])
unfolding emptied
emptied_world c gone unit whole within is =
    let left : (without_all (packed_in c) gone).pairs ≡ tree.emptied unit c.links = all_gone (packed_in c) gone ∙ ap (λ (ns : List Node). without_each ns c.links) is ∙ emptied_is c.links unit whole.once in
    ap (λ (ls : List Link). record (world_in c) { pairs = map (pair_in (row_names c) (unit_codes c)) ls }) left
    ∙ ap (λ (ps : List Pair). record (world_in c) { pairs = ps })
    (emptied_from (row_names c) (unit_codes c) (get_or (unit_codes c) unit []) unit c.links
    (λ k d l. places_apart same same_equiv (unit_codes c) [] whole.units_apart (get_or c.links k d).parent unit (omega (arith, (whole.there k d l).parent, length-map c.units code_in)) (omega (arith, within, length-map c.units code_in))))
