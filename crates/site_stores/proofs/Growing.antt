-- Batches and units that come last leave every name of what was there before.
use Rattle.std.proofs.Common.{◌≡◌, ◌<◌, ℕ, suc, List, [], ◌∷◌, ◌++◌, map, length, get_or, Some, refl, sym, ap, ◌∙◌, arith, append_assoc, All}
use Rattle.std.specs.List.{slice_get}
use Rattle.std.proofs.lemmas.List.{length-map, map_push, map-append, append-nil, get_or_append_left}
use Rattle.epc_urn.specs.declared.epc.Epc.{Epc}
use Rattle.epc_urn.specs.declared.epc.Epc.TheVariants.{Unit as Box}
use Rattle.deed_words.specs.Effects.{with_orders, with_unit}
use Rattle.deed_words.specs.Names.{Text}
use Rattle.deed_words.specs.Orders.{new_orders, orders_in}
use Rattle.deed_words.specs.Setups.{Setup, code_of}
use Rattle.deed_words.specs.declared.deed.OrderRow.{OrderRow}
use Rattle.deed_words.specs.declared.words.Level.{Level}
use Rattle.deed_words.specs.declared.words.Mark.TheVariants.{Filling}
use Rattle.deed_words.specs.declared.world.Batch.{Batch}
use Rattle.deed_words.specs.declared.world.Container.{Container}
use Rattle.item_store.specs.declared.row.ItemRow.{ItemRow}
use Rattle.pack_tree.specs.declared.link.Pair.{Pair as Link}
use Rattle.pack_tree.specs.declared.node.Node.{Node}
use Rattle.pack_tree.specs.declared.node.Node.TheVariants.{Item as AnItem, Unit as AUnit}
use Rattle.pack_tree.specs.declared.node.UnitRow.{UnitRow}
use Rattle.pack_tree.specs.Packing.{HasRoom, IsThereIn}
use Rattle.pack_tree.specs.Units.{code_in, new_unit}
use Rattle.batch_book.specs.Batches.{name_in, planned}
use Rattle.batch_book.specs.Content.{Content, world_in, row_in, unit_in, said_in, pair_in, node_name, batch_names, row_names}
use Rattle.batch_book.specs.declared.row.DeclarationRow.{DeclarationRow}
use Rattle.site_stores.specs.Changes.{one_ordered, ordered, applied}
use Rattle.site_stores.specs.declared.change.Change.TheVariants.{Made, Ordered}
use Rattle.site_stores.specs.Holding.{IsWhole}
use Rattle.site_stores.proofs.Finding.{part_there}

map_alike : {A B : Type 0} (f g : A → B) (xs : List A) → All (λ x. f x ≡ g x) xs → map f xs ≡ map g xs
map_alike f g [] a = refl
map_alike {A} {B} f g (x ∷ xs) a = ap (λ (y : B). y ∷ map f xs) (a 0 x (omega arith)) ∙ ap (λ (ys : List B). g x ∷ ys) (map_alike f g xs (λ k d l. a (suc k) d (omega (arith, l))))

-- ---- batches

same_name_at : (batches : List Batch) (more : List Text) (at : ℕ) → at < length batches → get_or (map name_in batches ++ more) at [] ≡ get_or (map name_in batches) at []
same_name_at batches more at within = let long = length-map batches name_in in get_or_append_left (map name_in batches) more [] at (omega (arith, within, long))

rows_more : (batches : List Batch) (more : List Text) (rows : List ItemRow) → All (λ row. row.batch < length batches) rows → map (row_in (map name_in batches ++ more)) rows ≡ map (row_in (map name_in batches)) rows
rows_more batches more rows a =
    map_alike (row_in (map name_in batches ++ more)) (row_in (map name_in batches)) rows
    (λ k d l. ap (λ (name : Text). record { gtin = (get_or rows k d).gtin; serial = (get_or rows k d).serial; batch = name; line = (get_or rows k d).line; state = (get_or rows k d).state }) (same_name_at batches more (get_or rows k d).batch (a k d l)))

units_more : (batches : List Batch) (more : List Text) (units : List UnitRow) → All (λ unit. unit.batch < length batches) units → map (unit_in (map name_in batches ++ more)) units ≡ map (unit_in (map name_in batches)) units
units_more batches more units a =
    map_alike (unit_in (map name_in batches ++ more)) (unit_in (map name_in batches)) units
    (λ k d l. ap (λ (name : Text). record { sscc = (get_or units k d).sscc; batch = name; level = (get_or units k d).level; mark = (get_or units k d).mark }) (same_name_at batches more (get_or units k d).batch (a k d l)))

said_more : (batches : List Batch) (more : List Text) (said : List DeclarationRow) → All (λ s. s.batch < length batches) said → map (said_in (map name_in batches ++ more)) said ≡ map (said_in (map name_in batches)) said
said_more batches more said a =
    map_alike (said_in (map name_in batches ++ more)) (said_in (map name_in batches)) said
    (λ k d l. ap (λ (name : Text). record { batch = name; line = (get_or said k d).line; good = (get_or said k d).good; spoiled = (get_or said k d).spoiled; returned = (get_or said k d).returned }) (same_name_at batches more (get_or said k d).batch (a k d l)))

pub ordered_is : (batches : List Batch) (orders : List OrderRow) → ordered batches orders ≡ batches ++ map planned orders
ordered_is batches [] = sym (append-nil batches)
ordered_is batches (order ∷ orders) = ordered_is (one_ordered batches order) orders ∙ append_assoc batches (planned order ∷ []) (map planned orders)

more_world : (c : Content) (more : List Batch) → IsWhole c → world_in (record c { batches = c.batches ++ more }) ≡ record (world_in c) { batches = c.batches ++ more }
more_world c more whole =
    let rows = rows_more c.batches (map name_in more) c.rows whole.rows in
    let units = units_more c.batches (map name_in more) c.units whole.units in
    let said = said_more c.batches (map name_in more) c.said whole.said in
    ap (λ (names : List Text). record {
      batches = c.batches ++ more;
      rows = map (row_in names) c.rows;
      units = map (unit_in names) c.units;
      pairs = (world_in c).pairs;
      declarations = map (said_in names) c.said;
    }) (map-append name_in c.batches more)
    ∙ (λ z. record { batches = c.batches ++ more; rows = rows z; units = units z; pairs = (world_in c).pairs; declarations = said z })

pub ordered_world : (c : Content) (orders rows : List OrderRow) → IsWhole c → orders ≡ new_orders (orders_in (world_in c)) rows → world_in (applied c (Ordered orders)) ≡ with_orders (world_in c) rows
unfolding with_orders
ordered_world c orders rows whole new =
    ap (λ (bs : List Batch). world_in (record c { batches = bs })) (ordered_is c.batches orders ∙ ap (λ (os : List OrderRow). c.batches ++ map planned os) new)
    ∙ more_world c (map planned (new_orders (orders_in (world_in c)) rows)) whole

-- ---- units

same_node_name : (items : List Epc) (units : List UnitRow) (more : List Text) (rows : ℕ) (node : Node) → HasRoom rows (length units) node → node_name items (map code_in units ++ more) node ≡ node_name items (map code_in units) node
same_node_name items units more rows (AnItem at) l = refl
same_node_name items units more rows (AUnit at) l = let long = length-map units code_in in ap Box (get_or_append_left (map code_in units) more [] at (omega (arith, l, long)))

pairs_more : (items : List Epc) (units : List UnitRow) (more : List Text) (rows : ℕ) (links : List Link) → All (IsThereIn rows (length units)) links → map (pair_in items (map code_in units ++ more)) links ≡ map (pair_in items (map code_in units)) links
pairs_more items units more rows links a =
    map_alike (pair_in items (map code_in units ++ more)) (pair_in items (map code_in units)) links
    (λ k d l.
    let there = a k d l in
    let child = same_node_name items units more rows (get_or links k d).child there.child in
    let long = length-map units code_in in
    let within = there.parent in
    let parent = get_or_append_left (map code_in units) more [] (get_or links k d).parent (omega (arith, within, long)) in
    λ z. record { child = child z; parent = parent z })

pub made_world : (site : Setup) (c : Content) (sscc : Text) (batch : ℕ) (level : Level) (kept : Batch) → IsWhole c → slice_get c.batches batch ≡ Some kept → sscc ≡ code_of site (length c.units)
    → world_in (applied c (Made sscc batch level)) ≡ with_unit site (world_in c) kept.order.batch level
unfolding with_unit
made_world site c sscc batch level kept whole there code =
    let unit = new_unit sscc batch level in
    let names = batch_names c in
    let pairs = ap (λ (codes : List Text). map (pair_in (row_names c) codes) c.links) (map_push code_in c.units unit) ∙ pairs_more (row_names c) c.units (sscc ∷ []) (length c.rows) c.links whole.there in
    let count : length (map (unit_in names) c.units) ≡ length c.units = length-map c.units (unit_in names) in
    let own : sscc ≡ code_of site (length (map (unit_in names) c.units)) = code ∙ ap (code_of site) (sym count) in
    let name : get_or names batch [] ≡ kept.order.batch = part_there name_in c.batches batch kept [] there in
    ap (λ (us : List Container). record (world_in c) { units = us; pairs = map (pair_in (row_names c) (map code_in (c.units ++ unit ∷ []))) c.links }) (map_push (unit_in names) c.units unit)
    ∙ (λ z. record (world_in c) { units = map (unit_in names) c.units ++ record { sscc = own z; batch = name z; level = level; mark = Filling } ∷ []; pairs = pairs z })
