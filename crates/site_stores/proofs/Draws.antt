-- Rows that are drawn: when they may be, what they do to the world, and which names come.
use Rattle.std.proofs.Common.{◌≡◌, ◌<◌, ◌&&◌, ◌||◌, ℕ, zero, suc, Bool, true, false, cond, List, [], ◌∷◌, ◌++◌, map, length, get_or, Option, Some, None, refl, sym, ap, ◌∙◌, arith, true≢false, append_assoc, All}
use Rattle.std.specs.Prelude.{filter}
use Rattle.std.specs.List.{slice_get, list_any, IsDistinct, AllByRecursion as Every}
use Rattle.std.specs.Option.{option_map_or}
use Rattle.std.specs.Prelude.{bytes_eq}
use Rattle.std.proofs.lemmas.List.{length-map, map-append, append-nil, get_or_append_left}
use Rattle.std.proofs.lemmas.Map.Keys.{IsDistinct-head, IsDistinct-tail}
use Rattle.epc_urn.specs.declared.epc.Epc.{Epc}
use Rattle.epc_urn.specs.declared.epc.Epc.TheVariants.{Item}
use Rattle.gs1_keys.specs.Forms.{AreNew, is_among}
use Rattle.gs1_keys.specs.declared.form.SerialForm.{SerialForm}
use Rattle.deed_words.specs.Effects.{with_drawn, gtin_of, lent_rows}
use Rattle.deed_words.specs.Effects as effects
use Rattle.deed_words.specs.History.{serials_of}
use Rattle.deed_words.specs.Names.{Text, same, same_name}
use Rattle.deed_words.specs.Tests.{rows_of_gtin}
use Rattle.deed_words.specs.World.{name_of, batch_of}
use Rattle.deed_words.specs.declared.words.State.TheVariants.{Fresh}
use Rattle.deed_words.specs.declared.world.Batch.{Batch}
use Rattle.deed_words.specs.declared.world.Row.{Row}
use Rattle.deed_words.proofs.Sameness.{same_equiv, same-itself}
use Rattle.item_store.specs.declared.row.ItemRow.{ItemRow}
use Rattle.item_store.specs.Rows.{fresh_row, is_named, item_name}
use Rattle.pack_tree.specs.declared.link.Pair.{Pair as Link}
use Rattle.pack_tree.specs.declared.node.Node.{Node}
use Rattle.pack_tree.specs.declared.node.Node.TheVariants.{Item as AnItem, Unit as AUnit}
use Rattle.pack_tree.specs.Packing.{HasRoom, IsThereIn}
use Rattle.pack_tree.specs.Stepping.{MayStep}
use Rattle.batch_book.specs.Batches.{name_in}
use Rattle.batch_book.specs.Content.{Content, world_in, row_in, pair_in, node_name, batch_names, row_names, unit_codes, name_at}
use Rattle.batch_book.proofs.Bridge.{batch_there}
use Rattle.site_stores.specs.declared.change.Change.{Change}
use Rattle.site_stores.specs.declared.change.Change.TheVariants.{Nothing, Turned, Put, Taken, Phased, Amended, Marked, Said, Made, Ordered, Drawn}
use Rattle.site_stores.specs.Changes.{one_drawn, drawn, MayDraw, applied, MayChange, MayApply, names_drawn}
use Rattle.site_stores.specs.Holding.{IsWhole}
use Rattle.site_stores.proofs.Finding.{part_there}
use Rattle.site_stores.proofs.Moving.{names_in, names_turned}

-- ---- new serials may be drawn
or_left : (a b : Bool) → (a || b) ≡ false → a ≡ false
or_left true b e = e
or_left false b e = refl

or_right : (a b : Bool) → (a || b) ≡ false → b ≡ false
or_right true b e = absurd (true≢false e)
or_right false b e = e

all_cons : {A : Type 0} (P : A → Type 0) (x : A) (xs : List A) → P x → All P xs → All P (x ∷ xs)
all_cons P x xs p a zero d l = p
all_cons P x xs p a (suc k) d l = a k d (omega (arith, l))

all_push : {A : Type 0} (P : A → Type 0) (x : A) (xs : List A) → P x → All P xs → All P (xs ++ x ∷ [])
all_push P x [] p a zero d l = p
all_push P x [] p a (suc k) d l = absurd (omega (arith, l))
all_push P x (y ∷ ys) p a zero d l = a 0 d (omega arith)
all_push P x (y ∷ ys) p a (suc k) d l = all_push P x ys p (λ j e m. a (suc j) e (omega (arith, m))) k d (omega (arith, l))

abbrev of_gtin : Text → List Row → List Row
of_gtin gtin rows = filter (λ (row : Row). same row.gtin gtin) rows

abbrev has_serial : Text → List Row → Bool
has_serial serial rows = list_any (bytes_eq serial) (map (λ (row : Row). row.serial) rows)

unnamed_more : (names : List Text) (gtin serial : Text) (row : ItemRow) (rows : List ItemRow) (b : Bool) → same row.gtin gtin ≡ b
    → (has_serial serial (of_gtin gtin (map (row_in names) rows)) ≡ false → All (λ r. is_named gtin serial r ≡ false) rows)
    → has_serial serial (cond b (row_in names row ∷ of_gtin gtin (map (row_in names) rows)) (of_gtin gtin (map (row_in names) rows))) ≡ false → All (λ r. is_named gtin serial r ≡ false) (row ∷ rows)
unfolding is_named same_name same
unnamed_more names gtin serial row rows true t more f =
    all_cons (λ (r : ItemRow). is_named gtin serial r ≡ false) row rows
    (ap (λ (b : Bool). b && same row.serial serial) t ∙ same_equiv.symm row.serial serial ∙ or_left (bytes_eq serial row.serial) (has_serial serial (of_gtin gtin (map (row_in names) rows))) f)
    (more (or_right (bytes_eq serial row.serial) (has_serial serial (of_gtin gtin (map (row_in names) rows))) f))
unnamed_more names gtin serial row rows false t more f =
    all_cons (λ (r : ItemRow). is_named gtin serial r ≡ false) row rows (ap (λ (b : Bool). b && same row.serial serial) t) (more f)

-- a serial that the GTIN doesn't have names no row
unnamed : (names : List Text) (gtin serial : Text) (rows : List ItemRow) → has_serial serial (of_gtin gtin (map (row_in names) rows)) ≡ false → All (λ row. is_named gtin serial row ≡ false) rows
unnamed names gtin serial [] e = λ k d l. absurd (omega (arith, l))
unnamed names gtin serial (row ∷ rows) e = unnamed_more names gtin serial row rows (same row.gtin gtin) refl (λ f. unnamed names gtin serial rows f) e

all_to_every : {A : Type 0} (P Q : A → Type 0) → ((x : A) → P x → Q x) → (xs : List A) → All P xs → Every Q xs
all_to_every P Q f [] a = tt
all_to_every P Q f (x ∷ xs) a = (f x (a 0 x (omega arith)), all_to_every P Q f xs (λ k d l. a (suc k) d (omega (arith, l))))

still_new : (gtin serial : Text) (batch : ℕ) (rows : List ItemRow) (serials : List Text) → Every (λ other. bytes_eq serial other ≡ false) serials → Every (λ other. All (λ row. is_named gtin other row ≡ false) rows) serials
    → Every (λ other. All (λ row. is_named gtin other row ≡ false) (rows ++ fresh_row gtin serial batch ∷ [])) serials
unfolding is_named same_name same
still_new gtin serial batch rows [] a n = tt
still_new gtin serial batch rows (other ∷ others) a n = (
  all_push (λ (row : ItemRow). is_named gtin other row ≡ false) (fresh_row gtin serial batch) rows (ap (λ (b : Bool). b && same serial other) (same-itself gtin) ∙ a.0) n.0,
  still_new gtin serial batch rows others a.1 n.1,
)

may_from : (batch : ℕ) (gtin : Text) (rows : List ItemRow) (serials : List Text) → IsDistinct bytes_eq serials → Every (λ serial. All (λ row. is_named gtin serial row ≡ false) rows) serials → MayDraw batch gtin rows serials
unfolding MayStep
may_from batch gtin rows [] d n = tt
may_from batch gtin rows (serial ∷ serials) d n = (
  record { new = n.0 },
  may_from batch gtin (one_drawn batch gtin rows serial) serials (IsDistinct-tail bytes_eq serial serials d) (still_new gtin serial batch rows serials (IsDistinct-head bytes_eq serial serials d) n.1),
)

pub new_may : (c : Content) (batch : ℕ) (gtin : Text) (form : SerialForm) (serials : List Text) → IsWhole c → batch < length c.batches → AreNew (serials_of (world_in c) gtin) form serials → MayApply c (Drawn batch gtin serials)
unfolding MayChange serials_of rows_of_gtin
new_may c batch gtin form serials whole there new = record {
  whole = whole;
  may = record {
    there = there;
    may = may_from batch gtin c.rows serials new.distinct
        (all_to_every (λ (serial : Text). is_among (serials_of (world_in c) gtin) serial ≡ false) (λ (serial : Text). All (λ row. is_named gtin serial row ≡ false) c.rows) (λ serial e. unnamed (batch_names c) gtin serial c.rows e) serials new.unknown);
  };
}

-- ---- they are the effect of a draw
abbrev one_row : ℕ → Text → Text → ItemRow
one_row batch gtin serial = fresh_row gtin serial batch

drawn_is : (batch : ℕ) (gtin : Text) (rows : List ItemRow) (serials : List Text) → drawn batch gtin rows serials ≡ rows ++ map (one_row batch gtin) serials
drawn_is batch gtin rows [] = sym (append-nil rows)
drawn_is batch gtin rows (serial ∷ serials) = drawn_is batch gtin (one_drawn batch gtin rows serial) serials ∙ append_assoc rows (one_row batch gtin serial ∷ []) (map (one_row batch gtin) serials)

fresh_in : (names : List Text) (batch : ℕ) (gtin name : Text) → get_or names batch [] ≡ name → (serials : List Text) → map (row_in names) (map (one_row batch gtin) serials) ≡ map (effects.fresh_row gtin name) serials
unfolding effects.fresh_row
fresh_in names batch gtin name e [] = refl
fresh_in names batch gtin name e (serial ∷ serials) =
    let more = fresh_in names batch gtin name e serials in
    λ z. record { gtin = gtin; serial = serial; batch = e z; line = None; state = Fresh } ∷ more z

map_alike : {A B : Type 0} (f g : A → B) (xs : List A) → All (λ x. f x ≡ g x) xs → map f xs ≡ map g xs
map_alike f g [] a = refl
map_alike {A} {B} f g (x ∷ xs) a = ap (λ (y : B). y ∷ map f xs) (a 0 x (omega arith)) ∙ ap (λ (ys : List B). g x ∷ ys) (map_alike f g xs (λ k d l. a (suc k) d (omega (arith, l))))

same_node_name : (rows : List ItemRow) (more : List Epc) (codes : List Text) (units : ℕ) (node : Node) → HasRoom (length rows) units node → node_name (map item_name rows ++ more) codes node ≡ node_name (map item_name rows) codes node
same_node_name rows more codes units (AnItem at) l = let long = length-map rows item_name in get_or_append_left (map item_name rows) more _ at (omega (arith, l, long))
same_node_name rows more codes units (AUnit at) l = refl

pairs_more : (rows : List ItemRow) (more : List Epc) (codes : List Text) (units : ℕ) (links : List Link) → All (IsThereIn (length rows) units) links → map (pair_in (map item_name rows ++ more) codes) links ≡ map (pair_in (map item_name rows) codes) links
pairs_more rows more codes units links a =
    map_alike (pair_in (map item_name rows ++ more) codes) (pair_in (map item_name rows) codes) links
    (λ k d l.
    let child = same_node_name rows more codes units (get_or links k d).child (a k d l).child in
    λ z. record { child = child z; parent = get_or codes (get_or links k d).parent [] })

own_gtin : (c : Content) (batch : ℕ) (kept : Batch) → IsWhole c → slice_get c.batches batch ≡ Some kept → gtin_of (world_in c) kept.order.batch ≡ kept.order.gtin
unfolding gtin_of
own_gtin c batch kept whole there =
    let name : name_at c.batches batch ≡ kept.order.batch = part_there name_in c.batches batch kept [] there in
    ap (λ (o : Option Batch). option_map_or (λ (b : Batch). b.order.gtin) o [])
    (ap (batch_of (world_in c)) (sym name) ∙ batch_there c whole.batches_apart whole.batches_named batch kept there)

pub drawn_world : (c : Content) (batch : ℕ) (gtin : Text) (serials : List Text) (kept : Batch) → IsWhole c → slice_get c.batches batch ≡ Some kept → gtin ≡ kept.order.gtin
    → world_in (applied c (Drawn batch gtin serials)) ≡ with_drawn (world_in c) kept.order.batch serials
unfolding with_drawn
drawn_world c batch gtin serials kept whole there own =
    let new : List ItemRow = map (one_row batch gtin) serials in
    let names : List Text = batch_names c in
    let name : get_or names batch [] ≡ kept.order.batch = part_there name_in c.batches batch kept [] there in
    let is : gtin ≡ gtin_of (world_in c) kept.order.batch = own ∙ sym (own_gtin c batch kept whole there) in
    let rows : map (row_in names) (c.rows ++ new) ≡ map (row_in names) c.rows ++ map (effects.fresh_row (gtin_of (world_in c) kept.order.batch) kept.order.batch) serials =
    map-append (row_in names) c.rows new ∙ ap (λ (rs : List Row). map (row_in names) c.rows ++ rs) (fresh_in names batch gtin kept.order.batch name serials
    ∙ ap (λ (g : Text). map (effects.fresh_row g kept.order.batch) serials) is) in
    let pairs : map (pair_in (map item_name (c.rows ++ new)) (unit_codes c)) c.links ≡ (world_in c).pairs =
    ap (λ (es : List Epc). map (pair_in es (unit_codes c)) c.links) (map-append item_name c.rows new) ∙ pairs_more c.rows (map item_name new) (unit_codes c) (length c.units) c.links whole.there in
    ap (λ (rs : List ItemRow). world_in (record c { rows = rs })) (drawn_is batch gtin c.rows serials)
    ∙ (λ z. record (world_in c) { rows = rows z; pairs = pairs z })

-- ---- the names that come
names_of_drawn : (batch : ℕ) (gtin : Text) (serials : List Text) → map item_name (map (one_row batch gtin) serials) ≡ map (Item gtin) serials
names_of_drawn batch gtin [] = refl
names_of_drawn batch gtin (serial ∷ serials) = ap (λ (es : List Epc). Item gtin serial ∷ es) (names_of_drawn batch gtin serials)

rows_named : (c : Content) (change : Change) → row_names (applied c change) ≡ row_names c ++ names_drawn change
rows_named c Nothing = sym (append-nil (row_names c))
rows_named c (Turned turns) = names_turned c.rows turns ∙ sym (append-nil (row_names c))
rows_named c (Put unit nodes) = sym (append-nil (row_names c))
rows_named c (Taken gone) = sym (append-nil (row_names c))
rows_named c (Phased batch old new) = sym (append-nil (row_names c))
rows_named c (Amended batch old new) = sym (append-nil (row_names c))
rows_named c (Marked unit old new) = sym (append-nil (row_names c))
rows_named c (Said batch line numbers) = sym (append-nil (row_names c))
rows_named c (Made sscc batch level) = sym (append-nil (row_names c))
rows_named c (Ordered orders) = sym (append-nil (row_names c))
rows_named c (Drawn batch gtin serials) =
    ap (map item_name) (drawn_is batch gtin c.rows serials) ∙ map-append item_name c.rows (map (one_row batch gtin) serials) ∙ ap (λ (es : List Epc). row_names c ++ es) (names_of_drawn batch gtin serials)

pub names_after : (c : Content) (change : Change) → map name_of (world_in (applied c change)).rows ≡ map name_of (world_in c).rows ++ names_drawn change
names_after c change =
    names_in (batch_names (applied c change)) (applied c change).rows ∙ rows_named c change ∙ ap (λ (es : List Epc). es ++ names_drawn change) (sym (names_in (batch_names c) c.rows))
