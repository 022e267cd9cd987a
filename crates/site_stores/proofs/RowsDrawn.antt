-- Rows that come last, and go last.
use Rattle.std.proofs.Common.{◌≡◌, ◌<◌, ◌≤◌, ◌+◌, ◌-◌, ℕ, zero, suc, Bool, false, cond, List, [], ◌∷◌, ◌++◌, length, take, Some, None, refl, sym, ap, ◌∙◌, subst, arith, All}
use Rattle.std.proofs.lemmas.Bool.{ne_eqb}
use Rattle.std.proofs.lemmas.List.{length_push, take_at}
use Rattle.deed_words.specs.Names.{Text}
use Rattle.item_store.specs.declared.row.ItemRow.{ItemRow}
use Rattle.item_store.specs.Rows.{Store, fresh_row}
use Rattle.pack_tree.specs.declared.link.Pair.{Pair as Link}
use Rattle.pack_tree.specs.declared.node.Node.{Node}
use Rattle.pack_tree.specs.declared.node.Node.TheVariants.{Item as AnItem, Unit as AUnit}
use Rattle.pack_tree.specs.declared.node.UnitRow.{UnitRow}
use Rattle.pack_tree.specs.Packing.{HasRoom, IsThereIn}
use Rattle.pack_tree.specs.Pairs.{same_node, parent_in}
use Rattle.pack_tree.specs.Trees.{Forest}
use Rattle.pack_tree.proofs.Stepping.{there_and_back}
use Rattle.batch_book.specs.Ledgers.{Ledger}
use Rattle.site_stores.specs.Changes.{one_drawn, one_undrawn, IsNewRow, drawn, undrawn, WereDrawn, with_room}
use Rattle.site_stores.specs.Holding.{AreOne, room_of}

pub draw_law : (batch : ℕ) (gtin : Text) (rows : List ItemRow) (serial : Text) → IsNewRow gtin rows serial → one_undrawn (one_drawn batch gtin rows serial) serial ≡ rows
draw_law batch gtin rows serial is = take_at rows (fresh_row gtin serial batch ∷ []) _ (let long = length_push rows (fresh_row gtin serial batch) in omega (arith, long))

pub more_drawn : (batch : ℕ) (gtin : Text) (rows : List ItemRow) (serials : List Text) → length (drawn batch gtin rows serials) ≡ length rows + length serials
more_drawn batch gtin rows [] = omega arith
more_drawn batch gtin rows (serial ∷ serials) = let rest = more_drawn batch gtin (one_drawn batch gtin rows serial) serials in let one = length_push rows (fresh_row gtin serial batch) in omega (arith, rest, one)

pub undrawn_all : (batch : ℕ) (gtin : Text) (rows : List ItemRow) (serials : List Text) → (were : WereDrawn batch gtin rows serials) → undrawn rows serials ≡ were.before
undrawn_all batch gtin rows serials were =
    ap (λ (rs : List ItemRow). undrawn rs serials) were.are ∙ there_and_back (one_drawn batch gtin) (IsNewRow gtin) one_undrawn (draw_law batch gtin) were.before serials were.may

pub drawn_long : (batch : ℕ) (gtin : Text) (rows : List ItemRow) (serials : List Text) → (were : WereDrawn batch gtin rows serials) → length rows ≡ length were.before + length serials
drawn_long batch gtin rows serials were = ap (λ (rs : List ItemRow). length rs) were.are ∙ more_drawn batch gtin were.before serials

front_long : {A : Type 0} (n : ℕ) (xs : List A) → n ≤ length xs → length (take n xs) ≡ n
front_long zero xs l = refl
front_long (suc n) [] l = absurd (omega (arith, l))
front_long (suc n) (x ∷ xs) l = ap suc (front_long n xs (omega (arith, l)))

pub one_less_row : (rows : List ItemRow) → length (take (length rows - 1) rows) ≡ length rows - 1
one_less_row rows = front_long (length rows - 1) rows (omega arith)

-- nothing of the rows from a place on is packed
not_above : (most units n : ℕ) (child : Node) → HasRoom most units child → most ≤ n → same_node child (AnItem n) ≡ false
not_above most units n (AnItem k) l m = ne_eqb k n (λ e. omega (arith, e, l, m))
not_above most units n (AUnit k) l m = refl

pub none_above : (most units n : ℕ) (links : List Link) → All (IsThereIn most units) links → most ≤ n → parent_in links (AnItem n) ≡ None
none_above most units n [] t m = refl
none_above most units n (link ∷ links) t m =
    ap (λ (b : Bool). cond b (Some link.parent) (parent_in links (AnItem n))) (not_above most units n link.child (t 0 link (omega arith)).child m) ∙ none_above most units n links (λ k d l. t (suc k) d (omega (arith, l))) m

-- each row that is drawn is of the batch
of_drawn : (batch most : ℕ) (gtin : Text) (rows : List ItemRow) (serials : List Text) → batch < most → All (λ row. row.batch < most) rows → All (λ row. row.batch < most) (drawn batch gtin rows serials)
of_drawn batch most gtin rows [] there a = a
of_drawn batch most gtin rows (serial ∷ serials) there a = of_drawn batch most gtin (one_drawn batch gtin rows serial) serials there (all_push rows a)
  where
    all_push : (rows : List ItemRow) → All (λ row. row.batch < most) rows → All (λ row. row.batch < most) (rows ++ fresh_row gtin serial batch ∷ [])
    all_push [] a zero d l = there
    all_push [] a (suc k) d l = absurd (omega (arith, l))
    all_push (row ∷ rows) a zero d l = a 0 d (omega arith)
    all_push (row ∷ rows) a (suc k) d l = all_push rows (λ j e m. a (suc j) e (omega (arith, m))) k d (omega (arith, l))

pub one_drawn_more : (book : Ledger) (items new : Store) (tree grown : Forest) (row_room left batch : ℕ) (gtin : Text) (serials : List Text) → AreOne book items tree row_room → batch < length book.batches
    → new.rows ≡ drawn batch gtin items.rows serials → new.spare + length serials ≡ items.spare → grown.items ≡ tree.items + length serials → grown.units ≡ tree.units → grown.item_room ≡ tree.item_room → grown.unit_room ≡ tree.unit_room → left + length serials ≡ row_room
    → AreOne book new grown left
one_drawn_more book items new tree grown row_room left batch gtin serials one there rows spare counted units item_room unit_room less =
    let long = ap (λ (rs : List ItemRow). length rs) rows ∙ more_drawn batch gtin items.rows serials in
    let same = ap (λ (us : List UnitRow). length us) units in
    let was = one.counted in
    record {
      rows = subst (λ (rs : List ItemRow). All (λ row. row.batch < length book.batches) rs) (sym rows) (of_drawn batch (length book.batches) gtin items.rows serials there one.rows);
      units = subst (λ (us : List UnitRow). All (λ unit. unit.batch < length book.batches) us) (sym units) one.units;
      counted = omega (arith, counted, was, long);
      reserved = omega (arith, one.reserved, spare, less);
      roomy = omega (arith, one.roomy, long, less, item_room);
      within = omega (arith, one.within, same, unit_room);
      few = omega (arith, one.few, long, less);
    }

-- fewer rows, of the same batches
front_of : (n most : ℕ) (rows : List ItemRow) → All (λ row. row.batch < most) rows → All (λ row. row.batch < most) (take n rows)
front_of zero most rows a k d l = absurd (omega (arith, l))
front_of (suc n) most [] a k d l = absurd (omega (arith, l))
front_of (suc n) most (row ∷ rows) a zero d l = a 0 d (omega arith)
front_of (suc n) most (row ∷ rows) a (suc k) d l = front_of n most rows (λ j e m. a (suc j) e (omega (arith, m))) k d (omega (arith, l))

of_undrawn : (most : ℕ) (rows : List ItemRow) (serials : List Text) → All (λ row. row.batch < most) rows → All (λ row. row.batch < most) (undrawn rows serials)
of_undrawn most rows [] a = a
of_undrawn most rows (serial ∷ serials) a = front_of (length (undrawn rows serials) - 1) most (undrawn rows serials) (of_undrawn most rows serials a)

pub one_undrawn_less : (book : Ledger) (items new : Store) (tree less : Forest) (row_room left batch : ℕ) (gtin : Text) (serials : List Text) → AreOne book items tree row_room → WereDrawn batch gtin items.rows serials
    → new.rows ≡ undrawn items.rows serials → new.spare ≡ items.spare + length serials → less.items + length serials ≡ tree.items → less.units ≡ tree.units → less.item_room ≡ tree.item_room → less.unit_room ≡ tree.unit_room → left ≡ row_room + length serials
    → AreOne book new less left
one_undrawn_less book items new tree less row_room left batch gtin serials one were rows spare counted units item_room unit_room more =
    let long = ap (λ (rs : List ItemRow). length rs) (rows ∙ undrawn_all batch gtin items.rows serials were) in
    let before = drawn_long batch gtin items.rows serials were in
    let same = ap (λ (us : List UnitRow). length us) units in
    let was = one.counted in
    record {
      rows = subst (λ (rs : List ItemRow). All (λ row. row.batch < length book.batches) rs) (sym rows) (of_undrawn (length book.batches) items.rows serials one.rows);
      units = subst (λ (us : List UnitRow). All (λ unit. unit.batch < length book.batches) us) (sym units) one.units;
      counted = omega (arith, counted, was, long, before);
      reserved = omega (arith, one.reserved, spare, more);
      roomy = omega (arith, one.roomy, long, before, more, item_room);
      within = omega (arith, one.within, same, unit_room);
      few = omega (arith, one.few, long, before, more);
    }

-- the room before a drawing is that after it, and that of the serials
pub room_drawn : (book : Ledger) (tree grown : Forest) (row_room left n : ℕ) → grown.units ≡ tree.units → grown.unit_room ≡ tree.unit_room → left + n ≡ row_room
    → room_of book tree row_room ≡ with_room (room_of book grown left) (record { batches = 0; declarations = 0; rows = n; units = 0 })
room_drawn book tree grown row_room left n units unit_room less =
    let same = ap (λ (us : List UnitRow). length us) units in
    let batches : book.batch_spare ≡ book.batch_spare + 0 = omega arith in
    let declarations : book.declaration_spare ≡ book.declaration_spare + 0 = omega arith in
    let rows : row_room ≡ left + n = omega (arith, less) in
    let room : tree.unit_room - length tree.units ≡ grown.unit_room - length grown.units + 0 = omega (arith, same, unit_room) in
    λ z. record { batches = batches z; declarations = declarations z; rows = rows z; units = room z }
