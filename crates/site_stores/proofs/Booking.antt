-- Batches and units changed, added and taken back.
use Rattle.std.proofs.Common.{◌≡◌, ◌<◌, ◌≤◌, ◌+◌, ◌-◌, ℕ, zero, suc, List, [], ◌∷◌, map, length, take, get_or, refl, sym, ap, ◌∙◌, subst, arith, All}
use Rattle.std.proofs.lemmas.List.{get_or-map, length_push, take_at}
use Rattle.deed_words.specs.declared.deed.OrderRow.{OrderRow}
use Rattle.deed_words.specs.declared.words.Mark.{Mark}
use Rattle.deed_words.specs.declared.words.Phase.{Phase}
use Rattle.deed_words.specs.declared.world.Batch.{Batch}
use Rattle.item_store.specs.Rows.{Store}
use Rattle.pack_tree.specs.declared.node.UnitRow.{UnitRow}
use Rattle.pack_tree.specs.Trees.{Forest}
use Rattle.pack_tree.specs.Units.{batch_in, marked}
use Rattle.pack_tree.proofs.Stepping.{there_and_back}
use Rattle.batch_book.specs.declared.row.DeclarationRow.{DeclarationRow}
use Rattle.batch_book.specs.Batches.{planned, phased, amended, with_phase, with_quantity}
use Rattle.batch_book.specs.Content.{content_of}
use Rattle.batch_book.specs.Ledgers.{Ledger}
use Rattle.batch_book.proofs.Named.{length_changed}
use Rattle.site_stores.specs.Changes.{one_ordered, one_fewer, IsNew, ordered, unordered, WereOrdered, AreUnused}
use Rattle.site_stores.specs.Holding.{AreOne}

-- ---- batches

-- the stores fit one another where no batch is gone
pub one_booked : (book new : Ledger) (items : Store) (tree : Forest) (row_room : ℕ) → AreOne book items tree row_room → length book.batches ≤ length new.batches → AreOne new items tree row_room
one_booked book new items tree row_room one more = record {
  rows = λ k d l. omega (arith, one.rows k d l, more);
  units = λ k d l. omega (arith, one.units k d l, more);
  counted = one.counted;
  reserved = one.reserved;
  roomy = one.roomy;
  within = one.within;
  few = one.few;
}

pub as_many_phased : (batches new : List Batch) (at : ℕ) (phase : Phase) → new ≡ phased batches at phase → length batches ≤ length new
as_many_phased batches new at phase is = let long = ap (λ (bs : List Batch). length bs) is ∙ length_changed (with_phase phase) batches at in omega (arith, long)

pub as_many_amended : (batches new : List Batch) (at quantity : ℕ) → new ≡ amended batches at quantity → length batches ≤ length new
as_many_amended batches new at quantity is = let long = ap (λ (bs : List Batch). length bs) is ∙ length_changed (with_quantity quantity) batches at in omega (arith, long)

pub more_ordered : (batches : List Batch) (orders : List OrderRow) → length (ordered batches orders) ≡ length batches + length orders
more_ordered batches [] = omega arith
more_ordered batches (order ∷ orders) = let rest = more_ordered (one_ordered batches order) orders in let one = length_push batches (planned order) in omega (arith, rest, one)

pub order_law : (batches : List Batch) (order : OrderRow) → IsNew batches order → one_fewer (one_ordered batches order) order ≡ batches
order_law batches order is = take_at batches (planned order ∷ []) _ (let long = length_push batches (planned order) in omega (arith, long))

-- ---- units

length_marked : (units : List UnitRow) (at : ℕ) (mark : Mark) → length (marked units at mark) ≡ length units
length_marked [] at mark = refl
length_marked (unit ∷ units) zero mark = refl
length_marked (unit ∷ units) (suc at) mark = ap suc (length_marked units at mark)

batches_marked : (units : List UnitRow) (at : ℕ) (mark : Mark) → map batch_in (marked units at mark) ≡ map batch_in units
batches_marked [] at mark = refl
batches_marked (unit ∷ units) zero mark = refl
batches_marked (unit ∷ units) (suc at) mark = ap (λ (bs : List ℕ). unit.batch ∷ bs) (batches_marked units at mark)

pub as_many_marked : (units new : List UnitRow) (at : ℕ) (mark : Mark) → new ≡ marked units at mark → length new ≡ length units
as_many_marked units new at mark is = ap (λ (us : List UnitRow). length us) is ∙ length_marked units at mark

pub one_marked : (book : Ledger) (items : Store) (tree new : Forest) (row_room at : ℕ) (mark : Mark) → AreOne book items tree row_room → new.units ≡ marked tree.units at mark → new.items ≡ tree.items → new.item_room ≡ tree.item_room → new.unit_room ≡ tree.unit_room → AreOne book items new row_room
one_marked book items tree new row_room at mark one units counted item_room unit_room =
    let long = as_many_marked tree.units new.units at mark units in
    let same : map batch_in new.units ≡ map batch_in tree.units = ap (map batch_in) units ∙ batches_marked tree.units at mark in
    let fewer : (k : ℕ) → k < length new.units → k < length tree.units = λ k l. omega (arith, l, long) in
    let batch : (k : ℕ) (d : UnitRow) → k < length new.units → (get_or new.units k d).batch ≡ (get_or tree.units k d).batch =
    λ k d l. sym (get_or-map batch_in new.units k d d.batch l) ∙ ap (λ (bs : List ℕ). get_or bs k d.batch) same ∙ get_or-map batch_in tree.units k d d.batch (fewer k l) in
    record {
      rows = one.rows;
      units = λ k d l. subst (λ (b : ℕ). b < length book.batches) (sym (batch k d l)) (one.units k d (fewer k l));
      counted = counted ∙ one.counted;
      reserved = one.reserved;
      roomy = omega (arith, one.roomy, item_room);
      within = omega (arith, one.within, long, unit_room);
      few = one.few;
    }

-- ---- batches taken back, of which nothing is

front_long : {A : Type 0} (n : ℕ) (xs : List A) → n ≤ length xs → length (take n xs) ≡ n
front_long zero xs l = refl
front_long (suc n) [] l = absurd (omega (arith, l))
front_long (suc n) (x ∷ xs) l = ap suc (front_long n xs (omega (arith, l)))

pub one_less_long : (batches : List Batch) → length (take (length batches - 1) batches) ≡ length batches - 1
one_less_long batches = front_long (length batches - 1) batches (omega arith)

pub fewer_unused : (said new_said : List DeclarationRow) (batches new : List Batch) (left first : ℕ) → new_said ≡ said → new ≡ take (length batches - 1) batches → left ≡ first + 1 → All (λ s. s.batch + left < length batches) said → All (λ s. s.batch + first < length new) new_said
fewer_unused said new_said batches new left first same is long unused =
    let fewer = ap (λ (bs : List Batch). length bs) is ∙ one_less_long batches in
    subst (λ (ss : List DeclarationRow). All (λ s. s.batch + first < length new) ss) (sym same) (λ k d l. let u = unused k d l in omega (arith, u, fewer, long))

pub unordered_all : (batches new : List Batch) (orders : List OrderRow) → WereOrdered batches orders → new ≡ unordered batches orders → length new + length orders ≡ length batches
unordered_all batches new orders were is =
    let back : new ≡ were.before = is ∙ ap (λ (bs : List Batch). unordered bs orders) were.are ∙ there_and_back one_ordered IsNew one_fewer order_law were.before orders were.may in
    let long = ap (λ (bs : List Batch). length bs) were.are ∙ more_ordered were.before orders in
    let same = ap (λ (bs : List Batch). length bs) back in
    omega (arith, long, same)

pub one_unbooked : (book new : Ledger) (items : Store) (tree : Forest) (row_room count : ℕ) → AreOne book items tree row_room → AreUnused (content_of book items tree) count → length new.batches + count ≡ length book.batches → AreOne new items tree row_room
one_unbooked book new items tree row_room count one unused fewer = record {
  rows = λ k d l. let u = unused.rows k d l in omega (arith, u, fewer);
  units = λ k d l. let u = unused.units k d l in omega (arith, u, fewer);
  counted = one.counted;
  reserved = one.reserved;
  roomy = one.roomy;
  within = one.within;
  few = one.few;
}
