-- The stores fit one another, before and after each change.
use Rattle.std.proofs.Common.{◌≡◌, ◌<◌, ◌-◌, ℕ, List, [], length, sym, ap, subst, ◌∙◌, arith, All}
use Rattle.item_store.specs.declared.row.ItemRow.{ItemRow}
use Rattle.item_store.specs.Rows.{Store}
use Rattle.pack_tree.specs.declared.node.UnitRow.{UnitRow}
use Rattle.pack_tree.specs.Packing.{Packed}
use Rattle.pack_tree.specs.Trees.{Forest, packed_of}
use Rattle.batch_book.specs.Content.{content_of}
use Rattle.batch_book.specs.Ledgers.{Ledger}
use Rattle.site_stores.specs.Holding.{AreOne, packed_in, with_packed, room_of}

none_in : {A : Type 0} (P : A → Type 0) (xs : List A) → xs ≡ [] → All P xs
none_in {A} P xs e k d l = let none = ap (λ (ys : List A). length ys) e in absurd (omega (arith, l, none))

-- empty stores
pub nothing_yet : (book : Ledger) (items : Store) (tree : Forest) → items.rows ≡ [] → tree.units ≡ [] → tree.items ≡ 0 → AreOne book items tree 0
nothing_yet book items tree rows units counted =
    let none : length items.rows ≡ 0 = ap (λ (rs : List ItemRow). length rs) rows in
    record {
      rows = none_in (λ (row : ItemRow). row.batch < length book.batches) items.rows rows;
      units = none_in (λ (unit : UnitRow). unit.batch < length book.batches) tree.units units;
      counted = counted ∙ sym none;
      reserved = omega arith;
      roomy = omega (arith, none);
      few = omega (arith, none);
      within = let no_units = ap (λ (us : List UnitRow). length us) units in omega (arith, no_units);
    }

-- what the tree has packed is what the stores' content has packed
pub packed_same : (book : Ledger) (items : Store) (tree : Forest) (row_room : ℕ) → AreOne book items tree row_room → packed_of tree ≡ packed_in (content_of book items tree)
packed_same book items tree row_room one = λ z. record { pairs = tree.pairs; last = tree.last; items = one.counted z; units = length tree.units }

-- the tree with other pairs
pub packed_anew : (book : Ledger) (items : Store) (tree new : Forest) (p : Packed) → packed_of new ≡ p → new.units ≡ tree.units → content_of book items new ≡ with_packed (content_of book items tree) p
packed_anew book items tree new p packed units =
    λ z. record { batches = book.batches; rows = items.rows; units = units z; links = (packed z).pairs; last = (packed z).last; said = book.declarations }

pub one_packed : (book : Ledger) (items : Store) (tree new : Forest) (row_room : ℕ) → AreOne book items tree row_room → new.units ≡ tree.units → new.items ≡ tree.items → new.item_room ≡ tree.item_room → new.unit_room ≡ tree.unit_room → AreOne book items new row_room
one_packed book items tree new row_room one units counted room unit_room = record {
  rows = one.rows;
  units = subst (λ (us : List UnitRow). All (λ unit. unit.batch < length book.batches) us) (sym units) one.units;
  counted = counted ∙ one.counted;
  reserved = one.reserved;
  roomy = omega (arith, one.roomy, room);
  within = let long = ap (λ (us : List UnitRow). length us) units in omega (arith, one.within, long, unit_room);
  few = one.few;
}

pub room_packed : (book : Ledger) (tree new : Forest) (row_room : ℕ) → new.units ≡ tree.units → new.unit_room ≡ tree.unit_room → room_of book new row_room ≡ room_of book tree row_room
room_packed book tree new row_room units room = λ z. record { batches = book.batch_spare; declarations = book.declaration_spare; rows = row_room; units = room z - length (units z) }
