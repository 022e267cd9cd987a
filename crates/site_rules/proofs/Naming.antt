-- Nothing is of a batch with no name.
use Rattle.std.proofs.Common.{◌≡◌, ◌<◌, ℕ, zero, suc, Bool, true, false, not, eqb, map, length, get_or, List, [], ◌∷◌, Option, None, Some, refl, sym, ap, ◌∙◌, arith, true≢false, All}
use Rattle.std.specs.Prelude.{find, option_map}
use Rattle.std.specs.List.{AllByRecursion as Every}
use Rattle.std.proofs.lemmas.Bool.Decides.{nat_tests}
use Rattle.epc_urn.specs.declared.epc.Epc.{Epc}
use Rattle.epc_urn.specs.declared.epc.Epc.TheVariants.{Item, Unit as Box}
use Rattle.deed_words.specs.Names.{Text, same, same_name}
use Rattle.deed_words.specs.World.{World, row_of, unit_of, home, name_of}
use Rattle.deed_words.specs.Chain.{first, when, each, each_from, holds_of}
use Rattle.deed_words.specs.Tests.{is_of, strays}
use Rattle.deed_words.specs.declared.world.Batch.{Batch}
use Rattle.deed_words.specs.declared.world.Row.{Row}
use Rattle.deed_words.specs.declared.world.Container.{Container}
use Rattle.deed_words.specs.declared.rule.Rule.TheVariants.{OtherBatch}
use Rattle.deed_words.proofs.Items.{find_Some}
use Rattle.item_store.specs.declared.row.ItemRow.{ItemRow}
use Rattle.pack_tree.specs.declared.node.UnitRow.{UnitRow}
use Rattle.batch_book.specs.Batches.{name_in, IsNamed}
use Rattle.batch_book.specs.Content.{Content, world_in, row_in, unit_in}
use Rattle.site_stores.specs.Holding.{IsWhole}

not_empty : (t : Text) → 0 < length t → same [] t ≡ false
unfolding same
not_empty [] l = absurd (omega (arith, l))
not_empty (x ∷ xs) l = refl

pub empty_not : (t : Text) → 0 < length t → same t [] ≡ false
unfolding same
empty_not [] l = absurd (omega (arith, l))
empty_not (x ∷ xs) l = refl

name_there : (batches : List Batch) (at : ℕ) → All IsNamed batches → at < length batches → 0 < length (get_or (map name_in batches) at [])
name_there [] at a l = absurd (omega (arith, l))
name_there (b ∷ bs) zero a l = a 0 b (omega arith)
name_there (b ∷ bs) (suc at) a l = name_there bs at (λ k d m. a (suc k) d (omega (arith, m))) (omega (arith, l))

rows_named : (batches : List Batch) → All IsNamed batches → (rows : List ItemRow) → All (λ (row : ItemRow). row.batch < length batches) rows → Every (λ (row : Row). 0 < length row.batch) (map (row_in (map name_in batches)) rows)
rows_named batches n [] a = tt
rows_named batches n (row ∷ rows) a = (name_there batches row.batch n (a 0 row (omega arith)), rows_named batches n rows (λ k d l. a (suc k) d (omega (arith, l))))

units_named : (batches : List Batch) → All IsNamed batches → (units : List UnitRow) → All (λ (unit : UnitRow). unit.batch < length batches) units → Every (λ (unit : Container). 0 < length unit.batch) (map (unit_in (map name_in batches)) units)
units_named batches n [] a = tt
units_named batches n (unit ∷ units) a = (name_there batches unit.batch n (a 0 unit (omega arith)), units_named batches n units (λ k d l. a (suc k) d (omega (arith, l))))

found_row : (test : Row → Bool) (rows : List Row) → Every (λ (row : Row). 0 < length row.batch) rows → holds_of (same []) (option_map (λ (row : Row). row.batch) (find test rows)) ≡ false
unfolding holds_of
found_row test rows a = cases (find test rows) refl
  where
    cases : (found : Option Row) → find test rows ≡ found → holds_of (same []) (option_map (λ (row : Row). row.batch) found) ≡ false
    cases None e = refl
    cases (Some row) e = not_empty row.batch (find_Some (λ (r : Row). 0 < length r.batch) test rows row e a)

found_unit : (test : Container → Bool) (units : List Container) → Every (λ (unit : Container). 0 < length unit.batch) units → holds_of (same []) (option_map (λ (unit : Container). unit.batch) (find test units)) ≡ false
unfolding holds_of
found_unit test units a = cases (find test units) refl
  where
    cases : (found : Option Container) → find test units ≡ found → holds_of (same []) (option_map (λ (unit : Container). unit.batch) found) ≡ false
    cases None e = refl
    cases (Some unit) e = not_empty unit.batch (find_Some (λ (u : Container). 0 < length u.batch) test units unit e a)

-- nothing is of it
pub of_nothing : (c : Content) → IsWhole c → (name : Epc) → is_of (world_in c) [] name ≡ false
unfolding is_of home row_of unit_of
of_nothing c whole (Item gtin serial) = found_row (λ (row : Row). same_name (name_of row) (Item gtin serial)) (world_in c).rows (rows_named c.batches whole.batches_named c.rows whole.rows)
of_nothing c whole (Box sscc) = found_unit (λ (unit : Container). same unit.sscc sscc) (world_in c).units (units_named c.batches whole.batches_named c.units whole.units)

not_none : (n : ℕ) → eqb (suc n) 0 ≡ false
not_none n = grind (arith, nat_tests)

-- of no things none is foreign, and of others the first
pub foreign_none : (w : World) (batch : Text) (names : List Epc) → eqb (length names) 0 ≡ true → strays w batch names ≡ None
unfolding strays each each_from first
foreign_none w batch [] e = refl
foreign_none w batch (x ∷ xs) e = absurd (true≢false (sym e ∙ not_none (length xs)))

pub foreign_first : (c : Content) → IsWhole c → (names : List Epc) → eqb (length names) 0 ≡ false → strays (world_in c) [] names ≡ Some (OtherBatch 0)
unfolding strays each each_from first when
foreign_first c whole [] e = absurd (true≢false e)
foreign_first c whole (x ∷ xs) e =
    ap (λ b. first (when (not b) (OtherBatch 0) ∷ each_from 1 (λ (k : ℕ) (name : Epc). when (not (is_of (world_in c) [] name)) (OtherBatch k)) xs)) (of_nothing c whole x)
