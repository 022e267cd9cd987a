-- The world of proper entries is proper.
use Rattle.std.proofs.Common.{◌≡◌, ℕ, ◌+◌, ◌<◌, Bool, true, false, not, List, [], ◌∷◌, ◌++◌, length, map, sym, ◌∙◌, ap, refl, subst, Option, None, Some, true≢false}
use Rattle.std.specs.Prelude.{if◌then◌else◌, find, is_none, is_some, All}
use Rattle.std.specs.List.{AllByRecursion as Every, list_all}
use Rattle.std.proofs.lemmas.Bool.{and_parts}
use Rattle.std.proofs.lemmas.List.Elements.{recursion_from_All}
use Rattle.gs1_keys.specs.Keys.{is_between}
use Rattle.epc_urn.specs.declared.epc.Epc.{Epc}
use Rattle.deed_words.specs.Names.{Text, same, is_among}
use Rattle.deed_words.specs.Setups.{Setup, product_of}
use Rattle.deed_words.specs.declared.entry.Entry.{Entry}
use Rattle.deed_words.specs.declared.deed.OrderRow.{OrderRow}
use Rattle.deed_words.specs.declared.rule.Rule.{Rule}
use Rattle.deed_words.specs.declared.rule.Rule.TheVariants as rule
use Rattle.deed_words.specs.declared.deed.Deed.{Deed}
use Rattle.deed_words.specs.declared.deed.Deed.TheVariants.{Order, Orders, Start, Draw, Lend, Container as MakeUnit, Pack, Unpack, UnpackAll, Seal, Unseal, Void, Declare, Close, Amend}
use Rattle.deed_words.specs.declared.words.Phase.{Phase}
use Rattle.deed_words.specs.declared.words.Phase.TheVariants.{Started, Closed}
use Rattle.deed_words.specs.declared.world.Batch.{Batch}
use Rattle.deed_words.specs.declared.world.Row.{Row}
use Rattle.deed_words.specs.declared.world.Declaration.{Declaration}
use Rattle.deed_words.specs.Chain.{is_empty}
use Rattle.deed_words.specs.World.{World, nothing_yet, name_of, batch_of}
use Rattle.deed_words.specs.Deeds.{order_rows, named}
use Rattle.deed_words.specs.Orders.{planned, new_orders, orders_in}
use Rattle.deed_words.specs.Tests.{Test, unknown_product}
use Rattle.deed_words.specs.Rules.{broken, rules_of, on_rows}
use Rattle.deed_words.specs.Effects.{effect, with_orders, in_phase, with_phase, of_quantity, with_quantity, fresh_row, gtin_of, with_drawn, rewrite, with_rows, lent_rows, lent_to, moved_row, with_unit, with_mark, with_children, without_children, emptied, with_declaration}
use Rattle.deed_words.specs.Replies.{after, unless_broken}
use Rattle.deed_words.specs.History.{world_from, world_of, MayFollow, AllFollow, IsLawful}
use Rattle.deed_words.specs.Proper.{is_order, IsProperDeed, IsProperEntry}
use Rattle.deed_words.specs.ProperWorlds.{IsProperBatch, IsOfStation, IsProperWorld}
use Rattle.deed_words.proofs.Sameness.{same-true}
use Rattle.deed_words.proofs.Items.{Every-append, Every-weaker, Every-both, Every-always, Every-map, find_passes, find_Some}
use Rattle.deed_words.proofs.Broken.{each_when}
use Rattle.deed_words.proofs.Allowed.{NoneOf, allowed}
use Rattle.deed_words.proofs.SoundBatches.{in_phase-order}
use Rattle.deed_words.proofs.OrdersAgain.{Every-new}
use Rattle.deed_words.proofs.OrdersKept.{of_quantity-order}

there : {A : Type 0} (o : Option A) → is_none o ≡ false → is_some o ≡ true
there None e = absurd (true≢false e)
there (Some x) e = refl

not_empty : (name : Text) → not (is_empty name) ≡ true → is_empty name ≡ false
unfolding is_empty
not_empty [] e = absurd (true≢false (sym e))
not_empty (x ∷ name) e = refl

proper_order : (site : Setup) (row : OrderRow) → is_order row ≡ true → is_none (product_of site row.gtin) ≡ false → IsProperBatch site (planned row)
unfolding is_order
proper_order site row e known =
    let p4 = and_parts _ _ e in
    let p3 = and_parts _ _ p4.0 in
    let p2 = and_parts _ _ p3.0 in
    let p1 = and_parts _ _ p2.0 in
    record {
      name = not_empty row.batch p1.0;
      product = there (product_of site row.gtin) known;
      order = e;
      quantity = p2.1;
    }

all_pass : {A : Type 0} (test : A → Bool) (xs : List A) → list_all test xs ≡ true → Every (λ x. test x ≡ true) xs
all_pass test [] e = tt
all_pass test (x ∷ xs) e = let p = and_parts (test x) (list_all test xs) e in (p.0, all_pass test xs p.1)

-- ---- batches

orders_come : (site : Setup) (w : World) (rows : List OrderRow) → Every (λ (r : OrderRow). is_order r ≡ true) rows → Every (λ (r : OrderRow). is_none (product_of site r.gtin) ≡ false) rows → Every (IsProperBatch site) w.batches
    → Every (IsProperBatch site) (with_orders w rows).batches
unfolding with_orders
orders_come site w rows proper known a =
    Every-append (IsProperBatch site) w.batches (map planned (new_orders (orders_in w) rows)) a
    (Every-map (IsProperBatch site) planned (new_orders (orders_in w) rows)
    (Every-new (λ (r : OrderRow). IsProperBatch site (planned r)) (orders_in w) rows
    (Every-both (λ (r : OrderRow). is_order r ≡ true) (λ (r : OrderRow). is_none (product_of site r.gtin) ≡ false) (λ (r : OrderRow). IsProperBatch site (planned r)) (proper_order site) rows proper known)))

-- a batch with the same order
of_order : (site : Setup) (b b' : Batch) → b'.order ≡ b.order → is_between 1 1000000 b'.quantity ≡ true → IsProperBatch site b → IsProperBatch site b'
of_order site b b' e q p =
    record {
      name = ap (λ (o : OrderRow). is_empty o.batch) e ∙ p.name;
      product = ap (λ (o : OrderRow). is_some (product_of site o.gtin)) e ∙ p.product;
      order = ap is_order e ∙ p.order;
      quantity = q;
    }

in_phase-quantity : (to : Phase) (n : Text) (b : Batch) → (in_phase to n b).quantity ≡ b.quantity
unfolding in_phase
in_phase-quantity to n b = elim (same b.order.batch n) as (λ c. (if c then record b { phase = to } else b).quantity ≡ b.quantity) [ true ↦ refl | false ↦ refl ]

phase_moves : (site : Setup) (w : World) (to : Phase) (n : Text) → Every (IsProperBatch site) w.batches → Every (IsProperBatch site) (with_phase w to n).batches
unfolding with_phase
phase_moves site w to n a =
    Every-map (IsProperBatch site) (in_phase to n) w.batches (Every-weaker (IsProperBatch site) (λ (b : Batch). IsProperBatch site (in_phase to n b))
    (λ b p. of_order site b (in_phase to n b) (in_phase-order to n b) (ap (is_between 1 1000000) (in_phase-quantity to n b) ∙ p.quantity) p) w.batches a)

of_quantity-between : (q : ℕ) (n : Text) (b : Batch) → is_between 1 1000000 q ≡ true → is_between 1 1000000 b.quantity ≡ true → is_between 1 1000000 (of_quantity q n b).quantity ≡ true
unfolding of_quantity
of_quantity-between q n b new old =
    (elim (same b.order.batch n) as (λ c. same b.order.batch n ≡ c → is_between 1 1000000 (of_quantity q n b).quantity ≡ true) [ true ↦ λ e. rw e new | false ↦ λ e. rw e old ]) refl

quantity_moves : (site : Setup) (w : World) (q : ℕ) (n : Text) → is_between 1 1000000 q ≡ true → Every (IsProperBatch site) w.batches → Every (IsProperBatch site) (with_quantity w q n).batches
unfolding with_quantity
quantity_moves site w q n fits a =
    Every-map (IsProperBatch site) (of_quantity q n) w.batches (Every-weaker (IsProperBatch site) (λ (b : Batch). IsProperBatch site (of_quantity q n b))
    (λ b p. of_order site b (of_quantity q n b) (of_quantity-order q n b) (of_quantity-between q n b fits p.quantity) p) w.batches a)

batches_effect : (site : Setup) (w : World) (station : ℕ) (deed : Deed) (drawn : List Text) → NoneOf (map (λ (test : Test). test site w station deed) (rules_of deed)) → IsProperDeed deed
    → Every (IsProperBatch site) w.batches → Every (IsProperBatch site) (effect site w station deed drawn).batches
unfolding NoneOf rules_of on_rows effect order_rows unknown_product with_unit with_mark with_children without_children emptied with_declaration with_rows with_drawn
batches_effect site w station (Order row) drawn p proper a =
    orders_come site w (row ∷ []) (proper, tt) (each_when (λ (r : OrderRow). is_none (product_of site r.gtin)) (λ k. rule.UnknownProduct (k + 1)) (row ∷ []) p.1.0) a
batches_effect site w station (Orders rows) drawn p proper a =
    orders_come site w rows (all_pass is_order rows proper.1) (each_when (λ (r : OrderRow). is_none (product_of site r.gtin)) (λ k. rule.UnknownProduct (k + 1)) rows p.1.0) a
batches_effect site w station (Start name) drawn p proper a = phase_moves site w Started name a
batches_effect site w station (Close name) drawn p proper a = phase_moves site w Closed name a
batches_effect site w station (Amend name quantity) drawn p proper a = quantity_moves site w quantity name proper a
batches_effect site w station deed drawn p proper a = a

-- ---- rows

rows_change : (site : Setup) (w : World) (change : Row → Row) (names : List Epc) → ((row : Row) → IsOfStation site row → IsOfStation site (change row)) → Every (IsOfStation site) w.rows → Every (IsOfStation site) (with_rows w change names).rows
unfolding with_rows rewrite
rows_change site w change names keeps a =
    Every-map (IsOfStation site) (rewrite change names) w.rows (Every-weaker (IsOfStation site) (λ (row : Row). IsOfStation site (rewrite change names row))
    (λ row h. elim (is_among names (name_of row)) as (λ b. IsOfStation site (if b then change row else row)) [ true ↦ keeps row h | false ↦ h ]) w.rows a)

rows_drawn : (site : Setup) (w : World) (n : Text) (serials : List Text) → Every (IsOfStation site) w.rows → Every (IsOfStation site) (with_drawn w n serials).rows
unfolding with_drawn fresh_row IsOfStation
rows_drawn site w n serials a =
    Every-append (IsOfStation site) w.rows (map (fresh_row (gtin_of w n) n) serials) a
    (Every-map (IsOfStation site) (fresh_row (gtin_of w n) n) serials (Every-always (λ (s : Text). IsOfStation site (fresh_row (gtin_of w n) n s)) (λ s line e. absurd (cc)) serials))

lent_here : (site : Setup) (station : ℕ) (row : Row) → station < length site.stations → IsOfStation site (lent_to station row)
unfolding IsOfStation
lent_here site station row here line e = let is : station ≡ line = cc in subst (λ n. n < length site.stations) is here

moved_here : (site : Setup) (deed : Deed) (row : Row) → IsOfStation site row → IsOfStation site (moved_row deed row)
unfolding IsOfStation moved_row
moved_here site deed row h = h

rows_effect : (site : Setup) (w : World) (station : ℕ) (deed : Deed) (drawn : List Text) → station < length site.stations → Every (IsOfStation site) w.rows → Every (IsOfStation site) (effect site w station deed drawn).rows
unfolding effect with_orders with_phase with_quantity with_unit with_mark with_children without_children emptied with_declaration
rows_effect site w station (Draw name count) drawn here a = rows_drawn site w name drawn a
rows_effect site w station (Lend name count) drawn here a = rows_change site w (lent_to station) (map name_of (lent_rows w name count)) (λ row _. lent_here site station row here) a
rows_effect site w station (Order row) drawn here a = a
rows_effect site w station (Orders rows) drawn here a = a
rows_effect site w station (Start name) drawn here a = a
rows_effect site w station (MakeUnit name level) drawn here a = a
rows_effect site w station (Pack unit children) drawn here a = a
rows_effect site w station (Unpack unit children) drawn here a = a
rows_effect site w station (UnpackAll unit) drawn here a = a
rows_effect site w station (Seal unit) drawn here a = a
rows_effect site w station (Unseal unit) drawn here a = a
rows_effect site w station (Void unit) drawn here a = a
rows_effect site w station (Declare name good spoiled returned) drawn here a = a
rows_effect site w station (Close name) drawn here a = a
rows_effect site w station (Amend name quantity) drawn here a = a
rows_effect site w station deed drawn here a = rows_change site w (moved_row deed) (named w deed) (moved_here site deed) a

-- ---- declarations

OfStation : Setup → Declaration → Type 0
OfStation site said = said.line < length site.stations

declared_effect : (site : Setup) (w : World) (station : ℕ) (deed : Deed) (drawn : List Text) → station < length site.stations → Every (λ (said : Declaration). said.line < length site.stations) w.declarations
    → Every (λ (said : Declaration). said.line < length site.stations) (effect site w station deed drawn).declarations
unfolding effect with_orders with_phase with_quantity with_drawn with_rows with_unit with_mark with_children without_children emptied with_declaration
declared_effect site w station (Declare name good spoiled returned) drawn here a = Every-append (λ (said : Declaration). said.line < length site.stations) w.declarations _ a (here, tt)
declared_effect site w station (Order row) drawn here a = a
declared_effect site w station deed drawn here a = a

-- ---- entries

proper_unless : (site : Setup) (w : World) (entry : Entry) (rule : Option Rule) → entry.station < length site.stations → broken site w entry.station entry.deed ≡ rule → IsProperEntry entry → IsProperWorld site w → IsProperWorld site (unless_broken site w entry rule)
unfolding unless_broken
proper_unless site w entry None here e proper s =
    record {
      batches = batches_effect site w entry.station entry.deed entry.drawn (allowed site w entry.station entry.deed e) proper.deed s.batches;
      lines = rows_effect site w entry.station entry.deed entry.drawn here s.lines;
      declared = declared_effect site w entry.station entry.deed entry.drawn here s.declared;
    }
proper_unless site w entry (Some rule) here e proper s = s

pub proper_after : (site : Setup) (history : List Entry) (w : World) (entry : Entry) → MayFollow site history w entry → IsProperEntry entry → IsProperWorld site w → IsProperWorld site (after site w entry)
unfolding after
proper_after site history w entry may proper s = proper_unless site w entry (broken site w entry.station entry.deed) may.station refl proper s

proper_from : (site : Setup) (history : List Entry) (w : World) (entries : List Entry) → AllFollow site history w entries → Every IsProperEntry entries → IsProperWorld site w → IsProperWorld site (world_from site w entries)
unfolding AllFollow world_from
proper_from site history w [] may proper s = s
proper_from site history w (entry ∷ entries) may proper s = proper_from site (history ++ entry ∷ []) (after site w entry) entries may.1 proper.1 (proper_after site history w entry may.0 proper.0 s)

pub proper_of : (site : Setup) (history : List Entry) → IsLawful site history → All IsProperEntry history → IsProperWorld site (world_of site history)
unfolding IsLawful world_of
proper_of site history lawful proper = proper_from site [] nothing_yet history lawful (recursion_from_All IsProperEntry history proper) (record { batches = tt; lines = tt; declared = tt })

-- a name that is found isn't empty
pub none_nameless : (site : Setup) (w : World) → IsProperWorld site w → batch_of w [] ≡ None
unfolding batch_of is_empty
none_nameless site w s =
    let test : Batch → Bool = λ b. same b.order.batch [] in
    (elim (find test w.batches) as (λ o. find test w.batches ≡ o → o ≡ None) [
      | None ↦ λ e. refl
      | Some b ↦ λ e.
          let named : b.order.batch ≡ [] = same-true b.order.batch [] (find_passes test w.batches b e) in
          let some : is_empty b.order.batch ≡ false = (find_Some (IsProperBatch site) test w.batches b e s.batches).name in
          absurd (true≢false (subst (λ (n : Text). is_empty n ≡ false) named some))
    ]) refl
