-- The events of a lawful history of proper entries are proper.
use Rattle.std.proofs.Common.{◌≡◌, ℕ, suc, Bool, true, false, cond, not, List, [], ◌∷◌, ◌++◌, length, map, sym, ◌∙◌, ap, refl, subst, Option, None, Some, true≢false}
use Rattle.std.specs.Prelude.{All, filter, filter_map, find, is_none, is_some, option_map, if◌then◌else◌}
use Rattle.std.specs.Option.{option_map_or}
use Rattle.std.specs.List.{AllByRecursion as Every, list_all, cons_option}
use Rattle.std.proofs.lemmas.Bool.{and_parts}
use Rattle.std.proofs.lemmas.List.Elements.{All-from_recursion, recursion_from_All, filter_map-append}
use Rattle.epc_urn.specs.declared.epc.Epc.{Epc}
use Rattle.epc_urn.specs.declared.epc.Epc.TheVariants.{Item, Unit as Box}
use Rattle.epc_urn.specs.Urns.{IsPrefixLength}
use Rattle.gs1_keys.proofs.Known.{between}
use Rattle.gs1_keys.specs.Keys.{is_between}
use Rattle.gs1_element.specs.Dates.{is_expiry}
use Rattle.gs1_element.specs.declared.code.Code.{Code}
use Rattle.deed_words.specs.declared.entry.Entry.{Entry}
use Rattle.deed_words.specs.declared.entry.Move.{Move}
use Rattle.deed_words.specs.declared.rule.Rule.{Rule}
use Rattle.deed_words.specs.declared.rule.Rule.TheVariants as rule
use Rattle.deed_words.specs.declared.deed.OrderRow.{OrderRow}
use Rattle.deed_words.specs.declared.deed.Deed.{Deed}
use Rattle.deed_words.specs.declared.deed.Deed.TheVariants.{Order, Orders, Start, Commission, Sample, Reject, Reinstate, Destroy, Decommission, Container as MakeUnit, Pack, Unpack, UnpackAll, Void, Close, Amend}
use Rattle.deed_words.specs.declared.setup.Product.{Product}
use Rattle.deed_words.specs.declared.words.Phase.TheVariants.{Started, Closed}
use Rattle.deed_words.specs.declared.world.Batch.{Batch}
use Rattle.deed_words.specs.declared.world.Row.{Row}
use Rattle.deed_words.specs.declared.world.Container.{Container}
use Rattle.deed_words.specs.declared.world.Pair.{Pair}
use Rattle.deed_words.specs.Proper.{is_order, IsProperEntry, IsProperDeed}
use Rattle.deed_words.specs.Setups.{Setup, IsProper, product_of, is_product}
use Rattle.deed_words.specs.Names.{Text, same, same_name}
use Rattle.deed_words.specs.Chain.{holds_of, is_empty}
use Rattle.deed_words.specs.Orders.{planned, new_orders, orders_in}
use Rattle.deed_words.specs.World.{World, nothing_yet, row_of, batch_of, parent, inside, name_of}
use Rattle.deed_words.specs.Deeds.{named, batch_for, item_of, unit_named}
use Rattle.deed_words.specs.Tests.{Test, unknown_serial, is_known, not_child}
use Rattle.deed_words.specs.Rules.{broken, rules_of, on_rows}
use Rattle.deed_words.specs.Effects.{effect, with_orders, in_phase, with_phase, of_quantity, with_quantity, with_drawn, with_rows, with_unit, with_mark, with_children, without_children, emptied, with_declaration}
use Rattle.deed_words.specs.Replies.{after, unless_broken}
use Rattle.deed_words.specs.History.{AllFollow, IsLawful}
use Rattle.deed_words.specs.Sound.{IsSound, HasBatch, MayStandIn, StandsRightly}
use Rattle.deed_words.proofs.Sameness.{same_name-true}
use Rattle.deed_words.proofs.Items.{Every-append, Every-weaker, Every-map, Every-filter, find_Some, find_passes}
use Rattle.deed_words.proofs.Broken.{each_when}
use Rattle.deed_words.proofs.Allowed.{NoneOf, allowed, is_there_too}
use Rattle.deed_words.proofs.Soundness.{sound_after, sound_nothing, nots}
use Rattle.deed_words.proofs.OrdersAgain.{OfProduct, products_unless, Every-new}
use Rattle.deed_words.proofs.SoundBatches.{in_phase-order}
use Rattle.deed_words.proofs.OrdersKept.{of_quantity-order}
use Rattle.epcis_events.specs.declared.event.Event.{Event}
use Rattle.epcis_events.specs.declared.event.Kind.{Kind}
use Rattle.deed_words.specs.Happenings.{has_event, things_of, holder_of, move_of, listed, moved_by, moves_from, moves, moves_of}
use Rattle.epcis_events.specs.Events.{kind_of, length_of, written_in, told_of, event_in, event_of, events, events_of}
use Rattle.epcis_events.specs.Documents.{IsInTime, IsProperEvent}

-- dates of orders

abbrev Dated : Batch → Type 0
Dated batch = is_expiry batch.order.expiry ≡ true

order_dated : (row : OrderRow) → is_order row ≡ true → is_expiry row.expiry ≡ true
unfolding is_order
order_dated row e = (and_parts (not (is_empty row.batch)) (is_expiry row.expiry) (and_parts _ _ (and_parts _ _ (and_parts _ _ e).0).0).0).1

all_every : {A : Type 0} (test : A → Bool) (xs : List A) → list_all test xs ≡ true → Every (λ x. test x ≡ true) xs
all_every test [] e = tt
all_every test (x ∷ xs) e = let p = and_parts (test x) (list_all test xs) e in (p.0, all_every test xs p.1)

dated_kept : (f : Batch → Batch) → ((b : Batch) → (f b).order ≡ b.order) → (bs : List Batch) → Every Dated bs → Every Dated (map f bs)
dated_kept f keeps bs a = Every-map Dated f bs (Every-weaker Dated (λ (b : Batch). Dated (f b)) (λ b h. ap (λ (o : OrderRow). is_expiry o.expiry) (keeps b) ∙ h) bs a)

dated_added : (w : World) (rows : List OrderRow) → Every (λ (row : OrderRow). is_expiry row.expiry ≡ true) rows → Every Dated w.batches → Every Dated (with_orders w rows).batches
unfolding with_orders
dated_added w rows dates a = Every-append Dated w.batches (map planned (new_orders (orders_in w) rows)) a (Every-map Dated planned (new_orders (orders_in w) rows) (Every-new (λ (r : OrderRow). is_expiry r.expiry ≡ true) (orders_in w) rows dates))

dated_effect : (site : Setup) (w : World) (station : ℕ) (deed : Deed) (drawn : List Text) → IsProperDeed deed → Every Dated w.batches → Every Dated (effect site w station deed drawn).batches
unfolding effect with_phase with_quantity with_unit with_mark with_children without_children emptied with_declaration with_rows with_drawn
dated_effect site w station (Order row) drawn p a = dated_added w (row ∷ []) (order_dated row p, tt) a
dated_effect site w station (Orders rows) drawn p a = dated_added w rows (Every-weaker (λ (r : OrderRow). is_order r ≡ true) (λ (r : OrderRow). is_expiry r.expiry ≡ true) order_dated rows (all_every is_order rows p.1)) a
dated_effect site w station (Start name) drawn p a = dated_kept (in_phase Started name) (in_phase-order Started name) w.batches a
dated_effect site w station (Close name) drawn p a = dated_kept (in_phase Closed name) (in_phase-order Closed name) w.batches a
dated_effect site w station (Amend name quantity) drawn p a = dated_kept (of_quantity quantity name) (of_quantity-order quantity name) w.batches a
dated_effect site w station deed drawn p a = a

dated_unless : (site : Setup) (w : World) (entry : Entry) (rule : Option Rule) → IsProperDeed entry.deed → Every Dated w.batches → Every Dated (unless_broken site w entry rule).batches
unfolding unless_broken
dated_unless site w entry None p a = dated_effect site w entry.station entry.deed entry.drawn p a
dated_unless site w entry (Some rule) p a = a

-- the things of a move are known

unfoldable Known : World → Epc → Type 0
Known w (Item gtin serial) = is_some (row_of w gtin serial) ≡ true
Known w (Box sscc) = Unit {0}

known_of : (w : World) (deed : Deed) (f : (c : Epc) → is_known w deed c ≡ true → Known w c) (names : List Epc) → Every (λ (c : Epc). not (is_known w deed c) ≡ false) names → Every (Known w) names
known_of w deed f names a = Every-weaker (λ (c : Epc). is_known w deed c ≡ true) (Known w) f names (nots (is_known w deed) names a)

-- what stands in something
may_known : (w : World) (unit : Container) (c : Epc) → MayStandIn w unit c → Known w c
unfolding MayStandIn Known
may_known w unit (Item gtin serial) m = ap is_some m.1
may_known w unit (Box sscc) m = tt

stands_known : (w : World) (pair : Pair) → StandsRightly w pair → Known w pair.child
unfolding StandsRightly
stands_known w pair stands = may_known w stands.0 pair.child stands.3

inside_known : (site : Setup) (w : World) (unit : Text) → IsSound site w → Every (Known w) (inside w unit)
unfolding inside
inside_known site w unit s =
    Every-map (Known w) (λ (p : Pair). p.child) (filter (λ (p : Pair). same p.parent unit) w.pairs) (Every-filter (λ (p : Pair). Known w p.child) (λ (p : Pair). same p.parent unit) w.pairs (Every-weaker (StandsRightly w) (λ (p : Pair). Known w p.child) (stands_known w) w.pairs s.packed))

pair_of : (test : Text → Bool) (o : Option Pair) → holds_of test (option_map (λ (p : Pair). p.parent) o) ≡ true → (p : Pair) × (o ≡ Some p)
unfolding holds_of
pair_of test None e = absurd (true≢false (sym e))
pair_of test (Some p) e = (p, refl)

child_known : (site : Setup) (w : World) (unit : Text) (c : Epc) → IsSound site w → holds_of (same unit) (parent w c) ≡ true → Known w c
unfolding parent
child_known site w unit c s h =
    let p = pair_of (same unit) (find (λ (q : Pair). same_name q.child c) w.pairs) h in
    let is : p.0.child ≡ c = same_name-true p.0.child c (find_passes (λ (q : Pair). same_name q.child c) w.pairs p.0 p.1) in
    subst (Known w) is (find_Some (λ (q : Pair). Known w q.child) (λ (q : Pair). same_name q.child c) w.pairs p.0 p.1 (Every-weaker (StandsRightly w) (λ (q : Pair). Known w q.child) (stands_known w) w.pairs s.packed))

abbrev NoneBroken : Setup → World → ℕ → Deed → Type 0
NoneBroken site w station deed = NoneOf (map (λ (test : Test). test site w station deed) (rules_of deed))

know_commission : (w : World) (name : Text) (codes : List Code) (c : Epc) → is_known w (Commission name codes) c ≡ true → Known w c
unfolding is_known Known
know_commission w name codes (Item g n) e = e
know_commission w name codes (Box u) e = tt

know_sample : (w : World) (name : Text) (items : List Epc) (c : Epc) → is_known w (Sample name items) c ≡ true → Known w c
unfolding is_known Known
know_sample w name items (Item g n) e = e
know_sample w name items (Box u) e = tt

know_reject : (w : World) (name : Text) (items : List Epc) (c : Epc) → is_known w (Reject name items) c ≡ true → Known w c
unfolding is_known Known
know_reject w name items (Item g n) e = e
know_reject w name items (Box u) e = tt

know_reinstate : (w : World) (name : Text) (items : List Epc) (c : Epc) → is_known w (Reinstate name items) c ≡ true → Known w c
unfolding is_known Known
know_reinstate w name items (Item g n) e = e
know_reinstate w name items (Box u) e = tt

know_destroy : (w : World) (name : Text) (items : List Epc) (c : Epc) → is_known w (Destroy name items) c ≡ true → Known w c
unfolding is_known Known
know_destroy w name items (Item g n) e = e
know_destroy w name items (Box u) e = tt

know_decommission : (w : World) (name : Text) (items : List Epc) (c : Epc) → is_known w (Decommission name items) c ≡ true → Known w c
unfolding is_known Known
know_decommission w name items (Item g n) e = e
know_decommission w name items (Box u) e = tt

know_pack : (w : World) (unit : Text) (children : List Epc) (c : Epc) → is_known w (Pack unit children) c ≡ true → Known w c
unfolding is_known Known
know_pack w unit children (Item g n) e = e
know_pack w unit children (Box u) e = tt

known_things : (site : Setup) (w : World) (station : ℕ) (deed : Deed) → NoneBroken site w station deed → IsSound site w → has_event deed ≡ true → Every (Known w) (things_of site w deed)
unfolding NoneOf rules_of on_rows unknown_serial not_child named unit_named things_of has_event Known
known_things site w station (Commission name codes) p s h = known_of w (Commission name codes) (know_commission w name codes) (map item_of codes) (each_when (λ (c : Epc). not (is_known w (Commission name codes) c)) rule.UnknownSerial (map item_of codes) p.1.1.1.1.1.1.0)
known_things site w station (Sample name items) p s h = known_of w (Sample name items) (know_sample w name items) items (each_when (λ (c : Epc). not (is_known w (Sample name items) c)) rule.UnknownSerial items p.1.1.1.1.1.1.0)
known_things site w station (Reject name items) p s h = known_of w (Reject name items) (know_reject w name items) items (each_when (λ (c : Epc). not (is_known w (Reject name items) c)) rule.UnknownSerial items p.1.1.1.1.1.1.0)
known_things site w station (Reinstate name items) p s h = known_of w (Reinstate name items) (know_reinstate w name items) items (each_when (λ (c : Epc). not (is_known w (Reinstate name items) c)) rule.UnknownSerial items p.1.1.1.1.1.1.0)
known_things site w station (Destroy name items) p s h = known_of w (Destroy name items) (know_destroy w name items) items (each_when (λ (c : Epc). not (is_known w (Destroy name items) c)) rule.UnknownSerial items p.1.1.1.1.1.1.0)
known_things site w station (Decommission name items) p s h = known_of w (Decommission name items) (know_decommission w name items) items (each_when (λ (c : Epc). not (is_known w (Decommission name items) c)) rule.UnknownSerial items p.1.1.1.1.1.1.0)
known_things site w station (MakeUnit name level) p s h = (tt, tt)
known_things site w station (Pack unit children) p s h = known_of w (Pack unit children) (know_pack w unit children) children (each_when (λ (c : Epc). not (is_known w (Pack unit children) c)) rule.UnknownSerial children p.1.1.1.1.1.1.1.0)
known_things site w station (Unpack unit children) p s h =
    Every-weaker (λ (c : Epc). holds_of (same unit) (parent w c) ≡ true) (Known w) (λ c e. child_known site w unit c s e) children
    (nots (λ (c : Epc). holds_of (same unit) (parent w c)) children (each_when (λ (c : Epc). not (holds_of (same unit) (parent w c))) rule.NotChild children p.1.1.1.1.1.1.1.0))
known_things site w station (UnpackAll unit) p s h = inside_known site w unit s
known_things site w station (Void unit) p s h = (tt, tt)
known_things site w station deed p s h = absurd (true≢false (sym h))

-- and so are their products

product_found : (o : Option Product) → is_none o ≡ false → (product : Product) × (o ≡ Some product)
product_found None e = absurd (true≢false e)
product_found (Some product) e = (product, refl)

product_length : (site : Setup) (gtin : Text) → IsProper site → is_none (product_of site gtin) ≡ false → IsPrefixLength (option_map_or (λ (p : Product). p.prefix_length) (product_of site gtin) 0)
unfolding product_of is_product
product_length site gtin proper known =
    let p = product_found (product_of site gtin) known in
    let fits : is_product p.0 ≡ true = find_Some (λ (x : Product). is_product x ≡ true) (λ (x : Product). same x.gtin gtin) site.products p.0 p.1 (all_every is_product site.products proper.products) in
    let range = between 6 12 p.0.prefix_length (and_parts (is_between 6 12 p.0.prefix_length) _ fits).0 in
    subst IsPrefixLength (sym (ap (λ (o : Option Product). option_map_or (λ (x : Product). x.prefix_length) o 0) p.1)) range

row_product : (site : Setup) (w : World) (row : Row) → Every (OfProduct site) w.batches → HasBatch w row → is_none (product_of site row.gtin) ≡ false
unfolding HasBatch OfProduct batch_of
row_product site w row products b =
    ap (λ (g : Text). is_none (product_of site g)) (sym b.2) ∙ find_Some (λ (x : Batch). is_none (product_of site x.order.gtin) ≡ false) (λ (x : Batch). same x.order.batch row.batch) w.batches b.0 b.1 products

gtin_same : (g n g' n' : Text) → Item g n ≡ Item g' n' → g ≡ g'
gtin_same g n g' n' e = cc

written_right : (site : Setup) (w : World) (c : Epc) → IsProper site → IsPrefixLength (length site.prefix) → IsSound site w → Every (OfProduct site) w.batches → Known w c → IsPrefixLength (length_of site c)
unfolding length_of Known row_of
written_right site w (Item gtin serial) proper own s products known =
    let row = is_there_too (row_of w gtin serial) known in
    let test : Row → Bool = λ r. same_name (name_of r) (Item gtin serial) in
    let is : row.0.gtin ≡ gtin = gtin_same row.0.gtin row.0.serial gtin serial (same_name-true (name_of row.0) (Item gtin serial) (find_passes test w.rows row.0 row.1)) in
    let of_batch : HasBatch w row.0 = find_Some (HasBatch w) test w.rows row.0 row.1 s.of_a_batch in
    product_length site gtin proper (subst (λ (g : Text). is_none (product_of site g) ≡ false) is (row_product site w row.0 products of_batch))
written_right site w (Box sscc) proper own s products known = own

-- the event of a move

parented : (deed : Deed) (kind : Kind) → kind_of deed ≡ Some kind → is_some (holder_of deed) ≡ kind.aggregation
unfolding kind_of holder_of
parented deed kind e = same_kind (kind_of deed) kind e (holds deed)
  where
    holds : (d : Deed) → option_map_or (λ (k : Kind). k.aggregation) (kind_of d) false ≡ is_some (holder_of d)
    holds (Commission name codes) = refl
    holds d = refl

    same_kind : (o : Option Kind) (k : Kind) → o ≡ Some k → option_map_or (λ (x : Kind). x.aggregation) o false ≡ is_some (holder_of deed) → is_some (holder_of deed) ≡ k.aggregation
    same_kind o k is h = sym h ∙ ap (λ (x : Option Kind). option_map_or (λ (y : Kind). y.aggregation) x false) is

some_parent : (o : Option Text) (size : ℕ) → is_some {T = Text × ℕ} (option_map (λ (sscc : Text). (sscc, size)) o) ≡ is_some o
some_parent None size = refl
some_parent (Some sscc) size = refl

parent_length : (o : Option Text) (size : ℕ) → IsPrefixLength size → (x : Text × ℕ) → option_map (λ (sscc : Text). (sscc, size)) o ≡ Some x → IsPrefixLength x.1
parent_length None size own x e = absurd cc
parent_length (Some sscc) size own x e = let is : size ≡ x.1 = cc in subst IsPrefixLength is own

told_dated : (deed : Deed) (row : OrderRow) → is_expiry row.expiry ≡ true → (x : Text × List ℕ) → told_of deed row ≡ Some x → is_expiry x.1 ≡ true
unfolding told_of
told_dated (Commission name codes) row dated x e = let is : row.expiry ≡ x.1 = cc in subst (λ (t : List ℕ). is_expiry t ≡ true) is dated
told_dated deed row dated x e = absurd cc

written_all : (site : Setup) (w : World) (names : List Epc) → IsProper site → IsPrefixLength (length site.prefix) → IsSound site w → Every (OfProduct site) w.batches → Every (Known w) names → Every (λ (named : Epc × ℕ). IsPrefixLength named.1) (map (written_in site) names)
unfolding written_in
written_all site w names proper own s products known = Every-map (λ (named : Epc × ℕ). IsPrefixLength named.1) (written_in site) names (Every-weaker (Known w) (λ (c : Epc). IsPrefixLength (length_of site c)) (λ c k. written_right site w c proper own s products k) names known)

event_proper : (site : Setup) (w : World) (place : ℕ) (entry : Entry) (batch : Batch) (kind : Kind) → IsProper site → IsPrefixLength (length site.prefix) → IsSound site w → Every (OfProduct site) w.batches
    → Dated batch → IsInTime entry.stamp → Every (Known w) (things_of site w entry.deed) → kind_of entry.deed ≡ Some kind → IsProperEvent (event_in site (move_of site w place entry batch) kind)
unfolding event_in move_of
event_proper site w place entry batch kind proper own s products dated time known e =
    record {
      names = All-from_recursion (λ (named : Epc × ℕ). IsPrefixLength named.1) (map (written_in site) (things_of site w entry.deed)) (written_all site w (things_of site w entry.deed) proper own s products known);
      parent = parent_length (holder_of entry.deed) (length site.prefix) own;
      parented = some_parent (holder_of entry.deed) (length site.prefix) ∙ parented entry.deed kind e;
      place = own;
      time = time;
      offset = proper.offset;
      ilmd = told_dated entry.deed batch.order dated;
    }

-- the events of a history

listed_proper : (site : Setup) (w : World) (place : ℕ) (entry : Entry) (o : Option Batch) (kind : Option Kind) → kind_of entry.deed ≡ kind → ((batch : Batch) → o ≡ Some batch → Dated batch)
    → ((batch : Batch) (k : Kind) → Dated batch → kind_of entry.deed ≡ Some k → IsProperEvent (event_in site (move_of site w place entry batch) k))
    → Every IsProperEvent (filter_map (event_of site) (listed (option_map (move_of site w place entry) o)))
unfolding listed event_of kind_of move_of
listed_proper site w place entry None kind e dated f = tt
listed_proper site w place entry (Some batch) None e dated f = rw e tt
listed_proper site w place entry (Some batch) (Some k) e dated f =
    let proper : IsProperEvent (event_in site (move_of site w place entry batch) k) = f batch k (dated batch refl) e in
    subst (λ (o : Option Kind). Every IsProperEvent (filter_map (λ (m : Move). option_map (event_in site m) (kind_of m.kept.deed)) (move_of site w place entry batch ∷ []))) e
    (rw e (proper, tt))

batch_dated : (w : World) (deed : Deed) → Every Dated w.batches → (batch : Batch) → batch_for w deed ≡ Some batch → Dated batch
unfolding batch_for batch_of
batch_dated w deed a batch e = find_Some Dated (λ (b : Batch). same b.order.batch _) w.batches batch e a

moved_proper : (site : Setup) (w : World) (place : ℕ) (entry : Entry) (rule : Option Rule) → broken site w entry.station entry.deed ≡ rule → IsProper site → IsPrefixLength (length site.prefix) → IsSound site w → Every (OfProduct site) w.batches → Every Dated w.batches → IsInTime entry.stamp
    → Every IsProperEvent (filter_map (event_of site) (moved_by site w place entry rule))
unfolding moved_by
moved_proper site w place entry (Some rule) e proper own s products dated time = tt
moved_proper site w place entry None e proper own s products dated time =
    (elim (has_event entry.deed) as (λ b. has_event entry.deed ≡ b → Every IsProperEvent (filter_map (event_of site) (if b then listed (option_map (move_of site w place entry) (batch_for w entry.deed)) else []))) [
      | true ↦ λ h.
          let known = known_things site w entry.station entry.deed (allowed site w entry.station entry.deed e) s h in
          listed_proper site w place entry (batch_for w entry.deed) (kind_of entry.deed) refl (batch_dated w entry.deed dated)
          (λ batch k d is. event_proper site w place entry batch k proper own s products d time known is)
      | false ↦ λ h. tt
    ]) refl

proper_from : (site : Setup) (history : List Entry) (w : World) (place : ℕ) (entries : List Entry) → IsProper site → IsPrefixLength (length site.prefix) → AllFollow site history w entries → Every IsProperEntry entries
    → IsSound site w → Every (OfProduct site) w.batches → Every Dated w.batches → Every IsProperEvent (filter_map (event_of site) (moves_from site w place entries))
unfolding AllFollow moves_from after
proper_from site history w place [] proper own lawful entries s products dated = tt
proper_from site history w place (entry ∷ more) proper own lawful entries s products dated =
    let rule : Option Rule = broken site w entry.station entry.deed in
    let first : List Move = moved_by site w place entry rule in
    let later : List Move = moves_from site (after site w entry) (suc place) more in
    subst (Every IsProperEvent) (sym (filter_map-append (event_of site) first later))
    (Every-append IsProperEvent (filter_map (event_of site) first) (filter_map (event_of site) later)
    (moved_proper site w place entry rule refl proper own s products dated entries.0.stamp)
    (proper_from site (history ++ entry ∷ []) (after site w entry) (suc place) more proper own lawful.1 entries.1 (sound_after site history w entry lawful.0 s)
    (products_unless site w entry rule refl products) (dated_unless site w entry rule entries.0.deed dated)))

proper_of : (site : Setup) (history : List Entry) → IsProper site → IsLawful site history → All IsProperEntry history → Every IsProperEvent (events site history)
unfolding IsLawful events moves
proper_of site history proper lawful entries = proper_from site [] nothing_yet 0 history proper proper.prefix lawful (recursion_from_All IsProperEntry history entries) (sound_nothing site proper) tt tt

pub proper_events : (site : Setup) (history : List Entry) → IsProper site → IsLawful site history → All IsProperEntry history → All IsProperEvent (events site history)
proper_events site history proper lawful entries = All-from_recursion IsProperEvent (events site history) (proper_of site history proper lawful entries)

-- and those of a batch

without_one : (o : Option Event) (xs : List Event) → Every IsProperEvent (cons_option o xs) → Every IsProperEvent xs
without_one None xs a = a
without_one (Some event) xs a = a.1

with_one : (o : Option Event) (xs ys : List Event) → Every IsProperEvent (cons_option o xs) → Every IsProperEvent ys → Every IsProperEvent (cons_option o ys)
with_one None xs ys a b = b
with_one (Some event) xs ys a b = (a.0, b)

chosen_proper : (site : Setup) (test : Move → Bool) (some : List Move) → Every IsProperEvent (filter_map (event_of site) some) → Every IsProperEvent (filter_map (event_of site) (filter test some))
chosen_proper site test [] a = tt
chosen_proper site test (moved ∷ more) a =
    let later = chosen_proper site test more (without_one (event_of site moved) (filter_map (event_of site) more) a) in
    elim (test moved) as (λ b. Every IsProperEvent (filter_map (event_of site) (cond b (moved ∷ filter test more) (filter test more)))) [
      | true ↦ with_one (event_of site moved) (filter_map (event_of site) more) (filter_map (event_of site) (filter test more)) a later
      | false ↦ later
    ]

pub proper_of_batch : (site : Setup) (history : List Entry) (name : Text) → IsProper site → IsLawful site history → All IsProperEntry history → All IsProperEvent (events_of site history name)
unfolding events events_of moves_of
proper_of_batch site history name proper lawful entries =
    All-from_recursion IsProperEvent (events_of site history name) (chosen_proper site (λ (m : Move). same m.row.batch name) (moves site history) (proper_of site history proper lawful entries))
