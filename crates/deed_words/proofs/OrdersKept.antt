-- A batch keeps the order as it was first accepted, so the same orders again change nothing.
use Rattle.std.proofs.Common.{◌≡◌, ℕ, zero, suc, ◌+◌, ◌<◌, Bool, true, false, cond, ◌||◌, not, List, [], ◌∷◌, ◌++◌, length, map, sym, ◌∙◌, ap, refl, subst, arith, Option, None, Some, append_assoc, append-nil, true≢false}
use Rattle.std.specs.Prelude.{if◌then◌else◌, find, option_map, is_some, slice_index_or}
use Rattle.std.specs.List.{AllByRecursion as Every, list_any}
use Rattle.std.specs.Option.{option_or}
use Rattle.std.proofs.lemmas.Bool.{and_parts, eqb-true}
use Rattle.std.proofs.lemmas.List.{map-append}
use Rattle.std.proofs.lemmas.List.Folds.{find-append}
use Rattle.deed_words.specs.Names.{Text, same, same_order}
use Rattle.deed_words.specs.Setups.{Setup, IsForPlanner, IsProper}
use Rattle.deed_words.specs.declared.entry.Entry.{Entry}
use Rattle.deed_words.specs.declared.deed.OrderRow.{OrderRow}
use Rattle.deed_words.specs.declared.rule.Rule.{Rule}
use Rattle.deed_words.specs.declared.rule.Rule.TheVariants as rule
use Rattle.deed_words.specs.declared.deed.Deed.{Deed}
use Rattle.deed_words.specs.declared.deed.Deed.TheVariants.{Order, Orders, Start, Close, Amend}
use Rattle.deed_words.specs.declared.words.Phase.TheVariants.{Started, Closed}
use Rattle.deed_words.specs.declared.world.Batch.{Batch}
use Rattle.deed_words.specs.declared.reply.Reply.TheVariants.{Accepted}
use Rattle.deed_words.specs.declared.reply.Answer.TheVariants as told
use Rattle.deed_words.specs.Chain.{holds_of}
use Rattle.deed_words.specs.World.{World, nothing_yet, batch_of}
use Rattle.deed_words.specs.Deeds.{order_rows}
use Rattle.deed_words.specs.Orders.{planned, is_ordered, new_orders, orders_in, conflicts}
use Rattle.deed_words.specs.Tests.{Test, unknown_product, order_conflict}
use Rattle.deed_words.specs.Rules.{broken, rules_of, on_rows}
use Rattle.deed_words.specs.Effects.{effect, with_orders, in_phase, with_phase, of_quantity, with_quantity, with_drawn, with_rows, with_unit, with_mark, with_children, without_children, emptied, with_declaration}
use Rattle.deed_words.specs.Replies.{after, unless_broken, reply_to}
use Rattle.deed_words.specs.Walk.{steps_from}
use Rattle.deed_words.specs.History.{world_from, world_of, IsLawful}
use Rattle.deed_words.specs.Once.{if_accepted, ordered_by, issued_from, all_ordered, WasOrdered}
use Rattle.deed_words.proofs.Sameness.{same-true, same-itself}
use Rattle.deed_words.proofs.Items.{Every-append, Every-weaker, Every-both, find-more, find-map}
use Rattle.deed_words.proofs.Broken.{each_when}
use Rattle.deed_words.proofs.Allowed.{NoneOf, allowed, is_there_too, not_false}
use Rattle.deed_words.proofs.SoundBatches.{in_phase-order}
use Rattle.deed_words.proofs.OrdersAgain.{WasAccepted, find-order, orders_again}

pub same_order-true : (a b : OrderRow) → same_order a b ≡ true → a ≡ b
unfolding same_order
same_order-true a b e =
    let p6 = and_parts _ _ e in
    let p5 = and_parts _ _ p6.0 in
    let p4 = and_parts _ _ p5.0 in
    let p3 = and_parts _ _ p4.0 in
    let p2 = and_parts _ _ p3.0 in
    let p1 = and_parts _ _ p2.0 in
    let e0 : a.batch ≡ b.batch = same-true a.batch b.batch p1.0 in
    let e1 : a.gtin ≡ b.gtin = same-true a.gtin b.gtin p1.1 in
    let e2 : a.lot ≡ b.lot = same-true a.lot b.lot p2.1 in
    let e3 : a.expiry ≡ b.expiry = same-true a.expiry b.expiry p3.1 in
    let e4 : a.quantity ≡ b.quantity = eqb-true a.quantity b.quantity p4.1 in
    let e5 : a.case_size ≡ b.case_size = eqb-true a.case_size b.case_size p5.1 in
    let e6 : a.pallet_size ≡ b.pallet_size = eqb-true a.pallet_size b.pallet_size p6.1 in
    ap (λ (t : Text). record a { batch = t }) e0
    ∙ ap (λ (t : Text). record a { batch = b.batch; gtin = t }) e1
    ∙ ap (λ (t : Text). record a { batch = b.batch; gtin = b.gtin; lot = t }) e2
    ∙ ap (λ (t : Text). record a { batch = b.batch; gtin = b.gtin; lot = b.lot; expiry = t }) e3
    ∙ ap (λ (n : ℕ). record b { quantity = n; case_size = a.case_size; pallet_size = a.pallet_size }) e4
    ∙ ap (λ (n : ℕ). record b { case_size = n; pallet_size = a.pallet_size }) e5
    ∙ ap (λ (n : ℕ). record b { pallet_size = n }) e6

-- ---- which orders stand after some more came

abbrev is_of : Text → OrderRow → Bool
is_of n order = same order.batch n

any_some : (orders : List OrderRow) (n : Text) → list_any (is_of n) orders ≡ true → is_some (find (is_of n) orders) ≡ true
any_some [] n e = absurd (true≢false (sym e))
any_some (x ∷ orders) n e =
    (elim (same x.batch n) as (λ t. (t || list_any (is_of n) orders) ≡ true → is_some (cond t (Some x) (find (is_of n) orders)) ≡ true) [ true ↦ λ _. refl | false ↦ λ h. any_some orders n h ]) e

found_anyway : {A : Type 0} (o other : Option A) → is_some o ≡ true → option_or o other ≡ o
found_anyway None other e = absurd (true≢false (sym e))
found_anyway (Some x) other e = refl

-- a row of a batch that was ordered is never the first of its batch
never_first : (orders rows : List OrderRow) (row : OrderRow) (n : Text) → is_ordered orders row.batch ≡ true → find (is_of n) (orders ++ rows) ≡ find (is_of n) (orders ++ row ∷ rows)
unfolding is_ordered
never_first orders rows row n e =
    find-append (is_of n) orders rows
    ∙ (elim (same row.batch n) as (λ t. same row.batch n ≡ t → option_or (find (is_of n) orders) (find (is_of n) rows) ≡ option_or (find (is_of n) orders) (cond t (Some row) (find (is_of n) rows))) [
      | true ↦ λ t.
          let some : is_some (find (is_of n) orders) ≡ true = any_some orders n (subst (λ (m : Text). list_any (is_of m) orders ≡ true) (same-true row.batch n t) e) in
          found_anyway (find (is_of n) orders) (find (is_of n) rows) some ∙ sym (found_anyway (find (is_of n) orders) (Some row) some)
      | false ↦ λ t. refl
    ]) refl
    ∙ sym (find-append (is_of n) orders (row ∷ rows))

-- of each batch the first order stands
first_come : (orders rows : List OrderRow) (n : Text) → find (is_of n) (orders ++ new_orders orders rows) ≡ find (is_of n) (orders ++ rows)
unfolding new_orders
first_come orders [] n = refl
first_come orders (row ∷ rows) n =
    (elim (is_ordered orders row.batch) as (λ b. is_ordered orders row.batch ≡ b → find (is_of n) (orders ++ (if b then new_orders orders rows else row ∷ new_orders (orders ++ row ∷ []) rows)) ≡ find (is_of n) (orders ++ row ∷ rows)) [
      | true ↦ λ e. first_come orders rows n ∙ never_first orders rows row n e
      | false ↦ λ e.
          ap (find (is_of n)) (sym (append_assoc orders (row ∷ []) (new_orders (orders ++ row ∷ []) rows))) ∙ first_come (orders ++ row ∷ []) rows n ∙ ap (find (is_of n)) (append_assoc orders (row ∷ []) rows)
    ]) refl

found_here : (front rows : List OrderRow) (row : OrderRow) → is_some (find (is_of row.batch) (front ++ row ∷ rows)) ≡ true
found_here [] rows row = ap (λ t. is_some (cond t (Some row) (find (is_of row.batch) rows))) (same-itself row.batch)
found_here (x ∷ front) rows row =
    elim (same x.batch row.batch) as (λ t. is_some (cond t (Some x) (find (is_of row.batch) (front ++ row ∷ rows))) ≡ true) [ true ↦ refl | false ↦ found_here front rows row ]

each_found : (front rows : List OrderRow) → Every (λ (r : OrderRow). is_some (find (is_of r.batch) (front ++ rows)) ≡ true) rows
each_found front [] = tt
each_found front (row ∷ rows) =
    (found_here front rows row, subst (λ (os : List OrderRow). Every (λ (r : OrderRow). is_some (find (is_of r.batch) os) ≡ true) rows) (append_assoc front (row ∷ []) rows) (each_found (front ++ row ∷ []) rows))

-- where no row conflicts, each is the first of its batch
first_itself : (orders : List OrderRow) (row : OrderRow) → is_some (find (is_of row.batch) orders) ≡ true → conflicts orders row ≡ false → find (is_of row.batch) orders ≡ Some row
unfolding conflicts holds_of
first_itself orders row some none =
    let there = is_there_too (find (is_of row.batch) orders) some in
    let agrees : not (same_order there.0 row) ≡ false = sym (ap (holds_of (λ (o : OrderRow). not (same_order o row))) there.1) ∙ none in
    there.1 ∙ ap Some (same_order-true there.0 row (not_false (same_order there.0 row) agrees))

order-planned : (rows : List OrderRow) → map (λ (b : Batch). b.order) (map planned rows) ≡ rows
order-planned [] = refl
order-planned (r ∷ rows) = ap (λ (rs : List OrderRow). r ∷ rs) (order-planned rows)

-- the batch of an order that stands
accepted_from : (w : World) (row : OrderRow) → find (is_of row.batch) (orders_in w) ≡ Some row → WasAccepted w row
unfolding WasAccepted batch_of orders_in
accepted_from w row e =
    (elim (find (λ (b : Batch). same b.order.batch row.batch) w.batches) as (λ o. option_map (λ (b : Batch). b.order) o ≡ Some row → (batch : Batch) × (o ≡ Some batch) × (batch.order ≡ row)) [
      | None ↦ λ f. absurd (cc)
      | Some b ↦ λ f. let is : b.order ≡ row = cc in (b, refl, is)
    ]) (sym (find-order w.batches row.batch) ∙ e)

-- orders that are accepted stand
rows_accepted : (w : World) (rows : List OrderRow) → Every (λ (r : OrderRow). conflicts (orders_in w ++ rows) r ≡ false) rows → Every (WasAccepted (with_orders w rows)) rows
unfolding with_orders orders_in
rows_accepted w rows none =
    let w' : World = with_orders w rows in
    let orders : orders_in w' ≡ orders_in w ++ new_orders (orders_in w) rows =
    map-append (λ (b : Batch). b.order) w.batches (map planned (new_orders (orders_in w) rows)) ∙ ap (λ (os : List OrderRow). orders_in w ++ os) (order-planned (new_orders (orders_in w) rows)) in
    Every-both (λ (r : OrderRow). is_some (find (is_of r.batch) (orders_in w ++ rows)) ≡ true) (λ (r : OrderRow). conflicts (orders_in w ++ rows) r ≡ false) (WasAccepted w')
    (λ r some apart. accepted_from w' r (ap (find (is_of r.batch)) orders ∙ first_come (orders_in w) rows r.batch ∙ first_itself (orders_in w ++ rows) r some apart)) rows (each_found (orders_in w) rows) none

-- ---- what was accepted stays so

-- an amended batch keeps its order
pub of_quantity-order : (q : ℕ) (n : Text) (b : Batch) → (of_quantity q n b).order ≡ b.order
unfolding of_quantity
of_quantity-order q n b =
    (elim (same b.order.batch n) as (λ c. same b.order.batch n ≡ c → (of_quantity q n b).order ≡ b.order) [ true ↦ λ e. rw e refl | false ↦ λ e. rw e refl ]) refl

accepted_more : (w : World) (rows : List OrderRow) (row : OrderRow) → WasAccepted w row → WasAccepted (with_orders w rows) row
unfolding WasAccepted batch_of with_orders
accepted_more w rows row a = (a.0, find-more (λ (b : Batch). same b.order.batch row.batch) w.batches (map planned (new_orders (orders_in w) rows)) a.0 a.1, a.2)

accepted_mapped : (w : World) (f : Batch → Batch) → ((b : Batch) → (f b).order ≡ b.order) → (row : OrderRow) → WasAccepted w row → WasAccepted (record w { batches = map f w.batches }) row
unfolding WasAccepted batch_of
accepted_mapped w f keeps row a = (
  f a.0,
  find-map (λ (b : Batch). same b.order.batch row.batch) f (λ b. ap (λ (o : OrderRow). same o.batch row.batch) (keeps b)) w.batches ∙ ap (option_map f) a.1,
  keeps a.0 ∙ a.2,
)

-- the batches that stand, and those of the deed
Stands : World → List OrderRow → Type 0
Stands w rows = Every (WasAccepted w) rows

stands_with : (w : World) (seen rows : List OrderRow) → Every (λ (r : OrderRow). conflicts (orders_in w ++ rows) r ≡ false) rows → Every (WasAccepted w) seen → Every (WasAccepted (with_orders w rows)) (seen ++ rows)
stands_with w seen rows none a =
    Every-append (WasAccepted (with_orders w rows)) seen rows (Every-weaker (WasAccepted w) (WasAccepted (with_orders w rows)) (accepted_more w rows) seen a) (rows_accepted w rows none)

stands_mapped : (w : World) (f : Batch → Batch) → ((b : Batch) → (f b).order ≡ b.order) → (seen : List OrderRow) → Every (WasAccepted w) seen → Every (WasAccepted (record w { batches = map f w.batches })) (seen ++ [])
stands_mapped w f keeps seen a =
    subst (Every (WasAccepted (record w { batches = map f w.batches }))) (sym (append-nil seen)) (Every-weaker (WasAccepted w) (WasAccepted (record w { batches = map f w.batches })) (accepted_mapped w f keeps) seen a)

accepted_as : (w w' : World) → w'.batches ≡ w.batches → (row : OrderRow) → WasAccepted w row → WasAccepted w' row
unfolding WasAccepted batch_of
accepted_as w w' e row a = (a.0, ap (λ (bs : List Batch). find (λ (b : Batch). same b.order.batch row.batch) bs) e ∙ a.1, a.2)

stands_as : (w w' : World) (seen : List OrderRow) → w'.batches ≡ w.batches → Every (WasAccepted w) seen → Every (WasAccepted w') (seen ++ [])
stands_as w w' seen e a = subst (Every (WasAccepted w')) (sym (append-nil seen)) (Every-weaker (WasAccepted w) (WasAccepted w') (accepted_as w w' e) seen a)

stands_effect : (site : Setup) (w : World) (station : ℕ) (deed : Deed) (drawn : List Text) (seen : List OrderRow) → NoneOf (map (λ (test : Test). test site w station deed) (rules_of deed))
    → Every (WasAccepted w) seen → Every (WasAccepted (effect site w station deed drawn)) (seen ++ ordered_by w deed drawn)
unfolding NoneOf rules_of on_rows effect ordered_by order_rows unknown_product order_conflict with_phase with_quantity with_unit with_mark with_children without_children emptied with_declaration with_rows with_drawn
stands_effect site w station (Order row) drawn seen p a =
    stands_with w seen (row ∷ []) (each_when (conflicts (orders_in w ++ row ∷ [])) (λ k. rule.OrderConflict (k + 1)) (row ∷ []) p.1.1.0) a
stands_effect site w station (Orders rows) drawn seen p a =
    stands_with w seen rows (each_when (conflicts (orders_in w ++ rows)) (λ k. rule.OrderConflict (k + 1)) rows p.1.1.0) a
stands_effect site w station (Start name) drawn seen p a = stands_mapped w (in_phase Started name) (in_phase-order Started name) seen a
stands_effect site w station (Close name) drawn seen p a = stands_mapped w (in_phase Closed name) (in_phase-order Closed name) seen a
stands_effect site w station (Amend name quantity) drawn seen p a = stands_mapped w (of_quantity quantity name) (of_quantity-order quantity name) seen a
stands_effect site w station deed drawn seen p a = stands_as w (effect site w station deed drawn) seen refl a

stands_unless : (site : Setup) (w : World) (entry : Entry) (rule : Option Rule) (seen : List OrderRow) → broken site w entry.station entry.deed ≡ rule
    → Every (WasAccepted w) seen → Every (WasAccepted (unless_broken site w entry rule)) (seen ++ if_accepted rule (ordered_by w entry.deed entry.drawn))
unfolding unless_broken if_accepted
stands_unless site w entry None seen e a = stands_effect site w entry.station entry.deed entry.drawn seen (allowed site w entry.station entry.deed e) a
stands_unless site w entry (Some rule) seen e a = stands_as w w seen refl a

-- all that was accepted stands
ordered_stand : (site : Setup) (w : World) (entries : List Entry) (seen : List OrderRow) → Every (WasAccepted w) seen → Every (WasAccepted (world_from site w entries)) (seen ++ issued_from ordered_by site w entries)
unfolding world_from issued_from steps_from after
ordered_stand site w [] seen a = stands_as w w seen refl a
ordered_stand site w (entry ∷ entries) seen a =
    let new : List OrderRow = if_accepted (broken site w entry.station entry.deed) (ordered_by w entry.deed entry.drawn) in
    subst (Every (WasAccepted (world_from site (after site w entry) entries))) (append_assoc seen new (issued_from ordered_by site (after site w entry) entries))
    (ordered_stand site (after site w entry) entries (seen ++ new) (stands_unless site w entry (broken site w entry.station entry.deed) seen refl a))

Every-there : {A : Type 0} (P : A → Type 0) (xs : List A) (x : A) (k : ℕ) → Every P xs → k < length xs → slice_index_or xs k x ≡ x → P x
Every-there P [] x k a k< e = absurd (omega arith)
Every-there P (y ∷ xs) x zero a k< e = subst P e a.0
Every-there P (y ∷ xs) x (suc k) a k< e = Every-there P xs x k a.1 (omega arith) e

was_accepted : (site : Setup) (history : List Entry) (row : OrderRow) → WasOrdered site history row → WasAccepted (world_of site history) row
unfolding world_of
was_accepted site history row o = Every-there (WasAccepted (world_from site nothing_yet history)) (all_ordered site history) row o.0 (ordered_stand site nothing_yet history [] tt) o.1 o.2

pub ordered_again : (site : Setup) (history : List Entry) (station number worker stamp : ℕ) (operator : Option Text) (rows : List OrderRow) → IsProper site → IsLawful site history → IsForPlanner site station → 0 < length rows → Every (WasOrdered site history) rows
    → let entry : Entry = record { station = station; number = number; worker = worker; stamp = stamp; operator = operator; deed = Orders rows; drawn = [] } in
    (after site (world_of site history) entry ≡ world_of site history) × (reply_to site (world_of site history) entry ≡ Accepted (told.Orders 0 (length rows)))
ordered_again site history station number worker stamp operator rows proper lawful planner some known =
    orders_again site history station number worker stamp operator rows proper lawful planner some (Every-weaker (WasOrdered site history) (WasAccepted (world_of site history)) (was_accepted site history) rows known)
