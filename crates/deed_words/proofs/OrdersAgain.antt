-- Order rows whose batches stand with just these orders change nothing.
use Rattle.std.proofs.Common.{◌≡◌, ℕ, suc, ◌+◌, ◌-◌, ◌≤◌, ◌<◌, Bool, true, false, cond, ◌||◌, not, List, [], ◌∷◌, ◌++◌, length, map, sym, ◌∙◌, ap, refl, arith, Option, None, Some, append-nil}
use Rattle.std.specs.Prelude.{if◌then◌else◌, find, option_map, is_none, nat_lt, nat_eq}
use Rattle.std.specs.List.{AllByRecursion as Every, list_any}
use Rattle.std.proofs.lemmas.Bool.{and_from}
use Rattle.deed_words.specs.Names.{Text, same, same_order}
use Rattle.deed_words.specs.Setups.{Setup, role_of, product_of, IsForPlanner, IsProper}
use Rattle.deed_words.specs.declared.entry.Entry.{Entry}
use Rattle.deed_words.specs.declared.deed.OrderRow.{OrderRow}
use Rattle.deed_words.specs.declared.rule.Rule.{Rule}
use Rattle.deed_words.specs.declared.rule.Rule.TheVariants as rule
use Rattle.deed_words.specs.declared.deed.Deed.{Deed}
use Rattle.deed_words.specs.declared.deed.Deed.TheVariants.{Order, Orders, Start, Close, Amend}
use Rattle.deed_words.specs.declared.words.Phase.TheVariants.{Started, Closed}
use Rattle.deed_words.specs.declared.world.Batch.{Batch}
use Rattle.deed_words.specs.Chain.{first, when, each, each_from, holds_of, is_empty}
use Rattle.deed_words.specs.World.{World, nothing_yet, batch_of}
use Rattle.deed_words.specs.Deeds.{order_rows}
use Rattle.deed_words.specs.Orders.{planned, is_ordered, new_orders, orders_in, conflicts}
use Rattle.deed_words.specs.Tests.{Test, role_forbids, unknown_product, order_conflict, out_of_range, site_full, full}
use Rattle.deed_words.specs.Rules.{broken, rules_of, on_rows}
use Rattle.deed_words.specs.Effects.{effect, with_orders, in_phase, with_phase, of_quantity, with_quantity, with_drawn, with_rows, with_unit, with_mark, with_children, without_children, emptied, with_declaration}
use Rattle.deed_words.specs.Replies.{after, unless_broken, reply_to, replied, answer_to, orders_answer}
use Rattle.deed_words.specs.History.{world_from, world_of, IsLawful}
use Rattle.deed_words.specs.Sound.{IsSound}
use Rattle.deed_words.proofs.Sameness.{same-itself}
use Rattle.deed_words.proofs.Items.{Every-append, Every-weaker, Every-map, find_Some, find-more}
use Rattle.deed_words.proofs.Broken.{each_when}
use Rattle.deed_words.proofs.Allowed.{NoneOf, allowed}
use Rattle.deed_words.proofs.Soundness.{lawful_is_sound}
use Rattle.deed_words.proofs.SoundBatches.{KeepsNames, in_phase-names, of_quantity-names}
use Rattle.std.proofs.lemmas.Bool.Decides.{nat_tests}
use Rattle.std.specs.Cmp.{nat_eq_equiv}
use Rattle.deed_words.specs.Roles.{is_for, is_planner}
use Rattle.deed_words.specs.declared.words.Role.{Role}
use Rattle.deed_words.specs.declared.words.What.TheVariants.{Batches}
use Rattle.deed_words.specs.declared.reply.Reply.TheVariants.{Accepted}
use Rattle.deed_words.specs.declared.reply.Answer.TheVariants as told

-- each batch of a lawful history is of a product

unfoldable pub OfProduct : Setup → Batch → Type 0
OfProduct site batch = is_none (product_of site batch.order.gtin) ≡ false

product_kept : (site : Setup) (f : Batch → Batch) → KeepsNames f → (bs : List Batch) → Every (OfProduct site) bs → Every (OfProduct site) (map f bs)
unfolding OfProduct
product_kept site f keeps bs a = Every-map (OfProduct site) f bs (Every-weaker (OfProduct site) (λ (b : Batch). OfProduct site (f b)) (λ b h. ap (λ (g : Text). is_none (product_of site g)) (keeps.gtin b) ∙ h) bs a)

pub Every-new : (P : OrderRow → Type 0) (orders rows : List OrderRow) → Every P rows → Every P (new_orders orders rows)
unfolding new_orders
Every-new P orders [] a = tt
Every-new P orders (row ∷ rows) a =
    elim (is_ordered orders row.batch) as (λ b. Every P (if b then new_orders orders rows else row ∷ new_orders (orders ++ row ∷ []) rows)) [ true ↦ Every-new P orders rows a.1 | false ↦ (a.0, Every-new P (orders ++ row ∷ []) rows a.1) ]

products_added : (site : Setup) (w : World) (rows : List OrderRow) → each rows (λ k row. when (is_none (product_of site row.gtin)) (rule.UnknownProduct (k + 1))) ≡ None → Every (OfProduct site) w.batches → Every (OfProduct site) (with_orders w rows).batches
unfolding with_orders OfProduct
products_added site w rows known a =
    Every-append (OfProduct site) w.batches (map planned (new_orders (orders_in w) rows)) a
    (Every-map (OfProduct site) planned (new_orders (orders_in w) rows) (Every-new (λ (r : OrderRow). is_none (product_of site r.gtin) ≡ false) (orders_in w) rows (each_when (λ (r : OrderRow). is_none (product_of site r.gtin)) (λ k. rule.UnknownProduct (k + 1)) rows known)))

products_effect : (site : Setup) (w : World) (station : ℕ) (deed : Deed) (drawn : List Text) → NoneOf (map (λ (test : Test). test site w station deed) (rules_of deed)) → Every (OfProduct site) w.batches → Every (OfProduct site) (effect site w station deed drawn).batches
unfolding NoneOf rules_of on_rows effect order_rows unknown_product with_phase with_quantity with_unit with_mark with_children without_children emptied with_declaration with_rows with_drawn
products_effect site w station (Order row) drawn p a = products_added site w (row ∷ []) p.1.0 a
products_effect site w station (Orders rows) drawn p a = products_added site w rows p.1.0 a
products_effect site w station (Start name) drawn p a = product_kept site (in_phase Started name) (in_phase-names Started name) w.batches a
products_effect site w station (Close name) drawn p a = product_kept site (in_phase Closed name) (in_phase-names Closed name) w.batches a
products_effect site w station (Amend name quantity) drawn p a = product_kept site (of_quantity quantity name) (of_quantity-names quantity name) w.batches a
products_effect site w station deed drawn p a = a

pub products_unless : (site : Setup) (w : World) (entry : Entry) (rule : Option Rule) → broken site w entry.station entry.deed ≡ rule → Every (OfProduct site) w.batches → Every (OfProduct site) (unless_broken site w entry rule).batches
unfolding unless_broken
products_unless site w entry None e a = products_effect site w entry.station entry.deed entry.drawn (allowed site w entry.station entry.deed e) a
products_unless site w entry (Some rule) e a = a

pub products_from : (site : Setup) (w : World) (entries : List Entry) → Every (OfProduct site) w.batches → Every (OfProduct site) (world_from site w entries).batches
unfolding world_from after
products_from site w [] a = a
products_from site w (entry ∷ entries) a = products_from site (after site w entry) entries (products_unless site w entry (broken site w entry.station entry.deed) refl a)

-- the rows again

-- the batch of the row stands, and its order is this row
unfoldable pub WasAccepted : World → OrderRow → Type 0
WasAccepted w row = (batch : Batch) × (batch_of w row.batch ≡ Some batch) × (batch.order ≡ row)

none_new : (orders rows : List OrderRow) → Every (λ (r : OrderRow). is_ordered orders r.batch ≡ true) rows → new_orders orders rows ≡ []
unfolding new_orders
none_new orders [] a = refl
none_new orders (row ∷ rows) a = ap (λ b. if b then new_orders orders rows else row ∷ new_orders (orders ++ row ∷ []) rows) a.0 ∙ none_new orders rows a.1

pub find-order : (bs : List Batch) (n : Text) → find (λ (o : OrderRow). same o.batch n) (map (λ (b : Batch). b.order) bs) ≡ option_map (λ (b : Batch). b.order) (find (λ (b : Batch). same b.order.batch n) bs)
find-order [] n = refl
find-order (b ∷ bs) n = elim (same b.order.batch n) as (λ t. cond t (Some b.order) (find (λ (o : OrderRow). same o.batch n) (map (λ (x : Batch). x.order) bs)) ≡ option_map (λ (x : Batch). x.order) (cond t (Some b) (find (λ (x : Batch). same x.order.batch n) bs))) [ true ↦ refl | false ↦ find-order bs n ]

pub any-found : (orders : List OrderRow) (n : Text) (o : OrderRow) → find (λ (x : OrderRow). same x.batch n) orders ≡ Some o → list_any (λ (x : OrderRow). same x.batch n) orders ≡ true
any-found [] n o e = absurd (cc)
any-found (x ∷ orders) n o e =
    (elim (same x.batch n) as (λ t. cond t (Some x) (find (λ (y : OrderRow). same y.batch n) orders) ≡ Some o → (t || list_any (λ (y : OrderRow). same y.batch n) orders) ≡ true) [ true ↦ λ _. refl | false ↦ λ e. any-found orders n o e ]) e

pub same_order-itself : (row : OrderRow) → same_order row row ≡ true
unfolding same_order
same_order-itself row =
    let num : (n : ℕ) → nat_eq n n ≡ true = λ n. nat_eq_equiv.refl n in
    and_from _ _ (and_from _ _ (and_from _ _ (and_from _ _ (and_from _ _ (and_from _ _ (same-itself row.batch) (same-itself row.gtin)) (same-itself row.lot)) (same-itself row.expiry)) (num row.quantity)) (num row.case_size)) (num row.pallet_size)

kept_order : (w : World) (row : OrderRow) → WasAccepted w row → find (λ (o : OrderRow). same o.batch row.batch) (orders_in w) ≡ Some row
unfolding WasAccepted orders_in batch_of
kept_order w row a = find-order w.batches row.batch ∙ ap (option_map (λ (b : Batch). b.order)) a.1 ∙ ap Some a.2

no_conflict : (w : World) (rows : List OrderRow) (row : OrderRow) → WasAccepted w row → conflicts (orders_in w ++ rows) row ≡ false
unfolding conflicts holds_of
no_conflict w rows row a =
    ap (holds_of (λ (o : OrderRow). not (same_order o row))) (find-more (λ (o : OrderRow). same o.batch row.batch) (orders_in w) rows row (kept_order w row a)) ∙ ap not (same_order-itself row)

was_ordered : (w : World) (row : OrderRow) → WasAccepted w row → is_ordered (orders_in w) row.batch ≡ true
unfolding is_ordered
was_ordered w row a = any-found (orders_in w) row.batch row (kept_order w row a)

of_product : (site : Setup) (w : World) → Every (OfProduct site) w.batches → (row : OrderRow) → WasAccepted w row → is_none (product_of site row.gtin) ≡ false
unfolding OfProduct WasAccepted batch_of
of_product site w a row k = ap (λ (o : OrderRow). is_none (product_of site o.gtin)) (sym k.2) ∙ find_Some (OfProduct site) (λ (b : Batch). same b.order.batch row.batch) w.batches k.0 k.1 a

none_from : {A B : Type 0} (bad : A → Bool) (answer : ℕ → B) (k : ℕ) (xs : List A) → Every (λ x. bad x ≡ false) xs → first (each_from k (λ i x. when (bad x) (answer i)) xs) ≡ None
unfolding each_from first when
none_from bad answer k [] a = refl
none_from {A} {B} bad answer k (x ∷ xs) a = ap (λ b. first (when b (answer k) ∷ each_from (suc k) (λ i y. when (bad y) (answer i)) xs)) a.0 ∙ none_from bad answer (suc k) xs a.1

none_each : {A B : Type 0} (bad : A → Bool) (answer : ℕ → B) (xs : List A) → Every (λ x. bad x ≡ false) xs → each xs (λ i x. when (bad x) (answer i)) ≡ None
unfolding each
none_each bad answer xs a = none_from bad answer 0 xs a

first_Nones : (answer : Option Rule) (answers : List (Option Rule)) → answer ≡ None → first answers ≡ None → first (answer ∷ answers) ≡ None
unfolding first
first_Nones answer answers e f = ap (λ (o : Option Rule). first (o ∷ answers)) e ∙ f

not_over : (n most : ℕ) → n ≤ most → nat_lt most n ≡ false
not_over n most h = grind (arith, nat_tests)

not_empty : (rows : List OrderRow) → 0 < length rows → is_empty rows ≡ false
unfolding is_empty
not_empty [] h = absurd (omega arith)
not_empty (r ∷ rows) h = refl

breaks_none : (site : Setup) (w : World) (station : ℕ) (rows : List OrderRow) → IsSound site w → Every (OfProduct site) w.batches → IsForPlanner site station → 0 < length rows → Every (WasAccepted w) rows → broken site w station (Orders rows) ≡ None
unfolding broken rules_of role_forbids unknown_product order_conflict out_of_range site_full order_rows full is_for is_planner holds_of IsForPlanner when first
breaks_none site w station rows s products planner some known =
    let none : new_orders (orders_in w) rows ≡ [] = none_new (orders_in w) rows (Every-weaker (WasAccepted w) (λ (r : OrderRow). is_ordered (orders_in w) r.batch ≡ true) (was_ordered w) rows known) in
    let one : when (not (holds_of is_planner (role_of site station))) rule.RoleForbids ≡ None = ap (λ (r : Option Role). when (not (holds_of is_planner r)) rule.RoleForbids) planner in
    let two = none_each (λ (r : OrderRow). is_none (product_of site r.gtin)) (λ k. rule.UnknownProduct (k + 1)) rows (Every-weaker (WasAccepted w) (λ (r : OrderRow). is_none (product_of site r.gtin) ≡ false) (of_product site w products) rows known) in
    let three = none_each (λ (r : OrderRow). conflicts (orders_in w ++ rows) r) (λ k. rule.OrderConflict (k + 1)) rows (Every-weaker (WasAccepted w) (λ (r : OrderRow). conflicts (orders_in w ++ rows) r ≡ false) (no_conflict w rows) rows known) in
    let four : when (is_empty rows) (rule.CountOutOfRange 1000) ≡ None = ap (λ b. when b (rule.CountOutOfRange 1000)) (not_empty rows some) in
    let room : length w.batches + 0 ≤ 4096 = omega (arith, s.few_batches) in
    let five : when (nat_lt 4096 (length w.batches + length (new_orders (orders_in w) rows))) (rule.SiteFull Batches (length w.batches)) ≡ None =
    ap (λ (os : List OrderRow). when (nat_lt 4096 (length w.batches + length os)) (rule.SiteFull Batches (length w.batches))) none ∙ ap (λ b. when b (rule.SiteFull Batches (length w.batches))) (not_over (length w.batches + 0) 4096 room) in
    first_Nones _ _ one (first_Nones _ _ two (first_Nones _ _ three (first_Nones _ _ four (first_Nones _ _ five refl))))

changes_none : (w : World) (rows : List OrderRow) → Every (WasAccepted w) rows → new_orders (orders_in w) rows ≡ []
changes_none w rows known = none_new (orders_in w) rows (Every-weaker (WasAccepted w) (λ (r : OrderRow). is_ordered (orders_in w) r.batch ≡ true) (was_ordered w) rows known)

all_products : (site : Setup) (history : List Entry) → Every (OfProduct site) (world_of site history).batches
unfolding world_of
all_products site history = products_from site nothing_yet history tt

pub orders_again : (site : Setup) (history : List Entry) (station number worker stamp : ℕ) (operator : Option Text) (rows : List OrderRow) → IsProper site → IsLawful site history → IsForPlanner site station → 0 < length rows → Every (WasAccepted (world_of site history)) rows
    → let entry : Entry = record { station = station; number = number; worker = worker; stamp = stamp; operator = operator; deed = Orders rows; drawn = [] } in
    (after site (world_of site history) entry ≡ world_of site history) × (reply_to site (world_of site history) entry ≡ Accepted (told.Orders 0 (length rows)))
unfolding after unless_broken effect with_orders reply_to replied answer_to orders_answer order_rows
orders_again site history station number worker stamp operator rows proper lawful planner some known =
    let w : World = world_of site history in
    let entry : Entry = record { station = station; number = number; worker = worker; stamp = stamp; operator = operator; deed = Orders rows; drawn = [] } in
    let fine : broken site w station (Orders rows) ≡ None = breaks_none site w station rows (lawful_is_sound site history proper lawful) (all_products site history) planner some known in
    let none : new_orders (orders_in w) rows ≡ [] = changes_none w rows known in (
      ap (unless_broken site w entry) fine ∙ ap (λ (os : List OrderRow). record w { batches = w.batches ++ map planned os }) none ∙ ap (λ (bs : List Batch). record w { batches = bs }) (append-nil w.batches),
      ap (replied site w entry) fine ∙ ap (λ (os : List OrderRow). Accepted (told.Orders (length os) (length rows - length os))) none ∙ ap (λ n. Accepted (told.Orders 0 n)) (omega arith),
    )
