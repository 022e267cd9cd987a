-- What is kept of a history, where one entry more stands at its end.
use Rattle.std.proofs.Common.{◌≡◌, ◌+◌, ◌∙◌, ℕ, Bool, true, false, cond, List, [], ◌∷◌, ◌++◌, length, map, Option, None, Some, refl, sym, ap, subst, arith, append-nil, length-append}
use Rattle.std.specs.Prelude.{filter, nat_eq}
use Rattle.std.specs.List.{flat_map}
use Rattle.std.proofs.lemmas.List.{map-append, length-map}
use Rattle.std.proofs.lemmas.List.Concat.{flat_map-append}
use Rattle.std.proofs.lemmas.List.Elements.{filter-append}
use Rattle.epc_urn.specs.declared.epc.Epc.{Epc}
use Rattle.deed_words.specs.Names.{Text}
use Rattle.deed_words.specs.Setups.{Setup}
use Rattle.deed_words.specs.declared.deed.Deed.{Deed}
use Rattle.deed_words.specs.declared.entry.Entry.{Entry}
use Rattle.deed_words.specs.declared.rule.Rule.{Rule}
use Rattle.deed_words.specs.declared.reply.Reply.{Reply}
use Rattle.deed_words.specs.declared.reply.Reply.TheVariants as reply
use Rattle.deed_words.specs.declared.world.Batch.{Batch}
use Rattle.deed_words.specs.declared.words.Phase.TheVariants.{Started, Closed}
use Rattle.deed_words.specs.declared.deed.OrderRow.{OrderRow}
use Rattle.deed_words.specs.World.{World, nothing_yet, name_of}
use Rattle.deed_words.specs.Rules.{broken}
use Rattle.deed_words.specs.Orders.{new_orders, orders_in, planned}
use Rattle.deed_words.specs.Effects.{effect, with_orders, in_phase, with_phase, with_drawn, with_rows, with_unit, with_mark, with_children, with_declaration}
use Rattle.deed_words.specs.Replies.{after, unless_broken, reply_to, replied, answer_to, orders_answer}
use Rattle.deed_words.specs.Walk.{Step, steps_from}
use Rattle.deed_words.specs.History.{world_from, world_of, told_from, own}
use Rattle.deed_words.specs.Once.{drawn_by, if_accepted, issued_by, issued_from, listed, made_told}
use Rattle.deed_words.proofs.Following.{world_from-append}
use Rattle.deed_words.proofs.IssuedOnce.{names_drawn}
use Rattle.deed_words.proofs.Items.{Every-append, Every-weaker, Every-map}
use Rattle.deed_words.proofs.OrdersAgain.{Every-new}
use Rattle.deed_words.proofs.SoundBatches.{in_phase-order}
use Rattle.site_sim.specs.declared.request.Request.{Request}
use Rattle.site_sim.specs.declared.request.Request.TheVariants as request
use Rattle.site_sim.specs.Example as example
use Rattle.site_sim.specs.Asking.{deed_of, lent_by, lent_in, order}
use Rattle.site_sim.specs.Knowing.{accepted_in, is_accepted, lent_for, drawn_for, one_if, AreNamed}

-- ---- replies

steps_more : (site : Setup) (w : World) (xs ys : List Entry) → steps_from site w (xs ++ ys) ≡ steps_from site w xs ++ steps_from site (world_from site w xs) ys
unfolding steps_from world_from
steps_more site w [] ys = refl
steps_more site w (e ∷ xs) ys = ap (λ (ss : List Step). record { before = w; entry = e } ∷ ss) (steps_more site (after site w e) xs ys)

abbrev told_at : Setup → List Entry → Entry → Entry × Reply
told_at site history entry = (entry, reply_to site (world_of site history) entry)

told_more : (site : Setup) (history : List Entry) (entry : Entry) → told_from site nothing_yet (history ++ entry ∷ []) ≡ told_from site nothing_yet history ++ told_at site history entry ∷ []
unfolding told_from world_of steps_from
told_more site history entry =
    ap (map (λ (step : Step). (step.entry, reply_to site step.before step.entry))) (steps_more site nothing_yet history (entry ∷ []))
    ∙ map-append (λ (step : Step). (step.entry, reply_to site step.before step.entry)) (steps_from site nothing_yet history) _

pub lent_more : (history : List Entry) (entry : Entry) → lent_in (history ++ entry ∷ []) ≡ lent_in history ++ lent_by entry.deed (reply_to example.site (world_of example.site history) entry)
unfolding lent_in
lent_more history entry =
    let f : Entry × Reply → List Text = λ told. lent_by told.0.deed told.1 in
    let told = told_from example.site nothing_yet history in
    ap (flat_map f) (told_more example.site history entry) ∙ flat_map-append f told (told_at example.site history entry ∷ [])
    ∙ ap (λ (ys : List Text). flat_map f told ++ ys) (append-nil (lent_by entry.deed (reply_to example.site (world_of example.site history) entry)))

one_passed : {X : Type 0} (test : X → Bool) (x : X) → length (filter test (x ∷ [])) ≡ one_if (test x)
one_passed test x = elim (test x) as (λ b. length (cond b (x ∷ []) []) ≡ one_if b) [ true ↦ refl | false ↦ refl ]

passed_more : {X : Type 0} (test : X → Bool) (xs : List X) (x : X) → length (filter test (xs ++ x ∷ [])) ≡ length (filter test xs) + one_if (test x)
passed_more test xs x =
    ap length (filter-append test xs (x ∷ [])) ∙ length-append (filter test xs) (filter test (x ∷ [])) ∙ ap (λ (n : ℕ). length (filter test xs) + n) (one_passed test x)

pub accepted_more : (history : List Entry) (entry : Entry) → accepted_in (history ++ entry ∷ []) ≡ accepted_in history + one_if (is_accepted (reply_to example.site (world_of example.site history) entry))
unfolding accepted_in
accepted_more history entry =
    let test : Entry × Reply → Bool = λ told. is_accepted told.1 in
    ap (λ (told : List (Entry × Reply)). length (filter test told)) (told_more example.site history entry)
    ∙ passed_more test (told_from example.site nothing_yet history) (told_at example.site history entry)

pub own_more : (station : ℕ) (history : List Entry) (entry : Entry) → length (own station (history ++ entry ∷ [])) ≡ length (own station history) + one_if (nat_eq entry.station station)
unfolding own
own_more station history entry = passed_more (λ (e : Entry). nat_eq e.station station) history entry

-- a reply to a request of the simulation
pub lent_is : (lent : List Text) (r : Request) (told : Reply) → lent_by (deed_of lent r) told ≡ lent_for r told
unfolding deed_of lent_by lent_for
lent_is lent (request.Order quantity) told = refl
lent_is lent request.Start told = refl
lent_is lent (request.Draw size) told = refl
lent_is lent (request.Lend size) told = refl
lent_is lent (request.Commission part) told = refl
lent_is lent (request.Make level) told = refl
lent_is lent (request.PackItems place part) told = refl
lent_is lent (request.PackCases place part) told = refl
lent_is lent (request.Seal place) told = refl
lent_is lent (request.Declare good) told = refl
lent_is lent request.Close told = refl

-- ---- the world

pub world_more : (site : Setup) (history : List Entry) (entry : Entry) → world_of site (history ++ entry ∷ []) ≡ after site (world_of site history) entry
unfolding world_of world_from
world_more site history entry = world_from-append site nothing_yet history (entry ∷ [])

drawn_len : (site : Setup) (w : World) (lent : List Text) (r : Request) (drawn : List Text) → length (drawn_by w (deed_of lent r) drawn) ≡ length (drawn_for r (reply.Accepted (answer_to site w (deed_of lent r) drawn)))
unfolding deed_of drawn_by drawn_for answer_to listed
drawn_len site w lent (request.Order quantity) drawn = refl
drawn_len site w lent request.Start drawn = refl
drawn_len site w lent (request.Draw size) drawn = length-map drawn _
drawn_len site w lent (request.Lend size) drawn = refl
drawn_len site w lent (request.Commission part) drawn = refl
drawn_len site w lent (request.Make level) drawn = refl
drawn_len site w lent (request.PackItems place part) drawn = refl
drawn_len site w lent (request.PackCases place part) drawn = refl
drawn_len site w lent (request.Seal place) drawn = refl
drawn_len site w lent (request.Declare good) drawn = refl
drawn_len site w lent request.Close drawn = refl

none_drawn : (r : Request) (rule : Rule) → drawn_for r (reply.Refused rule) ≡ []
unfolding drawn_for listed
none_drawn (request.Order quantity) rule = refl
none_drawn request.Start rule = refl
none_drawn (request.Draw size) rule = refl
none_drawn (request.Lend size) rule = refl
none_drawn (request.Commission part) rule = refl
none_drawn (request.Make level) rule = refl
none_drawn (request.PackItems place part) rule = refl
none_drawn (request.PackCases place part) rule = refl
none_drawn (request.Seal place) rule = refl
none_drawn (request.Declare good) rule = refl
none_drawn request.Close rule = refl

drawn_unless : (site : Setup) (w : World) (lent : List Text) (r : Request) (entry : Entry) (rule : Option Rule) → entry.deed ≡ deed_of lent r → length (if_accepted rule (drawn_by w entry.deed entry.drawn)) ≡ length (drawn_for r (replied site w entry rule))
unfolding if_accepted replied
drawn_unless site w lent r entry None e =
    subst (λ (d : Deed). length (drawn_by w d entry.drawn) ≡ length (drawn_for r (reply.Accepted (answer_to site w d entry.drawn)))) (sym e) (drawn_len site w lent r entry.drawn)
drawn_unless site w lent r entry (Some rule) e = ap length (sym (none_drawn r rule))

rows_step : (site : Setup) (w : World) (entry : Entry) → length (after site w entry).rows ≡ length w.rows + length (issued_by drawn_by site w entry)
unfolding world_from issued_from steps_from
rows_step site w entry =
    let new : List Epc = issued_by drawn_by site w entry in
    sym (length-map (after site w entry).rows name_of) ∙ ap length (names_drawn site w (entry ∷ [])) ∙ length-append (map name_of w.rows) (new ++ [])
    ∙ ap (λ (n : ℕ). n + length (new ++ [])) (length-map w.rows name_of) ∙ ap (λ (xs : List Epc). length w.rows + length xs) (append-nil new)

pub rows_more : (history : List Entry) (lent : List Text) (r : Request) (entry : Entry) → entry.deed ≡ deed_of lent r
    → length (world_of example.site (history ++ entry ∷ [])).rows ≡ length (world_of example.site history).rows + length (drawn_for r (reply_to example.site (world_of example.site history) entry))
unfolding reply_to
rows_more history lent r entry e =
    let w = world_of example.site history in
    ap (λ (v : World). length v.rows) (world_more example.site history entry) ∙ rows_step example.site w entry
    ∙ ap (λ (n : ℕ). length w.rows + n) (drawn_unless example.site w lent r entry (broken example.site w entry.station entry.deed) e)

no_more : (n : ℕ) → n ≡ n + 0
no_more n = omega arith

units_effect : (site : Setup) (w : World) (station : ℕ) (lent : List Text) (r : Request) (drawn : List Text) → length (effect site w station (deed_of lent r) drawn).units ≡ length w.units + length (made_told (reply.Accepted (answer_to site w (deed_of lent r) drawn)))
unfolding deed_of effect answer_to orders_answer made_told with_orders with_phase with_drawn with_rows with_unit with_mark with_children with_declaration
units_effect site w station lent (request.Order quantity) drawn = no_more (length w.units)
units_effect site w station lent request.Start drawn = no_more (length w.units)
units_effect site w station lent (request.Draw size) drawn = no_more (length w.units)
units_effect site w station lent (request.Lend size) drawn = no_more (length w.units)
units_effect site w station lent (request.Commission part) drawn = no_more (length w.units)
units_effect site w station lent (request.Make level) drawn = length-append w.units _
units_effect site w station lent (request.PackItems place part) drawn = no_more (length w.units)
units_effect site w station lent (request.PackCases place part) drawn = no_more (length w.units)
units_effect site w station lent (request.Seal place) drawn = length-map w.units _ ∙ no_more (length w.units)
units_effect site w station lent (request.Declare good) drawn = no_more (length w.units)
units_effect site w station lent request.Close drawn = no_more (length w.units)

units_unless : (site : Setup) (w : World) (lent : List Text) (r : Request) (entry : Entry) (rule : Option Rule) → entry.deed ≡ deed_of lent r → length (unless_broken site w entry rule).units ≡ length w.units + length (made_told (replied site w entry rule))
unfolding unless_broken replied made_told
units_unless site w lent r entry None e =
    subst (λ (d : Deed). length (effect site w entry.station d entry.drawn).units ≡ length w.units + length (made_told (reply.Accepted (answer_to site w d entry.drawn)))) (sym e) (units_effect site w entry.station lent r entry.drawn)
units_unless site w lent r entry (Some rule) e = no_more (length w.units)

pub units_more : (history : List Entry) (lent : List Text) (r : Request) (entry : Entry) → entry.deed ≡ deed_of lent r
    → length (world_of example.site (history ++ entry ∷ [])).units ≡ length (world_of example.site history).units + length (made_told (reply_to example.site (world_of example.site history) entry))
unfolding reply_to after
units_more history lent r entry e =
    let w = world_of example.site history in
    ap (λ (v : World). length v.units) (world_more example.site history entry) ∙ units_unless example.site w lent r entry (broken example.site w entry.station entry.deed) e

-- ---- the names of batches

kept_names : (f : Batch → Batch) → ((b : Batch) → (f b).order ≡ b.order) → (batches : List Batch) → AreNamed batches → AreNamed (map f batches)
kept_names f keeps batches named =
    Every-map (λ (b : Batch). b.order.batch ≡ example.batch) f batches
    (Every-weaker (λ (b : Batch). b.order.batch ≡ example.batch) (λ (b : Batch). (f b).order.batch ≡ example.batch) (λ b is. ap (λ (o : OrderRow). o.batch) (keeps b) ∙ is) batches named)

new_names : (w : World) (quantity : ℕ) → AreNamed w.batches → AreNamed (with_orders w (order quantity ∷ [])).batches
unfolding with_orders
new_names w quantity named =
    Every-append (λ (b : Batch). b.order.batch ≡ example.batch) w.batches (map planned (new_orders (orders_in w) (order quantity ∷ []))) named
    (Every-map (λ (b : Batch). b.order.batch ≡ example.batch) planned (new_orders (orders_in w) (order quantity ∷ [])) (Every-new (λ (row : OrderRow). row.batch ≡ example.batch) (orders_in w) (order quantity ∷ []) (refl, tt)))

named_effect : (site : Setup) (w : World) (station : ℕ) (lent : List Text) (r : Request) (drawn : List Text) → AreNamed w.batches → AreNamed (effect site w station (deed_of lent r) drawn).batches
unfolding deed_of effect with_phase with_drawn with_rows with_unit with_mark with_children with_declaration
named_effect site w station lent (request.Order quantity) drawn named = new_names w quantity named
named_effect site w station lent request.Start drawn named = kept_names (in_phase Started example.batch) (in_phase-order Started example.batch) w.batches named
named_effect site w station lent (request.Draw size) drawn named = named
named_effect site w station lent (request.Lend size) drawn named = named
named_effect site w station lent (request.Commission part) drawn named = named
named_effect site w station lent (request.Make level) drawn named = named
named_effect site w station lent (request.PackItems place part) drawn named = named
named_effect site w station lent (request.PackCases place part) drawn named = named
named_effect site w station lent (request.Seal place) drawn named = named
named_effect site w station lent (request.Declare good) drawn named = named
named_effect site w station lent request.Close drawn named = kept_names (in_phase Closed example.batch) (in_phase-order Closed example.batch) w.batches named

named_unless : (site : Setup) (w : World) (lent : List Text) (r : Request) (entry : Entry) (rule : Option Rule) → entry.deed ≡ deed_of lent r → AreNamed w.batches → AreNamed (unless_broken site w entry rule).batches
unfolding unless_broken
named_unless site w lent r entry None e named =
    subst (λ (d : Deed). AreNamed (effect site w entry.station d entry.drawn).batches) (sym e) (named_effect site w entry.station lent r entry.drawn named)
named_unless site w lent r entry (Some rule) e named = named

pub named_more : (history : List Entry) (lent : List Text) (r : Request) (entry : Entry) → entry.deed ≡ deed_of lent r → AreNamed (world_of example.site history).batches → AreNamed (world_of example.site (history ++ entry ∷ [])).batches
unfolding after
named_more history lent r entry e named =
    let w = world_of example.site history in
    subst (λ (v : World). AreNamed v.batches) (sym (world_more example.site history entry)) (named_unless example.site w lent r entry (broken example.site w entry.station entry.deed) e named)
