-- Moves of a history that grows, and what each of them is of.
use Rattle.std.proofs.Common.{◌≡◌, ◌<◌, ◌≤◌, ◌+◌, ℕ, zero, suc, Bool, true, false, cond, not, List, [], ◌∷◌, ◌++◌, map, length, get_or, Option, None, Some, refl, sym, ap, ◌∙◌, subst, arith, true≢false, append_assoc, append-nil}
use Rattle.std.specs.Prelude.{find, option_map, if◌then◌else◌, take, take_while}
use Rattle.std.specs.List.{AllByRecursion as Every, prefix_len}
use Rattle.std.proofs.Math.Seq.{get_or-append_seam}
use Rattle.std.proofs.lemmas.List.{length-append, length-map, map-append}
use Rattle.epc_urn.specs.declared.epc.Epc.{Epc}
use Rattle.deed_words.specs.Names.{Text, same}
use Rattle.deed_words.specs.Setups.{Setup}
use Rattle.deed_words.specs.World.{World, nothing_yet, batch_of}
use Rattle.deed_words.specs.Deeds.{named, batch_named, batch_for}
use Rattle.deed_words.specs.Orders.{new_orders, orders_in, planned}
use Rattle.deed_words.specs.Effects.{effect, with_orders, in_phase, with_phase, of_quantity, with_quantity, with_drawn, with_rows, with_unit, with_mark, with_children, without_children, emptied, with_declaration}
use Rattle.deed_words.specs.Rules.{broken}
use Rattle.deed_words.specs.Replies.{after, unless_broken}
use Rattle.deed_words.specs.History.{world_from, world_of}
use Rattle.deed_words.specs.Happenings.{has_event, things_of, holder_of, number_of, move_of, listed, moved_by, moves_from, moves}
use Rattle.deed_words.specs.declared.rule.Rule.{Rule}
use Rattle.deed_words.specs.declared.deed.OrderRow.{OrderRow}
use Rattle.deed_words.specs.declared.deed.Deed.{Deed}
use Rattle.deed_words.specs.declared.deed.Deed.TheVariants.{Order, Orders, Start, Close, Amend, Commission, Sample, Reject, Reinstate, Destroy, Decommission, Container as MakeUnit, Pack, Unpack, UnpackAll, Void}
use Rattle.deed_words.specs.declared.words.Phase.TheVariants.{Started, Closed}
use Rattle.deed_words.specs.declared.world.Batch.{Batch}
use Rattle.deed_words.specs.declared.entry.Entry.{Entry}
use Rattle.deed_words.specs.declared.entry.Move.{Move}
use Rattle.deed_words.proofs.Items.{Every-append, find_passes}
use Rattle.deed_words.proofs.Sameness.{same-true}
use Rattle.deed_words.proofs.SoundBatches.{in_phase-order}
use Rattle.move_list.specs.Kept.{unnamed_in, kept_of, things_told, move_again}

-- ---- one entry more

grow_from : (site : Setup) (w : World) (place : ℕ) (entries : List Entry) (entry : Entry)
    → moves_from site w place (entries ++ entry ∷ []) ≡ moves_from site w place entries ++ moved_by site (world_from site w entries) (place + length entries) entry (broken site (world_from site w entries) entry.station entry.deed)
unfolding moves_from world_from
grow_from site w place [] entry =
    let same : place ≡ place + 0 = omega arith in
    append-nil (moved_by site w place entry (broken site w entry.station entry.deed)) ∙ ap (λ n. moved_by site w n entry (broken site w entry.station entry.deed)) same
grow_from site w place (e ∷ entries) entry =
    let first : List Move = moved_by site w place e (broken site w e.station e.deed) in
    let w' : World = world_from site (after site w e) entries in
    let same : suc place + length entries ≡ place + suc (length entries) = omega arith in
    ap (λ (ms : List Move). first ++ ms) (grow_from site (after site w e) (suc place) entries entry ∙ ap (λ n. moves_from site (after site w e) (suc place) entries ++ moved_by site w' n entry (broken site w' entry.station entry.deed)) same)
    ∙ sym (append_assoc first (moves_from site (after site w e) (suc place) entries) _)

pub grow : (site : Setup) (history : List Entry) (entry : Entry) → moves site (history ++ entry ∷ []) ≡ moves site history ++ moved_by site (world_of site history) (length history) entry (broken site (world_of site history) entry.station entry.deed)
unfolding moves world_of
grow site history entry =
    let same : 0 + length history ≡ length history = omega arith in
    grow_from site nothing_yet 0 history entry ∙ ap (λ n. moves_from site nothing_yet 0 history ++ moved_by site (world_from site nothing_yet history) n entry (broken site (world_from site nothing_yet history) entry.station entry.deed)) same

-- ---- an entry has one move at most

few_listed : {A : Type 0} (o : Option A) → length (listed o) ≤ 1
unfolding listed
few_listed None = omega arith
few_listed (Some x) = omega arith

few_by : (site : Setup) (w : World) (place : ℕ) (entry : Entry) (rule : Option Rule) → length (moved_by site w place entry rule) ≤ 1
unfolding moved_by
few_by site w place entry (Some rule) = omega arith
few_by site w place entry None =
    elim (has_event entry.deed) as (λ b. length (if b then listed (option_map (move_of site w place entry) (batch_for w entry.deed)) else []) ≤ 1) [
      | true ↦ few_listed (option_map (move_of site w place entry) (batch_for w entry.deed))
      | false ↦ omega arith
    ]

few_from : (site : Setup) (w : World) (place : ℕ) (entries : List Entry) → length (moves_from site w place entries) ≤ length entries
unfolding moves_from
few_from site w place [] = omega arith
few_from site w place (entry ∷ entries) =
    let first = moved_by site w place entry (broken site w entry.station entry.deed) in
    let rest = moves_from site (after site w entry) (suc place) entries in
    let one = few_by site w place entry (broken site w entry.station entry.deed) in
    let more = few_from site (after site w entry) (suc place) entries in
    let all = length-append first rest in
    omega (arith, one, more, all)

pub few : (site : Setup) (history : List Entry) → length (moves site history) ≤ length history
unfolding moves
few site history = few_from site nothing_yet 0 history

-- ---- orders stay, and more come

abbrev pub orders_of : World → List OrderRow
orders_of w = map (λ batch. batch.order) w.batches

-- these are the ones and then some more
abbrev Grows : List OrderRow → List OrderRow → Type 0
Grows old new = (more : List OrderRow) × (new ≡ old ++ more)

stays : (old new : List OrderRow) → new ≡ old → Grows old new
stays old new e = ([], e ∙ sym (append-nil old))

maps : (f : Batch → Batch) → ((b : Batch) → (f b).order ≡ b.order) → (bs : List Batch) → map (λ (b : Batch). b.order) (map f bs) ≡ map (λ (b : Batch). b.order) bs
maps f h [] = refl
maps f h (b ∷ bs) = ap (λ (o : OrderRow). o ∷ map (λ (x : Batch). x.order) (map f bs)) (h b) ∙ ap (λ (os : List OrderRow). b.order ∷ os) (maps f h bs)

of_quantity-order : (quantity : ℕ) (name : Text) (b : Batch) → (of_quantity quantity name b).order ≡ b.order
unfolding of_quantity
of_quantity-order quantity name b = elim (same b.order.batch name) as (λ c. (if c then record b { quantity = quantity } else b).order ≡ b.order) [ true ↦ refl | false ↦ refl ]

effect_grows : (site : Setup) (w : World) (station : ℕ) (deed : Deed) (drawn : List Text) → Grows (orders_of w) (orders_of (effect site w station deed drawn))
unfolding effect with_orders with_phase with_quantity with_drawn with_rows with_unit with_mark with_children without_children emptied with_declaration
effect_grows site w station (Order row) drawn = (map (λ (b : Batch). b.order) (map planned (new_orders (orders_in w) (row ∷ []))), map-append (λ (b : Batch). b.order) w.batches (map planned (new_orders (orders_in w) (row ∷ []))))
effect_grows site w station (Orders rows) drawn = (map (λ (b : Batch). b.order) (map planned (new_orders (orders_in w) rows)), map-append (λ (b : Batch). b.order) w.batches (map planned (new_orders (orders_in w) rows)))
effect_grows site w station (Start name) drawn = stays _ _ (maps (in_phase Started name) (in_phase-order Started name) w.batches)
effect_grows site w station (Close name) drawn = stays _ _ (maps (in_phase Closed name) (in_phase-order Closed name) w.batches)
effect_grows site w station (Amend name quantity) drawn = stays _ _ (maps (of_quantity quantity name) (of_quantity-order quantity name) w.batches)
effect_grows site w station deed drawn = stays _ _ refl

after_grows : (site : Setup) (w : World) (entry : Entry) → Grows (orders_of w) (orders_of (after site w entry))
unfolding after unless_broken
after_grows site w entry = by (broken site w entry.station entry.deed)
  where
    by : (rule : Option Rule) → Grows (orders_of w) (orders_of (unless_broken site w entry rule))
    by None = effect_grows site w entry.station entry.deed entry.drawn
    by (Some rule) = stays _ _ refl

all_grow : (site : Setup) (w : World) (entries : List Entry) → Grows (orders_of w) (orders_of (world_from site w entries))
unfolding world_from
all_grow site w [] = stays _ _ refl
all_grow site w (entry ∷ entries) =
    let one = after_grows site w entry in
    let rest = all_grow site (after site w entry) entries in
    (one.0 ++ rest.0, rest.1 ∙ ap (λ (os : List OrderRow). os ++ rest.0) one.1 ∙ append_assoc (orders_of w) one.0 rest.0)

-- ---- the number of a batch

in_front : {A : Type 0} (xs more : List A) (k : ℕ) (d : A) → k < length xs → get_or (xs ++ more) k d ≡ get_or xs k d
in_front [] more k d l = absurd (omega (arith, l))
in_front (x ∷ xs) more zero d l = refl
in_front (x ∷ xs) more (suc k) d l = in_front xs more k d (omega (arith, l))

abbrev before : Text → List Batch → List Batch
before name bs = take_while (λ (b : Batch). not (same b.order.batch name)) bs

-- one more is taken of a list with one more in front
pub one_taken : {A : Type 0} (n : ℕ) (x : A) (xs : List A) → length (take (1 + n) (x ∷ xs)) ≡ suc (length (take n xs))
one_taken n x xs = let e : 1 + n ≡ suc n = omega arith in ap (λ (k : ℕ). length (take k (x ∷ xs))) e

numbered : (bs : List Batch) (name : Text) (batch : Batch) → find (λ (b : Batch). same b.order.batch name) bs ≡ Some batch
    → (length (before name bs) < length bs) × (get_or (map (λ (b : Batch). b.order) bs) (length (before name bs)) batch.order ≡ batch.order)
numbered [] name batch e = absurd (cc)
numbered (b ∷ bs) name batch e =
    (elim (same b.order.batch name) as (λ (t : Bool). cond t (Some b) (find (λ (x : Batch). same x.order.batch name) bs) ≡ Some batch
    → (length (take (cond (not t) (1 + prefix_len (λ (x : Batch). not (same x.order.batch name)) bs) 0) (b ∷ bs)) < suc (length bs))
    × (get_or (b.order ∷ map (λ (x : Batch). x.order) bs) (length (take (cond (not t) (1 + prefix_len (λ (x : Batch). not (same x.order.batch name)) bs) 0) (b ∷ bs))) batch.order ≡ batch.order)) [
      | true ↦ λ f. let is : b ≡ batch = cc in (omega arith, ap (λ (x : Batch). x.order) is)
      | false ↦ λ f.
          let rest = numbered bs name batch f in
          let l = rest.0 in
          let one = one_taken (prefix_len (λ (x : Batch). not (same x.order.batch name)) bs) b bs in
          (omega (arith, l, one), ap (λ (k : ℕ). get_or (b.order ∷ map (λ (x : Batch). x.order) bs) k batch.order) one ∙ rest.1)
    ]) e

own_named : (w : World) (deed : Deed) (batch : Batch) → batch_for w deed ≡ Some batch → find (λ (b : Batch). same b.order.batch batch.order.batch) w.batches ≡ Some batch
unfolding batch_for batch_of
own_named w deed batch e =
    let passes : same batch.order.batch (batch_named w deed) ≡ true = find_passes (λ (b : Batch). same b.order.batch (batch_named w deed)) w.batches batch e in
    let is : batch.order.batch ≡ batch_named w deed = same-true batch.order.batch (batch_named w deed) passes in
    subst (λ (name : Text). find (λ (b : Batch). same b.order.batch name) w.batches ≡ Some batch) (sym is) e

-- ---- what each move is of

-- the move is of an entry of the history and of an order at its number, and is what is kept of it, with both
pub record IsOf (history : List Entry) (orders : List OrderRow) (moved : Move) : Type 0 where
  pub within : moved.place < length history
  pub entry : get_or history moved.place moved.kept ≡ moved.kept
  pub there : moved.batch < length orders
  pub order : get_or orders moved.batch moved.row ≡ moved.row
  pub again : move_again (kept_of moved) moved.kept moved.row ≡ moved
  pub event : has_event moved.kept.deed ≡ true

things_again : (site : Setup) (w : World) (deed : Deed) → has_event deed ≡ true → things_told deed (unnamed_in deed (things_of site w deed)) ≡ things_of site w deed
unfolding things_told unnamed_in things_of named has_event
things_again site w (Commission name codes) h = refl
things_again site w (Sample name items) h = refl
things_again site w (Reject name items) h = refl
things_again site w (Reinstate name items) h = refl
things_again site w (Destroy name items) h = refl
things_again site w (Decommission name items) h = refl
things_again site w (MakeUnit name level) h = refl
things_again site w (Pack unit children) h = refl
things_again site w (Unpack unit children) h = refl
things_again site w (UnpackAll unit) h = refl
things_again site w (Void unit) h = refl
things_again site w deed h = absurd (true≢false (sym h))

each_listed : (P : Move → Type 0) (f : Batch → Move) (o : Option Batch) → ((batch : Batch) → o ≡ Some batch → P (f batch)) → Every P (listed (option_map f o))
unfolding listed
each_listed P f None h = tt
each_listed P f (Some batch) h = (h batch refl, tt)

each_by : (P : Move → Type 0) (site : Setup) (w : World) (place : ℕ) (entry : Entry) → ((batch : Batch) → has_event entry.deed ≡ true → batch_for w entry.deed ≡ Some batch → P (move_of site w place entry batch)) → (rule : Option Rule)
    → Every P (moved_by site w place entry rule)
unfolding moved_by
each_by P site w place entry h (Some rule) = tt
each_by P site w place entry h None =
    (elim (has_event entry.deed) as (λ b. has_event entry.deed ≡ b → Every P (if b then listed (option_map (move_of site w place entry) (batch_for w entry.deed)) else [])) [
      | true ↦ λ e. each_listed P (move_of site w place entry) (batch_for w entry.deed) (λ batch f. h batch e f)
      | false ↦ λ e. tt
    ]) refl

one_is : (site : Setup) (w : World) (front : List Entry) (entry : Entry) (entries : List Entry) (batch : Batch) → has_event entry.deed ≡ true → batch_for w entry.deed ≡ Some batch
    → IsOf (front ++ entry ∷ entries) (orders_of (world_from site w (entry ∷ entries))) (move_of site w (length front) entry batch)
unfolding move_of kept_of move_again number_of
one_is site w front entry entries batch h e =
    let long = length-append front (entry ∷ entries) in
    let grows = all_grow site w (entry ∷ entries) in
    let at = numbered w.batches batch.order.batch batch (own_named w entry.deed batch e) in
    let there : length (before batch.order.batch w.batches) < length (orders_of w) = let same = length-map w.batches (λ (b : Batch). b.order) in let l = at.0 in omega (arith, l, same) in
    let longer = ap (λ (os : List OrderRow). length os) grows.1 ∙ length-append (orders_of w) grows.0 in
    record {
      within = omega (arith, long);
      entry = get_or-append_seam front entry entries entry;
      there = omega (arith, there, longer);
      order = ap (λ (os : List OrderRow). get_or os (length (before batch.order.batch w.batches)) batch.order) grows.1 ∙ in_front (orders_of w) grows.0 (length (before batch.order.batch w.batches)) batch.order there ∙ at.1;
      again = ap (λ (es : List Epc). record { place = length front; kept = entry; batch = length (before batch.order.batch w.batches); row = batch.order; epcs = es; parent = holder_of entry.deed }) (things_again site w entry.deed h);
      event = h;
    }

each_from : (site : Setup) (w : World) (front entries : List Entry) → Every (IsOf (front ++ entries) (orders_of (world_from site w entries))) (moves_from site w (length front) entries)
unfolding moves_from world_from
each_from site w front [] = tt
each_from site w front (entry ∷ entries) =
    let P : Move → Type 0 = IsOf (front ++ entry ∷ entries) (orders_of (world_from site (after site w entry) entries)) in
    let long : length (front ++ entry ∷ []) ≡ suc (length front) = length-append front (entry ∷ []) ∙ omega arith in
    let rest = each_from site (after site w entry) (front ++ entry ∷ []) entries in
    Every-append P (moved_by site w (length front) entry (broken site w entry.station entry.deed)) (moves_from site (after site w entry) (suc (length front)) entries)
    (each_by P site w (length front) entry (λ batch h e. one_is site w front entry entries batch h e) (broken site w entry.station entry.deed))
    (subst (λ (n : ℕ). Every P (moves_from site (after site w entry) n entries)) long
    (subst (λ (h : List Entry). Every (IsOf h (orders_of (world_from site (after site w entry) entries))) (moves_from site (after site w entry) (length (front ++ entry ∷ [])) entries)) (append_assoc front (entry ∷ []) entries) rest))

pub each_is : (site : Setup) (history : List Entry) → Every (IsOf history (orders_of (world_of site history))) (moves site history)
unfolding moves world_of
each_is site history = each_from site nothing_yet [] history
