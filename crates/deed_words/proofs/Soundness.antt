-- A lawful entry keeps a world sound.
use Rattle.std.proofs.Common.{◌≡◌, ℕ, ◌+◌, ◌≤◌, Bool, true, false, not, List, [], ◌∷◌, ◌++◌, length, map, sym, ◌∙◌, ap, refl, subst, arith, Option, None, Some, true≢false, inl, inr}
use Rattle.std.specs.Prelude.{find, option_map, nat_lt, option_and_then}
use Rattle.std.specs.List.{AllByRecursion as Every, IsDistinct}
use Rattle.std.specs.Option.{option_map_or}
use borrow.Author.Tests.{ltb-true}
use Rattle.deed_words.specs.Names.{Text, same, same_name, is_among}
use Rattle.epc_urn.specs.declared.epc.Epc.{Epc}
use Rattle.epc_urn.specs.declared.epc.Epc.TheVariants.{Item, Unit as Box}
use Rattle.deed_words.specs.Setups.{Setup, next_reference, reference_bound, IsProper}
use Rattle.deed_words.specs.declared.entry.Entry.{Entry}
use Rattle.deed_words.specs.declared.rule.Rule.{Rule}
use Rattle.deed_words.specs.declared.rule.Rule.TheVariants as rule
use Rattle.deed_words.specs.declared.deed.Deed.{Deed}
use Rattle.deed_words.specs.declared.deed.Deed.TheVariants.{Order, Orders, Start, Draw, Lend, Commission, Spoil, Giveback, Sample, Reject, Reinstate, Destroy, Decommission, Container as MakeUnit, Pack, Unpack, UnpackAll, Seal, Unseal, Void, Declare, Close, Amend}
use Rattle.deed_words.specs.declared.words.Phase.TheVariants.{Started, Closed}
use Rattle.deed_words.specs.declared.words.State.{State}
use Rattle.deed_words.specs.declared.words.State.TheVariants as state
use Rattle.deed_words.specs.declared.words.Mark.{Mark}
use Rattle.deed_words.specs.declared.words.Mark.TheVariants as mark
use Rattle.deed_words.specs.declared.words.Level.{Level}
use Rattle.deed_words.specs.declared.words.Level.TheVariants.{Case, Pallet}
use Rattle.deed_words.specs.declared.world.Row.{Row}
use Rattle.deed_words.specs.declared.world.Container.{Container}
use Rattle.deed_words.specs.declared.world.Pair.{Pair}
use Rattle.deed_words.specs.Chain.{when, each, holds_of, is_empty, numbers_below}
use Rattle.deed_words.specs.World.{World, nothing_yet, row_of, unit_of, parent, inside, home}
use Rattle.deed_words.specs.Deeds.{order_rows, unit_named, batch_with, batch_named, item_of, items_of, named}
use Rattle.deed_words.specs.Moves.{moved, is_active, is_sealed, is_void, told_state, told_mark}
use Rattle.deed_words.specs.Orders.{new_orders, orders_in}
use Rattle.deed_words.specs.Tests.{Test, unit_void, unit_sealed, site_full, sscc_spent, repeated, unknown_serial, is_known, other_batch, is_of, wrong_level, takes, strays, misfits, wrong_state, unfit, has_parent, not_child, unit_not_empty, nothing_inside}
use Rattle.deed_words.specs.Rules.{broken, rules_of, on_rows}
use Rattle.deed_words.specs.Effects.{effect, gtin_of, put_in, with_children, without_children, emptied}
use Rattle.deed_words.specs.Replies.{after, unless_broken}
use Rattle.deed_words.specs.History.{world_from, world_of, AllFollow, IsLawful, MayDraw, MayFollow, AreNewFor}
use Rattle.deed_words.specs.Sound.{IsSound, MayStandIn, StandsRightly}
use Rattle.deed_words.specs.Accounts.{is_case}
use Rattle.deed_words.proofs.Sameness.{same-true, same_name_equiv}
use Rattle.deed_words.proofs.Items.{Every-weaker, Every-both, Every-always, finds_itself}
use Rattle.deed_words.proofs.Broken.{when_None, option_map_None, each_when, each_map, differ}
use Rattle.std.proofs.lemmas.Bool.Decides.{nat_tests}
use Rattle.deed_words.specs.declared.words.What.TheVariants.{Batches, Serials, Units}
use Rattle.deed_words.proofs.Allowed.{NoneOf, allowed, is_there_too, at_found, has_batch, has_unit, has_begun, has_room, among_every, not_false}
use Rattle.deed_words.proofs.SoundBatches.{sound_phase, sound_quantity, sound_declaration, sound_orders}
use Rattle.deed_words.proofs.SoundRows.{sound_drawn}
use Rattle.deed_words.proofs.Unknown.{unknown_new, distinct_new}
use Rattle.deed_words.proofs.SoundMoves.{sound_move, sound_lend}
use Rattle.deed_words.proofs.SoundUnits.{sound_unit, sound_seal, sound_unseal, sound_void}
use Rattle.deed_words.proofs.SoundPairs.{sound_children, sound_taken}

-- what may be packed stands rightly
level-case : (w : World) (l : Level) (g n : Text) → takes w l (Item g n) ≡ true → l ≡ Case
unfolding takes
level-case w Case g n e = refl
level-case w Pallet g n e = absurd (true≢false (sym e))

level-pallet : (w : World) (l : Level) (sscc : Text) → takes w l (Box sscc) ≡ true → (l ≡ Pallet) × (holds_of (λ (unit : Container). is_case unit.level) (unit_of w sscc) ≡ true)
unfolding takes
level-pallet w Case sscc e = absurd (true≢false (sym e))
level-pallet w Pallet sscc e = (refl, e)

active-state : (s : State) → is_active s ≡ true → s ≡ state.Active
unfolding is_active
active-state state.Active e = refl
active-state state.Fresh e = absurd (true≢false (sym e))
active-state state.Lent e = absurd (true≢false (sym e))
active-state state.Returned e = absurd (true≢false (sym e))
active-state state.Spoiled e = absurd (true≢false (sym e))
active-state state.Sampled e = absurd (true≢false (sym e))
active-state state.Rejected e = absurd (true≢false (sym e))
active-state state.Gone e = absurd (true≢false (sym e))

sealed-mark : (m : Mark) → is_sealed m ≡ true → m ≡ mark.Sealed
unfolding is_sealed
sealed-mark mark.Sealed e = refl
sealed-mark mark.Filling e = absurd (true≢false (sym e))
sealed-mark mark.Void e = absurd (true≢false (sym e))

case-level : (l : Level) → is_case l ≡ true → l ≡ Case
unfolding is_case
case-level Case e = refl
case-level Pallet e = absurd (true≢false (sym e))

record MayGoIn (w : World) (u : Text) (children : List Epc) (into : Level) (c : Epc) : Type 0 where
  known : is_known w (Pack u children) c ≡ true
  home : is_of w (batch_with w u) c ≡ true
  level : takes w into c ≡ true
  fit : unfit w (Pack u children) c ≡ None

may_stand : (w : World) (u : Text) (children : List Epc) (unit : Container) → unit_of w u ≡ Some unit → is_void unit.mark ≡ false → (c : Epc) → MayGoIn w u children unit.level c → StandsRightly w (put_in u c)
unfolding StandsRightly MayStandIn is_known is_of home unfit batch_with holds_of
may_stand w u children unit at held (Item g n) m =
    let row = is_there_too (row_of w g n) m.known in
    let batch : option_map_or (λ (x : Container). x.batch) (unit_of w u) [] ≡ unit.batch = ap (λ (o : Option Container). option_map_or (λ (x : Container). x.batch) o []) at in
    let home : same (option_map_or (λ (x : Container). x.batch) (unit_of w u) []) row.0.batch ≡ true =
    sym (ap (λ (o : Option Row). holds_of (same (option_map_or (λ (x : Container). x.batch) (unit_of w u) [])) (option_map (λ (r : Row). r.batch) o)) row.1) ∙ m.home in
    let fit : when (not (is_active row.0.state)) (told_state row.0.state) ≡ None =
    sym (ap (option_and_then (λ (r : Row). when (not (is_active r.state)) (told_state r.state))) row.1) ∙ m.fit in
    let act = active-state row.0.state (not_false (is_active row.0.state) (when_None (not (is_active row.0.state)) (told_state row.0.state) fit)) in
    let level = level-case w unit.level g n m.level in
    (unit, at, held, (row.0, row.1, act, sym (same-true _ row.0.batch home) ∙ batch, level))
may_stand w u children unit at held (Box sscc) m =
    let box = is_there_too (unit_of w sscc) m.known in
    let batch : option_map_or (λ (x : Container). x.batch) (unit_of w u) [] ≡ unit.batch = ap (λ (o : Option Container). option_map_or (λ (x : Container). x.batch) o []) at in
    let home : same (option_map_or (λ (x : Container). x.batch) (unit_of w u) []) box.0.batch ≡ true =
    sym (ap (λ (o : Option Container). holds_of (same (option_map_or (λ (x : Container). x.batch) (unit_of w u) [])) (option_map (λ (r : Container). r.batch) o)) box.1) ∙ m.home in
    let fit : when (not (is_sealed box.0.mark)) (told_mark box.0.mark) ≡ None =
    sym (ap (option_and_then (λ (r : Container). when (not (is_sealed r.mark)) (told_mark r.mark))) box.1) ∙ m.fit in
    let shut = sealed-mark box.0.mark (not_false (is_sealed box.0.mark) (when_None (not (is_sealed box.0.mark)) (told_mark box.0.mark) fit)) in
    let level = level-pallet w unit.level sscc m.level in
    let case = case-level box.0.level (at_found (λ (x : Container). is_case x.level) (unit_of w sscc) box.0 true box.1 level.1) in
    (unit, at, held, (box.0, box.1, case, shut, sym (same-true _ box.0.batch home) ∙ batch, level.0))

pub nots : {A : Type 0} (test : A → Bool) (xs : List A) → Every (λ x. not (test x) ≡ false) xs → Every (λ x. test x ≡ true) xs
nots test xs a = Every-weaker (λ x. not (test x) ≡ false) (λ x. test x ≡ true) (λ x h. not_false (test x) h) xs a

sound_pack : (site : Setup) (w : World) (station : ℕ) (u : Text) (children : List Epc) → NoneOf (map (λ (test : Test). test site w station (Pack u children)) (rules_of (Pack u children))) → IsSound site w → IsSound site (with_children w u children)
unfolding NoneOf rules_of unit_void repeated unknown_serial other_batch strays wrong_level misfits wrong_state has_parent named unit_named batch_named
sound_pack site w station u children p s =
    let unit = has_unit site w station (Pack u children) p.1.0 in
    let held : is_void unit.0.mark ≡ false = at_found (λ (x : Container). is_void x.mark) (unit_of w u) unit.0 false unit.1 (when_None (holds_of (λ (x : Container). is_void x.mark) (unit_of w u)) rule.UnitVoid p.1.1.1.0) in
    let distinct : IsDistinct same_name children = differ rule.RepeatedInRequest children p.1.1.1.1.1.1.0 in
    let known = nots (is_known w (Pack u children)) children (each_when (λ (c : Epc). not (is_known w (Pack u children) c)) rule.UnknownSerial children p.1.1.1.1.1.1.1.0) in
    let homes = nots (is_of w (batch_with w u)) children (each_when (λ (c : Epc). not (is_of w (batch_with w u) c)) rule.OtherBatch children p.1.1.1.1.1.1.1.1.0) in
    let fitting : each children (λ k name. when (not (takes w unit.0.level name)) (rule.WrongLevel k)) ≡ None =
    sym (ap (option_and_then (λ (x : Container). each children (λ k name. when (not (takes w x.level name)) (rule.WrongLevel k)))) unit.1) ∙ p.1.1.1.1.1.1.1.1.1.0 in
    let levels = nots (takes w unit.0.level) children (each_when (λ (c : Epc). not (takes w unit.0.level c)) rule.WrongLevel children fitting) in
    let fits = each_map (unfit w (Pack u children)) rule.WrongState children p.1.1.1.1.1.1.1.1.1.1.0 in
    let free = each_map (parent w) rule.HasParent children p.1.1.1.1.1.1.1.1.1.1.1.0 in
    let A : Epc → Type 0 = λ c. (is_known w (Pack u children) c ≡ true) × (is_of w (batch_with w u) c ≡ true) in
    let B : Epc → Type 0 = λ c. (takes w unit.0.level c ≡ true) × (unfit w (Pack u children) c ≡ None) in
    let one : Every A children = Every-both (λ (c : Epc). is_known w (Pack u children) c ≡ true) (λ (c : Epc). is_of w (batch_with w u) c ≡ true) A (λ c a b. (a, b)) children known homes in
    let two : Every B children = Every-both (λ (c : Epc). takes w unit.0.level c ≡ true) (λ (c : Epc). unfit w (Pack u children) c ≡ None) B (λ c a b. (a, b)) children levels fits in
    sound_children site w u children distinct free
    (Every-both A B (λ (c : Epc). StandsRightly w (put_in u c)) (λ c a b. may_stand w u children unit.0 unit.1 held c (record { known = a.0; home = a.1; level = b.0; fit = b.1 })) children one two) s

-- nothing but the unit's own things is taken out
sound_unpack : (site : Setup) (w : World) (station : ℕ) (u : Text) (children : List Epc) → NoneOf (map (λ (test : Test). test site w station (Unpack u children)) (rules_of (Unpack u children))) → IsSound site w → IsSound site (without_children w children)
unfolding NoneOf rules_of unit_sealed not_child named unit_named without_children parent
sound_unpack site w station u children p s =
    let unit = has_unit site w station (Unpack u children) p.1.0 in
    let open_ : is_sealed unit.0.mark ≡ false = at_found (λ (x : Container). is_sealed x.mark) (unit_of w u) unit.0 false unit.1 (when_None (holds_of (λ (x : Container). is_sealed x.mark) (unit_of w u)) rule.UnitSealed p.1.1.1.1.0) in
    let own = nots (λ (c : Epc). holds_of (same u) (parent w c)) children (each_when (λ (c : Epc). not (holds_of (same u) (parent w c))) rule.NotChild children p.1.1.1.1.1.1.1.0) in
    let selves : Every (λ (q : Pair). find (λ (x : Pair). same_name x.child q.child) w.pairs ≡ Some q) w.pairs = finds_itself same_name same_name_equiv (λ (q : Pair). q.child) w.pairs s.one_parent in
    sound_taken site w u unit.0 (λ (q : Pair). not (is_among children q.child)) unit.1 open_
    (Every-weaker (λ (q : Pair). find (λ (x : Pair). same_name x.child q.child) w.pairs ≡ Some q) (λ (q : Pair). not (is_among children q.child) ≡ false → q.parent ≡ u)
    (λ q self k.
    let mine : holds_of (same u) (parent w q.child) ≡ true = among_every (λ (c : Epc). holds_of (same u) (parent w c) ≡ true) children q.child (not_false (is_among children q.child) k) own in
    sym (same-true u q.parent (at_found (same u) (parent w q.child) q.parent true (ap (option_map (λ (x : Pair). x.parent)) self) mine)))
    w.pairs selves) s

sound_unpack_all : (site : Setup) (w : World) (station : ℕ) (u : Text) → NoneOf (map (λ (test : Test). test site w station (UnpackAll u)) (rules_of (UnpackAll u))) → IsSound site w → IsSound site (emptied w u)
unfolding NoneOf rules_of unit_sealed unit_named emptied
sound_unpack_all site w station u p s =
    let unit = has_unit site w station (UnpackAll u) p.1.0 in
    let open_ : is_sealed unit.0.mark ≡ false = at_found (λ (x : Container). is_sealed x.mark) (unit_of w u) unit.0 false unit.1 (when_None (holds_of (λ (x : Container). is_sealed x.mark) (unit_of w u)) rule.UnitSealed p.1.1.1.1.0) in
    sound_taken site w u unit.0 (λ (q : Pair). not (same q.parent u)) unit.1 open_
    (Every-always (λ (q : Pair). not (same q.parent u) ≡ false → q.parent ≡ u) (λ q k. same-true q.parent u (not_false (same q.parent u) k)) w.pairs) s

empty-from_none : {A : Type 0} (xs : List A) → nat_lt 0 (length xs) ≡ false → is_empty xs ≡ true
unfolding is_empty
empty-from_none [] e = refl
empty-from_none (x ∷ xs) e = absurd (true≢false (grind (arith, nat_tests)))

sound_effect : (site : Setup) (w : World) (station : ℕ) (deed : Deed) (drawn : List Text) → NoneOf (map (λ (test : Test). test site w station deed) (rules_of deed)) → MayDraw site w None deed drawn → IsSound site w → IsSound site (effect site w station deed drawn)
unfolding NoneOf rules_of on_rows effect site_full order_rows MayDraw sscc_spent next_reference nothing_inside has_parent unit_not_empty named batch_named unit_named moved
sound_effect site w station (Order row) drawn p may s = sound_orders site w (row ∷ []) (has_room Batches (length w.batches) (length (new_orders (orders_in w) (row ∷ []))) 4096 p.1.1.1.0) s
sound_effect site w station (Orders rows) drawn p may s = sound_orders site w rows (has_room Batches (length w.batches) (length (new_orders (orders_in w) rows)) 4096 p.1.1.1.1.0) s
sound_effect site w station (Start name) drawn p may s = sound_phase site w Started name (λ e. absurd (cc)) s
sound_effect site w station (Draw name count) drawn p may s =
    let batch = has_batch site w station (Draw name count) p.1.0 in
    let new : AreNewFor site w (gtin_of w name) count drawn = may in
    sound_drawn site w name drawn batch.0 batch.1 (distinct_new site w (gtin_of w name) count drawn new) (unknown_new site w (gtin_of w name) count drawn new)
    (subst (λ k. length w.rows + k ≤ 1000000) (sym new.counted) (has_room Serials (length w.rows) count 1000000 p.1.1.1.1.0)) s
sound_effect site w station (Lend name count) drawn p may s = sound_lend site w station name count (λ batch at. has_begun site w station (Lend name count) batch p.1.1.0 at) s
sound_effect site w station (MakeUnit name level) drawn p may s =
    let batch = has_batch site w station (MakeUnit name level) p.1.0 in
    let below : nat_lt (site.reference + length w.units) (reference_bound site) ≡ true = not_false (nat_lt (site.reference + length w.units) (reference_bound site)) (when_None (not (nat_lt (site.reference + length w.units) (reference_bound site))) rule.SsccSpent p.1.1.1.1.1.0) in
    sound_unit site w name level batch.0 batch.1 (has_begun site w station (MakeUnit name level) batch.0 p.1.1.0 batch.1) (has_room Units (length w.units) 1 65536 p.1.1.1.1.0) (ltb-true _ _ below) s
sound_effect site w station (Pack unit children) drawn p may s = sound_pack site w station unit children p s
sound_effect site w station (Unpack unit children) drawn p may s = sound_unpack site w station unit children p s
sound_effect site w station (UnpackAll unit) drawn p may s = sound_unpack_all site w station unit p s
sound_effect site w station (Seal unit) drawn p may s = sound_seal site w unit (when_None (is_empty (inside w unit)) rule.NothingInside p.1.1.1.1.1.0) s
sound_effect site w station (Unseal unit) drawn p may s = sound_unseal site w unit (option_map_None (rule.HasParent 0) (parent w (Box unit)) p.1.1.1.1.1.0) s
sound_effect site w station (Void unit) drawn p may s = sound_void site w unit (empty-from_none (inside w unit) (when_None (nat_lt 0 (length (inside w unit))) (rule.UnitNotEmpty (length (inside w unit))) p.1.1.1.1.1.0)) s
sound_effect site w station (Declare name good spoiled returned) drawn p may s = sound_declaration site w (record { batch = name; line = station; good = good; spoiled = spoiled; returned = returned }) s
sound_effect site w station (Close name) drawn p may s = sound_phase site w Closed name (λ e. absurd (cc)) s
sound_effect site w station (Amend name quantity) drawn p may s = sound_quantity site w quantity name s
sound_effect site w station (Commission name codes) drawn p may s = sound_move site w (Commission name codes) (map item_of codes) (inl refl) s
sound_effect site w station (Spoil name serials) drawn p may s = sound_move site w (Spoil name serials) (items_of w name serials) (inl refl) s
sound_effect site w station (Giveback name serials) drawn p may s = sound_move site w (Giveback name serials) (items_of w name serials) (inl refl) s
sound_effect site w station (Reinstate name items) drawn p may s = sound_move site w (Reinstate name items) items (inl refl) s
sound_effect site w station (Destroy name items) drawn p may s = sound_move site w (Destroy name items) items (inl refl) s
sound_effect site w station (Sample name items) drawn p may s = sound_move site w (Sample name items) items (inr (each_map (parent w) rule.HasParent items p.1.1.1.1.1.1.1.1.1.0)) s
sound_effect site w station (Reject name items) drawn p may s = sound_move site w (Reject name items) items (inr (each_map (parent w) rule.HasParent items p.1.1.1.1.1.1.1.1.1.0)) s
sound_effect site w station (Decommission name items) drawn p may s = sound_move site w (Decommission name items) items (inr (each_map (parent w) rule.HasParent items p.1.1.1.1.1.1.1.1.1.0)) s

sound_unless : (site : Setup) (w : World) (entry : Entry) (rule : Option Rule) → broken site w entry.station entry.deed ≡ rule → MayDraw site w rule entry.deed entry.drawn → IsSound site w → IsSound site (unless_broken site w entry rule)
unfolding unless_broken
sound_unless site w entry None e may s = sound_effect site w entry.station entry.deed entry.drawn (allowed site w entry.station entry.deed e) may s
sound_unless site w entry (Some rule) e may s = s

-- a lawful entry keeps a world sound
pub sound_after : (site : Setup) (history : List Entry) (w : World) (entry : Entry) → MayFollow site history w entry → IsSound site w → IsSound site (after site w entry)
unfolding after
sound_after site history w entry may s = sound_unless site w entry (broken site w entry.station entry.deed) refl may.drawn s

sound_from : (site : Setup) (history : List Entry) (w : World) (entries : List Entry) → AllFollow site history w entries → IsSound site w → IsSound site (world_from site w entries)
unfolding AllFollow world_from
sound_from site history w [] may s = s
sound_from site history w (entry ∷ entries) may s = sound_from site (history ++ entry ∷ []) (after site w entry) entries may.1 (sound_after site history w entry may.0 s)

pub sound_nothing : (site : Setup) → IsProper site → IsSound site nothing_yet
unfolding IsDistinct numbers_below
sound_nothing site proper =
    record {
      batches_differ = tt;
      rows_differ = tt;
      of_a_batch = tt;
      units_of_a_batch = tt;
      issued = refl;
      fresh = tt;
      one_parent = tt;
      packed = tt;
      sealed = tt;
      planned = tt;
      in_range = omega (arith, proper);
      few_serials = omega arith;
      few_units = omega arith;
      few_batches = omega arith;
    }

-- the world of a lawful history is sound
pub lawful_is_sound : (site : Setup) (history : List Entry) → IsProper site → IsLawful site history → IsSound site (world_of site history)
unfolding IsLawful world_of
lawful_is_sound site history proper lawful = sound_from site [] nothing_yet history lawful (sound_nothing site proper)
