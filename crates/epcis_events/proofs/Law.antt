-- Replaying the events of a lawful history gives the world that it led to.
use Rattle.std.proofs.Common.{◌≡◌, ℕ, suc, Bool, true, false, ◌&&◌, not, List, [], ◌∷◌, ◌++◌, map, sym, ◌∙◌, ap, refl, subst, Option, None, Some, true≢false}
use Rattle.std.specs.Prelude.{filter, filter_map, is_none, is_some, unwrap_or, length, if◌then◌else◌}
use Rattle.std.specs.Option.{option_map_or}
use Rattle.std.specs.List.{AllByRecursion as Every, IsDistinct}
use Rattle.std.proofs.lemmas.Bool.{and_parts}
use Rattle.std.proofs.lemmas.List.Elements.{filter-append, filter_map-append}
use Rattle.epc_urn.specs.declared.epc.Epc.{Epc}
use Rattle.epc_urn.specs.declared.epc.Epc.TheVariants.{Item, Unit as Box}
use Rattle.gs1_element.specs.declared.code.Code.{Code}
use Rattle.deed_words.specs.declared.entry.Entry.{Entry}
use Rattle.deed_words.specs.declared.entry.Move.{Move}
use Rattle.deed_words.specs.declared.rule.Rule.{Rule}
use Rattle.deed_words.specs.declared.rule.Rule.TheVariants as rule
use Rattle.deed_words.specs.declared.deed.Deed.{Deed}
use Rattle.deed_words.specs.declared.deed.Deed.TheVariants.{Order, Orders, Start, Draw, Lend, Commission, Spoil, Giveback, Sample, Reject, Reinstate, Destroy, Decommission, Container as MakeUnit, Pack, Unpack, UnpackAll, Seal, Unseal, Void, Declare, Close, Amend}
use Rattle.deed_words.specs.declared.words.State.{State}
use Rattle.deed_words.specs.declared.words.State.TheVariants as state
use Rattle.deed_words.specs.declared.words.Mark.TheVariants as mark
use Rattle.deed_words.specs.declared.words.Level.{Level}
use Rattle.deed_words.specs.declared.world.Batch.{Batch}
use Rattle.deed_words.specs.declared.world.Container.{Container}
use Rattle.deed_words.specs.Setups.{Setup, IsProper, code_of}
use Rattle.deed_words.specs.Names.{Text, same, same_name, is_among}
use Rattle.deed_words.specs.Chain.{holds_of, is_empty}
use Rattle.deed_words.specs.World.{World, nothing_yet, row_of, unit_of, batch_of, parent, home}
use Rattle.deed_words.specs.Deeds.{unit_named, batch_with, batch_named, batch_for, item_of, items_of, named}
use Rattle.deed_words.specs.Moves.{moved, is_void}
use Rattle.deed_words.specs.Tests.{Test, unit_void, out_of_range, repeated, unknown_serial, is_known, other_batch, is_of, fits_order, strays, wrong_state, unfit, not_child}
use Rattle.deed_words.specs.Rules.{broken, rules_of, on_rows}
use Rattle.deed_words.specs.Effects.{effect, with_orders, with_phase, with_quantity, with_drawn, with_rows, moved_row, with_unit, with_mark, with_declaration}
use Rattle.deed_words.specs.Replies.{after, unless_broken}
use Rattle.deed_words.specs.History.{world_from, world_of, AllFollow, IsLawful}
use Rattle.deed_words.specs.Sound.{IsSound}
use Rattle.deed_words.proofs.Items.{Every-weaker, Every-map, find_Some}
use Rattle.deed_words.proofs.Broken.{when_None, each_when, each_map, differ}
use Rattle.deed_words.proofs.Allowed.{NoneOf, allowed, at_found, is_there_too, has_batch, has_unit}
use Rattle.deed_words.proofs.Soundness.{sound_after, sound_nothing, nots}
use Rattle.deed_words.specs.Happenings.{has_event, things_of, holder_of, moved_by, moves_from, moves}
use Rattle.epcis_events.specs.Events.{kind_of, event_of}
use Rattle.epcis_events.specs.declared.event.Event.{Event}
use Rattle.epcis_events.specs.Replaying.{Replayed, nothing_live, applied, fed, replay_from}
use Rattle.epcis_events.specs.There.{is_live}
use Rattle.epcis_events.proofs.Parts.{Chosen, there_in, paired_in, IsReplayed, stays, comes_if, goes_if, stays_if}
use Rattle.epcis_events.proofs.RowsThere.{MayMove, may_move, Turns, was_there, there_elsewhere, there_more, there_less, there_moved_still, there_lent, there_drawn}
use Rattle.epcis_events.proofs.UnitsThere.{code_is_new, new_wasnt_there, there_made, there_made_elsewhere, paired_made, paired_marked, there_remarked, there_voided, there_voided_elsewhere}
use Rattle.epcis_events.proofs.PairsThere.{packed, unpacked, unpacked_all}
use Rattle.epcis_events.proofs.Happens.{by_kind, happens, StandsFor, told}

-- where rows, units and pairs are as they were
there_same : (mine : Chosen) (w w' : World) → w'.rows ≡ w.rows → w'.units ≡ w.units → (name : Epc) → there_in mine w' name ≡ there_in mine w name
unfolding there_in row_of unit_of
there_same mine w w' rows units (Item gtin serial) = rw rows refl
there_same mine w w' rows units (Box sscc) = rw units refl

paired_same : (mine : Chosen) (w w' : World) → w'.units ≡ w.units → w'.pairs ≡ w.pairs → paired_in mine w' ≡ paired_in mine w
unfolding paired_in batch_with unit_of
paired_same mine w w' units pairs = rw (units, pairs) refl

quiet : (mine : Chosen) (w w' : World) (r : Replayed) → IsReplayed mine w r → w'.rows ≡ w.rows → w'.units ≡ w.units → w'.pairs ≡ w.pairs → IsReplayed mine w' r
quiet mine w w' r s rows units pairs = stays mine w w' r s (paired_same mine w w' units pairs) (there_same mine w w' rows units)

-- what the moves do with live rows

commission_turns : (name : Text) (codes : List Code) → Turns (Commission name codes) false true
unfolding moved is_live
commission_turns name codes = record { was = was; is = is }
  where
    was : (s : State) → is_none (moved (Commission name codes) s) ≡ false → is_live s ≡ false
    was state.Lent e = refl
    was state.Fresh e = refl
    was state.Returned e = refl
    was state.Spoiled e = refl
    was state.Active e = absurd (true≢false e)
    was state.Sampled e = absurd (true≢false e)
    was state.Rejected e = absurd (true≢false e)
    was state.Gone e = refl

    is : (s : State) → is_none (moved (Commission name codes) s) ≡ false → is_live (unwrap_or (moved (Commission name codes) s) s) ≡ true
    is state.Lent e = refl
    is state.Fresh e = absurd (true≢false e)
    is state.Returned e = absurd (true≢false e)
    is state.Spoiled e = absurd (true≢false e)
    is state.Active e = refl
    is state.Sampled e = refl
    is state.Rejected e = refl
    is state.Gone e = absurd (true≢false e)

destroy_turns : (name : Text) (items : List Epc) → Turns (Destroy name items) true false
unfolding moved is_live
destroy_turns name items = record { was = was; is = is }
  where
    was : (s : State) → is_none (moved (Destroy name items) s) ≡ false → is_live s ≡ true
    was state.Lent e = absurd (true≢false e)
    was state.Fresh e = absurd (true≢false e)
    was state.Returned e = absurd (true≢false e)
    was state.Spoiled e = absurd (true≢false e)
    was state.Active e = refl
    was state.Sampled e = refl
    was state.Rejected e = refl
    was state.Gone e = absurd (true≢false e)

    is : (s : State) → is_none (moved (Destroy name items) s) ≡ false → is_live (unwrap_or (moved (Destroy name items) s) s) ≡ false
    is state.Lent e = refl
    is state.Fresh e = refl
    is state.Returned e = refl
    is state.Spoiled e = refl
    is state.Active e = absurd (true≢false e)
    is state.Sampled e = refl
    is state.Rejected e = refl
    is state.Gone e = refl

decommission_turns : (name : Text) (items : List Epc) → Turns (Decommission name items) true false
unfolding moved is_live
decommission_turns name items = record { was = was; is = is }
  where
    was : (s : State) → is_none (moved (Decommission name items) s) ≡ false → is_live s ≡ true
    was state.Lent e = absurd (true≢false e)
    was state.Fresh e = absurd (true≢false e)
    was state.Returned e = absurd (true≢false e)
    was state.Spoiled e = absurd (true≢false e)
    was state.Active e = refl
    was state.Sampled e = refl
    was state.Rejected e = refl
    was state.Gone e = absurd (true≢false e)

    is : (s : State) → is_none (moved (Decommission name items) s) ≡ false → is_live (unwrap_or (moved (Decommission name items) s) s) ≡ false
    is state.Lent e = refl
    is state.Fresh e = refl
    is state.Returned e = refl
    is state.Spoiled e = refl
    is state.Active e = refl
    is state.Sampled e = absurd (true≢false e)
    is state.Rejected e = absurd (true≢false e)
    is state.Gone e = refl

spoil_still : (name : Text) (serials : List Text) (s : State) → is_live (unwrap_or (moved (Spoil name serials) s) s) ≡ is_live s
unfolding moved is_live
spoil_still name serials state.Lent = refl
spoil_still name serials s = refl

giveback_still : (name : Text) (serials : List Text) (s : State) → is_live (unwrap_or (moved (Giveback name serials) s) s) ≡ is_live s
unfolding moved is_live
giveback_still name serials state.Lent = refl
giveback_still name serials s = refl

sample_still : (name : Text) (items : List Epc) (s : State) → is_live (unwrap_or (moved (Sample name items) s) s) ≡ is_live s
unfolding moved is_live
sample_still name items state.Active = refl
sample_still name items s = refl

reject_still : (name : Text) (items : List Epc) (s : State) → is_live (unwrap_or (moved (Reject name items) s) s) ≡ is_live s
unfolding moved is_live
reject_still name items state.Active = refl
reject_still name items s = refl

reinstate_still : (name : Text) (items : List Epc) (s : State) → is_live (unwrap_or (moved (Reinstate name items) s) s) ≡ is_live s
unfolding moved is_live
reinstate_still name items state.Rejected = refl
reinstate_still name items s = refl

-- the names that may move

may_commission : (w : World) (name : Text) (codes : List Code) (c : Epc) → is_known w (Commission name codes) c ≡ true → is_of w name c ≡ true → unfit w (Commission name codes) c ≡ None → MayMove w (Commission name codes) name c
unfolding is_known is_of home unfit MayMove
may_commission w name codes (Item gtin serial) known home fit = may_move w (Commission name codes) name gtin serial known home fit
may_commission w name codes (Box sscc) known home fit = absurd (true≢false (sym known))

may_destroy : (w : World) (name : Text) (items : List Epc) (c : Epc) → is_known w (Destroy name items) c ≡ true → is_of w name c ≡ true → unfit w (Destroy name items) c ≡ None → MayMove w (Destroy name items) name c
unfolding is_known is_of home unfit MayMove
may_destroy w name items (Item gtin serial) known home fit = may_move w (Destroy name items) name gtin serial known home fit
may_destroy w name items (Box sscc) known home fit = absurd (true≢false (sym known))

may_decommission : (w : World) (name : Text) (items : List Epc) (c : Epc) → is_known w (Decommission name items) c ≡ true → is_of w name c ≡ true → unfit w (Decommission name items) c ≡ None → MayMove w (Decommission name items) name c
unfolding is_known is_of home unfit MayMove
may_decommission w name items (Item gtin serial) known home fit = may_move w (Decommission name items) name gtin serial known home fit
may_decommission w name items (Box sscc) known home fit = absurd (true≢false (sym known))

-- from three facts on each name
all_three : (A B C P : Epc → Type 0) → ((c : Epc) → A c → B c → C c → P c) → (names : List Epc) → Every A names → Every B names → Every C names → Every P names
all_three A B C P f [] a b c = tt
all_three A B C P f (name ∷ names) a b c = (f name a.0 b.0 c.0, all_three A B C P f names a.1 b.1 c.1)

abbrev NoneBroken : Setup → World → ℕ → Deed → Type 0
NoneBroken site w station deed = NoneOf (map (λ (test : Test). test site w station deed) (rules_of deed))

replayed_commission : (mine : Chosen) (site : Setup) (w : World) (station : ℕ) (name : Text) (codes : List Code) (r : Replayed) → NoneBroken site w station (Commission name codes) → IsReplayed mine w r
    → IsReplayed mine (with_rows w (moved_row (Commission name codes)) (map item_of codes)) (if mine name then record r { live = r.live ++ map item_of codes } else r)
unfolding NoneOf rules_of on_rows repeated unknown_serial other_batch wrong_state named with_rows
replayed_commission mine site w station name codes r p s =
    let deed : Deed = Commission name codes in
    let names : List Epc = map item_of codes in
    let distinct : IsDistinct same_name names = differ rule.RepeatedInRequest names p.1.1.1.1.1.0 in
    let known = nots (is_known w deed) names (each_when (λ (c : Epc). not (is_known w deed c)) rule.UnknownSerial names p.1.1.1.1.1.1.0) in
    let fitting : Code → Bool = λ code. is_of w name (item_of code) && fits_order (batch_of w name) code in
    let ours = nots fitting codes (each_when (λ (code : Code). not (fitting code)) rule.OtherBatch codes p.1.1.1.1.1.1.1.0) in
    let homes : Every (λ (c : Epc). is_of w name c ≡ true) names =
    Every-map (λ (c : Epc). is_of w name c ≡ true) item_of codes (Every-weaker (λ (code : Code). fitting code ≡ true) (λ (code : Code). is_of w name (item_of code) ≡ true) (λ code h. (and_parts (is_of w name (item_of code)) (fits_order (batch_of w name) code) h).0) codes ours) in
    let fits = each_map (unfit w deed) rule.WrongState names p.1.1.1.1.1.1.1.1.0 in
    let may = all_three (λ (c : Epc). is_known w deed c ≡ true) (λ (c : Epc). is_of w name c ≡ true) (λ (c : Epc). unfit w deed c ≡ None) (MayMove w deed name) (may_commission w name codes) names known homes fits in
    let turns = commission_turns name codes in
    comes_if mine w (with_rows w (moved_row deed) names) r name names s (paired_same mine w (with_rows w (moved_row deed) names) refl refl)
    (λ e. there_more mine w deed name names turns may e)
    (λ e. there_elsewhere mine w deed name false true names turns may e)
    distinct
    (Every-weaker (MayMove w deed name) (λ (c : Epc). there_in mine w c ≡ false) (λ c m. was_there mine w deed name false true turns c m ∙ never (mine name)) names may)
  where
    never : (b : Bool) → (b && false) ≡ false
    never true = refl
    never false = refl

replayed_destroy : (mine : Chosen) (site : Setup) (w : World) (station : ℕ) (name : Text) (items : List Epc) (r : Replayed) → NoneBroken site w station (Destroy name items) → IsReplayed mine w r
    → IsReplayed mine (with_rows w (moved_row (Destroy name items)) items) (if mine name then record r { live = filter (λ c. not (is_among items c)) r.live } else r)
unfolding NoneOf rules_of on_rows unknown_serial other_batch strays wrong_state named batch_named with_rows
replayed_destroy mine site w station name items r p s =
    let deed : Deed = Destroy name items in
    let known = nots (is_known w deed) items (each_when (λ (c : Epc). not (is_known w deed c)) rule.UnknownSerial items p.1.1.1.1.1.1.0) in
    let homes = nots (is_of w name) items (each_when (λ (c : Epc). not (is_of w name c)) rule.OtherBatch items p.1.1.1.1.1.1.1.0) in
    let fits = each_map (unfit w deed) rule.WrongState items p.1.1.1.1.1.1.1.1.0 in
    let may = all_three (λ (c : Epc). is_known w deed c ≡ true) (λ (c : Epc). is_of w name c ≡ true) (λ (c : Epc). unfit w deed c ≡ None) (MayMove w deed name) (may_destroy w name items) items known homes fits in
    let turns = destroy_turns name items in
    goes_if mine w (with_rows w (moved_row deed) items) r name items s (paired_same mine w (with_rows w (moved_row deed) items) refl refl)
    (λ e. there_less mine w deed name items turns may)
    (λ e. there_elsewhere mine w deed name true false items turns may e)

replayed_decommission : (mine : Chosen) (site : Setup) (w : World) (station : ℕ) (name : Text) (items : List Epc) (r : Replayed) → NoneBroken site w station (Decommission name items) → IsReplayed mine w r
    → IsReplayed mine (with_rows w (moved_row (Decommission name items)) items) (if mine name then record r { live = filter (λ c. not (is_among items c)) r.live } else r)
unfolding NoneOf rules_of on_rows unknown_serial other_batch strays wrong_state named batch_named with_rows
replayed_decommission mine site w station name items r p s =
    let deed : Deed = Decommission name items in
    let known = nots (is_known w deed) items (each_when (λ (c : Epc). not (is_known w deed c)) rule.UnknownSerial items p.1.1.1.1.1.1.0) in
    let homes = nots (is_of w name) items (each_when (λ (c : Epc). not (is_of w name c)) rule.OtherBatch items p.1.1.1.1.1.1.1.0) in
    let fits = each_map (unfit w deed) rule.WrongState items p.1.1.1.1.1.1.1.1.0 in
    let may = all_three (λ (c : Epc). is_known w deed c ≡ true) (λ (c : Epc). is_of w name c ≡ true) (λ (c : Epc). unfit w deed c ≡ None) (MayMove w deed name) (may_decommission w name items) items known homes fits in
    let turns = decommission_turns name items in
    goes_if mine w (with_rows w (moved_row deed) items) r name items s (paired_same mine w (with_rows w (moved_row deed) items) refl refl)
    (λ e. there_less mine w deed name items turns may)
    (λ e. there_elsewhere mine w deed name true false items turns may e)

alone : (name : Epc) → IsDistinct same_name (name ∷ [])
unfolding IsDistinct
alone name = (tt, tt)

replayed_made : (mine : Chosen) (site : Setup) (w : World) (name : Text) (level : Level) (r : Replayed) → IsSound site w → IsSound site (with_unit site w name level) → IsReplayed mine w r
    → IsReplayed mine (with_unit site w name level) (if mine name then record r { live = r.live ++ Box (code_of site (length w.units)) ∷ [] } else r)
replayed_made mine site w name level r sound sound' s =
    let none = code_is_new site w name level sound' in
    comes_if mine w (with_unit site w name level) r name (Box (code_of site (length w.units)) ∷ []) s (paired_made mine site w name level sound)
    (λ e. there_made mine site w name level none e)
    (λ e. there_made_elsewhere mine site w name level none e)
    (alone (Box (code_of site (length w.units))))
    (new_wasnt_there mine site w none, tt)

-- the unit of a deed is no void one
held_unit : (site : Setup) (w : World) (station : ℕ) (deed : Deed) (unit : Container) → unit_of w (unit_named deed) ≡ Some unit → unit_void site w station deed ≡ None → is_void unit.mark ≡ false
unfolding unit_void
held_unit site w station deed unit at e = at_found (λ (x : Container). is_void x.mark) (unit_of w (unit_named deed)) unit false at (when_None (holds_of (λ (x : Container). is_void x.mark) (unit_of w (unit_named deed))) rule.UnitVoid e)

-- an accepted deed leads the replay to the next world
replayed_effect : (mine : Chosen) (site : Setup) (w : World) (station : ℕ) (deed : Deed) (drawn : List Text) (r : Replayed) → NoneBroken site w station deed → IsSound site w → IsSound site (effect site w station deed drawn) → IsReplayed mine w r
    → IsReplayed mine (effect site w station deed drawn) (happens mine site w r deed)
unfolding NoneOf rules_of on_rows effect happens by_kind kind_of things_of holder_of applied named batch_named unit_named out_of_range not_child with_orders with_phase with_quantity with_declaration with_drawn with_rows with_mark is_void
replayed_effect mine site w station (Order row) drawn r p sound sound' s = quiet mine w (with_orders w (row ∷ [])) r s refl refl refl
replayed_effect mine site w station (Orders rows) drawn r p sound sound' s = quiet mine w (with_orders w rows) r s refl refl refl
replayed_effect mine site w station (Start name) drawn r p sound sound' s = quiet mine w (effect site w station (Start name) drawn) r s refl refl refl
replayed_effect mine site w station (Draw name count) drawn r p sound sound' s = stays mine w (with_drawn w name drawn) r s (paired_same mine w (with_drawn w name drawn) refl refl) (there_drawn mine w name drawn)
replayed_effect mine site w station (Lend name count) drawn r p sound sound' s =
    stays mine w (effect site w station (Lend name count) drawn) r s (paired_same mine w (effect site w station (Lend name count) drawn) refl refl) (there_lent mine site w station name count sound)
replayed_effect mine site w station (Commission name codes) drawn r p sound sound' s = replayed_commission mine site w station name codes r p s
replayed_effect mine site w station (Spoil name serials) drawn r p sound sound' s =
    stays mine w (effect site w station (Spoil name serials) drawn) r s (paired_same mine w (effect site w station (Spoil name serials) drawn) refl refl) (there_moved_still mine w (Spoil name serials) (spoil_still name serials) (items_of w name serials))
replayed_effect mine site w station (Giveback name serials) drawn r p sound sound' s =
    stays mine w (effect site w station (Giveback name serials) drawn) r s (paired_same mine w (effect site w station (Giveback name serials) drawn) refl refl) (there_moved_still mine w (Giveback name serials) (giveback_still name serials) (items_of w name serials))
replayed_effect mine site w station (Sample name items) drawn r p sound sound' s =
    stays_if mine w (effect site w station (Sample name items) drawn) r name s (paired_same mine w (effect site w station (Sample name items) drawn) refl refl) (there_moved_still mine w (Sample name items) (sample_still name items) items)
replayed_effect mine site w station (Reject name items) drawn r p sound sound' s =
    stays_if mine w (effect site w station (Reject name items) drawn) r name s (paired_same mine w (effect site w station (Reject name items) drawn) refl refl) (there_moved_still mine w (Reject name items) (reject_still name items) items)
replayed_effect mine site w station (Reinstate name items) drawn r p sound sound' s =
    stays_if mine w (effect site w station (Reinstate name items) drawn) r name s (paired_same mine w (effect site w station (Reinstate name items) drawn) refl refl) (there_moved_still mine w (Reinstate name items) (reinstate_still name items) items)
replayed_effect mine site w station (Destroy name items) drawn r p sound sound' s = replayed_destroy mine site w station name items r p s
replayed_effect mine site w station (Decommission name items) drawn r p sound sound' s = replayed_decommission mine site w station name items r p s
replayed_effect mine site w station (MakeUnit name level) drawn r p sound sound' s = replayed_made mine site w name level r sound sound' s
replayed_effect mine site w station (Pack unit children) drawn r p sound sound' s = packed mine w r unit children s
replayed_effect mine site w station (Unpack unit children) drawn r p sound sound' s =
    unpacked mine site w r unit children sound (when_None (is_empty children) (rule.CountOutOfRange 1000) p.1.1.1.1.1.0)
    (nots (λ (c : Epc). holds_of (same unit) (parent w c)) children (each_when (λ (c : Epc). not (holds_of (same unit) (parent w c))) rule.NotChild children p.1.1.1.1.1.1.1.0)) s
replayed_effect mine site w station (UnpackAll unit) drawn r p sound sound' s = unpacked_all mine w r unit s
replayed_effect mine site w station (Seal unit) drawn r p sound sound' s =
    let u = has_unit site w station (Seal unit) p.1.0 in
    stays mine w (with_mark w mark.Sealed unit) r s (paired_marked mine w mark.Sealed unit) (there_remarked mine w mark.Sealed unit u.0 refl u.1 (held_unit site w station (Seal unit) u.0 u.1 p.1.1.1.0))
replayed_effect mine site w station (Unseal unit) drawn r p sound sound' s =
    let u = has_unit site w station (Unseal unit) p.1.0 in
    stays mine w (with_mark w mark.Filling unit) r s (paired_marked mine w mark.Filling unit) (there_remarked mine w mark.Filling unit u.0 refl u.1 (held_unit site w station (Unseal unit) u.0 u.1 p.1.1.1.0))
replayed_effect mine site w station (Void unit) drawn r p sound sound' s =
    let u = has_unit site w station (Void unit) p.1.0 in
    goes_if mine w (with_mark w mark.Void unit) r (batch_with w unit) (Box unit ∷ []) s (paired_marked mine w mark.Void unit) (λ e. there_voided mine w unit) (λ e. there_voided_elsewhere mine w unit u.0 u.1 e)
replayed_effect mine site w station (Declare name good spoiled returned) drawn r p sound sound' s = quiet mine w (effect site w station (Declare name good spoiled returned) drawn) r s refl refl refl
replayed_effect mine site w station (Close name) drawn r p sound sound' s = quiet mine w (effect site w station (Close name) drawn) r s refl refl refl
replayed_effect mine site w station (Amend name quantity) drawn r p sound sound' s = quiet mine w (effect site w station (Amend name quantity) drawn) r s refl refl refl

-- the batch of a unit stands
unit_batch : (site : Setup) (w : World) (sscc : Text) (unit : Container) → IsSound site w → unit_of w sscc ≡ Some unit → (batch : Batch) × (batch_of w (batch_with w sscc) ≡ Some batch)
unfolding batch_with unit_of
unit_batch site w sscc unit sound at =
    let name : option_map_or (λ (u : Container). u.batch) (unit_of w sscc) [] ≡ unit.batch = ap (λ (o : Option Container). option_map_or (λ (u : Container). u.batch) o []) at in
    let some : is_some (batch_of w unit.batch) ≡ true = find_Some (λ (u : Container). is_some (batch_of w u.batch) ≡ true) (λ (u : Container). same u.sscc sscc) w.units unit at sound.units_of_a_batch in
    let batch = is_there_too (batch_of w unit.batch) some in
    (batch.0, ap (batch_of w) name ∙ batch.1)

stands : (site : Setup) (w : World) (station : ℕ) (deed : Deed) → NoneBroken site w station deed → IsSound site w → StandsFor w deed
unfolding NoneOf rules_of on_rows has_event batch_for batch_named unit_named
stands site w station (Commission name codes) p sound has = has_batch site w station (Commission name codes) p.1.0
stands site w station (Sample name items) p sound has = has_batch site w station (Sample name items) p.1.0
stands site w station (Reject name items) p sound has = has_batch site w station (Reject name items) p.1.0
stands site w station (Reinstate name items) p sound has = has_batch site w station (Reinstate name items) p.1.0
stands site w station (Destroy name items) p sound has = has_batch site w station (Destroy name items) p.1.0
stands site w station (Decommission name items) p sound has = has_batch site w station (Decommission name items) p.1.0
stands site w station (MakeUnit name level) p sound has = has_batch site w station (MakeUnit name level) p.1.0
stands site w station (Pack unit children) p sound has = let u = has_unit site w station (Pack unit children) p.1.0 in unit_batch site w unit u.0 sound u.1
stands site w station (Unpack unit children) p sound has = let u = has_unit site w station (Unpack unit children) p.1.0 in unit_batch site w unit u.0 sound u.1
stands site w station (UnpackAll unit) p sound has = let u = has_unit site w station (UnpackAll unit) p.1.0 in unit_batch site w unit u.0 sound u.1
stands site w station (Void unit) p sound has = let u = has_unit site w station (Void unit) p.1.0 in unit_batch site w unit u.0 sound u.1
stands site w station deed p sound has = absurd (true≢false (sym has))

-- the events of moves that are meant
abbrev events_in : Chosen → Setup → List Move → List Event
events_in mine site ms = filter_map (event_of site) (filter (λ (m : Move). mine m.row.batch) ms)

replayed_unless : (mine : Chosen) (site : Setup) (w : World) (place : ℕ) (entry : Entry) (r : Replayed) (rule : Option Rule) → broken site w entry.station entry.deed ≡ rule → IsSound site w → IsSound site (unless_broken site w entry rule) → IsReplayed mine w r
    → IsReplayed mine (unless_broken site w entry rule) (replay_from r (events_in mine site (moved_by site w place entry rule)))
unfolding unless_broken moved_by replay_from
replayed_unless mine site w place entry r (Some rule) e sound sound' s = s
replayed_unless mine site w place entry r None e sound sound' s =
    let p = allowed site w entry.station entry.deed e in
    subst (IsReplayed mine (effect site w entry.station entry.deed entry.drawn)) (sym (told mine site w place entry r (stands site w entry.station entry.deed p sound)))
    (replayed_effect mine site w entry.station entry.deed entry.drawn r p sound sound' s)

replay-append : (r : Replayed) (front more : List Event) → replay_from r (front ++ more) ≡ replay_from (replay_from r front) more
unfolding replay_from
replay-append r [] more = refl
replay-append r (event ∷ front) more = replay-append (fed r event) front more

replayed_from : (mine : Chosen) (site : Setup) (history : List Entry) (w : World) (place : ℕ) (entries : List Entry) (r : Replayed) → AllFollow site history w entries → IsSound site w → IsReplayed mine w r
    → IsReplayed mine (world_from site w entries) (replay_from r (events_in mine site (moves_from site w place entries)))
unfolding AllFollow world_from moves_from replay_from after
replayed_from mine site history w place [] r lawful sound s = s
replayed_from mine site history w place (entry ∷ entries) r lawful sound s =
    let rule : Option Rule = broken site w entry.station entry.deed in
    let first : List Move = moved_by site w place entry rule in
    let later : List Move = moves_from site (after site w entry) (suc place) entries in
    let sound' : IsSound site (after site w entry) = sound_after site history w entry lawful.0 sound in
    let cut : events_in mine site (first ++ later) ≡ events_in mine site first ++ events_in mine site later =
    ap (filter_map (event_of site)) (filter-append (λ (m : Move). mine m.row.batch) first later) ∙ filter_map-append (event_of site) (filter (λ (m : Move). mine m.row.batch) first) (filter (λ (m : Move). mine m.row.batch) later) in
    subst (IsReplayed mine (world_from site (after site w entry) entries)) (sym (ap (replay_from r) cut ∙ replay-append r (events_in mine site first) (events_in mine site later)))
    (replayed_from mine site (history ++ entry ∷ []) (after site w entry) (suc place) entries (replay_from r (events_in mine site first)) lawful.1 sound'
    (replayed_unless mine site w place entry r rule refl sound sound' s))

nothing_replayed : (mine : Chosen) → IsReplayed mine nothing_yet nothing_live
unfolding paired_in there_in row_of unit_of holds_of is_among IsDistinct
nothing_replayed mine = record { pairs = refl; live = none; once = tt }
  where
    none : (name : Epc) → is_among [] name ≡ there_in mine nothing_yet name
    none (Item gtin serial) = refl
    none (Box sscc) = refl

pub replayed : (mine : Chosen) (site : Setup) (history : List Entry) → IsProper site → IsLawful site history → IsReplayed mine (world_of site history) (replay_from nothing_live (events_in mine site (moves site history)))
unfolding IsLawful world_of moves
replayed mine site history proper lawful = replayed_from mine site [] nothing_yet 0 history nothing_live lawful (sound_nothing site proper) (nothing_replayed mine)
