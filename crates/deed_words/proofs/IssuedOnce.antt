-- Nothing is issued twice.
use Rattle.std.proofs.Common.{◌≡◌, ℕ, zero, suc, Bool, true, false, ◌&&◌, ◌||◌, not, List, [], ◌∷◌, ◌++◌, map, take, sym, ◌∙◌, ap, refl, subst, Option, None, Some, true≢false, append_assoc, append-nil}
use Rattle.std.specs.Prelude.{if◌then◌else◌, filter, find, option_map, is_none, option_and_then, unwrap_or}
use Rattle.std.specs.List.{AllByRecursion as Every, IsDistinct, list_any}
use Rattle.std.proofs.lemmas.List.{map-append}
use Rattle.std.proofs.lemmas.Bool.{and_parts, false_from_ne_true}
use Rattle.deed_words.specs.Names.{Text, same, same_name, is_among}
use Rattle.gs1_element.specs.declared.code.Code.{Code}
use Rattle.epc_urn.specs.declared.epc.Epc.{Epc}
use Rattle.epc_urn.specs.declared.epc.Epc.TheVariants.{Item, Unit as Box}
use Rattle.deed_words.specs.Setups.{Setup, IsProper}
use Rattle.deed_words.specs.declared.entry.Entry.{Entry}
use Rattle.deed_words.specs.declared.rule.Rule.{Rule}
use Rattle.deed_words.specs.declared.rule.Rule.TheVariants as rule
use Rattle.deed_words.specs.declared.deed.Deed.{Deed}
use Rattle.deed_words.specs.declared.deed.Deed.TheVariants.{Order, Orders, Start, Draw, Lend, Commission, Spoil, Giveback, Sample, Reject, Reinstate, Destroy, Decommission, Container as MakeUnit, Pack, Unpack, UnpackAll, Seal, Unseal, Void, Declare, Close, Amend}
use Rattle.deed_words.specs.declared.words.Phase.TheVariants.{Started, Closed}
use Rattle.deed_words.specs.declared.words.State.{State}
use Rattle.deed_words.specs.declared.words.State.TheVariants as state
use Rattle.deed_words.specs.declared.words.Mark.TheVariants as mark
use Rattle.deed_words.specs.declared.world.Row.{Row}
use Rattle.deed_words.specs.Chain.{when, each}
use Rattle.deed_words.specs.World.{World, nothing_yet, name_of, row_of}
use Rattle.deed_words.specs.Deeds.{item_of, named}
use Rattle.deed_words.specs.Moves.{moved, is_fresh, told_state}
use Rattle.deed_words.specs.Tests.{Test, fresh_rows, repeated, unknown_serial, is_known, wrong_state, unfit}
use Rattle.deed_words.specs.Rules.{broken, rules_of, on_rows}
use Rattle.deed_words.specs.Effects.{effect, with_orders, with_phase, with_quantity, fresh_row, gtin_of, with_drawn, rewrite, with_rows, lent_rows, lent_to, moved_row, with_unit, with_mark, with_children, without_children, emptied, with_declaration}
use Rattle.deed_words.specs.Replies.{after, unless_broken}
use Rattle.deed_words.specs.Walk.{steps_from}
use Rattle.deed_words.specs.History.{world_from, world_of, AllFollow, IsLawful, MayDraw}
use Rattle.deed_words.specs.Sound.{IsSound}
use Rattle.deed_words.proofs.Sameness.{same_name-true, same_name-itself, same_name_equiv}
use Rattle.deed_words.proofs.Items.{Every-append, Every-weaker, Every-both, Every-always, Every-map, Every-of_map, Every-passed, find_Some, find_passes, find-more, find-map, map-map, finds_itself, IsDistinct-filtered}
use Rattle.deed_words.proofs.Broken.{when_None, each_when, each_map, differ}
use Rattle.deed_words.specs.Once.{drawn_by, lent_by, commissioned_by, if_accepted, issued_from, all_drawn, all_lent, all_commissioned}
use Rattle.deed_words.proofs.Allowed.{NoneOf, allowed, is_there_too, not_false}
use Rattle.deed_words.proofs.SoundMoves.{moved-fresh, among_chosen, among-take}
use Rattle.deed_words.proofs.SoundPairs.{names_differ}
use Rattle.deed_words.proofs.Soundness.{sound_after, lawful_is_sound, sound_nothing}

fresh-state : (s : State) → is_fresh s ≡ true → s ≡ state.Fresh
unfolding is_fresh
fresh-state state.Fresh e = refl
fresh-state state.Lent e = absurd (true≢false (sym e))
fresh-state state.Returned e = absurd (true≢false (sym e))
fresh-state state.Spoiled e = absurd (true≢false (sym e))
fresh-state state.Active e = absurd (true≢false (sym e))
fresh-state state.Sampled e = absurd (true≢false (sym e))
fresh-state state.Rejected e = absurd (true≢false (sym e))
fresh-state state.Gone e = absurd (true≢false (sym e))

pub lent_are_fresh : (site : Setup) (w : World) (n : Text) (count : ℕ) → IsSound site w → Every (λ (row : Row). is_among (map name_of (lent_rows w n count)) (name_of row) ≡ true → is_fresh row.state ≡ true) w.rows
unfolding lent_rows fresh_rows
lent_are_fresh site w n count s =
    let test : Row → Bool = λ row. same row.batch n && is_fresh row.state in
    Every-weaker (λ (row : Row). is_among (map name_of (filter test w.rows)) (name_of row) ≡ true → test row ≡ true) (λ (row : Row). is_among (map name_of (take count (filter test w.rows))) (name_of row) ≡ true → is_fresh row.state ≡ true)
    (λ row h t. (and_parts (same row.batch n) (is_fresh row.state) (h (among-take count (filter test w.rows) (name_of row) t))).1) w.rows (among_chosen test w.rows s.rows_differ)

here : (front : List Epc) (c : Epc) (names : List Epc) → list_any (same_name c) (front ++ (c ∷ names)) ≡ true
here [] c names = ap (λ b. b || list_any (same_name c) names) (same_name-itself c)
here (x ∷ front) c names = elim (same_name c x) as (λ b. (b || list_any (same_name c) (front ++ (c ∷ names))) ≡ true) [ true ↦ refl | false ↦ here front c names ]

-- each name is among the names
each_among_in : (front names : List Epc) → Every (λ (c : Epc). is_among (front ++ names) c ≡ true) names
unfolding is_among
each_among_in front [] = tt
each_among_in front (c ∷ names) =
    (here front c names, subst (λ (ns : List Epc). Every (λ (x : Epc). list_any (same_name x) ns ≡ true) names) (append_assoc front (c ∷ []) names) (each_among_in (front ++ c ∷ []) names))

pub each_among : (names : List Epc) → Every (λ (c : Epc). is_among names c ≡ true) names
each_among names = each_among_in [] names

fresh_names : (gtin n : Text) (serials : List Text) → map name_of (map (fresh_row gtin n) serials) ≡ map (Item gtin) serials
unfolding fresh_row
fresh_names gtin n [] = refl
fresh_names gtin n (s ∷ serials) = ap (λ (cs : List Epc). Item gtin s ∷ cs) (fresh_names gtin n serials)

Every-take : {A : Type 0} (P : A → Type 0) (k : ℕ) (xs : List A) → Every P xs → Every P (take k xs)
Every-take P zero xs a = tt
Every-take P (suc k) [] a = tt
Every-take P (suc k) (x ∷ xs) a = (a.0, Every-take P k xs a.1)

IsDistinct-take : (k : ℕ) (rows : List Row) → IsDistinct same_name (map name_of rows) → IsDistinct same_name (map name_of (take k rows))
unfolding IsDistinct
IsDistinct-take zero rows d = tt
IsDistinct-take (suc k) [] d = d
IsDistinct-take (suc k) (x ∷ rows) d = (Every-map (λ (c : Epc). same_name (name_of x) c ≡ false) name_of (take k rows) (Every-take (λ (r : Row). same_name (name_of x) (name_of r) ≡ false) k rows (Every-of_map (λ (c : Epc). same_name (name_of x) c ≡ false) name_of rows d.0)), IsDistinct-take k rows d.1)

-- The item has a row in a late state. A deed only moves rows on, so late rows stay late.
record IsLate (past : State → Bool) (w : World) (c : Epc) : Type 0 where
  row : Row
  found : find (λ (r : Row). same_name (name_of r) c) w.rows ≡ Some row
  late : past row.state ≡ true

-- late states are never left, and Fresh isn't one
record IsOneWay (late : State → Bool) : Type 0 where
  stays : (deed : Deed) (s : State) → late s ≡ true → late (unwrap_or (moved deed s) s) ≡ true
  fresh : late state.Fresh ≡ false
  lent : late state.Lent ≡ true → (s : State) → is_fresh s ≡ false → late s ≡ true

late_mapped : (late : State → Bool) (w : World) (f : Row → Row) → ((row : Row) → name_of (f row) ≡ name_of row) → Every (λ (row : Row). late row.state ≡ true → late (f row).state ≡ true) w.rows
    → (c : Epc) → IsLate late w c → IsLate late (record w { rows = map f w.rows }) c
late_mapped late w f name keeps c l =
    record {
      row = f l.row;
      found = find-map (λ (r : Row). same_name (name_of r) c) f (λ row. ap (λ (e : Epc). same_name e c) (name row)) w.rows ∙ ap (option_map f) l.found;
      late = find_Some (λ (row : Row). late row.state ≡ true → late (f row).state ≡ true) (λ (r : Row). same_name (name_of r) c) w.rows l.row l.found keeps l.late;
    }

rewrite_name : (change : Row → Row) (names : List Epc) → ((row : Row) → name_of (change row) ≡ name_of row) → (row : Row) → name_of (rewrite change names row) ≡ name_of row
unfolding rewrite
rewrite_name change names keeps row = elim (is_among names (name_of row)) as (λ b. name_of (if b then change row else row) ≡ name_of row) [ true ↦ keeps row | false ↦ refl ]

rewrite_late : (late : State → Bool) (change : Row → Row) (names : List Epc) (row : Row) → (is_among names (name_of row) ≡ true → late row.state ≡ true → late (change row).state ≡ true) → late row.state ≡ true → late (rewrite change names row).state ≡ true
unfolding rewrite
rewrite_late late change names row h l =
    (elim (is_among names (name_of row)) as (λ b. (b ≡ true → late row.state ≡ true → late (change row).state ≡ true) → late (if b then change row else row).state ≡ true) [ true ↦ λ k. k refl l | false ↦ λ k. l ]) h

late_moved : (late : State → Bool) → IsOneWay late → (w : World) (deed : Deed) (names : List Epc) (c : Epc) → IsLate late w c → IsLate late (with_rows w (moved_row deed) names) c
unfolding with_rows moved_row
late_moved late o w deed names c l =
    late_mapped late w (rewrite (moved_row deed) names) (rewrite_name (moved_row deed) names (λ row. refl))
    (Every-always (λ (row : Row). late row.state ≡ true → late (rewrite (moved_row deed) names row).state ≡ true) (λ row. rewrite_late late (moved_row deed) names row (λ _ h. o.stays deed row.state h)) w.rows) c l

late_lent : (site : Setup) (late : State → Bool) → IsOneWay late → (w : World) (station : ℕ) (n : Text) (count : ℕ) → IsSound site w → (c : Epc) → IsLate late w c → IsLate late (with_rows w (lent_to station) (map name_of (lent_rows w n count))) c
unfolding with_rows
late_lent site late o w station n count s c l =
    let names : List Epc = map name_of (lent_rows w n count) in
    late_mapped late w (rewrite (lent_to station) names) (rewrite_name (lent_to station) names (λ row. refl))
    (Every-weaker (λ (row : Row). is_among names (name_of row) ≡ true → is_fresh row.state ≡ true) (λ (row : Row). late row.state ≡ true → late (rewrite (lent_to station) names row).state ≡ true)
    (λ row h. rewrite_late late (lent_to station) names row (λ t e. absurd (true≢false (sym e ∙ ap late (fresh-state row.state (h t)) ∙ o.fresh)))) w.rows (lent_are_fresh site w n count s)) c l

late_drawn : (late : State → Bool) (w : World) (n : Text) (serials : List Text) (c : Epc) → IsLate late w c → IsLate late (with_drawn w n serials) c
unfolding with_drawn
late_drawn late w n serials c l = record { row = l.row; found = find-more (λ (r : Row). same_name (name_of r) c) w.rows (map (fresh_row (gtin_of w n) n) serials) l.row l.found; late = l.late }

late_as : (late : State → Bool) (w w' : World) → w'.rows ≡ w.rows → (c : Epc) → IsLate late w c → IsLate late w' c
late_as late w w' e c l = record { row = l.row; found = ap (λ (rs : List Row). find (λ (r : Row). same_name (name_of r) c) rs) e ∙ l.found; late = l.late }

late_effect : (site : Setup) (late : State → Bool) → IsOneWay late → (w : World) (station : ℕ) (deed : Deed) (drawn : List Text) → IsSound site w → (c : Epc) → IsLate late w c → IsLate late (effect site w station deed drawn) c
unfolding effect with_orders with_phase with_quantity with_unit with_mark with_children without_children emptied with_declaration
late_effect site late o w station (Draw name count) drawn s c l = late_drawn late w name drawn c l
late_effect site late o w station (Lend name count) drawn s c l = late_lent site late o w station name count s c l
late_effect site late o w station (Order row) drawn s c l = late_as late w (with_orders w (row ∷ [])) refl c l
late_effect site late o w station (Orders rows) drawn s c l = late_as late w (with_orders w rows) refl c l
late_effect site late o w station (Start name) drawn s c l = late_as late w (with_phase w Started name) refl c l
late_effect site late o w station (MakeUnit name level) drawn s c l = late_as late w (with_unit site w name level) refl c l
late_effect site late o w station (Pack unit children) drawn s c l = late_as late w (with_children w unit children) refl c l
late_effect site late o w station (Unpack unit children) drawn s c l = late_as late w (without_children w children) refl c l
late_effect site late o w station (UnpackAll unit) drawn s c l = late_as late w (emptied w unit) refl c l
late_effect site late o w station (Seal unit) drawn s c l = late_as late w (with_mark w mark.Sealed unit) refl c l
late_effect site late o w station (Unseal unit) drawn s c l = late_as late w (with_mark w mark.Filling unit) refl c l
late_effect site late o w station (Void unit) drawn s c l = late_as late w (with_mark w mark.Void unit) refl c l
late_effect site late o w station (Declare name good spoiled returned) drawn s c l = late_as late w (with_declaration w (record { batch = name; line = station; good = good; spoiled = spoiled; returned = returned })) refl c l
late_effect site late o w station (Close name) drawn s c l = late_as late w (with_phase w Closed name) refl c l
late_effect site late o w station (Amend name quantity) drawn s c l = late_as late w (with_quantity w quantity name) refl c l
late_effect site late o w station deed drawn s c l = late_moved late o w deed (named w deed) c l

-- what an accepted deed issues: names that differ, of rows that aren't late yet, and are late after it
record Issues (past : State → Bool) (w w' : World) (names : List Epc) : Type 0 where
  differ : IsDistinct same_name names
  early : Every (λ (c : Epc). (row : Row) → find (λ (r : Row). same_name (name_of r) c) w.rows ≡ Some row → past row.state ≡ false) names
  late : Every (IsLate past w') names

issues_nothing : (late : State → Bool) (w w' : World) → Issues late w w' []
unfolding IsDistinct
issues_nothing late w w' = record { differ = tt; early = tt; late = tt }

-- names so far are late, so the new ones are others
go_on : (late : State → Bool) (w w' : World) (names more : List Epc) → IsDistinct same_name names → Every (IsLate late w) names → Issues late w w' more → IsDistinct same_name (names ++ more)
go_on late w w' names more d l i =
    names_differ names more d i.differ
    (Every-weaker (λ (c : Epc). (row : Row) → find (λ (r : Row). same_name (name_of r) c) w.rows ≡ Some row → late row.state ≡ false) (λ (c : Epc). Every (λ (x : Epc). same_name c x ≡ false) names)
    (λ c early. Every-weaker (IsLate late w) (λ (x : Epc). same_name c x ≡ false)
    (λ x lx. false_from_ne_true (same_name c x) (λ t. true≢false (sym lx.late ∙ early lx.row (ap (λ (y : Epc). find (λ (r : Row). same_name (name_of r) y) w.rows) (same_name-true c x t) ∙ lx.found)))) names l) more i.early)

step : (late : State → Bool) → IsOneWay late → (by : World → Deed → List Text → List Epc)
    → ((site : Setup) (w : World) (station : ℕ) (deed : Deed) (drawn : List Text) → NoneOf (map (λ (test : Test). test site w station deed) (rules_of deed)) → MayDraw site w None deed drawn → IsSound site w → Issues late w (effect site w station deed drawn) (by w deed drawn))
    → (site : Setup) (w : World) (entry : Entry) (rule : Option Rule) → broken site w entry.station entry.deed ≡ rule → MayDraw site w rule entry.deed entry.drawn → IsSound site w → (names : List Epc) → Every (IsLate late w) names
    → Issues late w (unless_broken site w entry rule) (if_accepted rule (by w entry.deed entry.drawn)) × Every (IsLate late (unless_broken site w entry rule)) names
unfolding unless_broken if_accepted
step late o by each site w entry None e may s names l = (
  each site w entry.station entry.deed entry.drawn (allowed site w entry.station entry.deed e) may s,
  Every-weaker (IsLate late w) (IsLate late (effect site w entry.station entry.deed entry.drawn)) (λ c lc. late_effect site late o w entry.station entry.deed entry.drawn s c lc) names l,
)
step late o by each site w entry (Some rule) e may s names l = (issues_nothing late w w, l)

-- all that is issued from a world on differs, where what was issued is late
all_differ : (late : State → Bool) → IsOneWay late → (by : World → Deed → List Text → List Epc)
    → ((site : Setup) (w : World) (station : ℕ) (deed : Deed) (drawn : List Text) → NoneOf (map (λ (test : Test). test site w station deed) (rules_of deed)) → MayDraw site w None deed drawn → IsSound site w → Issues late w (effect site w station deed drawn) (by w deed drawn))
    → (site : Setup) (history : List Entry) (w : World) (entries : List Entry) (names : List Epc) → AllFollow site history w entries → IsSound site w → IsDistinct same_name names → Every (IsLate late w) names → IsDistinct same_name (names ++ issued_from by site w entries)
unfolding AllFollow issued_from steps_from after
all_differ late o by each site history w [] names may s d l = subst (IsDistinct same_name) (sym (append-nil names)) d
all_differ late o by each site history w (entry ∷ entries) names may s d l =
    let new : List Epc = if_accepted (broken site w entry.station entry.deed) (by w entry.deed entry.drawn) in
    let issues = step late o by each site w entry (broken site w entry.station entry.deed) refl may.0.drawn s names l in
    subst (IsDistinct same_name) (append_assoc names new (issued_from by site (after site w entry) entries))
    (all_differ late o by each site (history ++ entry ∷ []) (after site w entry) entries (names ++ new) may.1 (sound_after site history w entry may.0 s)
    (go_on late w (after site w entry) names new d l issues.0) (Every-append (IsLate late (after site w entry)) names new issues.1 issues.0.late))

-- drawn

nothing_differs : IsDistinct same_name []
unfolding IsDistinct
nothing_differs = tt

rows_grow : (site : Setup) (w : World) (station : ℕ) (deed : Deed) (drawn : List Text) → map name_of (effect site w station deed drawn).rows ≡ map name_of w.rows ++ drawn_by w deed drawn
unfolding effect drawn_by with_orders with_phase with_quantity with_unit with_mark with_children without_children emptied with_declaration with_rows with_drawn moved_row
rows_grow site w station (Draw name count) drawn = map-append name_of w.rows (map (fresh_row (gtin_of w name) name) drawn) ∙ ap (λ (cs : List Epc). map name_of w.rows ++ cs) (fresh_names (gtin_of w name) name drawn)
rows_grow site w station (Lend name count) drawn = map-map name_of (rewrite (lent_to station) (map name_of (lent_rows w name count))) (rewrite_name (lent_to station) (map name_of (lent_rows w name count)) (λ row. refl)) w.rows ∙ sym (append-nil _)
rows_grow site w station (Order row) drawn = sym (append-nil _)
rows_grow site w station (Orders rows) drawn = sym (append-nil _)
rows_grow site w station (Start name) drawn = sym (append-nil _)
rows_grow site w station (MakeUnit name level) drawn = sym (append-nil _)
rows_grow site w station (Pack unit children) drawn = sym (append-nil _)
rows_grow site w station (Unpack unit children) drawn = sym (append-nil _)
rows_grow site w station (UnpackAll unit) drawn = sym (append-nil _)
rows_grow site w station (Seal unit) drawn = sym (append-nil _)
rows_grow site w station (Unseal unit) drawn = sym (append-nil _)
rows_grow site w station (Void unit) drawn = sym (append-nil _)
rows_grow site w station (Declare name good spoiled returned) drawn = sym (append-nil _)
rows_grow site w station (Close name) drawn = sym (append-nil _)
rows_grow site w station (Amend name quantity) drawn = sym (append-nil _)
rows_grow site w station deed drawn = map-map name_of (rewrite (moved_row deed) (named w deed)) (rewrite_name (moved_row deed) (named w deed) (λ row. refl)) w.rows ∙ sym (append-nil _)

grow_unless : (site : Setup) (w : World) (entry : Entry) (rule : Option Rule) → map name_of (unless_broken site w entry rule).rows ≡ map name_of w.rows ++ if_accepted rule (drawn_by w entry.deed entry.drawn)
unfolding unless_broken if_accepted
grow_unless site w entry None = rows_grow site w entry.station entry.deed entry.drawn
grow_unless site w entry (Some rule) = sym (append-nil (map name_of w.rows))

pub names_drawn : (site : Setup) (w : World) (entries : List Entry) → map name_of (world_from site w entries).rows ≡ map name_of w.rows ++ issued_from drawn_by site w entries
unfolding world_from issued_from steps_from after
names_drawn site w [] = sym (append-nil (map name_of w.rows))
names_drawn site w (entry ∷ entries) =
    names_drawn site (after site w entry) entries
    ∙ ap (λ (cs : List Epc). cs ++ issued_from drawn_by site (after site w entry) entries) (grow_unless site w entry (broken site w entry.station entry.deed))
    ∙ append_assoc (map name_of w.rows) _ _

pub drawn_once : (site : Setup) (history : List Entry) → IsProper site → IsLawful site history → IsDistinct same_name (all_drawn site history)
unfolding world_of
drawn_once site history proper lawful = subst (IsDistinct same_name) (names_drawn site nothing_yet history) (lawful_is_sound site history proper lawful).rows_differ

-- lent

not_fresh : State → Bool
not_fresh s = not (is_fresh s)

not_fresh-one_way : IsOneWay not_fresh
unfolding not_fresh is_fresh
not_fresh-one_way = record {
  stays = λ deed s h. ap not (moved-fresh deed s) ∙ h;
  fresh = refl;
  lent = λ _ s h. ap not h;
}

-- a named row is late after the change that makes it so
rewritten_late : (late : State → Bool) (w : World) (change : Row → Row) → ((row : Row) → name_of (change row) ≡ name_of row) → (names : List Epc) (c : Epc) → is_among names c ≡ true → (row : Row) → find (λ (r : Row). same_name (name_of r) c) w.rows ≡ Some row
    → late (change row).state ≡ true → IsLate late (with_rows w change names) c
unfolding with_rows rewrite
rewritten_late late w change keeps names c there row at l =
    let named : is_among names (name_of row) ≡ true = ap (is_among names) (same_name-true (name_of row) c (find_passes (λ (r : Row). same_name (name_of r) c) w.rows row at)) ∙ there in
    record {
      row = rewrite change names row;
      found = find-map (λ (r : Row). same_name (name_of r) c) (rewrite change names) (λ r. ap (λ (e : Epc). same_name e c) (rewrite_name change names keeps r)) w.rows ∙ ap (option_map (rewrite change names)) at;
      late = ap (λ b. late (if b then change row else row).state) named ∙ l;
    }

lend_issues : (site : Setup) (w : World) (station : ℕ) (n : Text) (count : ℕ) → IsSound site w → Issues not_fresh w (with_rows w (lent_to station) (map name_of (lent_rows w n count))) (map name_of (lent_rows w n count))
unfolding not_fresh lent_rows fresh_rows is_fresh
lend_issues site w station n count s =
    let test : Row → Bool = λ row. same row.batch n && is_fresh row.state in
    let names : List Epc = map name_of (lent_rows w n count) in
    let selves : Every (λ (row : Row). find (λ (r : Row). same_name (name_of r) (name_of row)) w.rows ≡ Some row) w.rows = finds_itself same_name same_name_equiv name_of w.rows s.rows_differ in
    let fact : Row → Type 0 = λ row. (find (λ (r : Row). same_name (name_of r) (name_of row)) w.rows ≡ Some row) × (is_fresh row.state ≡ true) in
    let chosen : Every fact (lent_rows w n count) =
    Every-take fact count (filter test w.rows) (Every-passed fact test w.rows (Every-weaker (λ (row : Row). find (λ (r : Row). same_name (name_of r) (name_of row)) w.rows ≡ Some row) (λ (row : Row). test row ≡ true → fact row) (λ row self t. (self, (and_parts (same row.batch n) (is_fresh row.state) t).1)) w.rows selves)) in
    let of_names : Every (λ (c : Epc). (row : Row) × (find (λ (r : Row). same_name (name_of r) c) w.rows ≡ Some row) × (is_fresh row.state ≡ true)) names =
    Every-map (λ (c : Epc). (row : Row) × (find (λ (r : Row). same_name (name_of r) c) w.rows ≡ Some row) × (is_fresh row.state ≡ true)) name_of (lent_rows w n count) (Every-weaker fact (λ (row : Row). (r : Row) × (find (λ (x : Row). same_name (name_of x) (name_of row)) w.rows ≡ Some r) × (is_fresh r.state ≡ true)) (λ row f. (row, f.0, f.1)) (lent_rows w n count) chosen) in
    record {
      differ = IsDistinct-take count (filter test w.rows) (IsDistinct-filtered same_name name_of test w.rows s.rows_differ);
      early = Every-weaker (λ (c : Epc). (row : Row) × (find (λ (r : Row). same_name (name_of r) c) w.rows ≡ Some row) × (is_fresh row.state ≡ true)) (λ (c : Epc). (row : Row) → find (λ (r : Row). same_name (name_of r) c) w.rows ≡ Some row → not (is_fresh row.state) ≡ false)
          (λ c l row e. let f : Some row ≡ Some l.0 = sym e ∙ l.1 in let g : row ≡ l.0 = cc in ap (λ (r : Row). not (is_fresh r.state)) g ∙ ap not l.2) names of_names;
      late = Every-both (λ (c : Epc). is_among names c ≡ true) (λ (c : Epc). (row : Row) × (find (λ (r : Row). same_name (name_of r) c) w.rows ≡ Some row) × (is_fresh row.state ≡ true)) (IsLate not_fresh (with_rows w (lent_to station) names))
          (λ c there l. rewritten_late not_fresh w (lent_to station) (λ row. refl) names c there l.0 l.1 refl) names (each_among names) of_names;
    }

lent_issues : (site : Setup) (w : World) (station : ℕ) (deed : Deed) (drawn : List Text) → NoneOf (map (λ (test : Test). test site w station deed) (rules_of deed)) → MayDraw site w None deed drawn → IsSound site w
    → Issues not_fresh w (effect site w station deed drawn) (lent_by w deed drawn)
unfolding lent_by effect
lent_issues site w station (Lend name count) drawn p may s = lend_issues site w station name count s
lent_issues site w station (Order row) drawn p may s = issues_nothing not_fresh w _
lent_issues site w station deed drawn p may s = issues_nothing not_fresh w _

pub lent_once : (site : Setup) (history : List Entry) → IsProper site → IsLawful site history → IsDistinct same_name (all_lent site history)
unfolding IsLawful
lent_once site history proper lawful = all_differ not_fresh not_fresh-one_way lent_by lent_issues site [] nothing_yet history [] lawful (sound_nothing site proper) nothing_differs tt

-- commissioned

not_early : State → Bool
not_early state.Fresh = false
not_early state.Lent = false
not_early other = true

not_early-stays : (deed : Deed) (s : State) → not_early s ≡ true → not_early (unwrap_or (moved deed s) s) ≡ true
unfolding not_early moved
not_early-stays (Commission name codes) state.Lent h = refl
not_early-stays (Spoil name serials) state.Lent h = refl
not_early-stays (Giveback name serials) state.Lent h = refl
not_early-stays (Sample name items) state.Active h = refl
not_early-stays (Reject name items) state.Active h = refl
not_early-stays (Reinstate name items) state.Rejected h = refl
not_early-stays (Destroy name items) state.Rejected h = refl
not_early-stays (Destroy name items) state.Sampled h = refl
not_early-stays (Decommission name items) state.Active h = refl
not_early-stays deed s h = h

not_early-one_way : IsOneWay not_early
unfolding not_early
not_early-one_way = record { stays = not_early-stays; fresh = refl; lent = λ e. absurd (true≢false (sym e)) }

lent-early : (s : State) → s ≡ state.Lent → not_early s ≡ false
unfolding not_early
lent-early s e = subst (λ (t : State). not_early t ≡ false) (sym e) refl

commissioned_late : (name : Text) (codes : List Code) (s : State) → s ≡ state.Lent → not_early (unwrap_or (moved (Commission name codes) s) s) ≡ true
unfolding not_early moved
commissioned_late name codes s e = subst (λ (t : State). not_early (unwrap_or (moved (Commission name codes) t) t) ≡ true) (sym e) refl

lent-state : (name : Text) (codes : List Code) (s : State) → is_none (moved (Commission name codes) s) ≡ false → s ≡ state.Lent
unfolding moved
lent-state name codes state.Lent e = refl
lent-state name codes state.Fresh e = absurd (true≢false e)
lent-state name codes state.Returned e = absurd (true≢false e)
lent-state name codes state.Spoiled e = absurd (true≢false e)
lent-state name codes state.Active e = absurd (true≢false e)
lent-state name codes state.Sampled e = absurd (true≢false e)
lent-state name codes state.Rejected e = absurd (true≢false e)
lent-state name codes state.Gone e = absurd (true≢false e)

lent_row : (w : World) (name : Text) (codes : List Code) (c : Epc) → is_known w (Commission name codes) c ≡ true → unfit w (Commission name codes) c ≡ None → (row : Row) × (find (λ (r : Row). same_name (name_of r) c) w.rows ≡ Some row) × (row.state ≡ state.Lent)
unfolding is_known unfit row_of
lent_row w name codes (Item g n) k u =
    let row = is_there_too (find (λ (r : Row). same_name (name_of r) (Item g n)) w.rows) k in
    let deed : Deed = Commission name codes in
    let fit : when (is_none (moved deed row.0.state)) (told_state row.0.state) ≡ None = sym (ap (option_and_then (λ (r : Row). when (is_none (moved deed r.state)) (told_state r.state))) row.1) ∙ u in
    (row.0, row.1, lent-state name codes row.0.state (when_None (is_none (moved deed row.0.state)) (told_state row.0.state) fit))
lent_row w name codes (Box sscc) k u = absurd (true≢false (sym k))

commission_issues : (site : Setup) (w : World) (station : ℕ) (name : Text) (codes : List Code) → NoneOf (map (λ (test : Test). test site w station (Commission name codes)) (rules_of (Commission name codes))) → IsSound site w
    → Issues not_early w (with_rows w (moved_row (Commission name codes)) (map item_of codes)) (map item_of codes)
unfolding NoneOf rules_of on_rows repeated unknown_serial wrong_state named with_rows moved_row
commission_issues site w station name codes p s =
    let deed : Deed = Commission name codes in
    let names : List Epc = map item_of codes in
    let known = each_when (λ (c : Epc). not (is_known w deed c)) rule.UnknownSerial names p.1.1.1.1.1.1.0 in
    let fits = each_map (unfit w deed) rule.WrongState names p.1.1.1.1.1.1.1.1.0 in
    let among : Every (λ (c : Epc). is_among names c ≡ true) names = each_among names in
    let lentrows : Every (λ (c : Epc). (row : Row) × (find (λ (r : Row). same_name (name_of r) c) w.rows ≡ Some row) × (row.state ≡ state.Lent)) names =
    Every-both (λ (c : Epc). not (is_known w deed c) ≡ false) (λ (c : Epc). unfit w deed c ≡ None) (λ (c : Epc). (row : Row) × (find (λ (r : Row). same_name (name_of r) c) w.rows ≡ Some row) × (row.state ≡ state.Lent))
    (λ c k u. lent_row w name codes c (not_false (is_known w deed c) k) u) names known fits in
    record {
      differ = differ rule.RepeatedInRequest names p.1.1.1.1.1.0;
      early = Every-weaker (λ (c : Epc). (row : Row) × (find (λ (r : Row). same_name (name_of r) c) w.rows ≡ Some row) × (row.state ≡ state.Lent)) (λ (c : Epc). (row : Row) → find (λ (r : Row). same_name (name_of r) c) w.rows ≡ Some row → not_early row.state ≡ false)
          (λ c l row e. let f : Some row ≡ Some l.0 = sym e ∙ l.1 in let g : row ≡ l.0 = cc in lent-early row.state (ap (λ (r : Row). r.state) g ∙ l.2)) names lentrows;
      late = Every-both (λ (c : Epc). is_among names c ≡ true) (λ (c : Epc). (row : Row) × (find (λ (r : Row). same_name (name_of r) c) w.rows ≡ Some row) × (row.state ≡ state.Lent)) (IsLate not_early (with_rows w (moved_row deed) names))
          (λ c here l. rewritten_late not_early w (moved_row deed) (λ row. refl) names c here l.0 l.1 (commissioned_late name codes l.0.state l.2)) names among lentrows;
    }

commissioned_issues : (site : Setup) (w : World) (station : ℕ) (deed : Deed) (drawn : List Text) → NoneOf (map (λ (test : Test). test site w station deed) (rules_of deed)) → MayDraw site w None deed drawn → IsSound site w
    → Issues not_early w (effect site w station deed drawn) (commissioned_by w deed drawn)
unfolding commissioned_by effect named
commissioned_issues site w station (Commission name codes) drawn p may s = commission_issues site w station name codes p s
commissioned_issues site w station (Order row) drawn p may s = issues_nothing not_early w _
commissioned_issues site w station deed drawn p may s = issues_nothing not_early w _

pub commissioned_once : (site : Setup) (history : List Entry) → IsProper site → IsLawful site history → IsDistinct same_name (all_commissioned site history)
unfolding IsLawful
commissioned_once site history proper lawful = all_differ not_early not_early-one_way commissioned_by commissioned_issues site [] nothing_yet history [] lawful (sound_nothing site proper) nothing_differs tt
