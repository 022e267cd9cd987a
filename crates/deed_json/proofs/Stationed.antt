-- The stations that a reply names are of the setup.
use Rattle.std.proofs.Common.{◌≡◌, ◌<◌, ◌≤◌, ◌+◌, ◌-◌, ◌++◌, ℕ, zero, suc, Bool, true, false, not, ◌&&◌, cond, List, [], ◌∷◌, length, map, Option, None, Some, refl, sym, subst, arith, nat_eq}
use Rattle.std.proofs.lemmas.List.Elements.{All-from_recursion, recursion_from_All}
use Rattle.std.specs.Prelude.{All, filter, find, option_map, option_and_then, if◌then◌else◌, is_none}
use Rattle.std.specs.List.{AllByRecursion as Every, slice_get}
use Rattle.epc_urn.specs.declared.epc.Epc.{Epc}
use Rattle.epc_urn.specs.declared.epc.Epc.TheVariants.{Item, Unit as Box}
use Rattle.deed_words.specs.Names.{Text, same, same_name}
use Rattle.deed_words.specs.Setups.{Setup}
use Rattle.deed_words.specs.World.{World, name_of, nothing_yet, parent, row_of, rows_in, unit_of, units_in}
use Rattle.deed_words.specs.declared.setup.Station.{Station}
use Rattle.deed_words.specs.declared.world.Row.{Row}
use Rattle.deed_words.specs.declared.deed.Deed.{Deed}
use Rattle.deed_words.specs.declared.deed.Deed.TheVariants.{Order, Orders, Start, Draw, Lend, Commission, Spoil, Giveback, Sample, Reject, Reinstate, Destroy, Decommission, Container as MakeUnit, Pack, Unpack, UnpackAll, Seal, Unseal, Void, Declare, Close, Amend}
use Rattle.deed_words.specs.declared.words.Level.{Level}
use Rattle.deed_words.specs.declared.words.Level.TheVariants.{Case, Pallet}
use Rattle.deed_words.specs.declared.world.Batch.{Batch}
use Rattle.deed_words.specs.declared.world.Container.{Container}
use Rattle.deed_words.specs.declared.entry.Entry.{Entry}
use Rattle.deed_words.specs.declared.rule.Rule.{Rule}
use Rattle.deed_words.specs.declared.rule.Rule.TheVariants as rule
use Rattle.deed_words.specs.declared.rule.Finding.{Finding}
use Rattle.deed_words.specs.declared.rule.Finding.TheVariants as finding_of
use Rattle.deed_words.specs.Chain.{first, when, each, each_from}
use Rattle.deed_words.specs.Deeds.{named, order_rows, batch_for, batch_named, unit_named}
use Rattle.deed_words.specs.Accounts.{finding, findings, still_lent, still_rejected, unpacked, unit_open, unit_loose, not_declared, declared_differs, differs, has_pallets, has_line, line_numbers, declared_numbers, stands_loose}
use Rattle.deed_words.specs.Moves.{is_lent, is_rejected, is_active, is_filling}
use Rattle.deed_words.specs.Tests.{Test, role_forbids, unknown_product, order_conflict, unknown_batch, unknown_unit, not_started, started, closed, unit_void, unit_sealed, unit_not_sealed, out_of_range, count_range, site_full, full, pool_thin, thin, few_fresh, sscc_spent, repeated, unknown_serial, other_batch, strays, wrong_level, misfits, wrong_state, other_line, lent_to_other, has_parent, not_child, unit_full, over, unit_not_empty, nothing_inside, not_accounted}
use Rattle.deed_words.specs.Rules.{broken, rules_of, on_rows}
use Rattle.deed_words.specs.Replies.{after, reply_to, replied}
use Rattle.deed_words.specs.Walk.{steps_from}
use Rattle.deed_words.specs.History.{AllFollow, IsLawful, MayFollow, told_from, told_to}
use Rattle.deed_words.specs.Numbers.{Means, IsTold, Kept}
use Rattle.deed_words.specs.Proper.{IsProperEntry}
use Rattle.deed_words.specs.declared.reply.Reply.{Reply}
use Rattle.deed_words.specs.ProperWorlds.{IsProperWorld, IsOfStation}
use Rattle.deed_json.specs.Replies.{NamesStationsOf, AreOfSite, stations_of_rule, stations_of_finding}

-- ---- what holds of each answer holds of the first

first_holds : {X : Type 0} (P : Option X → Type 0) → P None → (answers : List (Option X)) → Every P answers → P (first answers)
unfolding first
first_holds P none [] all = none
first_holds P none (None ∷ answers) all = first_holds P none answers all.1
first_holds P none (Some x ∷ answers) all = all.0

when_holds : {X : Type 0} (P : Option X → Type 0) → P None → (b : Bool) (x : X) → P (Some x) → P (when b x)
unfolding when
when_holds P none true x some = some
when_holds P none false x some = none

either : {X : Type 0} (P : Option X → Type 0) (answer : Option X) (answers : List (Option X)) → P answer → P (first answers) → P (first (answer ∷ answers))
unfolding first
either P None answers here rest = rest
either P (Some x) answers here rest = here

each_below : {A B : Type 0} (P : Option B → Type 0) → P None → (test : ℕ → A → Option B) (n : ℕ) → ((k : ℕ) (a : A) → k < n → P (test k a)) → (items : List A) (k : ℕ) → k + length items ≤ n → P (first (each_from k test items))
unfolding each_from
each_below P none test n all [] k few = first_holds P none [] tt
each_below P none test n all (a ∷ items) k few =
    either P (test k a) (each_from (suc k) test items) (all k a (omega (arith, few))) (each_below P none test n all items (suc k) (omega (arith, few)))

each_holds : {A B : Type 0} (P : Option B → Type 0) → P None → (test : ℕ → A → Option B) → ((k : ℕ) (a : A) → P (test k a)) → (items : List A) → P (each items test)
unfolding each
each_holds P none test all items = each_below P none test (length items) (λ k a _. all k a) items 0 (omega arith)

then_holds : {A B : Type 0} (P : Option B → Type 0) → P None → (f : A → Option B) (o : Option A) → ((a : A) → o ≡ Some a → P (f a)) → P (option_and_then f o)
then_holds P none f None all = none
then_holds P none f (Some a) all = all a refl

map_holds : {A B : Type 0} (P : Option B → Type 0) → P None → (f : A → B) (o : Option A) → ((a : A) → o ≡ Some a → P (Some (f a))) → P (option_map f o)
map_holds P none f None all = none
map_holds P none f (Some a) all = all a refl

if_holds : {X : Type 0} (P : Option X → Type 0) → P None → (b : Bool) (o : Option X) → P o → P (if b then o else None)
if_holds P none true o some = some
if_holds P none false o some = none

-- what holds of all holds of the one that is found
found_holds : {X : Type 0} (P : X → Type 0) (test : X → Bool) (xs : List X) (x : X) → Every P xs → find test xs ≡ Some x → P x
found_holds P test [] x all e = absurd (cc)
found_holds P test (y ∷ xs) x all e =
    (elim (test y) as (λ (b : Bool). cond b (Some y) (find test xs) ≡ Some x → P x) [
      | true ↦ λ e. let same : y ≡ x = cc in subst P same all.0
      | false ↦ λ e. found_holds P test xs x all.1 e
    ]) e

-- ---- each rule

-- the stations that the refusal names, if there is one, are of the site
abbrev Fits : Setup → Option Rule → Type 0
Fits site None = Unit {0}
Fits site (Some broken) = AreOfSite site (stations_of_rule broken)

abbrev FitsFound : Setup → Option Finding → Type 0
FitsFound site None = Unit {0}
FitsFound site (Some found) = AreOfSite site (stations_of_finding found)

abbrev IsLine : Setup → Option ℕ → Type 0
IsLine site None = Unit {0}
IsLine site (Some line) = line < length site.stations

role_fits : (site : Setup) (w : World) (station : ℕ) (deed : Deed) → Fits site (role_forbids site w station deed)
unfolding role_forbids
role_fits site w station deed = when_holds (Fits site) tt _ rule.RoleForbids tt

product_fits : (site : Setup) (w : World) (station : ℕ) (deed : Deed) → Fits site (unknown_product site w station deed)
unfolding unknown_product
product_fits site w station deed = each_holds (Fits site) tt _ (λ k row. when_holds (Fits site) tt _ (rule.UnknownProduct (k + 1)) tt) (order_rows deed)

conflict_fits : (site : Setup) (w : World) (station : ℕ) (deed : Deed) → Fits site (order_conflict site w station deed)
unfolding order_conflict
conflict_fits site w station deed = each_holds (Fits site) tt _ (λ k row. when_holds (Fits site) tt _ (rule.OrderConflict (k + 1)) tt) (order_rows deed)

batch_fits : (site : Setup) (w : World) (station : ℕ) (deed : Deed) → Fits site (unknown_batch site w station deed)
unfolding unknown_batch
batch_fits site w station deed = when_holds (Fits site) tt _ rule.UnknownBatch tt

unit_fits : (site : Setup) (w : World) (station : ℕ) (deed : Deed) → Fits site (unknown_unit site w station deed)
unfolding unknown_unit
unit_fits site w station deed = when_holds (Fits site) tt _ rule.UnknownUnit tt

not_started_fits : (site : Setup) (w : World) (station : ℕ) (deed : Deed) → Fits site (not_started site w station deed)
unfolding not_started
not_started_fits site w station deed = when_holds (Fits site) tt _ rule.BatchNotStarted tt

started_fits : (site : Setup) (w : World) (station : ℕ) (deed : Deed) → Fits site (started site w station deed)
unfolding started
started_fits site w station deed = when_holds (Fits site) tt _ rule.BatchStarted tt

closed_fits : (site : Setup) (w : World) (station : ℕ) (deed : Deed) → Fits site (closed site w station deed)
unfolding closed
closed_fits site w station deed = when_holds (Fits site) tt _ rule.BatchClosed tt

void_fits : (site : Setup) (w : World) (station : ℕ) (deed : Deed) → Fits site (unit_void site w station deed)
unfolding unit_void
void_fits site w station deed = when_holds (Fits site) tt _ rule.UnitVoid tt

sealed_fits : (site : Setup) (w : World) (station : ℕ) (deed : Deed) → Fits site (unit_sealed site w station deed)
unfolding unit_sealed
sealed_fits site w station deed = when_holds (Fits site) tt _ rule.UnitSealed tt

not_sealed_fits : (site : Setup) (w : World) (station : ℕ) (deed : Deed) → Fits site (unit_not_sealed site w station deed)
unfolding unit_not_sealed
not_sealed_fits site w station deed = when_holds (Fits site) tt _ rule.UnitNotSealed tt

range_fits : (site : Setup) (w : World) (station : ℕ) (deed : Deed) → Fits site (out_of_range site w station deed)
unfolding out_of_range count_range
range_fits site w station (Draw name count) = when_holds (Fits site) tt _ (rule.CountOutOfRange 10000) tt
range_fits site w station (Lend name count) = when_holds (Fits site) tt _ (rule.CountOutOfRange 10000) tt
range_fits site w station (Orders rows) = when_holds (Fits site) tt _ (rule.CountOutOfRange 1000) tt
range_fits site w station deed = when_holds (Fits site) tt _ (rule.CountOutOfRange 1000) tt

full_fits : (site : Setup) (w : World) (station : ℕ) (deed : Deed) → Fits site (site_full site w station deed)
unfolding site_full full
full_fits site w station (Draw name count) = when_holds (Fits site) tt _ (rule.SiteFull _ _) tt
full_fits site w station (MakeUnit name level) = when_holds (Fits site) tt _ (rule.SiteFull _ _) tt
full_fits site w station deed = when_holds (Fits site) tt _ (rule.SiteFull _ _) tt

thin_fits : (site : Setup) (w : World) (station : ℕ) (deed : Deed) → Fits site (pool_thin site w station deed)
unfolding pool_thin thin
thin_fits site w station deed = then_holds (Fits site) tt _ (batch_for w deed) (λ batch _. when_holds (Fits site) tt _ (rule.PoolThin _ _) tt)

fresh_fits : (site : Setup) (w : World) (station : ℕ) (deed : Deed) → Fits site (few_fresh site w station deed)
unfolding few_fresh
fresh_fits site w station deed = when_holds (Fits site) tt _ (rule.FewFresh _) tt

spent_fits : (site : Setup) (w : World) (station : ℕ) (deed : Deed) → Fits site (sscc_spent site w station deed)
unfolding sscc_spent
spent_fits site w station deed = when_holds (Fits site) tt _ rule.SsccSpent tt

repeated_fits : (site : Setup) (w : World) (station : ℕ) (deed : Deed) → Fits site (repeated site w station deed)
unfolding repeated
repeated_fits site w station deed = each_holds (Fits site) tt _ (λ k name. when_holds (Fits site) tt _ (rule.RepeatedInRequest k) tt) (named w deed)

serial_fits : (site : Setup) (w : World) (station : ℕ) (deed : Deed) → Fits site (unknown_serial site w station deed)
unfolding unknown_serial
serial_fits site w station deed = each_holds (Fits site) tt _ (λ k name. when_holds (Fits site) tt _ (rule.UnknownSerial k) tt) (named w deed)

other_fits : (site : Setup) (w : World) (station : ℕ) (deed : Deed) → Fits site (other_batch site w station deed)
unfolding other_batch strays
other_fits site w station (Commission name codes) = each_holds (Fits site) tt _ (λ k code. when_holds (Fits site) tt _ (rule.OtherBatch k) tt) codes
other_fits site w station deed = each_holds (Fits site) tt _ (λ k name. when_holds (Fits site) tt _ (rule.OtherBatch k) tt) (named w deed)

misfits_fit : (site : Setup) (w : World) (level : Level) (names : List Epc) → Fits site (misfits w level names)
unfolding misfits
misfits_fit site w level names = each_holds (Fits site) tt _ (λ k name. when_holds (Fits site) tt _ (rule.WrongLevel k) tt) names

level_fits : (site : Setup) (w : World) (station : ℕ) (deed : Deed) → Fits site (wrong_level site w station deed)
unfolding wrong_level
level_fits site w station (MakeUnit name Case) = tt
level_fits site w station (MakeUnit name Pallet) = when_holds (Fits site) tt _ (rule.WrongLevel 0) tt
level_fits site w station deed = then_holds (Fits site) tt (λ (unit : Container). misfits w unit.level (named w deed)) (unit_of w (unit_named deed)) (λ unit _. misfits_fit site w unit.level (named w deed))

state_fits : (site : Setup) (w : World) (station : ℕ) (deed : Deed) → Fits site (wrong_state site w station deed)
unfolding wrong_state
state_fits site w station deed = each_holds (Fits site) tt _ (λ k name. map_holds (Fits site) tt (rule.WrongState k) _ (λ state _. tt)) (named w deed)

-- a row of a station's is of a line of the site
line_of : (site : Setup) (w : World) (station : ℕ) (name : Epc) → Every (IsOfStation site) w.rows → IsLine site (other_line w station name)
unfolding other_line row_of IsOfStation
line_of site w station (Item gtin serial) lines =
    then_holds (IsLine site) tt (λ (row : Row). option_and_then (λ (line : ℕ). when (not (nat_eq line station)) line) row.line) (find (λ (row : Row). same_name (name_of row) (Item gtin serial)) w.rows)
    (λ row here. then_holds (IsLine site) tt (λ (line : ℕ). when (not (nat_eq line station)) line) row.line
    (λ line is. when_holds (IsLine site) tt (not (nat_eq line station)) line (found_holds (IsOfStation site) (λ (row : Row). same_name (name_of row) (Item gtin serial)) w.rows row lines here line is)))
line_of site w station (Box sscc) lines = tt

line_named : (site : Setup) (k : ℕ) (o : Option ℕ) → IsLine site o → Fits site (option_map (rule.LentToOther k) o)
line_named site k None is = tt
line_named site k (Some line) is = (is, tt)

lent_fits : (site : Setup) (w : World) → IsProperWorld site w → (station : ℕ) (deed : Deed) → Fits site (lent_to_other site w station deed)
unfolding lent_to_other
lent_fits site w proper station deed = each_holds (Fits site) tt _ (λ k name. line_named site k (other_line w station name) (line_of site w station name proper.lines)) (named w deed)

parent_fits : (site : Setup) (w : World) (station : ℕ) (deed : Deed) → Fits site (has_parent site w station deed)
unfolding has_parent
parent_fits site w station (Unseal unit) = map_holds (Fits site) tt (rule.HasParent 0) _ (λ sscc _. tt)
parent_fits site w station deed = each_holds (Fits site) tt _ (λ k name. map_holds (Fits site) tt (rule.HasParent k) _ (λ sscc _. tt)) (named w deed)

child_fits : (site : Setup) (w : World) (station : ℕ) (deed : Deed) → Fits site (not_child site w station deed)
unfolding not_child
child_fits site w station deed = each_holds (Fits site) tt _ (λ k name. when_holds (Fits site) tt _ (rule.NotChild k) tt) (named w deed)

over_fits : (site : Setup) (w : World) (sscc : Text) (more : ℕ) (unit : Container) (batch : Batch) → Fits site (over w sscc more unit batch)
unfolding over
over_fits site w sscc more unit batch = when_holds (Fits site) tt _ (rule.UnitFull _ _) tt

unit_full_fits : (site : Setup) (w : World) (station : ℕ) (deed : Deed) → Fits site (unit_full site w station deed)
unfolding unit_full
unit_full_fits site w station deed =
    then_holds (Fits site) tt (λ (unit : Container). option_and_then (over w (unit_named deed) (length (named w deed)) unit) (batch_for w deed)) (unit_of w (unit_named deed))
    (λ unit _. then_holds (Fits site) tt (over w (unit_named deed) (length (named w deed)) unit) (batch_for w deed) (λ batch _. over_fits site w (unit_named deed) (length (named w deed)) unit batch))

not_empty_fits : (site : Setup) (w : World) (station : ℕ) (deed : Deed) → Fits site (unit_not_empty site w station deed)
unfolding unit_not_empty
not_empty_fits site w station deed = when_holds (Fits site) tt _ (rule.UnitNotEmpty _) tt

nothing_fits : (site : Setup) (w : World) (station : ℕ) (deed : Deed) → Fits site (nothing_inside site w station deed)
unfolding nothing_inside
nothing_fits site w station deed = when_holds (Fits site) tt _ rule.NothingInside tt

differs_fits : (site : Setup) (w : World) (name : Text) (line : ℕ) → line < length site.stations → FitsFound site (differs w name line)
unfolding differs
differs_fits site w name line is =
    then_holds (FitsFound site) tt (λ (said : List ℕ). when (not (same said (line_numbers w name line))) (finding_of.DeclaredDiffers line (line_numbers w name line) said)) (declared_numbers w name line)
    (λ said _. when_holds (FitsFound site) tt (not (same said (line_numbers w name line))) (finding_of.DeclaredDiffers line (line_numbers w name line) said) (is, tt))

-- a finding on a row or on a unit names no station
row_found : (site : Setup) (f : Row → Finding) (o : Option Row) → ((row : Row) → stations_of_finding (f row) ≡ []) → FitsFound site (option_map f o)
row_found site f None quiet = tt
row_found site f (Some row) quiet = subst (λ (lines : List ℕ). AreOfSite site lines) (sym (quiet row)) tt

unit_found : (site : Setup) (f : Container → Finding) (o : Option Container) → ((unit : Container) → stations_of_finding (f unit) ≡ []) → FitsFound site (option_map f o)
unit_found site f None quiet = tt
unit_found site f (Some unit) quiet = subst (λ (lines : List ℕ). AreOfSite site lines) (sym (quiet unit)) tt

finding_fits : (site : Setup) (w : World) (name : Text) → FitsFound site (finding site w name)
unfolding finding findings still_lent still_rejected unpacked unit_open unit_loose not_declared declared_differs each
finding_fits site w name =
    first_holds (FitsFound site) tt (findings site w name) (
      row_found site (λ (row : Row). finding_of.StillLent row.serial) (find (λ (row : Row). is_lent row.state) (rows_in w name)) (λ row. refl),
      (
        row_found site (λ (row : Row). finding_of.StillRejected row.serial) (find (λ (row : Row). is_rejected row.state) (rows_in w name)) (λ row. refl),
        (
          row_found site (λ (row : Row). finding_of.Unpacked row.serial) (find (λ (row : Row). is_active row.state && is_none (parent w (name_of row))) (rows_in w name)) (λ row. refl),
          (
            unit_found site (λ (unit : Container). finding_of.UnitOpen unit.sscc) (find (λ (unit : Container). is_filling unit.mark) (units_in w name)) (λ unit. refl),
            (
              if_holds (FitsFound site) tt (has_pallets w name) (option_map (λ (unit : Container). finding_of.UnitLoose unit.sscc) (find (stands_loose w) (units_in w name)))
                  (unit_found site (λ (unit : Container). finding_of.UnitLoose unit.sscc) (find (stands_loose w) (units_in w name)) (λ unit. refl)),
              (
                each_below (FitsFound site) tt (λ (line : ℕ) (station : Station). when (has_line w name line && is_none (declared_numbers w name line)) (finding_of.NotDeclared line)) (length site.stations)
                    (λ line station is. when_holds (FitsFound site) tt (has_line w name line && is_none (declared_numbers w name line)) (finding_of.NotDeclared line) (is, tt)) site.stations 0 (omega arith),
                (
                  each_below (FitsFound site) tt (λ (line : ℕ) (station : Station). if has_line w name line then differs w name line else None) (length site.stations)
                      (λ line station is. if_holds (FitsFound site) tt (has_line w name line) (differs w name line) (differs_fits site w name line is)) site.stations 0 (omega arith),
                  tt,
                ),
              ),
            ),
          ),
        ),
      ),
    )

finding_named : (site : Setup) (o : Option Finding) → FitsFound site o → Fits site (option_map rule.NotAccounted o)
finding_named site None is = tt
finding_named site (Some found) is = is

accounted_fits : (site : Setup) (w : World) (station : ℕ) (deed : Deed) → Fits site (not_accounted site w station deed)
unfolding not_accounted
accounted_fits site w station deed = finding_named site (finding site w (batch_named w deed)) (finding_fits site w (batch_named w deed))

-- ---- all rules of a deed

abbrev AllFit : Setup → World → List Test → Type 0
AllFit site w tests = Every (λ (test : Test). (station : ℕ) (deed : Deed) → Fits site (test site w station deed)) tests

rows_fit : (site : Setup) (w : World) (last : List Test) → AllFit site w last → AllFit site w (on_rows last)
unfolding on_rows
rows_fit site w last all =
    (role_fits site w, (batch_fits site w, (not_started_fits site w, (closed_fits site w, (range_fits site w, (repeated_fits site w, (serial_fits site w, (other_fits site w, (state_fits site w, all)))))))))

rules_fit : (site : Setup) (w : World) → IsProperWorld site w → (deed : Deed) → AllFit site w (rules_of deed)
unfolding rules_of
rules_fit site w proper (Order row) = (role_fits site w, (product_fits site w, (conflict_fits site w, (full_fits site w, tt))))
rules_fit site w proper (Orders rows) = (role_fits site w, (product_fits site w, (conflict_fits site w, (range_fits site w, (full_fits site w, tt)))))
rules_fit site w proper (Start name) = (role_fits site w, (batch_fits site w, (started_fits site w, (closed_fits site w, tt))))
rules_fit site w proper (Draw name count) = (role_fits site w, (batch_fits site w, (closed_fits site w, (range_fits site w, (full_fits site w, (thin_fits site w, tt))))))
rules_fit site w proper (Lend name count) = (role_fits site w, (batch_fits site w, (not_started_fits site w, (closed_fits site w, (range_fits site w, (fresh_fits site w, tt))))))
rules_fit site w proper (Commission name codes) = rows_fit site w (lent_to_other ∷ []) (lent_fits site w proper, tt)
rules_fit site w proper (Spoil name serials) = rows_fit site w (lent_to_other ∷ []) (lent_fits site w proper, tt)
rules_fit site w proper (Giveback name serials) = rows_fit site w (lent_to_other ∷ []) (lent_fits site w proper, tt)
rules_fit site w proper (Sample name items) = rows_fit site w (has_parent ∷ []) (parent_fits site w, tt)
rules_fit site w proper (Reject name items) = rows_fit site w (has_parent ∷ []) (parent_fits site w, tt)
rules_fit site w proper (Reinstate name items) = rows_fit site w [] tt
rules_fit site w proper (Destroy name items) = rows_fit site w [] tt
rules_fit site w proper (Decommission name items) = rows_fit site w (has_parent ∷ []) (parent_fits site w, tt)
rules_fit site w proper (MakeUnit name level) = (role_fits site w, (batch_fits site w, (not_started_fits site w, (closed_fits site w, (full_fits site w, (spent_fits site w, (level_fits site w, tt)))))))
rules_fit site w proper (Pack unit children) =
    (role_fits site w, (unit_fits site w, (closed_fits site w, (void_fits site w, (sealed_fits site w, (range_fits site w, (repeated_fits site w, (serial_fits site w, (other_fits site w, (level_fits site w, (state_fits site w, (parent_fits site w, (unit_full_fits site w, tt)))))))))))))
rules_fit site w proper (Unpack unit children) = (role_fits site w, (unit_fits site w, (closed_fits site w, (void_fits site w, (sealed_fits site w, (range_fits site w, (repeated_fits site w, (child_fits site w, tt))))))))
rules_fit site w proper (UnpackAll unit) = (role_fits site w, (unit_fits site w, (closed_fits site w, (void_fits site w, (sealed_fits site w, (nothing_fits site w, tt))))))
rules_fit site w proper (Seal unit) = (role_fits site w, (unit_fits site w, (closed_fits site w, (void_fits site w, (sealed_fits site w, (nothing_fits site w, tt))))))
rules_fit site w proper (Unseal unit) = (role_fits site w, (unit_fits site w, (closed_fits site w, (void_fits site w, (not_sealed_fits site w, (parent_fits site w, tt))))))
rules_fit site w proper (Void unit) = (role_fits site w, (unit_fits site w, (closed_fits site w, (void_fits site w, (sealed_fits site w, (not_empty_fits site w, tt))))))
rules_fit site w proper (Declare name good spoiled returned) = (role_fits site w, (batch_fits site w, (not_started_fits site w, (closed_fits site w, tt))))
rules_fit site w proper (Close name) = (role_fits site w, (batch_fits site w, (not_started_fits site w, (closed_fits site w, (accounted_fits site w, tt)))))
rules_fit site w proper (Amend name quantity) = (role_fits site w, (batch_fits site w, (closed_fits site w, tt)))

fit_here : (site : Setup) (w : World) (station : ℕ) (deed : Deed) (tests : List Test) → AllFit site w tests → Every (Fits site) (map (λ (test : Test). test site w station deed) tests)
fit_here site w station deed [] all = tt
fit_here site w station deed (test ∷ tests) all = (all.0 station deed, fit_here site w station deed tests all.1)

broken_fits : (site : Setup) (w : World) (station : ℕ) (deed : Deed) → IsProperWorld site w → Fits site (broken site w station deed)
unfolding broken
broken_fits site w station deed proper = first_holds (Fits site) tt _ (fit_here site w station deed (rules_of deed) (rules_fit site w proper deed))

replied_fits : (site : Setup) (w : World) (entry : Entry) (o : Option Rule) → Fits site o → NamesStationsOf site (replied site w entry o)
unfolding replied
replied_fits site w entry None is = tt
replied_fits site w entry (Some broken) is = is

-- the stations that the reply to an entry names are of the site
pub reply_fits : (site : Setup) (w : World) (entry : Entry) → IsProperWorld site w → NamesStationsOf site (reply_to site w entry)
unfolding reply_to
reply_fits site w entry proper = replied_fits site w entry (broken site w entry.station entry.deed) (broken_fits site w entry.station entry.deed proper)

-- ---- the replies of a history

-- a lawful entry keeps a world proper
abbrev pub KeepsProper : Type 0
KeepsProper = (site : Setup) (history : List Entry) (w : World) (entry : Entry) → MayFollow site history w entry → IsProperEntry entry → IsProperWorld site w → IsProperWorld site (after site w entry)

abbrev Fitting : Setup → Entry × Reply → Type 0
Fitting site told = NamesStationsOf site told.1

told_all : KeepsProper → (site : Setup) (history : List Entry) (w : World) (entries : List Entry) → AllFollow site history w entries → Every IsProperEntry entries → IsProperWorld site w → Every (Fitting site) (told_from site w entries)
unfolding AllFollow told_from steps_from
told_all keeps site history w [] a p world = tt
told_all keeps site history w (entry ∷ entries) a p world =
    (reply_fits site w entry world, told_all keeps site (history ++ entry ∷ []) (after site w entry) entries a.1 p.1 (keeps site history w entry a.0 p.0 world))

all_filtered : {X : Type 0} (P : X → Type 0) (test : X → Bool) (xs : List X) → Every P xs → Every P (filter test xs)
all_filtered P test [] all = tt
all_filtered P test (x ∷ xs) all = kept_or (test x) all.0 (all_filtered P test xs all.1)
  where
    kept_or : (b : Bool) → P x → Every P (filter test xs) → Every P (cond b (x ∷ filter test xs) (filter test xs))
    kept_or true here rest = (here, rest)
    kept_or false here rest = rest

there_holds : {X : Type 0} (P : X → Type 0) (xs : List X) (k : ℕ) (x : X) → Every P xs → slice_get xs k ≡ Some x → P x
there_holds P [] k x all e = absurd (cc)
there_holds P (y ∷ xs) zero x all e = let same : y ≡ x = cc in subst P same all.0
there_holds P (y ∷ xs) (suc k) x all e = there_holds P xs k x all.1 e

nothing_proper : (site : Setup) → IsProperWorld site nothing_yet
nothing_proper site = record { batches = tt; lines = tt; declared = tt }

told_fits : KeepsProper → (site : Setup) (history : List Entry) → IsLawful site history → All IsProperEntry history → Every (Fitting site) (told_from site nothing_yet history)
unfolding IsLawful
told_fits keeps site history lawful proper = told_all keeps site [] nothing_yet history lawful (recursion_from_All IsProperEntry history proper) (nothing_proper site)

-- each reply that a history told
pub all_fit : KeepsProper → (site : Setup) (history : List Entry) → IsLawful site history → All IsProperEntry history → All (λ told. NamesStationsOf site told.1) (told_from site nothing_yet history)
all_fit keeps site history lawful proper = All-from_recursion (Fitting site) (told_from site nothing_yet history) (told_fits keeps site history lawful proper)

-- what a number of a station has kept is one of them
pub kept_fits : KeepsProper → (site : Setup) (history : List Entry) (station number : ℕ) (deed : Deed) (reply : Reply) → IsLawful site history → All IsProperEntry history → Means site history station number deed (Kept reply) → NamesStationsOf site reply
unfolding Means IsTold told_to
kept_fits keeps site history station number deed reply lawful proper means =
    there_holds (Fitting site) _ (number - 1) (means.0, reply) (all_filtered (Fitting site) (λ told. nat_eq told.0.station station) (told_from site nothing_yet history) (told_fits keeps site history lawful proper)) means.1.1
