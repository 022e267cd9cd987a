-- How many live names there are.
use Rattle.std.proofs.Common.{◌≡◌, ◌+◌, Bool, true, false, cond, ◌||◌, not, List, [], ◌∷◌, ◌++◌, length, map, sym, ◌∙◌, ap, refl, subst, Option, Some, length-append}
use Rattle.std.specs.Prelude.{filter, find}
use Rattle.std.specs.List.{AllByRecursion as Every, IsDistinct, list_any}
use Rattle.std.proofs.lemmas.List.{length-map}
use Rattle.std.proofs.lemmas.List.Folds.{list_any-append}
use Rattle.std.proofs.lemmas.Map.Keys.{IsDistinct-head, IsDistinct-tail}
use Rattle.std.proofs.lemmas.Map.Made.{length-from_same_keys}
use Rattle.epc_urn.specs.declared.epc.Epc.{Epc}
use Rattle.epc_urn.specs.declared.epc.Epc.TheVariants.{Item, Unit as Box}
use Rattle.deed_words.specs.declared.entry.Entry.{Entry}
use Rattle.deed_words.specs.declared.world.Row.{Row}
use Rattle.deed_words.specs.declared.world.Container.{Container}
use Rattle.deed_words.specs.Setups.{Setup, IsProper}
use Rattle.deed_words.specs.Names.{Text, same, same_name, is_among}
use Rattle.deed_words.specs.Chain.{holds_of}
use Rattle.deed_words.specs.World.{World, row_of, unit_of, name_of}
use Rattle.deed_words.specs.Moves.{is_void}
use Rattle.deed_words.specs.History.{world_of, IsLawful}
use Rattle.deed_words.specs.Sound.{IsSound}
use Rattle.deed_words.proofs.Sameness.{same_name_equiv, same_name-true}
use Rattle.deed_words.proofs.Items.{Every-always, Every-map, Every-of_map, IsDistinct-filtered}
use Rattle.deed_words.proofs.SoundPairs.{names_differ}
use Rattle.deed_words.proofs.UnitCodes.{units_differ}
use Rattle.deed_words.proofs.Soundness.{lawful_is_sound}
use Rattle.epcis_events.specs.Events.{events}
use Rattle.epcis_events.specs.Replaying.{replay}
use Rattle.epcis_events.specs.There.{is_live, is_there, live_rows, units_in_use}
use Rattle.epcis_events.proofs.Whole.{live, once}

-- among the items that pass, one is that of a name exactly where the first of that name passes
among_passing : {A : Type 0} (key : A → Epc) (pass : A → Bool) (name : Epc) (xs : List A) → IsDistinct same_name (map key xs)
    → list_any (same_name name) (map key (filter pass xs)) ≡ holds_of pass (find (λ x. same_name (key x) name) xs)
unfolding holds_of
among_passing key pass name [] d = refl
among_passing {A} key pass name (x ∷ xs) d =
    let rest = among_passing key pass name xs (IsDistinct-tail same_name (key x) (map key xs) d) in
    let flip : same_name name (key x) ≡ same_name (key x) name = same_name_equiv.symm name (key x) in
    let kept : List Epc = map key (filter pass xs) in
    (elim (same_name (key x) name) as (λ b. same_name (key x) name ≡ b → list_any (same_name name) (map key (cond (pass x) (x ∷ filter pass xs) (filter pass xs))) ≡ holds_of pass (cond b (Some x) (find (λ y. same_name (key y) name) xs))) [
      | true ↦ λ t.
          let one : key x ≡ name = same_name-true (key x) name t in
          let others : Every (λ (c : Epc). same_name name c ≡ false) (map key xs) = subst (λ (n : Epc). Every (λ (c : Epc). same_name n c ≡ false) (map key xs)) one (IsDistinct-head same_name (key x) (map key xs) d) in
          let none : list_any (same_name name) kept ≡ false = left_out key pass name xs others in
          elim (pass x) as (λ p. list_any (same_name name) (map key (cond p (x ∷ filter pass xs) (filter pass xs))) ≡ p) [
            | true ↦ ap (λ b. b || list_any (same_name name) kept) (flip ∙ t)
            | false ↦ none
          ]
      | false ↦ λ f.
          (elim (pass x) as (λ p. list_any (same_name name) (map key (cond p (x ∷ filter pass xs) (filter pass xs))) ≡ holds_of pass (find (λ y. same_name (key y) name) xs)) [
            | true ↦ ap (λ b. b || list_any (same_name name) kept) (flip ∙ f) ∙ rest
            | false ↦ rest
          ])
    ]) refl
  where
    left_out : {B : Type 0} (k : B → Epc) (p : B → Bool) (n : Epc) (ys : List B) → Every (λ (c : Epc). same_name n c ≡ false) (map k ys) → list_any (same_name n) (map k (filter p ys)) ≡ false
    left_out k p n [] a = refl
    left_out k p n (y ∷ ys) a =
        elim (p y) as (λ b. list_any (same_name n) (map k (cond b (y ∷ filter p ys) (filter p ys))) ≡ false) [
          | true ↦ ap (λ b. b || list_any (same_name n) (map k (filter p ys))) a.0 ∙ left_out k p n ys a.1
          | false ↦ left_out k p n ys a.1
        ]

-- names of rows are no names of units
no_row : (sscc : Text) (rows : List Row) → list_any (same_name (Box sscc)) (map name_of rows) ≡ false
unfolding same_name
no_row sscc [] = refl
no_row sscc (row ∷ rows) = no_row sscc rows

box_of : Container → Epc
box_of unit = Box unit.sscc

no_unit : (gtin serial : Text) (units : List Container) → list_any (same_name (Item gtin serial)) (map box_of units) ≡ false
unfolding same_name box_of
no_unit gtin serial [] = refl
no_unit gtin serial (unit ∷ units) = no_unit gtin serial units

boxes_differ : (units : List Container) → IsDistinct same (map (λ (u : Container). u.sscc) units) → IsDistinct same_name (map box_of units)
unfolding IsDistinct same_name box_of
boxes_differ [] d = tt
boxes_differ (unit ∷ units) d = (
  Every-map (λ (c : Epc). same_name (Box unit.sscc) c ≡ false) box_of units (Every-of_map (λ (c : Text). same unit.sscc c ≡ false) (λ (u : Container). u.sscc) units d.0),
  boxes_differ units d.1,
)

found_box : (sscc : Text) (units : List Container) → find (λ (u : Container). same_name (box_of u) (Box sscc)) units ≡ find (λ (u : Container). same u.sscc sscc) units
unfolding same_name box_of
found_box sscc [] = refl
found_box sscc (unit ∷ units) = ap (λ (o : Option Container). cond (same unit.sscc sscc) (Some unit) o) (found_box sscc units)

all_there : World → List Epc
all_there w = map name_of (live_rows w.rows) ++ map box_of (units_in_use w.units)

is_all : (site : Setup) (w : World) → IsSound site w → (name : Epc) → list_any (same_name name) (all_there w) ≡ is_there w name
unfolding all_there is_there row_of unit_of
is_all site w s (Item gtin serial) =
    list_any-append (same_name (Item gtin serial)) (map name_of (live_rows w.rows)) (map box_of (units_in_use w.units))
    ∙ ap (λ b. list_any (same_name (Item gtin serial)) (map name_of (live_rows w.rows)) || b) (no_unit gtin serial (units_in_use w.units))
    ∙ or_false (list_any (same_name (Item gtin serial)) (map name_of (live_rows w.rows)))
    ∙ among_passing name_of (λ (row : Row). is_live row.state) (Item gtin serial) w.rows s.rows_differ
  where
    or_false : (b : Bool) → (b || false) ≡ b
    or_false true = refl
    or_false false = refl
is_all site w s (Box sscc) =
    list_any-append (same_name (Box sscc)) (map name_of (live_rows w.rows)) (map box_of (units_in_use w.units))
    ∙ ap (λ b. b || list_any (same_name (Box sscc)) (map box_of (units_in_use w.units))) (no_row sscc (live_rows w.rows))
    ∙ among_passing box_of (λ (unit : Container). not (is_void unit.mark)) (Box sscc) w.units (boxes_differ w.units (units_differ site w s))
    ∙ ap (holds_of (λ (unit : Container). not (is_void unit.mark))) (found_box sscc w.units)

none_shared : (units : List Container) (rows : List Row) → Every (λ (c : Epc). Every (λ (x : Epc). same_name c x ≡ false) (map name_of rows)) (map box_of units)
unfolding box_of same_name
none_shared [] rows = tt
none_shared (unit ∷ units) rows = (Every-map (λ (x : Epc). same_name (Box unit.sscc) x ≡ false) name_of rows (Every-always (λ (row : Row). same_name (Box unit.sscc) (name_of row) ≡ false) (λ row. refl) rows), none_shared units rows)

all_differ : (site : Setup) (w : World) → IsSound site w → IsDistinct same_name (all_there w)
unfolding all_there
all_differ site w s =
    names_differ (map name_of (live_rows w.rows)) (map box_of (units_in_use w.units))
    (IsDistinct-filtered same_name name_of (λ (row : Row). is_live row.state) w.rows s.rows_differ)
    (IsDistinct-filtered same_name box_of (λ (unit : Container). not (is_void unit.mark)) w.units (boxes_differ w.units (units_differ site w s)))
    (none_shared (units_in_use w.units) (live_rows w.rows))

pub numbers : (site : Setup) (history : List Entry) → IsProper site → IsLawful site history → length (replay (events site history)).live ≡ length (live_rows (world_of site history).rows) + length (units_in_use (world_of site history).units)
unfolding all_there is_among
numbers site history proper lawful =
    let w : World = world_of site history in
    let s : IsSound site w = lawful_is_sound site history proper lawful in
    let rows : List Row = live_rows w.rows in
    let units : List Container = units_in_use w.units in
    length-from_same_keys same_name_equiv (replay (events site history)).live (all_there w) (once site history proper lawful) (all_differ site w s) (λ name. live site history name proper lawful ∙ sym (is_all site w s name))
    ∙ length-append (map name_of rows) (map box_of units) ∙ ap (λ n. n + length (map box_of units)) (length-map rows name_of) ∙ ap (λ n. length rows + n) (length-map units box_of)
