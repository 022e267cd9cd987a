-- What is there after containers came or were marked.
use Rattle.std.proofs.Common.{◌≡◌, Bool, true, false, cond, ◌&&◌, ◌||◌, not, List, [], ◌∷◌, ◌++◌, length, map, sym, ◌∙◌, ap, refl, subst, Option, None, Some}
use Rattle.std.specs.Prelude.{if◌then◌else◌, find, option_map}
use Rattle.std.specs.Option.{option_or, option_map_or}
use Rattle.std.specs.List.{AllByRecursion as Every, IsDistinct}
use Rattle.std.proofs.lemmas.List.{map-append}
use Rattle.std.proofs.lemmas.List.Folds.{find-append}
use Rattle.epc_urn.specs.declared.epc.Epc.{Epc}
use Rattle.epc_urn.specs.declared.epc.Epc.TheVariants.{Item, Unit as Box}
use Rattle.deed_words.specs.declared.words.Level.{Level}
use Rattle.deed_words.specs.declared.words.Mark.{Mark}
use Rattle.deed_words.specs.declared.words.Mark.TheVariants as mark
use Rattle.deed_words.specs.declared.world.Container.{Container}
use Rattle.deed_words.specs.declared.world.Pair.{Pair}
use Rattle.deed_words.specs.Setups.{Setup, code_of}
use Rattle.deed_words.specs.Names.{Text, same, same_name, is_among}
use Rattle.deed_words.specs.Chain.{holds_of}
use Rattle.deed_words.specs.World.{World, unit_of, row_of}
use Rattle.deed_words.specs.Deeds.{batch_with}
use Rattle.deed_words.specs.Moves.{is_void}
use Rattle.deed_words.specs.Effects.{with_unit, marked, with_mark}
use Rattle.deed_words.specs.Sound.{IsSound, StandsRightly}
use Rattle.deed_words.proofs.Sameness.{same-true, same_equiv}
use Rattle.deed_words.proofs.Items.{Every-weaker, Every-of_map, find-map, find-more, find_passes}
use Rattle.deed_words.proofs.UnitCodes.{units_differ}
use Rattle.deed_words.proofs.ClosedKept.{filter_same}
use Rattle.epcis_events.proofs.Bools.{and_false, and_true, or_true, or_false, last_differs, find_not}
use Rattle.epcis_events.proofs.Parts.{Chosen, there_in, paired_in}

-- no unit has the next code
pub code_is_new : (site : Setup) (w : World) (batch : Text) (level : Level) → IsSound site (with_unit site w batch level) → find (λ (u : Container). same u.sscc (code_of site (length w.units))) w.units ≡ None
unfolding with_unit
code_is_new site w batch level s =
    let code : Text = code_of site (length w.units) in
    let unit : Container = record { sscc = code; batch = batch; level = level; mark = mark.Filling } in
    let apart : IsDistinct same (map (λ (u : Container). u.sscc) w.units ++ code ∷ []) = subst (IsDistinct same) (map-append (λ (u : Container). u.sscc) w.units (unit ∷ [])) (units_differ site (with_unit site w batch level) s) in
    find_not (λ (u : Container). same u.sscc code) w.units (Every-of_map (λ (c : Text). same c code ≡ false) (λ (u : Container). u.sscc) w.units (last_differs same (map (λ (u : Container). u.sscc) w.units) code apart))

-- the new unit wasn't there
pub new_wasnt_there : (mine : Chosen) (site : Setup) (w : World) → find (λ (u : Container). same u.sscc (code_of site (length w.units))) w.units ≡ None → there_in mine w (Box (code_of site (length w.units))) ≡ false
unfolding there_in unit_of holds_of
new_wasnt_there mine site w none = ap (holds_of (λ (u : Container). mine u.batch && not (is_void u.mark))) none

-- other units are as they were
other_units : (mine : Chosen) (site : Setup) (w : World) (batch : Text) (level : Level) (sscc : Text) → same sscc (code_of site (length w.units)) ≡ false → there_in mine (with_unit site w batch level) (Box sscc) ≡ there_in mine w (Box sscc)
unfolding there_in with_unit unit_of
other_units mine site w batch level sscc f =
    let code : Text = code_of site (length w.units) in
    let unit : Container = record { sscc = code; batch = batch; level = level; mark = mark.Filling } in
    let pass : Container → Bool = λ u. mine u.batch && not (is_void u.mark) in
    let old : Option Container = find (λ (u : Container). same u.sscc sscc) w.units in
    ap (holds_of pass) (find-append (λ (u : Container). same u.sscc sscc) w.units (unit ∷ [])
    ∙ ap (λ b. option_or old (cond b (Some unit) None)) (same_equiv.symm code sscc ∙ f)
    ∙ or_none old)
  where
    or_none : (o : Option Container) → option_or o None ≡ o
    or_none None = refl
    or_none (Some u) = refl

new_unit : (mine : Chosen) (site : Setup) (w : World) (batch : Text) (level : Level) (sscc : Text) → find (λ (u : Container). same u.sscc (code_of site (length w.units))) w.units ≡ None → same sscc (code_of site (length w.units)) ≡ true
    → there_in mine (with_unit site w batch level) (Box sscc) ≡ mine batch
unfolding there_in with_unit unit_of holds_of is_void
new_unit mine site w batch level sscc none t =
    let code : Text = code_of site (length w.units) in
    let unit : Container = record { sscc = code; batch = batch; level = level; mark = mark.Filling } in
    let pass : Container → Bool = λ u. mine u.batch && not (is_void u.mark) in
    let is : sscc ≡ code = same-true sscc code t in
    let old : find (λ (u : Container). same u.sscc sscc) w.units ≡ None = ap (λ (c : Text). find (λ (u : Container). same u.sscc c) w.units) is ∙ none in
    ap (holds_of pass) (find-append (λ (u : Container). same u.sscc sscc) w.units (unit ∷ [])
    ∙ ap (λ (o : Option Container). option_or o (cond (same code sscc) (Some unit) None)) old
    ∙ ap (λ b. cond b (Some unit) None) (same_equiv.symm code sscc ∙ t))
    ∙ and_true (mine batch)

pub there_made : (mine : Chosen) (site : Setup) (w : World) (batch : Text) (level : Level) → find (λ (u : Container). same u.sscc (code_of site (length w.units))) w.units ≡ None → mine batch ≡ true
    → (name : Epc) → there_in mine (with_unit site w batch level) name ≡ (there_in mine w name || is_among (Box (code_of site (length w.units)) ∷ []) name)
unfolding is_among same_name there_in row_of with_unit
there_made mine site w batch level none meant (Item gtin serial) = sym (or_false (there_in mine w (Item gtin serial)))
there_made mine site w batch level none meant (Box sscc) =
    (elim (same sscc (code_of site (length w.units))) as (λ b. same sscc (code_of site (length w.units)) ≡ b → there_in mine (with_unit site w batch level) (Box sscc) ≡ (there_in mine w (Box sscc) || (b || false))) [
      | true ↦ λ t. new_unit mine site w batch level sscc none t ∙ meant ∙ sym (or_true (there_in mine w (Box sscc)))
      | false ↦ λ f. other_units mine site w batch level sscc f ∙ sym (or_false (there_in mine w (Box sscc)))
    ]) refl

pub there_made_elsewhere : (mine : Chosen) (site : Setup) (w : World) (batch : Text) (level : Level) → find (λ (u : Container). same u.sscc (code_of site (length w.units))) w.units ≡ None → mine batch ≡ false
    → (name : Epc) → there_in mine (with_unit site w batch level) name ≡ there_in mine w name
unfolding there_in row_of with_unit
there_made_elsewhere mine site w batch level none other (Item gtin serial) = refl
there_made_elsewhere mine site w batch level none other (Box sscc) =
    (elim (same sscc (code_of site (length w.units))) as (λ b. same sscc (code_of site (length w.units)) ≡ b → there_in mine (with_unit site w batch level) (Box sscc) ≡ there_in mine w (Box sscc)) [
      | true ↦ λ t. new_unit mine site w batch level sscc none t ∙ other ∙ sym (new_wasnt_there mine site w none) ∙ ap (λ (c : Text). there_in mine w (Box c)) (sym (same-true sscc (code_of site (length w.units)) t))
      | false ↦ λ f. other_units mine site w batch level sscc f
    ]) refl

-- things stand in the units in which they stood
pub paired_made : (mine : Chosen) (site : Setup) (w : World) (batch : Text) (level : Level) → IsSound site w → paired_in mine (with_unit site w batch level) ≡ paired_in mine w
unfolding paired_in batch_with unit_of with_unit StandsRightly
paired_made mine site w batch level s =
    let unit : Container = record { sscc = code_of site (length w.units); batch = batch; level = level; mark = mark.Filling } in
    let before : Pair → Bool = λ p. mine (option_map_or (λ (u : Container). u.batch) (find (λ (u : Container). same u.sscc p.parent) w.units) []) in
    let after : Pair → Bool = λ p. mine (option_map_or (λ (u : Container). u.batch) (find (λ (u : Container). same u.sscc p.parent) (w.units ++ unit ∷ [])) []) in
    filter_same after before w.pairs
    (Every-weaker (StandsRightly w) (λ (p : Pair). after p ≡ before p)
    (λ p st. ap (λ (o : Option Container). mine (option_map_or (λ (u : Container). u.batch) o [])) (find-more (λ (u : Container). same u.sscc p.parent) w.units (unit ∷ []) st.0 st.1 ∙ sym st.1)) w.pairs s.packed)

-- marks

marked_code : (to : Mark) (sscc : Text) (u : Container) → (marked to sscc u).sscc ≡ u.sscc
unfolding marked
marked_code to sscc u = elim (same u.sscc sscc) as (λ b. (if b then record u { mark = to } else u).sscc ≡ u.sscc) [ true ↦ refl | false ↦ refl ]

marked_batch : (to : Mark) (sscc : Text) (u : Container) → (marked to sscc u).batch ≡ u.batch
unfolding marked
marked_batch to sscc u = elim (same u.sscc sscc) as (λ b. (if b then record u { mark = to } else u).batch ≡ u.batch) [ true ↦ refl | false ↦ refl ]

found_marked : (w : World) (to : Mark) (sscc code : Text) → find (λ (u : Container). same u.sscc code) (map (marked to sscc) w.units) ≡ option_map (marked to sscc) (find (λ (u : Container). same u.sscc code) w.units)
found_marked w to sscc code = find-map (λ (u : Container). same u.sscc code) (marked to sscc) (λ u. ap (λ (c : Text). same c code) (marked_code to sscc u)) w.units

batch_of_marked : (to : Mark) (sscc : Text) (o : Option Container) → option_map_or (λ (u : Container). u.batch) (option_map (marked to sscc) o) [] ≡ option_map_or (λ (u : Container). u.batch) o []
batch_of_marked to sscc None = refl
batch_of_marked to sscc (Some u) = marked_batch to sscc u

pub paired_marked : (mine : Chosen) (w : World) (to : Mark) (sscc : Text) → paired_in mine (with_mark w to sscc) ≡ paired_in mine w
unfolding paired_in batch_with unit_of with_mark
paired_marked mine w to sscc =
    let before : Pair → Bool = λ p. mine (option_map_or (λ (u : Container). u.batch) (find (λ (u : Container). same u.sscc p.parent) w.units) []) in
    let after : Pair → Bool = λ p. mine (option_map_or (λ (u : Container). u.batch) (find (λ (u : Container). same u.sscc p.parent) (map (marked to sscc) w.units)) []) in
    filter_same after before w.pairs (each_alike w.pairs)
  where
    alike : (p : Pair) → mine (option_map_or (λ (u : Container). u.batch) (find (λ (u : Container). same u.sscc p.parent) (map (marked to sscc) w.units)) []) ≡ mine (option_map_or (λ (u : Container). u.batch) (find (λ (u : Container). same u.sscc p.parent) w.units) [])
    alike p = ap (λ (o : Option Container). mine (option_map_or (λ (u : Container). u.batch) o [])) (found_marked w to sscc p.parent) ∙ ap mine (batch_of_marked to sscc (find (λ (u : Container). same u.sscc p.parent) w.units))

    each_alike : (ps : List Pair) → Every (λ (p : Pair). mine (option_map_or (λ (u : Container). u.batch) (find (λ (u : Container). same u.sscc p.parent) (map (marked to sscc) w.units)) []) ≡ mine (option_map_or (λ (u : Container). u.batch) (find (λ (u : Container). same u.sscc p.parent) w.units) [])) ps
    each_alike [] = tt
    each_alike (p ∷ ps) = (alike p, each_alike ps)

-- what is there of a marked unit
marked_of : (mine : Chosen) (to : Mark) (sscc code : Text) (o : Option Container) → ((u : Container) → o ≡ Some u → u.sscc ≡ code)
    → holds_of (λ (u : Container). mine u.batch && not (is_void u.mark)) (option_map (marked to sscc) o) ≡ holds_of (λ (u : Container). mine u.batch && not (is_void (if same code sscc then to else u.mark))) o
unfolding holds_of marked
marked_of mine to sscc code None found = refl
marked_of mine to sscc code (Some u) found =
    (elim (same u.sscc sscc) as (λ b. mine (if b then record u { mark = to } else u).batch && not (is_void (if b then record u { mark = to } else u).mark) ≡ mine u.batch && not (is_void (if b then to else u.mark))) [ true ↦ refl | false ↦ refl ])
    ∙ ap (λ (c : Text). mine u.batch && not (is_void (if same c sscc then to else u.mark))) (found u refl)

pub there_marked : (mine : Chosen) (w : World) (to : Mark) (sscc code : Text)
    → there_in mine (with_mark w to sscc) (Box code) ≡ holds_of (λ (u : Container). mine u.batch && not (is_void (if same code sscc then to else u.mark))) (unit_of w code)
unfolding there_in unit_of with_mark
there_marked mine w to sscc code =
    let test : Container → Bool = λ u. same u.sscc code in
    ap (holds_of (λ (u : Container). mine u.batch && not (is_void u.mark))) (found_marked w to sscc code)
    ∙ marked_of mine to sscc code (find test w.units) (λ u e. same-true u.sscc code (find_passes test w.units u e))

-- a mark that isn't void, of a unit that isn't
pub there_remarked : (mine : Chosen) (w : World) (to : Mark) (sscc : Text) (unit : Container) → is_void to ≡ false → unit_of w sscc ≡ Some unit → is_void unit.mark ≡ false
    → (name : Epc) → there_in mine (with_mark w to sscc) name ≡ there_in mine w name
unfolding there_in row_of with_mark holds_of
there_remarked mine w to sscc unit used at held (Item gtin serial) = refl
there_remarked mine w to sscc unit used at held (Box code) =
    there_marked mine w to sscc code
    ∙ (elim (same code sscc) as (λ b. same code sscc ≡ b → holds_of (λ (u : Container). mine u.batch && not (is_void (if b then to else u.mark))) (unit_of w code) ≡ holds_of (λ (u : Container). mine u.batch && not (is_void u.mark)) (unit_of w code)) [
      | true ↦ λ t.
          let here : unit_of w code ≡ Some unit = ap (unit_of w) (same-true code sscc t) ∙ at in
          ap (holds_of (λ (u : Container). mine u.batch && not (is_void to))) here ∙ ap (λ b. mine unit.batch && not b) (used ∙ sym held) ∙ sym (ap (holds_of (λ (u : Container). mine u.batch && not (is_void u.mark))) here)
      | false ↦ λ f. refl
    ]) refl

voided : (mine : Chosen) (o : Option Container) → holds_of (λ (u : Container). mine u.batch && not (is_void mark.Void)) o ≡ false
unfolding holds_of is_void
voided mine None = refl
voided mine (Some u) = and_false (mine u.batch)

-- a unit goes
pub there_voided : (mine : Chosen) (w : World) (sscc : Text) (name : Epc) → there_in mine (with_mark w mark.Void sscc) name ≡ (there_in mine w name && not (is_among (Box sscc ∷ []) name))
unfolding there_in row_of with_mark is_among same_name
there_voided mine w sscc (Item gtin serial) = sym (and_true (there_in mine w (Item gtin serial)))
there_voided mine w sscc (Box code) =
    let was : Bool = holds_of (λ (u : Container). mine u.batch && not (is_void u.mark)) (unit_of w code) in
    there_marked mine w mark.Void sscc code
    ∙ elim (same code sscc) as (λ b. holds_of (λ (u : Container). mine u.batch && not (is_void (if b then mark.Void else u.mark))) (unit_of w code) ≡ (was && not (b || false))) [
      | true ↦ voided mine (unit_of w code) ∙ sym (and_false was)
      | false ↦ sym (and_true was)
    ]

-- a unit of a batch that isn't meant
pub there_voided_elsewhere : (mine : Chosen) (w : World) (sscc : Text) (unit : Container) → unit_of w sscc ≡ Some unit → mine (batch_with w sscc) ≡ false → (name : Epc) → there_in mine (with_mark w mark.Void sscc) name ≡ there_in mine w name
unfolding there_in row_of with_mark holds_of batch_with
there_voided_elsewhere mine w sscc unit at other (Item gtin serial) = refl
there_voided_elsewhere mine w sscc unit at other (Box code) =
    let foreign : mine unit.batch ≡ false = sym (ap (λ (o : Option Container). mine (option_map_or (λ (u : Container). u.batch) o [])) at) ∙ other in
    there_marked mine w mark.Void sscc code
    ∙ (elim (same code sscc) as (λ b. same code sscc ≡ b → holds_of (λ (u : Container). mine u.batch && not (is_void (if b then mark.Void else u.mark))) (unit_of w code) ≡ holds_of (λ (u : Container). mine u.batch && not (is_void u.mark)) (unit_of w code)) [
      | true ↦ λ t.
          let here : unit_of w code ≡ Some unit = ap (unit_of w) (same-true code sscc t) ∙ at in
          voided mine (unit_of w code) ∙ ap (λ b. b && not (is_void unit.mark)) (sym foreign) ∙ sym (ap (holds_of (λ (u : Container). mine u.batch && not (is_void u.mark))) here)
      | false ↦ λ f. refl
    ]) refl
