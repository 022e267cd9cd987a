-- A world stays sound where units come or are marked.
use Rattle.std.proofs.Common.{◌≡◌, suc, ◌+◌, ◌≤◌, ◌<◌, Bool, true, false, cond, List, [], ◌∷◌, ◌++◌, length, map, sym, ◌∙◌, ap, refl, subst, arith, None, Some, true≢false, length-append}
use Rattle.std.specs.Prelude.{if◌then◌else◌, filter, find, option_map, is_some}
use Rattle.std.specs.List.{AllByRecursion as Every}
use Rattle.std.proofs.lemmas.List.{map-append, length-map}
use Rattle.std.proofs.lemmas.Bool.{false_from_ne_true}
use Rattle.deed_words.specs.Names.{Text, same, same_name}
use Rattle.epc_urn.specs.declared.epc.Epc.{Epc}
use Rattle.epc_urn.specs.declared.epc.Epc.TheVariants.{Unit as Box}
use Rattle.deed_words.specs.Setups.{Setup, reference_bound, code_of}
use Rattle.deed_words.specs.declared.words.Phase.TheVariants.{Planned}
use Rattle.deed_words.specs.declared.words.Mark.{Mark}
use Rattle.deed_words.specs.declared.words.Mark.TheVariants as mark
use Rattle.deed_words.specs.declared.words.Level.{Level}
use Rattle.deed_words.specs.declared.world.Batch.{Batch}
use Rattle.deed_words.specs.declared.world.Container.{Container}
use Rattle.deed_words.specs.declared.world.Pair.{Pair}
use Rattle.deed_words.specs.Chain.{is_empty, numbers_below}
use Rattle.deed_words.specs.World.{World, batch_of, row_of, unit_of, parent, inside, rows_in, units_in}
use Rattle.deed_words.specs.Moves.{is_sealed, is_void}
use Rattle.deed_words.specs.Effects.{with_unit, marked, with_mark}
use Rattle.deed_words.specs.Sound.{IsSound, HasBatch, StandsRightly, IsUntouched}
use Rattle.deed_words.proofs.Sameness.{same-true, same-itself, same_equiv, same_name_equiv}
use Rattle.deed_words.proofs.Items.{Every-append, Every-weaker, Every-both, Every-map, find_Some, find_passes, find-more, find-map, map-map, finds_itself}
use Rattle.deed_words.proofs.Standing.{stands_on}
use Rattle.deed_words.proofs.SoundBatches.{is_empty-filter}

pub filter_empty : {A : Type 0} (test : A → Bool) (xs : List A) → is_empty (filter test xs) ≡ true → Every (λ x. test x ≡ false) xs
unfolding is_empty
filter_empty test [] e = tt
filter_empty {A} test (x ∷ xs) e =
    (elim (test x) as (λ b. is_empty (cond b (x ∷ filter test xs) (filter test xs)) ≡ true → (b ≡ false) × Every (λ y. test y ≡ false) xs) [
      | true ↦ λ e. absurd (true≢false (sym e))
      | false ↦ λ e. (refl, filter_empty test xs e)
    ]) e

pub sound_unit : (site : Setup) (w : World) (n : Text) (level : Level) (batch : Batch) → batch_of w n ≡ Some batch → (batch.phase ≡ Planned → ⊥) → length w.units + 1 ≤ 65536
    → site.reference + length w.units < reference_bound site → IsSound site w → IsSound site (with_unit site w n level)
unfolding with_unit batch_of row_of unit_of inside rows_in units_in HasBatch IsUntouched numbers_below is_sealed
sound_unit site w n level batch at begun room below s =
    let w' : World = with_unit site w n level in
    let unit : Container = record { sscc = code_of site (length w.units); batch = n; level = level; mark = mark.Filling } in
    let longer : length (w.units ++ unit ∷ []) ≡ suc (length w.units) = length-append w.units (unit ∷ []) ∙ omega arith in
    let selves : Every (λ (b : Batch). find (λ (x : Batch). same x.order.batch b.order.batch) w.batches ≡ Some b) w.batches = finds_itself same same_equiv (λ (b : Batch). b.order.batch) w.batches s.batches_differ in
    let touched : (b : Batch) → IsUntouched w b → find (λ (x : Batch). same x.order.batch b.order.batch) w.batches ≡ Some b → IsUntouched w' b =
    λ b u self plan.
    let other : same n b.order.batch ≡ false = false_from_ne_true (same n b.order.batch) (λ t.
    let e : n ≡ b.order.batch = same-true n b.order.batch t in
    let f : Some b ≡ Some batch = sym self ∙ ap (λ (m : Text). find (λ (x : Batch). same x.order.batch m) w.batches) (sym e) ∙ at in
    let g : b ≡ batch = cc in
    begun (ap (λ (x : Batch). x.phase) (sym g) ∙ plan)) in (
      (u plan).0,
      is_empty-filter (λ (c : Container). same c.batch b.order.batch) (w.units ++ unit ∷ [])
          (Every-append (λ (c : Container). same c.batch b.order.batch ≡ false) w.units (unit ∷ []) (filter_empty (λ (c : Container). same c.batch b.order.batch) w.units (u plan).1) (other, tt)),
    ) in
    record {
      batches_differ = s.batches_differ;
      rows_differ = s.rows_differ;
      of_a_batch = s.of_a_batch;
      units_of_a_batch = Every-append (λ (u : Container). is_some (find (λ (x : Batch). same x.order.batch u.batch) w.batches) ≡ true) w.units (unit ∷ []) s.units_of_a_batch (ap is_some at, tt);
      issued = map-append (λ (u : Container). u.sscc) w.units (unit ∷ []) ∙ ap (λ (cs : List Text). cs ++ code_of site (length w.units) ∷ []) s.issued ∙ sym (map-append (code_of site) (numbers_below (length w.units)) (length w.units ∷ [])) ∙ ap (λ k. map (code_of site) (numbers_below k)) (sym longer);
      fresh = s.fresh;
      one_parent = s.one_parent;
      packed = Every-weaker (StandsRightly w) (StandsRightly w') (λ p. stands_on w w' p
          (λ g m row _ e act. (row, e, act, refl))
          (λ sscc box _ e sealed. (box, find-more (λ (u : Container). same u.sscc sscc) w.units (unit ∷ []) box e, refl, sealed, refl))
          (λ u e held. (u, find-more (λ (x : Container). same x.sscc p.parent) w.units (unit ∷ []) u e, held, refl, refl))) w.pairs s.packed;
      sealed = Every-append (λ (u : Container). is_sealed u.mark ≡ true → is_empty (inside w u.sscc) ≡ false) w.units (unit ∷ []) s.sealed (λ e. absurd (true≢false (sym e)), tt);
      planned = Every-both (IsUntouched w) (λ (b : Batch). find (λ (x : Batch). same x.order.batch b.order.batch) w.batches ≡ Some b) (IsUntouched w') touched w.batches s.planned selves;
      in_range = subst (λ k. site.reference + k ≤ reference_bound site) (sym longer) (omega arith);
      few_serials = s.few_serials;
      few_units = subst (λ k. k ≤ 65536) (sym longer) (omega arith);
      few_batches = s.few_batches;
    }

-- what a marking must keep
pub record KeepsUnit (w : World) (f : Container → Container) (u : Container) : Type 0 where
  pub child : u.mark ≡ mark.Sealed → (sscc : Text) → parent w (Box u.sscc) ≡ Some sscc → (f u).mark ≡ mark.Sealed
  pub holder : is_void u.mark ≡ false → is_empty (inside w u.sscc) ≡ false → is_void (f u).mark ≡ false
  pub sealed : is_sealed (f u).mark ≡ true → is_empty (inside w u.sscc) ≡ false

-- what stands in a parent is inside it
parents_hold : (ps : List Pair) → Every (λ (p : Pair). is_empty (map (λ (q : Pair). q.child) (filter (λ (q : Pair). same q.parent p.parent) ps)) ≡ false) ps
unfolding is_empty
parents_hold [] = tt
parents_hold (p ∷ ps) =
    let rest : Pair → List Pair = λ z. filter (λ (q : Pair). same q.parent z.parent) ps in (
      ap (λ b. is_empty (map (λ (q : Pair). q.child) (cond b (p ∷ rest p) (rest p)))) (same-itself p.parent),
      Every-weaker (λ (z : Pair). is_empty (map (λ (q : Pair). q.child) (rest z)) ≡ false) (λ (z : Pair). is_empty (map (λ (q : Pair). q.child) (filter (λ (q : Pair). same q.parent z.parent) (p ∷ ps))) ≡ false)
          (λ z h. elim (same p.parent z.parent) as (λ b. is_empty (map (λ (q : Pair). q.child) (cond b (p ∷ rest z) (rest z))) ≡ false) [ true ↦ refl | false ↦ h ]) ps (parents_hold ps),
    )

pub sound_marks : (site : Setup) (w : World) (f : Container → Container) → ((u : Container) → (f u).sscc ≡ u.sscc) → ((u : Container) → (f u).batch ≡ u.batch) → ((u : Container) → (f u).level ≡ u.level)
    → Every (KeepsUnit w f) w.units → IsSound site w → IsSound site (record w { units = map f w.units })
unfolding batch_of row_of unit_of parent inside rows_in units_in HasBatch IsUntouched
sound_marks site w f keeps_sscc keeps_batch keeps_level keeps s =
    let w' : World = record w { units = map f w.units } in
    let test : Text → Container → Bool = λ n u. same u.sscc n in
    let found : (n : Text) → find (test n) (map f w.units) ≡ option_map f (find (test n) w.units) = λ n. find-map (test n) f (λ u. ap (λ (c : Text). same c n) (keeps_sscc u)) w.units in
    let parents : Every (λ (p : Pair). find (λ (q : Pair). same_name q.child p.child) w.pairs ≡ Some p) w.pairs = finds_itself same_name same_name_equiv (λ (p : Pair). p.child) w.pairs s.one_parent in
    let facts : Every (λ (p : Pair). (find (λ (q : Pair). same_name q.child p.child) w.pairs ≡ Some p) × (is_empty (map (λ (q : Pair). q.child) (filter (λ (q : Pair). same q.parent p.parent) w.pairs)) ≡ false)) w.pairs =
    Every-both (λ (p : Pair). find (λ (q : Pair). same_name q.child p.child) w.pairs ≡ Some p) (λ (p : Pair). is_empty (map (λ (q : Pair). q.child) (filter (λ (q : Pair). same q.parent p.parent) w.pairs)) ≡ false)
    (λ (p : Pair). (find (λ (q : Pair). same_name q.child p.child) w.pairs ≡ Some p) × (is_empty (map (λ (q : Pair). q.child) (filter (λ (q : Pair). same q.parent p.parent) w.pairs)) ≡ false)) (λ p a b. (a, b)) w.pairs parents (parents_hold w.pairs) in
    record {
      batches_differ = s.batches_differ;
      rows_differ = s.rows_differ;
      of_a_batch = s.of_a_batch;
      units_of_a_batch = Every-map (λ (u : Container). is_some (find (λ (x : Batch). same x.order.batch u.batch) w.batches) ≡ true) f w.units (Every-weaker (λ (u : Container). is_some (find (λ (x : Batch). same x.order.batch u.batch) w.batches) ≡ true) (λ (u : Container). is_some (find (λ (x : Batch). same x.order.batch (f u).batch) w.batches) ≡ true) (λ u h. ap (λ (n : Text). is_some (find (λ (x : Batch). same x.order.batch n) w.batches)) (keeps_batch u) ∙ h) w.units s.units_of_a_batch);
      issued = map-map (λ (u : Container). u.sscc) f keeps_sscc w.units ∙ s.issued ∙ ap (λ k. map (code_of site) (numbers_below k)) (sym (length-map w.units f));
      fresh = s.fresh;
      one_parent = s.one_parent;
      packed = Every-both (λ (p : Pair). (find (λ (q : Pair). same_name q.child p.child) w.pairs ≡ Some p) × (is_empty (map (λ (q : Pair). q.child) (filter (λ (q : Pair). same q.parent p.parent) w.pairs)) ≡ false)) (StandsRightly w) (StandsRightly w')
          (λ p fact. stands_on w w' p
          (λ g m row _ e act. (row, e, act, refl))
          (λ sscc box e at sealed.
          let k = find_Some (KeepsUnit w f) (test sscc) w.units box at keeps in
          let eq : box.sscc ≡ sscc = same-true box.sscc sscc (find_passes (test sscc) w.units box at) in
          let par : option_map (λ (q : Pair). q.parent) (find (λ (q : Pair). same_name q.child (Box box.sscc)) w.pairs) ≡ Some p.parent =
          ap (λ (c : Epc). option_map (λ (q : Pair). q.parent) (find (λ (q : Pair). same_name q.child c) w.pairs)) (ap Box eq ∙ sym e) ∙ ap (option_map (λ (q : Pair). q.parent)) fact.0 in
          (f box, found sscc ∙ ap (option_map f) at, keeps_level box, k.child sealed p.parent par, keeps_batch box))
          (λ u at held.
          let k = find_Some (KeepsUnit w f) (test p.parent) w.units u at keeps in
          let eq : u.sscc ≡ p.parent = same-true u.sscc p.parent (find_passes (test p.parent) w.units u at) in
          (f u, found p.parent ∙ ap (option_map f) at, k.holder held (ap (λ (n : Text). is_empty (map (λ (q : Pair). q.child) (filter (λ (q : Pair). same q.parent n) w.pairs))) eq ∙ fact.1), keeps_batch u, keeps_level u)))
          w.pairs facts s.packed;
      sealed = Every-map (λ (u : Container). is_sealed u.mark ≡ true → is_empty (inside w u.sscc) ≡ false) f w.units (Every-weaker (KeepsUnit w f) (λ (u : Container). is_sealed (f u).mark ≡ true → is_empty (inside w (f u).sscc) ≡ false) (λ u k e. ap (λ (n : Text). is_empty (inside w n)) (keeps_sscc u) ∙ k.sealed e) w.units keeps);
      planned = Every-weaker (IsUntouched w) (IsUntouched w') (λ b u plan. (
        (u plan).0,
        is_empty-filter (λ (c : Container). same c.batch b.order.batch) (map f w.units)
            (Every-map (λ (c : Container). same c.batch b.order.batch ≡ false) f w.units (Every-weaker (λ (c : Container). same c.batch b.order.batch ≡ false) (λ (c : Container). same (f c).batch b.order.batch ≡ false) (λ c h. ap (λ (n : Text). same n b.order.batch) (keeps_batch c) ∙ h) w.units (filter_empty (λ (c : Container). same c.batch b.order.batch) w.units (u plan).1))),
      )) w.batches s.planned;
      in_range = subst (λ k. site.reference + k ≤ reference_bound site) (sym (length-map w.units f)) s.in_range;
      few_serials = s.few_serials;
      few_units = subst (λ k. k ≤ 65536) (sym (length-map w.units f)) s.few_units;
      few_batches = s.few_batches;
    }

marked-kept : {A : Type 0} (to : Mark) (sscc : Text) (part : Container → A) → ((u : Container) → part (record u { mark = to }) ≡ part u) → (u : Container) → part (marked to sscc u) ≡ part u
unfolding marked
marked-kept to sscc part keeps u = elim (same u.sscc sscc) as (λ b. part (if b then record u { mark = to } else u) ≡ part u) [ true ↦ keeps u | false ↦ refl ]

-- a marking, by what it needs where the code is the marked one, and where it isn't
keeps_marked : (w : World) (to : Mark) (sscc : Text) (u : Container) → (is_sealed u.mark ≡ true → is_empty (inside w u.sscc) ≡ false)
    → (u.sscc ≡ sscc → KeepsUnit w (λ (x : Container). record x { mark = to }) u) → KeepsUnit w (marked to sscc) u
unfolding marked
keeps_marked w to sscc u before h =
    let there : same u.sscc sscc ≡ true → KeepsUnit w (λ (x : Container). record x { mark = to }) u = λ t. h (same-true u.sscc sscc t) in
    record {
      child = λ e s p. (elim (same u.sscc sscc) as (λ b. (b ≡ true → KeepsUnit w (λ (x : Container). record x { mark = to }) u) → (if b then record u { mark = to } else u).mark ≡ mark.Sealed) [ true ↦ λ k. (k refl).child e s p | false ↦ λ k. e ]) there;
      holder = λ e i. (elim (same u.sscc sscc) as (λ b. (b ≡ true → KeepsUnit w (λ (x : Container). record x { mark = to }) u) → is_void (if b then record u { mark = to } else u).mark ≡ false) [ true ↦ λ k. (k refl).holder e i | false ↦ λ k. e ]) there;
      sealed = (elim (same u.sscc sscc) as (λ b. (b ≡ true → KeepsUnit w (λ (x : Container). record x { mark = to }) u) → is_sealed (if b then record u { mark = to } else u).mark ≡ true → is_empty (inside w u.sscc) ≡ false) [ true ↦ λ k e. (k refl).sealed e | false ↦ λ k e. before e ]) there;
    }

pub sound_mark : (site : Setup) (w : World) (to : Mark) (sscc : Text) → ((u : Container) → (is_sealed u.mark ≡ true → is_empty (inside w u.sscc) ≡ false) → u.sscc ≡ sscc → KeepsUnit w (λ (x : Container). record x { mark = to }) u)
    → IsSound site w → IsSound site (with_mark w to sscc)
unfolding with_mark
sound_mark site w to sscc h s =
    sound_marks site w (marked to sscc) (marked-kept to sscc (λ u. u.sscc) (λ u. refl)) (marked-kept to sscc (λ u. u.batch) (λ u. refl)) (marked-kept to sscc (λ u. u.level) (λ u. refl))
    (Every-weaker (λ (u : Container). is_sealed u.mark ≡ true → is_empty (inside w u.sscc) ≡ false) (KeepsUnit w (marked to sscc)) (λ u before. keeps_marked w to sscc u before (h u before)) w.units s.sealed) s

pub sound_seal : (site : Setup) (w : World) (sscc : Text) → is_empty (inside w sscc) ≡ false → IsSound site w → IsSound site (with_mark w mark.Sealed sscc)
unfolding is_void
sound_seal site w sscc some s =
    sound_mark site w mark.Sealed sscc (λ u before e. record { child = λ _ _ _. refl; holder = λ _ _. refl; sealed = λ _. ap (λ (n : Text). is_empty (inside w n)) e ∙ some }) s

pub sound_unseal : (site : Setup) (w : World) (sscc : Text) → parent w (Box sscc) ≡ None → IsSound site w → IsSound site (with_mark w mark.Filling sscc)
unfolding is_void is_sealed
sound_unseal site w sscc free s =
    sound_mark site w mark.Filling sscc (λ u before e. record {
      child = λ _ n p. let q : Some n ≡ None = sym p ∙ ap (λ (c : Text). parent w (Box c)) e ∙ free in absurd (cc);
      holder = λ _ _. refl;
      sealed = λ t. absurd (true≢false (sym t));
    }) s

sealed-mark : (m : Mark) → m ≡ mark.Sealed → is_sealed m ≡ true
unfolding is_sealed
sealed-mark m e = subst (λ (x : Mark). is_sealed x ≡ true) (sym e) refl

pub sound_void : (site : Setup) (w : World) (sscc : Text) → is_empty (inside w sscc) ≡ true → IsSound site w → IsSound site (with_mark w mark.Void sscc)
unfolding is_void is_sealed
sound_void site w sscc none s =
    sound_mark site w mark.Void sscc (λ u before e.
    let here : is_empty (inside w u.sscc) ≡ true = ap (λ (n : Text). is_empty (inside w n)) e ∙ none in
    record {
      child = λ m _ _. absurd (true≢false (sym here ∙ before (sealed-mark u.mark m)));
      holder = λ _ i. absurd (true≢false (sym here ∙ i));
      sealed = λ t. absurd (true≢false (sym t));
    }) s
