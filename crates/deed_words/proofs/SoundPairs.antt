-- A world stays sound where things are put into units and taken out.
use Rattle.std.proofs.Common.{◌≡◌, Bool, true, false, cond, List, [], ◌∷◌, ◌++◌, map, sym, ◌∙◌, ap, refl, subst, None, Some, true≢false, append_assoc, append-nil}
use Rattle.std.specs.Prelude.{filter, find, option_map}
use Rattle.std.specs.List.{AllByRecursion as Every, IsDistinct}
use Rattle.std.proofs.lemmas.List.{map-append}
use Rattle.std.proofs.lemmas.Bool.{false_from_ne_true}
use Rattle.std.proofs.lemmas.Map.Keys.{IsDistinct-head, IsDistinct-tail, IsDistinct-push}
use Rattle.deed_words.specs.Names.{Text, same, same_name}
use Rattle.epc_urn.specs.declared.epc.Epc.{Epc}
use Rattle.deed_words.specs.Setups.{Setup}
use Rattle.deed_words.specs.declared.world.Container.{Container}
use Rattle.deed_words.specs.declared.world.Pair.{Pair}
use Rattle.deed_words.specs.Chain.{is_empty}
use Rattle.deed_words.specs.World.{World, batch_of, row_of, unit_of, parent, inside, rows_in, units_in}
use Rattle.deed_words.specs.Moves.{is_sealed}
use Rattle.deed_words.specs.Effects.{put_in, with_children}
use Rattle.deed_words.specs.Sound.{IsSound, HasBatch, StandsRightly, IsUntouched}
use Rattle.deed_words.proofs.Sameness.{same-true, same_equiv, same_name_equiv}
use Rattle.deed_words.proofs.Items.{Every-append, Every-weaker, Every-both, Every-map, Every-filter, find_None, finds_itself, IsDistinct-filtered, none_like}
use Rattle.deed_words.proofs.Broken.{option_map_None}
use Rattle.deed_words.proofs.Standing.{stand_still}
use Rattle.deed_words.proofs.UnitCodes.{units_differ}

put-child : (sscc : Text) (children : List Epc) → map (λ (p : Pair). p.child) (map (put_in sscc) children) ≡ children
put-child sscc [] = refl
put-child sscc (c ∷ children) = ap (λ (cs : List Epc). c ∷ cs) (put-child sscc children)

-- names that differ, and that no pair has, go on
pub names_differ : (names more : List Epc) → IsDistinct same_name names → IsDistinct same_name more → Every (λ (c : Epc). Every (λ (x : Epc). same_name c x ≡ false) names) more → IsDistinct same_name (names ++ more)
names_differ names [] d e a = subst (IsDistinct same_name) (sym (append-nil names)) d
names_differ names (c ∷ more) d e a =
    let pushed : IsDistinct same_name (names ++ c ∷ []) = IsDistinct-push same_name_equiv names c d (none_like same_name c names a.0) in
    let apart : Every (λ (x : Epc). same_name c x ≡ false) more = IsDistinct-head same_name c more e in
    let others : Every (λ (y : Epc). Every (λ (x : Epc). same_name y x ≡ false) (names ++ c ∷ [])) more =
    Every-both (λ (y : Epc). Every (λ (x : Epc). same_name y x ≡ false) names) (λ (x : Epc). same_name c x ≡ false) (λ (y : Epc). Every (λ (x : Epc). same_name y x ≡ false) (names ++ c ∷ []))
    (λ y old other. Every-append (λ (x : Epc). same_name y x ≡ false) names (c ∷ []) old (same_name_equiv.symm y c ∙ other, tt)) more a.1 apart in
    subst (IsDistinct same_name) (append_assoc names (c ∷ []) more) (names_differ (names ++ c ∷ []) more pushed (IsDistinct-tail same_name c more e) others)

no_pair : (ps : List Pair) (c : Epc) → option_map (λ (p : Pair). p.parent) (find (λ (p : Pair). same_name p.child c) ps) ≡ None → Every (λ (x : Epc). same_name c x ≡ false) (map (λ (p : Pair). p.child) ps)
no_pair ps c e =
    Every-map (λ (x : Epc). same_name c x ≡ false) (λ (p : Pair). p.child) ps
    (Every-weaker (λ (p : Pair). same_name p.child c ≡ false) (λ (p : Pair). same_name c p.child ≡ false) (λ p h. same_name_equiv.symm c p.child ∙ h) ps
    (find_None (λ (p : Pair). same_name p.child c) ps (option_map_None (λ (p : Pair). p.parent) (find (λ (p : Pair). same_name p.child c) ps) e)))

more_inside : (ps more : List Pair) (n : Text) → is_empty (map (λ (p : Pair). p.child) (filter (λ (p : Pair). same p.parent n) ps)) ≡ false → is_empty (map (λ (p : Pair). p.child) (filter (λ (p : Pair). same p.parent n) (ps ++ more))) ≡ false
unfolding is_empty
more_inside [] more n e = absurd (true≢false e)
more_inside (p ∷ ps) more n e =
    (elim (same p.parent n) as (λ b. is_empty (map (λ (q : Pair). q.child) (cond b (p ∷ filter (λ (q : Pair). same q.parent n) ps) (filter (λ (q : Pair). same q.parent n) ps))) ≡ false
    → is_empty (map (λ (q : Pair). q.child) (cond b (p ∷ filter (λ (q : Pair). same q.parent n) (ps ++ more)) (filter (λ (q : Pair). same q.parent n) (ps ++ more)))) ≡ false) [ true ↦ λ e. refl | false ↦ λ e. more_inside ps more n e ]) e

pub sound_children : (site : Setup) (w : World) (sscc : Text) (children : List Epc) → IsDistinct same_name children → Every (λ (c : Epc). parent w c ≡ None) children
    → Every (λ (c : Epc). StandsRightly w (put_in sscc c)) children → IsSound site w → IsSound site (with_children w sscc children)
unfolding with_children batch_of row_of unit_of parent inside rows_in units_in HasBatch IsUntouched
sound_children site w sscc children d free stand s =
    let w' : World = with_children w sscc children in
    record {
      batches_differ = s.batches_differ;
      rows_differ = s.rows_differ;
      of_a_batch = s.of_a_batch;
      units_of_a_batch = s.units_of_a_batch;
      issued = s.issued;
      fresh = s.fresh;
      one_parent = subst (IsDistinct same_name) (ap (λ (cs : List Epc). map (λ (p : Pair). p.child) w.pairs ++ cs) (sym (put-child sscc children)) ∙ sym (map-append (λ (p : Pair). p.child) w.pairs (map (put_in sscc) children)))
          (names_differ (map (λ (p : Pair). p.child) w.pairs) children s.one_parent d (Every-weaker (λ (c : Epc). option_map (λ (p : Pair). p.parent) (find (λ (p : Pair). same_name p.child c) w.pairs) ≡ None) (λ (c : Epc). Every (λ (x : Epc). same_name c x ≡ false) (map (λ (p : Pair). p.child) w.pairs)) (no_pair w.pairs) children free));
      packed = stand_still w w' (λ g n. refl) (λ n. refl) (w.pairs ++ map (put_in sscc) children) (Every-append (StandsRightly w) w.pairs (map (put_in sscc) children) s.packed (Every-map (StandsRightly w) (put_in sscc) children stand));
      sealed = Every-weaker (λ (u : Container). is_sealed u.mark ≡ true → is_empty (inside w u.sscc) ≡ false) (λ (u : Container). is_sealed u.mark ≡ true → is_empty (inside w' u.sscc) ≡ false) (λ u h e. more_inside w.pairs (map (put_in sscc) children) u.sscc (h e)) w.units s.sealed;
      planned = s.planned;
      in_range = s.in_range;
      few_serials = s.few_serials;
      few_units = s.few_units;
      few_batches = s.few_batches;
    }

pub filter-filter : {A : Type 0} (test keep : A → Bool) (xs : List A) → Every (λ x. keep x ≡ false → test x ≡ false) xs → filter test (filter keep xs) ≡ filter test xs
filter-filter test keep [] a = refl
filter-filter {A} test keep (x ∷ xs) a =
    let rest = filter-filter test keep xs a.1 in
    (elim (keep x) as (λ b. (b ≡ false → test x ≡ false) → filter test (cond b (x ∷ filter keep xs) (filter keep xs)) ≡ cond (test x) (x ∷ filter test xs) (filter test xs)) [
      | true ↦ λ h. ap (λ (ys : List A). cond (test x) (x ∷ ys) ys) rest
      | false ↦ λ h. rest ∙ sym (ap (λ b. cond b (x ∷ filter test xs) (filter test xs)) (h refl))
    ]) a.0

-- only things of a unit that isn't Sealed are taken out
pub sound_taken : (site : Setup) (w : World) (sscc : Text) (unit : Container) (keep : Pair → Bool) → unit_of w sscc ≡ Some unit → is_sealed unit.mark ≡ false
    → Every (λ (p : Pair). keep p ≡ false → p.parent ≡ sscc) w.pairs → IsSound site w → IsSound site (record w { pairs = filter keep w.pairs })
unfolding batch_of row_of unit_of parent inside rows_in units_in HasBatch IsUntouched
sound_taken site w sscc unit keep at unsealed from s =
    let w' : World = record w { pairs = filter keep w.pairs } in
    let selves : Every (λ (u : Container). find (λ (x : Container). same x.sscc u.sscc) w.units ≡ Some u) w.units = finds_itself same same_equiv (λ (u : Container). u.sscc) w.units (units_differ site w s) in
    record {
      batches_differ = s.batches_differ;
      rows_differ = s.rows_differ;
      of_a_batch = s.of_a_batch;
      units_of_a_batch = s.units_of_a_batch;
      issued = s.issued;
      fresh = s.fresh;
      one_parent = IsDistinct-filtered same_name (λ (p : Pair). p.child) keep w.pairs s.one_parent;
      packed = stand_still w w' (λ g n. refl) (λ n. refl) (filter keep w.pairs) (Every-filter (StandsRightly w) keep w.pairs s.packed);
      sealed = Every-both (λ (u : Container). is_sealed u.mark ≡ true → is_empty (inside w u.sscc) ≡ false) (λ (u : Container). find (λ (x : Container). same x.sscc u.sscc) w.units ≡ Some u) (λ (u : Container). is_sealed u.mark ≡ true → is_empty (inside w' u.sscc) ≡ false)
          (λ u h self e.
          let other : same sscc u.sscc ≡ false = false_from_ne_true (same sscc u.sscc) (λ t.
          let eq : sscc ≡ u.sscc = same-true sscc u.sscc t in
          let f : Some u ≡ Some unit = sym self ∙ ap (λ (n : Text). find (λ (x : Container). same x.sscc n) w.units) (sym eq) ∙ at in
          let g : u ≡ unit = cc in
          true≢false (sym e ∙ ap (λ (x : Container). is_sealed x.mark) g ∙ unsealed)) in
          ap (λ (ps : List Pair). is_empty (map (λ (p : Pair). p.child) ps)) (filter-filter (λ (p : Pair). same p.parent u.sscc) keep w.pairs
          (Every-weaker (λ (p : Pair). keep p ≡ false → p.parent ≡ sscc) (λ (p : Pair). keep p ≡ false → same p.parent u.sscc ≡ false) (λ p fr k. ap (λ (n : Text). same n u.sscc) (fr k) ∙ other) w.pairs from)) ∙ h e)
          w.units s.sealed selves;
      planned = s.planned;
      in_range = s.in_range;
      few_serials = s.few_serials;
      few_units = s.few_units;
      few_batches = s.few_batches;
    }
