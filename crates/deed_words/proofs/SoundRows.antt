-- A world stays sound where rows come or are rewritten.
use Rattle.std.proofs.Common.{◌≡◌, ◌+◌, ◌≤◌, Bool, true, false, cond, ◌&&◌, List, [], ◌∷◌, ◌++◌, length, map, sym, ◌∙◌, ap, refl, subst, Option, None, Some, append_assoc, append-nil, length-append}
use Rattle.std.specs.Prelude.{filter, find, option_map, is_none}
use Rattle.std.specs.List.{AllByRecursion as Every, IsDistinct, All}
use Rattle.std.specs.Option.{option_or, option_map_or}
use Rattle.std.proofs.lemmas.List.{map-append, length-map}
use Rattle.std.proofs.lemmas.List.Elements.{filter-append, recursion_from_All}
use Rattle.std.proofs.lemmas.Map.Keys.{IsDistinct-head, IsDistinct-tail, IsDistinct-push}
use Rattle.deed_words.specs.Names.{Text, same, same_name}
use Rattle.epc_urn.specs.declared.epc.Epc.{Epc}
use Rattle.epc_urn.specs.declared.epc.Epc.TheVariants.{Item}
use Rattle.deed_words.specs.Setups.{Setup}
use Rattle.deed_words.specs.declared.words.Phase.TheVariants.{Planned}
use Rattle.deed_words.specs.declared.words.State.TheVariants as state
use Rattle.deed_words.specs.declared.world.Batch.{Batch}
use Rattle.deed_words.specs.declared.world.Row.{Row}
use Rattle.deed_words.specs.declared.world.Pair.{Pair}
use Rattle.deed_words.specs.World.{World, name_of, batch_of, row_of, unit_of, parent, inside, rows_in, units_in}
use Rattle.deed_words.specs.Moves.{is_fresh}
use Rattle.deed_words.specs.Effects.{fresh_row, gtin_of, with_drawn}
use Rattle.deed_words.specs.Sound.{IsSound, HasBatch, StandsRightly, IsUntouched}
use Rattle.deed_words.proofs.Sameness.{same-true, same-itself, same_name-true, same_equiv, same_name_equiv}
use Rattle.deed_words.proofs.Items.{Every-append, Every-weaker, Every-both, Every-always, Every-map, Every-filter, Every-passed, Every-unfiltered, find_Some, find_passes, find_None, find-more, find-map, map-map, finds_itself, none_like}
use Rattle.deed_words.proofs.Standing.{stands_on}
use Rattle.std.proofs.lemmas.List.Folds.{find-append}

-- a rewriting that keeps names and batches, keeps Active rows that stand in something, and touches no Fresh row of a Planned batch
pub record KeepsRow (w : World) (f : Row → Row) (row : Row) : Type 0 where
  pub fresh : is_fresh (f row).state ≡ is_none (f row).line
  pub packed : row.state ≡ state.Active → (sscc : Text) → parent w (name_of row) ≡ Some sscc → f row ≡ row
  pub untouched : is_fresh row.state ≡ true → (batch : Batch) → batch_of w row.batch ≡ Some batch → batch.phase ≡ Planned → f row ≡ row

pub sound_rows : (site : Setup) (w : World) (f : Row → Row) → ((row : Row) → (f row).gtin ≡ row.gtin) → ((row : Row) → (f row).serial ≡ row.serial) → ((row : Row) → (f row).batch ≡ row.batch)
    → Every (KeepsRow w f) w.rows → IsSound site w → IsSound site (record w { rows = map f w.rows })
unfolding batch_of row_of unit_of parent inside rows_in units_in HasBatch IsUntouched StandsRightly
sound_rows site w f keeps_gtin keeps_serial keeps_batch keeps s =
    let w' : World = record w { rows = map f w.rows } in
    let name : (row : Row) → name_of (f row) ≡ name_of row = λ row. let g = keeps_gtin row in let n = keeps_serial row in cc in
    let test : Text → Text → Row → Bool = λ g n row. same_name (name_of row) (Item g n) in
    let found : (g n : Text) → find (test g n) (map f w.rows) ≡ option_map f (find (test g n) w.rows) = λ g n. find-map (test g n) f (λ row. ap (λ (e : Epc). same_name e (Item g n)) (name row)) w.rows in
    let parents : Every (λ (p : Pair). find (λ (q : Pair). same_name q.child p.child) w.pairs ≡ Some p) w.pairs = finds_itself same_name same_name_equiv (λ (p : Pair). p.child) w.pairs s.one_parent in
    let both : Every (λ (p : Pair). StandsRightly w' p) w.pairs =
    Every-both (λ (p : Pair). find (λ (q : Pair). same_name q.child p.child) w.pairs ≡ Some p) (StandsRightly w) (StandsRightly w')
    (λ p stands. stands_on w w' p
    (λ g n row e at act.
    let eq : name_of row ≡ Item g n = same_name-true (name_of row) (Item g n) (find_passes (test g n) w.rows row at) in
    let par : option_map (λ (q : Pair). q.parent) (find (λ (q : Pair). same_name q.child (name_of row)) w.pairs) ≡ Some p.parent =
    ap (λ (c : Epc). option_map (λ (q : Pair). q.parent) (find (λ (q : Pair). same_name q.child c) w.pairs)) (eq ∙ sym e) ∙ ap (option_map (λ (q : Pair). q.parent)) stands in
    let k = find_Some (KeepsRow w f) (test g n) w.rows row at keeps in
    let still : f row ≡ row = k.packed act p.parent par in
    (row, found g n ∙ ap (option_map f) at ∙ ap Some still, act, refl))
    (λ sscc box _ e sealed. (box, e, refl, sealed, refl))
    (λ unit e held. (unit, e, held, refl, refl)))
    w.pairs parents s.packed in
    let differ : (b : Batch) → IsUntouched w b → find (λ (x : Batch). same x.order.batch b.order.batch) w.batches ≡ Some b → IsUntouched w' b =
    λ b u self plan.
    let before = u plan in
    let rows : Every (λ (row : Row). same row.batch b.order.batch ≡ true → is_fresh row.state ≡ true) w.rows = Every-unfiltered (λ (row : Row). is_fresh row.state ≡ true) (λ (row : Row). same row.batch b.order.batch) w.rows before.0 in (
      Every-passed (λ (row : Row). is_fresh row.state ≡ true) (λ (row : Row). same row.batch b.order.batch) (map f w.rows)
          (Every-map (λ (row : Row). same row.batch b.order.batch ≡ true → is_fresh row.state ≡ true) f w.rows
          (Every-both (λ (row : Row). same row.batch b.order.batch ≡ true → is_fresh row.state ≡ true) (KeepsRow w f) (λ (row : Row). same (f row).batch b.order.batch ≡ true → is_fresh (f row).state ≡ true)
          (λ row fr k t.
          let t' : same row.batch b.order.batch ≡ true = ap (λ (n : Text). same n b.order.batch) (sym (keeps_batch row)) ∙ t in
          let eq : row.batch ≡ b.order.batch = same-true row.batch b.order.batch t' in
          let at : find (λ (x : Batch). same x.order.batch row.batch) w.batches ≡ Some b = ap (λ (n : Text). find (λ (x : Batch). same x.order.batch n) w.batches) eq ∙ self in
          ap (λ (r : Row). is_fresh r.state) (k.untouched (fr t') b at plan) ∙ fr t')
          w.rows rows keeps)),
      before.1,
    ) in
    let selves : Every (λ (b : Batch). find (λ (x : Batch). same x.order.batch b.order.batch) w.batches ≡ Some b) w.batches = finds_itself same same_equiv (λ (b : Batch). b.order.batch) w.batches s.batches_differ in
    record {
      batches_differ = s.batches_differ;
      rows_differ = subst (IsDistinct same_name) (sym (map-map name_of f name w.rows)) s.rows_differ;
      of_a_batch = Every-map (HasBatch w') f w.rows (Every-weaker (HasBatch w) (λ (row : Row). HasBatch w' (f row)) (λ row h. (h.0, ap (λ (n : Text). find (λ (x : Batch). same x.order.batch n) w.batches) (keeps_batch row) ∙ h.1, h.2 ∙ sym (keeps_gtin row))) w.rows s.of_a_batch);
      units_of_a_batch = s.units_of_a_batch;
      issued = s.issued;
      fresh = Every-map (λ (row : Row). is_fresh row.state ≡ is_none row.line) f w.rows (Every-weaker (KeepsRow w f) (λ (row : Row). is_fresh (f row).state ≡ is_none (f row).line) (λ row k. k.fresh) w.rows keeps);
      one_parent = s.one_parent;
      packed = both;
      sealed = s.sealed;
      planned = Every-both (IsUntouched w) (λ (b : Batch). find (λ (x : Batch). same x.order.batch b.order.batch) w.batches ≡ Some b) (IsUntouched w') differ w.batches s.planned selves;
      in_range = s.in_range;
      few_serials = subst (λ n. n ≤ 1000000) (sym (length-map w.rows f)) s.few_serials;
      few_units = s.few_units;
      few_batches = s.few_batches;
    }

-- new rows

new_name : (gtin n serial : Text) → name_of (fresh_row gtin n serial) ≡ Item gtin serial
unfolding fresh_row
new_name gtin n serial = refl

same_name-item : (gtin one other : Text) → same_name (Item gtin one) (Item gtin other) ≡ same one other
unfolding same_name
same_name-item gtin one other = ap (λ b. b && same one other) (same-itself gtin)

-- serials that differ, and that no row has, name new rows
new_rows_differ : (gtin n : Text) (rows : List Row) (serials : List Text) → IsDistinct same_name (map name_of rows) → IsDistinct same serials
    → Every (λ (serial : Text). find (λ (row : Row). same_name (name_of row) (Item gtin serial)) rows ≡ None) serials → IsDistinct same_name (map name_of (rows ++ map (fresh_row gtin n) serials))
unfolding fresh_row
new_rows_differ gtin n rows [] d e a = subst (λ (rs : List Row). IsDistinct same_name (map name_of rs)) (sym (append-nil rows)) d
new_rows_differ gtin n rows (serial ∷ serials) d e a =
    let row : Row = fresh_row gtin n serial in
    let apart : Every (λ (r : Row). same_name (Item gtin serial) (name_of r) ≡ false) rows =
    Every-weaker (λ (r : Row). same_name (name_of r) (Item gtin serial) ≡ false) (λ (r : Row). same_name (Item gtin serial) (name_of r) ≡ false) (λ r h. same_name_equiv.symm (Item gtin serial) (name_of r) ∙ h) rows (find_None (λ (r : Row). same_name (name_of r) (Item gtin serial)) rows a.0) in
    let pushed : IsDistinct same_name (map name_of (rows ++ row ∷ [])) =
    subst (IsDistinct same_name) (sym (map-append name_of rows (row ∷ []))) (IsDistinct-push same_name_equiv (map name_of rows) (Item gtin serial) d (none_like same_name (Item gtin serial) (map name_of rows) (Every-map (λ (x : Epc). same_name (Item gtin serial) x ≡ false) name_of rows apart))) in
    let others : Every (λ (s : Text). find (λ (r : Row). same_name (name_of r) (Item gtin s)) (rows ++ row ∷ []) ≡ None) serials =
    Every-both (λ (s : Text). find (λ (r : Row). same_name (name_of r) (Item gtin s)) rows ≡ None) (λ (s : Text). same serial s ≡ false) (λ (s : Text). find (λ (r : Row). same_name (name_of r) (Item gtin s)) (rows ++ row ∷ []) ≡ None)
    (λ s none other. find-append (λ (r : Row). same_name (name_of r) (Item gtin s)) rows (row ∷ []) ∙ ap (λ (o : Option Row). option_or o (find (λ (r : Row). same_name (name_of r) (Item gtin s)) (row ∷ []))) none
    ∙ ap (λ b. cond b (Some row) None) (same_name-item gtin serial s ∙ other)) serials a.1 (IsDistinct-head same serial serials e) in
    subst (λ (rs : List Row). IsDistinct same_name (map name_of rs)) (append_assoc rows (row ∷ []) (map (fresh_row gtin n) serials)) (new_rows_differ gtin n (rows ++ row ∷ []) serials pushed (IsDistinct-tail same serial serials e) others)

Every-from_All : {A : Type 0} (P : A → Type 0) (xs : List A) → All P xs → Every P xs
Every-from_All P xs a = recursion_from_All P xs a

pub sound_drawn : (site : Setup) (w : World) (n : Text) (serials : List Text) (batch : Batch) → batch_of w n ≡ Some batch → IsDistinct same serials → Every (λ (serial : Text). row_of w (gtin_of w n) serial ≡ None) serials
    → length w.rows + length serials ≤ 1000000 → IsSound site w → IsSound site (with_drawn w n serials)
unfolding with_drawn batch_of row_of unit_of parent inside rows_in units_in HasBatch IsUntouched fresh_row gtin_of is_fresh
sound_drawn site w n serials batch at d new room s =
    let w' : World = with_drawn w n serials in
    let gtin : Text = gtin_of w n in
    let same_gtin : batch.order.gtin ≡ gtin = sym (ap (λ (o : Option Batch). option_map_or (λ (b : Batch). b.order.gtin) o []) at) in
    record {
      batches_differ = s.batches_differ;
      rows_differ = new_rows_differ gtin n w.rows serials s.rows_differ d new;
      of_a_batch = Every-append (HasBatch w') w.rows (map (fresh_row gtin n) serials) s.of_a_batch (Every-map (HasBatch w') (fresh_row gtin n) serials (Every-always (λ (serial : Text). HasBatch w' (fresh_row gtin n serial)) (λ serial. (batch, at, same_gtin)) serials));
      units_of_a_batch = s.units_of_a_batch;
      issued = s.issued;
      fresh = Every-append (λ (row : Row). is_fresh row.state ≡ is_none row.line) w.rows (map (fresh_row gtin n) serials) s.fresh (Every-map (λ (row : Row). is_fresh row.state ≡ is_none row.line) (fresh_row gtin n) serials (Every-always (λ (serial : Text). is_fresh (fresh_row gtin n serial).state ≡ is_none (fresh_row gtin n serial).line) (λ serial. refl) serials));
      one_parent = s.one_parent;
      packed = Every-weaker (StandsRightly w) (StandsRightly w') (λ p. stands_on w w' p
          (λ g m row _ e act. (row, find-more (λ (r : Row). same_name (name_of r) (Item g m)) w.rows (map (fresh_row gtin n) serials) row e, act, refl))
          (λ sscc box _ e sealed. (box, e, refl, sealed, refl))
          (λ unit e held. (unit, e, held, refl, refl))) w.pairs s.packed;
      sealed = s.sealed;
      planned = Every-weaker (IsUntouched w) (IsUntouched w') (λ b u plan. (
        subst (Every (λ (row : Row). is_fresh row.state ≡ true)) (sym (filter-append (λ (row : Row). same row.batch b.order.batch) w.rows (map (fresh_row gtin n) serials)))
            (Every-append (λ (row : Row). is_fresh row.state ≡ true) (filter (λ (row : Row). same row.batch b.order.batch) w.rows) (filter (λ (row : Row). same row.batch b.order.batch) (map (fresh_row gtin n) serials)) (u plan).0
            (Every-filter (λ (row : Row). is_fresh row.state ≡ true) (λ (row : Row). same row.batch b.order.batch) (map (fresh_row gtin n) serials) (Every-map (λ (row : Row). is_fresh row.state ≡ true) (fresh_row gtin n) serials (Every-always (λ (serial : Text). is_fresh (fresh_row gtin n serial).state ≡ true) (λ serial. refl) serials)))),
        (u plan).1,
      )) w.batches s.planned;
      in_range = s.in_range;
      few_serials = subst (λ k. k ≤ 1000000) (sym (length-append w.rows (map (fresh_row gtin n) serials) ∙ ap (λ k. length w.rows + k) (length-map serials (fresh_row gtin n)))) room;
      few_units = s.few_units;
      few_batches = s.few_batches;
    }
