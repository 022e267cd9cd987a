-- After a close nothing of the batch changes.
use Rattle.std.proofs.Common.{◌≡◌, ℕ, Bool, true, false, cond, ◌&&◌, not, List, [], ◌∷◌, ◌++◌, length, map, take, sym, ◌∙◌, ap, refl, subst, Option, None, Some, true≢false, append-nil}
use Rattle.std.specs.Prelude.{if◌then◌else◌, filter, find, option_map}
use Rattle.std.specs.List.{AllByRecursion as Every}
use Rattle.std.specs.Option.{option_map_or}
use Rattle.std.proofs.lemmas.Bool.{and_parts, false_from_ne_true}
use Rattle.std.proofs.lemmas.List.Elements.{filter-append}
use Rattle.deed_words.specs.Names.{Text, same, same_name, is_among}
use Rattle.gs1_element.specs.declared.code.Code.{Code}
use Rattle.epc_urn.specs.declared.epc.Epc.{Epc}
use Rattle.deed_words.specs.Setups.{Setup, code_of}
use Rattle.deed_words.specs.declared.entry.Entry.{Entry}
use Rattle.deed_words.specs.declared.deed.OrderRow.{OrderRow}
use Rattle.deed_words.specs.declared.rule.Rule.{Rule}
use Rattle.deed_words.specs.declared.rule.Rule.TheVariants as rule
use Rattle.deed_words.specs.declared.deed.Deed.{Deed}
use Rattle.deed_words.specs.declared.deed.Deed.TheVariants.{Order, Orders, Start, Draw, Lend, Commission, Spoil, Giveback, Sample, Reject, Reinstate, Destroy, Decommission, Container as MakeUnit, Pack, Unpack, UnpackAll, Seal, Unseal, Void, Declare, Close, Amend}
use Rattle.deed_words.specs.declared.words.Phase.{Phase}
use Rattle.deed_words.specs.declared.words.Phase.TheVariants.{Planned, Started, Closed}
use Rattle.deed_words.specs.declared.words.Mark.{Mark}
use Rattle.deed_words.specs.declared.words.Mark.TheVariants as mark
use Rattle.deed_words.specs.declared.words.Level.{Level}
use Rattle.deed_words.specs.declared.world.Batch.{Batch}
use Rattle.deed_words.specs.declared.world.Row.{Row}
use Rattle.deed_words.specs.declared.world.Container.{Container}
use Rattle.deed_words.specs.declared.world.Pair.{Pair}
use Rattle.deed_words.specs.declared.world.Declaration.{Declaration}
use Rattle.deed_words.specs.Chain.{holds_of}
use Rattle.deed_words.specs.World.{World, name_of, batch_of, row_of, unit_of, parent, rows_in, units_in, home}
use Rattle.deed_words.specs.Deeds.{unit_named, batch_with, batch_named, batch_for, item_of, items_of, named}
use Rattle.deed_words.specs.Moves.{is_fresh}
use Rattle.deed_words.specs.Orders.{planned, new_orders, orders_in}
use Rattle.deed_words.specs.Tests.{Test, closed, is_closed, fresh_rows, other_batch, is_of, fits_order, strays, not_child}
use Rattle.deed_words.specs.Rules.{broken, rules_of, on_rows}
use Rattle.deed_words.specs.Effects.{effect, with_orders, in_phase, with_phase, of_quantity, with_quantity, fresh_row, gtin_of, with_drawn, rewrite, with_rows, lent_rows, lent_to, moved_row, with_unit, marked, with_mark, put_in, with_children, without_children, emptied, with_declaration}
use Rattle.deed_words.specs.Replies.{after, unless_broken}
use Rattle.deed_words.specs.History.{world_from, AllFollow}
use Rattle.deed_words.specs.Sound.{IsSound, StandsRightly}
use Rattle.deed_words.proofs.Sameness.{same-true, same_equiv, same_name_equiv}
use Rattle.deed_words.proofs.Items.{Every-weaker, Every-always, Every-map, find_passes, find-more, find-map, finds_itself}
use Rattle.deed_words.proofs.Broken.{when_None, each_when}
use Rattle.deed_words.specs.Kept.{KeepsBatch, pairs_in, declared_in}
use Rattle.deed_words.proofs.Allowed.{NoneOf, allowed, at_found, among_every, not_false}
use Rattle.deed_words.proofs.SoundBatches.{KeepsNames, in_phase-names, of_quantity-names}
use Rattle.deed_words.proofs.SoundPairs.{filter-filter}
use Rattle.deed_words.proofs.SoundMoves.{among_chosen, among-take}
use Rattle.deed_words.proofs.UnitCodes.{units_differ}
use Rattle.deed_words.proofs.Soundness.{sound_after, nots}

pub filter_none : {A : Type 0} (test : A → Bool) (xs : List A) → Every (λ x. test x ≡ false) xs → filter test xs ≡ []
filter_none test [] a = refl
filter_none {A} test (x ∷ xs) a = ap (λ b. cond b (x ∷ filter test xs) (filter test xs)) a.0 ∙ filter_none test xs a.1

pub filter_others : {A : Type 0} (test : A → Bool) (xs more : List A) → Every (λ x. test x ≡ false) more → filter test (xs ++ more) ≡ filter test xs
filter_others {A} test xs more a = filter-append test xs more ∙ ap (λ (ys : List A). filter test xs ++ ys) (filter_none test more a) ∙ append-nil (filter test xs)

filter_still : {A : Type 0} (test : A → Bool) (f : A → A) → ((x : A) → test (f x) ≡ test x) → (xs : List A) → Every (λ x. test x ≡ true → f x ≡ x) xs → filter test (map f xs) ≡ filter test xs
filter_still test f keeps [] a = refl
filter_still {A} test f keeps (x ∷ xs) a =
    let rest = filter_still test f keeps xs a.1 in
    ap (λ b. cond b (f x ∷ filter test (map f xs)) (filter test (map f xs))) (keeps x)
    ∙ (elim (test x) as (λ b. (b ≡ true → f x ≡ x) → cond b (f x ∷ filter test (map f xs)) (filter test (map f xs)) ≡ cond b (x ∷ filter test xs) (filter test xs)) [
      | true ↦ λ h. ap (λ (y : A). y ∷ filter test (map f xs)) (h refl) ∙ ap (λ (ys : List A). x ∷ ys) rest
      | false ↦ λ h. rest
    ]) a.0

pub filter_same : {A : Type 0} (test other : A → Bool) (xs : List A) → Every (λ x. test x ≡ other x) xs → filter test xs ≡ filter other xs
filter_same test other [] a = refl
filter_same {A} test other (x ∷ xs) a = ap (λ b. cond b (x ∷ filter test xs) (filter test xs)) a.0 ∙ ap (λ (ys : List A). cond (other x) (x ∷ ys) ys) (filter_same test other xs a.1)

-- the batch of a deed that may be done isn't closed, so it is another
is_closed-from : (batch : Batch) → batch.phase ≡ Closed → is_closed batch ≡ true
unfolding is_closed
is_closed-from batch e = subst (λ (p : Phase). elim p as (λ _. Bool) [ Planned ↦ false | Started ↦ false | Closed ↦ true ] ≡ true) (sym e) refl

other_target : (site : Setup) (w : World) (station : ℕ) (deed : Deed) (n : Text) (batch : Batch) → closed site w station deed ≡ None → batch_of w n ≡ Some batch → batch.phase ≡ Closed → same (batch_named w deed) n ≡ false
unfolding closed batch_for
other_target site w station deed n batch e at shut =
    false_from_ne_true (same (batch_named w deed) n) (λ t.
    let here : batch_of w (batch_named w deed) ≡ Some batch = ap (batch_of w) (same-true (batch_named w deed) n t) ∙ at in
    let f : is_closed batch ≡ false = at_found is_closed (batch_of w (batch_named w deed)) batch false here (when_None (holds_of is_closed (batch_of w (batch_named w deed))) rule.BatchClosed e) in
    true≢false (sym (is_closed-from batch shut) ∙ f))

kept_orders : (w : World) (n : Text) (batch : Batch) (rows : List OrderRow) → batch_of w n ≡ Some batch → KeepsBatch w (with_orders w rows) n
unfolding batch_of rows_in units_in pairs_in declared_in batch_with unit_of with_orders
kept_orders w n batch rows at =
    record {
      batch = find-more (λ (b : Batch). same b.order.batch n) w.batches (map planned (new_orders (orders_in w) rows)) batch at ∙ sym at;
      rows = refl;
      units = refl;
      pairs = refl;
      declared = refl;
    }

kept_batches : (w : World) (n t : Text) (batch : Batch) (f : Batch → Batch) → KeepsNames f → ((b : Batch) → same b.order.batch t ≡ false → f b ≡ b) → batch_of w n ≡ Some batch → same t n ≡ false → KeepsBatch w (record w { batches = map f w.batches }) n
unfolding batch_of rows_in units_in pairs_in declared_in batch_with unit_of
kept_batches w n t batch f keeps still at other =
    let name : batch.order.batch ≡ n = same-true batch.order.batch n (find_passes (λ (b : Batch). same b.order.batch n) w.batches batch at) in
    let apart : same batch.order.batch t ≡ false = ap (λ (m : Text). same m t) name ∙ same_equiv.symm n t ∙ other in
    record {
      batch = find-map (λ (b : Batch). same b.order.batch n) f (λ b. ap (λ (m : Text). same m n) (keeps.name b)) w.batches ∙ ap (option_map f) at ∙ ap Some (still batch apart) ∙ sym at;
      rows = refl;
      units = refl;
      pairs = refl;
      declared = refl;
    }

pub in_phase-still : (to : Phase) (t : Text) (b : Batch) → same b.order.batch t ≡ false → in_phase to t b ≡ b
unfolding in_phase
in_phase-still to t b e = ap (λ c. if c then record b { phase = to } else b) e

of_quantity-still : (q : ℕ) (t : Text) (b : Batch) → same b.order.batch t ≡ false → of_quantity q t b ≡ b
unfolding of_quantity
of_quantity-still q t b e = rw e refl

kept_drawn : (w : World) (n t : Text) (serials : List Text) → same t n ≡ false → KeepsBatch w (with_drawn w t serials) n
unfolding batch_of rows_in units_in pairs_in declared_in batch_with unit_of with_drawn fresh_row
kept_drawn w n t serials other =
    record {
      batch = refl;
      rows = filter_others (λ (row : Row). same row.batch n) w.rows (map (fresh_row (gtin_of w t) t) serials) (Every-map (λ (row : Row). same row.batch n ≡ false) (fresh_row (gtin_of w t) t) serials (Every-always (λ (s : Text). same t n ≡ false) (λ s. other) serials));
      units = refl;
      pairs = refl;
      declared = refl;
    }

pub rewrite_batch : (change : Row → Row) → ((row : Row) → (change row).batch ≡ row.batch) → (names : List Epc) (row : Row) → (rewrite change names row).batch ≡ row.batch
unfolding rewrite
rewrite_batch change keeps names row = elim (is_among names (name_of row)) as (λ b. (if b then change row else row).batch ≡ row.batch) [ true ↦ keeps row | false ↦ refl ]

pub rewrite_still : (change : Row → Row) (names : List Epc) (row : Row) → is_among names (name_of row) ≡ false → rewrite change names row ≡ row
unfolding rewrite
rewrite_still change names row e = ap (λ b. if b then change row else row) e

kept_rewritten : (w : World) (n t : Text) (change : Row → Row) (names : List Epc) → ((row : Row) → (change row).batch ≡ row.batch) → Every (λ (row : Row). is_among names (name_of row) ≡ true → same t row.batch ≡ true) w.rows → same t n ≡ false → KeepsBatch w (with_rows w change names) n
unfolding batch_of rows_in units_in pairs_in declared_in batch_with unit_of with_rows
kept_rewritten w n t change names keeps own other =
    record {
      batch = refl;
      rows = filter_still (λ (row : Row). same row.batch n) (rewrite change names) (λ row. ap (λ (b : Text). same b n) (rewrite_batch change keeps names row)) w.rows
          (Every-weaker (λ (row : Row). is_among names (name_of row) ≡ true → same t row.batch ≡ true) (λ (row : Row). same row.batch n ≡ true → rewrite change names row ≡ row)
          (λ row h here. rewrite_still change names row (false_from_ne_true (is_among names (name_of row)) (λ a. true≢false (sym here ∙ ap (λ (b : Text). same b n) (sym (same-true t row.batch (h a))) ∙ other)))) w.rows own);
      units = refl;
      pairs = refl;
      declared = refl;
    }

kept_unit : (site : Setup) (w : World) (n t : Text) (level : Level) → IsSound site w → same t n ≡ false → KeepsBatch w (with_unit site w t level) n
unfolding batch_of rows_in units_in pairs_in declared_in batch_with unit_of with_unit StandsRightly
kept_unit site w n t level s other =
    let unit : Container = record { sscc = code_of site (length w.units); batch = t; level = level; mark = mark.Filling } in
    record {
      batch = refl;
      rows = refl;
      units = filter_others (λ (u : Container). same u.batch n) w.units (unit ∷ []) (other, tt);
      pairs = filter_same (λ (p : Pair). same (option_map_or (λ (u : Container). u.batch) (find (λ (u : Container). same u.sscc p.parent) (w.units ++ unit ∷ [])) []) n) (λ (p : Pair). same (option_map_or (λ (u : Container). u.batch) (find (λ (u : Container). same u.sscc p.parent) w.units) []) n) w.pairs
          (Every-weaker (StandsRightly w) (λ (p : Pair). same (option_map_or (λ (u : Container). u.batch) (find (λ (u : Container). same u.sscc p.parent) (w.units ++ unit ∷ [])) []) n ≡ same (option_map_or (λ (u : Container). u.batch) (find (λ (u : Container). same u.sscc p.parent) w.units) []) n)
          (λ p st. ap (λ (o : Option Container). same (option_map_or (λ (u : Container). u.batch) o []) n) (find-more (λ (u : Container). same u.sscc p.parent) w.units (unit ∷ []) st.0 st.1 ∙ sym st.1)) w.pairs s.packed);
      declared = refl;
    }

kept_children : (w : World) (n u : Text) (children : List Epc) → same (batch_with w u) n ≡ false → KeepsBatch w (with_children w u children) n
unfolding batch_of rows_in units_in pairs_in declared_in batch_with unit_of with_children
kept_children w n u children other =
    record {
      batch = refl;
      rows = refl;
      units = refl;
      pairs = filter_others (λ (p : Pair). same (batch_with w p.parent) n) w.pairs (map (put_in u) children) (Every-map (λ (p : Pair). same (batch_with w p.parent) n ≡ false) (put_in u) children (Every-always (λ (c : Epc). same (batch_with w u) n ≡ false) (λ c. other) children));
      declared = refl;
    }

kept_taken : (w : World) (n u : Text) (keep : Pair → Bool) → Every (λ (p : Pair). keep p ≡ false → p.parent ≡ u) w.pairs → same (batch_with w u) n ≡ false → KeepsBatch w (record w { pairs = filter keep w.pairs }) n
unfolding batch_of rows_in units_in pairs_in declared_in batch_with unit_of
kept_taken w n u keep from other =
    record {
      batch = refl;
      rows = refl;
      units = refl;
      pairs = filter-filter (λ (p : Pair). same (batch_with w p.parent) n) keep w.pairs (Every-weaker (λ (p : Pair). keep p ≡ false → p.parent ≡ u) (λ (p : Pair). keep p ≡ false → same (batch_with w p.parent) n ≡ false) (λ p h k. ap (λ (c : Text). same (batch_with w c) n) (h k) ∙ other) w.pairs from);
      declared = refl;
    }

pub marked-batch : (to : Mark) (c : Text) (u : Container) → (marked to c u).batch ≡ u.batch
unfolding marked
marked-batch to c u = elim (same u.sscc c) as (λ b. (if b then record u { mark = to } else u).batch ≡ u.batch) [ true ↦ refl | false ↦ refl ]

pub marked-code : (to : Mark) (c : Text) (u : Container) → (marked to c u).sscc ≡ u.sscc
unfolding marked
marked-code to c u = elim (same u.sscc c) as (λ b. (if b then record u { mark = to } else u).sscc ≡ u.sscc) [ true ↦ refl | false ↦ refl ]

marked-still : (to : Mark) (c : Text) (u : Container) → same u.sscc c ≡ false → marked to c u ≡ u
unfolding marked
marked-still to c u e = ap (λ b. if b then record u { mark = to } else u) e

pub batch-of_mapped : (f : Container → Container) → ((u : Container) → (f u).batch ≡ u.batch) → (o : Option Container) → option_map_or (λ (u : Container). u.batch) (option_map f o) [] ≡ option_map_or (λ (u : Container). u.batch) o []
batch-of_mapped f keeps None = refl
batch-of_mapped f keeps (Some u) = keeps u

kept_marked : (site : Setup) (w : World) (n c : Text) (to : Mark) → IsSound site w → same (batch_with w c) n ≡ false → KeepsBatch w (with_mark w to c) n
unfolding batch_of rows_in units_in pairs_in declared_in batch_with unit_of with_mark
kept_marked site w n c to s other =
    let f : Container → Container = marked to c in
    let selves : Every (λ (u : Container). find (λ (x : Container). same x.sscc u.sscc) w.units ≡ Some u) w.units = finds_itself same same_equiv (λ (u : Container). u.sscc) w.units (units_differ site w s) in
    record {
      batch = refl;
      rows = refl;
      units = filter_still (λ (u : Container). same u.batch n) f (λ u. ap (λ (b : Text). same b n) (marked-batch to c u)) w.units
          (Every-weaker (λ (u : Container). find (λ (x : Container). same x.sscc u.sscc) w.units ≡ Some u) (λ (u : Container). same u.batch n ≡ true → f u ≡ u)
          (λ u self here. marked-still to c u (false_from_ne_true (same u.sscc c) (λ t.
          let at : find (λ (x : Container). same x.sscc c) w.units ≡ Some u = ap (λ (m : Text). find (λ (x : Container). same x.sscc m) w.units) (sym (same-true u.sscc c t)) ∙ self in
          let b : same u.batch n ≡ false = sym (ap (λ (o : Option Container). same (option_map_or (λ (x : Container). x.batch) o []) n) at) ∙ other in
          true≢false (sym here ∙ b)))) w.units selves);
      pairs = filter_same (λ (p : Pair). same (option_map_or (λ (u : Container). u.batch) (find (λ (u : Container). same u.sscc p.parent) (map f w.units)) []) n) (λ (p : Pair). same (option_map_or (λ (u : Container). u.batch) (find (λ (u : Container). same u.sscc p.parent) w.units) []) n) w.pairs
          (Every-always (λ (p : Pair). same (option_map_or (λ (u : Container). u.batch) (find (λ (u : Container). same u.sscc p.parent) (map f w.units)) []) n ≡ same (option_map_or (λ (u : Container). u.batch) (find (λ (u : Container). same u.sscc p.parent) w.units) []) n)
          (λ p. ap (λ (b : Text). same b n) (ap (λ (o : Option Container). option_map_or (λ (u : Container). u.batch) o []) (find-map (λ (u : Container). same u.sscc p.parent) f (λ u. ap (λ (m : Text). same m p.parent) (marked-code to c u)) w.units) ∙ batch-of_mapped f (marked-batch to c) (find (λ (u : Container). same u.sscc p.parent) w.units))) w.pairs);
      declared = refl;
    }

kept_declared : (w : World) (n : Text) (said : Declaration) → same said.batch n ≡ false → KeepsBatch w (with_declaration w said) n
unfolding batch_of rows_in units_in pairs_in declared_in batch_with unit_of with_declaration
kept_declared w n said other =
    record {
      batch = refl;
      rows = refl;
      units = refl;
      pairs = refl;
      declared = filter_others (λ (d : Declaration). same d.batch n) w.declarations (said ∷ []) (other, tt);
    }

-- named rows are of the batch that the deed is about
own_rows : (site : Setup) (w : World) (t : Text) (names : List Epc) → IsSound site w → Every (λ (c : Epc). is_of w t c ≡ true) names → Every (λ (row : Row). is_among names (name_of row) ≡ true → same t row.batch ≡ true) w.rows
unfolding is_of home row_of
own_rows site w t names s homes =
    Every-weaker (λ (row : Row). find (λ (r : Row). same_name (name_of r) (name_of row)) w.rows ≡ Some row) (λ (row : Row). is_among names (name_of row) ≡ true → same t row.batch ≡ true)
    (λ row self a.
    let h = among_every (λ (c : Epc). is_of w t c ≡ true) names (name_of row) a homes in
    at_found (same t) (option_map (λ (r : Row). r.batch) (find (λ (r : Row). same_name (name_of r) (name_of row)) w.rows)) row.batch true (ap (option_map (λ (r : Row). r.batch)) self) h)
    w.rows (finds_itself same_name same_name_equiv name_of w.rows s.rows_differ)

kept_moved : (site : Setup) (w : World) (n t : Text) (deed : Deed) (names : List Epc) → IsSound site w → Every (λ (c : Epc). is_of w t c ≡ true) names → same t n ≡ false → KeepsBatch w (with_rows w (moved_row deed) names) n
unfolding moved_row
kept_moved site w n t deed names s homes other = kept_rewritten w n t (moved_row deed) names (λ row. refl) (own_rows site w t names s homes) other

homes_of : (w : World) (t : Text) (names : List Epc) → strays w t names ≡ None → Every (λ (c : Epc). is_of w t c ≡ true) names
unfolding strays
homes_of w t names e = nots (is_of w t) names (each_when (λ (c : Epc). not (is_of w t c)) rule.OtherBatch names e)

codes_home : (w : World) (t : Text) (codes : List Code) → Every (λ (code : Code). (not (is_of w t (item_of code) && fits_order (batch_of w t) code)) ≡ false) codes → Every (λ (c : Epc). is_of w t c ≡ true) (map item_of codes)
codes_home w t codes a =
    Every-map (λ (c : Epc). is_of w t c ≡ true) item_of codes (Every-weaker (λ (code : Code). (not (is_of w t (item_of code) && fits_order (batch_of w t) code)) ≡ false) (λ (code : Code). is_of w t (item_of code) ≡ true)
    (λ code h. (and_parts (is_of w t (item_of code)) (fits_order (batch_of w t) code) (not_false _ h)).0) codes a)

lent_own : (site : Setup) (w : World) (t : Text) (count : ℕ) → IsSound site w → Every (λ (row : Row). is_among (map name_of (lent_rows w t count)) (name_of row) ≡ true → same t row.batch ≡ true) w.rows
unfolding lent_rows fresh_rows
lent_own site w t count s =
    let test : Row → Bool = λ row. same row.batch t && is_fresh row.state in
    Every-weaker (λ (row : Row). is_among (map name_of (filter test w.rows)) (name_of row) ≡ true → test row ≡ true) (λ (row : Row). is_among (map name_of (take count (filter test w.rows))) (name_of row) ≡ true → same t row.batch ≡ true)
    (λ row h a. same_equiv.symm t row.batch ∙ (and_parts (same row.batch t) (is_fresh row.state) (h (among-take count (filter test w.rows) (name_of row) a))).0) w.rows (among_chosen test w.rows s.rows_differ)

kept_unpack : (site : Setup) (w : World) (station : ℕ) (n u : Text) (children : List Epc) → IsSound site w → not_child site w station (Unpack u children) ≡ None → same (batch_with w u) n ≡ false → KeepsBatch w (without_children w children) n
unfolding without_children not_child named unit_named parent
kept_unpack site w station n u children s e other =
    let own = nots (λ (c : Epc). holds_of (same u) (parent w c)) children (each_when (λ (c : Epc). not (holds_of (same u) (parent w c))) rule.NotChild children e) in
    kept_taken w n u (λ (q : Pair). not (is_among children q.child))
    (Every-weaker (λ (q : Pair). find (λ (x : Pair). same_name x.child q.child) w.pairs ≡ Some q) (λ (q : Pair). not (is_among children q.child) ≡ false → q.parent ≡ u)
    (λ q self k.
    let mine : holds_of (same u) (parent w q.child) ≡ true = among_every (λ (c : Epc). holds_of (same u) (parent w c) ≡ true) children q.child (not_false (is_among children q.child) k) own in
    sym (same-true u q.parent (at_found (same u) (parent w q.child) q.parent true (ap (option_map (λ (x : Pair). x.parent)) self) mine)))
    w.pairs (finds_itself same_name same_name_equiv (λ (q : Pair). q.child) w.pairs s.one_parent)) other

kept_emptied : (w : World) (n u : Text) → same (batch_with w u) n ≡ false → KeepsBatch w (emptied w u) n
unfolding emptied
kept_emptied w n u other = kept_taken w n u (λ (q : Pair). not (same q.parent u)) (Every-always (λ (q : Pair). not (same q.parent u) ≡ false → q.parent ≡ u) (λ q k. same-true q.parent u (not_false (same q.parent u) k)) w.pairs) other

kept_effect : (site : Setup) (w : World) (station : ℕ) (deed : Deed) (drawn : List Text) (n : Text) (batch : Batch) → NoneOf (map (λ (test : Test). test site w station deed) (rules_of deed)) → IsSound site w → batch_of w n ≡ Some batch → batch.phase ≡ Closed → KeepsBatch w (effect site w station deed drawn) n
unfolding NoneOf rules_of on_rows effect with_phase with_quantity other_batch named batch_named unit_named
kept_effect site w station (Order row) drawn n batch p s at shut = kept_orders w n batch (row ∷ []) at
kept_effect site w station (Orders rows) drawn n batch p s at shut = kept_orders w n batch rows at
kept_effect site w station (Start t) drawn n batch p s at shut = kept_batches w n t batch (in_phase Started t) (in_phase-names Started t) (in_phase-still Started t) at (other_target site w station (Start t) n batch p.1.1.1.0 at shut)
kept_effect site w station (Close t) drawn n batch p s at shut = kept_batches w n t batch (in_phase Closed t) (in_phase-names Closed t) (in_phase-still Closed t) at (other_target site w station (Close t) n batch p.1.1.1.0 at shut)
kept_effect site w station (Amend t q) drawn n batch p s at shut = kept_batches w n t batch (of_quantity q t) (of_quantity-names q t) (of_quantity-still q t) at (other_target site w station (Amend t q) n batch p.1.1.0 at shut)
kept_effect site w station (Draw t count) drawn n batch p s at shut = kept_drawn w n t drawn (other_target site w station (Draw t count) n batch p.1.1.0 at shut)
kept_effect site w station (Lend t count) drawn n batch p s at shut = kept_rewritten w n t (lent_to station) (map name_of (lent_rows w t count)) (λ row. refl) (lent_own site w t count s) (other_target site w station (Lend t count) n batch p.1.1.1.0 at shut)
kept_effect site w station (MakeUnit t level) drawn n batch p s at shut = kept_unit site w n t level s (other_target site w station (MakeUnit t level) n batch p.1.1.1.0 at shut)
kept_effect site w station (Pack u children) drawn n batch p s at shut = kept_children w n u children (other_target site w station (Pack u children) n batch p.1.1.0 at shut)
kept_effect site w station (Unpack u children) drawn n batch p s at shut = kept_unpack site w station n u children s p.1.1.1.1.1.1.1.0 (other_target site w station (Unpack u children) n batch p.1.1.0 at shut)
kept_effect site w station (UnpackAll u) drawn n batch p s at shut = kept_emptied w n u (other_target site w station (UnpackAll u) n batch p.1.1.0 at shut)
kept_effect site w station (Seal u) drawn n batch p s at shut = kept_marked site w n u mark.Sealed s (other_target site w station (Seal u) n batch p.1.1.0 at shut)
kept_effect site w station (Unseal u) drawn n batch p s at shut = kept_marked site w n u mark.Filling s (other_target site w station (Unseal u) n batch p.1.1.0 at shut)
kept_effect site w station (Void u) drawn n batch p s at shut = kept_marked site w n u mark.Void s (other_target site w station (Void u) n batch p.1.1.0 at shut)
kept_effect site w station (Declare t good spoiled returned) drawn n batch p s at shut = kept_declared w n (record { batch = t; line = station; good = good; spoiled = spoiled; returned = returned }) (other_target site w station (Declare t good spoiled returned) n batch p.1.1.1.0 at shut)
kept_effect site w station (Commission t codes) drawn n batch p s at shut = kept_moved site w n t (Commission t codes) (map item_of codes) s (codes_home w t codes (each_when (λ (code : Code). not (is_of w t (item_of code) && fits_order (batch_of w t) code)) rule.OtherBatch codes p.1.1.1.1.1.1.1.0)) (other_target site w station (Commission t codes) n batch p.1.1.1.0 at shut)
kept_effect site w station (Spoil t items) drawn n batch p s at shut = kept_moved site w n t (Spoil t items) (items_of w t items) s (homes_of w t (items_of w t items) p.1.1.1.1.1.1.1.0) (other_target site w station (Spoil t items) n batch p.1.1.1.0 at shut)
kept_effect site w station (Giveback t items) drawn n batch p s at shut = kept_moved site w n t (Giveback t items) (items_of w t items) s (homes_of w t (items_of w t items) p.1.1.1.1.1.1.1.0) (other_target site w station (Giveback t items) n batch p.1.1.1.0 at shut)
kept_effect site w station (Sample t items) drawn n batch p s at shut = kept_moved site w n t (Sample t items) items s (homes_of w t items p.1.1.1.1.1.1.1.0) (other_target site w station (Sample t items) n batch p.1.1.1.0 at shut)
kept_effect site w station (Reject t items) drawn n batch p s at shut = kept_moved site w n t (Reject t items) items s (homes_of w t items p.1.1.1.1.1.1.1.0) (other_target site w station (Reject t items) n batch p.1.1.1.0 at shut)
kept_effect site w station (Reinstate t items) drawn n batch p s at shut = kept_moved site w n t (Reinstate t items) items s (homes_of w t items p.1.1.1.1.1.1.1.0) (other_target site w station (Reinstate t items) n batch p.1.1.1.0 at shut)
kept_effect site w station (Destroy t items) drawn n batch p s at shut = kept_moved site w n t (Destroy t items) items s (homes_of w t items p.1.1.1.1.1.1.1.0) (other_target site w station (Destroy t items) n batch p.1.1.1.0 at shut)
kept_effect site w station (Decommission t items) drawn n batch p s at shut = kept_moved site w n t (Decommission t items) items s (homes_of w t items p.1.1.1.1.1.1.1.0) (other_target site w station (Decommission t items) n batch p.1.1.1.0 at shut)

kept_unless : (site : Setup) (w : World) (entry : Entry) (rule : Option Rule) (n : Text) (batch : Batch) → broken site w entry.station entry.deed ≡ rule → IsSound site w → batch_of w n ≡ Some batch → batch.phase ≡ Closed → KeepsBatch w (unless_broken site w entry rule) n
unfolding unless_broken
kept_unless site w entry None n batch e s at shut = kept_effect site w entry.station entry.deed entry.drawn n batch (allowed site w entry.station entry.deed e) s at shut
kept_unless site w entry (Some rule) n batch e s at shut = record { batch = refl; rows = refl; units = refl; pairs = refl; declared = refl }

kept_after : (site : Setup) (w : World) (entry : Entry) (n : Text) (batch : Batch) → IsSound site w → batch_of w n ≡ Some batch → batch.phase ≡ Closed → KeepsBatch w (after site w entry) n
unfolding after
kept_after site w entry n batch s at shut = kept_unless site w entry (broken site w entry.station entry.deed) n batch refl s at shut

-- whatever follows
pub closed_kept : (site : Setup) (history : List Entry) (w : World) (entries : List Entry) (n : Text) (batch : Batch) → AllFollow site history w entries → IsSound site w → batch_of w n ≡ Some batch → batch.phase ≡ Closed → KeepsBatch w (world_from site w entries) n
unfolding AllFollow world_from
closed_kept site history w [] n batch may s at shut = record { batch = refl; rows = refl; units = refl; pairs = refl; declared = refl }
closed_kept site history w (entry ∷ entries) n batch may s at shut =
    let one = kept_after site w entry n batch s at shut in
    let more = closed_kept site (history ++ entry ∷ []) (after site w entry) entries n batch may.1 (sound_after site history w entry may.0 s) (one.batch ∙ at) shut in
    record { batch = more.batch ∙ one.batch; rows = more.rows ∙ one.rows; units = more.units ∙ one.units; pairs = more.pairs ∙ one.pairs; declared = more.declared ∙ one.declared }
