-- A world stays sound where batches come or change.
use Rattle.std.proofs.Common.{◌≡◌, ℕ, ◌+◌, ◌≤◌, Bool, true, false, cond, ◌||◌, List, [], ◌∷◌, ◌++◌, length, map, sym, ◌∙◌, ap, refl, subst, Option, None, Some, true≢false, append_assoc, append-nil, length-append}
use Rattle.std.specs.Prelude.{if◌then◌else◌, filter, find, option_map, is_some}
use Rattle.std.specs.List.{AllByRecursion as Every, IsDistinct, list_any}
use Rattle.std.proofs.lemmas.List.{map-append, length-map}
use Rattle.std.proofs.lemmas.Bool.{false_from_ne_true, or_parts}
use Rattle.std.proofs.lemmas.Map.Keys.{IsDistinct-push}
use Rattle.deed_words.specs.Names.{Text, same}
use Rattle.deed_words.specs.Setups.{Setup}
use Rattle.deed_words.specs.declared.deed.OrderRow.{OrderRow}
use Rattle.deed_words.specs.declared.words.Phase.{Phase}
use Rattle.deed_words.specs.declared.words.Phase.TheVariants.{Planned}
use Rattle.deed_words.specs.declared.world.Batch.{Batch}
use Rattle.deed_words.specs.declared.world.Row.{Row}
use Rattle.deed_words.specs.declared.world.Container.{Container}
use Rattle.deed_words.specs.declared.world.Declaration.{Declaration}
use Rattle.deed_words.specs.Chain.{is_empty}
use Rattle.deed_words.specs.World.{World, batch_of, row_of, unit_of, inside, rows_in, units_in}
use Rattle.deed_words.specs.Moves.{is_fresh}
use Rattle.deed_words.specs.Orders.{planned, is_ordered, new_orders, orders_in}
use Rattle.deed_words.specs.Effects.{with_orders, in_phase, with_phase, of_quantity, with_quantity, with_declaration}
use Rattle.deed_words.specs.Sound.{IsSound, HasBatch, IsUntouched}
use Rattle.deed_words.proofs.Sameness.{same-true, same_equiv}
use Rattle.deed_words.proofs.Items.{Every-append, Every-weaker, Every-map, Every-passed, find-more, find-map, map-map}
use Rattle.deed_words.proofs.Standing.{stand_still}

names : List Batch → List Text
names bs = map (λ (b : Batch). b.order.batch) bs

is_some-option_map : {A B : Type 0} (f : A → B) (o : Option A) → is_some (option_map f o) ≡ is_some o
is_some-option_map f None = refl
is_some-option_map f (Some x) = refl

-- a change of batches that keeps what their serials and units lean on: the name and the GTIN
pub record KeepsNames (f : Batch → Batch) : Type 0 where
  pub name : (b : Batch) → (f b).order.batch ≡ b.order.batch
  pub gtin : (b : Batch) → (f b).order.gtin ≡ b.order.gtin

-- a change of batches that keeps their names, and makes none Planned
pub sound_batches : (site : Setup) (w : World) (f : Batch → Batch) → KeepsNames f → ((b : Batch) → (f b).phase ≡ Planned → b.phase ≡ Planned)
    → IsSound site w → IsSound site (record w { batches = map f w.batches })
unfolding batch_of row_of unit_of inside rows_in units_in HasBatch IsUntouched
sound_batches site w f keeps plan s =
    let w' : World = record w { batches = map f w.batches } in
    let test : Text → Batch → Bool = λ n b. same b.order.batch n in
    let found : (n : Text) → find (test n) (map f w.batches) ≡ option_map f (find (test n) w.batches) = λ n. find-map (test n) f (λ b. ap (λ (m : Text). same m n) (keeps.name b)) w.batches in
    record {
      batches_differ = subst (IsDistinct same) (sym (map-map (λ (b : Batch). b.order.batch) f keeps.name w.batches)) s.batches_differ;
      rows_differ = s.rows_differ;
      of_a_batch = Every-weaker (HasBatch w) (HasBatch w') (λ row h. (f h.0, found row.batch ∙ ap (option_map f) h.1, keeps.gtin h.0 ∙ h.2)) w.rows s.of_a_batch;
      units_of_a_batch = Every-weaker (λ (u : Container). is_some (find (test u.batch) w.batches) ≡ true) (λ (u : Container). is_some (find (test u.batch) (map f w.batches)) ≡ true) (λ u h. ap is_some (found u.batch) ∙ is_some-option_map f (find (test u.batch) w.batches) ∙ h) w.units s.units_of_a_batch;
      issued = s.issued;
      fresh = s.fresh;
      one_parent = s.one_parent;
      packed = stand_still w w' (λ g n. refl) (λ n. refl) w.pairs s.packed;
      sealed = s.sealed;
      planned = Every-map (IsUntouched w') f w.batches (Every-weaker (IsUntouched w) (λ (b : Batch). IsUntouched w' (f b)) (λ b u p. subst (λ (n : Text). Every (λ (row : Row). is_fresh row.state ≡ true) (filter (λ (row : Row). same row.batch n) w.rows) × (is_empty (filter (λ (unit : Container). same unit.batch n) w.units) ≡ true)) (sym (keeps.name b)) (u (plan b p))) w.batches s.planned);
      in_range = s.in_range;
      few_serials = s.few_serials;
      few_units = s.few_units;
      few_batches = subst (λ n. n ≤ 4096) (sym (length-map w.batches f)) s.few_batches;
    }

pub in_phase-order : (to : Phase) (n : Text) (b : Batch) → (in_phase to n b).order ≡ b.order
unfolding in_phase
in_phase-order to n b = elim (same b.order.batch n) as (λ c. (if c then record b { phase = to } else b).order ≡ b.order) [ true ↦ refl | false ↦ refl ]

pub in_phase-names : (to : Phase) (n : Text) → KeepsNames (in_phase to n)
in_phase-names to n = record { name = λ b. ap (λ (o : OrderRow). o.batch) (in_phase-order to n b); gtin = λ b. ap (λ (o : OrderRow). o.gtin) (in_phase-order to n b) }

in_phase-planned : (to : Phase) (n : Text) → (to ≡ Planned → ⊥) → (b : Batch) → (in_phase to n b).phase ≡ Planned → b.phase ≡ Planned
unfolding in_phase
in_phase-planned to n other b =
    elim (same b.order.batch n) as (λ c. (if c then record b { phase = to } else b).phase ≡ Planned → b.phase ≡ Planned) [ true ↦ λ e. absurd (other e) | false ↦ λ e. e ]

pub sound_phase : (site : Setup) (w : World) (to : Phase) (n : Text) → (to ≡ Planned → ⊥) → IsSound site w → IsSound site (with_phase w to n)
unfolding with_phase
sound_phase site w to n other s = sound_batches site w (in_phase to n) (in_phase-names to n) (in_phase-planned to n other) s

pub of_quantity-names : (q : ℕ) (n : Text) → KeepsNames (of_quantity q n)
unfolding of_quantity
of_quantity-names q n =
    let named : (b : Batch) (c : Bool) → same b.order.batch n ≡ c → (of_quantity q n b).order.batch ≡ b.order.batch = λ b c. elim c as (λ c. same b.order.batch n ≡ c → (of_quantity q n b).order.batch ≡ b.order.batch) [ true ↦ λ e. rw e refl | false ↦ λ e. rw e refl ] in
    let made : (b : Batch) (c : Bool) → same b.order.batch n ≡ c → (of_quantity q n b).order.gtin ≡ b.order.gtin = λ b c. elim c as (λ c. same b.order.batch n ≡ c → (of_quantity q n b).order.gtin ≡ b.order.gtin) [ true ↦ λ e. rw e refl | false ↦ λ e. rw e refl ] in
    record { name = λ b. named b (same b.order.batch n) refl; gtin = λ b. made b (same b.order.batch n) refl }

of_quantity-phase : (q : ℕ) (n : Text) (b : Batch) → (of_quantity q n b).phase ≡ b.phase
unfolding of_quantity
of_quantity-phase q n b =
    (elim (same b.order.batch n) as (λ c. same b.order.batch n ≡ c → (of_quantity q n b).phase ≡ b.phase) [ true ↦ λ e. rw e refl | false ↦ λ e. rw e refl ]) refl

pub sound_quantity : (site : Setup) (w : World) (q : ℕ) (n : Text) → IsSound site w → IsSound site (with_quantity w q n)
unfolding with_quantity
sound_quantity site w q n s = sound_batches site w (of_quantity q n) (of_quantity-names q n) (λ b e. sym (of_quantity-phase q n b) ∙ e) s

pub sound_declaration : (site : Setup) (w : World) (said : Declaration) → IsSound site w → IsSound site (with_declaration w said)
unfolding with_declaration batch_of row_of unit_of inside rows_in units_in HasBatch IsUntouched
sound_declaration site w said s =
    let w' : World = with_declaration w said in
    record {
      batches_differ = s.batches_differ;
      rows_differ = s.rows_differ;
      of_a_batch = s.of_a_batch;
      units_of_a_batch = s.units_of_a_batch;
      issued = s.issued;
      fresh = s.fresh;
      one_parent = s.one_parent;
      packed = stand_still w w' (λ g n. refl) (λ n. refl) w.pairs s.packed;
      sealed = s.sealed;
      planned = s.planned;
      in_range = s.in_range;
      few_serials = s.few_serials;
      few_units = s.few_units;
      few_batches = s.few_batches;
    }

-- orders that come

pub some_more : {A : Type 0} (test : A → Bool) (xs ys : List A) → is_some (find test xs) ≡ true → is_some (find test (xs ++ ys)) ≡ true
some_more {A} test xs ys h =
    (elim (find test xs) as (λ o. find test xs ≡ o → is_some o ≡ true → is_some (find test (xs ++ ys)) ≡ true) [
      | None ↦ λ e t. absurd (true≢false (sym t))
      | Some x ↦ λ e t. ap is_some (find-more test xs ys x e)
    ]) refl h

order_names : List OrderRow → List Text
order_names rows = map (λ (r : OrderRow). r.batch) rows

like-flip : (k : Text) (ks : List Text) → list_any (λ (x : Text). same x k) ks ≡ list_any (same k) ks
like-flip k [] = refl
like-flip k (x ∷ ks) = ap (λ b. b || list_any (λ (x : Text). same x k) ks) (same_equiv.symm x k) ∙ ap (λ b. same k x || b) (like-flip k ks)

any-map : (rows : List OrderRow) (k : Text) → list_any (λ (r : OrderRow). same r.batch k) rows ≡ list_any (λ (x : Text). same x k) (map (λ (r : OrderRow). r.batch) rows)
any-map [] k = refl
any-map (r ∷ rows) k = ap (λ b. same r.batch k || b) (any-map rows k)

new_differ : (orders rows : List OrderRow) → IsDistinct same (map (λ (r : OrderRow). r.batch) orders) → IsDistinct same (map (λ (r : OrderRow). r.batch) (orders ++ new_orders orders rows))
unfolding new_orders is_ordered
new_differ orders [] d = subst (λ (os : List OrderRow). IsDistinct same (map (λ (r : OrderRow). r.batch) os)) (sym (append-nil orders)) d
new_differ orders (row ∷ rows) d =
    (elim (list_any (λ (o : OrderRow). same o.batch row.batch) orders) as (λ b. list_any (λ (o : OrderRow). same o.batch row.batch) orders ≡ b →
    IsDistinct same (map (λ (r : OrderRow). r.batch) (orders ++ (if b then new_orders orders rows else row ∷ new_orders (orders ++ row ∷ []) rows)))) [
      | true ↦ λ e. new_differ orders rows d
      | false ↦ λ e.
          let pushed : IsDistinct same (map (λ (r : OrderRow). r.batch) orders ++ row.batch ∷ []) =
          IsDistinct-push same_equiv (map (λ (r : OrderRow). r.batch) orders) row.batch d (sym (like-flip row.batch (map (λ (r : OrderRow). r.batch) orders)) ∙ sym (any-map orders row.batch) ∙ e) in
          let both : IsDistinct same (map (λ (r : OrderRow). r.batch) (orders ++ row ∷ [])) = subst (IsDistinct same) (sym (map-append (λ (r : OrderRow). r.batch) orders (row ∷ []))) pushed in
          subst (λ (os : List OrderRow). IsDistinct same (map (λ (r : OrderRow). r.batch) os)) (append_assoc orders (row ∷ []) (new_orders (orders ++ row ∷ []) rows)) (new_differ (orders ++ row ∷ []) rows both)
    ]) refl

any-front : (orders : List OrderRow) (row : OrderRow) (n : Text) → list_any (λ (o : OrderRow). same o.batch n) (orders ++ row ∷ []) ≡ false → list_any (λ (o : OrderRow). same o.batch n) orders ≡ false
any-front [] row n e = refl
any-front (o ∷ orders) row n e =
    let p = or_parts (same o.batch n) (list_any (λ (x : OrderRow). same x.batch n) (orders ++ row ∷ [])) e in
    rw (p.0) (any-front orders row n p.1)

new_unordered : (orders rows : List OrderRow) → Every (λ (r : OrderRow). is_ordered orders r.batch ≡ false) (new_orders orders rows)
unfolding new_orders is_ordered
new_unordered orders [] = tt
new_unordered orders (row ∷ rows) =
    (elim (list_any (λ (o : OrderRow). same o.batch row.batch) orders) as (λ b. list_any (λ (o : OrderRow). same o.batch row.batch) orders ≡ b →
    Every (λ (r : OrderRow). list_any (λ (o : OrderRow). same o.batch r.batch) orders ≡ false) (if b then new_orders orders rows else row ∷ new_orders (orders ++ row ∷ []) rows)) [
      | true ↦ λ e. new_unordered orders rows
      | false ↦ λ e. (e, Every-weaker (λ (r : OrderRow). list_any (λ (o : OrderRow). same o.batch r.batch) (orders ++ row ∷ []) ≡ false) (λ (r : OrderRow). list_any (λ (o : OrderRow). same o.batch r.batch) orders ≡ false) (λ r h. any-front orders row r.batch h) (new_orders (orders ++ row ∷ []) rows) (new_unordered (orders ++ row ∷ []) rows))
    ]) refl

-- a batch that is found was ordered
found_ordered : (bs : List Batch) (n : Text) → is_some (find (λ (b : Batch). same b.order.batch n) bs) ≡ true → list_any (λ (o : OrderRow). same o.batch n) (map (λ (b : Batch). b.order) bs) ≡ true
found_ordered [] n e = e
found_ordered (b ∷ bs) n e =
    (elim (same b.order.batch n) as (λ t. is_some (cond t (Some b) (find (λ (b : Batch). same b.order.batch n) bs)) ≡ true → (t || list_any (λ (o : OrderRow). same o.batch n) (map (λ (b : Batch). b.order) bs)) ≡ true) [
      | true ↦ λ e. refl
      | false ↦ λ e. found_ordered bs n e
    ]) e

pub is_empty-filter : {A : Type 0} (test : A → Bool) (xs : List A) → Every (λ x. test x ≡ false) xs → is_empty (filter test xs) ≡ true
unfolding is_empty
is_empty-filter test [] a = refl
is_empty-filter {A} test (x ∷ xs) a = rw (a.0) (is_empty-filter test xs a.1)

-- nothing is of a batch that wasn't ordered
unordered : (w : World) (batch n : Text) → is_ordered (orders_in w) n ≡ false → is_some (batch_of w batch) ≡ true → same batch n ≡ false
unfolding is_ordered orders_in batch_of
unordered w batch n none some =
    false_from_ne_true (same batch n) (λ t. true≢false (sym (found_ordered w.batches n (subst (λ (b : Text). is_some (find (λ (x : Batch). same x.order.batch b) w.batches) ≡ true) (same-true batch n t) some)) ∙ none))

name-planned : (rows : List OrderRow) → map (λ (b : Batch). b.order.batch) (map planned rows) ≡ map (λ (r : OrderRow). r.batch) rows
name-planned [] = refl
name-planned (r ∷ rows) = ap (λ (ns : List Text). r.batch ∷ ns) (name-planned rows)

name-orders : (bs : List Batch) → map (λ (r : OrderRow). r.batch) (map (λ (b : Batch). b.order) bs) ≡ map (λ (b : Batch). b.order.batch) bs
name-orders [] = refl
name-orders (b ∷ bs) = ap (λ (ns : List Text). b.order.batch ∷ ns) (name-orders bs)

pub sound_orders : (site : Setup) (w : World) (rows : List OrderRow) → length w.batches + length (new_orders (orders_in w) rows) ≤ 4096 → IsSound site w → IsSound site (with_orders w rows)
unfolding with_orders batch_of row_of unit_of inside rows_in units_in HasBatch IsUntouched orders_in
sound_orders site w rows room s =
    let w' : World = with_orders w rows in
    let new : List OrderRow = new_orders (orders_in w) rows in
    let test : Text → Batch → Bool = λ n b. same b.order.batch n in
    let differ : IsDistinct same (map (λ (b : Batch). b.order.batch) (w.batches ++ map planned new)) =
    subst (IsDistinct same)
    (map-append (λ (r : OrderRow). r.batch) (orders_in w) new ∙ ap (λ (ns : List Text). ns ++ map (λ (r : OrderRow). r.batch) new) (name-orders w.batches)
    ∙ ap (λ (ns : List Text). map (λ (b : Batch). b.order.batch) w.batches ++ ns) (sym (name-planned new)) ∙ sym (map-append (λ (b : Batch). b.order.batch) w.batches (map planned new)))
    (new_differ (orders_in w) rows (subst (IsDistinct same) (sym (name-orders w.batches)) s.batches_differ)) in
    record {
      batches_differ = differ;
      rows_differ = s.rows_differ;
      of_a_batch = Every-weaker (HasBatch w) (HasBatch w') (λ row h. (h.0, find-more (test row.batch) w.batches (map planned new) h.0 h.1, h.2)) w.rows s.of_a_batch;
      units_of_a_batch = Every-weaker (λ (u : Container). is_some (find (test u.batch) w.batches) ≡ true) (λ (u : Container). is_some (find (test u.batch) (w.batches ++ map planned new)) ≡ true) (λ u h. some_more (test u.batch) w.batches (map planned new) h) w.units s.units_of_a_batch;
      issued = s.issued;
      fresh = s.fresh;
      one_parent = s.one_parent;
      packed = stand_still w w' (λ g n. refl) (λ n. refl) w.pairs s.packed;
      sealed = s.sealed;
      planned = Every-append (IsUntouched w') w.batches (map planned new) s.planned (Every-map (IsUntouched w') planned new (Every-weaker (λ (r : OrderRow). is_ordered (orders_in w) r.batch ≡ false) (λ (r : OrderRow). IsUntouched w' (planned r)) (λ r none _. (
        Every-passed (λ (row : Row). is_fresh row.state ≡ true) (λ (row : Row). same row.batch r.batch) w.rows (Every-weaker (HasBatch w) (λ (row : Row). same row.batch r.batch ≡ true → is_fresh row.state ≡ true) (λ row h t. absurd (true≢false (sym t ∙ unordered w row.batch r.batch none (ap is_some h.1)))) w.rows s.of_a_batch),
        is_empty-filter (λ (unit : Container). same unit.batch r.batch) w.units (Every-weaker (λ (u : Container). is_some (find (test u.batch) w.batches) ≡ true) (λ (u : Container). same u.batch r.batch ≡ false) (λ u h. unordered w u.batch r.batch none h) w.units s.units_of_a_batch),
      )) new (new_unordered (orders_in w) rows)));
      in_range = s.in_range;
      few_serials = s.few_serials;
      few_units = s.few_units;
      few_batches = subst (λ n. n ≤ 4096) (sym (length-append w.batches (map planned new) ∙ ap (λ n. length w.batches + n) (length-map new planned))) room;
    }
