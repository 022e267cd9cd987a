-- How many rows of a batch are Fresh, and what is found of a batch, by its name.
use Rattle.std.proofs.Common.{◌≡◌, ◌<◌, ◌&&◌, ℕ, suc, Bool, true, false, eqb, cond, List, [], ◌∷◌, map, length, get_or, Option, Some, None, refl, sym, ap, ◌∙◌, arith, All}
use Rattle.std.specs.Prelude.{find, filter, option_map, is_none}
use Rattle.std.specs.List.{position, list_any}
use Rattle.std.proofs.lemmas.List.{get_or-map}
use Rattle.std.proofs.lemmas.List.Quantifiers.{position-Some}
use Rattle.std.proofs.lemmas.List.Sums.{length-filter}
use Rattle.deed_words.specs.Accounts.{stands_loose, differs, was_lent_to, has_line, has_pallets, declared_numbers, still_lent, still_rejected, unpacked, unit_open, unit_loose, not_declared, declared_differs, findings, finding}
use Rattle.deed_words.specs.Chain.{first, each, each_from, when}
use Rattle.deed_words.specs.Moves.{is_fresh, is_lent, is_active, is_rejected, is_filling}
use Rattle.deed_words.specs.Names.{Text, same}
use Rattle.deed_words.specs.Setups.{Setup}
use Rattle.deed_words.specs.Tests.{fresh_rows}
use Rattle.deed_words.specs.World.{World, rows_in, units_in, parent, name_of}
use Rattle.deed_words.specs.declared.rule.Finding.{Finding}
use Rattle.deed_words.specs.declared.rule.Finding.TheVariants.{StillLent, StillRejected, Unpacked, UnitOpen, UnitLoose, NotDeclared}
use Rattle.deed_words.specs.declared.setup.Station.{Station}
use Rattle.deed_words.specs.declared.words.State.{State}
use Rattle.deed_words.specs.declared.words.State.TheVariants.{Fresh, Lent, Returned, Spoiled, Active, Sampled, Rejected, Gone}
use Rattle.deed_words.specs.declared.world.Batch.{Batch}
use Rattle.deed_words.specs.declared.world.Container.{Container}
use Rattle.deed_words.specs.declared.world.Row.{Row}
use Rattle.deed_words.proofs.Sameness.{same-true}
use Rattle.item_store.specs.declared.row.ItemRow.{ItemRow}
use Rattle.item_store.specs.Rows.{state_code, is_in, count_in}
use Rattle.batch_book.specs.Batches.{is_called, name_in, planned, AreApart, IsNamed}
use Rattle.batch_book.specs.Content.{Content, world_in, row_in, unit_in, batch_names, name_at}
use Rattle.batch_book.proofs.Bridge.{own_name}
use Rattle.site_stores.proofs.Finding.{nowhere}
use Rattle.site_stores.proofs.Placing.{none_passes}

no_batch : Batch
no_batch = planned (record { batch = []; gtin = []; lot = []; expiry = []; quantity = 0; case_size = 0; pallet_size = 0 })

-- ---- a batch that is there
pub named_at : (c : Content) (name : Text) (at : ℕ) → position (is_called name) c.batches ≡ Some at → (at < length c.batches) × (name_at c.batches at ≡ name)
unfolding is_called
named_at c name at e =
    let p = position-Some (is_called name) c.batches at no_batch e in
    (p.0, get_or-map name_in c.batches at no_batch [] p.0 ∙ same-true (name_in (get_or c.batches at no_batch)) name p.1)

fresh_same : (state : State) → is_fresh state ≡ eqb (state_code state) (state_code Fresh)
unfolding is_fresh
fresh_same Fresh = refl
fresh_same Lent = refl
fresh_same Returned = refl
fresh_same Spoiled = refl
fresh_same Active = refl
fresh_same Sampled = refl
fresh_same Rejected = refl
fresh_same Gone = refl

counted_alike : {A B : Type 0} (f : A → B) (p : B → Bool) (q : A → Bool) → ((x : A) → p (f x) ≡ q x) → (xs : List A) → length (filter p (map f xs)) ≡ length (filter q xs)
counted_alike f p q h [] = refl
counted_alike {A} {B} f p q h (x ∷ xs) =
    ap (λ (b : Bool). length (cond b (f x ∷ filter p (map f xs)) (filter p (map f xs)))) (h x) ∙ cases (q x) (counted_alike f p q h xs)
  where
    cases : (b : Bool) → length (filter p (map f xs)) ≡ length (filter q xs) → length (cond b (f x ∷ filter p (map f xs)) (filter p (map f xs))) ≡ length (cond b (x ∷ filter q xs) (filter q xs))
    cases true ih = ap suc ih
    cases false ih = ih

pub fresh_there : (c : Content) (name : Text) (at : ℕ) → AreApart c.batches → All IsNamed c.batches → position (is_called name) c.batches ≡ Some at → count_in at Fresh c.rows ≡ length (fresh_rows (world_in c) name)
unfolding fresh_rows
fresh_there c name at apart named e =
    let n = named_at c name at e in
    let own = own_name c.batches apart named at n.0 in
    let same_row : (row : ItemRow) → (same (get_or (batch_names c) row.batch []) name && is_fresh row.state) ≡ is_in at Fresh row =
    λ row. ap (λ (t : Text). same (get_or (batch_names c) row.batch []) t && is_fresh row.state) (sym n.1) ∙ (λ z. own row.batch z && fresh_same row.state z) in
    sym (counted_alike (row_in (batch_names c)) (λ (row : Row). same row.batch name && is_fresh row.state) (is_in at Fresh) same_row c.rows ∙ length-filter (is_in at Fresh) c.rows)

-- ---- a batch that isn't
name_elsewhere : (c : Content) (name : Text) (at : ℕ) → position (is_called name) c.batches ≡ None → at < length c.batches → same (get_or (batch_names c) at []) name ≡ false
unfolding is_called
name_elsewhere c name at e l =
    ap (λ (n : Text). same n name) (get_or-map name_in c.batches at no_batch [] l)
    ∙ none_passes (is_called name) c.batches (nowhere (is_called name) c.batches e) at no_batch l

none_kept : {A B : Type 0} (f : A → B) (p : B → Bool) (xs : List A) → All (λ x. p (f x) ≡ false) xs → filter p (map f xs) ≡ []
none_kept f p [] a = refl
none_kept {A} {B} f p (x ∷ xs) a =
    ap (λ (b : Bool). cond b (f x ∷ filter p (map f xs)) (filter p (map f xs))) (a 0 x (omega arith)) ∙ none_kept f p xs (λ k d l. a (suc k) d (omega (arith, l)))

pub none_fresh : (c : Content) (name : Text) → All (λ row. row.batch < length c.batches) c.rows → position (is_called name) c.batches ≡ None → length (fresh_rows (world_in c) name) ≡ 0
unfolding fresh_rows
none_fresh c name there e =
    ap (λ (rs : List Row). length rs)
    (none_kept (row_in (batch_names c)) (λ (row : Row). same row.batch name && is_fresh row.state) c.rows
    (λ k d l. ap (λ (b : Bool). b && is_fresh (get_or c.rows k d).state) (name_elsewhere c name (get_or c.rows k d).batch e (there k d l))))

no_rows : (c : Content) (name : Text) → All (λ row. row.batch < length c.batches) c.rows → position (is_called name) c.batches ≡ None → rows_in (world_in c) name ≡ []
unfolding rows_in
no_rows c name there e = none_kept (row_in (batch_names c)) (λ (row : Row). same row.batch name) c.rows (λ k d l. name_elsewhere c name (get_or c.rows k d).batch e (there k d l))

no_units : (c : Content) (name : Text) → All (λ unit. unit.batch < length c.batches) c.units → position (is_called name) c.batches ≡ None → units_in (world_in c) name ≡ []
unfolding units_in
no_units c name there e = none_kept (unit_in (batch_names c)) (λ (unit : Container). same unit.batch name) c.units (λ k d l. name_elsewhere c name (get_or c.units k d).batch e (there k d l))

none_from : {A B : Type 0} (test : ℕ → A → Option B) → ((k : ℕ) (x : A) → test k x ≡ None) → (k : ℕ) (xs : List A) → first (each_from k test xs) ≡ None
unfolding first each_from
none_from test h k [] = refl
none_from {A} {B} test h k (x ∷ xs) = ap (λ (o : Option B). first (o ∷ each_from (suc k) test xs)) (h k x) ∙ none_from test h (suc k) xs

either : (b : Bool) (answer : Option Finding) → cond b answer answer ≡ answer
either true answer = refl
either false answer = refl

module _ (site : Setup) (w : World) (name : Text) (rows : rows_in w name ≡ []) (units : units_in w name ≡ []) where
  none_lent : still_lent w name ≡ None
  unfolding still_lent
  none_lent = ap (λ (rs : List Row). option_map (λ (row : Row). StillLent row.serial) (find (λ (row : Row). is_lent row.state) rs)) rows

  none_rejected : still_rejected w name ≡ None
  unfolding still_rejected
  none_rejected = ap (λ (rs : List Row). option_map (λ (row : Row). StillRejected row.serial) (find (λ (row : Row). is_rejected row.state) rs)) rows

  none_unpacked : unpacked w name ≡ None
  unfolding unpacked
  none_unpacked = ap (λ (rs : List Row). option_map (λ (row : Row). Unpacked row.serial) (find (λ (row : Row). is_active row.state && is_none (parent w (name_of row))) rs)) rows

  none_open : unit_open w name ≡ None
  unfolding unit_open
  none_open = ap (λ (us : List Container). option_map (λ (unit : Container). UnitOpen unit.sscc) (find (λ (unit : Container). is_filling unit.mark) us)) units

  none_loose : unit_loose w name ≡ None
  unfolding unit_loose
  none_loose =
      ap (λ (us : List Container). cond (has_pallets w name) (option_map (λ (unit : Container). UnitLoose unit.sscc) (find (stands_loose w) us)) None) units
      ∙ either (has_pallets w name) None

  no_line : (line : ℕ) → has_line w name line ≡ false
  unfolding has_line
  no_line line = ap (λ (rs : List Row). list_any (was_lent_to line) rs) rows

  none_silent : not_declared site w name ≡ None
  unfolding not_declared each when
  none_silent =
      none_from (λ (line : ℕ) (station : Station). when (has_line w name line && is_none (declared_numbers w name line)) (NotDeclared line))
      (λ line station. ap (λ (b : Bool). when (b && is_none (declared_numbers w name line)) (NotDeclared line)) (no_line line)) 0 site.stations

  none_differs : declared_differs site w name ≡ None
  unfolding declared_differs each
  none_differs =
      none_from (λ (line : ℕ) (station : Station). cond (has_line w name line) (differs w name line) None)
      (λ line station. ap (λ (b : Bool). cond b (differs w name line) None) (no_line line)) 0 site.stations

  pub none_found : finding site w name ≡ None
  unfolding finding findings first
  none_found = λ z. first (none_lent z ∷ none_rejected z ∷ none_unpacked z ∷ none_open z ∷ none_loose z ∷ none_silent z ∷ none_differs z ∷ [])

pub nothing_found : (c : Content) (site : Setup) (name : Text) → All (λ row. row.batch < length c.batches) c.rows → All (λ unit. unit.batch < length c.batches) c.units → position (is_called name) c.batches ≡ None
    → finding site (world_in c) name ≡ None
nothing_found c site name rows units e = none_found site (world_in c) name (no_rows c name rows e) (no_units c name units e)
