-- What is seen of a batch by name, by what its stores have by number.
use Rattle.std.proofs.Common.{◌≡◌, ℕ, suc, ◌+◌, ◌<◌, ◌&&◌, ◌||◌, Bool, true, false, eqb, cond, List, [], ◌∷◌, length, map, Some, refl, sym, ap, ◌∙◌, arith, All}
use Rattle.std.specs.Prelude.{filter, filter_map, count_by}
use Rattle.std.specs.List.{slice_get}
use Rattle.std.proofs.lemmas.List.{get_or-map}
use Rattle.std.proofs.lemmas.List.Sums.{length-filter}
use Rattle.deed_words.specs.Names.{Text, same}
use Rattle.deed_words.specs.Chain.{each_from, when}
use Rattle.deed_words.specs.World.{rows_in, units_in}
use Rattle.deed_words.specs.Setups.{Setup}
use Rattle.deed_words.specs.Moves.{is_lent, is_active}
use Rattle.deed_words.specs.Accounts.{is_case, how_many}
use Rattle.deed_words.specs.Counts.{is_unused, is_sampled, counts_as_rejected, is_gone}
use Rattle.deed_words.specs.declared.words.Level.{Level}
use Rattle.deed_words.specs.declared.words.Level.TheVariants.{Case, Pallet}
use Rattle.deed_words.specs.declared.words.State.{State}
use Rattle.deed_words.specs.declared.words.State.TheVariants.{Fresh, Lent, Returned, Spoiled, Active, Sampled, Rejected, Gone}
use Rattle.deed_words.specs.declared.world.Batch.{Batch}
use Rattle.deed_words.specs.declared.world.Row.{Row}
use Rattle.deed_words.specs.declared.world.Container.{Container}
use Rattle.item_store.specs.Rows.{state_code, is_of, is_in, count_in, counts_of}
use Rattle.pack_tree.specs.declared.node.UnitRow.{UnitRow}
use Rattle.batch_book.specs.Batches.{name_in, AreApart, IsNamed}
use Rattle.batch_book.specs.Content.{Content, name_at, row_in, unit_in, world_in}
use Rattle.batch_book.proofs.Lists.{get_or_got}
use Rattle.batch_book.proofs.Bridge.{own_name}
use Rattle.batch_book.proofs.Reckoned.{has_line_is, line_numbers_is}
use Rattle.batch_report.specs.declared.view.BatchView.{BatchView}
use Rattle.batch_report.specs.Views.{counts_in, is_used, is_pallet, units_used, lines_of, view_in}
use Rattle.site_views.specs.Own.{is_in_use, is_own, row_of_line}

-- as many of a list that is filtered and mapped
module _ {A B : Type 0} (f : A → B) (own test : B → Bool) (number : A → Bool) (agree : (x : A) → (own (f x) && test (f x)) ≡ number x) where
  pub filtered : (xs : List A) → length (filter test (filter own (map f xs))) ≡ length (filter number xs)
  filtered [] = refl
  filtered (x ∷ xs) =
      let rest : List B = filter own (map f xs) in
      step (f x) rest (own (f x)) ∙ ap (λ (b : Bool). length (cond b (f x ∷ filter test rest) (filter test rest))) (agree x) ∙ either (f x) (filter test rest) x (filter number xs) (filtered xs) (number x)
    where
      step : (y : B) (ys : List B) (a : Bool) → length (filter test (cond a (y ∷ ys) ys)) ≡ length (cond (a && test y) (y ∷ filter test ys) (filter test ys))
      step y ys true = refl
      step y ys false = refl

      either : (y : B) (ys : List B) (z : A) (zs : List A) → length ys ≡ length zs → (b : Bool) → length (cond b (y ∷ ys) ys) ≡ length (cond b (z ∷ zs) zs)
      either y ys z zs e true = ap suc e
      either y ys z zs e false = e

and_true : (a : Bool) → (a && true) ≡ a
and_true true = refl
and_true false = refl

all_pass : {A : Type 0} (xs : List A) → length xs ≡ length (filter (λ x. true) xs)
all_pass [] = refl
all_pass (x ∷ xs) = ap suc (all_pass xs)

-- two tests of which no state meets both
both : {A : Type 0} (one other : A → Bool) (whole : A → Bool) → ((x : A) → cond (whole x) 1 0 ≡ cond (one x) 1 0 + cond (other x) 1 0) → (xs : List A) → length (filter whole xs) ≡ length (filter one xs) + length (filter other xs)
both one other whole agree [] = refl
both {A} one other whole agree (x ∷ xs) =
    let w = count whole x xs in
    let a = count one x xs in
    let b = count other x xs in
    omega (arith, w, a, b, agree x, both one other whole agree xs)
  where
    count : (test : A → Bool) (x : A) (xs : List A) → length (filter test (x ∷ xs)) ≡ length (filter test xs) + cond (test x) 1 0
    count test x xs = by (test x)
      where
        by : (b : Bool) → length (cond b (x ∷ filter test xs) (filter test xs)) ≡ length (filter test xs) + cond b 1 0
        by true = omega arith
        by false = omega arith

lent_code : (state : State) → is_lent state ≡ eqb (state_code state) (state_code Lent)
unfolding is_lent
lent_code Fresh = refl
lent_code Lent = refl
lent_code Returned = refl
lent_code Spoiled = refl
lent_code Active = refl
lent_code Sampled = refl
lent_code Rejected = refl
lent_code Gone = refl

active_code : (state : State) → is_active state ≡ eqb (state_code state) (state_code Active)
unfolding is_active
active_code Fresh = refl
active_code Lent = refl
active_code Returned = refl
active_code Spoiled = refl
active_code Active = refl
active_code Sampled = refl
active_code Rejected = refl
active_code Gone = refl

sampled_code : (state : State) → is_sampled state ≡ eqb (state_code state) (state_code Sampled)
unfolding is_sampled
sampled_code Fresh = refl
sampled_code Lent = refl
sampled_code Returned = refl
sampled_code Spoiled = refl
sampled_code Active = refl
sampled_code Sampled = refl
sampled_code Rejected = refl
sampled_code Gone = refl

gone_code : (state : State) → is_gone state ≡ eqb (state_code state) (state_code Gone)
unfolding is_gone
gone_code Fresh = refl
gone_code Lent = refl
gone_code Returned = refl
gone_code Spoiled = refl
gone_code Active = refl
gone_code Sampled = refl
gone_code Rejected = refl
gone_code Gone = refl

-- one of two states
abbrev one_of : State → State → State → Bool
one_of first second state = eqb (state_code state) (state_code first) || eqb (state_code state) (state_code second)

unused_code : (state : State) → is_unused state ≡ one_of Fresh Returned state
unfolding is_unused
unused_code Fresh = refl
unused_code Lent = refl
unused_code Returned = refl
unused_code Spoiled = refl
unused_code Active = refl
unused_code Sampled = refl
unused_code Rejected = refl
unused_code Gone = refl

rejected_code : (state : State) → counts_as_rejected state ≡ one_of Rejected Spoiled state
unfolding counts_as_rejected
rejected_code Fresh = refl
rejected_code Lent = refl
rejected_code Returned = refl
rejected_code Spoiled = refl
rejected_code Active = refl
rejected_code Sampled = refl
rejected_code Rejected = refl
rejected_code Gone = refl

unused_one : (own : Bool) (state : State) → cond (own && one_of Fresh Returned state) 1 0 ≡ cond (own && eqb (state_code state) (state_code Fresh)) 1 0 + cond (own && eqb (state_code state) (state_code Returned)) 1 0
unused_one false state = refl
unused_one true Fresh = refl
unused_one true Lent = refl
unused_one true Returned = refl
unused_one true Spoiled = refl
unused_one true Active = refl
unused_one true Sampled = refl
unused_one true Rejected = refl
unused_one true Gone = refl

rejected_one : (own : Bool) (state : State) → cond (own && one_of Rejected Spoiled state) 1 0 ≡ cond (own && eqb (state_code state) (state_code Rejected)) 1 0 + cond (own && eqb (state_code state) (state_code Spoiled)) 1 0
rejected_one false state = refl
rejected_one true Fresh = refl
rejected_one true Lent = refl
rejected_one true Returned = refl
rejected_one true Spoiled = refl
rejected_one true Active = refl
rejected_one true Sampled = refl
rejected_one true Rejected = refl
rejected_one true Gone = refl

module _ (c : Content) (apart : AreApart c.batches) (named : All IsNamed c.batches) (batch : ℕ) (within : batch < length c.batches) where
  abbrev names : List Text
  names = map name_in c.batches

  abbrev name : Text
  name = name_at c.batches batch

  mine : (k : ℕ) → same (name_at c.batches k) name ≡ eqb k batch
  mine k = own_name c.batches apart named batch within k

  -- ---- rows
  many : (test own : State → Bool) → ((state : State) → test state ≡ own state) → how_many test (rows_in (world_in c) name) ≡ length (filter (λ row. is_of batch row && own row.state) c.rows)
  unfolding how_many rows_in
  many test own agree =
      filtered (row_in names) (λ (row : Row). same row.batch name) (λ (row : Row). test row.state) (λ row. is_of batch row && own row.state) (λ row z. mine row.batch z && agree row.state z) c.rows

  -- those in one state
  in_one : (test : State → Bool) (state : State) → ((other : State) → test other ≡ eqb (state_code other) (state_code state)) → how_many test (rows_in (world_in c) name) ≡ count_in batch state c.rows
  in_one test state agree = many test (λ other. eqb (state_code other) (state_code state)) agree ∙ length-filter (is_in batch state) c.rows

  -- those in one of two states
  in_two : (test : State → Bool) (first second : State) → ((state : State) → test state ≡ one_of first second state)
      → ((own : Bool) (state : State) → cond (own && one_of first second state) 1 0 ≡ cond (own && eqb (state_code state) (state_code first)) 1 0 + cond (own && eqb (state_code state) (state_code second)) 1 0)
      → how_many test (rows_in (world_in c) name) ≡ count_in batch first c.rows + count_in batch second c.rows
  in_two test first second agree apart_ =
      many test (one_of first second) agree
      ∙ both (is_in batch first) (is_in batch second) (λ row. is_of batch row && one_of first second row.state) (λ row. apart_ (is_of batch row) row.state) c.rows
      ∙ (λ z. length-filter (is_in batch first) c.rows z + length-filter (is_in batch second) c.rows z)

  drawn_is : length (rows_in (world_in c) name) ≡ count_by (is_of batch) c.rows
  unfolding rows_in
  drawn_is =
      all_pass (rows_in (world_in c) name)
      ∙ filtered (row_in names) (λ (row : Row). same row.batch name) (λ (row : Row). true) (is_of batch) (λ row. and_true (same (row_in names row).batch name) ∙ mine row.batch) c.rows
      ∙ length-filter (is_of batch) c.rows

  pub counts_is : counts_in (world_in c) name ≡ counts_of batch c.rows
  unfolding counts_in
  counts_is = λ z. record {
    drawn = drawn_is z;
    unused = in_two is_unused Fresh Returned unused_code unused_one z;
    lent = in_one is_lent Lent lent_code z;
    commissioned = in_one is_active Active active_code z;
    sampled = in_one is_sampled Sampled sampled_code z;
    rejected = in_two counts_as_rejected Rejected Spoiled rejected_code rejected_one z;
    destroyed = in_one is_gone Gone gone_code z;
  }

  -- ---- units
  used : (test : Level → Bool) (level : Level) → ((unit : UnitRow) → is_used test (unit_in names unit) ≡ is_in_use level unit) → units_used (world_in c) name test ≡ length (filter (is_own batch level) c.units)
  unfolding units_used units_in
  used test level agree =
      filtered (unit_in names) (λ (unit : Container). same unit.batch name) (is_used test) (is_own batch level) (λ unit z. mine unit.batch z && agree unit z) c.units

  pub cases_is : units_used (world_in c) name is_case ≡ length (filter (is_own batch Case) c.units)
  unfolding is_used is_in_use
  cases_is = used is_case Case (λ unit. refl)

  pub pallets_is : units_used (world_in c) name is_pallet ≡ length (filter (is_own batch Pallet) c.units)
  unfolding is_used is_in_use
  pallets_is = used is_pallet Pallet (λ unit. refl)

  -- ---- lines
  pub lines_is : (site : Setup) → lines_of site (world_in c) name ≡ filter_map (λ row. row) (each_from 0 (λ line station. row_of_line batch c.rows line station.name) site.stations)
  unfolding lines_of row_of_line
  lines_is site = λ z.
      filter_map (λ row. row)
      (each_from 0 (λ line station. when (has_line_is c apart named batch within line z) (record { name = station.name; numbers = line_numbers_is c apart named batch within line z })) site.stations)

  -- ---- all of it
  pub view_is : (site : Setup) (events : ℕ) (kept : Batch) (view : BatchView) → slice_get c.batches batch ≡ Some kept
      → view.row ≡ kept.order → view.quantity ≡ kept.quantity → view.phase ≡ kept.phase → view.counts ≡ counts_of batch c.rows
      → view.cases ≡ length (filter (is_own batch Case) c.units) → view.pallets ≡ length (filter (is_own batch Pallet) c.units) → view.events ≡ events
      → view.lines ≡ filter_map (λ row. row) (each_from 0 (λ line station. row_of_line batch c.rows line station.name) site.stations)
      → view ≡ view_in site (world_in c) events kept
  unfolding view_in
  view_is site events kept view there row quantity phase counts cases pallets told lines =
      let called : name ≡ kept.order.batch = get_or-map name_in c.batches batch kept [] within ∙ ap name_in (get_or_got c.batches batch kept kept there) in
      λ z. record {
        row = row z;
        quantity = quantity z;
        phase = phase z;
        counts = (counts ∙ sym counts_is ∙ ap (counts_in (world_in c)) called) z;
        cases = (cases ∙ sym cases_is ∙ ap (λ (t : Text). units_used (world_in c) t is_case) called) z;
        pallets = (pallets ∙ sym pallets_is ∙ ap (λ (t : Text). units_used (world_in c) t is_pallet) called) z;
        events = told z;
        lines = (lines ∙ sym (lines_is site) ∙ ap (lines_of site (world_in c)) called) z;
      }
