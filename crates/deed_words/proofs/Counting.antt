-- The counts of a batch or a GTIN sum to what was drawn for it.
use Rattle.std.proofs.Common.{◌≡◌, ℕ, suc, ◌+◌, Bool, true, false, cond, List, [], ◌∷◌, ◌++◌, length, map, sym, ◌∙◌, ap, refl, arith, Option, None, Some, add-zero, length-append, add_assoc}
use Rattle.std.specs.Prelude.{if◌then◌else◌, filter, sum_by}
use Rattle.std.proofs.lemmas.List.Sums.{sum_by-cons}
use Rattle.std.proofs.lemmas.List.Elements.{filter-append}
use Rattle.deed_words.specs.Names.{Text, same, is_among}
use Rattle.epc_urn.specs.declared.epc.Epc.{Epc}
use Rattle.deed_words.specs.Setups.{Setup}
use Rattle.deed_words.specs.declared.entry.Entry.{Entry}
use Rattle.deed_words.specs.declared.rule.Rule.{Rule}
use Rattle.deed_words.specs.declared.deed.Deed.{Deed}
use Rattle.deed_words.specs.declared.deed.Deed.TheVariants.{Order, Orders, Start, Draw, Lend, Container as MakeUnit, Pack, Unpack, UnpackAll, Seal, Unseal, Void, Declare, Close, Amend}
use Rattle.deed_words.specs.declared.words.State.{State}
use Rattle.deed_words.specs.declared.words.State.TheVariants as state
use Rattle.deed_words.specs.Moves.{is_lent, is_active}
use Rattle.deed_words.specs.declared.world.Row.{Row}
use Rattle.deed_words.specs.World.{World, rows_in, nothing_yet, name_of}
use Rattle.deed_words.specs.Deeds.{named}
use Rattle.deed_words.specs.Accounts.{how_many}
use Rattle.deed_words.specs.Tests.{rows_of_gtin}
use Rattle.deed_words.specs.Effects.{effect, with_rows, rewrite, with_drawn, fresh_row, gtin_of, lent_to, moved_row, with_orders, with_phase, with_quantity, with_unit, with_mark, with_children, without_children, emptied, with_declaration, lent_rows}
use Rattle.deed_words.specs.Replies.{after, unless_broken}
use Rattle.deed_words.specs.Rules.{broken}
use Rattle.deed_words.specs.Walk.{Step, steps_from}
use Rattle.deed_words.specs.History.{world_from, world_of, AllFollow, IsLawful, MayDraw}
use Rattle.deed_words.specs.Counts.{total, counts_of, counts_of_gtin, counts_over, is_unused, is_sampled, counts_as_rejected, is_gone, draws_for, drawn_of, draws_of, drawn_of_gtin, drawn_of_gtin_from}

add-zero-left : (n : ℕ) → 0 + n ≡ n
add-zero-left n = omega arith

-- each row is counted once
pub total_over : (rows : List Row) → total (counts_over rows) ≡ length rows
unfolding counts_over how_many is_unused is_lent is_active is_sampled counts_as_rejected is_gone
total_over [] = refl
total_over (row ∷ rows) =
    let rest = total_over rows in
    let P : State → Type 0 = λ s.
    length (filter (λ (r : Row). is_unused r.state) (record row { state = s } ∷ rows)) + length (filter (λ (r : Row). is_lent r.state) (record row { state = s } ∷ rows))
    + length (filter (λ (r : Row). is_active r.state) (record row { state = s } ∷ rows)) + length (filter (λ (r : Row). is_sampled r.state) (record row { state = s } ∷ rows))
    + length (filter (λ (r : Row). counts_as_rejected r.state) (record row { state = s } ∷ rows)) + length (filter (λ (r : Row). is_gone r.state) (record row { state = s } ∷ rows))
    ≡ suc (length rows) in
    elim row.state as P [
      | state.Fresh ↦ omega arith
      | state.Lent ↦ omega arith
      | state.Returned ↦ omega arith
      | state.Spoiled ↦ omega arith
      | state.Active ↦ omega arith
      | state.Sampled ↦ omega arith
      | state.Rejected ↦ omega arith
      | state.Gone ↦ omega arith
    ]

-- rows of a batch stay in it where rows are rewritten
pub rewrite-batch : (change : Row → Row) → ((row : Row) → (change row).batch ≡ row.batch) → (names : List Epc) (row : Row) → (rewrite change names row).batch ≡ row.batch
unfolding rewrite
rewrite-batch change keeps names row =
    elim (is_among names (name_of row)) as (λ b. (if b then change row else row).batch ≡ row.batch) [ true ↦ keeps row | false ↦ refl ]

-- a test over rows that looks at nothing but GTIN and batch
record IsOfOrigin (test : Row → Bool) : Type 0 where
  pub lent : (station : ℕ) (row : Row) → test (lent_to station row) ≡ test row
  pub moved : (deed : Deed) (row : Row) → test (moved_row deed row) ≡ test row
  pub drawn : (gtin name serial : Text) → test (fresh_row gtin name serial) ≡ test (fresh_row gtin name [])

of_batch : (name : Text) → IsOfOrigin (λ row. same row.batch name)
unfolding moved_row fresh_row
of_batch name = record { lent = λ station row. refl; moved = λ deed row. refl; drawn = λ gtin batch serial. refl }

of_gtin : (gtin : Text) → IsOfOrigin (λ row. same row.gtin gtin)
unfolding moved_row fresh_row
of_gtin gtin = record { lent = λ station row. refl; moved = λ deed row. refl; drawn = λ other batch serial. refl }

-- the deed draws rows that meet the test
abbrev draws : (Row → Bool) → World → Deed → Bool
draws test w (Draw name count) = test (fresh_row (gtin_of w name) name [])
draws test w deed = false

rewritten : (test : Row → Bool) (change : Row → Row) → ((row : Row) → test (change row) ≡ test row) → (names : List Epc) (row : Row) → test (rewrite change names row) ≡ test row
unfolding rewrite
rewritten test change keeps names row =
    elim (is_among names (name_of row)) as (λ b. test (if b then change row else row) ≡ test row) [ true ↦ keeps row | false ↦ refl ]

-- a map that keeps a test keeps how many meet it
pub length-filter-map : {A : Type 0} (test : A → Bool) (f : A → A) → ((x : A) → test (f x) ≡ test x) → (xs : List A) → length (filter test (map f xs)) ≡ length (filter test xs)
length-filter-map test f keeps [] = refl
length-filter-map {A} test f keeps (x ∷ xs) =
    let rest = length-filter-map test f keeps xs in
    rw (keeps x) (elim (test x) as (λ b. length (cond b (f x ∷ filter test (map f xs)) (filter test (map f xs))) ≡ length (cond b (x ∷ filter test xs) (filter test xs))) [ true ↦ ap suc rest | false ↦ rest ])

with_rows-as_many : (test : Row → Bool) (w : World) (change : Row → Row) → ((row : Row) → test (change row) ≡ test row) → (names : List Epc)
    → length (filter test (with_rows w change names).rows) ≡ length (filter test w.rows) + 0
unfolding with_rows
with_rows-as_many test w change keeps names = length-filter-map test (rewrite change names) (rewritten test change keeps names) w.rows ∙ sym (add-zero _)

-- of the drawn rows all meet the test, or none
drawn-meet : (test : Row → Bool) → IsOfOrigin test → (gtin name : Text) (serials : List Text)
    → length (filter test (map (fresh_row gtin name) serials)) ≡ (if test (fresh_row gtin name []) then length serials else 0)
drawn-meet test is gtin name [] = elim (test (fresh_row gtin name [])) as (λ b. length {A = Row} [] ≡ (if b then 0 else 0)) [ true ↦ refl | false ↦ refl ]
drawn-meet test is gtin name (s ∷ serials) =
    let rest = drawn-meet test is gtin name serials in
    let more : List Row = filter test (map (fresh_row gtin name) serials) in
    rw (is.drawn gtin name s)
    ((elim (test (fresh_row gtin name [])) as (λ b. length more ≡ (if b then length serials else 0) → length (cond b (fresh_row gtin name s ∷ more) more) ≡ (if b then suc (length serials) else 0)) [ true ↦ λ e. ap suc e | false ↦ λ e. e ]) rest)

with_drawn-more : (test : Row → Bool) → IsOfOrigin test → (w : World) (name : Text) (serials : List Text)
    → length (filter test (with_drawn w name serials).rows) ≡ length (filter test w.rows) + (if test (fresh_row (gtin_of w name) name []) then length serials else 0)
unfolding with_drawn
with_drawn-more test is w name serials =
    ap length (filter-append test w.rows (map (fresh_row (gtin_of w name) name) serials))
    ∙ length-append (filter test w.rows) _
    ∙ ap (λ n. length (filter test w.rows) + n) (drawn-meet test is (gtin_of w name) name serials)

-- how many more rows meet the test after the deed
more_rows : (test : Row → Bool) → IsOfOrigin test → (site : Setup) (w : World) (station : ℕ) (deed : Deed) (drawn : List Text)
    → length (filter test (effect site w station deed drawn).rows) ≡ length (filter test w.rows) + (if draws test w deed then length drawn else 0)
unfolding effect with_orders with_phase with_quantity with_unit with_mark with_children without_children emptied with_declaration
more_rows test is site w station (Draw name count) drawn = with_drawn-more test is w name drawn
more_rows test is site w station (Lend name count) drawn = with_rows-as_many test w (lent_to station) (is.lent station) (map name_of (lent_rows w name count))
more_rows test is site w station (Order row) drawn = sym (add-zero _)
more_rows test is site w station (Orders rows) drawn = sym (add-zero _)
more_rows test is site w station (Start name) drawn = sym (add-zero _)
more_rows test is site w station (MakeUnit name level) drawn = sym (add-zero _)
more_rows test is site w station (Pack unit children) drawn = sym (add-zero _)
more_rows test is site w station (Unpack unit children) drawn = sym (add-zero _)
more_rows test is site w station (UnpackAll unit) drawn = sym (add-zero _)
more_rows test is site w station (Seal unit) drawn = sym (add-zero _)
more_rows test is site w station (Unseal unit) drawn = sym (add-zero _)
more_rows test is site w station (Void unit) drawn = sym (add-zero _)
more_rows test is site w station (Declare name good spoiled returned) drawn = sym (add-zero _)
more_rows test is site w station (Close name) drawn = sym (add-zero _)
more_rows test is site w station (Amend name quantity) drawn = sym (add-zero _)
more_rows test is site w station deed drawn = with_rows-as_many test w (moved_row deed) (is.moved deed) (named w deed)

draws_none : (site : Setup) (w : World) (rule : Rule) (deed : Deed) (drawn : List Text) → MayDraw site w (Some rule) deed drawn → drawn ≡ []
unfolding MayDraw
draws_none site w rule deed drawn may = may

-- a refused entry draws nothing
refused_draws_nothing : (b : Bool) (drawn : List Text) → drawn ≡ [] → (if b then length drawn else 0) ≡ 0
refused_draws_nothing b drawn e = rw e (elim b as (λ b. cond b (length {A = Text} []) 0 ≡ 0) [ true ↦ refl | false ↦ refl ])

more_rows_after : (test : Row → Bool) → IsOfOrigin test → (site : Setup) (w : World) (entry : Entry) (rule : Option Rule) → MayDraw site w rule entry.deed entry.drawn
    → length (filter test (unless_broken site w entry rule).rows) ≡ length (filter test w.rows) + (if draws test w entry.deed then length entry.drawn else 0)
unfolding unless_broken
more_rows_after test is site w entry None may = more_rows test is site w entry.station entry.deed entry.drawn
more_rows_after test is site w entry (Some rule) may =
    sym (add-zero _) ∙ ap (λ n. length (filter test w.rows) + n) (sym (refused_draws_nothing (draws test w entry.deed) entry.drawn (draws_none site w rule entry.deed entry.drawn may)))

-- how many rows that meet the test the entries draw
abbrev drawn_at : (Row → Bool) → Step → ℕ
drawn_at test step = if draws test step.before step.entry.deed then length step.entry.drawn else 0

abbrev drawn_meeting : (Row → Bool) → Setup → World → List Entry → ℕ
drawn_meeting test site w entries = sum_by (drawn_at test) (steps_from site w entries)

rows_drawn : (test : Row → Bool) → IsOfOrigin test → (site : Setup) (history : List Entry) (w : World) (entries : List Entry) → AllFollow site history w entries
    → length (filter test (world_from site w entries).rows) ≡ length (filter test w.rows) + drawn_meeting test site w entries
unfolding world_from steps_from AllFollow after
rows_drawn test is site history w [] may = sym (add-zero _)
rows_drawn test is site history w (entry ∷ entries) may =
    rows_drawn test is site (history ++ entry ∷ []) (after site w entry) entries may.1
    ∙ ap (λ n. n + drawn_meeting test site (after site w entry) entries) (more_rows_after test is site w entry (broken site w entry.station entry.deed) may.0.drawn)
    ∙ add_assoc (length (filter test w.rows)) _ _
    ∙ ap (λ n. length (filter test w.rows) + n) (sym (sum_by-cons (drawn_at test) (record { before = w; entry = entry }) (steps_from site (after site w entry) entries)))

draws_for-same : (w : World) (name : Text) (deed : Deed) → draws (λ row. same row.batch name) w deed ≡ draws_for name deed
unfolding draws_for fresh_row
draws_for-same w name (Draw other count) = refl
draws_for-same w name deed = refl

draws_of-same : (w : World) (gtin : Text) (deed : Deed) → draws (λ row. same row.gtin gtin) w deed ≡ draws_of w gtin deed
unfolding draws_of fresh_row
draws_of-same w gtin (Draw other count) = refl
draws_of-same w gtin deed = refl

drawn_of-same : (site : Setup) (w : World) (entries : List Entry) (name : Text) → drawn_meeting (λ row. same row.batch name) site w entries ≡ drawn_of entries name
unfolding drawn_of steps_from
drawn_of-same site w [] name = refl
drawn_of-same site w (entry ∷ entries) name =
    let test : Row → Bool = λ row. same row.batch name in
    sum_by-cons (drawn_at test) (record { before = w; entry = entry }) (steps_from site (after site w entry) entries)
    ∙ ap (λ b. (if b then length entry.drawn else 0) + drawn_meeting test site (after site w entry) entries) (draws_for-same w name entry.deed)
    ∙ ap (λ n. (if draws_for name entry.deed then length entry.drawn else 0) + n) (drawn_of-same site (after site w entry) entries name)
    ∙ sym (sum_by-cons (λ (e : Entry). if draws_for name e.deed then length e.drawn else 0) entry entries)

pub sum_alike : {A : Type 0} (f g : A → ℕ) → ((x : A) → f x ≡ g x) → (xs : List A) → sum_by f xs ≡ sum_by g xs
sum_alike f g e [] = refl
sum_alike f g e (x ∷ xs) = let here = e x in let rest = sum_alike f g e xs in omega (arith, sum_by-cons f x xs, sum_by-cons g x xs, here, rest)

drawn_of_gtin-same : (site : Setup) (w : World) (entries : List Entry) (gtin : Text) → drawn_meeting (λ row. same row.gtin gtin) site w entries ≡ drawn_of_gtin_from site w entries gtin
unfolding drawn_of_gtin_from
drawn_of_gtin-same site w entries gtin =
    sum_alike (drawn_at (λ row. same row.gtin gtin)) (λ (step : Step). if draws_of step.before gtin step.entry.deed then length step.entry.drawn else 0)
    (λ step. ap (λ b. if b then length step.entry.drawn else 0) (draws_of-same step.before gtin step.entry.deed)) (steps_from site w entries)

pub counts_sum_up : (site : Setup) (history : List Entry) (name : Text) → IsLawful site history → total (counts_of (world_of site history) name) ≡ drawn_of history name
unfolding world_of IsLawful counts_of rows_in
counts_sum_up site history name lawful =
    total_over (rows_in (world_of site history) name)
    ∙ rows_drawn (λ row. same row.batch name) (of_batch name) site [] nothing_yet history lawful
    ∙ add-zero-left _ ∙ drawn_of-same site nothing_yet history name

pub gtin_sums_up : (site : Setup) (history : List Entry) (gtin : Text) → IsLawful site history → total (counts_of_gtin (world_of site history) gtin) ≡ drawn_of_gtin site history gtin
unfolding world_of IsLawful counts_of_gtin rows_of_gtin
gtin_sums_up site history gtin lawful =
    total_over (rows_of_gtin (world_of site history) gtin)
    ∙ rows_drawn (λ row. same row.gtin gtin) (of_gtin gtin) site [] nothing_yet history lawful
    ∙ add-zero-left _ ∙ drawn_of_gtin-same site nothing_yet history gtin
