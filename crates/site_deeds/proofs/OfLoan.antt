-- Serials that are lent.
use Rattle.std.proofs.Common.{◌≡◌, ◌+◌, ◌<◌, ℕ, zero, suc, Bool, true, false, ◌&&◌, eqb, cond, List, [], ◌∷◌, ◌++◌, length, map, take, drop, get_or, Option, Some, None, All, refl, sym, ap, ◌∙◌, subst, arith, add-one}
use Rattle.std.specs.Prelude.{filter}
use Rattle.std.specs.List.{position, slice_get, IsDistinct, AllByRecursion as Every}
use Rattle.std.proofs.Math.Seq.{take-suc}
use Rattle.std.proofs.lemmas.List.{length-map, take-map}
use Rattle.std.proofs.lemmas.Map.Keys.{IsDistinct-head, IsDistinct-tail}
use Rattle.epc_urn.specs.declared.epc.Epc.{Epc}
use Rattle.deed_words.specs.Effects.{with_rows, lent_rows, lent_to}
use Rattle.deed_words.specs.Moves.{is_fresh}
use Rattle.deed_words.specs.Names.{Text, same, same_name}
use Rattle.deed_words.specs.Tests.{fresh_rows}
use Rattle.deed_words.specs.World.{name_of}
use Rattle.deed_words.specs.declared.reply.Answer.TheVariants.{Listed}
use Rattle.deed_words.specs.declared.words.State.{State}
use Rattle.deed_words.specs.declared.words.State.TheVariants as state
use Rattle.deed_words.specs.declared.world.Batch.{Batch}
use Rattle.deed_words.specs.declared.world.Row.{Row}
use Rattle.deed_words.proofs.Items.{IsDistinct-filtered}
use Rattle.deed_words.proofs.Sameness.{same_equiv}
use Rattle.item_store.specs.declared.row.ItemRow.{ItemRow}
use Rattle.item_store.specs.Rows.{item_name, fresh_row, is_in, state_code, places_of, fresh_places, IsLined}
use Rattle.batch_book.specs.Batches.{is_called, name_in}
use Rattle.batch_book.specs.Content.{Content, world_in, row_in, batch_names}
use Rattle.site_stores.specs.declared.change.Change.TheVariants.{Turned}
use Rattle.site_stores.specs.declared.change.Turn.{Turn}
use Rattle.site_stores.specs.Changes.{MayChange}
use Rattle.site_stores.specs.Holding.{Held, IsWhole}
use Rattle.site_stores.specs.Moving.{IsMove, AreMoves}
use Rattle.site_stores.proofs.Finding.{within, part_there, read_at}
use Rattle.site_stores.proofs.Moving.{moves_may, turned_world}
use Rattle.site_stores.proofs.Naming.{places_apart}
use Rattle.site_deeds.specs.declared.done.Done.{Done}
use Rattle.site_deeds.specs.Does.{Does}
use Rattle.site_deeds.specs.Placed.{IsLent, AreLent}
use Rattle.site_deeds.proofs.Shared.{name_called, nothing_needed, does_by}

pub no_item : ItemRow
no_item = fresh_row [] [] 0

abbrev pub row_at : List ItemRow → ℕ → ItemRow
row_at rows item = get_or rows item no_item

-- ---- the places of rows that pass, and the rows that pass

next_drop_suc : {A : Type 0} (xs : List A) (k : ℕ) (x : A) (rest : List A) → drop k xs ≡ x ∷ rest → drop (suc k) xs ≡ rest
next_drop_suc [] zero x rest e = absurd (cc)
next_drop_suc [] (suc k) x rest e = absurd (cc)
next_drop_suc (y ∷ xs) zero x rest e = cc
next_drop_suc (y ∷ xs) (suc k) x rest e = next_drop_suc xs k x rest e

next_drop : {A : Type 0} (xs : List A) (k : ℕ) (x : A) (rest : List A) → drop k xs ≡ x ∷ rest → drop (k + 1) xs ≡ rest
next_drop xs k x rest e = ap (λ (j : ℕ). drop j xs) (add-one k) ∙ next_drop_suc xs k x rest e

head_drop : {A : Type 0} (xs : List A) (k : ℕ) (x d : A) (rest : List A) → drop k xs ≡ x ∷ rest → (k < length xs) × (get_or xs k d ≡ x)
head_drop [] zero x d rest e = absurd (cc)
head_drop [] (suc k) x d rest e = absurd (cc)
head_drop (y ∷ xs) zero x d rest e = (omega arith, cc)
head_drop (y ∷ xs) (suc k) x d rest e = let p = head_drop xs k x d rest e in let l = p.0 in (omega (arith, l), p.1)

module _ (test : ItemRow → Bool) (whole : List ItemRow) where
  passing : (k : ℕ) (rows : List ItemRow) → drop k whole ≡ rows → map (row_at whole) (places_of test k rows) ≡ filter test rows
  passing k [] e = refl
  passing k (row ∷ rows) e = cases (test row) (passing (k + 1) rows (next_drop whole k row rows e))
    where
      cases : (b : Bool) → map (row_at whole) (places_of test (k + 1) rows) ≡ filter test rows → map (row_at whole) (cond b (k ∷ places_of test (k + 1) rows) (places_of test (k + 1) rows)) ≡ cond b (row ∷ filter test rows) (filter test rows)
      cases true ih = ap (λ (r : ItemRow). r ∷ map (row_at whole) (places_of test (k + 1) rows)) (head_drop whole k row no_item rows e).1 ∙ ap (λ (rs : List ItemRow). row ∷ rs) ih
      cases false ih = ih

  places_there : (k : ℕ) (rows : List ItemRow) → drop k whole ≡ rows → Every (λ item. item < length whole) (places_of test k rows)
  places_there k [] e = tt
  places_there k (row ∷ rows) e = cases (test row) (places_there (k + 1) rows (next_drop whole k row rows e))
    where
      cases : (b : Bool) → Every (λ item. item < length whole) (places_of test (k + 1) rows) → Every (λ item. item < length whole) (cond b (k ∷ places_of test (k + 1) rows) (places_of test (k + 1) rows))
      cases true ih = ((head_drop whole k row no_item rows e).0, ih)
      cases false ih = ih

every_take : {A : Type 0} (P : A → Type 0) (n : ℕ) (xs : List A) → Every P xs → Every P (take n xs)
every_take P zero xs a = tt
every_take P (suc n) [] a = tt
every_take P (suc n) (x ∷ xs) a = (a.0, every_take P n xs a.1)

pub fresh_there : (rows : List ItemRow) (batch count : ℕ) → Every (λ item. item < length rows) (take count (fresh_places batch rows))
fresh_there rows batch count = every_take (λ item. item < length rows) count (fresh_places batch rows) (places_there (is_in batch state.Fresh) rows 0 rows refl)

-- ---- by number and by name

fresh_code : (s : State) → is_fresh s ≡ eqb (state_code s) (state_code state.Fresh)
unfolding is_fresh
fresh_code state.Fresh = refl
fresh_code state.Lent = refl
fresh_code state.Returned = refl
fresh_code state.Spoiled = refl
fresh_code state.Active = refl
fresh_code state.Sampled = refl
fresh_code state.Rejected = refl
fresh_code state.Gone = refl

filter_rows : (names : List Text) (batch : ℕ) (name : Text) (rows : List ItemRow) → All (λ (row : ItemRow). same (get_or names row.batch []) name ≡ eqb row.batch batch) rows
    → filter (λ (row : Row). same row.batch name && is_fresh row.state) (map (row_in names) rows) ≡ map (row_in names) (filter (is_in batch state.Fresh) rows)
filter_rows names batch name [] a = refl
filter_rows names batch name (row ∷ rows) a =
    let test = λ (r : Row). same r.batch name && is_fresh r.state in
    let is : (same (get_or names row.batch []) name && is_fresh row.state) ≡ is_in batch state.Fresh row = (λ z. a 0 row (omega arith) z && fresh_code row.state z) in
    ap (λ (b : Bool). cond b (row_in names row ∷ filter test (map (row_in names) rows)) (filter test (map (row_in names) rows))) is
    ∙ cases (is_in batch state.Fresh row) (filter_rows names batch name rows (λ k d l. a (suc k) d (omega (arith, l))))
  where
    cases : (b : Bool) → filter (λ (r : Row). same r.batch name && is_fresh r.state) (map (row_in names) rows) ≡ map (row_in names) (filter (is_in batch state.Fresh) rows)
        → cond b (row_in names row ∷ filter (λ (r : Row). same r.batch name && is_fresh r.state) (map (row_in names) rows)) (filter (λ (r : Row). same r.batch name && is_fresh r.state) (map (row_in names) rows))
        ≡ map (row_in names) (cond b (row ∷ filter (is_in batch state.Fresh) rows) (filter (is_in batch state.Fresh) rows))
    cases true ih = ap (λ (rs : List Row). row_in names row ∷ rs) ih
    cases false ih = ih

lent_is : (c : Content) (name : Text) (at : ℕ) (kept : Batch) (count : ℕ) → IsWhole c → position (is_called name) c.batches ≡ Some at → slice_get c.batches at ≡ Some kept
    → lent_rows (world_in c) name count ≡ map (row_in (batch_names c)) (map (row_at c.rows) (take count (fresh_places at c.rows)))
unfolding lent_rows fresh_rows
lent_is c name at kept count whole found there =
    let names = batch_names c in
    let own : get_or names at [] ≡ name = part_there name_in c.batches at kept [] there ∙ name_called name c.batches at kept found there in
    let long : length names ≡ length c.batches = length-map c.batches name_in in
    let l = within (is_called name) c.batches at found in
    let apart : All (λ (row : ItemRow). same (get_or names row.batch []) name ≡ eqb row.batch at) c.rows =
    λ k d m. ap (same (get_or names (get_or c.rows k d).batch [])) (sym own) ∙ places_apart same same_equiv names [] whole.batches_apart (get_or c.rows k d).batch at (let r = whole.rows k d m in omega (arith, r, long)) (omega (arith, l, long)) in
    ap (take count) (filter_rows names at name c.rows apart ∙ ap (map (row_in names)) (sym (passing (is_in at state.Fresh) c.rows 0 c.rows refl)))
    ∙ take-map (row_in names) count (map (row_at c.rows) (fresh_places at c.rows))
    ∙ ap (map (row_in names)) (take-map (row_at c.rows) count (fresh_places at c.rows))

-- ---- turns that lend

is_lent : (c : Content) (line item : ℕ) (turn : Turn) (serial : Text) → IsLent line c.rows item turn serial → IsMove (lent_to line) (batch_names c) c.rows (item_name (row_at c.rows item)) turn
is_lent c line item turn serial t =
    let lined : IsLined turn.old_line turn.old_state = subst (λ (l : Option ℕ). IsLined l turn.old_state) t.old_line (subst (λ (s : State). IsLined t.row.line s) t.old_state t.lined) in
    record {
      row = t.row;
      here = ap (λ (k : ℕ). slice_get c.rows k) t.item_is ∙ t.there;
      named = sym (ap item_name (read_at c.rows item t.row no_item t.there));
      line = t.old_line;
      state = t.old_state;
      old_lined = lined;
      new_lined = (λ p. absurd (not_fresh (sym t.new_state ∙ p)), λ p. absurd (no_line (sym t.new_line ∙ p)));
      moved = λ z. record { gtin = t.row.gtin; serial = t.row.serial; batch = get_or (batch_names c) t.row.batch []; line = t.new_line z; state = t.new_state z };
    }
  where
    not_fresh : state.Lent ≡ state.Fresh → ⊥
    not_fresh e = absurd (cc)

    no_line : Some line ≡ None → ⊥
    no_line e = absurd (cc)

are_lent : (c : Content) (line : ℕ) (items : List ℕ) (turns : List Turn) (serials : List Text) → AreLent line c.rows items turns serials
    → AreMoves (lent_to line) (batch_names c) c.rows (map name_of (map (row_in (batch_names c)) (map (row_at c.rows) items))) turns × (serials ≡ map (λ (row : Row). row.serial) (map (row_in (batch_names c)) (map (row_at c.rows) items)))
unfolding AreLent AreMoves
are_lent c line [] [] [] t = (tt, refl)
are_lent c line [] [] (s ∷ serials) t = absurd t
are_lent c line [] (x ∷ turns) serials t = absurd t
are_lent c line (i ∷ items) [] serials t = absurd t
are_lent c line (i ∷ items) (x ∷ turns) [] t = absurd t
are_lent c line (i ∷ items) (x ∷ turns) (s ∷ serials) t =
    let rest = are_lent c line items turns serials t.1 in
    let own : s ≡ (row_at c.rows i).serial = sym t.0.serial_is ∙ sym (ap (λ (r : ItemRow). r.serial) (read_at c.rows i t.0.row no_item t.0.there)) in
    ((is_lent c line i x s t.0, rest.0), (λ z. own z ∷ rest.1 z))

distinct_take : (n : ℕ) (rows : List Row) → IsDistinct same_name (map name_of rows) → IsDistinct same_name (map name_of (take n rows))
unfolding IsDistinct
distinct_take zero rows d = tt
distinct_take (suc n) [] d = tt
distinct_take (suc n) (row ∷ rows) d = (every_names (IsDistinct-head same_name (name_of row) (map name_of rows) d), distinct_take n rows (IsDistinct-tail same_name (name_of row) (map name_of rows) d))
  where
    every_names : Every (λ (e : Epc). same_name (name_of row) e ≡ false) (map name_of rows) → Every (λ (e : Epc). same_name (name_of row) e ≡ false) (map name_of (take n rows))
    every_names a = subst (Every (λ (e : Epc). same_name (name_of row) e ≡ false)) (take-map name_of n rows) (every_take (λ (e : Epc). same_name (name_of row) e ≡ false) n (map name_of rows) a)

names_in : (batches : List Text) (rows : List ItemRow) → map name_of (map (row_in batches) rows) ≡ map item_name rows
names_in batches [] = refl
names_in batches (row ∷ rows) = ap (λ (es : List Epc). item_name row ∷ es) (names_in batches rows)

lent_once : (c : Content) (name : Text) (count : ℕ) → IsWhole c → IsDistinct same_name (map name_of (lent_rows (world_in c) name count))
unfolding lent_rows fresh_rows
lent_once c name count whole =
    let test = λ (row : Row). same row.batch name && is_fresh row.state in
    distinct_take count (filter test (world_in c).rows)
    (IsDistinct-filtered same_name name_of test (world_in c).rows (subst (IsDistinct same_name) (sym (names_in (batch_names c) c.rows)) whole.rows_apart))

pub lend_does : (held : Held) (done : Done) (line : ℕ) (name : Text) (at : ℕ) (kept : Batch) (count : ℕ) (items : List ℕ) (turns : List Turn) (serials : List Text) → IsWhole held.content → position (is_called name) held.content.batches ≡ Some at → slice_get held.content.batches at ≡ Some kept
    → items ≡ take count (fresh_places at held.content.rows) → AreLent line held.content.rows items turns serials → done.answer ≡ Listed serials → done.change ≡ Turned turns
    → Does held done (Listed (map (λ (row : Row). row.serial) (lent_rows (world_in held.content) name count))) (with_rows (world_in held.content) (lent_to line) (map name_of (lent_rows (world_in held.content) name count)))
unfolding MayChange
lend_does held done line name at kept count items turns serials whole found there are lent told is =
    let c = held.content in
    let rows : map (row_in (batch_names c)) (map (row_at c.rows) items) ≡ lent_rows (world_in c) name count = ap (λ (is : List ℕ). map (row_in (batch_names c)) (map (row_at c.rows) is)) are ∙ sym (lent_is c name at kept count whole found there) in
    let both = are_lent c line items turns serials lent in
    let names : List Epc = map name_of (lent_rows (world_in c) name count) in
    let moves : AreMoves (lent_to line) (batch_names c) c.rows names turns = subst (λ (rs : List Row). AreMoves (lent_to line) (batch_names c) c.rows (map name_of rs) turns) rows both.0 in
    let once = lent_once c name count whole in
    does_by held done _ (Turned turns) _ (told ∙ ap Listed (both.1 ∙ ap (map (λ (row : Row). row.serial)) rows)) is whole (moves_may (lent_to line) (batch_names c) c.rows names turns once moves)
    (turned_world c (lent_to line) names turns (λ row. refl) whole once moves) (nothing_needed held.room)

-- ---- turns one after the other

pub none_lent : (line : ℕ) (rows : List ItemRow) → AreLent line rows [] [] []
unfolding AreLent
none_lent line rows = tt

lent_push : (line : ℕ) (rows : List ItemRow) (items : List ℕ) (item : ℕ) (turns : List Turn) (turn : Turn) (serials : List Text) (serial : Text) → AreLent line rows items turns serials → IsLent line rows item turn serial → AreLent line rows (items ++ item ∷ []) (turns ++ turn ∷ []) (serials ++ serial ∷ [])
unfolding AreLent
lent_push line rows [] item [] turn [] serial m one = (one, tt)
lent_push line rows [] item [] turn (s ∷ serials) serial m one = absurd m
lent_push line rows [] item (x ∷ turns) turn serials serial m one = absurd m
lent_push line rows (i ∷ items) item [] turn serials serial m one = absurd m
lent_push line rows (i ∷ items) item (x ∷ turns) turn [] serial m one = absurd m
lent_push line rows (i ∷ items) item (x ∷ turns) turn (s ∷ serials) serial m one = (m.0, lent_push line rows items item turns turn serials serial m.1 one)

pub next_lent : (line : ℕ) (rows : List ItemRow) (items : List ℕ) (i item : ℕ) (turns more_turns : List Turn) (turn : Turn) (serials more_serials : List Text) (serial : Text) → i < length items → item ≡ get_or items i item → more_turns ≡ turns ++ turn ∷ [] → more_serials ≡ serials ++ serial ∷ []
    → AreLent line rows (take i items) turns serials → IsLent line rows item turn serial → AreLent line rows (take (i + 1) items) more_turns more_serials
next_lent line rows items i item turns more_turns turn serials more_serials serial l e et es m one =
    let more : take (suc i) items ≡ take i items ++ item ∷ [] = take-suc items i item l ∙ ap (λ (p : ℕ). take i items ++ p ∷ []) (sym e) in
    subst (λ (ts : List Turn). AreLent line rows (take (i + 1) items) ts more_serials) (sym et)
    (subst (λ (ss : List Text). AreLent line rows (take (i + 1) items) (turns ++ turn ∷ []) ss) (sym es)
    (rw (add-one) (subst (λ (is : List ℕ). AreLent line rows is (turns ++ turn ∷ []) (serials ++ serial ∷ [])) (sym more) (lent_push line rows (take i items) item turns turn serials serial m one))))
