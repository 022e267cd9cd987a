-- Where the batches of order rows were first ordered.
use Rattle.std.proofs.Common.{◌≡◌, ℕ, zero, suc, ◌<◌, ◌≤◌, ◌+◌, Bool, true, false, not, cond, ◌||◌, nat_lt, List, ◌++◌, [], ◌∷◌, length, map, take, get_or, slice_index, Option, None, Some, refl, sym, ap, ◌∙◌, subst, arith, true≢false}
use Rattle.std.specs.Prelude.{option_map, nat_eq}
use Rattle.std.specs.List.{HoldsAt, position, position_or_len, list_any, slice_get}
use Rattle.std.specs.Option.{option_or}
use Rattle.std.proofs.lemmas.List.{length-map, get_or-map, get_or-take, take_more, map_push, length-take-le}
use Rattle.std.proofs.lemmas.List.Folds.{list_any_at, list_any_none}
use Rattle.std.proofs.lemmas.List.Quantifiers.{position-Some}
use Rattle.std.proofs.lemmas.List.Sums.{position_or_len_is}
use Rattle.std.proofs.lemmas.Bool.Decides.{nat_tests}
use Rattle.place_table.specs.Hash.{text_hash}
use Rattle.deed_words.specs.Names.{Text, same, same_order}
use Rattle.deed_words.specs.Orders.{orders_in, is_ordered, conflicts, new_orders}
use Rattle.deed_words.specs.declared.deed.OrderRow.{OrderRow}
use Rattle.deed_words.specs.declared.world.Batch.{Batch}
use Rattle.deed_words.proofs.Sameness.{same-true, same-itself}
use Rattle.batch_book.specs.Batches.{is_called}
use Rattle.batch_book.specs.Content.{Content, world_in}
use Rattle.site_stores.proofs.Finding.{no_batch, the_batch, within, somewhere, read_at}
use Rattle.site_rules.specs.Origins.{origin_of, AreOrigins, is_row, row_hash}
use Rattle.site_rules.specs.declared.origins.Origin.{Origin}
use Rattle.site_rules.specs.declared.origins.Origin.TheVariants.{There, Row}
use Rattle.site_rules.specs.Rows.{adds}
use Rattle.site_rules.proofs.Ordered.{against_batch, against_row, ordered_none, ordered_some, new_from, counted, counted_all}

-- the row is of the batch
abbrev is_for : Text → OrderRow → Bool
is_for name row = same row.batch name

-- ---- what an origin says

was_there : (a b : Option ℕ) (at : ℕ) → Some (There at) ≡ option_or (option_map There a) (option_map Row b) → a ≡ Some at
was_there None None at e = absurd (cc)
was_there None (Some k) at e = absurd (cc)
was_there (Some x) b at e = cc

was_row : (a b : Option ℕ) (k : ℕ) → Some (Row k) ≡ option_or (option_map There a) (option_map Row b) → (a ≡ None) × (b ≡ Some k)
was_row None None k e = absurd (cc)
was_row None (Some j) k e = (refl, cc)
was_row (Some x) b k e = absurd (cc)

pub there_is : (c : Content) (rows : List OrderRow) (name : Text) (at : ℕ) → Some (There at) ≡ origin_of c rows name → position (is_called name) c.batches ≡ Some at
unfolding origin_of
there_is c rows name at e = was_there (position (is_called name) c.batches) (position (is_for name) rows) at e

pub row_is : (c : Content) (rows : List OrderRow) (name : Text) (k : ℕ) → Some (Row k) ≡ origin_of c rows name → (position (is_called name) c.batches ≡ None) × (position (is_for name) rows ≡ Some k)
unfolding origin_of
row_is c rows name k e = was_row (position (is_called name) c.batches) (position (is_for name) rows) k e

pub there_within : (c : Content) (rows : List OrderRow) (name : Text) (at : ℕ) → Some (There at) ≡ origin_of c rows name → at < length c.batches
there_within c rows name at e = within (is_called name) c.batches at (there_is c rows name at e)

pub row_within : (c : Content) (rows : List OrderRow) (name : Text) (k : ℕ) → Some (Row k) ≡ origin_of c rows name → k < length rows
row_within c rows name k e = within (is_for name) rows k (row_is c rows name k e).1

-- ---- whether a row differs from the first of its batch

pub conflicts_there : (c : Content) (rows : List OrderRow) (row : OrderRow) (at : ℕ) (batch : Batch) → Some (There at) ≡ origin_of c rows row.batch → slice_get c.batches at ≡ Some batch → conflicts (orders_in (world_in c) ++ rows) row ≡ not (same_order batch.order row)
conflicts_there c rows row at batch e here = against_batch (world_in c) rows row batch (the_batch c row.batch at batch (there_is c rows row.batch at e) here)

got_at : {A : Type 0} (xs : List A) (k : ℕ) (d : A) → k < length xs → slice_get xs k ≡ Some (get_or xs k d)
got_at [] k d l = absurd (omega (arith, l))
got_at (x ∷ xs) zero d l = refl
got_at (x ∷ xs) (suc k) d l = got_at xs k d (omega (arith, l))

pub conflicts_row : (c : Content) (rows : List OrderRow) (row first : OrderRow) (k : ℕ) → Some (Row k) ≡ origin_of c rows row.batch → first ≡ get_or rows k first → conflicts (orders_in (world_in c) ++ rows) row ≡ not (same_order first row)
conflicts_row c rows row first k e is =
    let p = row_is c rows row.batch k e in
    against_row (world_in c) rows row first (no_batch c row.batch p.0) (somewhere (is_for row.batch) rows k first p.1 (got_at rows k first (row_within c rows row.batch k e) ∙ ap Some (sym is)))

-- ---- an origin is found

same_length : (c : Content) (rows : List OrderRow) (origins : List Origin) → AreOrigins c rows origins → length origins ≡ length rows
same_length c rows origins are = sym (length-map origins Some) ∙ ap length are ∙ length-map rows (λ (r : OrderRow). origin_of c rows r.batch)

-- the row at the place has its origin
pub origin_at : (c : Content) (rows : List OrderRow) (origins : List Origin) (k : ℕ) (row : OrderRow) (d : Origin) → AreOrigins c rows origins → k < length rows → row ≡ get_or rows k row → Some (get_or origins k d) ≡ origin_of c rows row.batch
origin_at c rows origins k row d are l is =
    let f = λ (r : OrderRow). origin_of c rows r.batch in
    let many : length origins ≡ length rows = same_length c rows origins are in
    sym (get_or-map Some origins k d (Some d) (subst (λ (n : ℕ). k < n) (sym many) l)) ∙ ap (λ (os : List (Option Origin)). get_or os k (Some d)) are ∙ get_or-map f rows k row (Some d) l ∙ ap f (sym is)

pub origins_within : (c : Content) (rows : List OrderRow) (origins : List Origin) (k : ℕ) → AreOrigins c rows origins → k < length rows → k < length origins
origins_within c rows origins k are l = subst (λ (n : ℕ). k < n) (sym (same_length c rows origins are)) l

-- the row of the same batch that came before has the same origin
pub origin_again : (c : Content) (rows : List OrderRow) (origins : List Origin) (row : OrderRow) (at : ℕ) (d : Origin) → map Some origins ≡ map (λ (r : OrderRow). origin_of c rows r.batch) (take (length origins) rows) → length origins < length rows → at < length origins
    → same (get_or rows at row).batch row.batch ≡ true → Some (get_or origins at d) ≡ origin_of c rows row.batch
origin_again c rows origins row at d are short l s =
    let f = λ (r : OrderRow). origin_of c rows r.batch in
    let front : List OrderRow = take (length origins) rows in
    let near : at < length front = subst (λ (n : ℕ). at < n) (sym (length-take-le (length origins) rows (omega (arith, short)))) l in
    sym (get_or-map Some origins at d (Some d) l) ∙ ap (λ (os : List (Option Origin)). get_or os at (Some d)) are ∙ get_or-map f front at row (Some d) near ∙ ap f (get_or-take (length origins) rows at row l)
    ∙ ap (origin_of c rows) (same-true (get_or rows at row).batch row.batch s)

-- the table has the rows before
pub hashed_count : (rows : List OrderRow) (hashes : List ℕ) (k : ℕ) → k < length rows → hashes ≡ map row_hash (take k rows) → length hashes ≡ k
hashed_count rows hashes k l hashed = ap length hashed ∙ length-map (take k rows) row_hash ∙ length-take-le k rows (omega (arith, l))

-- where the table has none of those before, none is of the batch
none_before : (hashes : List ℕ) (rows : List OrderRow) (k : ℕ) (name : Text) (hash : ℕ) → k < length rows → hashes ≡ map row_hash (take k rows) → hash ≡ text_hash name
    → ((i : ℕ) → i < length hashes → slice_index hashes i ≡ hash → HoldsAt (λ other. same other.batch name ≡ false) rows i) → (j : ℕ) → j < k → (d : OrderRow) → same (get_or rows j d).batch name ≡ false
none_before hashes rows k name hash short hashed e absent j l d =
    elim (same (get_or rows j d).batch name) as (λ (b : Bool). same (get_or rows j d).batch name ≡ b → b ≡ false) [
      | true ↦ λ s.
          let long : length (take k rows) ≡ k = length-take-le k rows (omega (arith, short)) in
          let many : length hashes ≡ k = hashed_count rows hashes k short hashed in
          let one : slice_index hashes j ≡ hash =
          ap (λ (xs : List ℕ). get_or xs j 0) hashed ∙ get_or-map row_hash (take k rows) j d 0 (subst (λ (n : ℕ). j < n) (sym long) l) ∙ ap row_hash (get_or-take k rows j d l) ∙ ap text_hash (same-true (get_or rows j d).batch name s) ∙ sym e in
          sym s ∙ absent j (subst (λ (n : ℕ). j < n) (sym many) l) one d
      | false ↦ λ s. refl
    ] refl

found_at : {A : Type 0} (test : A → Bool) (xs : List A) (k : ℕ) (d : A) → k < length xs → ((j : ℕ) → j < k → test (get_or xs j d) ≡ false) → test (get_or xs k d) ≡ true → position test xs ≡ Some k
found_at test xs k d l before here =
    let at : position_or_len test xs ≡ k = position_or_len_is test xs k d (omega (arith, l)) before (λ _. here) in
    let below : nat_lt k (length xs) ≡ true = grind (arith, nat_tests, l) in
    ap (λ (n : ℕ). cond (nat_lt n (length xs)) (Some n) None) at ∙ ap (λ (b : Bool). cond b (Some k) None) below

pub origin_new : (c : Content) (rows : List OrderRow) (hashes : List ℕ) (k : ℕ) (row : OrderRow) (hash : ℕ) → k < length rows → row ≡ get_or rows k row → hashes ≡ map row_hash (take k rows) → hash ≡ text_hash row.batch
    → ((i : ℕ) → i < length hashes → slice_index hashes i ≡ hash → HoldsAt (λ other. same other.batch row.batch ≡ false) rows i) → position (is_called row.batch) c.batches ≡ None → Some (Row k) ≡ origin_of c rows row.batch
unfolding origin_of
origin_new c rows hashes k row hash l is hashed e absent none =
    let before : (j : ℕ) → j < k → same (get_or rows j row).batch row.batch ≡ false = λ j m. none_before hashes rows k row.batch hash l hashed e absent j m row in
    let here : same (get_or rows k row).batch row.batch ≡ true = ap (λ (r : OrderRow). same r.batch row.batch) (sym is) ∙ same-itself row.batch in
    sym (ap (λ (o : Option ℕ). option_or (option_map There o) (option_map Row (position (is_for row.batch) rows))) none ∙ ap (option_map Row) (found_at (is_for row.batch) rows k row l before here))

pub origin_there : (c : Content) (rows : List OrderRow) (name : Text) (at : ℕ) → position (is_called name) c.batches ≡ Some at → Some (There at) ≡ origin_of c rows name
unfolding origin_of
origin_there c rows name at e = sym (ap (λ (o : Option ℕ). option_or (option_map There o) (option_map Row (position (is_for name) rows))) e)

-- ---- one row more

pub hashed_more : (rows : List OrderRow) (i : ℕ) (row : OrderRow) (hashes new : List ℕ) (hash : ℕ) → i < length rows → row ≡ get_or rows i row → hashes ≡ map row_hash (take i rows) → hash ≡ text_hash row.batch → new ≡ hashes ++ hash ∷ [] → new ≡ map row_hash (take (i + 1) rows)
hashed_more rows i row hashes new hash within is hashed e grown =
    grown ∙ ap (λ (h : ℕ). hashes ++ h ∷ []) (e ∙ ap row_hash is) ∙ ap (λ (xs : List ℕ). xs ++ row_hash (get_or rows i row) ∷ []) hashed ∙ sym (map_push row_hash (take i rows) (get_or rows i row)) ∙ ap (map row_hash) (sym (take_more rows i row within))

pub origins_more : (c : Content) (rows : List OrderRow) (i : ℕ) (row : OrderRow) (origins new : List Origin) (origin : Origin) → i < length rows → row ≡ get_or rows i row → map Some origins ≡ map (λ (r : OrderRow). origin_of c rows r.batch) (take i rows) → Some origin ≡ origin_of c rows row.batch
    → new ≡ origins ++ origin ∷ [] → map Some new ≡ map (λ (r : OrderRow). origin_of c rows r.batch) (take (i + 1) rows)
origins_more c rows i row origins new origin l is are one grown =
    let f = λ (r : OrderRow). origin_of c rows r.batch in
    ap (map Some) grown ∙ map_push Some origins origin ∙ ap (λ (o : Option Origin). map Some origins ++ o ∷ []) (one ∙ ap f is) ∙ ap (λ (os : List (Option Origin)). os ++ f (get_or rows i row) ∷ []) are
    ∙ sym (map_push f (take i rows) (get_or rows i row)) ∙ ap (map f) (sym (take_more rows i row l))

-- ---- a row that is its own origin is new

got_here : {A : Type 0} (xs : List A) (k : ℕ) → k < length xs → (x : A) × (slice_get xs k ≡ Some x)
got_here [] k l = absurd (omega (arith, l))
got_here (x ∷ xs) zero l = (x, refl)
got_here (x ∷ xs) (suc k) l = got_here xs k (omega (arith, l))

-- the row at the place is the first that passes exactly where none before it does
first_if : {A : Type 0} (test : A → Bool) (xs : List A) (k first : ℕ) (d : A) → k < length xs → test (get_or xs k d) ≡ true → position test xs ≡ Some first → nat_eq first k ≡ not (list_any test (take k xs))
first_if {A} test xs k first d l here e =
    let p = position-Some test xs first d e in
    elim (nat_eq first k) as (λ (b : Bool). nat_eq first k ≡ b → b ≡ not (list_any test (take k xs))) [
      | true ↦ λ t.
          let same : first ≡ k = grind (arith, nat_tests, t) in
          let none : list_any test (take k xs) ≡ false = list_any_none test (take k xs) (λ j y m.
          let low : j < k = subst (λ (n : ℕ). j < n) (length-take-le k xs (omega (arith, l))) m in
          ap test (get_or-take k xs j y low) ∙ (position-Some test xs first y e).2 j (subst (λ (n : ℕ). j < n) (sym same) low)) in
          sym (ap not none)
      | false ↦ λ t. sym (ap not (earlier t p.0 p.1 p.2))
    ] refl
  where
    earlier : nat_eq first k ≡ false → first < length xs → test (get_or xs first d) ≡ true → ((j : ℕ) → j < first → test (get_or xs j d) ≡ false) → list_any test (take k xs) ≡ true
    earlier t m passes before =
        (elim (nat_lt k first) as (λ (b : Bool). nat_lt k first ≡ b → list_any test (take k xs) ≡ true) [
          | true ↦ λ s. let high : k < first = grind (arith, nat_tests, s) in absurd (true≢false (sym here ∙ before k high))
          | false ↦ λ s.
              let low : first < k = grind (arith, nat_tests, s, t) in
              list_any_at test (take k xs) first d (subst (λ (n : ℕ). first < n) (sym (length-take-le k xs (omega (arith, l)))) low) (ap test (get_or-take k xs first d low) ∙ passes)
        ]) refl

row_first : (rows : List OrderRow) (k : ℕ) (row : OrderRow) (first : ℕ) → k < length rows → row ≡ get_or rows k row → position (is_for row.batch) rows ≡ Some first → nat_eq first k ≡ not (is_ordered (take k rows) row.batch)
unfolding is_ordered
row_first rows k row first l is at = first_if (is_for row.batch) rows k first row l (ap (λ (r : OrderRow). same r.batch row.batch) (sym is) ∙ same-itself row.batch) at

new_by : (c : Content) (rows : List OrderRow) (k : ℕ) (row : OrderRow) (origin : Origin) → k < length rows → row ≡ get_or rows k row → Some origin ≡ origin_of c rows row.batch
    → is_row k origin ≡ not (is_ordered (orders_in (world_in c)) row.batch || is_ordered (take k rows) row.batch)
unfolding is_row
new_by c rows k row (There at) l is e =
    let there = got_here c.batches at (there_within c rows row.batch at e) in
    sym (ap (λ (b : Bool). not (b || is_ordered (take k rows) row.batch)) (ordered_some (world_in c) row.batch there.0 (the_batch c row.batch at there.0 (there_is c rows row.batch at e) there.1)))
new_by c rows k row (Row first) l is e =
    let p = row_is c rows row.batch first e in
    row_first rows k row first l is p.1 ∙ sym (ap (λ (b : Bool). not (b || is_ordered (take k rows) row.batch)) (ordered_none (world_in c) row.batch (no_batch c row.batch p.0)))

pub is_new : (c : Content) (rows : List OrderRow) (origins : List Origin) (k : ℕ) (row : OrderRow) (d : Origin) → AreOrigins c rows origins → k < length rows → row ≡ get_or rows k row
    → is_row k (get_or origins k d) ≡ not (is_ordered (orders_in (world_in c)) row.batch || is_ordered (take k rows) row.batch)
is_new c rows origins k row d are l is = new_by c rows k row (get_or origins k d) l is (origin_at c rows origins k row d are l is)

-- ---- the new rows are counted over the origins

pub counted_more : (c : Content) (rows : List OrderRow) (origins : List Origin) (k count n a : ℕ) (d : Origin) → AreOrigins c rows origins → k < length origins → a ≡ adds (is_row k (get_or origins k d))
    → count + length (new_from (orders_in (world_in c)) rows k) ≡ n → count + a + length (new_from (orders_in (world_in c)) rows (k + 1)) ≡ n
counted_more c rows origins k count n a d are l e so =
    let within_rows : k < length rows = subst (λ (m : ℕ). k < m) (same_length c rows origins are) l in
    let here = got_here rows k within_rows in
    let is : here.0 ≡ get_or rows k here.0 = sym (read_at rows k here.0 here.0 here.1) in
    counted (orders_in (world_in c)) rows k count n a here.0 (is_row k (get_or origins k d)) within_rows is (is_new c rows origins k here.0 d are within_rows is) e so

pub counted_to_end : (c : Content) (rows : List OrderRow) (origins : List Origin) (k count : ℕ) → AreOrigins c rows origins → length origins ≤ k → count + length (new_from (orders_in (world_in c)) rows k) ≡ length (new_orders (orders_in (world_in c)) rows)
    → count ≡ length (new_orders (orders_in (world_in c)) rows)
counted_to_end c rows origins k count are past so =
    counted_all (orders_in (world_in c)) rows k count (length (new_orders (orders_in (world_in c)) rows)) (subst (λ (m : ℕ). m ≤ k) (same_length c rows origins are) past) so
