-- Orders that are there, and orders in a deed.
use Rattle.std.proofs.Common.{◌≡◌, ℕ, suc, ◌+◌, ◌<◌, Bool, true, false, not, cond, ◌||◌, List, [], ◌∷◌, ◌++◌, length, take, drop, get_or, Option, None, Some, refl, sym, ap, ◌∙◌, arith, drop-cons, drop_of_length-le, add-one, ◌≤◌, append_assoc, append-nil}
use Rattle.std.specs.Prelude.{find, option_map}
use Rattle.std.specs.List.{list_any}
use Rattle.std.specs.Option.{option_or}
use Rattle.std.proofs.lemmas.List.{take_more}
use Rattle.std.proofs.lemmas.List.Folds.{find-append, list_any-append}
use Rattle.deed_words.specs.Names.{Text, same, same_order}
use Rattle.deed_words.specs.Chain.{holds_of}
use Rattle.deed_words.specs.World.{World, batch_of}
use Rattle.deed_words.specs.Orders.{orders_in, is_ordered, conflicts, new_orders}
use Rattle.deed_words.specs.declared.deed.OrderRow.{OrderRow}
use Rattle.deed_words.specs.declared.world.Batch.{Batch}
use Rattle.site_rules.specs.Rows.{kept, adds}
use Rattle.deed_words.proofs.Sameness.{same-true}
use Rattle.deed_words.proofs.Items.{find-more}
use Rattle.deed_words.proofs.OrdersAgain.{find-order, any-found}

-- the order of the batch that stands
first_order : (w : World) (name : Text) (found : Option Batch) → batch_of w name ≡ found → find (λ (o : OrderRow). same o.batch name) (orders_in w) ≡ option_map (λ (b : Batch). b.order) found
unfolding orders_in batch_of
first_order w name found e = find-order w.batches name ∙ ap (option_map (λ (b : Batch). b.order)) e

-- ---- the first order of a row's batch

pub against_batch : (w : World) (rows : List OrderRow) (row : OrderRow) (batch : Batch) → batch_of w row.batch ≡ Some batch → conflicts (orders_in w ++ rows) row ≡ not (same_order batch.order row)
unfolding conflicts holds_of
against_batch w rows row batch e =
    ap (holds_of (λ (o : OrderRow). not (same_order o row))) (find-more (λ (o : OrderRow). same o.batch row.batch) (orders_in w) rows batch.order (first_order w row.batch (Some batch) e))

pub against_found : (w : World) (rows : List OrderRow) (row : OrderRow) (found : Option OrderRow) → batch_of w row.batch ≡ None → find (λ (o : OrderRow). same o.batch row.batch) rows ≡ found
    → conflicts (orders_in w ++ rows) row ≡ holds_of (λ (o : OrderRow). not (same_order o row)) found
unfolding conflicts
against_found w rows row found e f =
    let test = λ (o : OrderRow). same o.batch row.batch in
    ap (holds_of (λ (o : OrderRow). not (same_order o row))) (find-append test (orders_in w) rows ∙ ap (λ (o : Option OrderRow). option_or o (find test rows)) (first_order w row.batch None e) ∙ f)

pub against_row : (w : World) (rows : List OrderRow) (row order : OrderRow) → batch_of w row.batch ≡ None → find (λ (o : OrderRow). same o.batch row.batch) rows ≡ Some order → conflicts (orders_in w ++ rows) row ≡ not (same_order order row)
unfolding holds_of
against_row w rows row order e f = against_found w rows row (Some order) e f

pub against_none : (w : World) (rows : List OrderRow) (row : OrderRow) → batch_of w row.batch ≡ None → find (λ (o : OrderRow). same o.batch row.batch) rows ≡ None → conflicts (orders_in w ++ rows) row ≡ false
unfolding holds_of
against_none w rows row e f = against_found w rows row None e f

-- ---- whether a batch of the name is ordered

none-found : (orders : List OrderRow) (n : Text) → find (λ (o : OrderRow). same o.batch n) orders ≡ None → list_any (λ (o : OrderRow). same o.batch n) orders ≡ false
none-found [] n e = refl
none-found (x ∷ orders) n e =
    (elim (same x.batch n) as (λ t. cond t (Some x) (find (λ (y : OrderRow). same y.batch n) orders) ≡ None → (t || list_any (λ (y : OrderRow). same y.batch n) orders) ≡ false) [ true ↦ λ e. absurd (cc) | false ↦ λ e. none-found orders n e ]) e

pub ordered_none : (w : World) (name : Text) → batch_of w name ≡ None → is_ordered (orders_in w) name ≡ false
unfolding is_ordered
ordered_none w name e = none-found (orders_in w) name (first_order w name None e)

pub ordered_some : (w : World) (name : Text) (batch : Batch) → batch_of w name ≡ Some batch → is_ordered (orders_in w) name ≡ true
unfolding is_ordered
ordered_some w name batch e = any-found (orders_in w) name batch.order (first_order w name (Some batch) e)

-- ---- rows one after the other: the orders with those that are new

abbrev next : List OrderRow → OrderRow → List OrderRow
next orders row = cond (is_ordered orders row.batch) orders (orders ++ row ∷ [])

abbrev pub grown : List OrderRow → List OrderRow → List OrderRow
grown orders [] = orders
grown orders (row ∷ rows) = grown (next orders row) rows

or_none : (b : Bool) → b ≡ (b || false)
or_none true = refl
or_none false = refl

or_three : (a s r : Bool) → ((a || (s || false)) || r) ≡ (a || (s || r))
or_three true s r = refl
or_three false true r = refl
or_three false false r = refl

-- an order of the row's batch is there in any case
next_ordered : (orders : List OrderRow) (row : OrderRow) (name : Text) → is_ordered (next orders row) name ≡ (is_ordered orders name || same row.batch name)
unfolding is_ordered
next_ordered orders row name = cases (is_ordered orders row.batch) refl
  where
    there : (s : Bool) → same row.batch name ≡ s → is_ordered orders row.batch ≡ true → is_ordered orders name ≡ (is_ordered orders name || s)
    there true e t = let o : is_ordered orders name ≡ true = ap (is_ordered orders) (sym (same-true row.batch name e)) ∙ t in o ∙ ap (λ b. b || true) (sym o)
    there false e t = or_none (is_ordered orders name)

    cases : (b : Bool) → is_ordered orders row.batch ≡ b → is_ordered (cond b orders (orders ++ row ∷ [])) name ≡ (is_ordered orders name || same row.batch name)
    cases true t = there (same row.batch name) refl t
    cases false t = list_any-append (λ (o : OrderRow). same o.batch name) orders (row ∷ []) ∙ ap (λ b. is_ordered orders name || b) (sym (or_none (same row.batch name)))

or_assoc : (a s r : Bool) → ((a || s) || r) ≡ (a || (s || r))
or_assoc true s r = refl
or_assoc false s r = refl

pub grown_ordered : (orders rows : List OrderRow) (name : Text) → is_ordered (grown orders rows) name ≡ (is_ordered orders name || is_ordered rows name)
unfolding is_ordered
grown_ordered orders [] name = or_none (is_ordered orders name)
grown_ordered orders (row ∷ rows) name =
    grown_ordered (next orders row) rows name ∙ ap (λ b. b || is_ordered rows name) (next_ordered orders row name) ∙ or_assoc (is_ordered orders name) (same row.batch name) (is_ordered rows name)

grown_more : (orders rows : List OrderRow) (row : OrderRow) → grown orders (rows ++ row ∷ []) ≡ next (grown orders rows) row
grown_more orders [] row = refl
grown_more orders (x ∷ rows) row = grown_more (next orders x) rows row

new_next : (orders : List OrderRow) (row : OrderRow) (rows : List OrderRow) → new_orders orders (row ∷ rows) ≡ kept (not (is_ordered orders row.batch)) row ++ new_orders (next orders row) rows
unfolding new_orders
new_next orders row rows =
    elim (is_ordered orders row.batch) as (λ b. cond b (new_orders orders rows) (row ∷ new_orders (orders ++ row ∷ []) rows) ≡ kept (not b) row ++ new_orders (cond b orders (orders ++ row ∷ [])) rows) [
      | true ↦ refl
      | false ↦ refl
    ]

-- the orders with those of the first k rows that are new
abbrev pub grown_by : List OrderRow → List OrderRow → ℕ → List OrderRow
grown_by orders rows k = grown orders (take k rows)

-- the rows from the k-th on that are new
abbrev pub new_from : List OrderRow → List OrderRow → ℕ → List OrderRow
new_from orders rows k = new_orders (grown_by orders rows k) (drop k rows)

pub one_step : (orders rows : List OrderRow) (k : ℕ) (x : OrderRow) (new : Bool) → k < length rows → x ≡ get_or rows k x → new ≡ not (is_ordered orders x.batch || is_ordered (take k rows) x.batch) → new_from orders rows k ≡ kept new x ++ new_from orders rows (k + 1)
one_step orders rows k x new l e is =
    let front = grown_by orders rows k in
    let later = new_orders (next front x) (drop (suc k) rows) in
    ap (λ (ys : List OrderRow). new_orders front ys) (drop-cons rows k x l ∙ ap (λ (y : OrderRow). y ∷ drop (suc k) rows) (sym e))
    ∙ new_next front x (drop (suc k) rows)
    ∙ ap (λ b. kept b x ++ later) (ap not (grown_ordered orders (take k rows) x.batch) ∙ sym is)
    ∙ ap (λ (os : List OrderRow). kept new x ++ new_orders os (drop (suc k) rows)) (sym (ap (grown orders) (take_more rows k x l ∙ ap (λ (y : OrderRow). take k rows ++ y ∷ []) (sym e)) ∙ grown_more orders (take k rows) x))
    ∙ ap (λ (j : ℕ). kept new x ++ new_orders (grown_by orders rows (k + 1)) (drop j rows)) (sym (add-one k))

-- none is left past the end
pub none_left : (orders rows : List OrderRow) (k : ℕ) → length rows ≤ k → new_from orders rows k ≡ []
unfolding new_orders
none_left orders rows k h = ap (λ (ys : List OrderRow). new_orders (grown_by orders rows k) ys) (drop_of_length-le rows h)

-- ---- they are counted

kept_counts : (new : Bool) (row : OrderRow) (rows : List OrderRow) → length (kept new row ++ rows) ≡ adds new + length rows
kept_counts true row rows = omega arith
kept_counts false row rows = omega arith

pub counted : (orders rows : List OrderRow) (k count n a : ℕ) (x : OrderRow) (new : Bool) → k < length rows → x ≡ get_or rows k x → new ≡ not (is_ordered orders x.batch || is_ordered (take k rows) x.batch) → a ≡ adds new
    → count + length (new_from orders rows k) ≡ n → count + a + length (new_from orders rows (k + 1)) ≡ n
counted orders rows k count n a x new l e is f so =
    let left = length (new_from orders rows (k + 1)) in
    let s : length (new_from orders rows k) ≡ a + left = ap length (one_step orders rows k x new l e is) ∙ kept_counts new x (new_from orders rows (k + 1)) ∙ ap (λ (m : ℕ). m + left) (sym f) in
    omega (arith, s, so)

pub counted_all : (orders rows : List OrderRow) (k count n : ℕ) → length rows ≤ k → count + length (new_from orders rows k) ≡ n → count ≡ n
counted_all orders rows k count n h so =
    let s : length (new_from orders rows k) ≡ 0 = ap length (none_left orders rows k h) in
    omega (arith, s, so)

-- ---- they are kept

pub kept_more : (orders rows new later : List OrderRow) (k : ℕ) (x : OrderRow) (is_new : Bool) → k < length rows → x ≡ get_or rows k x → is_new ≡ not (is_ordered orders x.batch || is_ordered (take k rows) x.batch) → later ≡ new ++ kept is_new x
    → new_orders orders rows ≡ new ++ new_from orders rows k → new_orders orders rows ≡ later ++ new_from orders rows (k + 1)
kept_more orders rows new later k x is_new l e is grown so =
    so ∙ ap (λ (ys : List OrderRow). new ++ ys) (one_step orders rows k x is_new l e is) ∙ sym (append_assoc new (kept is_new x) (new_from orders rows (k + 1))) ∙ ap (λ (ys : List OrderRow). ys ++ new_from orders rows (k + 1)) (sym grown)

pub kept_all : (orders rows new : List OrderRow) (k : ℕ) → length rows ≤ k → new_orders orders rows ≡ new ++ new_from orders rows k → new ≡ new_orders orders rows
kept_all orders rows new k h so = sym (so ∙ ap (λ (ys : List OrderRow). new ++ ys) (none_left orders rows k h) ∙ append-nil new)
