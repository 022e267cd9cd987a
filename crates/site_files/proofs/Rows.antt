-- The rows of the records that are left, one record after the other.
use Rattle.std.proofs.Common.{◌≡◌, ◌≢◌, ℕ, ◌+◌, ◌==◌, List, [], ◌∷◌, ◌++◌, length, Bool, true, false, Ok, Err, refl, arith}
use Rattle.std.proofs.lemmas.Bool.Decides.{nat_tests}
use Rattle.site_files.specs.Orders.{row_of, rows_after, orders_in, is_header}
use Rattle.site_files.specs.declared.fault.Word.TheVariants as word
use Rattle.site_files.specs.Left.{TakesNext}
use Rattle.site_files.specs.declared.fault.FileFault.{FileFault}
use Rattle.site_files.specs.declared.fault.FileFault.TheVariants.{Row, TooMany}
use Rattle.deed_words.specs.declared.deed.OrderRow.{OrderRow}

module _ (Left : List (List (List ℕ)) → Type 0) where
  pub rows_end : (seen : List OrderRow) (f : List (List ℕ)) (recs : List (List (List ℕ))) (found : Bool) → found ≡ false → TakesNext found f recs Left → rows_after seen recs ≡ Ok seen
  unfolding rows_after
  rows_end seen f [] found is h = refl
  rows_end seen f (r ∷ rs) found is h = absurd (rw is at h)

  pub rows_many : (seen : List OrderRow) (f : List (List ℕ)) (recs : List (List (List ℕ))) (found : Bool) → found ≡ true → TakesNext found f recs Left → length seen ≡ 1000 → rows_after seen recs ≡ Err (TooMany word.Rows)
  unfolding rows_after
  rows_many seen f [] found is h full = absurd (rw is at h)
  rows_many seen f (r ∷ rs) found is h full = rw full refl

  pub rows_fault : (seen : List OrderRow) (f : List (List ℕ)) (recs : List (List (List ℕ))) (found : Bool) (line : ℕ) (e : FileFault) → found ≡ true → TakesNext found f recs Left → length seen ≢ 1000
      → line ≡ length seen + 2 → row_of line f ≡ Err e → rows_after seen recs ≡ Err e
  unfolding rows_after
  rows_fault seen f [] found line e is h some at fault = absurd (rw is at h)
  rows_fault seen f (r ∷ rs) found line e is h some at fault =
      let room : (length seen == 1000) ≡ false = grind (arith, nat_tests) in
      let taken = rw is at h in
      rw (room, ← at, ← taken.0, fault)

  pub rows_more : (seen : List OrderRow) (f : List (List ℕ)) (recs : List (List (List ℕ))) (found : Bool) (line : ℕ) (row : OrderRow) → found ≡ true → TakesNext found f recs Left → length seen ≢ 1000
      → line ≡ length seen + 2 → row_of line f ≡ Ok row → (more : List (List (List ℕ))) × Left more × (rows_after seen recs ≡ rows_after (seen ++ row ∷ []) more)
  unfolding rows_after
  rows_more seen f [] found line row is h some at good = absurd (rw is at h)
  rows_more seen f (r ∷ rs) found line row is h some at good =
      let room : (length seen == 1000) ≡ false = grind (arith, nat_tests) in
      let taken = rw is at h in
      (rs, taken.1, rw (room, ← at, ← taken.0, good))

  pub orders_none : (f : List (List ℕ)) (recs : List (List (List ℕ))) (found : Bool) → found ≡ false → TakesNext found f recs Left → orders_in recs ≡ Err (Row 1 0)
  unfolding orders_in
  orders_none f [] found is h = refl
  orders_none f (r ∷ rs) found is h = absurd (rw is at h)

  pub orders_other : (f : List (List ℕ)) (recs : List (List (List ℕ))) (found : Bool) → found ≡ true → TakesNext found f recs Left → is_header f ≡ false → orders_in recs ≡ Err (Row 1 0)
  unfolding orders_in
  orders_other f [] found is h other = absurd (rw is at h)
  orders_other f (r ∷ rs) found is h other = let taken = rw is at h in rw (← taken.0, other)

  pub orders_more : (f : List (List ℕ)) (recs : List (List (List ℕ))) (found : Bool) → found ≡ true → TakesNext found f recs Left → is_header f ≡ true
      → (more : List (List (List ℕ))) × Left more × (orders_in recs ≡ rows_after [] more)
  unfolding orders_in
  orders_more f [] found is h named = absurd (rw is at h)
  orders_more f (r ∷ rs) found is h named = let taken = rw is at h in (rs, taken.1, rw (← taken.0, named))
