-- How a change of one list changes the lists.
use Rattle.std.proofs.Common.{◌≡◌, ◌≢◌, ◌⊎◌, inl, inr, ℕ, zero, suc, ◌+◌, ◌-◌, ◌<◌, ◌≤◌, Bool, true, false, nat_eq, List, [], ◌∷◌, ◌++◌, length, map, get_or, set, refl, sym, ap, ◌∙◌, subst, arith}
use Rattle.std.proofs.lemmas.Bool.Decides.{nat_tests}
use Rattle.std.proofs.lemmas.List.{map-set, map-append, get_or-map, length-map, get_or-set_same, get_or-set_other, set-get_or}
use Rattle.row_lists.specs.declared.list.RowList.{RowList}
use Rattle.row_lists.specs.Lists.{rows_in, rooms_in}

-- ---- numbers

pub equal : (n m : ℕ) → nat_eq n m ≡ true → n ≡ m
equal n m e = grind (arith, nat_tests)

pub differ : (n m : ℕ) → n ≢ m → nat_eq n m ≡ false
differ n m d = grind (arith, nat_tests)

pub apart : (n m : ℕ) → nat_eq n m ≡ false → n ≢ m
apart n m e = grind (arith, nat_tests)

pub same_or_not : (n m : ℕ) → (n ≡ m) ⊎ (n ≢ m)
same_or_not n m = (elim (nat_eq n m) as (λ (b : Bool). nat_eq n m ≡ b → (n ≡ m) ⊎ (n ≢ m)) [ true ↦ λ e. inl (equal n m e) | false ↦ λ e. inr (apart n m e) ]) refl

-- ---- lists

set_twice : {A : Type 0} (xs : List A) (i : ℕ) (a b : A) → set (set xs i a) i b ≡ set xs i b
set_twice [] i a b = refl
set_twice (x ∷ xs) zero a b = refl
set_twice (x ∷ xs) (suc i) a b = ap (λ ys. x ∷ ys) (set_twice xs i a b)

-- what is taken off the end of a list stands there again
put_back : {A : Type 0} (xs : List (List A)) (j : ℕ) (ys : List A) (y : A) → j < length xs → get_or xs j [] ≡ ys ++ y ∷ [] → set (set xs j ys) j (get_or (set xs j ys) j [] ++ y ∷ []) ≡ xs
put_back {A} xs j ys y within is =
    set_twice xs j ys _ ∙ ap (λ (zs : List A). set xs j (zs ++ y ∷ [])) (get_or-set_same xs j ys [] within)
    ∙ ap (set xs j) (sym is) ∙ set-get_or xs j []

-- the part of the one at a place
part_at : {A B : Type 0} (part : A → B) (xs : List A) (i : ℕ) (x : A) (d : B) → i < length xs → x ≡ get_or xs i x → get_or (map part xs) i d ≡ part x
part_at part xs i x d within is = get_or-map part xs i x d within ∙ ap part (sym is)

-- an element more that is what is read past the end
past_end : {A : Type 0} (xs : List A) (d : A) (k : ℕ) → get_or (xs ++ d ∷ []) k d ≡ get_or xs k d
past_end [] d zero = refl
past_end [] d (suc k) = refl
past_end (x ∷ xs) d zero = refl
past_end (x ∷ xs) d (suc k) = past_end xs d k

some_room : (ns : List ℕ) (s : ℕ) → 0 < get_or ns s 0 → s < length ns
some_room [] s some = absurd (omega (arith, some))
some_room (n ∷ ns) zero some = omega arith
some_room (n ∷ ns) (suc s) some = let rest = some_room ns s some in omega (arith, rest)

some_rows : (xs : List (List ℕ)) (s : ℕ) → 0 < length (get_or xs s []) → s < length xs
some_rows [] s some = absurd (omega (arith, some))
some_rows (x ∷ xs) zero some = omega arith
some_rows (x ∷ xs) (suc s) some = let rest = some_rows xs s some in omega (arith, rest)

-- ---- the lists

pub has_list : (lists : List RowList) (group : ℕ) → 0 < get_or (rooms_in lists) group 0 → group < length lists
has_list lists group some = let within = some_room (rooms_in lists) group some in let long = length-map lists (λ (l : RowList). l.room) in omega (arith, within, long)

pub has_rows : (lists : List RowList) (group : ℕ) → 0 < length (get_or (rows_in lists) group []) → group < length lists
has_rows lists group some = let within = some_rows (rows_in lists) group some in let long = length-map lists (λ (l : RowList). l.rows.items) in omega (arith, within, long)

pub rows_at : (lists : List RowList) (group : ℕ) (list : RowList) → group < length lists → list ≡ get_or lists group list → get_or (rows_in lists) group [] ≡ list.rows.items
rows_at lists group list within is = part_at (λ (l : RowList). l.rows.items) lists group list [] within is

pub room_at : (lists : List RowList) (group : ℕ) (list : RowList) → group < length lists → list ≡ get_or lists group list → get_or (rooms_in lists) group 0 ≡ list.room
room_at lists group list within is = part_at (λ (l : RowList). l.room) lists group list 0 within is

pub rows_set : (lists : List RowList) (group : ℕ) (new : RowList) (rows : List ℕ) → new.rows.items ≡ rows → rows_in (set lists group new) ≡ set (rows_in lists) group rows
rows_set lists group new rows is = map-set (λ (l : RowList). l.rows.items) lists group new ∙ ap (λ (r : List ℕ). set (rows_in lists) group r) is

pub rooms_set : (lists : List RowList) (group : ℕ) (new : RowList) (room : ℕ) → new.room ≡ room → rooms_in (set lists group new) ≡ set (rooms_in lists) group room
rooms_set lists group new room is = map-set (λ (l : RowList). l.room) lists group new ∙ ap (λ (n : ℕ). set (rooms_in lists) group n) is

-- ---- one row more, and one fewer

pub rows_put : (lists : List RowList) (group row : ℕ) (list new : RowList) → group < length lists → list ≡ get_or lists group list → new.rows.items ≡ list.rows.items ++ row ∷ [] → rows_in (set lists group new) ≡ set (rows_in lists) group (get_or (rows_in lists) group [] ++ row ∷ [])
rows_put lists group row list new within is more =
    rows_set lists group new _ (more ∙ ap (λ (rs : List ℕ). rs ++ row ∷ []) (sym (rows_at lists group list within is)))

pub room_put : (lists : List RowList) (group : ℕ) (list new : RowList) → group < length lists → list ≡ get_or lists group list → new.room ≡ list.room - 1 → rooms_in (set lists group new) ≡ set (rooms_in lists) group (get_or (rooms_in lists) group 0 - 1)
room_put lists group list new within is less = rooms_set lists group new _ (less ∙ ap (λ (n : ℕ). n - 1) (sym (room_at lists group list within is)))

pub rows_unput : (lists : List RowList) (group row : ℕ) (list new : RowList) → group < length lists → list ≡ get_or lists group list → list.rows.items ≡ new.rows.items ++ row ∷ []
    → rows_in lists ≡ set (rows_in (set lists group new)) group (get_or (rows_in (set lists group new)) group [] ++ row ∷ [])
rows_unput lists group row list new within is less =
    let long = length-map lists (λ (l : RowList). l.rows.items) in
    let left : rows_in (set lists group new) ≡ set (rows_in lists) group new.rows.items = rows_set lists group new _ refl in
    sym (ap (λ (rs : List (List ℕ)). set rs group (get_or rs group [] ++ row ∷ [])) left ∙ put_back (rows_in lists) group new.rows.items row (omega (arith, within, long)) (rows_at lists group list within is ∙ less))

pub room_unput : (lists : List RowList) (group : ℕ) (list new : RowList) → group < length lists → list ≡ get_or lists group list → new.room ≡ list.room + 1 → rooms_in (set lists group new) ≡ set (rooms_in lists) group (get_or (rooms_in lists) group 0 + 1)
room_unput lists group list new within is more = rooms_set lists group new _ (more ∙ ap (λ (n : ℕ). n + 1) (sym (room_at lists group list within is)))

-- ---- room for one more

pub rows_kept : (lists : List RowList) (group : ℕ) (list new : RowList) → group < length lists → list ≡ get_or lists group list → new.rows.items ≡ list.rows.items → rows_in (set lists group new) ≡ rows_in lists
rows_kept lists group list new within is same = rows_set lists group new _ (same ∙ sym (rows_at lists group list within is)) ∙ set-get_or (rows_in lists) group []

pub room_made : (lists : List RowList) (group : ℕ) (new : RowList) → group < length lists → 0 < new.room → 0 < get_or (rooms_in (set lists group new)) group 0
room_made lists group new within some =
    let long = length-map lists (λ (l : RowList). l.room) in
    let here = ap (λ (ns : List ℕ). get_or ns group 0) (rooms_set lists group new new.room refl) ∙ get_or-set_same (rooms_in lists) group new.room 0 (omega (arith, within, long)) in
    omega (arith, here, some)

pub room_kept : (lists : List RowList) (group : ℕ) (list new : RowList) → group < length lists → list ≡ get_or lists group list → list.room ≤ new.room → (other : ℕ) → get_or (rooms_in lists) other 0 ≤ get_or (rooms_in (set lists group new)) other 0
room_kept lists group list new within is enough other =
    let long = length-map lists (λ (l : RowList). l.room) in
    let set_is = rooms_set lists group new new.room refl in
    elim (same_or_not group other) as (λ _. get_or (rooms_in lists) other 0 ≤ get_or (rooms_in (set lists group new)) other 0) [
      | inl e ↦
          subst (λ (k : ℕ). get_or (rooms_in lists) k 0 ≤ get_or (rooms_in (set lists group new)) k 0) e
          (let was = room_at lists group list within is in
          let here = ap (λ (ns : List ℕ). get_or ns group 0) set_is ∙ get_or-set_same (rooms_in lists) group new.room 0 (omega (arith, within, long)) in
          omega (arith, was, here, enough))
      | inr d ↦
          let there = ap (λ (ns : List ℕ). get_or ns other 0) set_is ∙ get_or-set_other (rooms_in lists) group other new.room 0 (λ e. d (sym e)) in
          omega (arith, there)
    ]

-- ---- an empty list more

pub rows_opened : (lists : List RowList) (new : RowList) → new.rows.items ≡ [] → (k : ℕ) → get_or (rows_in (lists ++ new ∷ [])) k [] ≡ get_or (rows_in lists) k []
rows_opened lists new none k =
    ap (λ (rs : List (List ℕ)). get_or rs k []) (map-append (λ (l : RowList). l.rows.items) lists (new ∷ []) ∙ ap (λ (r : List ℕ). rows_in lists ++ r ∷ []) none) ∙ past_end (rows_in lists) [] k

pub rooms_opened : (lists : List RowList) (new : RowList) → new.room ≡ 0 → (k : ℕ) → get_or (rooms_in (lists ++ new ∷ [])) k 0 ≡ get_or (rooms_in lists) k 0
rooms_opened lists new none k =
    ap (λ (ns : List ℕ). get_or ns k 0) (map-append (λ (l : RowList). l.room) lists (new ∷ []) ∙ ap (λ (n : ℕ). rooms_in lists ++ n ∷ []) none) ∙ past_end (rooms_in lists) 0 k
