-- How a change of one page changes what the memo holds.
use Rattle.std.proofs.Common.{◌≡◌, ℕ, zero, suc, ◌+◌, ◌-◌, ◌<◌, List, [], ◌∷◌, ◌++◌, length, map, get_or, set, refl, sym, ap, ◌∙◌, arith}
use Rattle.std.proofs.lemmas.List.{map-set, get_or-map, length-map, get_or-set_same, set-get_or, same_from_push}
use Rattle.request_memo.specs.declared.page.Told.{Told}
use Rattle.request_memo.specs.declared.page.Page.{Page}
use Rattle.request_memo.specs.Memos.{Pages, with_told}

-- ---- lists

set_twice : {A : Type 0} (xs : List A) (i : ℕ) (a b : A) → set (set xs i a) i b ≡ set xs i b
set_twice [] i a b = refl
set_twice (x ∷ xs) zero a b = refl
set_twice (x ∷ xs) (suc i) a b = ap (λ ys. x ∷ ys) (set_twice xs i a b)

-- what a list of parts becomes where one whole is another
pub part_set : {A B : Type 0} (part : A → B) (xs : List A) (ys : List B) (i j : ℕ) (x : A) (y : B) → map part xs ≡ ys → i ≡ j → part x ≡ y → map part (set xs i x) ≡ set ys j y
part_set {A} {B} part xs ys i j x y are at is =
    map-set part xs i x ∙ ap (λ (zs : List B). set zs i (part x)) are ∙ ap (λ (k : ℕ). set ys k (part x)) at ∙ ap (set ys j) is

-- one whole with the same part changes no part
pub part_same : {A B : Type 0} (part : A → B) (xs : List A) (ys : List B) (i j : ℕ) (x : A) (d : B) → map part xs ≡ ys → i ≡ j → part x ≡ get_or ys j d → map part (set xs i x) ≡ ys
part_same part xs ys i j x d are at is = part_set part xs ys i j x (get_or ys j d) are at is ∙ set-get_or ys j d

-- the part of the whole at a place
pub part_at : {A B : Type 0} (part : A → B) (xs : List A) (ys : List B) (i j : ℕ) (x : A) (d : B) → map part xs ≡ ys → i ≡ j → j < length ys → x ≡ get_or xs i x → get_or ys j d ≡ part x
part_at {A} {B} part xs ys i j x d are at within is =
    let long : length (map part xs) ≡ length ys = ap (λ (zs : List B). length zs) are in
    ap (λ (zs : List B). get_or zs j d) (sym are) ∙ ap (λ (k : ℕ). get_or (map part xs) k d) (sym at)
    ∙ get_or-map part xs i x d (omega (arith, long, length-map xs part, at, within)) ∙ ap part (sym is)

-- the memo that these pages are
abbrev pages_in : List Page → Pages
pages_in pages = record { told = map (λ page. page.told.items) pages; room = map (λ page. page.room) pages }

-- a page's part of the memo
pub told_at : (pages : List Page) (memo : Pages) (i j : ℕ) (page : Page) → pages_in pages ≡ memo → i ≡ j → j < length memo.told → page ≡ get_or pages i page → get_or memo.told j [] ≡ page.told.items
told_at pages memo i j page are = part_at (λ page. page.told.items) pages memo.told i j page [] (ap (λ (m : Pages). m.told) are)

as_long : (pages : List Page) (memo : Pages) → pages_in pages ≡ memo → length memo.room ≡ length memo.told
as_long pages memo are =
    ap (λ (m : Pages). length m.room) (sym are) ∙ length-map pages (λ page. page.room) ∙ sym (length-map pages (λ page. page.told.items)) ∙ ap (λ (m : Pages). length m.told) are

pub room_at : (pages : List Page) (memo : Pages) (i j : ℕ) (page : Page) → pages_in pages ≡ memo → i ≡ j → j < length memo.told → page ≡ get_or pages i page → get_or memo.room j 0 ≡ page.room
room_at pages memo i j page are at within = part_at (λ page. page.room) pages memo.room i j page 0 (ap (λ (m : Pages). m.room) are) at (omega (arith, as_long pages memo are, within))

-- the room on a page that was put there
pub room_here : (pages : List Page) (memo : Pages) (i j : ℕ) (page : Page) → pages_in pages ≡ memo → i ≡ j → j < length memo.told → get_or (map (λ p. p.room) (set pages i page)) j 0 ≡ page.room
room_here pages memo i j page are at within =
    let rooms : map (λ p. p.room) (set pages i page) ≡ set memo.room j page.room = part_set (λ p. p.room) pages memo.room i j page page.room (ap (λ (m : Pages). m.room) are) at refl in
    ap (λ (ns : List ℕ). get_or ns j 0) rooms ∙ get_or-set_same memo.room j page.room 0 (omega (arith, as_long pages memo are, within))

-- what is taken off the end of a list stands there again
pub put_back : {A : Type 0} (xs : List (List A)) (j : ℕ) (ys : List A) (y : A) → j < length xs → get_or xs j [] ≡ ys ++ y ∷ [] → set (set xs j ys) j (get_or (set xs j ys) j [] ++ y ∷ []) ≡ xs
put_back {A} xs j ys y within is =
    set_twice xs j ys _ ∙ ap (λ (zs : List A). set xs j (zs ++ y ∷ [])) (get_or-set_same xs j ys [] within)
    ∙ ap (set xs j) (sym is) ∙ set-get_or xs j []

-- ---- what was put in is what comes out

pub one_put : (a b : List (List Told)) (station : ℕ) (told told' : Told) → station < length a → with_told a station told ≡ with_told b station told' → (a ≡ b) × (told ≡ told')
one_put [] b station told told' within e = absurd (omega (arith, within))
one_put (x ∷ a) [] zero told told' within e = absurd (cc)
one_put (x ∷ a) [] (suc station) told told' within e = absurd (cc)
one_put (x ∷ a) (y ∷ b) zero told told' within e =
    let head : x ++ told ∷ [] ≡ y ++ told' ∷ [] = cc in
    let tail : a ≡ b = cc in
    let last = same_from_push x y told told' head in
    let front : x ≡ y = last.0 in
    (cc, last.1)
one_put (x ∷ a) (y ∷ b) (suc station) told told' within e =
    let head : x ≡ y = cc in
    let tail : with_told a station told ≡ with_told b station told' = cc in
    let rest = one_put a b station told told' (omega (arith, within)) tail in
    let front : a ≡ b = rest.0 in
    (cc, rest.1)

-- room that is used and given back, and room that is given back and used
pub room_back : (room : List ℕ) (j : ℕ) → 0 < get_or room j 0 → j < length room → set (set room j (get_or room j 0 - 1)) j (get_or (set room j (get_or room j 0 - 1)) j 0 + 1) ≡ room
room_back room j some within =
    let here : get_or (set room j (get_or room j 0 - 1)) j 0 ≡ get_or room j 0 - 1 = get_or-set_same room j _ 0 within in
    set_twice room j _ _ ∙ ap (set room j) (omega (arith, here, some)) ∙ set-get_or room j 0

pub room_again : (room : List ℕ) (j : ℕ) → j < length room → set (set room j (get_or room j 0 + 1)) j (get_or (set room j (get_or room j 0 + 1)) j 0 - 1) ≡ room
room_again room j within =
    let here : get_or (set room j (get_or room j 0 + 1)) j 0 ≡ get_or room j 0 + 1 = get_or-set_same room j _ 0 within in
    set_twice room j _ _ ∙ ap (set room j) (omega (arith, here)) ∙ set-get_or room j 0

pub pages_same : (a b : Pages) → a.told ≡ b.told → a.room ≡ b.room → a ≡ b
pages_same a b told room = ap (λ (t : List (List Told)). record a { told = t }) told ∙ ap (λ (r : List ℕ). record b { room = r }) room
