-- The places of a group's rows, with one row more and with one fewer.
use Rattle.std.proofs.Common.{◌≡◌, ◌≢◌, inl, inr, ℕ, zero, suc, ◌+◌, ◌<◌, ◌≤◌, ◌^◌, Bool, true, false, cond, List, [], ◌∷◌, ◌++◌, length, get_or, set, sym, ap, ◌∙◌, subst, arith, append-nil}
use Rattle.std.specs.Cmp.{nat_eq_equiv}
use Rattle.std.proofs.lemmas.List.{length-append, get_or-set_same, get_or-set_other, same_from_push}
use Rattle.row_lists.specs.Lists.{places_from, is_group, rows_of, AreLists}
use Rattle.row_lists.proofs.Listing.{same_or_not, differ}

more_places : {A : Type 0} (test : A → Bool) (at : ℕ) (xs : List A) (x : A) → places_from test at (xs ++ x ∷ []) ≡ places_from test at xs ++ cond (test x) ((at + length xs) ∷ []) []
more_places test at [] x = ap (λ (n : ℕ). cond (test x) (n ∷ []) []) (omega arith)
more_places test at (y ∷ xs) x =
    let rest = more_places test (suc at) xs x in
    let same : suc at + length xs ≡ at + suc (length xs) = omega arith in
    let after = rest ∙ ap (λ (n : ℕ). places_from test (suc at) xs ++ cond (test x) (n ∷ []) []) same in
    (elim (test y) as (λ (b : Bool). cond b (at ∷ places_from test (suc at) (xs ++ x ∷ [])) (places_from test (suc at) (xs ++ x ∷ []))
    ≡ cond b (at ∷ places_from test (suc at) xs) (places_from test (suc at) xs) ++ cond (test x) ((at + suc (length xs)) ∷ []) []) [
      | true ↦ ap (λ (ns : List ℕ). at ∷ ns) after
      | false ↦ after
    ])

few_places : {A : Type 0} (test : A → Bool) (at : ℕ) (xs : List A) → length (places_from test at xs) ≤ length xs
few_places test at [] = omega arith
few_places test at (x ∷ xs) =
    let rest = few_places test (suc at) xs in
    elim (test x) as (λ (b : Bool). length (cond b (at ∷ places_from test (suc at) xs) (places_from test (suc at) xs)) ≤ suc (length xs)) [ true ↦ omega (arith, rest) | false ↦ omega (arith, rest) ]

first_within : (at most : ℕ) (rest : List ℕ) → ((k : ℕ) → k < length rest → get_or rest k 0 < suc at + most) → (k : ℕ) → k < suc (length rest) → get_or (at ∷ rest) k 0 < at + suc most
first_within at most rest h zero l = omega arith
first_within at most rest h (suc k) l = let low = h k (omega (arith, l)) in omega (arith, low)

place_within : {A : Type 0} (test : A → Bool) (at : ℕ) (xs : List A) (k : ℕ) → k < length (places_from test at xs) → get_or (places_from test at xs) k 0 < at + length xs
place_within test at [] k l = absurd (omega (arith, l))
place_within test at (x ∷ xs) k l =
    (elim (test x) as (λ (b : Bool). k < length (cond b (at ∷ places_from test (suc at) xs) (places_from test (suc at) xs)) → get_or (cond b (at ∷ places_from test (suc at) xs) (places_from test (suc at) xs)) k 0 < at + suc (length xs)) [
      | true ↦ first_within at (length xs) (places_from test (suc at) xs) (λ j m. place_within test (suc at) xs j m) k
      | false ↦ λ m. let rest = place_within test (suc at) xs k m in omega (arith, rest)
    ]) l

-- ---- the rows of a group

pub few_rows : (groups : List ℕ) (group : ℕ) → length (rows_of groups group) ≤ length groups
few_rows groups group = few_places (is_group group) 0 groups

pub row_within : (groups : List ℕ) (group k : ℕ) → k < length (rows_of groups group) → get_or (rows_of groups group) k 0 < length groups
row_within groups group k l = let within = place_within (is_group group) 0 groups k l in omega (arith, within)

own_more : (groups : List ℕ) (group : ℕ) → rows_of (groups ++ group ∷ []) group ≡ rows_of groups group ++ length groups ∷ []
own_more groups group =
    more_places (is_group group) 0 groups group ∙ ap (λ (b : Bool). rows_of groups group ++ cond b ((0 + length groups) ∷ []) []) (nat_eq_equiv.refl group)
    ∙ ap (λ (n : ℕ). rows_of groups group ++ n ∷ []) (omega arith)

other_more : (groups : List ℕ) (group other : ℕ) → group ≢ other → rows_of (groups ++ group ∷ []) other ≡ rows_of groups other
other_more groups group other d =
    more_places (is_group other) 0 groups group ∙ ap (λ (b : Bool). rows_of groups other ++ cond b ((0 + length groups) ∷ []) []) (differ group other d) ∙ append-nil (rows_of groups other)

-- ---- one row more

pub lists_more : (groups new_groups : List ℕ) (lists new : List (List ℕ)) (group row : ℕ) → AreLists groups lists → length groups + 1 < 2 ^ 32 → group < length lists → row ≡ length groups → new_groups ≡ groups ++ group ∷ []
    → new ≡ set lists group (get_or lists group [] ++ row ∷ []) → AreLists new_groups new
lists_more groups new_groups lists new group row are few within row_is groups_are is =
    subst (λ (gs : List ℕ). AreLists gs new) (sym groups_are) (record {
      few = let long = length-append groups (group ∷ []) in omega (arith, few, long);
      lists = λ other. elim (same_or_not group other) as (λ _. get_or new other [] ≡ rows_of (groups ++ group ∷ []) other) [
        | inl e ↦ subst (λ (k : ℕ). get_or new k [] ≡ rows_of (groups ++ group ∷ []) k) e (
            ap (λ (ls : List (List ℕ)). get_or ls group []) is ∙ get_or-set_same lists group (get_or lists group [] ++ row ∷ []) [] within
            ∙ ap (λ (rs : List ℕ). rs ++ row ∷ []) (are.lists group) ∙ ap (λ (r : ℕ). rows_of groups group ++ r ∷ []) row_is ∙ sym (own_more groups group))
        | inr d ↦ ap (λ (ls : List (List ℕ)). get_or ls other []) is ∙ get_or-set_other lists group other (get_or lists group [] ++ row ∷ []) [] (λ e. d (sym e)) ∙ are.lists other ∙ sym (other_more groups group other d)
      ];
    })

-- ---- one row fewer

-- the last row of its group
pub last_there : (groups front : List ℕ) (lists : List (List ℕ)) (group : ℕ) → AreLists groups lists → groups ≡ front ++ group ∷ [] → get_or lists group [] ≡ rows_of front group ++ length front ∷ []
last_there groups front lists group are split = are.lists group ∙ ap (λ (gs : List ℕ). rows_of gs group) split ∙ own_more front group

pub some_there : (groups front : List ℕ) (lists : List (List ℕ)) (group : ℕ) → AreLists groups lists → groups ≡ front ++ group ∷ [] → 0 < length (get_or lists group [])
some_there groups front lists group are split =
    let is = ap (λ (rs : List ℕ). length rs) (last_there groups front lists group are split) in
    let long = length-append (rows_of front group) (length front ∷ []) in
    omega (arith, is, long)

pub lists_fewer : (groups front : List ℕ) (lists new : List (List ℕ)) (group row : ℕ) → AreLists groups lists → groups ≡ front ++ group ∷ [] → group < length new → lists ≡ set new group (get_or new group [] ++ row ∷ []) → AreLists front new
lists_fewer groups front lists new group row are split within is = record {
  few = let long = ap (λ (gs : List ℕ). length gs) split ∙ length-append front (group ∷ []) in let few = are.few in omega (arith, few, long);
  lists = λ other. elim (same_or_not group other) as (λ _. get_or new other [] ≡ rows_of front other) [
    | inl e ↦ subst (λ (k : ℕ). get_or new k [] ≡ rows_of front k) e
        (same_from_push (get_or new group []) (rows_of front group) row (length front)
        (sym (get_or-set_same new group (get_or new group [] ++ row ∷ []) [] within) ∙ ap (λ (ls : List (List ℕ)). get_or ls group []) (sym is) ∙ last_there groups front lists group are split)).0
    | inr d ↦ sym (get_or-set_other new group other (get_or new group [] ++ row ∷ []) [] (λ e. d (sym e))) ∙ ap (λ (ls : List (List ℕ)). get_or ls other []) (sym is) ∙ are.lists other
        ∙ ap (λ (gs : List ℕ). rows_of gs other) split ∙ other_more front group other d
  ];
}
