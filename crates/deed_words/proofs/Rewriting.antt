-- Rows that are changed one by one, by place, are the named rows rewritten at once.
use Rattle.std.proofs.Common.{◌≡◌, ℕ, zero, suc, Bool, true, false, ◌||◌, List, [], ◌∷◌, ◌++◌, map, sym, ◌∙◌, ap, refl, subst, Some, true≢false, set}
use Rattle.std.specs.Prelude.{if◌then◌else◌}
use Rattle.std.specs.List.{AllByRecursion as Every, IsDistinct, list_any, slice_get}
use Rattle.std.proofs.lemmas.Bool.{false_from_ne_true}
use Rattle.std.proofs.lemmas.Map.Keys.{IsDistinct-head, IsDistinct-tail}
use Rattle.epc_urn.specs.declared.epc.Epc.{Epc}
use Rattle.deed_words.specs.declared.world.Row.{Row}
use Rattle.deed_words.specs.Names.{same_name, is_among}
use Rattle.deed_words.specs.World.{name_of}
use Rattle.deed_words.specs.Effects.{rewrite}
use Rattle.deed_words.proofs.Sameness.{same_name-true, same_name-itself, same_name_equiv}
use Rattle.deed_words.proofs.Items.{Every-weaker, Every-of_map}

or-false : (b : Bool) → (b || false) ≡ b
or-false true = refl
or-false false = refl

map_still : (f : Row → Row) (rows : List Row) → Every (λ (r : Row). f r ≡ r) rows → map f rows ≡ rows
map_still f [] a = refl
map_still f (x ∷ rows) a = ap (λ (r : Row). r ∷ map f rows) a.0 ∙ ap (λ (rs : List Row). x ∷ rs) (map_still f rows a.1)

at_place : (P : Row → Type 0) (rows : List Row) (i : ℕ) (row : Row) → slice_get rows i ≡ Some row → Every P rows → P row
at_place P [] i row e a = absurd (cc)
at_place P (x ∷ rows) zero row e a = let s : x ≡ row = cc in subst P s a.0
at_place P (x ∷ rows) (suc i) row e a = at_place P rows i row e a.1

-- one row changed at its place
pub set_at : (change : Row → Row) (rows : List Row) (i : ℕ) (row : Row) → IsDistinct same_name (map name_of rows) → slice_get rows i ≡ Some row → set rows i (change row) ≡ map (rewrite change (name_of row ∷ [])) rows
unfolding rewrite is_among
set_at change [] i row d at = absurd (cc)
set_at change (x ∷ rows) zero row d at =
    let e : x ≡ row = cc in
    let head : Every (λ (r : Row). same_name (name_of x) (name_of r) ≡ false) rows = Every-of_map (λ (c : Epc). same_name (name_of x) c ≡ false) name_of rows (IsDistinct-head same_name (name_of x) (map name_of rows) d) in
    let others : map (λ (r : Row). if same_name (name_of r) (name_of x) || false then change r else r) rows ≡ rows =
    map_still (λ (r : Row). if same_name (name_of r) (name_of x) || false then change r else r) rows (Every-weaker (λ (r : Row). same_name (name_of x) (name_of r) ≡ false) (λ (r : Row). (if same_name (name_of r) (name_of x) || false then change r else r) ≡ r) (λ r h. ap (λ b. if b || false then change r else r) (same_name_equiv.symm (name_of r) (name_of x) ∙ h)) rows head) in
    subst (λ (y : Row). change y ∷ rows ≡ map (λ (r : Row). if same_name (name_of r) (name_of y) || false then change r else r) (x ∷ rows)) e
    (sym (ap (λ b. (if b || false then change x else x) ∷ map (λ (r : Row). if same_name (name_of r) (name_of x) || false then change r else r) rows) (same_name-itself (name_of x)) ∙ ap (λ (rs : List Row). change x ∷ rs) others))
set_at change (x ∷ rows) (suc i) row d at =
    let head : Every (λ (r : Row). same_name (name_of x) (name_of r) ≡ false) rows = Every-of_map (λ (c : Epc). same_name (name_of x) c ≡ false) name_of rows (IsDistinct-head same_name (name_of x) (map name_of rows) d) in
    let other : same_name (name_of x) (name_of row) ≡ false = at_place (λ (r : Row). same_name (name_of x) (name_of r) ≡ false) rows i row at head in
    ap (λ (rs : List Row). x ∷ rs) (set_at change rows i row (IsDistinct-tail same_name (name_of x) (map name_of rows) d) at)
    ∙ ap (λ b. (if b || false then change x else x) ∷ map (λ (r : Row). if same_name (name_of r) (name_of row) || false then change r else r) rows) (sym other)

among_push : (names : List Epc) (name c : Epc) → is_among (names ++ name ∷ []) c ≡ (is_among names c || same_name c name)
unfolding is_among
among_push [] name c = or-false (same_name c name)
among_push (x ∷ names) name c = elim (same_name c x) as (λ b. (b || list_any (same_name c) (names ++ name ∷ [])) ≡ ((b || list_any (same_name c) names) || same_name c name)) [ true ↦ refl | false ↦ among_push names name c ]

among_one : (name c : Epc) → is_among (name ∷ []) c ≡ same_name c name
unfolding is_among
among_one name c = or-false (same_name c name)

row_more : (change : Row → Row) → ((row : Row) → name_of (change row) ≡ name_of row) → (names : List Epc) (name : Epc) → is_among names name ≡ false → (row : Row) → rewrite change (name ∷ []) (rewrite change names row) ≡ rewrite change (names ++ name ∷ []) row
unfolding rewrite
row_more change keeps names name new row =
    let target : (b : Bool) → Row → Row = λ b r. if b then change r else r in
    let front : is_among (names ++ name ∷ []) (name_of row) ≡ (is_among names (name_of row) || same_name (name_of row) name) = among_push names name (name_of row) in
    (elim (is_among names (name_of row)) as (λ b. is_among names (name_of row) ≡ b → (if is_among (name ∷ []) (name_of (if b then change row else row)) then change (if b then change row else row) else (if b then change row else row)) ≡ (if b || same_name (name_of row) name then change row else row)) [
      | true ↦ λ t.
          let other : same_name (name_of row) name ≡ false = false_from_ne_true (same_name (name_of row) name) (λ s. true≢false (sym t ∙ ap (is_among names) (same_name-true (name_of row) name s) ∙ new)) in
          ap (λ b. if b then change (change row) else change row) (among_one name (name_of (change row)) ∙ ap (λ (c : Epc). same_name c name) (keeps row) ∙ other)
      | false ↦ λ t. ap (λ b. if b then change row else row) (among_one name (name_of row))
    ]) refl ∙ ap (λ b. if b then change row else row) (sym front)

-- one name more
pub one_more : (change : Row → Row) → ((row : Row) → name_of (change row) ≡ name_of row) → (names : List Epc) (name : Epc) → is_among names name ≡ false → (rows : List Row)
    → map (rewrite change (name ∷ [])) (map (rewrite change names) rows) ≡ map (rewrite change (names ++ name ∷ [])) rows
one_more change keeps names name new [] = refl
one_more change keeps names name new (row ∷ rows) = ap (λ (r : Row). r ∷ map (rewrite change (name ∷ [])) (map (rewrite change names) rows)) (row_more change keeps names name new row) ∙ ap (λ (rs : List Row). rewrite change (names ++ name ∷ []) row ∷ rs) (one_more change keeps names name new rows)
