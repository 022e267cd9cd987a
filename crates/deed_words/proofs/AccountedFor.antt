-- There is no finding exactly where the batch is accounted for.
use Rattle.std.proofs.Common.{◌≡◌, ℕ, suc, ◌+◌, ◌≤◌, ◌<◌, Bool, true, false, cond, ◌&&◌, not, List, [], ◌∷◌, length, sym, ◌∙◌, ap, refl, subst, arith, Option, None, Some, true≢false, ⊎_elim}
use Rattle.std.specs.Prelude.{if◌then◌else◌, find, option_map, is_none, is_some, option_and_then}
use Rattle.std.specs.List.{AllByRecursion as Every}
use Rattle.deed_words.specs.Names.{Text, same}
use Rattle.epc_urn.specs.declared.epc.Epc.TheVariants.{Unit as Box}
use Rattle.deed_words.specs.Setups.{Setup, IsForPlanner}
use Rattle.deed_words.specs.declared.rule.Rule.TheVariants as rule
use Rattle.deed_words.specs.declared.deed.Deed.TheVariants.{Close}
use Rattle.deed_words.specs.declared.words.Phase.{Phase}
use Rattle.deed_words.specs.declared.words.Phase.TheVariants.{Planned, Started, Closed}
use Rattle.deed_words.specs.declared.world.Batch.{Batch}
use Rattle.deed_words.specs.declared.world.Row.{Row}
use Rattle.deed_words.specs.declared.world.Container.{Container}
use Rattle.deed_words.specs.Chain.{first, when, each, each_from, holds_of}
use Rattle.deed_words.specs.World.{World, name_of, batch_of, parent, rows_in, units_in}
use Rattle.deed_words.specs.Deeds.{batch_named, batch_for}
use Rattle.deed_words.specs.Moves.{is_lent, is_active, is_rejected, is_filling, is_sealed}
use Rattle.deed_words.specs.Tests.{role_forbids, unknown_batch, not_started, closed, is_planned, is_closed, not_accounted}
use Rattle.deed_words.specs.Rules.{broken, rules_of}
use Rattle.deed_words.specs.Accounts.{is_case, finding, findings, still_lent, still_rejected, unpacked, unit_open, unit_loose, not_declared, declared_differs, stands_loose, has_pallets, has_line, differs, declared_numbers, line_numbers}
use Rattle.deed_words.proofs.Sameness.{same-true, same-itself}
use Rattle.deed_words.proofs.Items.{Every-weaker, find_None}
use Rattle.deed_words.proofs.Broken.{first_None, when_None, option_map_None}
use Rattle.deed_words.specs.Roles.{is_for, is_planner}
use Rattle.deed_words.specs.declared.words.Role.{Role}
use Rattle.std.proofs.lemmas.Bool.{cases_lt}
use Rattle.deed_words.specs.Accounted.{IsAccounted}
use Rattle.deed_words.specs.declared.rule.Finding.TheVariants as found
use Rattle.deed_words.proofs.Allowed.{is_there, not_false}

find_none : {A : Type 0} (test : A → Bool) (xs : List A) → Every (λ x. test x ≡ false) xs → find test xs ≡ None
find_none test [] a = refl
find_none {A} test (x ∷ xs) a = ap (λ b. cond b (Some x) (find test xs)) a.0 ∙ find_none test xs a.1

map_none : {A B : Type 0} (f : A → B) (o : Option A) → o ≡ None → option_map f o ≡ None
map_none f o e = ap (option_map f) e

lines_none : {A B : Type 0} (f : ℕ → Option B) (k : ℕ) (xs : List A) → first (each_from k (λ i x. f i) xs) ≡ None → (i : ℕ) → k ≤ i → i < k + length xs → f i ≡ None
unfolding each_from
lines_none f k [] e i low high = absurd (omega arith)
lines_none {A} {B} f k (x ∷ xs) e i low high =
    let p = first_None (f k) (each_from (suc k) (λ i (y : A). f i) xs) e in
    ⊎_elim (λ (h : k < i). lines_none f (suc k) xs p.1 i (omega arith) (omega arith)) (λ (h : i ≤ k). let s : i ≡ k = omega arith in subst (λ j. f j ≡ None) (sym s) p.0) (cases_lt k i)

none_lines : {A B : Type 0} (f : ℕ → Option B) (k : ℕ) (xs : List A) → ((i : ℕ) → k ≤ i → i < k + length xs → f i ≡ None) → first (each_from k (λ i x. f i) xs) ≡ None
unfolding each_from first
none_lines f k [] h = refl
none_lines {A} {B} f k (x ∷ xs) h =
    ap (λ (o : Option B). first (o ∷ each_from (suc k) (λ i (y : A). f i) xs)) (h k (omega arith) (omega arith)) ∙ none_lines f (suc k) xs (λ i low high. h i (omega arith) (omega arith))

first_none : {A : Type 0} (o : Option A) (os : List (Option A)) → o ≡ None → first os ≡ None → first (o ∷ os) ≡ None
unfolding first
first_none o os e f = ap (λ a. first (a ∷ os)) e ∙ f

-- a test that fails, by its parts
not_both : (a b : Bool) → (a && not b) ≡ false → a ≡ true → b ≡ true
not_both true true e h = refl
not_both true false e h = absurd (true≢false e)
not_both false b e h = absurd (true≢false (sym h))

both_fail : (a b : Bool) → (a ≡ true → b ≡ true) → (a && not b) ≡ false
both_fail true b h = ap not (h refl)
both_fail false b h = refl

none-some : {A : Type 0} (o : Option A) → is_none o ≡ not (is_some o)
none-some None = refl
none-some (Some x) = refl

if-taken : {A : Type 0} (b : Bool) (o : Option A) → (if b then o else None) ≡ None → b ≡ true → o ≡ None
if-taken true o e h = e
if-taken false o e h = absurd (true≢false (sym h))

if-none : {A : Type 0} (b : Bool) (o : Option A) → (b ≡ true → o ≡ None) → (if b then o else None) ≡ None
if-none true o h = h refl
if-none false o h = refl

declared_right : (w : World) (name : Text) (line : ℕ) → is_none (declared_numbers w name line) ≡ false → differs w name line ≡ None → declared_numbers w name line ≡ Some (line_numbers w name line)
unfolding differs
declared_right w name line some same_ =
    let said = is_there (declared_numbers w name line) some in
    let agree : when (not (same said.0 (line_numbers w name line))) (found.DeclaredDiffers line (line_numbers w name line) said.0) ≡ None =
    sym (ap (option_and_then (λ (s : List ℕ). when (not (same s (line_numbers w name line))) (found.DeclaredDiffers line (line_numbers w name line) s))) said.1) ∙ same_ in
    said.1 ∙ ap Some (same-true said.0 (line_numbers w name line) (not_false (same said.0 (line_numbers w name line)) (when_None _ (found.DeclaredDiffers line (line_numbers w name line) said.0) agree)))

right_declared : (w : World) (name : Text) (line : ℕ) → declared_numbers w name line ≡ Some (line_numbers w name line) → differs w name line ≡ None
unfolding differs when
right_declared w name line e =
    ap (option_and_then (λ (s : List ℕ). when (not (same s (line_numbers w name line))) (found.DeclaredDiffers line (line_numbers w name line) s))) e
    ∙ ap (λ b. when (not b) (found.DeclaredDiffers line (line_numbers w name line) (line_numbers w name line))) (same-itself (line_numbers w name line))

loose_parts : (a b c : Bool) → (a && b && not c) ≡ false → a ≡ true → b ≡ true → c ≡ true
loose_parts true true true e h k = refl
loose_parts true true false e h k = absurd (true≢false e)
loose_parts true false c e h k = absurd (true≢false (sym k))
loose_parts false b c e h k = absurd (true≢false (sym h))

parts_loose : (a b c : Bool) → (a ≡ true → b ≡ true → c ≡ true) → (a && b && not c) ≡ false
parts_loose true true c h = ap not (h refl refl)
parts_loose true false c h = refl
parts_loose false b c h = refl

pub accounted_from : (site : Setup) (w : World) (name : Text) → finding site w name ≡ None → IsAccounted site w name
unfolding finding findings still_lent still_rejected unpacked unit_open unit_loose not_declared declared_differs stands_loose each
accounted_from site w name e =
    let rows : List Row = rows_in w name in
    let units : List Container = units_in w name in
    let a = first_None _ _ e in
    let b = first_None _ _ a.1 in
    let c = first_None _ _ b.1 in
    let d = first_None _ _ c.1 in
    let f = first_None _ _ d.1 in
    let g = first_None _ _ f.1 in
    let h = first_None _ _ g.1 in
    let said : (line : ℕ) → line < length site.stations → when (has_line w name line && is_none (declared_numbers w name line)) (found.NotDeclared line) ≡ None =
    λ line lt. lines_none (λ i. when (has_line w name i && is_none (declared_numbers w name i)) (found.NotDeclared i)) 0 site.stations g.0 line (omega arith) (omega arith) in
    let right : (line : ℕ) → line < length site.stations → (if has_line w name line then differs w name line else None) ≡ None =
    λ line lt. lines_none (λ i. if has_line w name i then differs w name i else None) 0 site.stations h.0 line (omega arith) (omega arith) in
    record {
      none_lent = find_None (λ (r : Row). is_lent r.state) rows (option_map_None _ _ a.0);
      none_rejected = find_None (λ (r : Row). is_rejected r.state) rows (option_map_None _ _ b.0);
      active_packed = Every-weaker (λ (r : Row). (is_active r.state && is_none (parent w (name_of r))) ≡ false) (λ (r : Row). is_active r.state ≡ true → is_some (parent w (name_of r)) ≡ true)
          (λ r t act. not_both (is_active r.state) (is_some (parent w (name_of r))) (ap (λ x. is_active r.state && x) (sym (none-some (parent w (name_of r)))) ∙ t) act) rows (find_None (λ (r : Row). is_active r.state && is_none (parent w (name_of r))) rows (option_map_None _ _ c.0));
      none_filling = find_None (λ (u : Container). is_filling u.mark) units (option_map_None _ _ d.0);
      cases_packed = λ pal. Every-weaker (λ (u : Container). (is_case u.level && is_sealed u.mark && is_none (parent w (Box u.sscc))) ≡ false) (λ (u : Container). is_case u.level ≡ true → is_sealed u.mark ≡ true → is_some (parent w (Box u.sscc)) ≡ true)
          (λ u t lev sea. loose_parts (is_case u.level) (is_sealed u.mark) (is_some (parent w (Box u.sscc))) (ap (λ x. is_case u.level && is_sealed u.mark && x) (sym (none-some (parent w (Box u.sscc)))) ∙ t) lev sea) units
          (find_None (λ (u : Container). is_case u.level && is_sealed u.mark && is_none (parent w (Box u.sscc))) units (option_map_None _ _ (if-taken (has_pallets w name) _ f.0 pal)));
      declared = λ line lt has.
          let some : is_none (declared_numbers w name line) ≡ false =
          none-some (declared_numbers w name line) ∙ ap not (not_both (has_line w name line) (is_some (declared_numbers w name line)) (ap (λ x. has_line w name line && x) (sym (none-some (declared_numbers w name line))) ∙ when_None _ (found.NotDeclared line) (said line lt)) has) in
          declared_right w name line some (if-taken (has_line w name line) (differs w name line) (right line lt) has);
    }

pub finding_from : (site : Setup) (w : World) (name : Text) → IsAccounted site w name → finding site w name ≡ None
unfolding finding findings still_lent still_rejected unpacked unit_open unit_loose not_declared declared_differs stands_loose each first when
finding_from site w name acc =
    let rows : List Row = rows_in w name in
    let units : List Container = units_in w name in
    first_none _ _ (map_none _ _ (find_none (λ (r : Row). is_lent r.state) rows acc.none_lent))
    (first_none _ _ (map_none _ _ (find_none (λ (r : Row). is_rejected r.state) rows acc.none_rejected))
    (first_none _ _ (map_none _ _ (find_none (λ (r : Row). is_active r.state && is_none (parent w (name_of r))) rows
    (Every-weaker (λ (r : Row). is_active r.state ≡ true → is_some (parent w (name_of r)) ≡ true) (λ (r : Row). (is_active r.state && is_none (parent w (name_of r))) ≡ false)
    (λ r t. ap (λ x. is_active r.state && x) (none-some (parent w (name_of r))) ∙ both_fail (is_active r.state) (is_some (parent w (name_of r))) t) rows acc.active_packed)))
    (first_none _ _ (map_none _ _ (find_none (λ (u : Container). is_filling u.mark) units acc.none_filling))
    (first_none _ _ (if-none (has_pallets w name) _ (λ pal. map_none _ _ (find_none (λ (u : Container). is_case u.level && is_sealed u.mark && is_none (parent w (Box u.sscc))) units
    (Every-weaker (λ (u : Container). is_case u.level ≡ true → is_sealed u.mark ≡ true → is_some (parent w (Box u.sscc)) ≡ true) (λ (u : Container). (is_case u.level && is_sealed u.mark && is_none (parent w (Box u.sscc))) ≡ false)
    (λ u t. ap (λ x. is_case u.level && is_sealed u.mark && x) (none-some (parent w (Box u.sscc))) ∙ parts_loose (is_case u.level) (is_sealed u.mark) (is_some (parent w (Box u.sscc))) t) units (acc.cases_packed pal)))))
    (first_none _ _ (none_lines (λ i. when (has_line w name i && is_none (declared_numbers w name i)) (found.NotDeclared i)) 0 site.stations
    (λ i _ lt. ap (λ b. when b (found.NotDeclared i)) (ap (λ x. has_line w name i && x) (none-some (declared_numbers w name i)) ∙ both_fail (has_line w name i) (is_some (declared_numbers w name i)) (λ has. ap is_some (acc.declared i (omega arith) has)))))
    (first_none _ _ (none_lines (λ i. if has_line w name i then differs w name i else None) 0 site.stations
    (λ i _ lt. if-none (has_line w name i) (differs w name i) (λ has. right_declared w name i (acc.declared i (omega arith) has)))) refl))))))

skip : {A : Type 0} (o : Option A) (os : List (Option A)) → o ≡ None → first (o ∷ os) ≡ first os
unfolding first
skip o os e = ap (λ a. first (a ∷ os)) e

last : {A : Type 0} (o : Option A) → first (o ∷ []) ≡ o
unfolding first
last None = refl
last (Some x) = refl

started-planned : (batch : Batch) → batch.phase ≡ Started → is_planned batch ≡ false
unfolding is_planned
started-planned batch e = subst (λ (p : Phase). elim p as (λ _. Bool) [ Planned ↦ true | Started ↦ false | Closed ↦ false ] ≡ false) (sym e) refl

started-closed : (batch : Batch) → batch.phase ≡ Started → is_closed batch ≡ false
unfolding is_closed
started-closed batch e = subst (λ (p : Phase). elim p as (λ _. Bool) [ Planned ↦ false | Started ↦ false | Closed ↦ true ] ≡ false) (sym e) refl

-- of a planner's close on a Started batch the account alone decides
pub closes : (site : Setup) (w : World) (station : ℕ) (name : Text) (batch : Batch) → IsForPlanner site station → batch_of w name ≡ Some batch → batch.phase ≡ Started
    → broken site w station (Close name) ≡ option_map rule.NotAccounted (finding site w name)
unfolding broken rules_of role_forbids unknown_batch not_started closed not_accounted batch_for batch_named holds_of when is_for is_planner IsForPlanner
closes site w station name batch planner at begun =
    skip _ _ (ap (λ (r : Option Role). when (not (holds_of is_planner r)) rule.RoleForbids) planner)
    ∙ skip _ _ (ap (λ (o : Option Batch). when (is_none o) rule.UnknownBatch) at)
    ∙ skip _ _ (ap (λ (o : Option Batch). when (holds_of is_planned o) rule.BatchNotStarted) at ∙ ap (λ b. when b rule.BatchNotStarted) (started-planned batch begun))
    ∙ skip _ _ (ap (λ (o : Option Batch). when (holds_of is_closed o) rule.BatchClosed) at ∙ ap (λ b. when b rule.BatchClosed) (started-closed batch begun))
    ∙ last (option_map rule.NotAccounted (finding site w name))
