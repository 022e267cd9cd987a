-- Laws of the serials that were drawn, each with its GTIN.
use Rattle.std.proofs.Common.{◌≡◌, ◌≢◌, ℕ, ◌+◌, ◌-◌, ◌<◌, ◌^◌, Bool, true, false, cond, List, [], ◌∷◌, ◌++◌, length, take, refl, sym, ap, ◌∙◌, append_assoc, append-nil, subst, arith, length-append, get_or}
use Rattle.std.specs.Prelude.{filter, map, bytes_eq, All}
use Rattle.std.specs.List.{IsDistinct, AllByRecursion}
use Rattle.std.proofs.lemmas.List.Elements.{filter-append, All-head, All-tail, All-from_recursion}
use Rattle.std.proofs.lemmas.List.{length-map, map-append, take_at}
use Rattle.std.proofs.lemmas.Slice.Eq.{bytes_eq-Decides}
use Rattle.std.proofs.lemmas.Cmp.{nat_list_eq_equiv}
use Rattle.std.proofs.lemmas.Map.Keys.{IsDistinct-push, IsDistinct-head, IsDistinct-tail}
use Rattle.gs1_keys.specs.declared.form.SerialForm.{SerialForm}
use Rattle.gs1_keys.specs.Forms.{is_among, AreDistinct, AreNew}
use Rattle.serial_pool.proofs.Fresh.{neither_of}
use Rattle.serial_pool.specs.declared.drawn.DrawnSerial.{DrawnSerial}
use Rattle.place_table.specs.View.{Indexed}
use Rattle.serial_pool.specs.declared.tally.GtinCount.{GtinCount}
use Rattle.serial_pool.specs.Index.{hash_in, count_of, IsKept}
use Rattle.serial_pool.specs.Held.{had_of, drawn_count, drawn_for, DrawnOnce, IsDrawn, PlanView, IsPlanFor}

pub drawn_count_is : (gtin : List ℕ) (pairs : List DrawnSerial) → length (filter (λ pair. bytes_eq gtin pair.gtin) pairs) ≡ drawn_count gtin pairs
drawn_count_is gtin pairs = sym (length-map (filter (λ pair. bytes_eq gtin pair.gtin) pairs) (λ (pair : DrawnSerial). pair.serial))

had_of-append : (gtin : List ℕ) (pairs more : List DrawnSerial) → had_of gtin (pairs ++ more) ≡ had_of gtin pairs ++ had_of gtin more
had_of-append gtin pairs more =
    let own : DrawnSerial → Bool = λ pair. bytes_eq gtin pair.gtin in
    ap (map (λ (pair : DrawnSerial). pair.serial)) (filter-append own pairs more) ∙ map-append (λ (pair : DrawnSerial). pair.serial) (filter own pairs) (filter own more)

-- of what is drawn for a GTIN another has nothing
had_of-drawn_for : (gtin own : List ℕ) (serials : List (List ℕ)) → had_of gtin (drawn_for own serials) ≡ cond (bytes_eq gtin own) serials []
had_of-drawn_for gtin own [] = let none : List (List ℕ) = [] in elim (bytes_eq gtin own) as (λ b. none ≡ cond b none none) [ true ↦ refl | false ↦ refl ]
had_of-drawn_for gtin own (s ∷ serials) =
    let rest = had_of-drawn_for gtin own serials in
    elim (bytes_eq gtin own) as (λ b. had_of gtin (drawn_for own serials) ≡ cond b serials [] → map (λ (pair : DrawnSerial). pair.serial) (cond b (record { gtin = own; serial = s } ∷ filter (λ pair. bytes_eq gtin pair.gtin) (drawn_for own serials)) (filter (λ pair. bytes_eq gtin pair.gtin) (drawn_for own serials))) ≡ cond b (s ∷ serials) []) [
      | true ↦ λ e. ap (λ (xs : List (List ℕ)). s ∷ xs) e
      | false ↦ λ e. e
    ] rest

had_after : (gtin own : List ℕ) (pairs : List DrawnSerial) (serials : List (List ℕ)) → had_of gtin (pairs ++ drawn_for own serials) ≡ had_of gtin pairs ++ cond (bytes_eq gtin own) serials []
had_after gtin own pairs serials = had_of-append gtin pairs (drawn_for own serials) ∙ ap (λ (xs : List (List ℕ)). had_of gtin pairs ++ xs) (had_of-drawn_for gtin own serials)

same_text : (text : List ℕ) → bytes_eq text text ≡ true
same_text text = nat_list_eq_equiv.refl text

other_text : (b : Bool) (one other : List ℕ) → bytes_eq one other ≡ b → one ≢ other → b ≡ false
other_text true one other e ne = absurd (ne ((bytes_eq-Decides one other).0 e))
other_text false one other e ne = refl

pub own_after : (gtin : List ℕ) (pairs new : List DrawnSerial) (serials : List (List ℕ)) → new ≡ pairs ++ drawn_for gtin serials → had_of gtin new ≡ had_of gtin pairs ++ serials
own_after gtin pairs new serials e =
    ap (had_of gtin) e ∙ had_after gtin gtin pairs serials ∙ ap (λ b. had_of gtin pairs ++ cond b serials []) (same_text gtin)

pub others_after : (gtin own : List ℕ) (pairs new : List DrawnSerial) (serials : List (List ℕ)) → new ≡ pairs ++ drawn_for own serials → gtin ≢ own → had_of gtin new ≡ had_of gtin pairs
others_after gtin own pairs new serials e ne =
    ap (had_of gtin) e ∙ had_after gtin own pairs serials ∙ ap (λ b. had_of gtin pairs ++ cond b serials []) (other_text (bytes_eq gtin own) gtin own refl ne) ∙ append-nil (had_of gtin pairs)

-- new serials, each once, behind those that were had
pub distinct_join : (had serials : List (List ℕ)) → AreDistinct had → AreDistinct serials → All (λ s. is_among had s ≡ false) serials → AreDistinct (had ++ serials)
distinct_join had [] once own unknown = subst AreDistinct (sym (append-nil had)) once
distinct_join had (s ∷ serials) once own unknown =
    let tests : List ℕ → Type 0 = λ x. is_among had x ≡ false in
    let pushed : AreDistinct (had ++ s ∷ []) = IsDistinct-push nat_list_eq_equiv had s once (All-head tests s serials unknown) in
    let apart : All (λ x. bytes_eq s x ≡ false) serials = All-from_recursion (λ x. bytes_eq s x ≡ false) serials (IsDistinct-head bytes_eq s serials own) in
    let rest : All (λ x. is_among (had ++ s ∷ []) x ≡ false) serials = λ k d lt. neither_of had s (get_or serials k d) (All-tail tests s serials unknown k d lt) (apart k d lt) in
    subst AreDistinct (append_assoc had (s ∷ []) serials) (distinct_join (had ++ s ∷ []) serials pushed (IsDistinct-tail bytes_eq s serials own) rest)

-- the other way round
pub distinct_end : (had serials : List (List ℕ)) → AreDistinct (had ++ serials) → AreDistinct serials
distinct_end [] serials once = once
distinct_end (h ∷ had) serials once = distinct_end had serials (IsDistinct-tail bytes_eq h (had ++ serials) once)

once_cases : (b : Bool) (had serials : List (List ℕ)) → AreDistinct had → (b ≡ true → AreDistinct (had ++ serials)) → AreDistinct (had ++ cond b serials [])
once_cases true had serials once own = own refl
once_cases false had serials once own = subst AreDistinct (sym (append-nil had)) once

pub once_after : (pairs new : List DrawnSerial) (plan : PlanView) → DrawnOnce pairs → IsPlanFor pairs plan → new ≡ pairs ++ drawn_for plan.gtin plan.serials → DrawnOnce new
once_after pairs new plan once made e gtin =
    subst AreDistinct (sym (ap (had_of gtin) e ∙ had_after gtin plan.gtin pairs plan.serials))
    (once_cases (bytes_eq gtin plan.gtin) (had_of gtin pairs) plan.serials (once gtin)
    (λ same. subst (λ g. AreDistinct (had_of g pairs ++ plan.serials)) (sym ((bytes_eq-Decides gtin plan.gtin).0 same))
    (distinct_join (had_of plan.gtin pairs) plan.serials (once plan.gtin) made.distinct made.unknown)))

few_cases : (b : Bool) (had serials : List (List ℕ)) (n : ℕ) → length had < n → (b ≡ true → length had + length serials < n) → length (had ++ cond b serials []) < n
few_cases true had serials n few own = let sum = own refl in omega (arith, length-append had serials)
few_cases false had serials n few own = subst (λ (xs : List (List ℕ)). length xs < n) (sym (append-nil had)) few

pub few_after : (pairs new : List DrawnSerial) (plan : PlanView) → ((gtin : List ℕ) → drawn_count gtin pairs < 2 ^ 32) → IsPlanFor pairs plan → new ≡ pairs ++ drawn_for plan.gtin plan.serials → (gtin : List ℕ) → drawn_count gtin new < 2 ^ 32
few_after pairs new plan few made e gtin =
    subst (λ (xs : List (List ℕ)). length xs < 2 ^ 32) (sym (ap (had_of gtin) e ∙ had_after gtin plan.gtin pairs plan.serials))
    (few_cases (bytes_eq gtin plan.gtin) (had_of gtin pairs) plan.serials (2 ^ 32) (few gtin)
    (λ same. subst (λ g. drawn_count g pairs + length plan.serials < 2 ^ 32) (sym ((bytes_eq-Decides gtin plan.gtin).0 same)) made.few))

none_distinct : AreDistinct []
unfolding IsDistinct
none_distinct = tt

-- nothing was drawn yet
pub nothing_drawn : (pairs : List DrawnSerial) → pairs ≡ [] → IsDrawn pairs
nothing_drawn pairs e = subst IsDrawn (sym e) (record { once = λ gtin. none_distinct; few = λ gtin. omega arith })

pub nothing_kept : (pairs : List DrawnSerial) (table : Indexed) (rows : List GtinCount) (capacity : ℕ) → pairs ≡ [] → table.hashes ≡ [] → rows ≡ [] → IsKept pairs table rows 0 capacity
nothing_kept pairs table rows capacity e f g =
    record {
      hashed = f ∙ sym (ap (map hash_in) e);
      counted = λ gtin. ap (count_of gtin) g ∙ sym (ap (drawn_count gtin) e);
      roomy = omega arith;
      reserved = let none : length pairs ≡ 0 = ap length e in omega (arith, none);
    }

-- what was drawn, with a plan's serials more
pub drawn_after : (pairs new : List DrawnSerial) (plan : PlanView) → IsDrawn pairs → IsPlanFor pairs plan → new ≡ pairs ++ drawn_for plan.gtin plan.serials → IsDrawn new
drawn_after pairs new plan was made e = record { once = once_after pairs new plan was.once made e; few = few_after pairs new plan was.few made e }

pub length-drawn_for : (own : List ℕ) (serials : List (List ℕ)) → length (drawn_for own serials) ≡ length serials
length-drawn_for own serials = length-map serials (λ (serial : List ℕ). record { gtin = own; serial = serial })

-- how many more a GTIN has then
pub count_after : (gtin own : List ℕ) (pairs new : List DrawnSerial) (serials : List (List ℕ)) → new ≡ pairs ++ drawn_for own serials → drawn_count gtin new ≡ drawn_count gtin pairs + cond (bytes_eq gtin own) (length serials) 0
count_after gtin own pairs new serials e =
    ap (λ (xs : List DrawnSerial). length (had_of gtin xs)) e ∙ ap length (had_after gtin own pairs serials)
    ∙ length-append (had_of gtin pairs) (cond (bytes_eq gtin own) serials [])
    ∙ (elim (bytes_eq gtin own) as (λ b. drawn_count gtin pairs + length (cond b serials []) ≡ drawn_count gtin pairs + cond b (length serials) 0) [ true ↦ refl | false ↦ refl ])

pub kept_after : (pairs new : List DrawnSerial) (plan : PlanView) (old table : Indexed) (rows counts : List GtinCount) (room left capacity capacity' : ℕ) → IsKept pairs old rows room capacity
    → new ≡ pairs ++ drawn_for plan.gtin plan.serials → table.hashes ≡ map hash_in new → table.room + length plan.serials ≡ old.room → ((gtin : List ℕ) → count_of gtin counts ≡ count_of gtin rows + cond (bytes_eq gtin plan.gtin) (length plan.serials) 0)
    → capacity' ≡ capacity → length plan.serials + left ≡ room → IsKept new table counts left capacity'
kept_after pairs new plan old table rows counts room left capacity capacity' kept e hashed spare counted same size =
    let long : length new ≡ length pairs + length plan.serials = ap length e ∙ length-append pairs (drawn_for plan.gtin plan.serials) ∙ ap (λ n. length pairs + n) (length-drawn_for plan.gtin plan.serials) in
    let roomy = kept.roomy in
    let reserved = kept.reserved in
    record {
      hashed = hashed;
      counted = λ gtin. counted gtin ∙ ap (λ n. n + cond (bytes_eq gtin plan.gtin) (length plan.serials) 0) (kept.counted gtin) ∙ sym (count_after gtin plan.gtin pairs new plan.serials e);
      roomy = omega (arith, roomy, spare, size);
      reserved = omega (arith, reserved, long, same, size);
    }

-- ---- taken back

distinct_front : (had serials : List (List ℕ)) → AreDistinct (had ++ serials) → AreDistinct had
unfolding IsDistinct
distinct_front [] serials once = tt
distinct_front (h ∷ had) serials once = (front had once.0, distinct_front had serials once.1)
  where
    front : (xs : List (List ℕ)) → AllByRecursion (λ other. bytes_eq h other ≡ false) (xs ++ serials) → AllByRecursion (λ other. bytes_eq h other ≡ false) xs
    front [] a = tt
    front (x ∷ xs) a = (a.0, front xs a.1)

behind : (h : List ℕ) (had serials : List (List ℕ)) → AllByRecursion (λ other. bytes_eq h other ≡ false) (had ++ serials) → AllByRecursion (λ other. bytes_eq h other ≡ false) serials
behind h [] serials a = a
behind h (x ∷ had) serials a = behind h had serials a.1

-- what stands behind is unknown in front
pub unknown_behind : (had serials : List (List ℕ)) → AreDistinct (had ++ serials) → All (λ s. is_among had s ≡ false) serials
unknown_behind [] serials once = λ k d lt. refl
unknown_behind (h ∷ had) serials once = λ k d lt.
    let apart : bytes_eq h (get_or serials k d) ≡ false = All-from_recursion (λ (x : List ℕ). bytes_eq h x ≡ false) serials (behind h had serials (IsDistinct-head bytes_eq h (had ++ serials) once)) k d lt in
    let rest : is_among had (get_or serials k d) ≡ false = unknown_behind had serials (IsDistinct-tail bytes_eq h (had ++ serials) once) k d lt in
    rw (nat_list_eq_equiv.symm (get_or serials k d) h ∙ apart, rest) refl

pub drawn_before : (pairs before : List DrawnSerial) (done : PlanView) → IsDrawn pairs → pairs ≡ before ++ drawn_for done.gtin done.serials → IsDrawn before
drawn_before pairs before done was e =
    record {
      once = λ gtin. distinct_front (had_of gtin before) (had_of gtin (drawn_for done.gtin done.serials)) (subst AreDistinct (ap (had_of gtin) e ∙ had_of-append gtin before (drawn_for done.gtin done.serials)) (was.once gtin));
      few = λ gtin. let all = was.few gtin in let more = count_after gtin done.gtin before pairs done.serials e in omega (arith, all, more);
    }

pub plan_again : (pairs before : List DrawnSerial) (done : PlanView) → IsDrawn pairs → pairs ≡ before ++ drawn_for done.gtin done.serials → IsPlanFor before done
plan_again pairs before done was e =
    let own : had_of done.gtin pairs ≡ had_of done.gtin before ++ done.serials = own_after done.gtin before pairs done.serials e in
    let once : AreDistinct (had_of done.gtin before ++ done.serials) = subst AreDistinct own (was.once done.gtin) in
    let few : drawn_count done.gtin pairs < 2 ^ 32 = was.few done.gtin in
    let size : drawn_count done.gtin pairs ≡ drawn_count done.gtin before + length done.serials = ap length own ∙ length-append (had_of done.gtin before) done.serials in
    record {
      unknown = unknown_behind (had_of done.gtin before) done.serials once;
      distinct = distinct_end (had_of done.gtin before) done.serials once;
      few = omega (arith, few, size);
    }

pub kept_before : (pairs before : List DrawnSerial) (done : PlanView) (old table : Indexed) (rows counts : List GtinCount) (room more capacity capacity' : ℕ) → IsKept pairs old rows room capacity
    → pairs ≡ before ++ drawn_for done.gtin done.serials → table.hashes ≡ map hash_in before → table.room ≡ old.room + length done.serials → ((gtin : List ℕ) → count_of gtin counts + cond (bytes_eq gtin done.gtin) (length done.serials) 0 ≡ count_of gtin rows)
    → capacity' ≡ capacity → more ≡ room + length done.serials → IsKept before table counts more capacity'
kept_before pairs before done old table rows counts room more capacity capacity' kept e hashed spare counted same size =
    let long : length pairs ≡ length before + length done.serials = ap length e ∙ length-append before (drawn_for done.gtin done.serials) ∙ ap (λ n. length before + n) (length-drawn_for done.gtin done.serials) in
    let roomy = kept.roomy in
    let reserved = kept.reserved in
    record {
      hashed = hashed;
      counted = λ gtin.
          let had : drawn_count gtin pairs ≡ drawn_count gtin before + cond (bytes_eq gtin done.gtin) (length done.serials) 0 = count_after gtin done.gtin before pairs done.serials e in
          let was : count_of gtin rows ≡ drawn_count gtin pairs = kept.counted gtin in
          let now = counted gtin in
          omega (arith, had, was, now);
      roomy = omega (arith, roomy, spare, size);
      reserved = omega (arith, reserved, long, same, size);
    }

-- what stands when the last serials are cut off
pub cut_is : (pairs before : List DrawnSerial) (done : PlanView) (n : ℕ) → pairs ≡ before ++ drawn_for done.gtin done.serials → n ≡ length pairs - length done.serials → take n pairs ≡ before
cut_is pairs before done n e size =
    let long : length pairs ≡ length before + length done.serials = ap length e ∙ length-append before (drawn_for done.gtin done.serials) ∙ ap (λ n. length before + n) (length-drawn_for done.gtin done.serials) in
    ap (take n) e ∙ take_at before (drawn_for done.gtin done.serials) n (omega (arith, size, long))

-- what is new for a GTIN may be committed
pub made_for : (pairs now : List DrawnSerial) (plan : PlanView) (gtin : List ℕ) (form : SerialForm) (n : ℕ) → now ≡ pairs → plan.gtin ≡ gtin → AreNew (had_of gtin pairs) form plan.serials → length plan.serials ≡ n → drawn_count gtin pairs + n < 2 ^ 32 → IsPlanFor now plan
made_for pairs now plan gtin form n same own new size few =
    let had : had_of plan.gtin now ≡ had_of gtin pairs = ap (λ (xs : List DrawnSerial). had_of plan.gtin xs) same ∙ ap (λ g. had_of g pairs) own in
    record {
      unknown = subst (λ (xs : List (List ℕ)). All (λ serial. is_among xs serial ≡ false) plan.serials) (sym had) new.unknown;
      distinct = new.distinct;
      few = subst (λ (xs : List (List ℕ)). length xs + length plan.serials < 2 ^ 32) (sym had) (omega arith);
    }
