-- Where the source isn't called.
use Rattle.std.proofs.Common.{◌≡◌, ◌+◌, ◌<◌, ◌≤◌, ◌||◌, ◌⊎◌, inl, inr, ℕ, Bool, true, false, List, [], length, drop, take, Option, Some, None, Result, Ok, sym, refl, ap, ◌∙◌, subst, arith, nat_le, nat_lt, is_some, MatchBool, if◌then◌else◌}
use Rattle.std.proofs.lemmas.List.{length-append, take-append-drop, take_all}
use Rattle.httparse.specs.Grammar.{RequestHead}
use Rattle.station_http.specs.declared.fault.HttpFault.{HttpFault}
use Rattle.station_http.specs.declared.fault.HttpFault.TheVariants.{HeadTooLong}
use Rattle.station_http.specs.declared.plan.Plan.{Plan}
use Rattle.station_http.specs.Limits.{head_limit, session_limit}
use Rattle.station_http.specs.Lines.{blank, head_end}
use Rattle.station_http.specs.Head.{IsHead}
use Rattle.station_http.specs.Plans.{plan_of}
use Rattle.station_http.specs.Found.{Found, part, wrong, with_plan, with_target, IsFoundBy}
use Rattle.station_http.specs.Reading.{Reading}
use Rattle.station_http.specs.Gives.{is_full}
use Rattle.station_http.specs.Steps.{with_pending, MovesTo}
use Rattle.station_http.specs.Waiting.{is_decided, IsDecided, knows_head, is_ready}
use Rattle.station_http.proofs.Findings.{head_end-append}
use Rattle.station_http.proofs.Unique.{head_unique}

pub not_both : (b : Bool) → b ≡ true → b ≡ false → ⊥
not_both true p q = cc
not_both false p q = cc

-- nothing was taken yet, or the head isn't known
abbrev pub IsIdle : {X : Type 0} → X → X → Reading → Reading → List ℕ → Type 0
IsIdle source now old new pending = ((now ≡ source) × (new.pending ≡ pending) × (new.taken ≡ old.taken)) ⊎ (is_ready old ≡ false)

pub idle_skipped : (X : Type 0) (source now : X) (old new mid : Reading) → IsIdle source now old new old.pending
    → mid ≡ with_pending new (drop (blank new.pending) new.pending) → IsIdle source now old mid (drop (blank old.pending) old.pending)
idle_skipped X source now old new mid h e =
    elim h [
      | inl p ↦ inl (p.0, ap (λ (r : Reading). r.pending) e ∙ ap (λ (xs : List ℕ). drop (blank xs) xs) p.1, ap (λ (r : Reading). r.taken) e ∙ p.2)
      | inr q ↦ inr q
    ]

-- a head that is known takes no byte
pub idle_returns : (X : Type 0) (source now : X) (old mid : Reading) (pending : List ℕ) → IsIdle source now old mid pending → is_ready old ≡ true
    → (now ≡ source) × (mid.pending ≡ pending) × (mid.taken ≡ old.taken)
idle_returns X source now old mid pending h ready =
    elim h [
      | inl p ↦ p
      | inr q ↦ absurd (not_both (is_ready old) ready q)
    ]

below : (n m : ℕ) → n < m → nat_le m n ≡ false
below n m h = grind arith

ready_by : (r : Reading) (request : List ℕ) → request ≡ drop (blank r.pending) r.pending → r.taken < session_limit → head_end request ≡ None → length request < head_limit → is_ready r ≡ false
ready_by r request e full none short =
    ap (λ (b : Bool). b || knows_head (drop (blank r.pending) r.pending)) (below r.taken session_limit full)
    ∙ ap knows_head (sym e)
    ∙ ap (λ (o : Option ℕ). is_some o || nat_le head_limit (length request)) none
    ∙ below (length request) head_limit short

-- before the source is called the head isn't known
pub not_ready : (X : Type 0) (source now : X) (old mid : Reading) → IsIdle source now old mid (drop (blank old.pending) old.pending)
    → head_end mid.pending ≡ None → mid.taken < session_limit → length mid.pending < head_limit → is_ready old ≡ false
not_ready X source now old mid h none full short =
    elim h [
      | inl p ↦ ready_by old mid.pending p.1 (omega (arith, p.2, full)) none short
      | inr q ↦ q
    ]

-- nothing was taken yet, or the body isn't all there
abbrev pub IsBodyIdle : {X : Type 0} → X → X → Reading → Reading → List ℕ → ℕ → Type 0
IsBodyIdle source now old new body count =
    ((now ≡ source) × (length body + length new.pending ≡ length old.pending) × (new.taken ≡ old.taken)) ⊎ ((length old.pending < count) × (old.taken < session_limit))

pub body_idle_moved : (X : Type 0) (source now : X) (old new mid : Reading) (body longer : List ℕ) (count : ℕ) → IsBodyIdle source now old new body count
    → MovesTo new.pending mid.pending body longer → mid ≡ with_pending new mid.pending → IsBodyIdle source now old mid longer count
body_idle_moved X source now old new mid body longer count h m e =
    elim h [
      | inl p ↦ inl (p.0, omega (arith, p.1, ap length m.cut, ap length m.joined, length-append m.part mid.pending, length-append body m.part), ap (λ (r : Reading). r.taken) e ∙ p.2)
      | inr q ↦ inr q
    ]

pub body_not_there : (X : Type 0) (source now : X) (old mid : Reading) (body : List ℕ) (count : ℕ) → IsBodyIdle source now old mid body count
    → length body < count → mid.pending ≡ [] → mid.taken < session_limit → (length old.pending < count) × (old.taken < session_limit)
body_not_there X source now old mid body count h short none full =
    elim h [
      | inl p ↦ (omega (arith, p.1, short, ap length none), omega (arith, p.2, full))
      | inr q ↦ q
    ]

abbrev pub IsBodyThere : Reading → ℕ → Type 0
IsBodyThere old count = (is_full old.taken ≡ true) ⊎ (count ≤ length old.pending)

full_above : (taken : ℕ) → is_full taken ≡ true → session_limit ≤ taken
full_above taken h = grind arith

there_not : (old : Reading) (count : ℕ) → IsBodyThere old count → (length old.pending < count) × (old.taken < session_limit) → ⊥
there_not old count there q =
    elim there [
      | inl full ↦ absurd (omega (arith, full_above old.taken full, q.1))
      | inr le ↦ absurd (omega (arith, le, q.0))
    ]

pub body_idle_returns : (X : Type 0) (source now : X) (old mid : Reading) (body : List ℕ) (count : ℕ) → IsBodyIdle source now old mid body count → IsBodyThere old count → now ≡ source
body_idle_returns X source now old mid body count h there =
    elim h [
      | inl p ↦ p.0
      | inr q ↦ absurd (there_not old count there q)
    ]

pub body_called : (X : Type 0) (source now : X) (old : Reading) (count : ℕ) → (length old.pending < count) × (old.taken < session_limit) → IsBodyThere old count → now ≡ source
body_called X source now old count q there = absurd (there_not old count there q)

-- a whole request or a fault is pending, or nothing more is taken
abbrev pub IsThere : Reading → Type 0
IsThere old = (is_full old.taken ≡ true) ⊎ IsDecided old.pending true

decided_known : (request : List ℕ) (skipped : ℕ) (o : Option ℕ) (found : Found) → head_end (take head_limit request) ≡ o → IsFoundBy skipped request o found → is_decided found ≡ true → knows_head request ≡ true
decided_known request skipped None found e f d = long (nat_le head_limit (length request)) refl f
  where
    long : (t : Bool) → nat_le head_limit (length request) ≡ t → found ≡ (if t then wrong HeadTooLong else part (length request)) → knows_head request ≡ true
    long true h is = ap (λ (b : Bool). is_some (head_end request) || b) h ∙ either (is_some (head_end request))
      where
        either : (b : Bool) → (b || true) ≡ true
        either true = refl
        either false = refl
    long false h is = absurd (not_both (is_decided found) d (ap is_decided is))
decided_known request skipped (Some n) found e f d =
    let all = ap head_end (take-append-drop head_limit request) in
    ap (λ (o : Option ℕ). is_some o || nat_le head_limit (length request)) (sym all ∙ head_end-append (take head_limit request) (drop head_limit request) n e)

pub there_ready : (old : Reading) → IsThere old → is_ready old ≡ true
there_ready old there =
    elim there [
      | inl full ↦ ap (λ (b : Bool). b || knows_head (drop (blank old.pending) old.pending)) full
      | inr decided ↦ ready (is_full old.taken) (decided_known (drop (blank old.pending) old.pending) (blank old.pending) (head_end (take head_limit (drop (blank old.pending) old.pending))) decided.0 refl decided.1 (sym decided.2))
    ]
  where
    ready : (b : Bool) → knows_head (drop (blank old.pending) old.pending) ≡ true → (b || knows_head (drop (blank old.pending) old.pending)) ≡ true
    ready true h = refl
    ready false h = h

decided_fits : (skipped n : ℕ) (rest : List ℕ) (plan : Plan) (t : Bool) → nat_lt (length rest) plan.body ≡ t
    → is_decided (if t then part (n + length rest) else with_target skipped n rest plan plan.target) ≡ true → plan.body ≤ length rest
decided_fits skipped n rest plan true h d = absurd cc
decided_fits skipped n rest plan false h d = grind arith

-- then the body is there too
pub there_body : (old mid : Reading) (n : ℕ) (plan : Plan) → IsThere old → mid.pending ≡ drop (blank old.pending) old.pending → mid.taken ≡ old.taken → length mid.pending ≤ head_limit → head_end mid.pending ≡ Some n
    → (h : Option RequestHead) × IsHead (take n mid.pending) h × (Ok plan ≡ plan_of h) → IsBodyThere (with_pending mid (drop n mid.pending)) plan.body
there_body old mid n plan there pending taken fits end is =
    elim there [
      | inl full ↦ inl (ap is_full taken ∙ full)
      | inr decided ↦ inr (by_found decided)
    ]
  where
    by_found : IsDecided old.pending true → plan.body ≤ length (drop n mid.pending)
    by_found decided =
        let request = drop (blank old.pending) old.pending in
        let all : take head_limit request ≡ request = take_all head_limit request (omega (arith, fits, ap length pending)) in
        let end' : head_end (take head_limit request) ≡ Some n = ap head_end (all ∙ sym pending) ∙ end in
        let f : IsFoundBy (blank old.pending) request (Some n) decided.0 = subst (λ (o : Option ℕ). IsFoundBy (blank old.pending) request o decided.0) end' decided.1 in
        let is' : IsHead (take n mid.pending) f.0 = subst (λ (xs : List ℕ). IsHead (take n xs) f.0) (sym pending) f.1 in
        let same : plan_of f.0 ≡ Ok plan = ap plan_of (head_unique (take n mid.pending) f.0 is.0 is' is.1) ∙ sym is.2 in
        let d : is_decided (with_plan (blank old.pending) n (drop n request) (Ok plan)) ≡ true = ap (λ (p : Result Plan HttpFault). is_decided (with_plan (blank old.pending) n (drop n request) p)) (sym same) ∙ ap is_decided (sym f.2) ∙ sym decided.2 in
        let le : plan.body ≤ length (drop n request) = decided_fits (blank old.pending) n (drop n request) plan (nat_lt (length (drop n request)) plan.body) refl d in
        subst (λ (xs : List ℕ). plan.body ≤ length (drop n xs)) (sym pending) le

waiting_by : (b : Bool) (pending : List ℕ) → MatchBool b (true ≡ true) (IsDecided pending true) → (b ≡ true) ⊎ IsDecided pending true
waiting_by true pending m = inl refl
waiting_by false pending m = inr m

pub waiting_there : (old : Reading) → MatchBool (is_full old.taken) (true ≡ true) (IsDecided old.pending true) → IsThere old
waiting_there old m = waiting_by (is_full old.taken) old.pending m
