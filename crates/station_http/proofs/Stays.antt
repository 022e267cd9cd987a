-- A whole request stays where more bytes follow.
use Rattle.std.proofs.Common.{◌≡◌, ◌+◌, ◌-◌, ◌≤◌, ℕ, Bool, true, false, List, ◌++◌, length, drop, take, Option, Some, None, Result, Ok, Err, sym, refl, ap, ◌∙◌, subst, arith, inl, inr, ◌⊎◌, append_assoc, nat_le, nat_lt, if◌then◌else◌}
use Rattle.std.proofs.lemmas.List.{length-append, length-drop, length-take, take-append-le, drop-append-le, take_all}
use Rattle.std.proofs.lemmas.Bool.{cases_lt}
use Rattle.station_http.specs.declared.fault.HttpFault.{HttpFault}
use Rattle.station_http.specs.declared.fault.HttpFault.TheVariants.{HeadTooLong}
use Rattle.station_http.specs.declared.asked.Asked.{Asked}
use Rattle.station_http.specs.declared.plan.Plan.{Plan}
use Rattle.http_routes.specs.declared.target.Target.{Target}
use Rattle.station_http.specs.Limits.{head_limit}
use Rattle.station_http.specs.Lines.{blank, head_end}
use Rattle.station_http.specs.Head.{IsHead}
use Rattle.station_http.specs.Plans.{plan_of}
use Rattle.station_http.specs.Found.{part, wrong, whole, with_plan, with_target, IsFoundBy, IsFound}
use Rattle.station_http.specs.Steps.{Skips}
use Rattle.station_http.proofs.Pieces.{take_over}
use Rattle.station_http.proofs.Findings.{head_end-append, head_within, blank-append, skip_found}
use Rattle.station_http.proofs.Going.{skips_blank, blank_within, after_blank}

either_way : (b : Bool) → (b ≡ true) ⊎ (b ≡ false)
either_way true = inl refl
either_way false = inr refl

limit_append : (limit : ℕ) (request more : List ℕ) (n : ℕ) → head_end (take limit request) ≡ Some n → head_end (take limit (request ++ more)) ≡ Some n
limit_append limit request more n e =
    elim (cases_lt limit (length request)) [
      | inl h ↦ let le : limit ≤ length request = omega arith in ap head_end (take-append-le limit request more le) ∙ e
      | inr h ↦
          let all : take limit request ≡ request = take_all limit request h in
          ap head_end (take_over limit request more h) ∙ head_end-append request (take (limit - length request) more) n (ap head_end (sym all) ∙ e)
    ]

is_not : (n k : ℕ) (a : Asked) (fault : HttpFault) (t : Bool) → whole n a ≡ (if t then wrong fault else part k) → ⊥
is_not n k a fault true e = cc
is_not n k a fault false e = cc

target_stays : (n skipped k : ℕ) (a : Asked) (rest more : List ℕ) (plan : Plan) (target : Result Target HttpFault) → plan.body ≤ length rest
    → whole n a ≡ with_target skipped k rest plan target → (whole n a ≡ with_target skipped k (rest ++ more) plan target) × (n ≡ skipped + k + plan.body)
target_stays n skipped k a rest more plan (Err fault) long e = absurd cc
target_stays n skipped k a rest more plan (Ok target) long e =
    let same : n ≡ skipped + k + plan.body = cc in
    (e ∙ ap (λ (xs : List ℕ). whole (skipped + k + plan.body) (record { target = target; body = xs; close = plan.close })) (sym (take-append-le plan.body rest more long)), same)

lt_is : (m n : ℕ) → nat_lt m n ≡ false → n ≤ m
lt_is m n h = grind arith

lt_false : (m n : ℕ) → n ≤ m → nat_lt m n ≡ false
lt_false m n h = grind arith

plan_by_test : (n skipped k : ℕ) (a : Asked) (rest more : List ℕ) (plan : Plan) (t : Bool) → nat_lt (length rest) plan.body ≡ t
    → whole n a ≡ (if t then part (k + length rest) else with_target skipped k rest plan plan.target)
    → (whole n a ≡ with_plan skipped k (rest ++ more) (Ok plan)) × (n ≤ skipped + k + length rest) × (k ≤ n)
plan_by_test n skipped k a rest more plan true h e = absurd cc
plan_by_test n skipped k a rest more plan false h e =
    let long = lt_is (length rest) plan.body h in
    let stays = target_stays n skipped k a rest more plan plan.target long e in
    let longer : plan.body ≤ length (rest ++ more) = omega (arith, length-append rest more) in
    let same = stays.1 in (
      stays.0 ∙ ap (λ (t : Bool). if t then part (k + length (rest ++ more)) else with_target skipped k (rest ++ more) plan plan.target) (sym (lt_false (length (rest ++ more)) plan.body longer)),
      omega arith,
      omega arith,
    )

plan_stays : (n skipped k : ℕ) (a : Asked) (rest more : List ℕ) (asks : Result Plan HttpFault) → whole n a ≡ with_plan skipped k rest asks
    → (whole n a ≡ with_plan skipped k (rest ++ more) asks) × (n ≤ skipped + k + length rest) × (k ≤ n)
plan_stays n skipped k a rest more (Err fault) e = absurd cc
plan_stays n skipped k a rest more (Ok plan) e = plan_by_test n skipped k a rest more plan (nat_lt (length rest) plan.body) refl e

-- by the end of the head
by_end : (bytes more : List ℕ) (n : ℕ) (a : Asked) (end : Option ℕ) → head_end (take head_limit (drop (blank bytes) bytes)) ≡ end
    → IsFoundBy (blank bytes) (drop (blank bytes) bytes) end (whole n a) → IsFound (bytes ++ more) (whole n a) × (n ≤ length bytes) × (2 ≤ n)
by_end bytes more n a None e f = absurd (is_not n (length (drop (blank bytes) bytes)) a HeadTooLong (nat_le head_limit (length (drop (blank bytes) bytes))) f)
by_end bytes more n a (Some k) e f =
    let request = drop (blank bytes) bytes in
    let all = skips_blank bytes in
    let s = all.0 in
    let w = head_within (take head_limit request) k e in
    let le : k ≤ length request = let l = length-take head_limit request in omega arith in
    let front : length s.front ≡ blank bytes = all.1 in
    let stays = plan_stays n (blank bytes) k a (drop k request) more (plan_of f.0) f.2 in
    let longer : Skips (bytes ++ more) (request ++ more) = record { front = s.front; whole = ap (λ (xs : List ℕ). xs ++ more) s.whole ∙ append_assoc s.front request more; blank = s.blank } in
    let is : IsHead (take k (request ++ more)) f.0 = subst (λ (xs : List ℕ). IsHead xs f.0) (sym (take-append-le k request more le)) f.1 in
    let found : whole n a ≡ with_plan (length s.front) k (drop k (request ++ more)) (plan_of f.0) =
    stays.0 ∙ ap (λ (xs : List ℕ). with_plan (blank bytes) k xs (plan_of f.0)) (sym (drop-append-le k request more le)) ∙ ap (λ (m : ℕ). with_plan m k (drop k (request ++ more)) (plan_of f.0)) (sym front) in (
      skip_found (bytes ++ more) (request ++ more) longer (Some k) (whole n a) (blank-append request more (omega arith) (after_blank bytes)) (limit_append head_limit request more k e) (f.0, is, found),
      omega (arith, length-drop (blank bytes) bytes, length-drop k request, blank_within bytes, stays.1),
      omega (arith, stays.2, w.0),
    )

pub whole_stays : (bytes more : List ℕ) (n : ℕ) (a : Asked) → IsFound bytes (whole n a) → IsFound (bytes ++ more) (whole n a) × (n ≤ length bytes) × (2 ≤ n)
whole_stays bytes more n a f = by_end bytes more n a (head_end (take head_limit (drop (blank bytes) bytes))) refl f

wrong_test : (k : ℕ) (fault : HttpFault) (t : Bool) → wrong fault ≡ (if t then wrong HeadTooLong else part k) → (t ≡ true) × (fault ≡ HeadTooLong)
wrong_test k fault true e = let same : fault ≡ HeadTooLong = cc in (refl, same)
wrong_test k fault false e = absurd cc

le_is : (m n : ℕ) → nat_le m n ≡ true → m ≤ n
le_is m n h = grind arith

le_true' : (m n : ℕ) → m ≤ n → nat_le m n ≡ true
le_true' m n h = grind arith

wrong_target_stays : (skipped k : ℕ) (fault : HttpFault) (rest more : List ℕ) (plan : Plan) (target : Result Target HttpFault) → wrong fault ≡ with_target skipped k rest plan target → wrong fault ≡ with_target skipped k (rest ++ more) plan target
wrong_target_stays skipped k fault rest more plan (Err g) e = e
wrong_target_stays skipped k fault rest more plan (Ok target) e = absurd cc

wrong_by_test : (skipped k : ℕ) (fault : HttpFault) (rest more : List ℕ) (plan : Plan) (t : Bool) → nat_lt (length rest) plan.body ≡ t
    → wrong fault ≡ (if t then part (k + length rest) else with_target skipped k rest plan plan.target) → wrong fault ≡ with_plan skipped k (rest ++ more) (Ok plan)
wrong_by_test skipped k fault rest more plan true h e = absurd cc
wrong_by_test skipped k fault rest more plan false h e =
    let long = lt_is (length rest) plan.body h in
    let longer : plan.body ≤ length (rest ++ more) = omega (arith, length-append rest more, long) in
    wrong_target_stays skipped k fault rest more plan plan.target e
    ∙ ap (λ (t : Bool). if t then part (k + length (rest ++ more)) else with_target skipped k (rest ++ more) plan plan.target) (sym (lt_false (length (rest ++ more)) plan.body longer))

wrong_plan_stays : (skipped k : ℕ) (fault : HttpFault) (rest more : List ℕ) (asks : Result Plan HttpFault) → wrong fault ≡ with_plan skipped k rest asks → wrong fault ≡ with_plan skipped k (rest ++ more) asks
wrong_plan_stays skipped k fault rest more (Err g) e = e
wrong_plan_stays skipped k fault rest more (Ok plan) e = wrong_by_test skipped k fault rest more plan (nat_lt (length rest) plan.body) refl e

wrong_by_end : (bytes more : List ℕ) (fault : HttpFault) (end : Option ℕ) → head_end (take head_limit (drop (blank bytes) bytes)) ≡ end
    → IsFoundBy (blank bytes) (drop (blank bytes) bytes) end (wrong fault) → IsFound (bytes ++ more) (wrong fault)
wrong_by_end bytes more fault None e f =
    let request = drop (blank bytes) bytes in
    let all = skips_blank bytes in
    let s = all.0 in
    let w = wrong_test (length request) fault (nat_le head_limit (length request)) f in
    let le : head_limit ≤ length request = le_is head_limit (length request) w.0 in
    let longer : Skips (bytes ++ more) (request ++ more) = record { front = s.front; whole = ap (λ (xs : List ℕ). xs ++ more) s.whole ∙ append_assoc s.front request more; blank = s.blank } in
    let le' : head_limit ≤ length (request ++ more) = omega (arith, length-append request more, le) in
    skip_found (bytes ++ more) (request ++ more) longer None (wrong fault) (blank-append request more (omega (arith, le)) (after_blank bytes)) (ap head_end (take-append-le head_limit request more le) ∙ e)
    (ap wrong w.1 ∙ ap (λ (t : Bool). if t then wrong HeadTooLong else part (length (request ++ more))) (sym (le_true' head_limit (length (request ++ more)) le')))
wrong_by_end bytes more fault (Some k) e f =
    let request = drop (blank bytes) bytes in
    let all = skips_blank bytes in
    let s = all.0 in
    let w = head_within (take head_limit request) k e in
    let le : k ≤ length request = let l = length-take head_limit request in omega arith in
    let front : length s.front ≡ blank bytes = all.1 in
    let longer : Skips (bytes ++ more) (request ++ more) = record { front = s.front; whole = ap (λ (xs : List ℕ). xs ++ more) s.whole ∙ append_assoc s.front request more; blank = s.blank } in
    let is : IsHead (take k (request ++ more)) f.0 = subst (λ (xs : List ℕ). IsHead xs f.0) (sym (take-append-le k request more le)) f.1 in
    let found : wrong fault ≡ with_plan (length s.front) k (drop k (request ++ more)) (plan_of f.0) =
    wrong_plan_stays (blank bytes) k fault (drop k request) more (plan_of f.0) f.2 ∙ ap (λ (xs : List ℕ). with_plan (blank bytes) k xs (plan_of f.0)) (sym (drop-append-le k request more le)) ∙ ap (λ (m : ℕ). with_plan m k (drop k (request ++ more)) (plan_of f.0)) (sym front) in
    skip_found (bytes ++ more) (request ++ more) longer (Some k) (wrong fault) (blank-append request more (omega arith) (after_blank bytes)) (limit_append head_limit request more k e) (f.0, is, found)

-- a fault in a front of the bytes is one of all of them
pub wrong_stays : (bytes more : List ℕ) (fault : HttpFault) → IsFound bytes (wrong fault) → IsFound (bytes ++ more) (wrong fault)
wrong_stays bytes more fault f = wrong_by_end bytes more fault (head_end (take head_limit (drop (blank bytes) bytes))) refl f
