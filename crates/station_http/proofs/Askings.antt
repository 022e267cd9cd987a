-- What is asked of a source, call by call.
use Rattle.std.proofs.Common.{◌≡◌, ◌+◌, ◌-◌, min, ℕ, List, [], ◌∷◌, ◌++◌, length, drop, Option, Some, None, is_some, if◌then◌else◌, sym, refl, ap, ◌∙◌, subst, arith, append_assoc, append-nil, add-zero}
use Rattle.std.proofs.lemmas.List.{drop_at}
use Rattle.outside.specs.Devices.{Ask, ask, asked_more, Asks}
use Rattle.station_http.specs.Limits.{head_limit, session_limit}
use Rattle.station_http.specs.Lines.{blank, head_end}
use Rattle.station_http.specs.Reading.{Reading}
use Rattle.station_http.specs.Steps.{Skips, with_pending}
use Rattle.station_http.specs.Asking.{held_of, room_for, AsksAll, known_after, AsksEmpty}
use Rattle.station_http.proofs.Findings.{head_end-append, head_within, blank-append}
use Rattle.station_http.proofs.Going.{skips_none, skips_more, skips_on}

asked_none : (told : Option (List Ask)) → told ≡ asked_more told []
asked_none None = refl
asked_none (Some before) = ap Some (sym (append-nil before))

asked_twice : (told : Option (List Ask)) (xs ys : List Ask) → asked_more (asked_more told xs) ys ≡ asked_more told (xs ++ ys)
asked_twice None xs ys = refl
asked_twice (Some before) xs ys = ap Some (append_assoc before xs ys)

asked_both : (old mid new : Option (List Ask)) (xs ys : List Ask) → mid ≡ asked_more old xs → new ≡ asked_more mid ys → new ≡ asked_more old (xs ++ ys)
asked_both old mid new xs ys e f = f ∙ ap (λ (t : Option (List Ask)). asked_more t ys) e ∙ asked_twice old xs ys

known_both : (known : List ℕ) (xs ys : List Ask) → known_after known (xs ++ ys) ≡ known_after (known_after known xs) ys
known_both known [] ys = refl
known_both known (a ∷ xs) ys = known_both (known ++ a.came) xs ys

all_both : (taken : ℕ) (known : List ℕ) (mid end : ℕ) (xs ys : List Ask) → AsksAll taken known mid xs → AsksAll mid (known_after known xs) end ys → AsksAll taken known end (xs ++ ys)
all_both taken known mid end [] ys e h = subst (λ (t : ℕ). AsksAll t known end ys) e h
all_both taken known mid end (a ∷ xs) ys p h = (p.0, all_both (taken + length a.came) (known ++ a.came) mid end xs ys p.1 h)

empty_both : (taken mid end : ℕ) (xs ys : List Ask) → AsksEmpty taken mid xs → AsksEmpty mid end ys → AsksEmpty taken end (xs ++ ys)
empty_both taken mid end [] ys e h = subst (λ (t : ℕ). AsksEmpty t end ys) e h
empty_both taken mid end (a ∷ xs) ys p h = (p.0, empty_both (taken + length a.came) mid end xs ys p.1 h)

-- no call was made
pub no_asks : (told : Option (List Ask)) (taken : ℕ) (known : List ℕ) → Asks told told (AsksAll taken known taken)
no_asks told taken known = ([], asked_none told, refl)

-- The calls so far, where a head is looked for.
abbrev pub AsksHead : Option (List Ask) → Option (List Ask) → Reading → Reading → Type 0
AsksHead told_old told_new old new = Asks told_old told_new (λ asks. AsksAll old.taken old.pending new.taken asks × Skips (known_after old.pending asks) new.pending)

pub no_head_asks : (told : Option (List Ask)) (old : Reading) → AsksHead told told old old
no_head_asks told old = ([], asked_none told, (refl, skips_none old.pending))

-- the empty lines are passed over
pub head_asks_skipped : (told_old told_new : Option (List Ask)) (old mid new : Reading) → AsksHead told_old told_new old mid → new ≡ with_pending mid (drop (blank mid.pending) mid.pending) → AsksHead told_old told_new old new
head_asks_skipped told_old told_new old mid new h e =
    let same : AsksHead told_old told_new old (with_pending mid (drop (blank mid.pending) mid.pending)) =
    (h.0, h.1, (h.2.0, skips_on (known_after old.pending h.0) mid.pending h.2.1)) in
    subst (AsksHead told_old told_new old) (sym e) same

-- what stands behind the empty lines
rest_is : (known pending : List ℕ) → Skips known pending → blank pending ≡ 0 → drop (blank known) known ≡ pending
rest_is known pending s none =
    let count : blank known ≡ length s.front = ap blank s.whole ∙ s.blank pending ∙ (omega arith) in
    ap (λ (k : ℕ). drop k known) count ∙ ap (drop (length s.front)) s.whole ∙ drop_at s.front pending (length s.front) refl

room_is : (taken : ℕ) (known pending : List ℕ) (held : ℕ) → Skips known pending → blank pending ≡ 0 → held_of pending ≡ held → min (session_limit - taken) (head_limit - held) ≡ room_for taken known
room_is taken known pending held s none h =
    sym (ap (λ (n : ℕ). min (session_limit - taken) (head_limit - n)) (ap held_of (rest_is known pending s none) ∙ h))

abbrev held_by : List ℕ → Option ℕ → ℕ
held_by request end = if is_some end then 0 else length request

-- a piece more is pending
pub head_asks_more : (told_old told_mid told_new : Option (List Ask)) (old mid new : Reading) (n : ℕ) (piece : List ℕ) → AsksHead told_old told_mid old mid
    → blank mid.pending ≡ 0 → head_end mid.pending ≡ None
    → told_new ≡ asked_more told_mid (ask (min (session_limit - mid.taken) (head_limit - length mid.pending)) (drop (length mid.pending) new.pending) ∷ [])
    → length piece ≡ n → new.pending ≡ mid.pending ++ piece → new.taken ≡ mid.taken + n → AsksHead told_old told_new old new
head_asks_more told_old told_mid told_new old mid new n piece h none by told size pending taken =
    let came : drop (length mid.pending) new.pending ≡ piece = ap (drop (length mid.pending)) pending ∙ drop_at mid.pending piece (length mid.pending) refl in
    let room = min (session_limit - mid.taken) (head_limit - length mid.pending) in
    let known = known_after old.pending h.0 in
    let told' : told_new ≡ asked_more told_mid (ask room piece ∷ []) = told ∙ ap (λ (xs : List ℕ). asked_more told_mid (ask room xs ∷ [])) came in
    let asked : room ≡ room_for mid.taken known = room_is mid.taken known mid.pending (length mid.pending) h.2.1 none (ap (held_by mid.pending) by) in
    let skips : Skips (known ++ piece) new.pending = subst (Skips (known ++ piece)) (sym pending) (skips_more known mid.pending piece h.2.1) in (
      h.0 ++ ask room piece ∷ [],
      asked_both told_old told_mid told_new h.0 (ask room piece ∷ []) h.1 told',
      (
        all_both old.taken old.pending mid.taken new.taken h.0 (ask room piece ∷ []) h.2.0 (asked, omega (arith, taken, size)),
        subst (λ (xs : List ℕ). Skips xs new.pending) (sym (known_both old.pending h.0 (ask room piece ∷ []))) skips,
      ),
    )

-- the call failed
pub head_asks_failed : (told_old told_mid told_new : Option (List Ask)) (old mid new : Reading) → AsksHead told_old told_mid old mid → blank mid.pending ≡ 0 → head_end mid.pending ≡ None
    → told_new ≡ asked_more told_mid (ask (min (session_limit - mid.taken) (head_limit - length mid.pending)) (drop (length mid.pending) new.pending) ∷ []) → new ≡ mid → AsksHead told_old told_new old new
head_asks_failed told_old told_mid told_new old mid new h none by told same =
    head_asks_more told_old told_mid told_new old mid new 0 [] h none by told refl
    (ap (λ (r : Reading). r.pending) same ∙ sym (append-nil mid.pending)) (ap (λ (r : Reading). r.taken) same ∙ sym (add-zero mid.taken))

-- The calls so far, where a body is taken.
abbrev pub AsksBody : Option (List Ask) → Option (List Ask) → Reading → Reading → Type 0
AsksBody told_old told_new old new = Asks told_old told_new (AsksEmpty old.taken new.taken)

pub no_body_asks : (told : Option (List Ask)) (old : Reading) → AsksBody told told old old
no_body_asks told old = ([], asked_none told, refl)

pub body_asks_moved : (told_old told_new : Option (List Ask)) (old mid new : Reading) → AsksBody told_old told_new old mid → new ≡ with_pending mid new.pending → AsksBody told_old told_new old new
body_asks_moved told_old told_new old mid new h e = (h.0, h.1, subst (λ (t : ℕ). AsksEmpty old.taken t h.0) (sym (ap (λ (r : Reading). r.taken) e)) h.2)

-- a piece more is pending, alone
pub body_asks_more : (told_old told_mid told_new : Option (List Ask)) (old mid new : Reading) (n : ℕ) (piece : List ℕ) → AsksBody told_old told_mid old mid → mid.pending ≡ []
    → told_new ≡ asked_more told_mid (ask (min (session_limit - mid.taken) (head_limit - length mid.pending)) (drop (length mid.pending) new.pending) ∷ [])
    → length piece ≡ n → new.pending ≡ mid.pending ++ piece → new.taken ≡ mid.taken + n → AsksBody told_old told_new old new
body_asks_more told_old told_mid told_new old mid new n piece h none told size pending taken =
    let room = min (session_limit - mid.taken) head_limit in
    let came : drop (length mid.pending) new.pending ≡ piece = ap (drop (length mid.pending)) pending ∙ drop_at mid.pending piece (length mid.pending) refl in
    let told' : told_new ≡ asked_more told_mid (ask room piece ∷ []) =
    told ∙ ap (λ (xs : List ℕ). asked_more told_mid (ask (min (session_limit - mid.taken) (head_limit - length mid.pending)) xs ∷ [])) came
    ∙ ap (λ (xs : List ℕ). asked_more told_mid (ask (min (session_limit - mid.taken) (head_limit - length xs)) piece ∷ [])) none in (
      h.0 ++ ask room piece ∷ [],
      asked_both told_old told_mid told_new h.0 (ask room piece ∷ []) h.1 told',
      empty_both old.taken mid.taken new.taken h.0 (ask room piece ∷ []) h.2 (refl, omega (arith, taken, size)),
    )

pub body_asks_failed : (told_old told_mid told_new : Option (List Ask)) (old mid new : Reading) → AsksBody told_old told_mid old mid → mid.pending ≡ []
    → told_new ≡ asked_more told_mid (ask (min (session_limit - mid.taken) (head_limit - length mid.pending)) (drop (length mid.pending) new.pending) ∷ []) → new ≡ mid → AsksBody told_old told_new old new
body_asks_failed told_old told_mid told_new old mid new h none told same =
    body_asks_more told_old told_mid told_new old mid new 0 [] h none told refl
    (ap (λ (r : Reading). r.pending) same ∙ sym (append-nil mid.pending)) (ap (λ (r : Reading). r.taken) same ∙ sym (add-zero mid.taken))

-- behind a whole head the buffer is empty
behind_head : (taken end : ℕ) (known pending : List ℕ) (n : ℕ) → Skips known pending → blank pending ≡ 0 → head_end pending ≡ Some n → (asks : List Ask) → AsksEmpty taken end asks → AsksAll taken known end asks
behind_head taken end known pending n s none by [] e = e
behind_head taken end known pending n s none by (a ∷ more) p =
    let w = head_within pending n by in (
      p.0 ∙ room_is taken known pending 0 s none (ap (held_by pending) by),
      behind_head (taken + length a.came) end (known ++ a.came) (pending ++ a.came) n (skips_more known pending a.came s) (blank-append pending a.came (omega (arith, w)) none) (head_end-append pending a.came n by) more p.1,
    )

-- the calls for a head alone
pub asks_of_head : (told_old told_new : Option (List Ask)) (old mid : Reading) (end : ℕ) → AsksHead told_old told_new old mid → end ≡ mid.taken → Asks told_old told_new (AsksAll old.taken old.pending end)
asks_of_head told_old told_new old mid end h e = (h.0, h.1, subst (λ (t : ℕ). AsksAll old.taken old.pending t h.0) (sym e) h.2.0)

-- the calls for a head, and then those for its body
pub asks_of_both : (told_old told_mid told_new : Option (List Ask)) (old mid start new : Reading) (n : ℕ) → AsksHead told_old told_mid old mid → blank mid.pending ≡ 0 → head_end mid.pending ≡ Some n
    → start.taken ≡ mid.taken → AsksBody told_mid told_new start new → Asks told_old told_new (AsksAll old.taken old.pending new.taken)
asks_of_both told_old told_mid told_new old mid start new n h none by same b =
    let rest : AsksEmpty mid.taken new.taken b.0 = subst (λ (t : ℕ). AsksEmpty t new.taken b.0) same b.2 in (
      h.0 ++ b.0,
      asked_both told_old told_mid told_new h.0 b.0 h.1 b.1,
      all_both old.taken old.pending mid.taken new.taken h.0 b.0 h.2.0 (behind_head mid.taken new.taken (known_after old.pending h.0) mid.pending n h.2.1 none by b.0 rest),
    )
