-- How often a fault is noted, and what the devices did.
use Rattle.std.proofs.Common.{◌≡◌, ◌∙◌, ◌≢◌, ◌≤◌, ◌<◌, ◌+◌, ◌*◌, ◌-◌, ◌⊎◌, inl, inr, ⊎_elim, ℕ, Bool, true, false, cond, nat_lt, lt-ltb, List, [], ◌∷◌, ◌++◌, length, map, Option, None, refl, sym, subst, ap, arith}
use Rattle.std.specs.List.{count_by}
use Rattle.std.proofs.lemmas.List.{length-append}
use Rattle.std.proofs.lemmas.List.Sums.{sum_by-append, sum_by-cons}
use Rattle.std.specs.Io.KnownBytes.{Consumes}
use Rattle.std.proofs.KnownBytes.{Consumes-nil, Consumes-trans}
use Rattle.outside.specs.Causes.{Rose, RoseBy, HasCauseIf}
use Rattle.deed_words.specs.Setups.{Setup}
use Rattle.deed_words.specs.World.{World}
use Rattle.deed_words.specs.declared.deed.Deed.{Deed}
use Rattle.deed_words.specs.declared.deed.Deed.TheVariants.{Draw}
use Rattle.deed_words.specs.declared.rule.Rule.{Rule}
use Rattle.deed_words.specs.declared.entry.Ask.{Ask}
use Rattle.deed_words.specs.declared.entry.Entry.{Entry}
use Rattle.deed_words.specs.declared.entry.Note.{Note}
use Rattle.deed_words.specs.declared.entry.Note.TheVariants.{Done, Fault}
use Rattle.deed_words.specs.declared.entry.FaultKind.{FaultKind}
use Rattle.deed_words.specs.declared.entry.FaultKind.TheVariants as kind
use Rattle.site_deeds.specs.Draws.{Spends}
use Rattle.site_store.specs.declared.outcome.Outcome.{Outcome}
use Rattle.site_store.specs.declared.outcome.Outcome.TheVariants.{Replied, NumberReused, NumberGap, DiskFault, ClockFault, ClockRange, WordsFault, WordsSpent, JournalFull, Memory}
use Rattle.site_store.specs.declared.finish.Finish.{Finish}
use Rattle.site_store.specs.declared.finish.Finish.TheVariants as finish
use Rattle.site_store.specs.Entries.{latest}
use Rattle.site_store.specs.Causes.{is_disk_fault, is_clock_fault, is_words_fault, is_pending, tells_disk_fault, RoseJust, HasCauses}
use Rattle.site_store.specs.Moved.{Taken}
use Rattle.site_store.specs.Noting.{Noted, dones, fault, how_often, same_kind, is_fault}
use Rattle.site_store.specs.Standing.{AreCaused}
use Rattle.site_store.specs.States.{State, all_of}
use Rattle.site_store.specs.Steps.{Try, Tries, AreTries, Answers, Written, Lost, Steps, new_in, taken_in, outcomes_in, lost_in, lost_from, notes_in, faults_in, faults_told}
use Rattle.site_store.specs.Tried.{Tried}
use Rattle.site_store.specs.Trying.{Finishes, no_dones}

-- ---- how often a fault is noted

pub often_append : (k : FaultKind) (xs ys : List Noted) → how_often k (xs ++ ys) ≡ how_often k xs + how_often k ys
often_append k xs ys = sum_by-append (λ (x : Noted). cond (is_fault k x.note) 1 0) xs ys

pub often_dones : (k : FaultKind) (worker place : ℕ) (entries : List Entry) → how_often k (dones worker place entries) ≡ 0
often_dones k worker place [] = refl
often_dones k worker place (entry ∷ entries) =
    let one : Noted = record { note = Done place worker; group = entry ∷ [] } in
    let rest = dones worker (place + 1) entries in
    let first : how_often k (one ∷ rest) ≡ 0 + how_often k rest = sum_by-cons (λ (x : Noted). cond (is_fault k x.note) 1 0) one rest in
    omega (arith, first, often_dones k worker (place + 1) entries)

pub often_fault : (k j : FaultKind) (worker : ℕ) (group : List Entry) → how_often k (fault j worker group) ≡ cond (same_kind k j) 1 0
often_fault k j worker group =
    let one : Noted = record { note = Fault j worker; group = group } in
    let first : how_often k (one ∷ []) ≡ cond {A = ℕ} (same_kind k j) 1 0 + 0 = sum_by-cons (λ (x : Noted). cond (is_fault k x.note) 1 0) one [] in
    omega (arith, first)

often_no_dones : (k : FaultKind) (xs : List Noted) → how_often k (no_dones xs) ≡ how_often k xs
often_no_dones k [] = refl
often_no_dones k (x ∷ xs) = by_note x.note (often_no_dones k xs)
  where
    by_note : (n : Note) → how_often k (no_dones xs) ≡ how_often k xs → how_often k (no_dones (record { note = n; group = x.group } ∷ xs)) ≡ how_often k (record { note = n; group = x.group } ∷ xs)
    by_note (Done place worker) rest =
        let one : Noted = record { note = Done place worker; group = x.group } in
        let first : how_often k (one ∷ xs) ≡ 0 + how_often k xs = sum_by-cons (λ (y : Noted). cond (is_fault k y.note) 1 0) one xs in
        omega (arith, first, rest)
    by_note (Fault j worker) rest =
        let one : Noted = record { note = Fault j worker; group = x.group } in
        let first : how_often k (one ∷ xs) ≡ cond {A = ℕ} (same_kind k j) 1 0 + how_often k xs = sum_by-cons (λ (y : Noted). cond (is_fault k y.note) 1 0) one xs in
        let second : how_often k (one ∷ no_dones xs) ≡ cond {A = ℕ} (same_kind k j) 1 0 + how_often k (no_dones xs) = sum_by-cons (λ (y : Noted). cond (is_fault k y.note) 1 0) one (no_dones xs) in
        omega (arith, first, second, rest)

-- ---- what the outcome of one request tells

disk_told : (worker : ℕ) (outcome : Outcome) → how_often kind.Disk (faults_told worker outcome) ≡ 0
disk_told worker (Replied reply) = refl
disk_told worker NumberReused = refl
disk_told worker (NumberGap last) = refl
disk_told worker DiskFault = refl
disk_told worker ClockFault = often_fault kind.Disk kind.Clock worker []
disk_told worker (ClockRange ms) = often_fault kind.Disk kind.Range worker []
disk_told worker WordsFault = often_fault kind.Disk kind.Words worker []
disk_told worker (WordsSpent found) = often_fault kind.Disk kind.Spent worker []
disk_told worker (JournalFull told asked) = refl
disk_told worker Memory = refl

pub clock_told : (worker : ℕ) (outcome : Outcome) → how_often kind.Clock (faults_told worker outcome) ≡ cond (is_clock_fault outcome) 1 0
clock_told worker (Replied reply) = refl
clock_told worker NumberReused = refl
clock_told worker (NumberGap last) = refl
clock_told worker DiskFault = refl
clock_told worker ClockFault = often_fault kind.Clock kind.Clock worker []
clock_told worker (ClockRange ms) = often_fault kind.Clock kind.Range worker []
clock_told worker WordsFault = often_fault kind.Clock kind.Words worker []
clock_told worker (WordsSpent found) = often_fault kind.Clock kind.Spent worker []
clock_told worker (JournalFull told asked) = refl
clock_told worker Memory = refl

pub words_told : (worker : ℕ) (outcome : Outcome) → how_often kind.Words (faults_told worker outcome) ≡ cond (is_words_fault outcome) 1 0
words_told worker (Replied reply) = refl
words_told worker NumberReused = refl
words_told worker (NumberGap last) = refl
words_told worker DiskFault = refl
words_told worker ClockFault = often_fault kind.Words kind.Clock worker []
words_told worker (ClockRange ms) = often_fault kind.Words kind.Range worker []
words_told worker WordsFault = often_fault kind.Words kind.Words worker []
words_told worker (WordsSpent found) = often_fault kind.Words kind.Spent worker []
words_told worker (JournalFull told asked) = refl
words_told worker Memory = refl

past_one : (ms : ℕ) → latest < ms → 1 ≤ count_by (λ m. nat_lt latest m) (ms ∷ [])
past_one ms past =
    let one : count_by (λ m. nat_lt latest m) (ms ∷ []) ≡ cond {A = ℕ} (nat_lt latest ms) 1 0 + 0 = sum_by-cons (λ (m : ℕ). cond (nat_lt latest m) 1 0) ms [] in
    let yes : cond {A = ℕ} (nat_lt latest ms) 1 0 ≡ 1 = ap (λ (b : Bool). cond b 1 0) (lt-ltb latest ms past) in
    omega (arith, one, yes)

range_told : (site : Setup) (end : ℕ) (g front : List Entry) (worker : ℕ) (ask : Ask) (taken : Taken) (outcome : Outcome) (new : List Entry) → Tries site end g front worker ask taken outcome new → how_often kind.Range (faults_told worker outcome) ≤ count_by (λ ms. nat_lt latest ms) taken.moments
range_told site end g front worker ask taken (ClockRange ms) new is =
    let one = often_fault kind.Range kind.Range worker [] in
    let past = subst (λ (t : Taken). 1 ≤ count_by (λ m. nat_lt latest m) t.moments) (sym is.0.took) (past_one ms is.0.past) in omega (arith, one, past)
range_told site end g front worker ask taken ClockFault new is = let none = often_fault kind.Range kind.Clock worker [] in omega (arith, none)
range_told site end g front worker ask taken WordsFault new is = let none = often_fault kind.Range kind.Words worker [] in omega (arith, none)
range_told site end g front worker ask taken (WordsSpent found) new is = let none = often_fault kind.Range kind.Spent worker [] in omega (arith, none)
range_told site end g front worker ask taken (Replied reply) new is = omega arith
range_told site end g front worker ask taken NumberReused new is = omega arith
range_told site end g front worker ask taken (NumberGap last) new is = omega arith
range_told site end g front worker ask taken DiskFault new is = omega arith
range_told site end g front worker ask taken (JournalFull told asked) new is = omega arith
range_told site end g front worker ask taken Memory new is = omega arith

spends_long : (site : Setup) (w : World) (rule : Option Rule) (deed : Deed) (taken : List ℕ) (found : ℕ) → Spends site w rule deed taken found → 68 ≤ length taken
unfolding Spends
spends_long site w None (Draw name count) taken found is = omega (arith, is.all, is.few)
spends_long site w rule deed taken found is = absurd is

spent_told : (site : Setup) (end : ℕ) (g front : List Entry) (worker : ℕ) (ask : Ask) (taken : Taken) (outcome : Outcome) (new : List Entry) → Tries site end g front worker ask taken outcome new → 68 * how_often kind.Spent (faults_told worker outcome) ≤ length taken.words
spent_told site end g front worker ask taken (WordsSpent found) new is =
    let one = often_fault kind.Spent kind.Spent worker [] in
    let long = spends_long _ _ _ _ taken.words found is.0.spends in omega (arith, one, long)
spent_told site end g front worker ask taken ClockFault new is = let none = often_fault kind.Spent kind.Clock worker [] in omega (arith, none)
spent_told site end g front worker ask taken (ClockRange ms) new is = let none = often_fault kind.Spent kind.Range worker [] in omega (arith, none)
spent_told site end g front worker ask taken WordsFault new is = let none = often_fault kind.Spent kind.Words worker [] in omega (arith, none)
spent_told site end g front worker ask taken (Replied reply) new is = omega arith
spent_told site end g front worker ask taken NumberReused new is = omega arith
spent_told site end g front worker ask taken (NumberGap last) new is = omega arith
spent_told site end g front worker ask taken DiskFault new is = omega arith
spent_told site end g front worker ask taken (JournalFull told asked) new is = omega arith
spent_told site end g front worker ask taken Memory new is = omega arith

-- ---- what those of a group tell

often_notes : (k : FaultKind) (worker place : ℕ) (ts : List Try) → how_often k (notes_in worker place ts) ≡ how_often k (faults_in worker ts)
often_notes k worker place [] = refl
often_notes k worker place (t ∷ ts) =
    let told = faults_told worker t.outcome in
    let new = dones worker place t.new in
    omega (arith, often_append k (told ++ new) (notes_in worker (place + length t.new) ts), often_append k told new, often_dones k worker place t.new, often_notes k worker (place + length t.new) ts, often_append k told (faults_in worker ts))

disk_in : (worker : ℕ) (ts : List Try) → how_often kind.Disk (faults_in worker ts) ≡ 0
disk_in worker [] = refl
disk_in worker (t ∷ ts) = omega (arith, often_append kind.Disk (faults_told worker t.outcome) (faults_in worker ts), disk_told worker t.outcome, disk_in worker ts)

range_in : (site : Setup) (end : ℕ) (g front : List Entry) (worker : ℕ) (ts : List Try) → AreTries site end g front worker ts → how_often kind.Range (faults_in worker ts) ≤ count_by (λ ms. nat_lt latest ms) (taken_in ts).moments
range_in site end g front worker [] are = omega arith
range_in site end g front worker (t ∷ ts) are =
    let over : ℕ → ℕ = λ m. cond (nat_lt latest m) 1 0 in
    omega (
      arith,
      often_append kind.Range (faults_told worker t.outcome) (faults_in worker ts),
      range_told site end g front worker t.ask t.taken t.outcome t.new are.0,
      range_in site end (g ++ t.new) (front ++ t.new) worker ts are.1,
      sum_by-append over t.taken.moments (taken_in ts).moments,
    )

spent_in : (site : Setup) (end : ℕ) (g front : List Entry) (worker : ℕ) (ts : List Try) → AreTries site end g front worker ts → 68 * how_often kind.Spent (faults_in worker ts) ≤ length (taken_in ts).words
spent_in site end g front worker [] are = omega arith
spent_in site end g front worker (t ∷ ts) are =
    omega (
      arith,
      often_append kind.Spent (faults_told worker t.outcome) (faults_in worker ts),
      spent_told site end g front worker t.ask t.taken t.outcome t.new are.0,
      spent_in site end (g ++ t.new) (front ++ t.new) worker ts are.1,
      length-append t.taken.words (taken_in ts).words,
    )

-- the faults of the requests, and one of the disk where the append failed
pub answers_often : (k : FaultKind) (site : Setup) (end : ℕ) (g : List Entry) (worker : ℕ) (asks : List Ask) (taken : Taken) (outcomes : List Outcome) (new : State) (more : List Noted) (a : Answers site end g worker asks taken outcomes new more) → same_kind k kind.Disk ≡ false → how_often k more ≡ how_often k (faults_in worker a.tries)
answers_often k site end g worker asks taken outcomes new more a other = by_comes a.comes
  where
    by_comes : Written g worker a.tries outcomes new more ⊎ Lost g worker a.tries outcomes new more → how_often k more ≡ how_often k (faults_in worker a.tries)
    by_comes (inl w) = ap (λ (l : List Noted). how_often k l) w.notes_are ∙ often_notes k worker (length g) a.tries
    by_comes (inr l) =
        let is = ap (λ (n : List Noted). how_often k n) l.notes_are in
        let none : cond {A = ℕ} (same_kind k kind.Disk) 1 0 ≡ 0 = ap (λ (b : Bool). cond b 1 0) other in
        omega (arith, is, often_append k (faults_in worker a.tries) (fault kind.Disk worker new.pending), often_fault k kind.Disk worker new.pending, none)

-- ---- the disk is blamed where an answer tells it

tells_map : {X : Type 0} (xs : List X) (outcome : Outcome) (pending : List Entry) → xs ≢ [] → is_disk_fault outcome pending ≡ true → tells_disk_fault (map (λ (x : X). outcome) xs) pending ≡ true
tells_map [] outcome pending some is = absurd (some refl)
tells_map (x ∷ xs) outcome pending some is = ap (λ (b : Bool). cond b true (tells_disk_fault (map (λ (y : _). outcome) xs) pending)) is

cond_true : (b : Bool) → cond b true true ≡ true
cond_true true = refl
cond_true false = refl

pub lost_tells : (ts : List Try) (pending : List Entry) → new_in ts ≢ [] → tells_disk_fault (lost_in ts) pending ≡ true
lost_tells [] pending some = absurd (some refl)
lost_tells (t ∷ ts) pending some = by_new (λ rest. lost_tells ts pending rest) t.new some
  where
    by_new : (new_in ts ≢ [] → tells_disk_fault (lost_in ts) pending ≡ true) → (new : List Entry) → (new ++ new_in ts ≢ []) → tells_disk_fault (lost_from new t.outcome ts (lost_in ts)) pending ≡ true
    by_new go [] rest = ap (λ (b : Bool). cond (is_disk_fault t.outcome pending) true b) (go rest) ∙ cond_true (is_disk_fault t.outcome pending)
    by_new go (entry ∷ entries) rest = refl

pub tries_tell : (site : Setup) (end : ℕ) (g front : List Entry) (worker : ℕ) (ask : Ask) (taken : Taken) (outcome : Outcome) (new : List Entry) → Tries site end g front worker ask taken outcome new → is_disk_fault outcome [] ≡ false
tries_tell site end g front worker ask taken (Replied reply) new is = refl
tries_tell site end g front worker ask taken NumberReused new is = refl
tries_tell site end g front worker ask taken (NumberGap last) new is = refl
tries_tell site end g front worker ask taken ClockFault new is = refl
tries_tell site end g front worker ask taken (ClockRange ms) new is = refl
tries_tell site end g front worker ask taken WordsFault new is = refl
tries_tell site end g front worker ask taken (WordsSpent found) new is = refl
tries_tell site end g front worker ask taken (JournalFull told asked) new is = refl
tries_tell site end g front worker ask taken DiskFault new is = absurd is
tries_tell site end g front worker ask taken Memory new is = refl

pub written_tell : (site : Setup) (end : ℕ) (g front : List Entry) (worker : ℕ) (ts : List Try) → AreTries site end g front worker ts → tells_disk_fault (outcomes_in ts) [] ≡ false
written_tell site end g front worker [] are = refl
written_tell site end g front worker (t ∷ ts) are =
    ap (λ (b : Bool). cond b true (tells_disk_fault (outcomes_in ts) [])) (tries_tell site end g front worker t.ask t.taken t.outcome t.new are.0) ∙ written_tell site end (g ++ t.new) (front ++ t.new) worker ts are.1

pub wanting_tell : {X : Type 0} (xs : List X) → tells_disk_fault (map (λ (x : X). Memory) xs) [] ≡ false
wanting_tell [] = refl
wanting_tell (x ∷ xs) = wanting_tell xs

pub failed_tell : (asks : List Ask) (pending : List Entry) → asks ≢ [] → tells_disk_fault (map (λ (ask : Ask). DiskFault) asks) pending ≡ true
failed_tell asks pending some = tells_map asks DiskFault pending some refl

pub some_pending : (pending : List Entry) → pending ≢ [] → is_pending pending ≡ true
some_pending [] some = absurd (some refl)
some_pending (entry ∷ entries) some = refl

pub behind_tell : (asks : List Ask) (pending : List Entry) → asks ≢ [] → pending ≢ [] → tells_disk_fault (map (λ (ask : Ask). Memory) asks) pending ≡ true
behind_tell asks pending some behind = tells_map asks Memory pending some (some_pending pending behind)

-- a fault of the disk is noted at most once in a step, and then an answer tells it
steps_disk : (site : Setup) (end : ℕ) (old : State) (worker : ℕ) (asks : List Ask) (taken : Taken) (outcomes : List Outcome) (new : State) (notes : List Noted) → asks ≢ [] → Steps site end old worker asks taken outcomes new notes
    → (how_often kind.Disk notes ≡ 0) ⊎ ((how_often kind.Disk notes ≡ 1) × (tells_disk_fault outcomes new.pending ≡ true))
steps_disk site end old worker asks taken outcomes new notes some (inl un) = ⊎_elim
    (λ failed. inr (ap (λ (ns : List Noted). how_often kind.Disk ns) failed.1 ∙ often_fault kind.Disk kind.Disk worker [], ap (λ (os : List Outcome). tells_disk_fault os new.pending) failed.0 ∙ failed_tell asks new.pending some))
    (λ wants. inl (ap (λ (ns : List Noted). how_often kind.Disk ns) wants.1)) un.told
steps_disk site end old worker asks taken outcomes new notes some (inr m) =
    let first = dones worker (length old.history) old.pending in
    let is : how_often kind.Disk notes ≡ how_often kind.Disk (first ++ m.more) = ap (λ (ns : List Noted). how_often kind.Disk ns) m.notes_are in
    let both = often_append kind.Disk first m.more in
    let none = often_dones kind.Disk worker (length old.history) old.pending in
    let ts = m.answers.tries in
    let faults = disk_in worker ts in
    ⊎_elim
    (λ w. let more = ap (λ (l : List Noted). how_often kind.Disk l) w.notes_are in let n = often_notes kind.Disk worker (length (all_of old)) ts in inl (omega (arith, is, both, none, more, n, faults)))
    (λ l. let more = ap (λ (ns : List Noted). how_often kind.Disk ns) l.notes_are in let n = often_append kind.Disk (faults_in worker ts) (fault kind.Disk worker new.pending) in let one = often_fault kind.Disk kind.Disk worker new.pending in
    inr (omega (arith, is, both, none, more, n, one, faults), ap (λ (os : List Outcome). tells_disk_fault os new.pending) l.outcomes_are ∙ lost_tells ts new.pending l.some))
    m.answers.comes

-- ---- ranges and spent words over a step

steps_range : (site : Setup) (end : ℕ) (old : State) (worker : ℕ) (asks : List Ask) (taken : Taken) (outcomes : List Outcome) (new : State) (notes : List Noted) → Steps site end old worker asks taken outcomes new notes → how_often kind.Range notes ≤ count_by (λ ms. nat_lt latest ms) taken.moments
steps_range site end old worker asks taken outcomes new notes (inl un) =
    let none : how_often kind.Range notes ≡ 0 = ⊎_elim (λ failed. ap (λ (ns : List Noted). how_often kind.Range ns) failed.1 ∙ often_fault kind.Range kind.Disk worker []) (λ wants. ap (λ (ns : List Noted). how_often kind.Range ns) wants.1) un.told in
    omega (arith, none)
steps_range site end old worker asks taken outcomes new notes (inr m) =
    let first = dones worker (length old.history) old.pending in
    let is : how_often kind.Range notes ≡ how_often kind.Range (first ++ m.more) = ap (λ (ns : List Noted). how_often kind.Range ns) m.notes_are in
    let most = subst (λ (t : Taken). how_often kind.Range (faults_in worker m.answers.tries) ≤ count_by (λ ms. nat_lt latest ms) t.moments) (sym m.answers.taken_is) (range_in site end (all_of old) [] worker m.answers.tries m.answers.are) in
    omega (arith, is, often_append kind.Range first m.more, often_dones kind.Range worker (length old.history) old.pending, answers_often kind.Range site end (all_of old) worker asks taken outcomes new m.more m.answers refl, most)

steps_spent : (site : Setup) (end : ℕ) (old : State) (worker : ℕ) (asks : List Ask) (taken : Taken) (outcomes : List Outcome) (new : State) (notes : List Noted) → Steps site end old worker asks taken outcomes new notes → 68 * how_often kind.Spent notes ≤ length taken.words
steps_spent site end old worker asks taken outcomes new notes (inl un) =
    let none : how_often kind.Spent notes ≡ 0 = ⊎_elim (λ failed. ap (λ (ns : List Noted). how_often kind.Spent ns) failed.1 ∙ often_fault kind.Spent kind.Disk worker []) (λ wants. ap (λ (ns : List Noted). how_often kind.Spent ns) wants.1) un.told in
    omega (arith, none)
steps_spent site end old worker asks taken outcomes new notes (inr m) =
    let first = dones worker (length old.history) old.pending in
    let is : how_often kind.Spent notes ≡ how_often kind.Spent (first ++ m.more) = ap (λ (ns : List Noted). how_often kind.Spent ns) m.notes_are in
    let most = subst (λ (t : Taken). 68 * how_often kind.Spent (faults_in worker m.answers.tries) ≤ length t.words) (sym m.answers.taken_is) (spent_in site end (all_of old) [] worker m.answers.tries m.answers.are) in
    omega (arith, is, often_append kind.Spent first m.more, often_dones kind.Spent worker (length old.history) old.pending, answers_often kind.Spent site end (all_of old) worker asks taken outcomes new m.more m.answers refl, most)

-- ---- counts of devices

rose_one : (n m a b c : ℕ) → RoseBy n a b → b ≤ c → (m ≡ 0) ⊎ ((m ≡ 1) × Rose b c) → RoseBy (n + m) a c
rose_one n m a b c was later (inl none) = omega (arith, was, later, none)
rose_one n m a b c was later (inr one) = omega (arith, was, later, one.0, one.1)

rose_more : (n m a b c : ℕ) → RoseBy n a b → b ≤ c → RoseBy m b c → RoseBy (n + m) a c
rose_more n m a b c was later more = omega (arith, was, later, more)

blamed_rose : (b c : ℕ) (blamed : Bool) → HasCauseIf blamed b c → blamed ≡ true → Rose b c
blamed_rose b c true cause is = cause.failed
blamed_rose b c false cause is = absurd (cc)

pub just_start : (n a : ℕ) → n ≡ 0 → RoseJust n a a
just_start n a none = record { later = omega arith; rose = omega (arith, none); kept = λ _. refl }

pub just_more : (n n' a b c : ℕ) (blamed : Bool) → RoseJust n a b → HasCauseIf blamed b c → n' ≡ n + cond blamed 1 0 → RoseJust n' a c
just_more n n' a b c true was cause is =
    let rose : RoseBy (n + 1) a c = rose_more n 1 a b c was.rose cause.later cause.failed in
    record { later = omega (arith, was.later, cause.later); rose = subst (λ (m : ℕ). RoseBy m a c) (sym is) rose; kept = λ none. absurd (omega (arith, is, none)) }
just_more n n' a b c false was cause is =
    record { later = omega (arith, was.later, cause.later); rose = omega (arith, was.rose, cause.later, is); kept = λ none. cause.kept ∙ was.kept (omega (arith, is, none)) }

pub just_is : (n n' a a' b b' : ℕ) → RoseJust n a b → n' ≡ n → a' ≡ a → b' ≡ b → RoseJust n' a' b'
just_is n n' a a' b b' was n_is a_is b_is = subst (λ (m : ℕ). RoseJust m a' b') (sym n_is) (subst (λ (m : ℕ). RoseJust n m b') (sym a_is) (subst (λ (m : ℕ). RoseJust n a m) (sym b_is) was))

-- ---- all of it

pub steps_caused : (site : Setup) (end : ℕ) (old : State) (worker : ℕ) (asks : List Ask) (taken : Taken) (outcomes : List Outcome) (new : State) (notes noted noted' : List Noted) (d0 d1 d2 c0 c1 c2 w0 w1 w2 : ℕ) (m0 m1 m2 l0 l1 l2 : Option (List ℕ))
    → AreCaused d0 d1 c0 c1 w0 w1 m0 m1 l0 l1 noted → asks ≢ [] → Steps site end old worker asks taken outcomes new notes → noted' ≡ noted ++ notes
    → HasCauseIf (tells_disk_fault outcomes new.pending) d1 d2 → HasCauses kind.Clock noted noted' c1 c2 → HasCauses kind.Words noted noted' w1 w2 → Consumes m1 m2 taken.moments → Consumes l1 l2 taken.words
    → AreCaused d0 d2 c0 c2 w0 w2 m0 m2 l0 l2 noted'
steps_caused site end old worker asks taken outcomes new notes noted noted' d0 d1 d2 c0 c1 c2 w0 w1 w2 m0 m1 m2 l0 l1 l2 was some steps is disk clock words moments left =
    let often : (k : FaultKind) → how_often k noted' ≡ how_often k noted + how_often k notes = λ k. ap (λ (ns : List Noted). how_often k ns) is ∙ often_append k noted notes in
    let range = steps_range site end old worker asks taken outcomes new notes steps in
    let spent = steps_spent site end old worker asks taken outcomes new notes steps in
    let over : ℕ → ℕ = λ m. cond (nat_lt latest m) 1 0 in
    let blamed : (how_often kind.Disk notes ≡ 0) ⊎ ((how_often kind.Disk notes ≡ 1) × Rose d1 d2) = ⊎_elim (λ none. inl none) (λ one. inr (one.0, blamed_rose d1 d2 (tells_disk_fault outcomes new.pending) disk one.1)) (steps_disk site end old worker asks taken outcomes new notes some steps) in
    let c = often kind.Clock in
    let w = often kind.Words in
    let clock_is : how_often kind.Clock noted' - how_often kind.Clock noted ≡ how_often kind.Clock notes = omega (arith, c) in
    let words_is : how_often kind.Words noted' - how_often kind.Words noted ≡ how_often kind.Words notes = omega (arith, w) in
    record {
      disk = subst (λ (n : ℕ). RoseBy n d0 d2) (sym (often kind.Disk)) (rose_one (how_often kind.Disk noted) (how_often kind.Disk notes) d0 d1 d2 was.disk disk.later blamed);
      clock = subst (λ (n : ℕ). RoseBy n c0 c2) (sym c) (rose_more (how_often kind.Clock noted) (how_often kind.Clock notes) c0 c1 c2 was.clock clock.later (subst (λ (n : ℕ). RoseBy n c1 c2) clock_is clock.rose));
      words = subst (λ (n : ℕ). RoseBy n w0 w2) (sym w) (rose_more (how_often kind.Words noted) (how_often kind.Words notes) w0 w1 w2 was.words words.later (subst (λ (n : ℕ). RoseBy n w1 w2) words_is words.rose));
      range = (was.range.0 ++ taken.moments, Consumes-trans m0 m1 m2 was.range.0 taken.moments was.range.1 moments, omega (arith, often kind.Range, sum_by-append over was.range.0 taken.moments, was.range.2, range));
      spent = (was.spent.0 ++ taken.words, Consumes-trans l0 l1 l2 was.spent.0 taken.words was.spent.1 left, omega (arith, often kind.Spent, length-append was.spent.0 taken.words, was.spent.2, spent));
    }

-- ---- one request more of a group, and the end of it

pub often_tried : (k : FaultKind) (site : Setup) (end : ℕ) (h h' front front' : List Entry) (noted noted' : List Noted) (worker : ℕ) (ask : Ask) (taken : Taken) (outcome : Outcome) → Tried site end h h' front front' noted noted' worker ask taken outcome → how_often k noted' ≡ how_often k noted + how_often k (faults_told worker outcome)
often_tried k site end h h' front front' noted noted' worker ask taken outcome t =
    let is = ap (λ (l : List Noted). how_often k l) t.noted_is in
    omega (arith, is, often_append k noted (faults_told worker outcome ++ dones worker (length h) t.new), often_append k (faults_told worker outcome) (dones worker (length h) t.new), often_dones k worker (length h) t.new)

pub often_finished : (k : FaultKind) (g new : List Entry) (worker : ℕ) (noted : List Noted) (done : Finish) (state : State) (more : List Noted) → Finishes g new worker noted done state more → same_kind k kind.Disk ≡ false → how_often k more ≡ how_often k noted
often_finished k g new worker noted finish.Written state more is other = ap (λ (l : List Noted). how_often k l) is.1
often_finished k g new worker noted finish.Lost state more is other =
    let same = ap (λ (l : List Noted). how_often k l) is.3 in
    let none : cond {A = ℕ} (same_kind k kind.Disk) 1 0 ≡ 0 = ap (λ (b : Bool). cond b 1 0) other in
    omega (arith, same, often_append k (no_dones noted) (fault kind.Disk worker state.pending), often_fault k kind.Disk worker state.pending, none, often_no_dones k noted)

-- .. by what was noted since
pub causes_of : (k : FaultKind) (log log' log'' more : List Noted) (n a a' b b' : ℕ) → log' ≡ log → log'' ≡ log ++ more → how_often k more ≡ n → RoseJust n a b → a' ≡ a → b' ≡ b → HasCauses k log' log'' a' b'
causes_of k log log' log'' more n a a' b b' same is often was a_is b_is =
    let first = ap (λ (l : List Noted). how_often k l) same in
    let last = ap (λ (l : List Noted). how_often k l) is in
    let both = often_append k log more in
    just_is n (how_often k log'' - how_often k log') a a' b b' was (omega (arith, first, last, both, often)) a_is b_is

-- after a mend, which notes no fault of this kind
pub causes_after : (k : FaultKind) (log mid new first : List Noted) (a b c : ℕ) → mid ≡ log ++ first → how_often k first ≡ 0 → b ≡ a → HasCauses k mid new b c → HasCauses k log new a c
causes_after k log mid new first a b c is none same was =
    let long = ap (λ (l : List Noted). how_often k l) is in
    let both = often_append k log first in
    just_is (how_often k new - how_often k mid) (how_often k new - how_often k log) b a c c was (omega (arith, long, both, none)) (sym same) refl

pub causes_none : (k : FaultKind) (log new more : List Noted) (a c : ℕ) → new ≡ log ++ more → how_often k more ≡ 0 → c ≡ a → HasCauses k log new a c
causes_none k log new more a c is none same =
    let long = ap (λ (l : List Noted). how_often k l) is in
    let both = often_append k log more in
    just_is 0 (how_often k new - how_often k log) a a a c (just_start 0 a refl) (omega (arith, long, both, none)) refl same

-- ---- whom an answer blames

pub cause_is : (b b' : Bool) (a a' c c' : ℕ) → HasCauseIf b a c → b' ≡ b → a' ≡ a → c' ≡ c → HasCauseIf b' a' c'
cause_is b b' a a' c c' was b_is a_is c_is = subst (λ (x : Bool). HasCauseIf x a' c') (sym b_is) (subst (λ (n : ℕ). HasCauseIf b n c') (sym a_is) (subst (λ (n : ℕ). HasCauseIf b a n) (sym c_is) was))

pub unblamed : (b : Bool) (a c : ℕ) → b ≡ false → c ≡ a → HasCauseIf b a c
unblamed b a c none same = cause_is false b a a a c (record { later = omega arith; failed = tt; kept = refl }) none refl same

pub tells_single : (outcome : Outcome) (pending : List Entry) → tells_disk_fault (outcome ∷ []) pending ≡ is_disk_fault outcome pending
tells_single outcome pending = by_it (is_disk_fault outcome pending)
  where
    by_it : (b : Bool) → cond b true false ≡ b
    by_it true = refl
    by_it false = refl

-- an answer that tells a fault of this kind is blamed for one, and any other for none
pub just_one : (n a c : ℕ) (blamed : Bool) → HasCauseIf blamed a c → n ≡ cond blamed 1 0 → RoseJust n a c
just_one n a c true cause is = record { later = cause.later; rose = subst (λ (m : ℕ). RoseBy m a c) (sym is) cause.failed; kept = λ none. absurd (omega (arith, is, none)) }
just_one n a c false cause is = record { later = cause.later; rose = omega (arith, cause.later, is); kept = λ _. cause.kept }

pub new_blames : (site : Setup) (end : ℕ) (g front : List Entry) (worker : ℕ) (ask : Ask) (taken : Taken) (outcome : Outcome) (new : List Entry) → Tries site end g front worker ask taken outcome new → new ≢ [] → (is_clock_fault outcome ≡ false) × (is_words_fault outcome ≡ false)
new_blames site end g front worker ask taken (Replied reply) new is some = (refl, refl)
new_blames site end g front worker ask taken NumberReused new is some = (refl, refl)
new_blames site end g front worker ask taken (NumberGap last) new is some = (refl, refl)
new_blames site end g front worker ask taken ClockFault new is some = absurd (some is.1)
new_blames site end g front worker ask taken (ClockRange ms) new is some = (refl, refl)
new_blames site end g front worker ask taken WordsFault new is some = absurd (some is.1)
new_blames site end g front worker ask taken (WordsSpent found) new is some = (refl, refl)
new_blames site end g front worker ask taken (JournalFull told asked) new is some = (refl, refl)
new_blames site end g front worker ask taken DiskFault new is some = (refl, refl)
new_blames site end g front worker ask taken Memory new is some = (refl, refl)

-- nothing was noted and nothing was done
pub first_caused : (d0 d1 c0 c1 w0 w1 : ℕ) (m0 m1 l0 l1 : Option (List ℕ)) (noted : List Noted) → noted ≡ [] → d1 ≡ d0 → c1 ≡ c0 → w1 ≡ w0 → m1 ≡ m0 → l1 ≡ l0 → AreCaused d0 d1 c0 c1 w0 w1 m0 m1 l0 l1 noted
first_caused d0 d1 c0 c1 w0 w1 m0 m1 l0 l1 noted none d c w m l =
    let never : (k : FaultKind) → how_often k noted ≡ 0 = λ k. ap (λ (ns : List Noted). how_often k ns) none in
    let disk = never kind.Disk in
    let clock = never kind.Clock in
    let words = never kind.Words in
    let range = never kind.Range in
    let spent = never kind.Spent in
    record {
      disk = omega (arith, disk, d);
      clock = omega (arith, clock, c);
      words = omega (arith, words, w);
      range = ([], subst (λ (x : Option (List ℕ)). Consumes m0 x []) (sym m) (Consumes-nil m0), omega (arith, range));
      spent = ([], subst (λ (x : Option (List ℕ)). Consumes l0 x []) (sym l) (Consumes-nil l0), omega (arith, spent));
    }
