-- How often the faults of devices were told.
use Rattle.std.proofs.Common.{◌≡◌, ◌≤◌, ℕ, ◌+◌, Bool, true, false, cond, List, [], ◌∷◌, Result, Ok, Err, refl, sym, subst, ap, arith, inl, inr}
use Rattle.std.specs.Prelude.{count_by}
use Rattle.std.proofs.lemmas.List.Sums.{sum_by-cons}
use Rattle.outside.specs.Causes.{RoseBy, HasCauseIf}
use Rattle.deed_words.specs.Setups.{Setup}
use Rattle.deed_words.specs.declared.entry.Entry.{Entry}
use Rattle.site_store.specs.declared.outcome.Outcome.{Outcome}
use Rattle.site_store.specs.declared.outcome.Outcome.TheVariants.{Replied, NumberReused, NumberGap, DiskFault, ClockFault, ClockRange, WordsFault, WordsSpent, JournalFull, Memory as NoRoom}
use Rattle.site_store.specs.Causes.{is_disk_fault}
use Rattle.site_console.specs.declared.answer.Answer.{Answer}
use Rattle.site_console.specs.declared.answer.Answer.TheVariants.{TooLong, Unasked, NoMemory, Came}
use Rattle.site_console.specs.declared.fault.Fault.{Fault}
use Rattle.site_console.specs.declared.fault.Fault.TheVariants.{Read, Write, Memory, InputTooLong}
use Rattle.site_console.specs.Answers.{tells, tells_disk_fault, tells_clock_fault, tells_words_fault}
use Rattle.site_console.specs.Open.{Point}
use Rattle.site_console.specs.Script.{Exchange, Run, Talk, StopsInside, Ended, Counted}
use Rattle.site_console.specs.Told.{Counts, RoseIf}

-- a count that has a cause rose where the fault was told
rose_if : (b : Bool) (before now : ℕ) → HasCauseIf b before now → RoseIf b before now
rose_if b before now cause = record { later = cause.later; rose = cause.failed }

-- the disk is blamed where its fault is told
disk_blamed : (outcome : Outcome) (pending : List Entry) → is_disk_fault outcome [] ≡ true → is_disk_fault outcome pending ≡ true
disk_blamed DiskFault pending told = refl
disk_blamed NoRoom pending told = absurd cc
disk_blamed (Replied reply) pending told = absurd cc
disk_blamed NumberReused pending told = absurd cc
disk_blamed (NumberGap last) pending told = absurd cc
disk_blamed ClockFault pending told = absurd cc
disk_blamed (ClockRange ms) pending told = absurd cc
disk_blamed WordsFault pending told = absurd cc
disk_blamed (WordsSpent found) pending told = absurd cc
disk_blamed (JournalFull end asked) pending told = absurd cc

weaker : (a b : Bool) (before now : ℕ) → (a ≡ true → b ≡ true) → HasCauseIf b before now → RoseIf a before now
weaker false b before now so cause = record { later = cause.later; rose = tt }
weaker true b before now so cause = rose_if true before now (subst (λ (x : Bool). HasCauseIf x before now) (so refl) cause)

disk_rose : (answer : Answer) (pending : List Entry) (before now : ℕ) → HasCauseIf (tells (λ outcome. is_disk_fault outcome pending) answer) before now → RoseIf (tells_disk_fault answer) before now
disk_rose TooLong pending before now cause = rose_if false before now cause
disk_rose (Unasked fault) pending before now cause = rose_if false before now cause
disk_rose NoMemory pending before now cause = rose_if false before now cause
disk_rose (Came outcome) pending before now cause = weaker (is_disk_fault outcome []) (is_disk_fault outcome pending) before now (disk_blamed outcome pending) cause

-- one exchange, and then more
rose_more : (b : Bool) (n before mid now : ℕ) → RoseIf b before mid → RoseBy n mid now → RoseBy (cond b 1 0 + n) before now
rose_more true n before mid now first rest = let one = first.rose in let later = first.later in omega arith
rose_more false n before mid now first rest = let later = first.later in omega arith

told_cons : (f : Exchange → Bool) (x : Exchange) (xs : List Exchange) (before mid now : ℕ) → RoseIf (f x) before mid → RoseBy (count_by f xs) mid now → RoseBy (count_by f (x ∷ xs)) before now
told_cons f x xs before mid now first rest =
    subst (λ n. RoseBy n before now) (sym (sum_by-cons (λ (y : Exchange). cond (f y) 1 0) x xs)) (rose_more (f x) (count_by f xs) before mid now first rest)

run_counts : (site : Setup) (old new : Point) (xs : List Exchange) → Run site old xs new → Counted xs old.counts new.counts
run_counts site old new [] run =
    let same : old.counts ≡ new.counts = sym (ap (λ (p : Point). p.counts) run) in
    subst (λ (c : Counts). Counted [] old.counts c) same (record { disk = omega arith; clock = omega arith; words = omega arith })
run_counts site old new (x ∷ xs) run =
    let mid = run.0 in
    let b = run.1.blames in
    let rest = run_counts site mid new xs run.2 in
    record {
      disk = told_cons (λ (y : Exchange). tells_disk_fault y.answer) x xs old.counts.disk mid.counts.disk new.counts.disk (disk_rose x.answer mid.state.pending old.counts.disk mid.counts.disk b.disk) rest.disk;
      clock = told_cons (λ (y : Exchange). tells_clock_fault y.answer) x xs old.counts.clock mid.counts.clock new.counts.clock (rose_if (tells_clock_fault x.answer) old.counts.clock mid.counts.clock b.clock) rest.clock;
      words = told_cons (λ (y : Exchange). tells_words_fault y.answer) x xs old.counts.words mid.counts.words new.counts.words (rose_if (tells_words_fault x.answer) old.counts.words mid.counts.words b.words) rest.words;
    }

rose_later : (n before mid now : ℕ) → RoseBy n before mid → mid ≤ now → RoseBy n before now
rose_later n before mid now rose later = omega arith

-- .. and one of which nothing is told
stopped_counts : (site : Setup) (old : Point) (at_end : Type 0) (talk : Talk) (part : List ℕ) → StopsInside site old at_end talk part → Counted talk.exchanges old.counts talk.point.counts
stopped_counts site old at_end talk part s =
    let front = run_counts site old s.front.point s.front.exchanges s.script.run in
    let b = s.step.blames in
    subst (λ (xs : List Exchange). Counted xs old.counts talk.point.counts) (sym s.exchanges) (record {
      disk = rose_later (count_by (λ (y : Exchange). tells_disk_fault y.answer) s.front.exchanges) old.counts.disk s.front.point.counts.disk talk.point.counts.disk front.disk b.disk.later;
      clock = rose_later (count_by (λ (y : Exchange). tells_clock_fault y.answer) s.front.exchanges) old.counts.clock s.front.point.counts.clock talk.point.counts.clock front.clock b.clock.later;
      words = rose_later (count_by (λ (y : Exchange). tells_words_fault y.answer) s.front.exchanges) old.counts.words s.front.point.counts.words talk.point.counts.words front.words b.words.later;
    })

counts : (T : Type 0) (site : Setup) (old : Point) (result : Result T Fault) (at_end : Type 0) (talk : Talk) → Ended {T = T} site old result at_end talk → Counted talk.exchanges old.counts talk.point.counts
counts T site old (Ok done) at_end talk e = run_counts site old talk.point talk.exchanges e.0.script.run
counts T site old (Err Read) at_end talk e = run_counts site old talk.point talk.exchanges e.0.script.run
counts T site old (Err InputTooLong) at_end talk e = run_counts site old talk.point talk.exchanges e.0.script.run
counts T site old (Err Write) at_end talk e = stopped_counts site old at_end talk e.0 e.1
counts T site old (Err Memory) at_end talk (inl e) = run_counts site old talk.point talk.exchanges e.script.run
counts T site old (Err Memory) at_end talk (inr e) = stopped_counts site old at_end talk [] e

-- however the run ended
pub ended_counts : (T : Type 0) (site : Setup) (old : Point) (result : Result T Fault) (at_end : Type 0) (talk : Talk) (point : Point) → talk.point ≡ point → Ended {T = T} site old result at_end talk → Counted talk.exchanges old.counts point.counts
ended_counts T site old result at_end talk point is e = subst (λ (p : Point). Counted talk.exchanges old.counts p.counts) is (counts T site old result at_end talk e)
