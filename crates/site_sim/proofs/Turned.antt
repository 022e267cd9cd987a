-- What comes of a request behind a history with nothing pending.
use Rattle.std.proofs.Common.{◌≡◌, ◌≤◌, ◌+◌, ◌∙◌, inl, inr, ℕ, Bool, true, false, List, [], ◌∷◌, ◌++◌, length, refl, sym, ap, subst, arith, append-nil}
use Rattle.outside.specs.Causes.{HasCauseIf}
use Rattle.deed_words.specs.Setups.{Setup}
use Rattle.deed_words.specs.declared.deed.Deed.{Deed}
use Rattle.deed_words.specs.declared.entry.Ask.{Ask}
use Rattle.deed_words.specs.declared.entry.Entry.{Entry}
use Rattle.deed_words.specs.declared.reply.Reply.{Reply}
use Rattle.deed_words.specs.declared.reply.Reply.TheVariants as reply
use Rattle.deed_words.specs.History.{own, world_of}
use Rattle.deed_words.specs.Numbers.{Means, Meaning, Kept, New}
use Rattle.deed_words.specs.Replies.{reply_to}
use Rattle.site_store.specs.declared.outcome.Outcome.{Outcome}
use Rattle.site_store.specs.declared.outcome.Outcome.TheVariants.{Replied, NumberReused, NumberGap, DiskFault, ClockFault, ClockRange, WordsFault, WordsSpent, JournalFull, Memory}
use Rattle.site_store.specs.Causes.{is_disk_fault}
use Rattle.site_store.specs.Held.{furthest}
use Rattle.site_store.specs.Moved.{Taken}
use Rattle.site_store.specs.Noting.{Noted}
use Rattle.site_store.specs.One.{Answers, Steps}
use Rattle.site_store.specs.States.{State, all_of, settled}
use Rattle.site_sim.specs.declared.request.Request.{Request}
use Rattle.site_sim.specs.declared.sending.Coming.{Coming}
use Rattle.site_sim.specs.declared.sending.Coming.TheVariants as coming
use Rattle.site_sim.specs.Asking.{ask_at, deed_of, lent_in, station_of}
use Rattle.site_sim.specs.Example as example
use Rattle.site_sim.specs.Knowing.{is_accepted as is_accepted_reply}
use Rattle.site_sim.specs.Requests.{send}
use Rattle.site_sim.specs.Sends.{TurnsTo, coming_of, is_accepted, is_failed, is_answer}

-- the step, for the simulation's site
pub turned : (site : Setup) (end : ℕ) (old : State) (ask : Ask) (taken : Taken) (outcome : Outcome) (new : State) (notes : List Noted) → site ≡ example.site → end ≤ furthest site (all_of old) → Steps site end old 0 ask taken outcome new notes → TurnsTo old ask taken outcome new
turned site end old ask taken outcome new notes same reach step = record {
  end = end;
  notes = notes;
  reach = subst (λ (s : Setup). end ≤ furthest s (all_of old)) same reach;
  step = subst (λ (s : Setup). Steps s end old 0 ask taken outcome new notes) same step;
}

answers_of : (end : ℕ) (old : State) (ask : Ask) (taken : Taken) (outcome : Outcome) (new : State) (notes : List Noted) → old.pending ≡ [] → Steps example.site end old 0 ask taken outcome new notes → (more : List Noted) × Answers example.site end old.history 0 ask taken outcome new more
answers_of end old ask taken outcome new notes none (inl u) = absurd (u.behind none)
answers_of end old ask taken outcome new notes none (inr m) =
    (m.more, subst (λ (h : List Entry). Answers example.site end h 0 ask taken outcome new m.more) (ap (λ (p : List Entry). old.history ++ p) none ∙ append-nil old.history) m.answers)

settles : (end : ℕ) (h : List Entry) (ask : Ask) (taken : Taken) (outcome : Outcome) (new : State) (more : List Noted) → is_failed (coming_of outcome) ≡ false → Answers example.site end h 0 ask taken outcome new more → new.pending ≡ []
settles end h ask taken (Replied r) new more safe (inl a) = ap (λ (s : State). s.pending) a.1.state
settles end h ask taken (Replied r) new more safe (inr a) = ap (λ (s : State). s.pending) a.state
settles end h ask taken NumberReused new more safe a = ap (λ (s : State). s.pending) a.1.state
settles end h ask taken (NumberGap last) new more safe a = ap (λ (s : State). s.pending) a.1.state
settles end h ask taken DiskFault new more safe a = absurd (cc)
settles end h ask taken ClockFault new more safe a = ap (λ (s : State). s.pending) a.1.state
settles end h ask taken (ClockRange ms) new more safe a = ap (λ (s : State). s.pending) a.1.state
settles end h ask taken WordsFault new more safe a = ap (λ (s : State). s.pending) a.1.state
settles end h ask taken (WordsSpent found) new more safe a = ap (λ (s : State). s.pending) a.1.state
settles end h ask taken (JournalFull told asked) new more safe a = ap (λ (s : State). s.pending) a.1.state
settles end h ask taken Memory new more safe a = ap (λ (s : State). s.pending) a.1.state

-- nothing is pending unless the disk failed
pub none_pending : (old : State) (ask : Ask) (taken : Taken) (outcome : Outcome) (new : State) (came : Coming) → old.pending ≡ [] → TurnsTo old ask taken outcome new → came ≡ coming_of outcome → is_failed came ≡ false → new.pending ≡ []
none_pending old ask taken outcome new came none t is safe =
    let a = answers_of t.end old ask taken outcome new t.notes none t.step in
    settles t.end old.history ask taken outcome new a.0 (ap is_failed (sym is) ∙ safe) a.1

by_pending : (outcome : Outcome) (pending : List Entry) → (is_failed (coming_of outcome) ≡ false → pending ≡ []) → is_disk_fault outcome pending ≡ is_failed (coming_of outcome)
by_pending (Replied r) pending none = refl
by_pending NumberReused pending none = refl
by_pending (NumberGap last) pending none = refl
by_pending DiskFault pending none = refl
by_pending ClockFault pending none = refl
by_pending (ClockRange ms) pending none = refl
by_pending WordsFault pending none = refl
by_pending (WordsSpent found) pending none = refl
by_pending (JournalFull told asked) pending none = refl
by_pending Memory pending none = ap (is_disk_fault Memory) (none refl)

-- the disk is blamed exactly where it failed
pub blamed : (old : State) (ask : Ask) (taken : Taken) (outcome : Outcome) (new : State) (came : Coming) (before now : ℕ) → old.pending ≡ [] → TurnsTo old ask taken outcome new → came ≡ coming_of outcome
    → HasCauseIf (is_disk_fault outcome new.pending) before now → HasCauseIf (is_failed came) before now
blamed old ask taken outcome new came before now none t is cause =
    subst (λ (b : Bool). HasCauseIf b before now)
    (by_pending outcome new.pending (λ safe. none_pending old ask taken outcome new came none t is (ap is_failed is ∙ safe)) ∙ ap is_failed (sym is)) cause

-- ---- by what came

came_is : (outcome : Outcome) (r : Reply) → coming_of outcome ≡ coming.Came r → outcome ≡ Replied r
came_is (Replied r') r e = let same : r' ≡ r = cc in ap Replied same
came_is NumberReused r e = absurd (cc)
came_is (NumberGap last) r e = absurd (cc)
came_is DiskFault r e = absurd (cc)
came_is ClockFault r e = absurd (cc)
came_is (ClockRange ms) r e = absurd (cc)
came_is WordsFault r e = absurd (cc)
came_is (WordsSpent found) r e = absurd (cc)
came_is (JournalFull told asked) r e = absurd (cc)
came_is Memory r e = absurd (cc)

other_is : (end : ℕ) (h : List Entry) (ask : Ask) (taken : Taken) (outcome : Outcome) (new : State) (more : List Noted) → coming_of outcome ≡ coming.Other → Answers example.site end h 0 ask taken outcome new more → (new ≡ settled h) × (is_accepted outcome ≡ false)
other_is end h ask taken (Replied r) new more e a = absurd (cc)
other_is end h ask taken NumberReused new more e a = (a.1.state, refl)
other_is end h ask taken (NumberGap last) new more e a = (a.1.state, refl)
other_is end h ask taken DiskFault new more e a = absurd (cc)
other_is end h ask taken ClockFault new more e a = (a.1.state, refl)
other_is end h ask taken (ClockRange ms) new more e a = (a.1.state, refl)
other_is end h ask taken WordsFault new more e a = (a.1.state, refl)
other_is end h ask taken (WordsSpent found) new more e a = (a.1.state, refl)
other_is end h ask taken (JournalFull told asked) new more e a = (a.1.state, refl)
other_is end h ask taken Memory new more e a = absurd (cc)

-- another outcome changes nothing, and isn't accepted
pub left_so : (old : State) (ask : Ask) (taken : Taken) (outcome : Outcome) (new : State) (came : Coming) → old.pending ≡ [] → TurnsTo old ask taken outcome new → came ≡ coming_of outcome → came ≡ coming.Other → (new ≡ settled old.history) × (is_accepted outcome ≡ false)
left_so old ask taken outcome new came none t is other =
    let a = answers_of t.end old ask taken outcome new t.notes none t.step in
    other_is t.end old.history ask taken outcome new a.0 (sym is ∙ other) a.1

-- what a number means, it means alone
abbrev pub OneMeaning : Type 0
OneMeaning = (site : Setup) (history : List Entry) (station number : ℕ) (deed : Deed) → (meaning : Meaning) × Means site history station number deed meaning × ((other : Meaning) → Means site history station number deed other → other ≡ meaning)

new_kept_apart : (r : Reply) → New ≡ Kept r → ⊥
new_kept_apart r e = cc

new_or_kept : OneMeaning → (h : List Entry) (station number : ℕ) (deed : Deed) (r : Reply) → number ≡ length (own station h) + 1 → Means example.site h station number deed (Kept r) → ⊥
unfolding Means
new_or_kept one h station number deed r is kept =
    let m = one example.site h station number deed in
    let new : New ≡ m.0 = m.2 New is in
    let old : Kept r ≡ m.0 = m.2 (Kept r) kept in
    new_kept_apart r (new ∙ sym old)

-- the entry that a request became
pub record Entered (h : List Entry) (r : Request) (told : Reply) (new : State) : Type 0 where
  pub entry : Entry
  pub whose : entry.station ≡ station_of r
  pub what : entry.deed ≡ deed_of (lent_in h) r
  pub told_is : told ≡ reply_to example.site (world_of example.site h) entry
  pub state : new ≡ settled (h ++ entry ∷ [])

first_answer : OneMeaning → (end : ℕ) (h : List Entry) (r : Request) (taken : Taken) (told : Reply) (new : State) (more : List Noted) → Answers example.site end h 0 (ask_at h (send r false)) taken (Replied told) new more → Entered h r told new
first_answer one end h r taken told new more (inl a) = absurd (new_or_kept one h (station_of r) (length (own (station_of r) h) + 1) (deed_of (lent_in h) r) told refl a.0.means)
first_answer one end h r taken told new more (inr a) =
    let is = a.fits.makes.entry_is in
    record {
      entry = a.entry;
      whose = ap (λ (e : Entry). e.station) is;
      what = ap (λ (e : Entry). e.deed) is;
      told_is = a.reply_is;
      state = a.state;
    }

again_answer : (end : ℕ) (h : List Entry) (r : Request) (taken : Taken) (told : Reply) (new : State) (more : List Noted) → Answers example.site end h 0 (ask_at h (send r true)) taken (Replied told) new more → new ≡ settled h
unfolding Means
again_answer end h r taken told new more (inl a) = a.1.state
again_answer end h r taken told new more (inr a) =
    let means : length (own (station_of r) h) ≡ length (own (station_of r) h) + 1 = a.fits.makes.comes.means in
    absurd (omega (arith, means))

-- a request that is sent for the first time becomes an entry where it gets a reply
pub enters : OneMeaning → (old : State) (r : Request) (ask : Ask) (taken : Taken) (outcome : Outcome) (new : State) (came : Coming) (told : Reply) → old.pending ≡ [] → ask ≡ ask_at old.history (send r false) → TurnsTo old ask taken outcome new → came ≡ coming_of outcome → came ≡ coming.Came told → Entered old.history r told new
enters one old r ask taken outcome new came told none asks t is replied =
    let a = answers_of t.end old ask taken outcome new t.notes none t.step in
    let o = came_is outcome told (sym is ∙ replied) in
    first_answer one t.end old.history r taken told new a.0
    (subst (λ (x : Ask). Answers example.site t.end old.history 0 x taken (Replied told) new a.0) asks (subst (λ (x : Outcome). Answers example.site t.end old.history 0 ask taken x new a.0) o a.1))

-- .. and one that is sent once more changes nothing
pub repeats : (old : State) (r : Request) (ask : Ask) (taken : Taken) (outcome : Outcome) (new : State) (came : Coming) (told : Reply) → old.pending ≡ [] → ask ≡ ask_at old.history (send r true) → TurnsTo old ask taken outcome new → came ≡ coming_of outcome → came ≡ coming.Came told → new ≡ settled old.history
repeats old r ask taken outcome new came told none asks t is replied =
    let a = answers_of t.end old ask taken outcome new t.notes none t.step in
    let o = came_is outcome told (sym is ∙ replied) in
    again_answer t.end old.history r taken told new a.0
    (subst (λ (x : Ask). Answers example.site t.end old.history 0 x taken (Replied told) new a.0) asks (subst (λ (x : Outcome). Answers example.site t.end old.history 0 ask taken x new a.0) o a.1))

-- whether the outcome was accepted
pub accepted_is : (outcome : Outcome) (came : Coming) (told : Reply) → came ≡ coming_of outcome → came ≡ coming.Came told → is_accepted outcome ≡ is_accepted_reply told
accepted_is outcome came told is replied = ap is_accepted (came_is outcome told (sym is ∙ replied)) ∙ by_reply told
  where
    by_reply : (r : Reply) → is_accepted (Replied r) ≡ is_accepted_reply r
    by_reply (reply.Accepted answer) = refl
    by_reply (reply.Refused rule) = refl

-- it was answered
pub came_answers : (outcome : Outcome) (came : Coming) (told : Reply) → came ≡ coming_of outcome → came ≡ coming.Came told → is_answer outcome ≡ true
came_answers outcome came told is replied = ap is_answer (came_is outcome told (sym is ∙ replied))

other_answered : (outcome : Outcome) → coming_of outcome ≡ coming.Other → is_answer outcome ≡ true
other_answered (Replied r) e = refl
other_answered NumberReused e = refl
other_answered (NumberGap last) e = refl
other_answered DiskFault e = absurd (cc)
other_answered ClockFault e = refl
other_answered (ClockRange ms) e = refl
other_answered WordsFault e = refl
other_answered (WordsSpent found) e = refl
other_answered (JournalFull told asked) e = refl
other_answered Memory e = absurd (cc)

pub other_answers : (outcome : Outcome) (came : Coming) → came ≡ coming_of outcome → came ≡ coming.Other → is_answer outcome ≡ true
other_answers outcome came is other = other_answered outcome (sym is ∙ other)
