-- The step of a group of one request is the step of that request.
use Rattle.std.proofs.Common.{◌≡◌, ◌∙◌, ◌≢◌, ◌⊎◌, inl, inr, ⊎_elim, ℕ, false, List, [], ◌∷◌, ◌++◌, length, refl, sym, subst, ap, append-nil}
use Rattle.deed_words.specs.Setups.{Setup}
use Rattle.deed_words.specs.declared.entry.Ask.{Ask}
use Rattle.deed_words.specs.declared.entry.Entry.{Entry}
use Rattle.deed_words.specs.declared.entry.FaultKind.TheVariants as kind
use Rattle.deed_words.specs.declared.reply.Reply.{Reply}
use Rattle.deed_words.specs.Replies.{reply_to}
use Rattle.deed_words.specs.History.{world_of}
use Rattle.site_store.specs.declared.outcome.Outcome.{Outcome}
use Rattle.site_store.specs.declared.outcome.Outcome.TheVariants.{Replied, NumberReused, NumberGap, DiskFault, ClockFault, ClockRange, WordsFault, WordsSpent, JournalFull, Memory}
use Rattle.site_store.specs.Moved.{Taken}
use Rattle.site_store.specs.Noting.{Noted, dones, fault}
use Rattle.site_store.specs.States.{State, all_of, settled}
use Rattle.site_store.specs.Steps.{Try, Tries, AreTries, Written, Lost, Answers, Steps, asks_in, taken_in, lost_from, faults_told}
use Rattle.site_store.specs.One as one
use Rattle.site_store.specs.Causes.{is_disk_fault, is_clock_fault, is_words_fault}
use Rattle.site_store.specs.Tried.{Tried}
use Rattle.site_store.specs.Trying.{Finishes, no_dones}
use Rattle.site_store.specs.declared.finish.Finish.TheVariants as finish
use Rattle.site_store.specs.Images.{Extends}
use Rattle.site_store.proofs.Leading.{answers_grow}
use Rattle.site_store.proofs.Counting.{new_blames, tries_tell}
use Rattle.site_store.proofs.Tries.{only_faults}

-- ---- from the group to the request

stays_one : (g : List Entry) (worker : ℕ) (told : List Noted) (new : List Entry) (state : State) (more : List Noted) → new ≡ [] → state ≡ settled (g ++ (new ++ [])) → more ≡ (told ++ dones worker (length g) new) ++ [] → one.Stays g told state more
stays_one g worker told new state more none state_is notes = record {
  state = state_is ∙ ap (λ (l : List Entry). settled (g ++ (l ++ []))) none ∙ ap settled (append-nil g);
  notes_are = notes ∙ ap (λ (l : List Entry). (told ++ dones worker (length g) l) ++ []) none ∙ append-nil (told ++ []) ∙ append-nil told;
}

enters_one : (site : Setup) (end : ℕ) (g : List Entry) (worker : ℕ) (ask : Ask) (taken : Taken) (reply : Reply) (new : List Entry) (state : State) (more : List Noted) (entry : Entry) → one.Fits site end g worker ask taken entry → reply ≡ reply_to site (world_of site g) entry → new ≡ entry ∷ []
    → state ≡ settled (g ++ (new ++ [])) → more ≡ ([] ++ dones worker (length g) new) ++ [] → one.Acts site end g worker ask taken reply state more
enters_one site end g worker ask taken reply new state more entry fits reply_is new_is state_is notes = record {
  entry = entry;
  fits = fits;
  reply_is = reply_is;
  state = state_is ∙ ap (λ (l : List Entry). settled (g ++ (l ++ []))) new_is;
  notes_are = notes ∙ ap (λ (l : List Entry). dones worker (length g) l ++ []) new_is;
}

written_one : (site : Setup) (end : ℕ) (g : List Entry) (worker : ℕ) (ask : Ask) (taken : Taken) (outcome : Outcome) (new : List Entry) (state : State) (more : List Noted) → Tries site end g [] worker ask taken outcome new → state ≡ settled (g ++ (new ++ [])) → more ≡ (faults_told worker outcome ++ dones worker (length g) new) ++ []
    → one.Answers site end g worker ask taken outcome state more
written_one site end g worker ask taken (Replied reply) new state more (inl was) state_is notes = inl (was.0, stays_one g worker [] new state more was.1 state_is notes)
written_one site end g worker ask taken (Replied reply) new state more (inr is) state_is notes =
    inr (enters_one site end g worker ask taken reply new state more is.entry (record { makes = is.makes; fits = is.fits }) is.reply_is is.new_is state_is notes)
written_one site end g worker ask taken NumberReused new state more is state_is notes = (is.0, stays_one g worker [] new state more is.1 state_is notes)
written_one site end g worker ask taken (NumberGap last) new state more is state_is notes = (is.0, stays_one g worker [] new state more is.1 state_is notes)
written_one site end g worker ask taken ClockFault new state more is state_is notes = (is.0, stays_one g worker (fault kind.Clock worker []) new state more is.1 state_is notes)
written_one site end g worker ask taken (ClockRange ms) new state more is state_is notes = (is.0, stays_one g worker (fault kind.Range worker []) new state more is.1 state_is notes)
written_one site end g worker ask taken WordsFault new state more is state_is notes = (is.0, stays_one g worker (fault kind.Words worker []) new state more is.1 state_is notes)
written_one site end g worker ask taken (WordsSpent found) new state more is state_is notes = (is.0, stays_one g worker (fault kind.Spent worker []) new state more is.1 state_is notes)
written_one site end g worker ask taken (JournalFull told asked) new state more is state_is notes = (is.0, stays_one g worker [] new state more is.1 state_is notes)
written_one site end g worker ask taken DiskFault new state more is state_is notes = absurd is
written_one site end g worker ask taken Memory new state more is state_is notes = (is.0, stays_one g worker [] new state more is.1 state_is notes)

-- only an entry that is new can be lost
lost_one : (site : Setup) (end : ℕ) (g : List Entry) (worker : ℕ) (ask : Ask) (taken : Taken) (outcome : Outcome) (new : List Entry) (state : State) (more : List Noted) → Tries site end g [] worker ask taken outcome new → new ≢ [] → state.history ≡ g → (state.pending ≡ []) ⊎ (state.pending ≡ new) → more ≡ faults_told worker outcome ++ fault kind.Disk worker state.pending
    → one.Fails site end g worker ask taken state more
lost_one site end g worker ask taken (Replied reply) new state more (inl was) some history pending notes = absurd (some was.1)
lost_one site end g worker ask taken (Replied reply) new state more (inr is) some history pending notes = record {
  entry = is.entry;
  fits = record { makes = is.makes; fits = is.fits };
  history = history;
  pending = ⊎_elim (λ none. inl none) (λ all. inr (all ∙ is.new_is)) pending;
  notes_are = notes;
}
lost_one site end g worker ask taken NumberReused new state more is some history pending notes = absurd (some is.1)
lost_one site end g worker ask taken (NumberGap last) new state more is some history pending notes = absurd (some is.1)
lost_one site end g worker ask taken ClockFault new state more is some history pending notes = absurd (some is.1)
lost_one site end g worker ask taken (ClockRange ms) new state more is some history pending notes = absurd (some is.1)
lost_one site end g worker ask taken WordsFault new state more is some history pending notes = absurd (some is.1)
lost_one site end g worker ask taken (WordsSpent found) new state more is some history pending notes = absurd (some is.1)
lost_one site end g worker ask taken (JournalFull told asked) new state more is some history pending notes = absurd (some is.1)
lost_one site end g worker ask taken DiskFault new state more is some history pending notes = absurd is
lost_one site end g worker ask taken Memory new state more is some history pending notes = absurd (some is.1)

first_of : {X : Type 0} (x y : X) (xs ys : List X) → x ∷ xs ≡ y ∷ ys → x ≡ y
first_of x y xs ys is = cc

lost_first : (new : List Entry) (outcome : Outcome) → new ≢ [] → lost_from new outcome [] [] ≡ DiskFault ∷ []
lost_first [] outcome some = absurd (some refl)
lost_first (entry ∷ entries) outcome some = refl

answers_one : (site : Setup) (end : ℕ) (g : List Entry) (worker : ℕ) (ask : Ask) (taken : Taken) (outcome : Outcome) (state : State) (more : List Noted) (ts : List Try) → ask ∷ [] ≡ asks_in ts → taken ≡ taken_in ts → AreTries site end g [] worker ts
    → Written g worker ts (outcome ∷ []) state more ⊎ Lost g worker ts (outcome ∷ []) state more → one.Answers site end g worker ask taken outcome state more
answers_one site end g worker ask taken outcome state more [] asks_are taken_is are comes = absurd (cc)
answers_one site end g worker ask taken outcome state more (t ∷ u ∷ ts) asks_are taken_is are comes = absurd (cc)
answers_one site end g worker ask taken outcome state more (t ∷ []) asks_are taken_is are comes =
    let ask_is : t.ask ≡ ask = sym (first_of ask t.ask [] [] asks_are) in
    let took : t.taken ≡ taken = sym (taken_is ∙ ap (λ (l : List ℕ). record { moments = l; words = t.taken.words ++ [] }) (append-nil t.taken.moments) ∙ ap (λ (l : List ℕ). record { moments = t.taken.moments; words = l }) (append-nil t.taken.words)) in
    let tries : Tries site end g [] worker ask taken t.outcome t.new = subst (λ (a : Ask). Tries site end g [] worker a taken t.outcome t.new) ask_is (subst (λ (k : Taken). Tries site end g [] worker t.ask k t.outcome t.new) took are.0) in
    ⊎_elim
    (λ w. subst (λ (o : Outcome). one.Answers site end g worker ask taken o state more) (sym (first_of outcome t.outcome [] [] w.outcomes_are)) (written_one site end g worker ask taken t.outcome t.new state more tries w.state w.notes_are))
    (λ l. let some : t.new ≢ [] = λ none. l.some (ap (λ (e : List Entry). e ++ []) none) in
    let is : outcome ≡ DiskFault = first_of outcome DiskFault [] [] (l.outcomes_are ∙ lost_first t.new t.outcome some) in
    subst (λ (o : Outcome). one.Answers site end g worker ask taken o state more) (sym is)
    (lost_one site end g worker ask taken t.outcome t.new state more tries some l.history (⊎_elim (λ none. inl none) (λ all. inr (all ∙ append-nil t.new)) l.pending) (l.notes_are ∙ ap (λ (n : List Noted). n ++ fault kind.Disk worker state.pending) (append-nil (faults_told worker t.outcome)))))
    comes

pub one_of : (site : Setup) (end : ℕ) (old : State) (worker : ℕ) (ask : Ask) (taken : Taken) (outcome : Outcome) (new : State) (notes : List Noted) → Steps site end old worker (ask ∷ []) taken (outcome ∷ []) new notes → one.Steps site end old worker ask taken outcome new notes
one_of site end old worker ask taken outcome new notes (inl un) = inl (record {
  behind = un.behind;
  nothing = un.nothing;
  stays = un.stays;
  told = ⊎_elim (λ failed. inl (first_of outcome DiskFault [] [] failed.0, failed.1)) (λ wants. inr (first_of outcome Memory [] [] wants.0, wants.1)) un.told;
})
one_of site end old worker ask taken outcome new notes (inr m) = inr (record {
  more = m.more;
  notes_are = m.notes_are;
  answers = answers_one site end (all_of old) worker ask taken outcome new m.more m.answers.tries m.answers.asks_are m.answers.taken_is m.answers.are m.answers.comes;
})

-- ---- from the request to the group

pub single : (site : Setup) (end : ℕ) (g : List Entry) (worker : ℕ) (ask : Ask) (taken : Taken) (outcome : Outcome) (new : List Entry) (state : State) (more : List Noted) → Tries site end g [] worker ask taken outcome new → state ≡ settled (g ++ (new ++ [])) → more ≡ (faults_told worker outcome ++ dones worker (length g) new) ++ []
    → Answers site end g worker (ask ∷ []) taken (outcome ∷ []) state more
single site end g worker ask taken outcome new state more tries state_is notes = record {
  tries = record { ask = ask; taken = taken; outcome = outcome; new = new } ∷ [];
  asks_are = refl;
  taken_is = sym (ap (λ (l : List ℕ). record { moments = l; words = taken.words ++ [] }) (append-nil taken.moments) ∙ ap (λ (l : List ℕ). record { moments = taken.moments; words = l }) (append-nil taken.words));
  are = (tries, tt);
  comes = inl (record { outcomes_are = refl; state = state_is; notes_are = notes });
}

pub single_lost : (site : Setup) (end : ℕ) (g : List Entry) (worker : ℕ) (ask : Ask) (taken : Taken) (outcome : Outcome) (new : List Entry) (state : State) (more : List Noted) → Tries site end g [] worker ask taken outcome new → new ≢ [] → state.history ≡ g → (state.pending ≡ []) ⊎ (state.pending ≡ new) → more ≡ faults_told worker outcome ++ fault kind.Disk worker state.pending
    → Answers site end g worker (ask ∷ []) taken (DiskFault ∷ []) state more
single_lost site end g worker ask taken outcome new state more tries some history pending notes = record {
  tries = record { ask = ask; taken = taken; outcome = outcome; new = new } ∷ [];
  asks_are = refl;
  taken_is = sym (ap (λ (l : List ℕ). record { moments = l; words = taken.words ++ [] }) (append-nil taken.moments) ∙ ap (λ (l : List ℕ). record { moments = taken.moments; words = l }) (append-nil taken.words));
  are = (tries, tt);
  comes = inr (record {
    some = λ none. some (sym (append-nil new) ∙ none);
    outcomes_are = sym (lost_first new outcome some);
    history = history;
    pending = ⊎_elim (λ none. inl none) (λ all. inr (all ∙ sym (append-nil new))) pending;
    notes_are = notes ∙ ap (λ (n : List Noted). n ++ fault kind.Disk worker state.pending) (sym (append-nil (faults_told worker outcome)));
  });
}

stays_group : (site : Setup) (end : ℕ) (g : List Entry) (worker : ℕ) (ask : Ask) (taken : Taken) (outcome : Outcome) (state : State) (more : List Noted) → Tries site end g [] worker ask taken outcome [] → one.Stays g (faults_told worker outcome) state more → Answers site end g worker (ask ∷ []) taken (outcome ∷ []) state more
stays_group site end g worker ask taken outcome state more tries stays =
    single site end g worker ask taken outcome [] state more tries (stays.state ∙ ap settled (sym (append-nil g))) (stays.notes_are ∙ sym (append-nil (faults_told worker outcome)) ∙ sym (append-nil (faults_told worker outcome ++ [])))

answers_group : (site : Setup) (end : ℕ) (g : List Entry) (worker : ℕ) (ask : Ask) (taken : Taken) (outcome : Outcome) (state : State) (more : List Noted) → one.Answers site end g worker ask taken outcome state more → Answers site end g worker (ask ∷ []) taken (outcome ∷ []) state more
answers_group site end g worker ask taken (Replied reply) state more (inl was) = stays_group site end g worker ask taken (Replied reply) state more (inl (was.0, refl)) was.1
answers_group site end g worker ask taken (Replied reply) state more (inr acts) =
    single site end g worker ask taken (Replied reply) (acts.entry ∷ []) state more (inr (record { entry = acts.entry; makes = acts.fits.makes; fits = acts.fits.fits; reply_is = acts.reply_is; new_is = refl })) acts.state acts.notes_are
answers_group site end g worker ask taken NumberReused state more is = stays_group site end g worker ask taken NumberReused state more (is.0, refl) is.1
answers_group site end g worker ask taken (NumberGap last) state more is = stays_group site end g worker ask taken (NumberGap last) state more (is.0, refl) is.1
answers_group site end g worker ask taken ClockFault state more is = stays_group site end g worker ask taken ClockFault state more (is.0, refl) is.1
answers_group site end g worker ask taken (ClockRange ms) state more is = stays_group site end g worker ask taken (ClockRange ms) state more (is.0, refl) is.1
answers_group site end g worker ask taken WordsFault state more is = stays_group site end g worker ask taken WordsFault state more (is.0, refl) is.1
answers_group site end g worker ask taken (WordsSpent found) state more is = stays_group site end g worker ask taken (WordsSpent found) state more (is.0, refl) is.1
answers_group site end g worker ask taken (JournalFull told asked) state more is = stays_group site end g worker ask taken (JournalFull told asked) state more (is.0, refl) is.1
answers_group site end g worker ask taken DiskFault state more fails =
    let reply = reply_to site (world_of site g) fails.entry in
    single_lost site end g worker ask taken (Replied reply) (fails.entry ∷ []) state more (inr (record { entry = fails.entry; makes = fails.fits.makes; fits = fails.fits.fits; reply_is = refl; new_is = refl })) (λ none. absurd (cc)) fails.history fails.pending fails.notes_are
answers_group site end g worker ask taken Memory state more is = stays_group site end g worker ask taken Memory state more (is.0, refl) is.1

pub of_one : (site : Setup) (end : ℕ) (old : State) (worker : ℕ) (ask : Ask) (taken : Taken) (outcome : Outcome) (new : State) (notes : List Noted) → one.Steps site end old worker ask taken outcome new notes → Steps site end old worker (ask ∷ []) taken (outcome ∷ []) new notes
of_one site end old worker ask taken outcome new notes (inl un) = inl (record {
  behind = un.behind;
  nothing = un.nothing;
  stays = un.stays;
  told = ⊎_elim (λ failed. inl (ap (λ (o : Outcome). o ∷ []) failed.0, failed.1)) (λ wants. inr (ap (λ (o : Outcome). o ∷ []) wants.0, wants.1)) un.told;
})
of_one site end old worker ask taken outcome new notes (inr m) = inr (record {
  more = m.more;
  notes_are = m.notes_are;
  answers = answers_group site end (all_of old) worker ask taken outcome new m.more m.answers;
})

-- ---- an attempt, and the end of its group

tried_new : (site : Setup) (end : ℕ) (g h front front' : List Entry) (noted noted' : List Noted) (worker : ℕ) (ask : Ask) (taken : Taken) (outcome : Outcome) (t : Tried site end g h front front' noted noted' worker ask taken outcome) → front ≡ [] → noted ≡ []
    → Tries site end g [] worker ask taken outcome t.new × (front' ≡ t.new) × (noted' ≡ faults_told worker outcome ++ dones worker (length g) t.new)
tried_new site end g h front front' noted noted' worker ask taken outcome t front_is noted_is = (
  subst (λ (l : List Entry). Tries site end g l worker ask taken outcome t.new) front_is t.tries,
  t.front_is ∙ ap (λ (l : List Entry). l ++ t.new) front_is,
  t.noted_is ∙ ap (λ (l : List Noted). l ++ (faults_told worker outcome ++ dones worker (length g) t.new)) noted_is,
)

pub tried_written : (site : Setup) (end : ℕ) (g g' h front front' : List Entry) (noted noted' : List Noted) (worker : ℕ) (ask : Ask) (taken : Taken) (outcome : Outcome) (state : State) (more : List Noted) → Tried site end g h front front' noted noted' worker ask taken outcome → front ≡ [] → noted ≡ [] → g' ≡ g → Finishes g' front' worker noted' finish.Written state more
    → one.Answers site end g worker ask taken outcome state more
tried_written site end g g' h front front' noted noted' worker ask taken outcome state more t front_is noted_is g_is done =
    let n = tried_new site end g h front front' noted noted' worker ask taken outcome t front_is noted_is in
    let notes = faults_told worker outcome ++ dones worker (length g) t.new in
    written_one site end g worker ask taken outcome t.new state more n.0
    (done.0 ∙ ap (λ (l : List Entry). settled (l ++ front')) g_is ∙ ap (λ (l : List Entry). settled (g ++ l)) (n.1 ∙ sym (append-nil t.new))) (done.1 ∙ n.2 ∙ sym (append-nil notes))

pub tried_lost : (site : Setup) (end : ℕ) (g g' h front front' : List Entry) (noted noted' : List Noted) (worker : ℕ) (ask : Ask) (taken : Taken) (outcome : Outcome) (state : State) (more : List Noted) → Tried site end g h front front' noted noted' worker ask taken outcome → front ≡ [] → noted ≡ [] → g' ≡ g → Finishes g' front' worker noted' finish.Lost state more
    → one.Answers site end g worker ask taken DiskFault state more × (is_clock_fault outcome ≡ false) × (is_words_fault outcome ≡ false)
tried_lost site end g g' h front front' noted noted' worker ask taken outcome state more t front_is noted_is g_is done =
    let n = tried_new site end g h front front' noted noted' worker ask taken outcome t front_is noted_is in
    let told = faults_told worker outcome in
    let notes = told ++ dones worker (length g) t.new in
    let disk = fault kind.Disk worker state.pending in
    let some : t.new ≢ [] = λ none. done.0 (n.1 ∙ none) in
    let one : Try = record { ask = ask; taken = taken; outcome = outcome; new = t.new } in
    let only : no_dones noted' ≡ told = ap no_dones (n.2 ∙ sym (append-nil notes)) ∙ only_faults worker (length g) (one ∷ []) ∙ append-nil told in
    let blames = new_blames site end g [] worker ask taken outcome t.new n.0 some in (
      lost_one site end g worker ask taken outcome t.new state more n.0 some (done.1 ∙ g_is) (⊎_elim (λ none. inl none) (λ all. inr (all ∙ n.1)) done.2) (done.3 ∙ ap (λ (l : List Noted). l ++ disk) only),
      blames.0,
      blames.1,
    )

pub tried_unblamed : (site : Setup) (end : ℕ) (g g' h front front' : List Entry) (noted noted' : List Noted) (worker : ℕ) (ask : Ask) (taken : Taken) (outcome : Outcome) (state : State) (more : List Noted) → Tried site end g h front front' noted noted' worker ask taken outcome → Finishes g' front' worker noted' finish.Written state more → is_disk_fault outcome state.pending ≡ false
tried_unblamed site end g g' h front front' noted noted' worker ask taken outcome state more t done =
    ap (λ (s : State). is_disk_fault outcome s.pending) done.0 ∙ tries_tell site end g front worker ask taken outcome t.new t.tries

pub one_grows : (site : Setup) (end : ℕ) (g : List Entry) (worker : ℕ) (ask : Ask) (taken : Taken) (outcome : Outcome) (new : State) (more : List Noted) → one.Answers site end g worker ask taken outcome new more → Extends g new.history × Extends g (all_of new)
one_grows site end g worker ask taken outcome new more a = answers_grow site end g worker (ask ∷ []) taken (outcome ∷ []) new more (answers_group site end g worker ask taken outcome new more a)

pub one_after : (site site' : Setup) (end end' : ℕ) (old mid : State) (worker : ℕ) (ask : Ask) (taken : Taken) (outcome : Outcome) (new : State) (notes more : List Noted) → site' ≡ site → end' ≡ end → mid ≡ settled (all_of old) → notes ≡ dones worker (length old.history) old.pending
    → one.Answers site' end' mid.history worker ask taken outcome new more → one.Steps site end old worker ask taken outcome new (notes ++ more)
one_after site site' end end' old mid worker ask taken outcome new notes more site_is end_is mid_is notes_are answers = inr (record {
  more = more;
  notes_are = ap (λ (ns : List Noted). ns ++ more) notes_are;
  answers = subst (λ (s : Setup). one.Answers s end (all_of old) worker ask taken outcome new more) site_is
      (subst (λ (e : ℕ). one.Answers site' e (all_of old) worker ask taken outcome new more) end_is
      (subst (λ (s : State). one.Answers site' end' s.history worker ask taken outcome new more) mid_is answers));
})
