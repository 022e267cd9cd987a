-- The notes of a step lead from what the store stood for to what it stands for.
use Rattle.std.proofs.Common.{◌≡◌, ◌∙◌, ◌+◌, ◌⊎◌, inl, inr, ⊎_elim, ℕ, Bool, cond, eq-eqb, List, [], ◌∷◌, ◌++◌, length, refl, sym, subst, ap, append_assoc, append-nil}
use Rattle.std.proofs.lemmas.List.Elements.{filter-append}
use Rattle.deed_words.specs.Setups.{Setup}
use Rattle.deed_words.specs.declared.entry.Ask.{Ask}
use Rattle.deed_words.specs.declared.entry.Entry.{Entry}
use Rattle.deed_words.specs.declared.entry.Note.TheVariants.{Done, Fault}
use Rattle.deed_words.specs.declared.entry.FaultKind.{FaultKind}
use Rattle.deed_words.specs.declared.entry.FaultKind.TheVariants as kind
use Rattle.site_store.specs.declared.outcome.Outcome.{Outcome}
use Rattle.site_store.specs.declared.outcome.Outcome.TheVariants.{Replied, NumberReused, NumberGap, DiskFault, ClockFault, ClockRange, WordsFault, WordsSpent, JournalFull, Memory}
use Rattle.site_store.specs.Images.{Extends, Grows}
use Rattle.site_store.specs.Moved.{Taken}
use Rattle.site_store.specs.Noting.{Noted, made, left_from, dones, fault, standing, own, IsOf}
use Rattle.site_store.specs.States.{State, all_of}
use Rattle.site_store.specs.Steps.{Try, Written, Lost, Answers, Steps, notes_in, faults_in, faults_told, new_in}
use Rattle.site_store.proofs.Noted.{made-append, left-append, made_dones, left_dones, standing_on}

told_made : (worker : ℕ) (outcome : Outcome) → made (faults_told worker outcome) ≡ []
told_made worker (Replied reply) = refl
told_made worker NumberReused = refl
told_made worker (NumberGap last) = refl
told_made worker DiskFault = refl
told_made worker ClockFault = refl
told_made worker (ClockRange ms) = refl
told_made worker WordsFault = refl
told_made worker (WordsSpent found) = refl
told_made worker (JournalFull told asked) = refl
told_made worker Memory = refl

told_left : (worker : ℕ) (pending : List Entry) (outcome : Outcome) → left_from pending (faults_told worker outcome) ≡ pending
told_left worker pending (Replied reply) = refl
told_left worker pending NumberReused = refl
told_left worker pending (NumberGap last) = refl
told_left worker pending DiskFault = refl
told_left worker pending ClockFault = refl
told_left worker pending (ClockRange ms) = refl
told_left worker pending WordsFault = refl
told_left worker pending (WordsSpent found) = refl
told_left worker pending (JournalFull told asked) = refl
told_left worker pending Memory = refl

none_left : (worker place : ℕ) (entries : List Entry) → left_from [] (dones worker place entries) ≡ []
none_left worker place [] = refl
none_left worker place (entry ∷ entries) = none_left worker (place + 1) entries

pub notes_made : (worker place : ℕ) (ts : List Try) → made (notes_in worker place ts) ≡ new_in ts
notes_made worker place [] = refl
notes_made worker place (t ∷ ts) =
    let told = faults_told worker t.outcome in
    made-append (told ++ dones worker place t.new) (notes_in worker (place + length t.new) ts)
    ∙ ap (λ (l : List Entry). l ++ made (notes_in worker (place + length t.new) ts)) (made-append told (dones worker place t.new) ∙ ap (λ (l : List Entry). l ++ made (dones worker place t.new)) (told_made worker t.outcome) ∙ made_dones worker place t.new)
    ∙ ap (λ (l : List Entry). t.new ++ l) (notes_made worker (place + length t.new) ts)

notes_left : (worker place : ℕ) (ts : List Try) → left_from [] (notes_in worker place ts) ≡ []
notes_left worker place [] = refl
notes_left worker place (t ∷ ts) =
    let told = faults_told worker t.outcome in
    left-append [] (told ++ dones worker place t.new) (notes_in worker (place + length t.new) ts)
    ∙ ap (λ (l : List Entry). left_from l (notes_in worker (place + length t.new) ts)) (left-append [] told (dones worker place t.new) ∙ ap (λ (l : List Entry). left_from l (dones worker place t.new)) (told_left worker [] t.outcome) ∙ none_left worker place t.new)
    ∙ notes_left worker (place + length t.new) ts

pub faults_made : (worker : ℕ) (ts : List Try) → made (faults_in worker ts) ≡ []
faults_made worker [] = refl
faults_made worker (t ∷ ts) = made-append (faults_told worker t.outcome) (faults_in worker ts) ∙ ap (λ (l : List Entry). l ++ made (faults_in worker ts)) (told_made worker t.outcome) ∙ faults_made worker ts

faults_left : (worker : ℕ) (ts : List Try) → left_from [] (faults_in worker ts) ≡ []
faults_left worker [] = refl
faults_left worker (t ∷ ts) = left-append [] (faults_told worker t.outcome) (faults_in worker ts) ∙ ap (λ (l : List Entry). left_from l (faults_in worker ts)) (told_left worker [] t.outcome) ∙ faults_left worker ts

disk_left : (worker : ℕ) (pending : List Entry) → left_from [] (fault kind.Disk worker pending) ≡ pending
disk_left worker [] = refl
disk_left worker (entry ∷ entries) = refl

state_is : (a b : List Entry) (s : State) → s.history ≡ a → s.pending ≡ b → record { history = a; pending = b } ≡ s
state_is a b s history pending = ap (λ (h : List Entry). record { history = h; pending = b }) (sym history) ∙ ap (λ (p : List Entry). record { history = s.history; pending = p }) (sym pending)

-- behind a history with nothing pending
answers_lead : (site : Setup) (end : ℕ) (g : List Entry) (worker : ℕ) (asks : List Ask) (taken : Taken) (outcomes : List Outcome) (new : State) (more : List Noted) → Answers site end g worker asks taken outcomes new more → record { history = g ++ made more; pending = left_from [] more } ≡ new
answers_lead site end g worker asks taken outcomes new more a = by_comes a.comes
  where
    by_comes : Written g worker a.tries outcomes new more ⊎ Lost g worker a.tries outcomes new more → record { history = g ++ made more; pending = left_from [] more } ≡ new
    by_comes (inl w) = ap (λ (l : List Noted). record { history = g ++ made l; pending = left_from [] l }) w.notes_are
        ∙ state_is (g ++ made (notes_in worker (length g) a.tries)) (left_from [] (notes_in worker (length g) a.tries)) new (ap (λ (s : State). s.history) w.state ∙ ap (λ (l : List Entry). g ++ l) (sym (notes_made worker (length g) a.tries))) (ap (λ (s : State). s.pending) w.state ∙ sym (notes_left worker (length g) a.tries))
    by_comes (inr l) =
        let disk = fault kind.Disk worker new.pending in
        ap (λ (n : List Noted). record { history = g ++ made n; pending = left_from [] n }) l.notes_are
        ∙ state_is (g ++ made (faults_in worker a.tries ++ disk)) (left_from [] (faults_in worker a.tries ++ disk)) new
        (l.history ∙ sym (ap (λ (e : List Entry). g ++ e) (made-append (faults_in worker a.tries) disk ∙ ap (λ (e : List Entry). e ++ []) (faults_made worker a.tries)) ∙ append-nil g))
        (sym (left-append [] (faults_in worker a.tries) disk ∙ ap (λ (e : List Entry). left_from e disk) (faults_left worker a.tries) ∙ disk_left worker new.pending))

pub steps_lead : (site : Setup) (end : ℕ) (old : State) (worker : ℕ) (asks : List Ask) (taken : Taken) (outcomes : List Outcome) (new : State) (notes : List Noted) (opening : List Entry) (noted : List Noted) → Steps site end old worker asks taken outcomes new notes → standing opening noted ≡ old → standing opening (noted ++ notes) ≡ new
steps_lead site end old worker asks taken outcomes new notes opening noted (inl un) is =
    let step : List Noted → State = λ n. record { history = old.history ++ made n; pending = left_from old.pending n } in
    let same : record { history = old.history ++ []; pending = old.pending } ≡ old = ap (λ (h : List Entry). record { history = h; pending = old.pending }) (append-nil old.history) in
    standing_on opening noted notes old is ∙ ⊎_elim (λ failed. ap step failed.1 ∙ same) (λ wants. ap step wants.1 ∙ same) un.told ∙ sym un.stays
steps_lead site end old worker asks taken outcomes new notes opening noted (inr m) is =
    let first = dones worker (length old.history) old.pending in
    standing_on opening noted notes old is ∙ ap (λ (n : List Noted). record { history = old.history ++ made n; pending = left_from old.pending n }) m.notes_are
    ∙ ap (λ (h : List Entry). record { history = old.history ++ h; pending = left_from old.pending (first ++ m.more) }) (made-append first m.more ∙ ap (λ (e : List Entry). e ++ made m.more) (made_dones worker (length old.history) old.pending))
    ∙ ap (λ (h : List Entry). record { history = h; pending = left_from old.pending (first ++ m.more) }) (sym (append_assoc old.history old.pending (made m.more)))
    ∙ ap (λ (p : List Entry). record { history = all_of old ++ made m.more; pending = p }) (left-append old.pending first m.more ∙ ap (λ (e : List Entry). left_from e m.more) (left_dones worker (length old.history) old.pending))
    ∙ answers_lead site end (all_of old) worker asks taken outcomes new m.more m.answers

-- ---- whose notes they are

own_dones : (worker place : ℕ) (entries : List Entry) → own worker (dones worker place entries) ≡ dones worker place entries
own_dones worker place [] = refl
own_dones worker place (entry ∷ entries) =
    let rest = dones worker (place + 1) entries in
    let one : Noted = record { note = Done place worker; group = entry ∷ [] } in
    ap (λ (b : Bool). cond b (one ∷ own worker rest) (own worker rest)) (eq-eqb worker worker refl) ∙ ap (λ (xs : List Noted). one ∷ xs) (own_dones worker (place + 1) entries)

own_fault : (kind : FaultKind) (worker : ℕ) (group : List Entry) → own worker (fault kind worker group) ≡ fault kind worker group
own_fault kind worker group =
    let one : Noted = record { note = Fault kind worker; group = group } in
    ap (λ (b : Bool). cond b (one ∷ []) []) (eq-eqb worker worker refl)

own_both : (worker : ℕ) (xs ys : List Noted) → IsOf worker xs → IsOf worker ys → IsOf worker (xs ++ ys)
own_both worker xs ys first second = filter-append _ xs ys ∙ ap (λ (zs : List Noted). zs ++ own worker ys) first ∙ ap (λ (zs : List Noted). xs ++ zs) second

own_told : (worker : ℕ) (outcome : Outcome) → IsOf worker (faults_told worker outcome)
own_told worker (Replied reply) = refl
own_told worker NumberReused = refl
own_told worker (NumberGap last) = refl
own_told worker DiskFault = refl
own_told worker ClockFault = own_fault kind.Clock worker []
own_told worker (ClockRange ms) = own_fault kind.Range worker []
own_told worker WordsFault = own_fault kind.Words worker []
own_told worker (WordsSpent found) = own_fault kind.Spent worker []
own_told worker (JournalFull told asked) = refl
own_told worker Memory = refl

own_notes : (worker place : ℕ) (ts : List Try) → IsOf worker (notes_in worker place ts)
own_notes worker place [] = refl
own_notes worker place (t ∷ ts) =
    own_both worker (faults_told worker t.outcome ++ dones worker place t.new) (notes_in worker (place + length t.new) ts)
    (own_both worker (faults_told worker t.outcome) (dones worker place t.new) (own_told worker t.outcome) (own_dones worker place t.new)) (own_notes worker (place + length t.new) ts)

own_faults : (worker : ℕ) (ts : List Try) → IsOf worker (faults_in worker ts)
own_faults worker [] = refl
own_faults worker (t ∷ ts) = own_both worker (faults_told worker t.outcome) (faults_in worker ts) (own_told worker t.outcome) (own_faults worker ts)

pub answers_mine : (site : Setup) (end : ℕ) (g : List Entry) (worker : ℕ) (asks : List Ask) (taken : Taken) (outcomes : List Outcome) (new : State) (more : List Noted) → Answers site end g worker asks taken outcomes new more → IsOf worker more
answers_mine site end g worker asks taken outcomes new more a = ⊎_elim
    (λ w. subst (λ (ns : List Noted). IsOf worker ns) (sym w.notes_are) (own_notes worker (length g) a.tries))
    (λ l. subst (λ (ns : List Noted). IsOf worker ns) (sym l.notes_are) (own_both worker (faults_in worker a.tries) (fault kind.Disk worker new.pending) (own_faults worker a.tries) (own_fault kind.Disk worker new.pending)))
    a.comes

pub steps_mine : (site : Setup) (end : ℕ) (old : State) (worker : ℕ) (asks : List Ask) (taken : Taken) (outcomes : List Outcome) (new : State) (notes : List Noted) → Steps site end old worker asks taken outcomes new notes → IsOf worker notes
steps_mine site end old worker asks taken outcomes new notes (inl un) = ⊎_elim
    (λ failed. subst (λ (ns : List Noted). IsOf worker ns) (sym failed.1) (own_fault kind.Disk worker []))
    (λ wants. subst (λ (ns : List Noted). IsOf worker ns) (sym wants.1) refl) un.told
steps_mine site end old worker asks taken outcomes new notes (inr m) =
    let first = dones worker (length old.history) old.pending in
    let mine : IsOf worker m.more = answers_mine site end (all_of old) worker asks taken outcomes new m.more m.answers in
    subst (λ (ns : List Noted). IsOf worker ns) (sym m.notes_are) (own_both worker first m.more (own_dones worker (length old.history) old.pending) mine)

-- ---- nothing is lost

trans : (a b c : List Entry) → Extends a b → Extends b c → Extends a c
trans a b c first second = (first.0 ++ second.0, second.1 ∙ ap (λ (h : List Entry). h ++ second.0) first.1 ∙ append_assoc a first.0 second.0)

same : (a b : List Entry) → b ≡ a → Extends a b
same a b is = ([], is ∙ sym (append-nil a))

pub answers_grow : (site : Setup) (end : ℕ) (g : List Entry) (worker : ℕ) (asks : List Ask) (taken : Taken) (outcomes : List Outcome) (new : State) (more : List Noted) → Answers site end g worker asks taken outcomes new more → Extends g new.history × Extends g (all_of new)
answers_grow site end g worker asks taken outcomes new more a = by_comes a.comes
  where
    by_comes : Written g worker a.tries outcomes new more ⊎ Lost g worker a.tries outcomes new more → Extends g new.history × Extends g (all_of new)
    by_comes (inl w) = ((new_in a.tries, ap (λ (s : State). s.history) w.state), (new_in a.tries, ap (λ (s : State). all_of s) w.state ∙ append-nil (g ++ new_in a.tries)))
    by_comes (inr l) = (same g new.history l.history, (new.pending, ap (λ (h : List Entry). h ++ new.pending) l.history))

pub steps_grow : (site : Setup) (end : ℕ) (old : State) (worker : ℕ) (asks : List Ask) (taken : Taken) (outcomes : List Outcome) (new : State) (notes : List Noted) → Steps site end old worker asks taken outcomes new notes → Grows old new
steps_grow site end old worker asks taken outcomes new notes (inl un) =
    record { history = same old.history new.history (ap (λ (s : State). s.history) un.stays); all = same (all_of old) (all_of new) (ap (λ (s : State). all_of s) un.stays) }
steps_grow site end old worker asks taken outcomes new notes (inr m) =
    let grows = answers_grow site end (all_of old) worker asks taken outcomes new m.more m.answers in
    record { history = trans old.history (all_of old) new.history (old.pending, refl) grows.0; all = grows.1 }
