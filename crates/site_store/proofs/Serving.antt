-- Each entry's worker is one that a note names.
use Rattle.std.proofs.Common.{◌≡◌, ◌∙◌, ◌≢◌, ◌⊎◌, inl, inr, ⊎_elim, ℕ, List, [], ◌∷◌, ◌++◌, length, refl, sym, subst, ap, append-nil, append_assoc}
use Rattle.std.specs.List.{AllByRecursion as Every}
use Rattle.std.proofs.lemmas.List.Elements.{filter-append}
use Rattle.deed_words.specs.Setups.{Setup}
use Rattle.deed_words.specs.declared.entry.Ask.{Ask}
use Rattle.deed_words.specs.declared.entry.Entry.{Entry}
use Rattle.deed_words.specs.declared.entry.FaultKind.TheVariants as kind
use Rattle.site_core.specs.View.{View}
use Rattle.site_core.specs.declared.planned.Planned.{Planned}
use Rattle.site_store.specs.declared.log.Row.{Row}
use Rattle.site_store.specs.declared.outcome.Outcome.{Outcome}
use Rattle.site_store.specs.declared.outcome.Outcome.TheVariants.{Replied, NumberReused, NumberGap, DiskFault, ClockFault, ClockRange, WordsFault, WordsSpent, JournalFull, Memory}
use Rattle.site_store.specs.Moved.{Taken}
use Rattle.site_store.specs.Noting.{AreServed, IsOf, Names, Noted, dones, fault, made, own}
use Rattle.site_store.specs.Standing.{in_order, noted_in, state_of}
use Rattle.site_store.specs.States.{State, all_of}
use Rattle.site_store.specs.Steps.{Answers, AreTries, Lost, Steps, Tries, Try, Written, faults_in, new_in}
use Rattle.site_store.proofs.Back.{every_more}
use Rattle.site_store.proofs.Leading.{faults_made, notes_made, answers_mine}
use Rattle.site_store.proofs.Noted.{made-append, made_dones}

-- the entry is of this worker
abbrev IsMine : ℕ → Entry → Type 0
IsMine worker entry = entry.worker ≡ worker

front_some : (xs ys : List Noted) → xs ≢ [] → xs ++ ys ≢ []
front_some [] ys some none = some refl
front_some (x ∷ xs) ys some none = absurd (cc)

back_some : (xs ys : List Noted) → ys ≢ [] → xs ++ ys ≢ []
back_some [] ys some none = some none
back_some (x ∷ xs) ys some none = absurd (cc)

-- more notes take no name away
names_more : (noted notes : List Noted) (entries : List Entry) → Every (Names noted) entries → Every (Names (noted ++ notes)) entries
names_more noted notes [] named = tt
names_more noted notes (entry ∷ entries) named =
    (subst (λ (l : List Noted). l ≢ []) (sym (filter-append _ noted notes)) (front_some (own entry.worker noted) (own entry.worker notes) named.0), names_more noted notes entries named.1)

-- a worker's notes name it
names_mine : (worker : ℕ) (noted notes : List Noted) (entries : List Entry) → IsOf worker notes → notes ≢ [] → Every (IsMine worker) entries → Every (Names (noted ++ notes)) entries
names_mine worker noted notes [] mine some are = tt
names_mine worker noted notes (entry ∷ entries) mine some are =
    let own_is : own entry.worker notes ≡ notes = ap (λ (w : ℕ). own w notes) are.0 ∙ mine in (
      subst (λ (l : List Noted). l ≢ []) (sym (filter-append _ noted notes)) (back_some (own entry.worker noted) (own entry.worker notes) (subst (λ (l : List Noted). l ≢ []) (sym own_is) some)),
      names_mine worker noted notes entries mine some are.1,
    )

-- .. where there are entries at all
names_made : (worker : ℕ) (noted notes : List Noted) (entries : List Entry) → IsOf worker notes → (notes ≡ [] → entries ≡ []) → Every (IsMine worker) entries → Every (Names (noted ++ notes)) entries
names_made worker noted [] entries mine none are = subst (λ (l : List Entry). Every (Names (noted ++ [])) l) (sym (none refl)) tt
names_made worker noted (note ∷ notes) entries mine none are = names_mine worker noted (note ∷ notes) entries mine (λ empty. absurd (cc)) are

nothing_mine : (worker : ℕ) (new : List Entry) → new ≡ [] → Every (IsMine worker) new
nothing_mine worker new none = subst (λ (l : List Entry). Every (IsMine worker) l) (sym none) tt

tries_mine : (site : Setup) (end : ℕ) (g front : List Entry) (worker : ℕ) (ask : Ask) (taken : Taken) (outcome : Outcome) (new : List Entry) → Tries site end g front worker ask taken outcome new → Every (IsMine worker) new
tries_mine site end g front worker ask taken (Replied reply) new (inl was) = nothing_mine worker new was.1
tries_mine site end g front worker ask taken (Replied reply) new (inr is) = subst (λ (l : List Entry). Every (IsMine worker) l) (sym is.new_is) (ap (λ (e : Entry). e.worker) is.makes.entry_is, tt)
tries_mine site end g front worker ask taken NumberReused new is = nothing_mine worker new is.1
tries_mine site end g front worker ask taken (NumberGap last) new is = nothing_mine worker new is.1
tries_mine site end g front worker ask taken ClockFault new is = nothing_mine worker new is.1
tries_mine site end g front worker ask taken (ClockRange ms) new is = nothing_mine worker new is.1
tries_mine site end g front worker ask taken WordsFault new is = nothing_mine worker new is.1
tries_mine site end g front worker ask taken (WordsSpent found) new is = nothing_mine worker new is.1
tries_mine site end g front worker ask taken (JournalFull told asked) new is = nothing_mine worker new is.1
tries_mine site end g front worker ask taken DiskFault new is = absurd is
tries_mine site end g front worker ask taken Memory new is = nothing_mine worker new is.1

new_mine : (site : Setup) (end : ℕ) (g front : List Entry) (worker : ℕ) (ts : List Try) → AreTries site end g front worker ts → Every (IsMine worker) (new_in ts)
new_mine site end g front worker [] are = tt
new_mine site end g front worker (t ∷ ts) are =
    every_more (IsMine worker) t.new (new_in ts) (tries_mine site end g front worker t.ask t.taken t.outcome t.new are.0) (new_mine site end (g ++ t.new) (front ++ t.new) worker ts are.1)

-- behind a history with nothing pending, where these notes came before
answers_served : (site : Setup) (end : ℕ) (g : List Entry) (worker : ℕ) (asks : List Ask) (taken : Taken) (outcomes : List Outcome) (new : State) (more noted : List Noted) → Answers site end g worker asks taken outcomes new more
    → Every (Names (noted ++ more)) (made more) × Every (Names (noted ++ more)) new.pending
answers_served site end g worker asks taken outcomes new more noted a = by_comes a.comes
  where
    mine : IsOf worker more
    mine = answers_mine site end g worker asks taken outcomes new more a

    entries : Every (IsMine worker) (new_in a.tries)
    entries = new_mine site end g [] worker a.tries a.are

    none_pending : new.pending ≡ [] → Every (Names (noted ++ more)) new.pending
    none_pending none = subst (λ (l : List Entry). Every (Names (noted ++ more)) l) (sym none) tt

    by_comes : Written g worker a.tries outcomes new more ⊎ Lost g worker a.tries outcomes new more → Every (Names (noted ++ more)) (made more) × Every (Names (noted ++ more)) new.pending
    by_comes (inl w) =
        let made_is : made more ≡ new_in a.tries = ap made w.notes_are ∙ notes_made worker (length g) a.tries in (
          names_made worker noted more (made more) mine (λ none. ap made none) (subst (λ (l : List Entry). Every (IsMine worker) l) (sym made_is) entries),
          none_pending (ap (λ (s : State). s.pending) w.state),
        )
    by_comes (inr l) =
        let disk = fault kind.Disk worker new.pending in
        let made_is : made more ≡ [] = ap made l.notes_are ∙ made-append (faults_in worker a.tries) disk ∙ ap (λ (e : List Entry). e ++ []) (faults_made worker a.tries) in
        let some : more ≢ [] = subst (λ (ns : List Noted). ns ≢ []) (sym l.notes_are) (back_some (faults_in worker a.tries) disk (λ none. absurd (cc))) in (
          subst (λ (e : List Entry). Every (Names (noted ++ more)) e) (sym made_is) tt,
          ⊎_elim none_pending (λ is. subst (λ (e : List Entry). Every (Names (noted ++ more)) e) (sym is) (names_mine worker noted more (new_in a.tries) mine some entries)) l.pending,
        )

pub steps_served : (site : Setup) (end : ℕ) (old : State) (worker : ℕ) (asks : List Ask) (taken : Taken) (outcomes : List Outcome) (new : State) (notes noted all : List Noted) → Steps site end old worker asks taken outcomes new notes → all ≡ noted ++ notes → AreServed noted old → AreServed all new
steps_served site end old worker asks taken outcomes new notes noted all (inl un) all_is was =
    let none : made notes ≡ [] = ⊎_elim (λ failed. ap made failed.1) (λ wants. ap made wants.1) un.told in
    let made_is : made (noted ++ notes) ≡ made noted = made-append noted notes ∙ ap (λ (l : List Entry). made noted ++ l) none ∙ append-nil (made noted) in
    subst (λ (ns : List Noted). AreServed ns new) (sym all_is) (
      subst (λ (l : List Entry). Every (Names (noted ++ notes)) l) (sym made_is) (names_more noted notes (made noted) was.0),
      subst (λ (s : State). Every (Names (noted ++ notes)) s.pending) (sym un.stays) (names_more noted notes old.pending was.1),
    )
steps_served site end old worker asks taken outcomes new notes noted all (inr m) all_is was =
    let first = dones worker (length old.history) old.pending in
    let served = answers_served site end (all_of old) worker asks taken outcomes new m.more (noted ++ first) m.answers in
    let whole : (noted ++ first) ++ m.more ≡ all = append_assoc noted first m.more ∙ ap (λ (ns : List Noted). noted ++ ns) (sym m.notes_are) ∙ sym all_is in
    let made_is : made all ≡ made noted ++ (old.pending ++ made m.more) = ap made all_is ∙ made-append noted notes ∙ ap (λ (ns : List Noted). made noted ++ made ns) m.notes_are
    ∙ ap (λ (l : List Entry). made noted ++ l) (made-append first m.more ∙ ap (λ (l : List Entry). l ++ made m.more) (made_dones worker (length old.history) old.pending)) in
    let before : (entries : List Entry) → Every (Names noted) entries → Every (Names all) entries = λ entries named. subst (λ (ns : List Noted). Every (Names ns) entries) (sym all_is) (names_more noted notes entries named) in (
      subst (λ (l : List Entry). Every (Names all) l) (sym made_is)
          (every_more (Names all) (made noted) (old.pending ++ made m.more) (before (made noted) was.0) (every_more (Names all) old.pending (made m.more) (before old.pending was.1) (subst (λ (ns : List Noted). Every (Names ns) (made m.more)) whole served.0))),
      subst (λ (ns : List Noted). Every (Names ns) new.pending) whole served.1,
    )

-- a store that was loaded or made
pub first_served : (rows : List Row) (view : View) (ps : List Planned) → rows ≡ [] → ps ≡ [] → AreServed (noted_in rows) (state_of view (in_order ps))
first_served rows view ps empty none =
    subst (λ (l : List Row). AreServed (noted_in l) (state_of view (in_order ps))) (sym empty) (subst (λ (l : List Planned). AreServed [] (state_of view (in_order l))) (sym none) (tt, tt))
