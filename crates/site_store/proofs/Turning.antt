-- From a step to what is true between two calls.
use Rattle.std.proofs.Common.{◌≡◌, ◌∙◌, ◌≢◌, ◌⊎◌, inl, inr, ℕ, List, [], ◌∷◌, ◌++◌, length, Option, refl, sym, subst, ap, append-nil, append_assoc}
use Rattle.std.specs.Io.KnownBytes.{Consumes}
use Rattle.outside.specs.Causes.{HasCauseIf}
use Rattle.outside.specs.Disks.{LeavesOnly}
use Rattle.outside.proofs.Moments.{weaker}
use Rattle.outside.specs.declared.disk.Disk as disk
use Rattle.outside.specs.declared.devices.Words as words
use Rattle.deed_words.specs.Setups.{Setup}
use Rattle.deed_words.specs.declared.entry.Ask.{Ask}
use Rattle.deed_words.specs.declared.entry.Entry.{Entry}
use Rattle.deed_words.specs.declared.entry.FaultKind.TheVariants as kind
use Rattle.outside.specs.declared.clock.Clock as clock
use Rattle.site_store.specs.declared.outcome.Outcome.{Outcome}
use Rattle.site_store.specs.declared.log.Row.{Row}
use Rattle.site_core.specs.declared.planned.Planned.{Planned}
use Rattle.site_store.specs.declared.store.Store.{Store}
use Rattle.site_store.specs.Causes.{is_disk_fault, is_clock_fault, is_words_fault, tells_disk_fault, HasCauses}
use Rattle.site_store.specs.One as one
use Rattle.site_store.specs.Held.{Held}
use Rattle.site_store.specs.Images.{HoldsState, HoldsBetween, SettledFrom, Extends, Grows}
use Rattle.site_store.specs.Moved.{Taken}
use Rattle.site_store.specs.Noting.{Noted, dones, how_often, standing}
use Rattle.site_store.specs.Open.{IsOpen, IsSoundStore, HasBegun, store_state, notes_of}
use Rattle.site_store.specs.Standing.{IsSound, AreNotesOf, end_of, in_order, state_of, noted_in}
use Rattle.site_store.specs.States.{State, all_of, settled}
use Rattle.site_store.specs.Steps.{Answers, Steps}
use Rattle.site_core.specs.View.{View}
use Rattle.site_store.proofs.Chaining.{begun_more, begun_same, loaded_first}
use Rattle.site_store.proofs.Counting.{steps_caused, cause_is, tells_single, causes_of, just_one}
use Rattle.site_store.proofs.OneOf.{of_one}
use Rattle.site_store.proofs.Telling.{one_clock, one_words}
use Rattle.site_store.proofs.Leading.{steps_lead}
use Rattle.site_store.proofs.Serving.{steps_served}

pub steps_after : (site site' : Setup) (end end' : ℕ) (old mid : State) (worker : ℕ) (asks : List Ask) (taken : Taken) (outcomes : List Outcome) (new : State) (notes more : List Noted) → site' ≡ site → end' ≡ end → mid ≡ settled (all_of old) → notes ≡ dones worker (length old.history) old.pending
    → Answers site' end' mid.history worker asks taken outcomes new more → Steps site end old worker asks taken outcomes new (notes ++ more)
steps_after site site' end end' old mid worker asks taken outcomes new notes more site_is end_is mid_is notes_are answers = inr (record {
  more = more;
  notes_are = ap (λ (ns : List Noted). ns ++ more) notes_are;
  answers = subst (λ (s : Setup). Answers s end (all_of old) worker asks taken outcomes new more) site_is
      (subst (λ (e : ℕ). Answers site' e (all_of old) worker asks taken outcomes new more) end_is
      (subst (λ (s : State). Answers site' end' s.history worker asks taken outcomes new more) mid_is answers));
})

pub noted_after : (log mid new notes more : List Noted) → mid ≡ log ++ notes → new ≡ mid ++ more → new ≡ log ++ (notes ++ more)
noted_after log mid new notes more first second = second ∙ ap (λ (ns : List Noted). ns ++ more) first ∙ append_assoc log notes more

-- where nothing is pending the journal ends where the next record goes
pub end_settled : (image : List ℕ → Type 0) (end end' : ℕ) (jp : Option ℕ) (view : View) (ps : List Planned) (spare : ℕ) → IsSound image end jp view ps spare → ps ≡ [] → end_of end jp ≡ end' → end ≡ end'
end_settled image end end' jp view ps spare sound none is =
    let kept = subst (λ (l : List Planned). IsSound image end jp view l spare) none sound in
    sym (ap (end_of end) (kept.kept.stands.settled)) ∙ is

module _ {D : Type 0} (moment : D → ℕ) (since : D → ℕ → List ℕ → Type 0) where
  -- what was pending is settled, and then the rest is done
  pub settled_from : (start mid new : D) (site site' : Setup) (old was after : State) → site' ≡ site → was ≡ settled (all_of old) → LeavesOnly moment since start mid (HoldsState site old) → LeavesOnly moment since mid new (HoldsBetween site' (settled was.history) after)
      → Extends was.history after.history → SettledFrom moment since site old start new after
  settled_from start mid new site site' old was after site_is was_is first second extends = record {
    mid = mid;
    before = first;
    after = weaker moment since mid new (HoldsBetween site' (settled was.history) after) (λ d. Held site (all_of old) d ⊎ Held site (all_of after) d) second (λ d is. by_holds d (now d is));
    extends = subst (λ (s : State). Extends s.history after.history) was_is extends;
  }
    where
      now : (d : List ℕ) → HoldsBetween site' (settled was.history) after d → HoldsBetween site (settled (all_of old)) after d
      now d is = subst (λ (s : Setup). HoldsBetween s (settled (all_of old)) after d) site_is (subst (λ (m : State). HoldsBetween site' (settled m.history) after d) was_is is)

      by_holds : (d : List ℕ) → HoldsBetween site (settled (all_of old)) after d → Held site (all_of old) d ⊎ Held site (all_of after) d
      by_holds d (inl (inl held)) = inl held
      by_holds d (inl (inr held)) = inl (subst (λ (h : List Entry). Held site h d) (append-nil (all_of old)) held)
      by_holds d (inr held) = inr held

pub open_more : {D C W : Type 0} (g : disk.Ghosts D) (k : clock.Ghosts C) (w : words.Ghosts W) (s u : Store D C W g) (end worker : ℕ) (asks : List Ask) (taken : Taken) (outcomes : List Outcome) (notes : List Noted) → IsOpen g k w s → IsSoundStore u → u.opening ≡ s.opening → u.opened ≡ s.opened → u.site.setup ≡ s.site.setup
    → asks ≢ [] → Steps s.site.setup end (store_state s) worker asks taken outcomes (store_state u) notes → notes_of u ≡ notes_of s ++ notes
    → HasCauseIf (tells_disk_fault outcomes (store_state u).pending) (g.disk_faults s.journal.disk) (g.disk_faults u.journal.disk) → HasCauses kind.Clock (notes_of s) (notes_of u) (k.clock_faults s.clock) (k.clock_faults u.clock) → HasCauses kind.Words (notes_of s) (notes_of u) (w.word_faults s.words) (w.word_faults u.words)
    → Consumes (k.moments_left s.clock) (k.moments_left u.clock) taken.moments → Consumes (w.words_left s.words) (w.words_left u.words) taken.words → IsOpen g k w u
open_more g k w s u end worker asks taken outcomes notes was sound opening opened setup some steps noted disk clock words moments left =
    let old = store_state s in
    let new = store_state u in
    let o = s.opened.value in
    let lead = steps_lead s.site.setup end old worker asks taken outcomes new notes s.opening.value.history (notes_of s) steps was.noted in
    let caused = steps_caused s.site.setup end old worker asks taken outcomes new notes (notes_of s) (notes_of u)
    (g.disk_faults o.disk) (g.disk_faults s.journal.disk) (g.disk_faults u.journal.disk) (k.clock_faults o.clock) (k.clock_faults s.clock) (k.clock_faults u.clock)
    (w.word_faults o.words) (w.word_faults s.words) (w.word_faults u.words) (k.moments_left o.clock) (k.moments_left s.clock) (k.moments_left u.clock) (w.words_left o.words) (w.words_left s.words) (w.words_left u.words)
    was.caused some steps noted disk clock words moments left in
    record {
      sound = sound;
      noted = rw opening (rw noted lead);
      served = steps_served s.site.setup end old worker asks taken outcomes new notes (notes_of s) (notes_of u) steps noted was.served;
      caused = rw opened caused;
    }

-- .. after one request
pub open_one : {D C W : Type 0} (g : disk.Ghosts D) (k : clock.Ghosts C) (w : words.Ghosts W) (s u : Store D C W g) (end worker : ℕ) (ask : Ask) (taken : Taken) (outcome : Outcome) (notes : List Noted) → IsOpen g k w s → IsSoundStore u → u.opening ≡ s.opening → u.opened ≡ s.opened → u.site.setup ≡ s.site.setup
    → one.Steps s.site.setup end (store_state s) worker ask taken outcome (store_state u) notes → notes_of u ≡ notes_of s ++ notes
    → HasCauseIf (is_disk_fault outcome (store_state u).pending) (g.disk_faults s.journal.disk) (g.disk_faults u.journal.disk) → HasCauseIf (is_clock_fault outcome) (k.clock_faults s.clock) (k.clock_faults u.clock) → HasCauseIf (is_words_fault outcome) (w.word_faults s.words) (w.word_faults u.words)
    → Consumes (k.moments_left s.clock) (k.moments_left u.clock) taken.moments → Consumes (w.words_left s.words) (w.words_left u.words) taken.words → IsOpen g k w u
open_one g k w s u end worker ask taken outcome notes was sound opening opened setup steps noted disk clock words moments left =
    let old = store_state s in
    let new = store_state u in
    let d = cause_is (is_disk_fault outcome new.pending) (tells_disk_fault (outcome ∷ []) new.pending) (g.disk_faults s.journal.disk) (g.disk_faults s.journal.disk) (g.disk_faults u.journal.disk) (g.disk_faults u.journal.disk) disk (tells_single outcome new.pending) refl refl in
    let clock_is = one_clock s.site.setup end old worker ask taken outcome new notes steps in
    let words_is = one_words s.site.setup end old worker ask taken outcome new notes steps in
    let c = causes_of kind.Clock (notes_of s) (notes_of s) (notes_of u) notes (how_often kind.Clock notes) (k.clock_faults s.clock) (k.clock_faults s.clock) (k.clock_faults u.clock) (k.clock_faults u.clock) refl noted refl (just_one (how_often kind.Clock notes) (k.clock_faults s.clock) (k.clock_faults u.clock) (is_clock_fault outcome) clock clock_is) refl refl in
    let r = causes_of kind.Words (notes_of s) (notes_of s) (notes_of u) notes (how_often kind.Words notes) (w.word_faults s.words) (w.word_faults s.words) (w.word_faults u.words) (w.word_faults u.words) refl noted refl (just_one (how_often kind.Words notes) (w.word_faults s.words) (w.word_faults u.words) (is_words_fault outcome) words words_is) refl refl in
    open_more g k w s u end worker (ask ∷ []) taken (outcome ∷ []) notes was sound opening opened setup (λ none. absurd (cc)) (of_one s.site.setup end old worker ask taken outcome new notes steps) noted d c r moments left

-- Whatever is allowed at the start: a step goes on from it.
pub begun_on : {D C W : Type 0} (g : disk.Ghosts D) (k : clock.Ghosts C) (w : words.Ghosts W) (at_start : List ℕ → Type 0) (s u : Store D C W g) → IsOpen g k w s → u.opening ≡ s.opening → u.opened ≡ s.opened → u.site.setup ≡ s.site.setup → Grows (store_state s) (store_state u)
    → LeavesOnly g.moment g.image_since s.journal.disk u.journal.disk (HoldsBetween s.site.setup (store_state s) (store_state u)) → HasBegun g at_start s → HasBegun g at_start u
begun_on g k w at_start s u was opening opened setup grows images begun =
    let old = store_state s in
    let new = store_state u in
    let o = s.opened.value in
    let least = loaded_first s.opening.value.history (notes_of s) old was.noted in
    begun_same g.moment g.image_since at_start o.disk u.opened.value.disk u.journal.disk s.site.setup u.site.setup s.opening.value.history u.opening.value.history (all_of new) (ap (λ v. v.value.disk) opened) setup (ap (λ v. v.value.history) opening)
    (begun_more g.moment g.image_since at_start o.disk s.journal.disk u.journal.disk s.site.setup s.opening.value.history old new least begun images grows)

-- the notes of a store that was loaded or made
pub first_noted : (opening : List Entry) (rows : List Row) (view : View) (ps : List Planned) → rows ≡ [] → ps ≡ [] → opening ≡ view.history → AreNotesOf opening (noted_in rows) (state_of view (in_order ps))
first_noted opening rows view ps empty none opening_is =
    ap (λ (l : List Row). standing opening (noted_in l)) empty ∙ ap (λ (h : List Entry). record { history = h; pending = [] }) (append-nil opening ∙ opening_is) ∙ ap (λ (l : List Planned). state_of view (in_order l)) (sym none)
