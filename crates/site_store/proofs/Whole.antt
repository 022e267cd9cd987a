-- A group from its first request to the answer.
use Rattle.std.proofs.Common.{◌≡◌, ◌∙◌, ◌≢◌, ◌≤◌, ◌<◌, ◌+◌, inl, inr, ⊎_elim, ℕ, zero, suc, List, [], ◌∷◌, ◌++◌, length, map, drop, Option, refl, sym, subst, ap, arith, append-nil}
use Rattle.std.proofs.lemmas.List.{length-append}
use Rattle.std.specs.declared.vec.IntoIter.{IntoIter}
use Rattle.std.specs.Vec.Iter.{into_iter_items, into_iter_len}
use Rattle.deed_words.specs.Setups.{Setup}
use Rattle.deed_words.specs.declared.entry.Ask.{Ask}
use Rattle.deed_words.specs.declared.entry.Entry.{Entry}
use Rattle.site_store.specs.declared.outcome.Outcome.{Outcome}
use Rattle.site_store.specs.declared.outcome.Outcome.TheVariants.{Replied, NumberReused, NumberGap, DiskFault, ClockFault, ClockRange, WordsFault, WordsSpent, JournalFull, Memory}
use Rattle.site_core.specs.declared.planned.Planned.{Planned}
use Rattle.site_store.specs.declared.finish.Finish.TheVariants as finish
use Rattle.site_store.specs.Going.{IsGoing, lost_after}
use Rattle.site_store.specs.Held.{Held}
use Rattle.site_store.specs.Images.{HoldsBetween}
use Rattle.site_store.specs.Moved.{Taken, nothing_taken}
use Rattle.deed_words.specs.declared.entry.FaultKind.TheVariants as kind
use Rattle.site_store.specs.Noting.{Noted, fault}
use Rattle.site_store.specs.Standing.{IsSound, IsKept, entries_of}
use Rattle.site_store.specs.States.{State, all_of, settled}
use Rattle.site_store.specs.Steps.{Try, Tries, AreTries, Answers, asks_in, outcomes_in, new_in, taken_in, notes_in}
use Rattle.site_store.specs.Tried.{Tried}
use Rattle.site_store.specs.Trying.{IsTrying, Finishes, no_dones}
use Rattle.deed_words.specs.History.{world_of}
use Rattle.batch_book.specs.Content.{world_in}
use Rattle.entry_bytes.specs.Spelling.{group_bytes}
use Rattle.site_core.specs.View.{View}
use Rattle.site_store.proofs.Tries.{only_faults}

pub drop_step : (n : ℕ) (xs : List Outcome) → n < length xs → map (λ (o : Outcome). DiskFault) (drop n xs) ≡ DiskFault ∷ map (λ (o : Outcome). DiskFault) (drop (suc n) xs)
drop_step n [] there = absurd (omega (arith, there))
drop_step zero (x ∷ xs) there = refl
drop_step (suc n) (x ∷ xs) there = drop_step n xs (omega (arith, there))

pub start_trying : (image : List ℕ → Type 0) (end : ℕ) (jp : Option ℕ) (base view : View) (ps committed : List Planned) (frame : List ℕ) (rows spare pending_spare : ℕ) → IsSound image end jp view ps spare → ps ≡ [] → base ≡ view → committed ≡ [] → frame ≡ group_bytes [] → rows ≡ 0 → world_in view.content ≡ world_of view.setup view.history → IsTrying image end jp base view committed frame rows spare pending_spare
start_trying image end jp base view ps committed frame rows spare pending_spare sound none base_is committed_is frame_is rows_is world_is =
    subst (λ (b : View). IsTrying image end jp b view committed frame rows spare pending_spare) (sym base_is)
    (subst (λ (l : List Planned). IsTrying image end jp view view l frame rows spare pending_spare) (sym committed_is) (record {
      kept = subst (λ (l : List Planned). IsKept image end jp view.setup view.history (entries_of l)) none sound.kept;
      lawful = sound.lawful;
      in_range = sound.in_range;
      setup_is = refl;
      history_is = sym (append-nil view.history);
      content_is = refl;
      world_is = world_is;
      next = tt;
      proper = tt;
      are_kept = tt;
      few = omega arith;
      frame_is = frame_is;
      fits = λ some. absurd (some refl);
      noted = omega (arith, rows_is);
      may_pend = omega arith;
    }))

tries_short : (site : Setup) (end : ℕ) (g front : List Entry) (worker : ℕ) (ask : Ask) (taken : Taken) (outcome : Outcome) (new : List Entry) → Tries site end g front worker ask taken outcome new → length new ≤ 1
tries_short site end g front worker ask taken (Replied reply) new (inl was) = subst (λ (l : List Entry). length l ≤ 1) (sym was.1) (omega arith)
tries_short site end g front worker ask taken (Replied reply) new (inr is) = subst (λ (l : List Entry). length l ≤ 1) (sym is.new_is) (omega arith)
tries_short site end g front worker ask taken NumberReused new is = subst (λ (l : List Entry). length l ≤ 1) (sym is.1) (omega arith)
tries_short site end g front worker ask taken (NumberGap last) new is = subst (λ (l : List Entry). length l ≤ 1) (sym is.1) (omega arith)
tries_short site end g front worker ask taken ClockFault new is = subst (λ (l : List Entry). length l ≤ 1) (sym is.1) (omega arith)
tries_short site end g front worker ask taken (ClockRange ms) new is = subst (λ (l : List Entry). length l ≤ 1) (sym is.1) (omega arith)
tries_short site end g front worker ask taken WordsFault new is = subst (λ (l : List Entry). length l ≤ 1) (sym is.1) (omega arith)
tries_short site end g front worker ask taken (WordsSpent found) new is = subst (λ (l : List Entry). length l ≤ 1) (sym is.1) (omega arith)
tries_short site end g front worker ask taken (JournalFull told asked) new is = subst (λ (l : List Entry). length l ≤ 1) (sym is.1) (omega arith)
tries_short site end g front worker ask taken DiskFault new is = absurd is
tries_short site end g front worker ask taken Memory new is = subst (λ (l : List Entry). length l ≤ 1) (sym is.1) (omega arith)

pub tried_short : (site : Setup) (end : ℕ) (h h' front front' : List Entry) (noted noted' : List Noted) (worker : ℕ) (ask : Ask) (taken : Taken) (outcome : Outcome) → Tried site end h h' front front' noted noted' worker ask taken outcome → length front' ≤ length front + 1
tried_short site end h h' front front' noted noted' worker ask taken outcome t =
    let short = tries_short site end h front worker ask taken outcome t.new t.tries in
    let long = ap (λ (l : List Entry). length l) t.front_is in
    let both = length-append front t.new in
    omega (arith, short, long, both)

pub no_entries : (ps : List Planned) → entries_of ps ≡ [] → ps ≡ []
no_entries [] none = refl
no_entries (p ∷ ps) none = absurd (cc)

-- ---- the answers

abbrev wanting : List Ask → List Try
wanting [] = []
wanting (ask ∷ asks) = record { ask = ask; taken = nothing_taken; outcome = Memory; new = [] } ∷ wanting asks

wanting_asks : (asks : List Ask) → asks ≡ asks_in (wanting asks)
wanting_asks [] = refl
wanting_asks (ask ∷ asks) = ap (λ (l : List Ask). ask ∷ l) (wanting_asks asks)

wanting_outcomes : (asks : List Ask) → map (λ (ask : Ask). Memory) asks ≡ outcomes_in (wanting asks)
wanting_outcomes [] = refl
wanting_outcomes (ask ∷ asks) = ap (λ (l : List Outcome). Memory ∷ l) (wanting_outcomes asks)

wanting_new : (asks : List Ask) → new_in (wanting asks) ≡ []
wanting_new [] = refl
wanting_new (ask ∷ asks) = wanting_new asks

wanting_taken : (asks : List Ask) → nothing_taken ≡ taken_in (wanting asks)
wanting_taken [] = refl
wanting_taken (ask ∷ asks) = ap (λ (t : Taken). record { moments = [] ++ t.moments; words = [] ++ t.words }) (wanting_taken asks)

wanting_notes : (worker place : ℕ) (asks : List Ask) → [] ≡ notes_in worker place (wanting asks)
wanting_notes worker place [] = refl
wanting_notes worker place (ask ∷ asks) = wanting_notes worker (place + 0) asks

wanting_tries : (site : Setup) (end : ℕ) (g front : List Entry) (worker : ℕ) (asks : List Ask) → AreTries site end g front worker (wanting asks)
wanting_tries site end g front worker [] = tt
wanting_tries site end g front worker (ask ∷ asks) = ((inl refl, refl), wanting_tries site end (g ++ []) (front ++ []) worker asks)

pub all_wanting : (site : Setup) (end : ℕ) (g : List Entry) (worker : ℕ) (asks : List Ask) (outcomes : List Outcome) (state : State) → outcomes ≡ map (λ (ask : Ask). Memory) asks → state ≡ settled g → Answers site end g worker asks nothing_taken outcomes state []
all_wanting site end g worker asks outcomes state outcomes_are state_is = record {
  tries = wanting asks;
  asks_are = wanting_asks asks;
  taken_is = wanting_taken asks;
  are = wanting_tries site end g [] worker asks;
  comes = inl (record {
    outcomes_are = outcomes_are ∙ wanting_outcomes asks;
    state = state_is ∙ ap settled (sym (ap (λ (l : List Entry). g ++ l) (wanting_new asks) ∙ append-nil g));
    notes_are = wanting_notes worker (length g) asks;
  });
}

pub all_written : (site : Setup) (end : ℕ) (g g' : List Entry) (worker : ℕ) (asks rest : List Ask) (outcomes : List Outcome) (front : List Entry) (noted : List Noted) (kept : ℕ) (c0 c1 w0 w1 : Option (List ℕ)) (state : State) (more : List Noted) (going : IsGoing site end g worker asks rest outcomes front noted kept c0 c1 w0 w1) → rest ≡ [] → g' ≡ g → Finishes g' front worker noted finish.Written state more
    → Answers site end g worker asks (taken_in going.tries) outcomes state more
all_written site end g g' worker asks rest outcomes front noted kept c0 c1 w0 w1 state more going none g_is done = record {
  tries = going.tries;
  asks_are = sym going.asks_are ∙ ap (λ (l : List Ask). asks_in going.tries ++ l) none ∙ append-nil (asks_in going.tries);
  taken_is = refl;
  are = going.are;
  comes = inl (record {
    outcomes_are = going.outcomes_are;
    state = done.0 ∙ ap (λ (h : List Entry). settled (h ++ front)) g_is ∙ ap (λ (l : List Entry). settled (g ++ l)) going.front_is;
    notes_are = done.1 ∙ going.notes_are;
  });
}

pub all_lost : (site : Setup) (end : ℕ) (g g' : List Entry) (worker : ℕ) (asks rest : List Ask) (outcomes outcomes' : List Outcome) (front : List Entry) (noted : List Noted) (kept : ℕ) (c0 c1 w0 w1 : Option (List ℕ)) (state : State) (more : List Noted) (going : IsGoing site end g worker asks rest outcomes front noted kept c0 c1 w0 w1) → rest ≡ [] → g' ≡ g → outcomes' ≡ lost_after kept outcomes → Finishes g' front worker noted finish.Lost state more
    → Answers site end g worker asks (taken_in going.tries) outcomes' state more
all_lost site end g g' worker asks rest outcomes outcomes' front noted kept c0 c1 w0 w1 state more going none g_is lost done = record {
  tries = going.tries;
  asks_are = sym going.asks_are ∙ ap (λ (l : List Ask). asks_in going.tries ++ l) none ∙ append-nil (asks_in going.tries);
  taken_is = refl;
  are = going.are;
  comes = inr (record {
    some = λ empty. done.0 (going.front_is ∙ empty);
    outcomes_are = lost ∙ sym going.lost_is;
    history = done.1 ∙ g_is;
    pending = ⊎_elim (λ is. inl is) (λ is. inr (is ∙ going.front_is)) done.2;
    notes_are = done.3 ∙ ap (λ (l : List Noted). no_dones l ++ fault kind.Disk worker state.pending) going.notes_are ∙ ap (λ (l : List Noted). l ++ fault kind.Disk worker state.pending) (only_faults worker (length g) going.tries);
  });
}

-- ---- images

pub between : (site mid_site : Setup) (old mid new : State) (c : List ℕ) → mid_site ≡ site → mid ≡ settled (all_of old) → HoldsBetween mid_site (settled mid.history) new c → HoldsBetween site old new c
between site mid_site old mid new c site_is mid_is holds =
    by_holds (subst (λ (s : Setup). HoldsBetween s (settled (all_of old)) new c) site_is (subst (λ (m : State). HoldsBetween mid_site (settled m.history) new c) mid_is holds))
  where
    by_holds : HoldsBetween site (settled (all_of old)) new c → HoldsBetween site old new c
    by_holds (inl (inl was)) = inl (inr was)
    by_holds (inl (inr was)) = inl (inr (subst (λ (h : List Entry). Held site h c) (append-nil (all_of old)) was))
    by_holds (inr is) = inr is

pub none_order : (ps : List Planned) → ps ≢ [] → entries_of ps ≢ []
none_order ps some none = some (no_entries ps none)

pub empty_of : {X : Type 0} (xs : List X) → length xs ≡ 0 → xs ≡ []
empty_of [] is = refl
empty_of (x ∷ xs) is = absurd (omega (arith, is))

-- nothing is left of an iterator with no length
pub none_left : {Z : Type 0} (s : IntoIter Ask Z) → into_iter_len s ≡ 0 → into_iter_items s ≡ []
none_left s none = empty_of (into_iter_items s) (grind (arith, none))
