-- A step of the store, as the desk sees it.
use Rattle.std.proofs.Common.{◌≡◌, ◌∙◌, ◌≤◌, ℕ, List, ◌++◌, map, refl, sym, ap, subst}
use Rattle.std.proofs.lemmas.List.{map-append}
use Rattle.outside.specs.declared.disk.Disk as disk
use Rattle.outside.specs.declared.devices.Words as words
use Rattle.outside.specs.declared.clock.Clock as clock
use Rattle.deed_words.specs.declared.entry.Ask.{Ask}
use Rattle.turn_desk.specs.Notes.{Appends}
use Rattle.turn_desk.specs.declared.view.Origin.{Origin}
use Rattle.site_store.specs.declared.outcome.Outcome.{Outcome}
use Rattle.site_store.specs.declared.store.Store.{Store}
use Rattle.site_store.specs.Held.{furthest}
use Rattle.site_store.specs.Moved.{Taken}
use Rattle.site_store.specs.Noting as store
use Rattle.site_store.specs.Open.{IsOpen, HasBegun, notes_of, store_state}
use Rattle.site_store.specs.Standing.{end_of}
use Rattle.site_store.specs.States.{State, all_of}
use Rattle.site_store.specs.Steps.{Steps}
use Rattle.site_turns.specs.Answering.{Submits}
use Rattle.site_turns.specs.Origins.{IsServing, at_desk, desk_notes, origin_of, state_at}
use Rattle.site_turns.proofs.Desked.{mine, stands_for}

module _ {D C W : Type 0} (g : disk.Ghosts D) (k : clock.Ghosts C) (w : words.Ghosts W) where
  -- what the store stands for, by its notes at the desk
  pub stands_at : (s : Store D C W g) → IsOpen g k w s → state_at (origin_of g k w s) (desk_notes s) ≡ store_state s
  stands_at s opens = stands_for s.opening.value.history (notes_of s) (store_state s) opens.noted

  pub same_origin : (s u : Store D C W g) → u.opening ≡ s.opening → u.opened ≡ s.opened → u.site.setup ≡ s.site.setup → origin_of g k w u ≡ origin_of g k w s
  same_origin s u opening opened setup =
      ap (λ x. record (origin_of g k w u) { setup = x }) setup
      ∙ ap (λ o. record {
        setup = s.site.setup;
        opening = o.value.history;
        disk_faults = g.disk_faults u.opened.value.disk;
        clock_faults = k.clock_faults u.opened.value.clock;
        word_faults = w.word_faults u.opened.value.words;
        moments = k.moments_left u.opened.value.clock;
        words = w.words_left u.opened.value.words;
      }) opening
      ∙ ap (λ o. record {
        setup = s.site.setup;
        opening = s.opening.value.history;
        disk_faults = g.disk_faults o.value.disk;
        clock_faults = k.clock_faults o.value.clock;
        word_faults = w.word_faults o.value.words;
        moments = k.moments_left o.value.clock;
        words = w.words_left o.value.words;
      }) opened

  pub added : (s u : Store D C W g) (worker : ℕ) (notes : List store.Noted) → notes_of u ≡ notes_of s ++ notes → store.IsOf worker notes → Appends worker (desk_notes s) (desk_notes u)
  added s u worker notes noted is = (map at_desk notes, mine worker notes is, ap (map at_desk) noted ∙ map-append at_desk (notes_of s) notes)

  pub submitted : (s u : Store D C W g) (worker : ℕ) (asks : List Ask) (taken : Taken) (outcomes : List Outcome) (notes : List store.Noted) → IsOpen g k w s → IsOpen g k w u → u.opening ≡ s.opening → notes_of u ≡ notes_of s ++ notes
      → Steps s.site.setup (end_of s.journal.end s.journal.pending) (store_state s) worker asks taken outcomes (store_state u) notes → Submits (origin_of g k w s) worker asks (desk_notes s) (desk_notes u) outcomes
  submitted s u worker asks taken outcomes notes was now opening noted steps =
      let end = end_of s.journal.end s.journal.pending in
      let site = s.site.setup in
      let before = stands_at s was in
      let after : state_at (origin_of g k w s) (desk_notes u) ≡ store_state u =
      stands_for s.opening.value.history (notes_of u) (store_state u) (ap (λ o. store.standing o.value.history (notes_of u)) (sym opening) ∙ now.noted) in
      record {
        end = end;
        taken = taken;
        notes = notes;
        reach = subst (λ (x : State). end ≤ furthest site (all_of x)) (sym before) was.sound.kept.in_reach;
        noted = ap (map at_desk) noted ∙ map-append at_desk (notes_of s) notes;
        steps = subst (λ (x : State). Steps site end x worker asks taken outcomes (state_at (origin_of g k w s) (desk_notes u)) notes) (sym before) (subst (λ (x : State). Steps site end (store_state s) worker asks taken outcomes x notes) (sym after) steps);
      }
