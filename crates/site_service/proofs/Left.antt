-- A site that was served, or wasn't.
use Rattle.std.proofs.Common.{◌≡◌, ◌⊎◌, ◌∙◌, ◌<◌, ◌≤◌, ◌++◌, ℕ, Bool, true, false, List, [], ◌∷◌, Option, length, map, refl, sym, ap, subst, arith}
use Rattle.std.specs.List.{AllByRecursion as Every}
use native.Mathlib.Decide.{dec_le}
use Rattle.outside.specs.Causes.{HasCauseIf}
use Rattle.outside.specs.Disks.{Tells as OfContent}
use Rattle.outside.specs.Doors.{DoorState}
use Rattle.outside.specs.declared.disk.Disk as disk
use Rattle.outside.specs.declared.devices.Words as words
use Rattle.outside.specs.declared.clock.Clock as clock
use Rattle.deed_words.specs.History.{IsLawful}
use Rattle.deed_words.specs.declared.entry.Entry.{Entry}
use Rattle.gate_journal.specs.Readings.{Untouched}
use Rattle.turn_desk.specs.Notes as desk
use Rattle.turn_desk.specs.declared.view.Origin.{Origin}
use Rattle.site_core.specs.View.{View}
use Rattle.site_store.specs.declared.load.StoreFault.{StoreFault}
use Rattle.site_store.specs.declared.load.StoreFault.TheVariants as store_fault
use Rattle.site_store.specs.declared.store.Devices.{Devices}
use Rattle.site_store.specs.declared.store.Store.{Store}
use Rattle.site_store.specs.Images.{HoldsState}
use Rattle.site_store.specs.Loads.{is_disk}
use Rattle.site_store.specs.Noting as store
use Rattle.site_store.specs.Open.{notes_of, store_state}
use Rattle.site_store.specs.Readings.{ReadsAs, Nothing, Bad, Kept}
use Rattle.site_store.specs.Standing.{AreCaused, in_order}
use Rattle.site_store.specs.States.{State, all_of}
use Rattle.site_store.proofs.Back.{lawful_next}
use Rattle.site_store.proofs.Mending.{sound_holds}
use Rattle.site_console.specs.declared.ending.Ending.{Ending}
use Rattle.site_console.specs.declared.ending.Ending.TheVariants.{NoMemory}
use Rattle.site_console.specs.Endings.{ending_of_store}
use Rattle.site_console.proofs.Ends.{load_refuses, store_disk}
use Rattle.site_turns.specs.Origins.{IsServing, at_desk, desk_notes, origin_of}
use Rattle.site_turns.proofs.Desked.{back, own_at_desk}
use Rattle.site_turns.proofs.Stepped.{stands_at}
use Rattle.site_service.specs.Doors.{AllServed}
use Rattle.site_service.specs.Sites.{IsSiteServed, LeavesKept, WasLeft, WasServed, origin_at, served_end}

-- ---- the workers of new entries

none_of_map : (xs : List store.Noted) → map at_desk xs ≡ [] → xs ≡ []
none_of_map [] none = refl
none_of_map (x ∷ xs) none = absurd (cc)

-- each entry whose worker is named has one below the number of doors
workers_below : (doors : ℕ) (noted : List store.Noted) (entries : List Entry) → ((k : ℕ) → doors ≤ k → desk.own k (map at_desk noted) ≡ []) → Every (store.Names noted) entries → Every (λ (entry : Entry). entry.worker < doors) entries
workers_below doors noted [] none named = tt
workers_below doors noted (entry ∷ entries) none named = (below, workers_below doors noted entries none named.1)
  where
    below : entry.worker < doors
    below = elim (dec_le doors entry.worker) [
      | yes far ↦ absurd (named.0 (none_of_map (store.own entry.worker noted) (sym (own_at_desk entry.worker noted) ∙ none entry.worker far)))
      | no near ↦ omega (arith, near)
    ]

both_below : (doors : ℕ) (xs ys : List Entry) → Every (λ (entry : Entry). entry.worker < doors) xs → Every (λ (entry : Entry). entry.worker < doors) ys → Every (λ (entry : Entry). entry.worker < doors) (xs ++ ys)
both_below doors [] ys below below' = below'
both_below doors (x ∷ xs) ys below below' = (below.0, both_below doors xs ys below.1 below')

module _ {D C W : Type 0} (g : disk.Ghosts D) (k : clock.Ghosts C) (w : words.Ghosts W) where
  -- ---- the store that the desk gives back

  -- the notes' faults have their causes in what the devices did up to these counts
  abbrev CausedBy : Store D C W g → ℕ → ℕ → ℕ → Option (List ℕ) → Option (List ℕ) → List store.Noted → Type 0
  CausedBy s disk_now clock_now words_now moments_now left_now noted =
      AreCaused (g.disk_faults s.opened.value.disk) disk_now (k.clock_faults s.opened.value.clock) clock_now (w.word_faults s.opened.value.words) words_now (k.moments_left s.opened.value.clock) moments_now (w.words_left s.opened.value.words) left_now noted

  -- what the devices are left with
  pub leaves : (s : Store D C W g) (doors : ℕ) (new : Devices D C W) → IsServing g k w s → ((n : ℕ) → doors ≤ n → desk.own n (desk_notes s) ≡ []) → new.disk ≡ s.journal.disk → new.clock ≡ s.clock → new.words ≡ s.words
      → LeavesKept g k w (origin_of g k w s) (desk_notes s) doors new
  leaves s doors new serving none disk_is clock_is words_is =
      let opens = serving.is_open in
      let stands = stands_at g k w s opens in
      let notes = back (notes_of s) in
      let planned = in_order s.pending.items in
      let pending : store.left (notes_of s) ≡ (store_state s).pending = ap (λ (x : State). x.pending) opens.noted in
      record {
        images = λ c there.
            subst (λ (x : State). HoldsState s.site.setup x c) (sym stands)
            (sound_holds (g.image s.journal.disk) s.journal.end s.journal.pending s.site planned _ c opens.sound (subst (λ (d : D). g.image d c) disk_is there));
        lawful = subst (λ (x : State). IsLawful s.site.setup (all_of x)) (sym stands) (lawful_next s.site.setup s.site.history s.site.content planned opens.sound.lawful opens.sound.may.next);
        workers = subst (λ (l : List store.Noted). Every (λ (entry : Entry). entry.worker < doors) (store.made l ++ store.left l)) (sym notes)
            (both_below doors (store.made (notes_of s)) (store.left (notes_of s)) (workers_below doors (notes_of s) (store.made (notes_of s)) none opens.served.0)
            (subst (Every (λ (entry : Entry). entry.worker < doors)) (sym pending) (workers_below doors (notes_of s) (store_state s).pending none opens.served.1)));
        caused =
            subst (λ (l : List store.Noted). CausedBy s (g.disk_faults new.disk) (k.clock_faults new.clock) (w.word_faults new.words) (k.moments_left new.clock) (w.words_left new.words) l) (sym notes)
            (subst (λ (d : D). CausedBy s (g.disk_faults d) (k.clock_faults new.clock) (w.word_faults new.words) (k.moments_left new.clock) (w.words_left new.words) (notes_of s)) (sym disk_is)
            (subst (λ (c : C). CausedBy s (g.disk_faults s.journal.disk) (k.clock_faults c) (w.word_faults new.words) (k.moments_left c) (w.words_left new.words) (notes_of s)) (sym clock_is)
            (subst (λ (x : W). CausedBy s (g.disk_faults s.journal.disk) (k.clock_faults s.clock) (w.word_faults x) (k.moments_left s.clock) (w.words_left x) (notes_of s)) (sym words_is) opens.caused)));
      }

  -- what the desk began with is what was loaded
  loaded_origin : (s : Store D C W g) (devices : Devices D C W) → s.opened.value ≡ devices → s.opening.value ≡ s.site → origin_of g k w s ≡ origin_at g k w s.site.setup s.site.history devices
  loaded_origin s devices opened opening =
      ap (λ (v : View). record {
        setup = s.site.setup;
        opening = v.history;
        disk_faults = g.disk_faults s.opened.value.disk;
        clock_faults = k.clock_faults s.opened.value.clock;
        word_faults = w.word_faults s.opened.value.words;
        moments = k.moments_left s.opened.value.clock;
        words = w.words_left s.opened.value.words;
      }) opening
      ∙ ap (origin_at g k w s.site.setup s.site.history) opened

  module _ {G : Type 0} (state : G → DoorState) where
    -- ---- its ends

    -- every door was served
    pub served : (first last : Store D C W g) (devices new : Devices D C W) (place : Origin) (before after : List G) (failed : Bool) (ending : Ending) → OfContent (g.content devices.disk) (ReadsAs (Kept first.site.setup first.site.history)) → first.opened.value ≡ devices → first.opening.value ≡ first.site
        → place ≡ origin_of g k w first → origin_of g k w last ≡ place → IsServing g k w last → AllServed state place before after (desk_notes last) failed → new.disk ≡ last.journal.disk → new.clock ≡ last.clock → new.words ≡ last.words
        → ending ≡ served_end failed → IsSiteServed state g k w before after devices new ending
    served first last devices new place before after failed ending loaded opened opening from to serving all disk_is clock_is words_is ending_is =
        let origin = origin_at g k w first.site.setup first.site.history devices in
        let place_is : place ≡ origin = from ∙ loaded_origin first devices opened opening in
        let was : WasServed state g k w before after devices new failed = record {
          site = first.site.setup;
          history = first.site.history;
          noted = desk_notes last;
          loaded = loaded;
          all = subst (λ (o : Origin). AllServed state o before after (desk_notes last) failed) place_is all;
          kept = subst (λ (o : Origin). LeavesKept g k w o (desk_notes last) (length before) new) (to ∙ place_is) (leaves last (length before) new serving all.none disk_is clock_is words_is);
        } in
        subst (IsSiteServed state g k w before after devices new) (sym ending_is) (by_end failed was)
      where
        by_end : (b : Bool) → WasServed state g k w before after devices new b → IsSiteServed state g k w before after devices new (served_end b)
        by_end true was = was
        by_end false was = was

    left_ends : (fault : StoreFault) (before after : List G) (old new : Devices D C W) → WasLeft g before after old new (ending_of_store fault) → IsSiteServed state g k w before after old new (ending_of_store fault)
    left_ends store_fault.Disk before after old new was = was
    left_ends store_fault.JournalThere before after old new was = was
    left_ends store_fault.NoJournal before after old new was = was
    left_ends (store_fault.Bad place) before after old new was = was
    left_ends store_fault.Memory before after old new was = was

    -- the journal couldn't be loaded
    pub not_loaded : (fault : StoreFault) (old new : Devices D C W) (doors : List G) (ending : Ending) → (fault ≡ store_fault.Disk) ⊎ ((fault ≡ store_fault.Memory) ⊎ ((fault ≡ store_fault.NoJournal) ⊎ ((place : ℕ) × (fault ≡ store_fault.Bad place))))
        → (fault ≡ store_fault.NoJournal → OfContent (g.content old.disk) (ReadsAs Nothing)) → ((place : ℕ) → fault ≡ store_fault.Bad place → OfContent (g.content old.disk) (ReadsAs (Bad place)))
        → HasCauseIf (is_disk fault) (g.disk_faults old.disk) (g.disk_faults new.disk) → Untouched g.content g.image g.moment g.image_since old.disk new.disk → new.clock ≡ old.clock → new.words ≡ old.words → ending ≡ ending_of_store fault
        → IsSiteServed state g k w doors doors old new ending
    not_loaded fault old new doors ending which none bad cause disk_is clock_is words_is ending_is =
        subst (IsSiteServed state g k w doors doors old new) (sym ending_is)
        (left_ends fault doors doors old new (record {
          refuses = load_refuses (g.content old.disk) fault which none bad;
          cause = store_disk fault _ _ cause;
          doors = refl;
          disk = disk_is;
          clock = clock_is;
          words = words_is;
        }))

    -- memory was wanting behind the load
    pub no_memory : (s : Store D C W g) (old new : Devices D C W) (doors : List G) → Untouched g.content g.image g.moment g.image_since old.disk s.journal.disk → g.disk_faults s.journal.disk ≡ g.disk_faults old.disk → s.clock ≡ old.clock → s.words ≡ old.words
        → new.disk ≡ s.journal.disk → new.clock ≡ s.clock → new.words ≡ s.words → IsSiteServed state g k w doors doors old new NoMemory
    no_memory s old new doors untouched same clock_is words_is disk_new clock_new words_new =
        let count : g.disk_faults new.disk ≡ g.disk_faults old.disk = ap g.disk_faults disk_new ∙ same in
        record {
          refuses = tt;
          cause = record { later = omega (arith, count); failed = tt; kept = count };
          doors = refl;
          disk = subst (λ (d : D). Untouched g.content g.image g.moment g.image_since old.disk d) (sym disk_new) untouched;
          clock = clock_new ∙ clock_is;
          words = words_new ∙ words_is;
        }
