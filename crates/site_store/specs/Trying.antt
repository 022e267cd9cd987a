-- What is true while the requests of a group are tried, before what is new is written.
use Rattle.std.specs.Prelude.{◌≡◌, ◌≢◌, ◌⊎◌, ◌≤◌, ◌+◌, ◌*◌, ℕ, List, [], ◌∷◌, ◌++◌, length, Option}
use Rattle.deed_words.specs.declared.entry.Entry.{Entry}
use Rattle.deed_words.specs.declared.entry.Note.{Note}
use Rattle.deed_words.specs.declared.entry.Note.TheVariants.{Done, Fault}
use Rattle.deed_words.specs.declared.entry.FaultKind.TheVariants as kind
use Rattle.deed_words.specs.History.{IsLawful, last_stamp, world_of}
use Rattle.site_core.specs.View.{View}
use Rattle.batch_book.specs.Content.{world_in}
use Rattle.site_store.specs.Coming.{AreNext, applied_all}
use Rattle.site_core.specs.declared.planned.Planned.{Planned}
use Rattle.site_store.specs.declared.finish.Finish.{Finish}
use Rattle.site_store.specs.declared.finish.Finish.TheVariants as finish
use Rattle.site_store.specs.Entries.{AreProper, AreKept, latest}
use Rattle.entry_bytes.specs.Spelling.{group_bytes}
use Rattle.site_store.specs.Noting.{Noted, fault}
use Rattle.site_store.specs.States.{State, settled}
use Rattle.site_store.specs.Standing.{IsKept, entries_of, journal_limit}

-- The journal is that of the base, and the site has the base's history with what was committed since, which may all be
-- taken back. The frame has what was committed, and fits. There is room for all notes and for what may be left pending.
pub record IsTrying (image : List ℕ → Type 0) (end : ℕ) (journal_pending : Option ℕ) (base view : View) (committed : List Planned) (frame : List ℕ) (rows spare pending_spare : ℕ) : Type 0 where
  pub kept : IsKept image end journal_pending base.setup base.history []
  pub lawful : IsLawful base.setup base.history
  pub in_range : last_stamp base.history ≤ latest
  pub setup_is : view.setup ≡ base.setup
  pub history_is : view.history ≡ base.history ++ entries_of committed
  pub content_is : view.content ≡ applied_all base.content committed
  pub world_is : world_in base.content ≡ world_of base.setup base.history
  pub next : AreNext base.setup base.history base.content committed
  pub proper : AreProper (entries_of committed)
  pub are_kept : AreKept (entries_of committed)
  pub few : length committed ≤ 16
  pub frame_is : frame ≡ group_bytes (entries_of committed)
  pub fits : committed ≢ [] → end + 6 + length frame ≤ journal_limit
  pub noted : rows + 2 * length committed ≤ spare
  pub may_pend : length committed ≤ pending_spare

-- the notes that aren't of an entry
abbrev pub no_dones : List Noted → List Noted
no_dones [] = []
no_dones (x ∷ xs) = no_dones_of x.note x ++ no_dones xs
  where
    no_dones_of : Note → Noted → List Noted
    no_dones_of (Done place worker) x = []
    no_dones_of (Fault kind worker) x = x ∷ []

-- what comes of it: all was written, or the append failed
abbrev pub Finishes : List Entry → List Entry → ℕ → List Noted → Finish → State → List Noted → Type 0
Finishes g new worker noted finish.Written state more = (state ≡ settled (g ++ new)) × (more ≡ noted)
Finishes g new worker noted finish.Lost state more =
    (new ≢ []) × (state.history ≡ g) × ((state.pending ≡ []) ⊎ (state.pending ≡ new)) × (more ≡ no_dones noted ++ fault kind.Disk worker state.pending)
