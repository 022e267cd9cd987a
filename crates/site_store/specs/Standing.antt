-- What is true of a store between two calls.
use Rattle.std.specs.Prelude.{◌≡◌, ◌≢◌, ◌≤◌, ◌*◌, ℕ, List, [], ◌∷◌, ◌++◌, length, map, nat_lt, count_by, Option, Some, None}
use Rattle.outside.specs.Causes.{RoseBy}
use Rattle.outside.specs.Devices.{Takes}
use Rattle.deed_words.specs.Setups.{Setup}
use Rattle.deed_words.specs.declared.entry.Entry.{Entry}
use Rattle.deed_words.specs.declared.entry.Note.TheVariants.{Done, Fault}
use Rattle.deed_words.specs.declared.entry.FaultKind.TheVariants as kind
use Rattle.deed_words.specs.History.{IsLawful, last_stamp}
use Rattle.gate_journal.specs.Journals.{IsSettled, IsBehind}
use Rattle.site_core.specs.View.{View}
use Rattle.site_store.specs.Coming.{AreNext}
use Rattle.site_core.specs.Rooms.{HasRoomFor}
use Rattle.site_core.specs.declared.planned.Planned.{Planned}
use Rattle.entry_bytes.specs.Groups.{SpellsGroup}
use Rattle.entry_bytes.specs.Sites.{SpellsSetup}
use Rattle.site_store.specs.Entries.{AreProper, latest}
use Rattle.site_store.specs.Held.{AreGroups, furthest}
use Rattle.site_store.specs.Noting.{Noted, standing, how_often}
use Rattle.site_store.specs.States.{State}
use Rattle.site_store.specs.declared.log.Row.{Row}
use Rattle.site_store.specs.declared.log.Row.TheVariants as row

-- a journal has at most so many bytes
abbrev pub journal_limit : ℕ
journal_limit = 268435456

-- what was planned, in the order of the history, where the last lies first
abbrev pub in_order : List Planned → List Planned
in_order [] = []
in_order (planned ∷ before) = in_order before ++ planned ∷ []

abbrev pub entries_of : List Planned → List Entry
entries_of planned = map (λ p. p.entry) planned

-- the notes with their groups, as they lie in memory
abbrev pub noted_of : Row → Noted
noted_of (row.Done place worker entry) = record { note = Done place worker; group = entry.value ∷ [] }
noted_of (row.Fault kind worker left) = record { note = Fault kind worker; group = entries_of (in_order left.value.items) }

abbrev pub noted_in : List Row → List Noted
noted_in rows = map noted_of rows

-- where the next record goes once what is pending was put into the journal
abbrev pub end_of : ℕ → Option ℕ → ℕ
end_of end None = end
end_of end (Some behind) = behind

-- nothing is pending, or this group is
abbrev pub StandsAs : (List ℕ → Type 0) → ℕ → Option ℕ → List ℕ → List (List ℕ) → List Entry → Type 0
StandsAs image end pending site payloads [] = IsSettled image end pending site payloads
StandsAs image end pending site payloads (entry ∷ entries) =
    (payload : List ℕ) × SpellsGroup (entry ∷ entries) payload × IsBehind image end pending site payloads payload

-- the journal is that of this setup and history, with this group pending
pub record IsKept (image : List ℕ → Type 0) (end : ℕ) (journal_pending : Option ℕ) (site : Setup) (history pending : List Entry) : Type 0 where
  pub site_bytes : List ℕ
  pub payloads : List (List ℕ)
  pub spelled : SpellsSetup site site_bytes
  pub groups : AreGroups payloads history
  pub stands : StandsAs image end journal_pending site_bytes payloads pending
  pub in_reach : end_of end journal_pending ≤ furthest site (history ++ pending)
  pub counted : length (history ++ pending) ≤ end_of end journal_pending
  pub within : pending ≢ [] → end_of end journal_pending ≤ journal_limit

-- what is pending may come next, and the room for it and for its notes is there
pub record MayCome (view : View) (spare : ℕ) (planned : List Planned) : Type 0 where
  pub room : HasRoomFor view planned
  pub next : AreNext view.setup view.history view.content planned
  pub noted : length planned ≤ spare
  pub proper : AreProper (entries_of planned)

-- what a store stands for, where this is pending
abbrev pub state_of : View → List Planned → State
state_of view planned = record { history = view.history; pending = entries_of planned }

-- Of a store with these images, this end of its journal and what is pending there, this site, the planned entries that
-- are pending, and so much spare room for notes.
pub record IsSound (image : List ℕ → Type 0) (end : ℕ) (journal_pending : Option ℕ) (view : View) (planned : List Planned) (spare : ℕ) : Type 0 where
  pub kept : IsKept image end journal_pending view.setup view.history (entries_of planned)
  pub may : MayCome view spare planned
  pub lawful : IsLawful view.setup view.history
  pub in_range : last_stamp view.history ≤ latest

-- the notes stand for what the store does
abbrev pub AreNotesOf : List Entry → List Noted → State → Type 0
AreNotesOf opening noted s = standing opening noted ≡ s

-- the faults in the notes are no more than what the devices did since the store was opened
pub record AreCaused (disk_then disk_now clock_then clock_now words_then words_now : ℕ) (moments_then moments_now left_then left_now : Option (List ℕ)) (noted : List Noted) : Type 0 where
  pub disk : RoseBy (how_often kind.Disk noted) disk_then disk_now
  pub clock : RoseBy (how_often kind.Clock noted) clock_then clock_now
  pub words : RoseBy (how_often kind.Words noted) words_then words_now
  pub range : Takes moments_then moments_now (λ moments. how_often kind.Range noted ≤ count_by (λ ms. nat_lt latest ms) moments)
  pub spent : Takes left_then left_now (λ words. 68 * how_often kind.Spent noted ≤ length words)
