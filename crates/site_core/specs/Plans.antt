-- The next entry of a history, and the last one.
use Rattle.std.specs.Prelude.{◌≡◌, ◌<◌, ◌+◌, ◌^◌, ℕ, List, [], ◌∷◌, ◌++◌, length, map, IfSome, Result, Ok, Err}
use Rattle.deed_words.specs.Names.{Text}
use Rattle.deed_words.specs.Setups.{Setup}
use Rattle.deed_words.specs.declared.entry.Ask.{Ask}
use Rattle.deed_words.specs.declared.entry.Entry.{Entry}
use Rattle.deed_words.specs.Proper.{IsProperEntry}
use Rattle.deed_words.specs.Rules.{broken}
use Rattle.deed_words.specs.Happenings.{listed, moved_by}
use Rattle.deed_words.specs.Replies.{after, reply_to}
use Rattle.deed_words.specs.History.{MayFollow, world_of}
use Rattle.batch_book.specs.Content.{Content, world_in}
use Rattle.move_list.specs.Kept.{kept_of}
use Rattle.site_stores.specs.Changes.{applied, MayApply}
use Rattle.site_deeds.specs.declared.fault.PlanFault.{PlanFault}
use Rattle.site_deeds.specs.declared.fault.PlanFault.TheVariants.{Memory, WordsFault, WordsSpent}
use Rattle.site_deeds.specs.Decisions.{serials_drawn}
use Rattle.site_deeds.specs.Draws.{Draws, Spends, Stops, MayTake, drawn_in, drawn_by_plan, MayCommit}
use Rattle.site_core.specs.declared.planned.Planned.{Planned}

-- the entry that a request becomes
abbrev pub entry_of : ℕ → Ask → ℕ → List Text → Entry
entry_of worker ask stamp drawn =
    record { station = ask.station; number = ask.number; worker = worker; stamp = stamp; operator = ask.operator; deed = ask.deed; drawn = drawn }

-- The planned entry may come next where the stores hold this, its reply is the one that it gets, its change leads to the
-- world after it, and its draw, if there is one, to the serials that are drawn then. What is kept of its move is kept of
-- the one that it has, and it is among the first 2^32 - 1 entries.
pub record IsNext (site : Setup) (history : List Entry) (c : Content) (planned : Planned) : Type 0 where
  pub proper : IsProperEntry planned.entry
  pub follows : MayFollow site history (world_of site history) planned.entry
  pub reply : planned.reply ≡ reply_to site (world_of site history) planned.entry
  pub may : MayApply c planned.change
  pub effect : world_in (applied c planned.change) ≡ after site (world_of site history) planned.entry
  pub draw : drawn_in (after site (world_of site history) planned.entry) ≡ drawn_in (world_of site history) ++ drawn_by_plan planned.draw
  pub new : MayCommit (drawn_in (world_of site history)) planned.draw
  pub drawn : serials_drawn planned.draw ≡ planned.entry.drawn
  pub some : IfSome planned.draw (λ plan. 0 < length plan.serials)
  pub moved : map kept_of (moved_by site (world_of site history) (length history) planned.entry (broken site (world_of site history) planned.entry.station planned.entry.deed)) ≡ listed planned.moved
  pub few : length history + 1 < 2 ^ 32

-- The history and what the stores hold came of a commit of it.
pub record IsLast (site : Setup) (history : List Entry) (c : Content) (committed : Planned) : Type 0 where
  pub front : List Entry
  pub before : Content
  pub history_is : history ≡ front ++ committed.entry ∷ []
  pub content_is : c ≡ applied before committed.change
  pub world_is : world_in before ≡ world_of site front
  pub next : IsNext site front before committed

-- the request becomes this entry, which draws from these words
pub record Makes (site : Setup) (history : List Entry) (c : Content) (worker : ℕ) (ask : Ask) (stamp : ℕ) (taken : List ℕ) (planned : Planned) : Type 0 where
  pub drawn : List Text
  pub entry : planned.entry ≡ entry_of worker ask stamp drawn
  pub draws : Draws site (world_of site history) (broken site (world_of site history) ask.station ask.deed) ask.deed taken drawn
  pub next : IsNext site history c planned

-- what a plan answers after it took these words; want of memory may come at any of those that the deed may take
abbrev pub Plans : Setup → List Entry → Content → ℕ → Ask → ℕ → List ℕ → Result Planned PlanFault → Type 0
Plans site history c worker ask stamp taken (Ok planned) = Makes site history c worker ask stamp taken planned
Plans site history c worker ask stamp taken (Err (WordsSpent found)) =
    Spends site (world_of site history) (broken site (world_of site history) ask.station ask.deed) ask.deed taken found
Plans site history c worker ask stamp taken (Err WordsFault) =
    Stops site (world_of site history) (broken site (world_of site history) ask.station ask.deed) ask.deed taken
Plans site history c worker ask stamp taken (Err Memory) = MayTake (broken site (world_of site history) ask.station ask.deed) ask.deed taken
