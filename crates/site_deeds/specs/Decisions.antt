-- What comes of a deed.
use Rattle.std.specs.Prelude.{◌≡◌, ◌<◌, ℕ, List, [], ◌++◌, length, Option, Some, None, IfSome, Result, Ok, Err}
use Rattle.serial_pool.specs.Held.{PlanView}
use Rattle.deed_words.specs.Names.{Text}
use Rattle.deed_words.specs.Setups.{Setup}
use Rattle.deed_words.specs.declared.deed.Deed.{Deed}
use Rattle.deed_words.specs.declared.entry.Entry.{Entry}
use Rattle.deed_words.specs.Rules.{broken}
use Rattle.deed_words.specs.Replies.{after, reply_to}
use Rattle.deed_words.specs.History.{MayDraw}
use Rattle.batch_book.specs.Content.{Content, world_in}
use Rattle.site_rules.specs.Asked.{IsSubject}
use Rattle.site_stores.specs.Changes.{applied, MayApply}
use Rattle.site_deeds.specs.declared.decided.Decided.{Decided}
use Rattle.site_deeds.specs.declared.fault.PlanFault.{PlanFault}
use Rattle.site_deeds.specs.declared.fault.PlanFault.TheVariants.{Memory, WordsFault, WordsSpent}
use Rattle.site_deeds.specs.Draws.{Draws, Spends, Stops, MayTake, drawn_in, drawn_by_plan, MayCommit}

-- an entry of the station's deed, with the serials that it drew
pub record IsOf (station : ℕ) (deed : Deed) (drawn : List Text) (entry : Entry) : Type 0 where
  pub station_is : entry.station ≡ station
  pub deed_is : entry.deed ≡ deed
  pub drawn_is : entry.drawn ≡ drawn

-- the serials of a plan, if there is one
abbrev pub serials_drawn : Option PlanView → List Text
serials_drawn None = []
serials_drawn (Some plan) = plan.serials

-- the reply, the change and the draw are those of every such entry, and the subject is the deed's; a draw has a serial
pub record IsDecided (site : Setup) (c : Content) (station : ℕ) (deed : Deed) (drawn : List Text) (decided : Decided) : Type 0 where
  pub told : serials_drawn decided.draw ≡ drawn
  pub may_draw : MayDraw site (world_in c) (broken site (world_in c) station deed) deed drawn
  pub reply_is : (entry : Entry) → IsOf station deed drawn entry → decided.reply ≡ reply_to site (world_in c) entry
  pub subject_is : IsSubject c deed decided.subject
  pub may : MayApply c decided.change
  pub effect : (entry : Entry) → IsOf station deed drawn entry → world_in (applied c decided.change) ≡ after site (world_in c) entry
  pub draw_is : drawn_in (world_in (applied c decided.change)) ≡ drawn_in (world_in c) ++ drawn_by_plan decided.draw
  pub new : MayCommit (drawn_in (world_in c)) decided.draw
  pub some : IfSome decided.draw (λ plan. 0 < length plan.serials)

-- what a decision answers after it took these words; want of memory may come at any of those that the deed may take
abbrev pub Decides : Setup → Content → ℕ → Deed → List ℕ → Result Decided PlanFault → Type 0
Decides site c station deed taken (Ok decided) =
    IsDecided site c station deed (serials_drawn decided.draw) decided × Draws site (world_in c) (broken site (world_in c) station deed) deed taken (serials_drawn decided.draw)
Decides site c station deed taken (Err (WordsSpent found)) = Spends site (world_in c) (broken site (world_in c) station deed) deed taken found
Decides site c station deed taken (Err WordsFault) = Stops site (world_in c) (broken site (world_in c) station deed) deed taken
Decides site c station deed taken (Err Memory) = MayTake (broken site (world_in c) station deed) deed taken
