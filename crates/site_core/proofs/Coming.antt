-- What comes of a deed may come next.
use Rattle.std.proofs.Common.{◌≡◌, ◌<◌, ◌≤◌, ◌+◌, ◌^◌, ℕ, List, ◌++◌, map, length, Option, None, Some, Ok, Err, refl, sym, ap, ◌∙◌, subst}
use Rattle.std.specs.Prelude.{IfSome, IfNone}
use Rattle.deed_words.specs.Names.{Text}
use Rattle.deed_words.specs.Setups.{Setup}
use Rattle.deed_words.specs.World.{World}
use Rattle.deed_words.specs.declared.deed.Deed.{Deed}
use Rattle.deed_words.specs.declared.entry.Ask.{Ask}
use Rattle.deed_words.specs.declared.reply.Reply.{Reply}
use Rattle.deed_words.specs.declared.entry.Entry.{Entry}
use Rattle.deed_words.specs.Proper.{IsProperAsk, IsProperEntry}
use Rattle.deed_words.specs.Happenings.{listed, moved_by}
use Rattle.deed_words.specs.Replies.{after, reply_to}
use Rattle.deed_words.specs.Rules.{broken}
use Rattle.deed_words.specs.History.{MayDraw, MayFollow, own, last_stamp, world_of}
use Rattle.serial_pool.specs.declared.drawn.DrawnSerial.{DrawnSerial}
use Rattle.batch_book.specs.Content.{Content, world_in}
use Rattle.site_stores.specs.declared.change.Change.{Change}
use Rattle.site_stores.specs.Changes.{applied, MayApply}
use Rattle.site_deeds.specs.declared.decided.Decided.{Decided}
use Rattle.site_deeds.specs.declared.fault.PlanFault.{PlanFault}
use Rattle.site_deeds.specs.declared.fault.PlanFault.TheVariants.{Memory, WordsFault, WordsSpent}
use Rattle.site_deeds.specs.Decisions.{Decides, IsDecided, IsOf, serials_drawn}
use Rattle.site_deeds.proofs.OfDecision.{draws_take}
use Rattle.site_deeds.specs.Draws.{Draws, Spends, Stops, MayTake, drawn_in, drawn_by_plan, MayCommit}
use Rattle.move_list.specs.declared.moved.Moved.{Moved}
use Rattle.move_list.specs.Kept.{kept_of}
use Rattle.site_core.specs.declared.planned.Planned.{Planned}
use Rattle.site_core.specs.declared.unlawful.Unlawful.{Unlawful}
use Rattle.site_core.specs.declared.unlawful.Unlawful.TheVariants as unlawful
use Rattle.site_core.specs.Adopting.{FailsEarly, Fails, IsStamped}
use Rattle.site_core.specs.Plans.{IsNext, Makes, Plans, entry_of}
use Rattle.site_core.proofs.Drawing.{few_drawn}

-- the plan has the reply, the change and the draw that were decided
pub record IsPlanOf (decided : Decided) (planned : Planned) : Type 0 where
  pub reply : planned.reply ≡ decided.reply
  pub change : planned.change ≡ decided.change
  pub serials : serials_drawn planned.draw ≡ serials_drawn decided.draw
  pub drawn : drawn_by_plan planned.draw ≡ drawn_by_plan decided.draw
  pub may : (pairs : List DrawnSerial) → MayCommit pairs decided.draw → MayCommit pairs planned.draw
  pub some : IfSome planned.draw (λ plan. 0 < length plan.serials)

-- what is kept of the move of an entry with this deed that gets this reply
abbrev pub IsMoved : Setup → List Entry → Deed → Reply → Option Moved → Type 0
IsMoved site history deed reply moved =
    (entry : Entry) → entry.deed ≡ deed → reply ≡ reply_to site (world_of site history) entry
    → map kept_of (moved_by site (world_of site history) (length history) entry (broken site (world_of site history) entry.station entry.deed)) ≡ listed moved

-- also where the setup and the history are others that are the same
pub moved_as : (site site' : Setup) (history history' : List Entry) (deed : Deed) (reply : Reply) (moved : Option Moved) → site' ≡ site → history' ≡ history → IsMoved site' history' deed reply moved → IsMoved site history deed reply moved
moved_as site site' history history' deed reply moved s h m = subst (λ (x : Setup). IsMoved x history deed reply moved) s (subst (λ (x : List Entry). IsMoved site' x deed reply moved) h m)

pub few_as : (history history' : List Entry) → history' ≡ history → length history' + 1 < 2 ^ 32 → length history + 1 < 2 ^ 32
few_as history history' h few = subst (λ (x : List Entry). length x + 1 < 2 ^ 32) h few

pub next_from : (site : Setup) (history : List Entry) (c : Content) (entry : Entry) (decided : Decided) (planned : Planned) → world_in c ≡ world_of site history → IsProperEntry entry → IsStamped site (length (own entry.station history) + 1) (last_stamp history) entry
    → IsDecided site c entry.station entry.deed entry.drawn decided → planned.entry ≡ entry → IsPlanOf decided planned → IsMoved site history entry.deed decided.reply planned.moved → length history + 1 < 2 ^ 32 → IsNext site history c planned
next_from site history c entry decided planned world proper stamped d is plan moved few =
    let w = world_of site history in
    let of : IsOf entry.station entry.deed entry.drawn entry = record { station_is = refl; deed_is = refl; drawn_is = refl } in
    let follows : MayFollow site history w entry = record {
      station = stamped.0;
      number = stamped.1;
      stamp = stamped.2;
      drawn = subst (λ (x : World). MayDraw site x (broken site x entry.station entry.deed) entry.deed entry.drawn) world d.may_draw;
    } in
    let after_is : after site w planned.entry ≡ world_in (applied c decided.change) = ap (after site w) is ∙ ap (λ (x : World). after site x entry) (sym world) ∙ sym (d.effect entry of) in
    record {
      proper = subst IsProperEntry (sym is) proper;
      follows = subst (MayFollow site history w) (sym is) follows;
      reply = plan.reply ∙ d.reply_is entry of ∙ ap (λ (x : World). reply_to site x entry) world ∙ ap (reply_to site w) (sym is);
      may = subst (MayApply c) (sym plan.change) d.may;
      effect = ap (λ (x : Change). world_in (applied c x)) plan.change ∙ sym after_is;
      draw = ap drawn_in after_is ∙ d.draw_is ∙ ap (λ (x : World). drawn_in x ++ drawn_by_plan decided.draw) world ∙ ap (λ (ps : List DrawnSerial). drawn_in w ++ ps) (sym plan.drawn);
      new = plan.may (drawn_in w) (subst (λ (x : World). MayCommit (drawn_in x) decided.draw) world d.new);
      drawn = plan.serials ∙ d.told ∙ ap (λ (e : Entry). e.drawn) (sym is);
      some = plan.some;
      moved = subst (λ (e : Entry). map kept_of (moved_by site w (length history) e (broken site w e.station e.deed)) ≡ listed planned.moved) (sym is) (moved entry refl (d.reply_is entry of ∙ ap (λ (x : World). reply_to site x entry) world));
      few = few;
    }

pub makes : (site : Setup) (history : List Entry) (c : Content) (worker : ℕ) (ask : Ask) (stamp : ℕ) (taken : List ℕ) (drawn : List Text) (decided : Decided) (planned : Planned) → world_in c ≡ world_of site history → IsProperAsk ask → stamp ≤ 253402300799999
    → ask.station < length site.stations → ask.number ≡ length (own ask.station history) + 1 → last_stamp history ≤ stamp → Decides site c ask.station ask.deed taken (Ok decided) → drawn ≡ serials_drawn decided.draw → planned.entry ≡ entry_of worker ask stamp drawn → IsPlanOf decided planned
    → IsMoved site history ask.deed decided.reply planned.moved → length history + 1 < 2 ^ 32 → Makes site history c worker ask stamp taken planned
makes site history c worker ask stamp taken drawn decided planned world proper latest station number stamped d told is plan moved few =
    let dec : IsDecided site c ask.station ask.deed drawn decided = subst (λ (s : List Text). IsDecided site c ask.station ask.deed s decided) (sym told) d.0 in
    let proper_entry : IsProperEntry (entry_of worker ask stamp drawn) = record { stamp = latest; deed = proper; drawn = few_drawn site (world_in c) ask.station ask.deed drawn dec.may_draw } in
    record {
      drawn = drawn;
      entry = is;
      draws = subst (λ (x : World). Draws site x (broken site x ask.station ask.deed) ask.deed taken drawn) world (subst (λ (s : List Text). Draws site (world_in c) (broken site (world_in c) ask.station ask.deed) ask.deed taken s) (sym told) d.1);
      next = next_from site history c (entry_of worker ask stamp drawn) decided planned world proper_entry (station, number, stamped) dec is plan moved few;
    }

pub no_plan : (site : Setup) (history : List Entry) (c : Content) (worker : ℕ) (ask : Ask) (stamp : ℕ) (taken : List ℕ) (fault : PlanFault) → world_in c ≡ world_of site history → Decides site c ask.station ask.deed taken (Err fault) → Plans site history c worker ask stamp taken (Err fault)
no_plan site history c worker ask stamp taken Memory world d = subst (λ (x : World). MayTake (broken site x ask.station ask.deed) ask.deed taken) world d
no_plan site history c worker ask stamp taken WordsFault world d = subst (λ (x : World). Stops site x (broken site x ask.station ask.deed) ask.deed taken) world d
no_plan site history c worker ask stamp taken (WordsSpent found) world d = subst (λ (x : World). Spends site x (broken site x ask.station ask.deed) ask.deed taken found) world d

-- .. where memory was wanting for what was decided
pub unplanned : (site : Setup) (history : List Entry) (c : Content) (worker : ℕ) (ask : Ask) (stamp : ℕ) (taken : List ℕ) (decided : Decided) → world_in c ≡ world_of site history → Decides site c ask.station ask.deed taken (Ok decided) → Plans site history c worker ask stamp taken (Err Memory)
unplanned site history c worker ask stamp taken decided world d =
    subst (λ (x : World). MayTake (broken site x ask.station ask.deed) ask.deed taken) world (draws_take site (world_in c) (broken site (world_in c) ask.station ask.deed) ask.deed taken (serials_drawn decided.draw) d.1)

-- ---- an entry that was read back

pub fails : (site : Setup) (history : List Entry) (entry : Entry) (expected last : ℕ) (fault : Unlawful) → expected ≡ length (own entry.station history) + 1 → last ≡ last_stamp history → FailsEarly site expected last entry fault → Fails site history entry fault
fails site history entry expected last unlawful.BadStation number stamp f = f
fails site history entry expected last (unlawful.BadNumber told) number stamp f = (f.0, f.1 ∙ number, λ e. f.2 (e ∙ sym number))
fails site history entry expected last unlawful.StampFell number stamp f = subst (λ (n : ℕ). FailsEarly site (length (own entry.station history) + 1) n entry unlawful.StampFell) stamp (subst (λ (n : ℕ). FailsEarly site n last entry unlawful.StampFell) number f)
fails site history entry expected last unlawful.BadDrawn number stamp f = absurd f
fails site history entry expected last unlawful.Memory number stamp f = tt

pub stamped : (site : Setup) (history : List Entry) (entry : Entry) (expected last : ℕ) → expected ≡ length (own entry.station history) + 1 → last ≡ last_stamp history → IsStamped site expected last entry → IsStamped site (length (own entry.station history) + 1) (last_stamp history) entry
stamped site history entry expected last number stamp s = (s.0, s.1 ∙ number, subst (λ (n : ℕ). n ≤ entry.stamp) stamp s.2)

pub bad_drawn : (site : Setup) (history : List Entry) (c : Content) (entry : Entry) → world_in c ≡ world_of site history → IsStamped site (length (own entry.station history) + 1) (last_stamp history) entry
    → (MayDraw site (world_in c) (broken site (world_in c) entry.station entry.deed) entry.deed entry.drawn → ⊥) → Fails site history entry unlawful.BadDrawn
bad_drawn site history c entry world stamps wrong = (stamps, λ may. wrong (subst (λ (x : World). MayDraw site x (broken site x entry.station entry.deed) entry.deed entry.drawn) (sym world) may))

pub early_fails : (site : Setup) (history : List Entry) (entry : Entry) (expected last : ℕ) (result : Option Unlawful) → expected ≡ length (own entry.station history) + 1 → last ≡ last_stamp history → IfSome result (λ fault. FailsEarly site expected last entry fault)
    → IfSome result (λ fault. Fails site history entry fault)
early_fails site history entry expected last None number stamp f = tt
early_fails site history entry expected last (Some fault) number stamp f = fails site history entry expected last fault number stamp f

pub none_fails : (site : Setup) (history : List Entry) (entry : Entry) (expected last : ℕ) (result : Option Unlawful) → expected ≡ length (own entry.station history) + 1 → last ≡ last_stamp history → IfNone result (IsStamped site expected last entry)
    → IfNone result (IsStamped site (length (own entry.station history) + 1) (last_stamp history) entry)
none_fails site history entry expected last None number stamp f = stamped site history entry expected last number stamp f
none_fails site history entry expected last (Some fault) number stamp f = tt
