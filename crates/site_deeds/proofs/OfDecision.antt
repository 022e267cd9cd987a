-- What comes of a deed.
use Rattle.std.proofs.Common.{◌≡◌, arith, ℕ, Bool, true, false, true≢false, List, [], ◌++◌, ◌<◌, map, length, Option, None, Some, refl, ap, ap₂, sym, ◌∙◌, subst, append-nil}
use Rattle.std.specs.Prelude.{IfSome, IsTrue, ◌↔◌, Ok, Err, if◌then◌else◌}
use Rattle.epc_urn.specs.declared.epc.Epc.{Epc}
use Rattle.serial_pool.specs.Held.{PoolView, PlanView, IsPlanFor, HasRoomFor, drawn_for}
use Rattle.deed_words.specs.Effects.{effect, gtin_of, rewrite, with_rows, moved_row, lent_to, lent_rows, with_orders, with_phase, with_quantity, with_drawn, with_unit, with_mark, with_children, without_children, emptied, with_declaration}
use Rattle.deed_words.specs.Deeds.{named}
use Rattle.deed_words.specs.History.{MayDraw, AreNewFor}
use Rattle.deed_words.specs.Names.{Text, is_among}
use Rattle.deed_words.specs.Replies.{after, unless_broken, reply_to, replied, answer_to}
use Rattle.deed_words.specs.Rules.{broken}
use Rattle.deed_words.specs.Setups.{Setup}
use Rattle.deed_words.specs.World.{World, name_of}
use Rattle.deed_words.specs.declared.deed.Deed.{Deed}
use Rattle.deed_words.specs.declared.deed.Deed.TheVariants.{Order, Orders, Start, Draw, Lend, Container as MakeUnit, Pack, Unpack, UnpackAll, Seal, Unseal, Void, Declare, Close, Amend}
use Rattle.deed_words.specs.declared.entry.Entry.{Entry}
use Rattle.deed_words.specs.declared.reply.Answer.{Answer}
use Rattle.deed_words.specs.declared.reply.Answer.TheVariants.{Listed}
use Rattle.deed_words.specs.declared.reply.Reply.TheVariants.{Accepted, Refused}
use Rattle.deed_words.specs.declared.rule.Rule.{Rule}
use Rattle.deed_words.specs.declared.world.Row.{Row}
use Rattle.deed_words.proofs.Items.{map-map}
use Rattle.batch_book.specs.Content.{Content, world_in}
use Rattle.site_rules.specs.Asked.{IsFound, IsSubject}
use Rattle.site_rules.specs.Suits.{is_draw}
use Rattle.site_rules.specs.declared.found.Found.{Found}
use Rattle.site_rules.specs.declared.subject.Subject.{Subject}
use Rattle.site_stores.specs.declared.change.Change.{Change}
use Rattle.site_stores.specs.declared.change.Change.TheVariants.{Nothing}
use Rattle.site_stores.specs.Changes.{applied, MayApply, MayChange, room_for}
use Rattle.site_stores.specs.Holding.{Held, IsWhole, IsWithin}
use Rattle.site_deeds.specs.declared.decided.Decided.{Decided}
use Rattle.site_deeds.specs.declared.done.Done.{Done}
use Rattle.site_deeds.specs.declared.judging.Judged.{Judged}
use Rattle.site_deeds.specs.declared.judging.Judged.TheVariants.{Breaks, Allowed}
use Rattle.site_deeds.specs.Verdicts.{IsJudged}
use Rattle.site_deeds.specs.declared.fault.PlanFault.{PlanFault}
use Rattle.site_deeds.specs.declared.fault.PlanFault.TheVariants.{Memory, WordsFault, WordsSpent}
use Rattle.site_deeds.specs.Decisions.{IsOf, serials_drawn, IsDecided, Decides}
use Rattle.site_deeds.specs.Does.{Does, DoesDeed}
use Rattle.site_deeds.specs.DrawEnds.{DrawEnds}
use Rattle.site_deeds.specs.Draws.{Draws, Spends, Stops, MayTake, drawn_serial, drawn_in, drawn_by_plan, MayCommit, HasRoomToDraw}
use Rattle.site_deeds.proofs.Drawable.{asked_some}
use Rattle.site_deeds.proofs.Serials.{drawn_more}

-- ---- the serials that were drawn stay, but for a draw

rewritten_serial : (change : Row → Row) (names : List Epc) → ((row : Row) → drawn_serial (change row) ≡ drawn_serial row) → (row : Row) → drawn_serial (rewrite change names row) ≡ drawn_serial row
unfolding rewrite
rewritten_serial change names keeps row = elim (is_among names (name_of row)) as (λ b. drawn_serial (if b then change row else row) ≡ drawn_serial row) [ true ↦ keeps row | false ↦ refl ]

rewritten : (w : World) (change : Row → Row) (names : List Epc) → ((row : Row) → drawn_serial (change row) ≡ drawn_serial row) → drawn_in (with_rows w change names) ≡ drawn_in w
unfolding with_rows
rewritten w change names keeps = map-map drawn_serial (rewrite change names) (rewritten_serial change names keeps) w.rows

moved_serial : (deed : Deed) (row : Row) → drawn_serial (moved_row deed row) ≡ drawn_serial row
unfolding moved_row
moved_serial deed row = refl

keeps_drawn : (site : Setup) (w : World) (station : ℕ) (deed : Deed) (drawn : List Text) → is_draw deed ≡ false → drawn_in (effect site w station deed drawn) ≡ drawn_in w
unfolding effect is_draw with_orders with_phase with_quantity with_unit with_mark with_children without_children emptied with_declaration
keeps_drawn site w station (Order row) drawn e = refl
keeps_drawn site w station (Orders rows) drawn e = refl
keeps_drawn site w station (Start name) drawn e = refl
keeps_drawn site w station (Draw name count) drawn e = absurd (true≢false e)
keeps_drawn site w station (Lend name count) drawn e = rewritten w (lent_to station) (map name_of (lent_rows w name count)) (λ row. refl)
keeps_drawn site w station (MakeUnit name level) drawn e = refl
keeps_drawn site w station (Pack unit children) drawn e = refl
keeps_drawn site w station (Unpack unit children) drawn e = refl
keeps_drawn site w station (UnpackAll unit) drawn e = refl
keeps_drawn site w station (Seal unit) drawn e = refl
keeps_drawn site w station (Unseal unit) drawn e = refl
keeps_drawn site w station (Void unit) drawn e = refl
keeps_drawn site w station (Declare name good spoiled returned) drawn e = refl
keeps_drawn site w station (Close name) drawn e = refl
keeps_drawn site w station (Amend name quantity) drawn e = refl
keeps_drawn site w station deed drawn e = rewritten w (moved_row deed) (named w deed) (moved_serial deed)

none_may_draw : (site : Setup) (w : World) (deed : Deed) → is_draw deed ≡ false → MayDraw site w None deed []
unfolding MayDraw is_draw
none_may_draw site w (Draw name count) e = absurd (true≢false e)
none_may_draw site w deed e = refl

none_draws : (site : Setup) (w : World) (deed : Deed) → is_draw deed ≡ false → Draws site w None deed [] []
unfolding Draws is_draw
none_draws site w (Draw name count) e = absurd (true≢false e)
none_draws site w deed e = (refl, refl)

refused_draws : (site : Setup) (w : World) (rule : Rule) (deed : Deed) → Draws site w (Some rule) deed [] []
unfolding Draws
refused_draws site w rule deed = (refl, refl)

refused_may_draw : (site : Setup) (w : World) (rule : Rule) (deed : Deed) → MayDraw site w (Some rule) deed []
unfolding MayDraw
refused_may_draw site w rule deed = refl

-- where nothing is drawn, no draw is empty
none_has : (draw : Option PlanView) → draw ≡ None → IfSome draw (λ plan. 0 < length plan.serials)
none_has draw e = subst (λ (o : Option PlanView). IfSome o (λ plan. 0 < length plan.serials)) (sym e) tt

-- ---- a deed that breaks a rule

module _ (site : Setup) (c : Content) (station : ℕ) (deed : Deed) where
  -- the rule of an entry is that of its deed
  same_rule : (drawn : List Text) (entry : Entry) (rule : Option Rule) → IsOf station deed drawn entry → broken site (world_in c) station deed ≡ rule → broken site (world_in c) entry.station entry.deed ≡ rule
  same_rule drawn entry rule of e = ap₂ (broken site (world_in c)) of.station_is of.deed_is ∙ e

  pub refused_decided : (decided : Decided) (rule : Rule) → IsWhole c → broken site (world_in c) station deed ≡ Some rule → IsSubject c deed decided.subject → decided.reply ≡ Refused rule → decided.change ≡ Nothing → decided.draw ≡ None → IsDecided site c station deed [] decided
  unfolding reply_to replied after unless_broken MayChange
  refused_decided decided rule whole e about reply change draw =
      let w = world_in c in
      record {
        told = ap serials_drawn draw;
        may_draw = subst (λ (r : Option Rule). MayDraw site w r deed []) (sym e) (refused_may_draw site w rule deed);
        reply_is = λ entry of. reply ∙ sym (ap (replied site w entry) (same_rule [] entry (Some rule) of e));
        subject_is = about;
        may = subst (MayApply c) (sym change) (record { whole = whole; may = tt });
        effect = λ entry of. ap (λ (ch : Change). world_in (applied c ch)) change ∙ sym (ap (unless_broken site w entry) (same_rule [] entry (Some rule) of e));
        draw_is = ap (λ (ch : Change). drawn_in (world_in (applied c ch))) change ∙ sym (append-nil (drawn_in w)) ∙ sym (ap (λ (p : Option PlanView). drawn_in w ++ drawn_by_plan p) draw);
        new = subst (MayCommit (drawn_in w)) (sym draw) tt;
        some = none_has decided.draw draw;
      }

  -- with the serials of the plan that it has
  told_so : (decided : Decided) (drawn : List Text) (taken : List ℕ) → IsDecided site c station deed drawn decided → Draws site (world_in c) (broken site (world_in c) station deed) deed taken drawn
      → IsDecided site c station deed (serials_drawn decided.draw) decided × Draws site (world_in c) (broken site (world_in c) station deed) deed taken (serials_drawn decided.draw)
  told_so decided drawn taken d draws =
      subst (λ (ss : List Text). IsDecided site c station deed ss decided × Draws site (world_in c) (broken site (world_in c) station deed) deed taken ss) (sym d.told) (d, draws)

  pub refused_decides : (decided : Decided) (rule : Rule) → IsWhole c → broken site (world_in c) station deed ≡ Some rule → IsSubject c deed decided.subject → decided.reply ≡ Refused rule → decided.change ≡ Nothing → decided.draw ≡ None → Decides site c station deed [] (Ok decided)
  refused_decides decided rule whole e about reply change draw =
      told_so decided [] [] (refused_decided decided rule whole e about reply change draw) (subst (λ (r : Option Rule). Draws site (world_in c) r deed [] []) (sym e) (refused_draws site (world_in c) rule deed))

-- ---- a deed that breaks none

-- what was done in stores that hold the same
pub as_before : (site : Setup) (new : Held) (c : Content) (station : ℕ) (deed : Deed) (drawn : List Text) (done : Done) → new.content ≡ c → DoesDeed site new station deed drawn done → DoesDeed site (record { content = c; room = new.room }) station deed drawn done
as_before site new c station deed drawn done same d =
    subst (λ (k : Content). DoesDeed site (record { content = k; room = new.room }) station deed drawn done) same (record { answer_is = d.answer_is; may = d.may; effect_is = d.effect_is; room = d.room })

pub does_draw : (site : Setup) (held : Held) (station : ℕ) (name : Text) (count : ℕ) (serials given : List Text) (done : Done) → given ≡ serials → Does held done (Listed given) (with_drawn (world_in held.content) name given) → DoesDeed site held station (Draw name count) serials done
unfolding answer_to effect
does_draw site held station name count serials given done are d = subst (λ (ss : List Text). Does held done (Listed ss) (with_drawn (world_in held.content) name ss)) are d

pub room_left : (held : Held) (done : Done) (decided : Decided) (answer : Answer) (w : World) → decided.change ≡ done.change → Does held done answer w → IsWithin (room_for decided.change) held.room
room_left held done decided answer w same d = subst (λ (ch : Change). IsWithin (room_for ch) held.room) (sym same) d.room

module _ (site : Setup) (held : Held) (station : ℕ) (deed : Deed) where
  done_by : (decided : Decided) (done : Done) (drawn : List Text) → broken site (world_in held.content) station deed ≡ None → IsSubject held.content deed decided.subject → DoesDeed site held station deed drawn done → decided.reply ≡ Accepted done.answer → decided.change ≡ done.change
      → serials_drawn decided.draw ≡ drawn → MayDraw site (world_in held.content) None deed drawn → drawn_in (effect site (world_in held.content) station deed drawn) ≡ drawn_in (world_in held.content) ++ drawn_by_plan decided.draw → MayCommit (drawn_in (world_in held.content)) decided.draw
      → IfSome decided.draw (λ plan. 0 < length plan.serials) → IsDecided site held.content station deed drawn decided
  unfolding reply_to replied after unless_broken
  done_by decided done drawn e about does reply change told may_draw grows new some =
      let c = held.content in
      let w = world_in c in
      let made : world_in (applied c decided.change) ≡ effect site w station deed drawn = ap (λ (ch : Change). world_in (applied c ch)) change ∙ does.effect_is in
      let answers : (entry : Entry) → IsOf station deed drawn entry → answer_to site w deed drawn ≡ answer_to site w entry.deed entry.drawn = λ entry of. ap₂ (answer_to site w) (sym of.deed_is) (sym of.drawn_is) in
      let effects : (entry : Entry) → IsOf station deed drawn entry → effect site w station deed drawn ≡ effect site w entry.station entry.deed entry.drawn =
      λ entry of. (λ z. effect site w (sym of.station_is z) (sym of.deed_is z) (sym of.drawn_is z)) in
      record {
        told = told;
        may_draw = subst (λ (r : Option Rule). MayDraw site w r deed drawn) (sym e) may_draw;
        reply_is = λ entry of. reply ∙ ap Accepted (does.answer_is ∙ answers entry of) ∙ sym (ap (replied site w entry) (same_rule site c station deed drawn entry None of e));
        subject_is = about;
        may = subst (MayApply c) (sym change) does.may;
        effect = λ entry of. made ∙ effects entry of ∙ sym (ap (unless_broken site w entry) (same_rule site c station deed drawn entry None of e));
        draw_is = ap drawn_in made ∙ grows;
        new = new;
        some = some;
      }

  pub done_decided : (decided : Decided) (done : Done) → is_draw deed ≡ false → broken site (world_in held.content) station deed ≡ None → IsSubject held.content deed decided.subject → DoesDeed site held station deed [] done → decided.reply ≡ Accepted done.answer → decided.change ≡ done.change → decided.draw ≡ None
      → IsDecided site held.content station deed [] decided
  done_decided decided done other e about does reply change draw =
      let w = world_in held.content in
      done_by decided done [] e about does reply change (ap serials_drawn draw) (none_may_draw site w deed other)
      (keeps_drawn site w station deed [] other ∙ sym (append-nil (drawn_in w)) ∙ sym (ap (λ (p : Option PlanView). drawn_in w ++ drawn_by_plan p) draw)) (subst (MayCommit (drawn_in w)) (sym draw) tt) (none_has decided.draw draw)

-- the same with the words that were taken: none
pub other_decides : (site : Setup) (c : Content) (station : ℕ) (deed : Deed) (decided : Decided) → is_draw deed ≡ false → broken site (world_in c) station deed ≡ None → IsDecided site c station deed [] decided → Decides site c station deed [] (Ok decided)
other_decides site c station deed decided other e d = told_so site c station deed decided [] [] d (subst (λ (r : Option Rule). Draws site (world_in c) r deed [] []) (sym e) (none_draws site (world_in c) deed other))

-- ---- a draw that breaks none

module _ (site : Setup) (held : Held) (station : ℕ) (name : Text) (count : ℕ) where
  pub draw_decided : (decided : Decided) (done : Done) (plan : PlanView) → broken site (world_in held.content) station (Draw name count) ≡ None → IsSubject held.content (Draw name count) decided.subject → DoesDeed site held station (Draw name count) plan.serials done → decided.reply ≡ Accepted done.answer → decided.change ≡ done.change → decided.draw ≡ Some plan
      → AreNewFor site (world_in held.content) (gtin_of (world_in held.content) name) count plan.serials → plan.gtin ≡ gtin_of (world_in held.content) name → IsPlanFor (drawn_in (world_in held.content)) plan
      → IsDecided site held.content station (Draw name count) plan.serials decided
  unfolding MayDraw effect with_drawn
  draw_decided decided done plan e about does reply change draw new gtin fits =
      let w = world_in held.content in
      done_by site held station (Draw name count) decided done plan.serials e about does reply change (ap serials_drawn draw) new
      (sym (drawn_more w.rows (gtin_of w name) name plan.serials) ∙ ap (λ (g : Text). drawn_in w ++ drawn_for g plan.serials) (sym gtin) ∙ sym (ap (λ (p : Option PlanView). drawn_in w ++ drawn_by_plan p) draw))
      (subst (MayCommit (drawn_in w)) (sym draw) fits)
      (subst (λ (o : Option PlanView). IfSome o (λ p. 0 < length p.serials)) (sym draw) (subst (λ (n : ℕ). 0 < n) (sym new.counted) (asked_some site w station name count e)))

-- the same with the words that were taken
pub draw_decides : (site : Setup) (c : Content) (station : ℕ) (name : Text) (count : ℕ) (decided : Decided) (plan : PlanView) (taken : List ℕ) → broken site (world_in c) station (Draw name count) ≡ None → IsDecided site c station (Draw name count) plan.serials decided
    → DrawEnds site (world_in c) name count taken (Ok plan) → Decides site c station (Draw name count) taken (Ok decided)
unfolding Draws
draw_decides site c station name count decided plan taken e d ends = told_so site c station (Draw name count) decided plan.serials taken d (subst (λ (r : Option Rule). Draws site (world_in c) r (Draw name count) taken plan.serials) (sym e) ends)

-- a draw that couldn't be planned
pub failed_decides : (site : Setup) (c : Content) (station : ℕ) (name : Text) (count : ℕ) (taken : List ℕ) (fault : PlanFault) → broken site (world_in c) station (Draw name count) ≡ None → DrawEnds site (world_in c) name count taken (Err fault) → Decides site c station (Draw name count) taken (Err fault)
unfolding Spends Stops MayTake
failed_decides site c station name count taken (WordsSpent found) e ends = subst (λ (r : Option Rule). Spends site (world_in c) r (Draw name count) taken found) (sym e) ends
failed_decides site c station name count taken WordsFault e ends = subst (λ (r : Option Rule). Stops site (world_in c) r (Draw name count) taken) (sym e) ends
failed_decides site c station name count taken Memory e ends = subst (λ (r : Option Rule). MayTake r (Draw name count) taken) (sym e) ends

-- ---- want of memory

pub none_taken : (rule : Option Rule) (deed : Deed) → MayTake rule deed []
unfolding MayTake
none_taken None (Draw name count) = omega arith
none_taken rule deed = refl

-- what was drawn took no more words than it may
pub draws_take : (site : Setup) (w : World) (rule : Option Rule) (deed : Deed) (taken : List ℕ) (drawn : List Text) → Draws site w rule deed taken drawn → MayTake rule deed taken
unfolding Draws MayTake
draws_take site w None (Draw name count) taken drawn is = is.within
draws_take site w rule deed taken drawn is = is.0

-- a draw that was planned, and couldn't be done
pub undone_decides : (site : Setup) (c : Content) (station : ℕ) (name : Text) (count : ℕ) (taken : List ℕ) (plan : PlanView) → broken site (world_in c) station (Draw name count) ≡ None → DrawEnds site (world_in c) name count taken (Ok plan) → Decides site c station (Draw name count) taken (Err Memory)
unfolding MayTake
undone_decides site c station name count taken plan e ends = subst (λ (r : Option Rule). MayTake r (Draw name count) taken) (sym e) ends.within

-- where nothing is drawn, there is room for it
pub no_room_needed : (draw : Option PlanView) (pool : PoolView) → draw ≡ None → HasRoomToDraw pool draw
no_room_needed draw pool e = subst (HasRoomToDraw pool) (sym e) tt

pub room_to_draw : (draw : Option PlanView) (pool : PoolView) (plan : PlanView) → draw ≡ Some plan → HasRoomFor pool plan → HasRoomToDraw pool draw
room_to_draw draw pool plan e room = subst (HasRoomToDraw pool) (sym e) room

-- ---- serials that can't be the deed's

pub refused_none : (site : Setup) (w : World) (station : ℕ) (deed : Deed) (rule : Rule) (drawn : List Text) → broken site w station deed ≡ Some rule → (drawn ≡ [] → ⊥) → MayDraw site w (broken site w station deed) deed drawn → ⊥
unfolding MayDraw
refused_none site w station deed rule drawn e some may = some (subst (λ (r : Option Rule). MayDraw site w r deed drawn) e may)

none_drawn : (site : Setup) (w : World) (deed : Deed) (drawn : List Text) → is_draw deed ≡ false → MayDraw site w None deed drawn → drawn ≡ []
unfolding MayDraw is_draw
none_drawn site w (Draw name count) drawn e may = absurd (true≢false e)
none_drawn site w deed drawn e may = may

pub other_none : (site : Setup) (w : World) (station : ℕ) (deed : Deed) (drawn : List Text) → is_draw deed ≡ false → broken site w station deed ≡ None → (drawn ≡ [] → ⊥) → MayDraw site w (broken site w station deed) deed drawn → ⊥
other_none site w station deed drawn other e some may = some (none_drawn site w deed drawn other (subst (λ (r : Option Rule). MayDraw site w r deed drawn) e may))

pub draw_none : (site : Setup) (w : World) (station : ℕ) (name : Text) (count : ℕ) (drawn : List Text) → broken site w station (Draw name count) ≡ None → (AreNewFor site w (gtin_of w name) count drawn → ⊥) → MayDraw site w (broken site w station (Draw name count)) (Draw name count) drawn → ⊥
unfolding MayDraw
draw_none site w station name count drawn e other may = other (subst (λ (r : Option Rule). MayDraw site w r (Draw name count) drawn) e may)

-- a deed that is no draw
pub no_draw : (deed : Deed) → ((name : Text) (count : ℕ) → deed ≡ Draw name count → ⊥) → is_draw deed ≡ false
unfolding is_draw
no_draw (Draw name count) other = absurd (other name count refl)
no_draw deed other = refl

pub some_drawn : (b : Bool) (drawn : List Text) → (IsTrue b ↔ (drawn ≡ [])) → b ≡ false → drawn ≡ [] → ⊥
some_drawn b drawn h e none = true≢false (sym (h.1 none) ∙ e)

-- ---- what was judged

pub breaks : (site : Setup) (c : Content) (station : ℕ) (deed : Deed) (judged : Judged) (rule : Rule) (subject : Subject) → IsJudged site c station deed judged → judged ≡ Breaks rule subject → (broken site (world_in c) station deed ≡ Some rule) × IsSubject c deed subject
unfolding IsJudged
breaks site c station deed judged rule subject j is = subst (IsJudged site c station deed) is j

pub allows : (site : Setup) (c : Content) (station : ℕ) (deed : Deed) (judged : Judged) (found : Found) → IsJudged site c station deed judged → judged ≡ Allowed found → (broken site (world_in c) station deed ≡ None) × IsFound c deed found
unfolding IsJudged
allows site c station deed judged found j is = subst (IsJudged site c station deed) is j
