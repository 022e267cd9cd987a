use Rattle.std.proofs.Common.{◌≡◌, List, sym, subst}
use Rattle.deed_words.specs.History.{world_of}
use Rattle.deed_words.specs.declared.entry.Entry.{Entry}
use Rattle.http_routes.specs.declared.target.Target.{Target}
use Rattle.site_core.specs.Seen.{item_seen, unit_seen}
use Rattle.site_core.specs.View.{View}
use Rattle.site_answers.specs.Batches.{events_answer, report_answer}
use Rattle.site_answers.specs.Saying.{IsSaid}
use Rattle.site_answers.specs.Things.{item_answer, unit_answer}
use Rattle.site_turns.specs.Answering.{Shows}
use Rattle.site_turns.specs.Origins.{desk_notes, origin_of}
use Rattle.site_turns.proofs.Telling.{told_now}
use Rattle.site_turns.proofs.showing.shown.Goals as goal

pub returns-in-Report : goal.returns-in-Report
returns-in-Report g c =
    let s = c.args.store.now in
    let said = c.report_response.result in
    let is = subst (λ (v : View). IsSaid (report_answer v.setup v.history c.in-Report.batch) said) c.site-site.ensures c.report_response.ensures in
    subst (λ (t : Target). Shows (origin_of g.D.Disk g.C.Clock g.W.Words s) t (desk_notes s) (desk_notes s) said) (sym c.in-Report.is)
    (told_now g.D.Disk g.C.Clock g.W.Words s c.requires.serving.is_open (λ (h : List Entry). report_answer s.site.setup h c.in-Report.batch) said is)

pub returns-in-Events : goal.returns-in-Events
returns-in-Events g c =
    let s = c.args.store.now in
    let said = c.events_response.result in
    let is = subst (λ (v : View). IsSaid (events_answer v.setup v.history c.in-Events.batch c.in-Events.from c.in-Events.count) said) c.site-site.ensures c.events_response.ensures in
    subst (λ (t : Target). Shows (origin_of g.D.Disk g.C.Clock g.W.Words s) t (desk_notes s) (desk_notes s) said) (sym c.in-Events.is)
    (told_now g.D.Disk g.C.Clock g.W.Words s c.requires.serving.is_open (λ (h : List Entry). events_answer s.site.setup h c.in-Events.batch c.in-Events.from c.in-Events.count) said is)

pub returns-in-Item : goal.returns-in-Item
returns-in-Item g c =
    let s = c.args.store.now in
    let said = c.item_response.result in
    let is = subst (λ (v : View). IsSaid (item_answer (item_seen v.setup (world_of v.setup v.history) c.in-Item.gtin c.in-Item.serial)) said) c.site-site.ensures c.item_response.ensures in
    subst (λ (t : Target). Shows (origin_of g.D.Disk g.C.Clock g.W.Words s) t (desk_notes s) (desk_notes s) said) (sym c.in-Item.is)
    (told_now g.D.Disk g.C.Clock g.W.Words s c.requires.serving.is_open (λ (h : List Entry). item_answer (item_seen s.site.setup (world_of s.site.setup h) c.in-Item.gtin c.in-Item.serial)) said is)

pub returns-in-Unit : goal.returns-in-Unit
returns-in-Unit g c =
    let s = c.args.store.now in
    let said = c.unit_response.result in
    let is = subst (λ (v : View). IsSaid (unit_answer (unit_seen (world_of v.setup v.history) c.in-Unit.sscc)) said) c.site-site.ensures c.unit_response.ensures in
    subst (λ (t : Target). Shows (origin_of g.D.Disk g.C.Clock g.W.Words s) t (desk_notes s) (desk_notes s) said) (sym c.in-Unit.is)
    (told_now g.D.Disk g.C.Clock g.W.Words s c.requires.serving.is_open (λ (h : List Entry). unit_answer (unit_seen (world_of s.site.setup h) c.in-Unit.sscc)) said is)
