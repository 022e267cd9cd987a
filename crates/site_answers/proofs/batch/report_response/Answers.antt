use Rattle.std.proofs.Common.{◌∙◌, inl, sym}
use Rattle.deed_words.specs.History.{world_of}
use Rattle.batch_book.specs.Batches.{is_called}
use Rattle.site_stores.proofs.Finding.{within}
use Rattle.site_answers.proofs.Due.{reported, not_reported}
use Rattle.site_answers.proofs.Named.{no_batch_there, report_none}
use Rattle.site_answers.proofs.batch.report_response.Goals as goal

pub report_of-requires : goal.report_of-requires
report_of-requires c =
    let w = world_of c.args.site.now.setup c.args.site.now.history in
    within (is_called c.args.name.now) w.batches c.in-Some.batch (sym c.batch.ensures ∙ c.in-Some.is)

pub returns-in_default : goal.returns-in_default
returns-in_default c =
    let site = c.args.site.now in
    let none = report_none site.setup site.history c.args.name.now (no_batch_there (world_of site.setup site.history) c.args.name.now (sym c.batch.ensures ∙ c.in_default.is)) in
    inl (c.fault.ensures ∙ sym (not_reported site.setup site.history c.args.name.now none))

pub returns-in-Ok : goal.returns-in-Ok
returns-in-Ok c =
    let site = c.args.site.now in
    let told = c.in-Ok.ensures c.args.name.now (sym c.batch.ensures ∙ c.in-Some.is) in
    inl (c.made.ensures ∙ sym (reported site.setup site.history c.args.name.now c.in-Ok.text.items told))
