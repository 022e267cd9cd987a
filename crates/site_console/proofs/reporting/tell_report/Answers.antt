use Rattle.std.proofs.Common.{[], Some, None, ◌∙◌, sym, refl}
use Rattle.std.proofs.KnownBytes.{Appends-nil}
use Rattle.batch_book.specs.Batches.{is_called}
use Rattle.deed_words.specs.History.{world_of}
use Rattle.site_stores.proofs.Finding.{within}
use Rattle.site_console.specs.declared.ending.Ending.TheVariants.{UnknownBatch}
use Rattle.site_console.proofs.Ends.{run_write}
use Rattle.site_console.proofs.Reported.{batch_kept, no_batch_there, report_none, report_there}
use Rattle.site_console.proofs.Saying.{no_fault, told_as, told_ending}
use Rattle.site_console.proofs.reporting.tell_report.Goals as goal

pub put_report-requires : goal.put_report-requires
put_report-requires g c =
    let w = world_of c.args.site.now.setup c.args.site.now.history in
    within (is_called c.args.name.now) w.batches c.in-Some.batch (sym c.batch.ensures ∙ c.in-Some.is)

pub returns-in-Some-clause-told : goal.returns-in-Some-clause-told
returns-in-Some-clause-told g c =
    let site = c.args.site.now in
    let w = world_of site.setup site.history in
    let found = sym c.batch.ensures ∙ c.in-Some.is in
    let kept = batch_kept w c.args.name.now c.in-Some.batch found in
    let text = report_there site.setup site.history c.args.name.now kept.0 kept.2 in
    rw (c.ending_of.ensures) (told_as _ _ (Some text.0) _ _ (sym text.1) (told_ending _ _ text.0 c.put_report.result (c.put_report.ensures.said c.args.name.now text.0 found text.1)))

pub returns-in-Some-clause-write : goal.returns-in-Some-clause-write
returns-in-Some-clause-write g c = rw (c.ending_of.ensures) (run_write c.put_report.result _ _ c.put_report.ensures.write)

pub returns-in-None-clause-told : goal.returns-in-None-clause-told
returns-in-None-clause-told g c =
    let site = c.args.site.now in
    let none = report_none site.setup site.history c.args.name.now (no_batch_there (world_of site.setup site.history) c.args.name.now (sym c.batch.ensures ∙ c.in-None.is)) in
    told_as _ _ None _ UnknownBatch (sym none) ([], Appends-nil _, refl)

pub returns-in-None-clause-write : goal.returns-in-None-clause-write
returns-in-None-clause-write g c = no_fault _
