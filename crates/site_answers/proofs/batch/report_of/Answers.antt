use Rattle.std.proofs.Common.{◌≡◌, Some}
use Rattle.std.specs.List.{position}
use Rattle.deed_words.specs.History.{world_of}
use Rattle.batch_book.specs.Batches.{is_called}
use Rattle.batch_report.specs.Views.{report_text}
use Rattle.site_answers.proofs.Named.{batch_kept, dated, for_each}
use Rattle.site_answers.proofs.batch.report_of.Goals as goal

pub report-requires : goal.report-requires
report-requires c =
    let site = c.args.site.now in
    dated site.setup site.history c.args.batch c.in_ok-view.view c.tell_kept.ensures.world c.requires c.in_ok-view.ensures

pub returns : goal.returns
returns c =
    let site = c.args.site.now in
    let w = world_of site.setup site.history in
    for_each c.report.result (λ name. position (is_called name) w.batches ≡ Some c.args.batch) (λ text name. report_text site.setup site.history name ≡ Some text.items)
    (λ name found. let kept = batch_kept w name c.args.batch found in c.report.ensures.batch site.setup site.history name kept.0 kept.2 (c.in_ok-view.ensures kept.0 kept.1))
