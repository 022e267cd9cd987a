use Rattle.site_console.proofs.Printed.{turned_fits}
use Rattle.site_console.proofs.answer.answer_ask.Goals as goal

pub returns-clause-printable : goal.returns-clause-printable
returns-clause-printable g c =
    let t = c.turn-outcome.ensures in
    let site = c.site.result.now in
    let lawful = rw (c.site.ensures) at c.tell_kept.ensures.lawful in
    let proper = rw (c.site.ensures) at c.tell_kept.ensures.proper in
    turned_fits c.replies_name_stations.ensures.kept c.numbers_mean_one_thing.ensures.answered _ _ _ c.args.ask _ c.turn-outcome.result _ t.setup lawful proper t.turns.3
