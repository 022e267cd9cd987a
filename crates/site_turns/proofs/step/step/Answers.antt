use Rattle.std.proofs.Common.{sym, subst, refl}
use Rattle.deed_words.specs.Setups.{Setup}
use Rattle.site_store.specs.Open.{HasBegun, store_state}
use Rattle.site_store.specs.Standing.{end_of}
use Rattle.site_store.specs.Steps.{Steps}
use Rattle.site_store.proofs.Turning.{begun_on}
use Rattle.site_turns.proofs.Printed.{steps_fit}
use Rattle.site_turns.proofs.Stepped.{added, submitted}
use Rattle.site_turns.proofs.step.step.Goals as goal

pub returns-clause-submits : goal.returns-clause-submits
returns-clause-submits g c =
    let e = c.submit_all.ensures in
    let t = e.steps in
    submitted g.D.Disk g.C.Clock g.W.Words c.args.store.now c.submit_all.new.self c.args.worker c.args.asks.items t.0 c.submit_all.new.outcomes.items t.3.0 c.requires.serving.is_open e.open e.opened.0 t.3.1 t.3.3

pub returns-clause-appends : goal.returns-clause-appends
returns-clause-appends g c =
    let t = c.submit_all.ensures.steps in
    added g.D.Disk g.C.Clock g.W.Words c.args.store.now c.submit_all.new.self c.args.worker t.3.0 t.3.1 t.3.2

pub returns-clause-printable : goal.returns-clause-printable
returns-clause-printable g c =
    let s = c.args.store.now in
    let u = c.submit_all.new.self in
    let e = c.submit_all.ensures in
    let t = e.steps in
    let end = end_of s.journal.end s.journal.pending in
    let lawful = rw (c.site.ensures) at c.tell_kept.ensures.lawful in
    let proper = rw (c.site.ensures) at c.tell_kept.ensures.proper in
    let steps = subst (λ (site : Setup). Steps site end (store_state s) c.args.worker c.args.asks.items t.0 c.submit_all.new.outcomes.items (store_state u) t.3.0) (sym e.setup) t.3.3 in
    steps_fit c.replies_name_stations.ensures.kept c.numbers_mean_one_thing.ensures.answered c.numbers_mean_one_thing.ensures.kept u.site.setup u.site.history lawful proper end (store_state s) c.args.worker c.args.asks.items t.0 c.submit_all.new.outcomes.items (store_state u) t.3.0 refl steps

pub returns-clause-serving : goal.returns-clause-serving
returns-clause-serving g c =
    let s = c.args.store.now in
    let u = c.submit_all.new.self in
    let e = c.submit_all.ensures in
    let begun = begun_on g.D.Disk g.C.Clock g.W.Words (g.D.Disk.image s.opened.value.disk) s u c.requires.serving.is_open e.opened.0 e.opened.1 e.setup e.grows e.images c.requires.serving.begun in
    record { is_open = e.open; begun = subst (λ v. HasBegun g.D.Disk (g.D.Disk.image v.value.disk) u) (sym e.opened.1) begun }
