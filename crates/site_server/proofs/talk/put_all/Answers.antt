use Rattle.std.proofs.Common.{◌∙◌, refl}
use Rattle.std.proofs.lemmas.List.{nil_from_length}
use Rattle.std.proofs.lemmas.Result.{err_from_is_err_and}
use Rattle.site_server.proofs.Putting.{all_put, none_put, one_failed, one_put}
use Rattle.site_server.proofs.talk.put_all.Goals as goal

pub answers-init : goal.answers-init
answers-init g c = record { part = none_put (g.L.Sink.held c.args.link.now) c.args.said.now c.args.last; writes = refl; left = refl; reads = refl }

pub answers-preserved : goal.answers-preserved
answers-preserved g c =
    let i = c.answers.invariant in
    record {
      part = one_put _ _ _ _ _ _ _ _ _ i.part c.in-Some.ensures.cases.0 c.is_last.ensures c.in_ok-put_to.ensures.put;
      writes = c.in_ok-put_to.ensures.cause.kept ∙ i.writes;
      left = c.put_to.ensures.left ∙ i.left;
      reads = c.put_to.ensures.faults ∙ i.reads;
    }

pub returns-in_err-put_to-clause-put : goal.returns-in_err-put_to-clause-put
returns-in_err-put_to-clause-put g c =
    let p = err_from_is_err_and c.from_residual.result c.from_residual.ensures.1 in
    rw p.1 (one_failed _ _ _ _ _ _ _ _ _ c.answers.invariant.part c.in-Some.ensures.cases.0 c.is_last.ensures c.in_err-put_to.ensures.put)

pub returns-clause-put : goal.returns-clause-put
returns-clause-put g c = all_put _ _ _ _ _ c.answers.invariant.part (nil_from_length c.answers.left.now c.in_default.ensures.cases)
