use Rattle.site_console.proofs.Completing.{obeyed_run, obeyed_init}
use Rattle.site_console.proofs.LookDone.{obeyed_look}
use Rattle.site_console.proofs.Statuses.{is_status, bad_words, no_door, refused_ends}
use Rattle.site_console.proofs.top.site_top.Goals as goal

pub returns-clause-statuses : goal.returns-clause-statuses
returns-clause-statuses g c = is_status c.obey-ending.result.0 c.end_with.result (no_door g.D.Disk g.C.Clock g.W.Words _ _ _ _ _ _ _ _ _ c.obey-ending.result.0 c.obey-ending.ensures.session) c.end_with.ensures.status

pub returns-clause-bad_words : goal.returns-clause-bad_words
returns-clause-bad_words g c = bad_words g.D.Disk g.C.Clock g.W.Words _ _ _ _ _ _ _ _ _ c.obey-ending.result.0 c.end_with.result c.end_with.ensures.status c.obey-ending.ensures.session

pub returns-clause-refused : goal.returns-clause-refused
returns-clause-refused g c = λ e.
    let r = c.obey-ending.ensures.refused e in
    (refused_ends g.D.Disk g.C.Clock g.W.Words _ _ _ _ _ _ _ _ _ c.obey-ending.result.0 c.end_with.result c.end_with.ensures.status c.obey-ending.ensures.session e, r.0, r.1, r.2)

pub returns-clause-session : goal.returns-clause-session
returns-clause-session g c = record {
  ending = c.obey-ending.result.0;
  mid = record { bytes = g.O.Sink.held c.obey-ending.new.out; faults = g.O.Sink.write_faults c.obey-ending.new.out };
  session = c.obey-ending.ensures.session;
  is = c.end_with.ensures.status;
  tells = c.end_with.ensures.tells;
  later = c.end_with.ensures.later;
}

pub returns-clause-runs : goal.returns-clause-runs
returns-clause-runs g c = λ says sound can.
    let session = rw (says) at c.obey-ending.ensures.session in
    obeyed_run g.D.Disk g.C.Clock g.W.Words c.one_history.ensures.once c.args.devices c.obey-ending.result.1 _ _ _ _ _ _ (record { bytes = g.O.Sink.held c.end_with.new.out; faults = g.O.Sink.write_faults c.end_with.new.out }) c.obey-ending.result.0 c.end_with.result c.end_with.ensures.status session c.end_with.ensures.later sound can

pub returns-clause-inits : goal.returns-clause-inits
returns-clause-inits g c = λ says sound can.
    let session = rw (says) at c.obey-ending.ensures.session in
    obeyed_init g.D.Disk g.C.Clock g.W.Words c.one_history.ensures.once c.args.devices c.obey-ending.result.1 _ _ _ _ _ _ (record { bytes = g.O.Sink.held c.end_with.new.out; faults = g.O.Sink.write_faults c.end_with.new.out }) c.obey-ending.result.0 c.end_with.result c.end_with.ensures.status session c.end_with.ensures.later sound can

pub returns-clause-looks : goal.returns-clause-looks
returns-clause-looks g c = λ asked sound loadable.
    obeyed_look g.D.Disk g.C.Clock g.W.Words c.one_history.ensures.once _ c.args.devices c.obey-ending.result.1 _ _ _ _ _ _ (record { bytes = g.O.Sink.held c.end_with.new.out; faults = g.O.Sink.write_faults c.end_with.new.out }) c.obey-ending.result.0 c.end_with.result asked c.end_with.ensures.status c.obey-ending.ensures.session c.end_with.ensures.later sound loadable
