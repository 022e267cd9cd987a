use Rattle.site_console.proofs.Ends.{run_write}
use Rattle.site_console.proofs.Saying.{told_ending}
use Rattle.site_console.proofs.logging.tell_log.Goals as goal

pub returns-clause-told : goal.returns-clause-told
returns-clause-told g c = rw (c.ending_of.ensures) (told_ending _ _ _ c.put_log.result c.put_log.ensures.said)

pub returns-clause-write : goal.returns-clause-write
returns-clause-write g c = rw (c.ending_of.ensures) (run_write c.put_log.result _ _ c.put_log.ensures.write)
