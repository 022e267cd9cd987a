use Rattle.site_server.proofs.Counting.{none_taken}
use Rattle.site_server.proofs.Sessions.{ends_at_once}
use Rattle.site_server.proofs.connection.serve_connection.Goals as goal

pub returns-in_default-clause-requests : goal.returns-in_default-clause-requests
returns-in_default-clause-requests g c = none_taken _ _ _ c.close_with.ensures.left

pub returns-in_default-clause-served : goal.returns-in_default-clause-served
returns-in_default-clause-served g c = let w = c.close_with.ensures in ends_at_once _ _ _ _ _ _ _ _ _ _ _ _ w.put w.left w.faults w.cause

pub returns-in_default-with_capacity-clause-requests : goal.returns-in_default-with_capacity-clause-requests
returns-in_default-with_capacity-clause-requests g c = none_taken _ _ _ c.close_with-in_default-with_capacity.ensures.left

pub returns-in_default-with_capacity-clause-served : goal.returns-in_default-with_capacity-clause-served
returns-in_default-with_capacity-clause-served g c = let w = c.close_with-in_default-with_capacity.ensures in ends_at_once _ _ _ _ _ _ _ _ _ _ _ _ w.put w.left w.faults w.cause
