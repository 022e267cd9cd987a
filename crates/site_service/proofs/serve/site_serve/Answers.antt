use Rattle.site_service.proofs.Dues.{due, door_fault, no_door_fault, completes}
use Rattle.site_service.proofs.serve.site_serve.Goals as goal

pub returns-clause-serves : goal.returns-clause-serves
returns-clause-serves g c = record {
  ending = c.serve_site-ending.result.0;
  served = c.serve_site-ending.ensures.served;
  is = c.end_with.ensures.status;
  tells = c.end_with.ensures.tells;
  later = c.end_with.ensures.later;
}

pub returns-clause-due : goal.returns-clause-due
returns-clause-due g c =
    due g.G.Door.state g.D.Disk g.C.Clock g.W.Words c.args.doors.items c.serve_site-ending.result.1.items c.args.devices c.serve_site-ending.result.2 c.one_history.ensures.once c.serve_site-ending.result.0 c.end_with.result c.end_with.ensures.status c.serve_site-ending.ensures.served

pub returns-clause-door_fault : goal.returns-clause-door_fault
returns-clause-door_fault g c =
    door_fault g.G.Door.state g.D.Disk g.C.Clock g.W.Words c.args.doors.items c.serve_site-ending.result.1.items c.args.devices c.serve_site-ending.result.2 c.serve_site-ending.result.0 c.end_with.result c.end_with.ensures.status c.serve_site-ending.ensures.served

pub returns-clause-no_door_fault : goal.returns-clause-no_door_fault
returns-clause-no_door_fault g c =
    no_door_fault g.G.Door.state g.D.Disk g.C.Clock g.W.Words c.args.doors.items c.serve_site-ending.result.1.items c.args.devices c.serve_site-ending.result.2 c.serve_site-ending.result.0 c.end_with.result c.end_with.ensures.status c.serve_site-ending.ensures.served

pub returns-clause-completes : goal.returns-clause-completes
returns-clause-completes g c =
    completes g.G.Door.state g.D.Disk g.C.Clock g.W.Words c.args.doors.items c.serve_site-ending.result.1.items c.args.devices c.serve_site-ending.result.2 c.one_history.ensures.once c.serve_site-ending.result.0 c.end_with.result c.end_with.ensures.status c.serve_site-ending.ensures.served
