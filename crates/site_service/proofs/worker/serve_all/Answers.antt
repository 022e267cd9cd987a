use denote.Param.{param}
use denote.Param.Send.{IsSync, sendable}
use Rattle.std.proofs.Crossing.{crosses}
use Rattle.std.specs.contracts.alloc.Global as Global
use Rattle.site_service.proofs.Crossing.{desk_store_send, desk_sync}
use Rattle.site_service.proofs.worker.serve_all.Goals as goal

pub for_each_mut-requires-sync-F : goal.for_each_mut-requires-sync-F
for_each_mut-requires-sync-F g c κs within =
    let d = desk_sync _ _ (desk_store_send (param 1 g.row.D) (param 2 g.row.C) (param 3 g.row.W) g.D.Disk c.type_bounds.send-D c.type_bounds.send-C c.type_bounds.send-W) in
    let heap : IsSync Global.the_row = search (sendable, crosses) depth 30 in
    record {
      shared = λ x b o κ.
          ((((λ q. tt), c.type_bounds.sync-R.shared x.0.now x.0.ref_ptr.0 x.0.ref_ptr.1 _), (((λ q. tt), heap.shared x.1.now x.1.ref_ptr.0 x.1.ref_ptr.1 κs.1.1.1.1.1.1.1.0), (((λ q. tt), d.shared x.2.now x.2.ref_ptr.0 x.2.ref_ptr.1 _), tt))), (λ q. tt));
    }
