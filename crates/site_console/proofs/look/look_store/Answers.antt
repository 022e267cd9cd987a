use Rattle.std.proofs.Common.{inl, inr, refl}
use Rattle.site_console.proofs.Ends.{load_refuses, store_disk, store_write}
use Rattle.site_console.proofs.Looking.{look_back, told_of}
use Rattle.site_console.proofs.look.look_store.Goals as goal

pub returns-in-Ok : goal.returns-in-Ok
returns-in-Ok g c =
    let s = c.in-Ok.store in
    let e = c.in-Ok.ensures in
    let into = c.into_devices.ensures in
    record {
      session = λ input. look_back g.D.Disk c.args.look c.args.devices c.into_devices.result s.journal.disk s.clock s.words input _ _ c.tell.result into.disk into.clock into.words (record {
        comes = inr (record {
          site = s.site.setup;
          history = s.site.history;
          loaded = e.reads;
          told = told_of _ _ c.site.result.now s.site c.args.look c.tell.result c.site.ensures c.tell.ensures.told;
          disk = e.untouched;
          faults = e.kept;
          clock = e.devices.0;
          words = e.devices.1;
        });
        write = c.tell.ensures.write;
      });
    }

pub returns-in-Err : goal.returns-in-Err
returns-in-Err g c =
    let e = c.in-Err.ensures in
    record {
      session = λ input. rw (c.ending_of_store.ensures) (record {
        comes = inl (record {
          refuses = load_refuses (g.D.Disk.content c.args.devices.disk) c.in-Err.fault e.fault e.none e.bad;
          cause = store_disk c.in-Err.fault _ _ e.cause;
          disk = e.untouched_err;
          clock = e.devices_err.0;
          words = e.devices_err.1;
          input = refl;
          out = refl;
        });
        write = store_write c.in-Err.fault _;
      });
    }
