use Rattle.std.proofs.Common.{◌-◌, [], List, ℕ, inr, vec_len, vec_capacity}
use Rattle.std.proofs.KnownBytes.{Appends-nil}
use Rattle.site_store.specs.Held.{Held}
use Rattle.site_store.specs.Open.{store_state}
use Rattle.site_store.specs.Standing.{in_order}
use Rattle.site_store.proofs.Mending.{sound_holds}
use Rattle.site_console.proofs.Ends.{make_refuses, ready_ends, ready_disk, store_disk, store_write}
use Rattle.site_console.proofs.Made.{holds_none}
use Rattle.site_console.proofs.Returned.{make_back}
use Rattle.site_console.proofs.sessions.make_journal.Goals as goal

pub returns-in-Ok-clause-makes : goal.returns-in-Ok-clause-makes
returns-in-Ok-clause-makes g c =
    let s = c.in-Ok.store in
    let e = c.in-Ok.ensures in
    let into = c.into_devices.ensures in
    let t = c.tell_text.ensures.put in
    let d = g.D.Disk in
    let images : (k : List ℕ) → d.image s.journal.disk k → Held c.args.setup [] k =
    λ k left. holds_none c.args.setup s.site.setup (store_state s) k e.setup e.made (sound_holds (d.image s.journal.disk) s.journal.end s.journal.pending s.site (in_order s.pending.items) (vec_capacity s.log - vec_len s.log) k e.open.sound left) in
    make_back d g.C.Clock g.W.Words c.args.setup c.args.devices c.into_devices.result s.journal.disk s.clock s.words _ _ c.tell_text.result into.disk into.clock into.words
    (record {
      put = t.0;
      held = t.1;
      ends = ready_ends d c.args.setup c.args.devices.disk s.journal.disk c.tell_text.result t.0 t.2 (record { none = e.none; images = images });
      cause = ready_disk c.tell_text.result t.0 _ _ t.2 e.kept;
      disk = inr e.first_write;
      clock = e.devices.0;
      words = e.devices.1;
    })

pub returns-in-Err-clause-makes : goal.returns-in-Err-clause-makes
returns-in-Err-clause-makes g c =
    let e = c.in-Err.ensures in
    rw (c.ending_of_store.ensures)
    (record {
      put = [];
      held = Appends-nil _;
      ends = make_refuses g.D.Disk c.args.setup c.args.devices.disk c.in-Err.devices.disk c.in-Err.fault e.fault e.there;
      cause = store_disk c.in-Err.fault _ _ e.cause;
      disk = e.first_write_err;
      clock = e.devices_err.0;
      words = e.devices_err.1;
    })

pub returns-in-Err-clause-write : goal.returns-in-Err-clause-write
returns-in-Err-clause-write g c = rw (c.ending_of_store.ensures) (store_write c.in-Err.fault _)
