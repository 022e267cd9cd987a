use Rattle.std.proofs.Common.{◌≡◌, ◌≢◌, ◌≤◌, ◌+◌, ◌++◌, ◌^◌, [], length, vec_len, vec_capacity}
use Rattle.site_store.specs.Noting.{dones}
use Rattle.site_core.specs.Rooms.{HasRoomFor}
use Rattle.site_store.specs.Coming.{AreNext}
use Rattle.site_store.specs.Standing.{in_order, entries_of, noted_in}
use Rattle.site_store.proofs.undoing.put_in.Given as goal

abbrev pub invariant-pending : goal.invariant-pending
invariant-pending l =
    let rest = in_order l.pending.items in
    record {
      setup : l.site.setup ≡ l.fn.site.setup;
      history : l.site.history ++ entries_of rest ≡ l.fn.site.history ++ entries_of (in_order l.fn.pending.items);
      noted : noted_in l.log.items ++ dones l.worker (length l.site.history) (entries_of rest) ≡ noted_in l.fn.log.items ++ dones l.worker (length l.fn.site.history) (entries_of (in_order l.fn.pending.items));
      room : HasRoomFor l.site rest;
      next : AreNext l.site.setup l.site.history l.site.content rest;
      spare : vec_len l.log + length rest ≤ vec_capacity l.log;
      few : rest ≢ [] → length l.site.history + length rest ≤ 2 ^ 32;
    }

abbrev pub decreases-pending : goal.decreases-pending
decreases-pending l = vec_len l.pending
