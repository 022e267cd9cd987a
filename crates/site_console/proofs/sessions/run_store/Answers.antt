use Rattle.std.proofs.Common.{◌≡◌, ◌∙◌, ◌-◌, inl, inr, refl, sym, ap, subst, vec_len, vec_capacity}
use Rattle.deed_words.specs.Setups.{Setup}
use Rattle.site_store.specs.Images.{HoldsState}
use Rattle.site_store.specs.Open.{store_state}
use Rattle.site_store.specs.Standing.{state_of, in_order}
use Rattle.site_store.specs.States.{settled, all_of}
use Rattle.site_store.proofs.Chaining.{begun_same}
use Rattle.site_store.proofs.Mending.{sound_holds}
use Rattle.site_console.specs.Endings.{ending_of}
use Rattle.site_console.specs.Open.{point_of, told_of}
use Rattle.site_console.proofs.Ends.{run_read, run_write, store_read, store_write, store_disk, load_refuses}
use Rattle.site_console.proofs.Loaded.{told_is, point_is, ran_from, ran_same}
use Rattle.site_console.proofs.Promised.{Laws, promised}
use Rattle.site_console.proofs.Returned.{devices_of, run_back}
use Rattle.site_console.proofs.sessions.run_store.Goals as goal

pub returns-in-Ok : goal.returns-in-Ok
returns-in-Ok g c =
    let s = c.in-Ok.store in
    let u = c.run-ended.new.store in
    let devices = c.args.devices in
    let e = c.in-Ok.ensures in
    let r = c.run-ended.ensures in
    let into = c.into_devices.ensures in
    let k = g.C.Clock in
    let w = g.W.Words in
    let d = g.D.Disk in
    let state = store_state u in
    let laws : Laws = record {
      drawn = c.issued_once.ensures.drawn;
      lent = c.issued_once.ensures.lent;
      commissioned = c.issued_once.ensures.commissioned;
      made = c.codes_made_once.ensures.once;
      sound = c.soundness_is_kept.ensures.history;
      packing = c.replay_gives_the_world.ensures.packing;
      account = c.closes_where_accounted.ensures.account;
      close = c.closes_where_accounted.ensures.closes;
      batch = c.counts_sum_to_drawn.ensures.batch;
      gtin = c.counts_sum_to_drawn.ensures.gtin;
      sums = c.counts_sum_to_drawn.ensures.drawn;
      front = c.histories_grow_lawfully.ensures.front;
    } in
    let none : store_state s ≡ settled s.site.history = ap (λ ps. state_of s.site (in_order ps)) e.settled in
    let opened = ap (λ o. o.value.disk) r.opened.1 ∙ ap (λ v. v.disk) e.opened.0 in
    let opening = ap (λ o. o.value.history) r.opened.0 ∙ ap (λ v. v.history) e.opened.1 in
    let before = told_is (g.O.Sink.held c.args.out.now) (k.moments_left devices.clock) (k.moments_left s.clock) (w.words_left devices.words) (w.words_left s.words) (ap k.moments_left e.devices.0) (ap w.words_left e.devices.1) in
    let first = point_is (settled s.site.history) (store_state s) (d.disk_faults devices.disk) (d.disk_faults s.journal.disk) (k.clock_faults devices.clock) (k.clock_faults s.clock) (w.word_faults devices.words) (w.word_faults s.words) none e.kept (ap k.clock_faults e.devices.0) (ap w.word_faults e.devices.1) in
    let begun = begun_same d.moment d.image_since (d.image u.opened.value.disk) u.opened.value.disk devices.disk u.journal.disk u.site.setup s.site.setup u.opening.value.history s.site.history (all_of state) (sym opened) (sym r.setup) (sym opening) r.stands.begun in
    let since = rw (opened) at begun in
    let proper = rw (c.site.ensures, r.setup) at c.tell_kept.ensures.setup in
    record {
      session = run_back d k w devices c.into_devices.result u.journal.disk u.clock u.words _ _ _ _ (ending_of c.run-ended.result) c.ending_of.result into.disk into.clock into.words c.ending_of.ensures (record {
        comes = inr (ran_from d k w devices (devices_of u.journal.disk u.clock u.words) _ _ _ _ _ s.site.setup s.site.history c.run-ended.result state refl e.reads e.open.sound.lawful (promised laws s.site.setup (all_of state) proper)
            (ran_same s.site.setup (point_of d k w s) _ _ _ (told_of k w (g.O.Sink.held c.args.out.now) s.clock s.words) _ _ c.run-ended.result (point_of d k w u) first before r.ran) since
            (λ c' left. subst (λ (t : Setup). HoldsState t state c') r.setup (sound_holds (d.image u.journal.disk) u.journal.end u.journal.pending u.site (in_order u.pending.items) (vec_capacity u.log - vec_len u.log) c' r.stands.is_open.sound left)));
        read = run_read c.run-ended.result _ _ r.read;
        write = run_write c.run-ended.result _ _ r.write;
      });
    }

pub returns-in-Err : goal.returns-in-Err
returns-in-Err g c =
    let e = c.in-Err.ensures in
    record {
      session = rw (c.ending_of_store.ensures) (record {
        comes = inl (record {
          refuses = load_refuses (g.D.Disk.content c.args.devices.disk) c.in-Err.fault e.fault e.none e.bad;
          cause = store_disk c.in-Err.fault _ _ e.cause;
          disk = e.untouched_err;
          clock = e.devices_err.0;
          words = e.devices_err.1;
          input = refl;
          out = refl;
        });
        read = store_read c.in-Err.fault _;
        write = store_write c.in-Err.fault _;
      });
    }
