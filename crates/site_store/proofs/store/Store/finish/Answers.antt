use Rattle.std.proofs.Common.{false, ◌≡◌, ◌≢◌, ◌∙◌, ◌+◌, ◌-◌, ◌++◌, [], List, ap, refl, subst, arith, append_assoc, append-nil, vec_len, vec_capacity, length}
use Rattle.deed_words.specs.declared.entry.Entry.{Entry}
use Rattle.deed_words.specs.declared.entry.FaultKind.TheVariants as kind
use Rattle.site_core.specs.Rooms.{HasRoomFor}
use Rattle.site_store.specs.Coming.{AreNext}
use Rattle.site_store.specs.Noting.{fault}
use Rattle.site_store.specs.Trying.{no_dones}
use Rattle.site_store.specs.Standing.{in_order, entries_of, state_of, noted_in, journal_limit}
use Rattle.site_store.specs.States.{all_of, settled}
use Rattle.site_core.specs.declared.planned.Planned.{Planned}
use Rattle.site_store.proofs.Calling.{no_calls, all_calls, lost_calls}
use Rattle.site_store.proofs.Finishing.{trying_last, untried_sound, written_sound, lost_sound, group_images, lost_images, left_of, left_pending, disk_of, some_entries, none_long, some_short}
use Rattle.site_store.proofs.store.Store.finish.Goals as goal

pub returns-then-is_empty-clause-sound : goal.returns-then-is_empty-clause-sound
returns-then-is_empty-clause-sound g c =
    let s = c.args.self.now in
    let gr = c.args.group in
    untried_sound (g.D.Disk.image s.journal.disk) s.journal.end s.journal.pending gr.base.value s.site gr.committed.items gr.frame (length gr.rows.items) (vec_capacity s.log - vec_len s.log) (vec_capacity s.pending - vec_len s.pending) c.requires.trying
    (in_order s.pending.items) (vec_capacity c.note_all.new.log - vec_len c.note_all.new.log) (none_long gr.committed.items (grind (arith, c.if-is_empty.ensures, c.if-is_empty.true))) (ap in_order c.requires.none)

pub returns-in-Ok-clause-sound : goal.returns-in-Ok-clause-sound
returns-in-Ok-clause-sound g c =
    let s = c.args.self.now in
    let gr = c.args.group in
    written_sound (g.D.Disk.image s.journal.disk) s.journal.end s.journal.pending gr.base.value s.site gr.committed.items gr.frame (length gr.rows.items) (vec_capacity s.log - vec_len s.log) (vec_capacity s.pending - vec_len s.pending) c.requires.trying
    (g.D.Disk.image c.append.new.self.disk) c.append.new.self.end c.append.new.self.pending (in_order s.pending.items) (vec_capacity c.note_all-in-Ok.new.log - vec_len c.note_all-in-Ok.new.log) (some_short gr.committed.items (grind (arith, c.if-is_empty.ensures, c.if-is_empty.false))) (ap in_order c.requires.none) c.in-Ok.ensures.ok c.in-Ok.ensures.end

pub returns-in-Ok-clause-images : goal.returns-in-Ok-clause-images
returns-in-Ok-clause-images g c =
    let s = c.args.self.now in
    let gr = c.args.group in
    let none : entries_of (in_order s.pending.items) ≡ [] = ap (λ (l : List Planned). entries_of (in_order l)) c.requires.none in
    let all : all_of (state_of s.site (in_order s.pending.items)) ≡ gr.base.value.history ++ entries_of gr.committed.items =
    ap (λ (l : List Entry). s.site.history ++ l) none ∙ append-nil s.site.history ∙ c.requires.trying.history_is in
    group_images (g.D.Disk.image s.journal.disk) s.journal.end s.journal.pending gr.base.value s.site gr.committed.items gr.frame (length gr.rows.items) (vec_capacity s.log - vec_len s.log) (vec_capacity s.pending - vec_len s.pending) c.requires.trying
    g.D.Disk.moment g.D.Disk.image_since s.journal.disk c.append.new.self.disk (state_of s.site (in_order s.pending.items)) (some_short gr.committed.items (grind (arith, c.if-is_empty.ensures, c.if-is_empty.false))) c.append.ensures.any_moment all

pub take_back-requires-clause-last : goal.take_back-requires-clause-last
take_back-requires-clause-last g c =
    let s = c.args.self.now in
    let gr = c.args.group in
    trying_last (g.D.Disk.image s.journal.disk) s.journal.end s.journal.pending gr.base.value s.site gr.committed.items gr.frame (length gr.rows.items) (vec_capacity s.log - vec_len s.log) (vec_capacity s.pending - vec_len s.pending) c.requires.trying

pub returns-clause-finishes : goal.returns-clause-finishes
returns-clause-finishes g c =
    let s = c.args.self.now in
    let gr = c.args.group in
    let some : gr.committed.items ≢ [] = some_short gr.committed.items (grind (arith, c.if-is_empty.ensures, c.if-is_empty.false)) in
    let which = left_of c.pending-is_pending.result c.append.new.self.pending gr.committed.items c.take_back.new.pending.items c.forget_unless.new.pending.items c.pending-is_pending.ensures c.take_back.ensures.pending c.forget_unless.ensures.some c.forget_unless.ensures.none in
    let notes = no_dones (noted_in gr.rows.items) ++ fault kind.Disk c.args.worker (entries_of (in_order c.forget_unless.new.pending.items)) in (
      notes,
      c.note_fault.ensures.noted ∙ ap (λ l. l ++ fault kind.Disk c.args.worker (entries_of (in_order c.forget_unless.new.pending.items))) c.note_faults.ensures.noted ∙ append_assoc (noted_in s.log.items) (no_dones (noted_in gr.rows.items)) (fault kind.Disk c.args.worker (entries_of (in_order c.forget_unless.new.pending.items))),
      (some_entries gr.committed.items some, c.take_back.ensures.history gr.base.value.history c.requires.trying.history_is, left_pending c.append.new.self.pending gr.committed.items c.forget_unless.new.pending.items which, refl),
    )

pub returns-clause-sound : goal.returns-clause-sound
returns-clause-sound g c =
    let s = c.args.self.now in
    let gr = c.args.group in
    let some : gr.committed.items ≢ [] = some_short gr.committed.items (grind (arith, c.if-is_empty.ensures, c.if-is_empty.false)) in
    let which = left_of c.pending-is_pending.result c.append.new.self.pending gr.committed.items c.take_back.new.pending.items c.forget_unless.new.pending.items c.pending-is_pending.ensures c.take_back.ensures.pending c.forget_unless.ensures.some c.forget_unless.ensures.none in
    let disk = disk_of c.append.result c.in-Err.field-0 (s.journal.end + 6 + length gr.frame) journal_limit c.append.ensures.or_disk (c.requires.trying.fits some) c.in-Err.is in
    let t = c.requires.trying in
    lost_sound (g.D.Disk.image s.journal.disk) s.journal.end s.journal.pending gr.base.value s.site gr.committed.items gr.frame (length gr.rows.items) (vec_capacity s.log - vec_len s.log) (vec_capacity s.pending - vec_len s.pending) t
    (g.D.Disk.image c.append.new.self.disk) c.append.new.self.end c.append.new.self.pending c.take_back.new.site (in_order c.forget_unless.new.pending.items) (vec_capacity c.note_fault.new.log - vec_len c.note_fault.new.log) some (c.take_back.ensures.setup ∙ t.setup_is) (c.take_back.ensures.history gr.base.value.history t.history_is)
    (subst (λ (l : List Planned). HasRoomFor c.take_back.new.site l) c.take_back.ensures.pending c.take_back.ensures.room)
    (subst (λ (l : List Planned). AreNext c.take_back.new.site.setup c.take_back.new.site.history c.take_back.new.site.content l) c.take_back.ensures.pending c.take_back.ensures.next) (c.append.ensures.fault disk) (c.append.ensures.end_kept disk)
    (omega (arith, t.noted, c.note_fault.ensures.len, c.note_fault.ensures.capacity, c.note_faults.ensures.len, c.note_faults.ensures.capacity)) which

pub returns-clause-images : goal.returns-clause-images
returns-clause-images g c =
    let s = c.args.self.now in
    let gr = c.args.group in
    let some : gr.committed.items ≢ [] = some_short gr.committed.items (grind (arith, c.if-is_empty.ensures, c.if-is_empty.false)) in
    let which = left_of c.pending-is_pending.result c.append.new.self.pending gr.committed.items c.take_back.new.pending.items c.forget_unless.new.pending.items c.pending-is_pending.ensures c.take_back.ensures.pending c.forget_unless.ensures.some c.forget_unless.ensures.none in
    let disk = disk_of c.append.result c.in-Err.field-0 (s.journal.end + 6 + length gr.frame) journal_limit c.append.ensures.or_disk (c.requires.trying.fits some) c.in-Err.is in
    let t = c.requires.trying in
    lost_images (g.D.Disk.image s.journal.disk) s.journal.end s.journal.pending gr.base.value s.site gr.committed.items gr.frame (length gr.rows.items) (vec_capacity s.log - vec_len s.log) (vec_capacity s.pending - vec_len s.pending) t
    g.D.Disk.moment g.D.Disk.image_since s.journal.disk c.append.new.self.disk c.append.new.self.pending c.take_back.new.site (in_order c.forget_unless.new.pending.items) some (c.take_back.ensures.history gr.base.value.history t.history_is)
    c.append.ensures.any_moment (c.append.ensures.as_before disk) which

pub returns-then-is_empty-clause-calls : goal.returns-then-is_empty-clause-calls
returns-then-is_empty-clause-calls g c =
    let s = c.args.self.now in
    let gr = c.args.group in
    let none : gr.committed.items ≡ [] = none_long gr.committed.items (grind (arith, c.if-is_empty.ensures, c.if-is_empty.true)) in
    let history : s.site.history ≡ gr.base.value.history = c.requires.trying.history_is ∙ ap (λ (l : List Planned). gr.base.value.history ++ entries_of l) none ∙ append-nil gr.base.value.history in
    no_calls gr.base.value.history false (state_of s.site (in_order s.pending.items)) (g.D.Disk.disk_calls s.journal.disk) (g.D.Disk.disk_calls s.journal.disk) refl
    (ap (λ (l : List Planned). state_of s.site (in_order l)) c.requires.none ∙ ap settled history) refl

pub returns-in-Ok-clause-calls : goal.returns-in-Ok-clause-calls
returns-in-Ok-clause-calls g c =
    let s = c.args.self.now in
    let gr = c.args.group in
    let some : gr.committed.items ≢ [] = some_short gr.committed.items (grind (arith, c.if-is_empty.ensures, c.if-is_empty.false)) in
    all_calls gr.base.value.history (entries_of gr.committed.items) false (state_of s.site (in_order s.pending.items)) (g.D.Disk.disk_calls s.journal.disk) (g.D.Disk.disk_calls c.append.new.self.disk) refl (some_entries gr.committed.items some) c.requires.trying.history_is c.in-Ok.ensures.calls

pub returns-clause-calls : goal.returns-clause-calls
returns-clause-calls g c =
    let s = c.args.self.now in
    let gr = c.args.group in
    let some : gr.committed.items ≢ [] = some_short gr.committed.items (grind (arith, c.if-is_empty.ensures, c.if-is_empty.false)) in
    let which = left_of c.pending-is_pending.result c.append.new.self.pending gr.committed.items c.take_back.new.pending.items c.forget_unless.new.pending.items c.pending-is_pending.ensures c.take_back.ensures.pending c.forget_unless.ensures.some c.forget_unless.ensures.none in
    let disk = disk_of c.append.result c.in-Err.field-0 (s.journal.end + 6 + length gr.frame) journal_limit c.append.ensures.or_disk (c.requires.trying.fits some) c.in-Err.is in
    lost_calls gr.base.value.history c.take_back.new.site (in_order c.forget_unless.new.pending.items) gr.committed.items c.append.new.self.pending (g.D.Disk.disk_calls s.journal.disk) (g.D.Disk.disk_calls c.append.new.self.disk) some which
    (c.append.ensures.first_two disk) (c.append.ensures.last_two disk)
