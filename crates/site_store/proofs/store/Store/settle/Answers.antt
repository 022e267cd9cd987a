use Rattle.std.proofs.Common.{◌≡◌, ◌-◌, None, arith, vec_len, vec_capacity, ap}
use Rattle.site_store.specs.Standing.{in_order}
use Rattle.site_store.proofs.Calling.{mend_calls}
use Rattle.site_store.proofs.Mending.{disk_here, still_sound, mended_sound, mend_images, few_left, order_long, settle_images}
use Rattle.site_store.proofs.store.Store.settle.Goals as goal

pub returns-then-is_err-clause-sound : goal.returns-then-is_err-clause-sound
returns-then-is_err-clause-sound g c =
    let s = c.args.self.now in
    let ps = in_order s.pending.items in
    let some : s.journal.pending ≡ None → ⊥ = λ none. let ok = (c.in-Err.ensures.settled none).0 in let is = c.in-Err.is in absurd (cc) in
    let disk = disk_here c.mend.result c.in-Err.field-0 c.mend.ensures.or_disk c.in-Err.is in
    let was = c.mend.ensures.as_before disk in
    still_sound (g.D.Disk.image s.journal.disk) (g.D.Disk.image c.mend.new.self.disk) s.journal.end c.mend.new.self.end s.journal.pending c.mend.new.self.pending s.site ps (vec_capacity s.log - vec_len s.log) (vec_capacity c.reserve.new.self - vec_len c.reserve.new.self)
    c.requires.sound some was.0 was.1 (omega (arith, c.requires.sound.may.noted, c.reserve.ensures.len, c.reserve.ensures.capacity)) (c.mend.ensures.fault disk)

pub returns-then-is_err-clause-images : goal.returns-then-is_err-clause-images
returns-then-is_err-clause-images g c =
    let s = c.args.self.now in
    let ps = in_order s.pending.items in
    let some : s.journal.pending ≡ None → ⊥ = λ none. let ok = (c.in-Err.ensures.settled none).0 in let is = c.in-Err.is in absurd (cc) in
    mend_images g.D.Disk.moment g.D.Disk.image_since s.journal.disk c.mend.new.self.disk (g.D.Disk.image s.journal.disk) s.journal.end s.journal.pending s.site ps (vec_capacity s.log - vec_len s.log) c.requires.sound some c.mend.ensures.any_moment

pub returns-else-is_err-clause-sound : goal.returns-else-is_err-clause-sound
returns-else-is_err-clause-sound g c =
    let s = c.args.self.now in
    let ps = in_order s.pending.items in
    let some : s.journal.pending ≡ None → ⊥ = λ none. let ok = (c.in-Err.ensures.settled none).0 in let is = c.in-Err.is in absurd (cc) in
    let disk = disk_here c.mend.result c.in-Err.field-0 c.mend.ensures.or_disk c.in-Err.is in
    let was = c.mend.ensures.as_before disk in
    let long = order_long s.pending.items in
    still_sound (g.D.Disk.image s.journal.disk) (g.D.Disk.image c.mend.new.self.disk) s.journal.end c.mend.new.self.end s.journal.pending c.mend.new.self.pending s.site ps (vec_capacity s.log - vec_len s.log) (vec_capacity c.note_fault.new.log - vec_len c.note_fault.new.log)
    c.requires.sound some was.0 was.1 (grind (arith, long, c.len.ensures, c.reserve.ensures.ok, c.reserve.ensures.len, c.if-is_err.ensures.value, c.if-is_err.false, c.note_fault.ensures.len, c.note_fault.ensures.capacity)) (c.mend.ensures.fault disk)

pub returns-else-is_err-clause-images : goal.returns-else-is_err-clause-images
returns-else-is_err-clause-images g c =
    let s = c.args.self.now in
    let ps = in_order s.pending.items in
    let some : s.journal.pending ≡ None → ⊥ = λ none. let ok = (c.in-Err.ensures.settled none).0 in let is = c.in-Err.is in absurd (cc) in
    mend_images g.D.Disk.moment g.D.Disk.image_since s.journal.disk c.mend.new.self.disk (g.D.Disk.image s.journal.disk) s.journal.end s.journal.pending s.site ps (vec_capacity s.log - vec_len s.log) c.requires.sound some c.mend.ensures.any_moment

pub returns-in-Ok-clause-sound : goal.returns-in-Ok-clause-sound
returns-in-Ok-clause-sound g c =
    let s = c.args.self.now in
    let ps = in_order s.pending.items in
    let same : s.journal.pending ≡ None → (g.D.Disk.image c.mend.new.self.disk ≡ g.D.Disk.image s.journal.disk) × (c.mend.new.self.end ≡ s.journal.end) × (c.mend.new.self.pending ≡ s.journal.pending) =
    λ none. let is = (c.in-Ok.ensures.settled none).1 in (ap (λ j. g.D.Disk.image j.disk) is, ap (λ j. j.end) is, ap (λ j. j.pending) is) in
    mended_sound (g.D.Disk.image s.journal.disk) (g.D.Disk.image c.mend.new.self.disk) s.journal.end c.mend.new.self.end s.journal.pending c.mend.new.self.pending s.site c.put_in.new.site ps (in_order c.put_in.new.pending.items) (vec_capacity s.log - vec_len s.log) (vec_capacity c.put_in.new.log - vec_len c.put_in.new.log)
    c.requires.sound same c.in-Ok.ensures.ok c.in-Ok.ensures.end (ap in_order c.put_in.ensures.none) c.put_in.ensures.setup c.put_in.ensures.history

pub put_in-requires-clause-few : goal.put_in-requires-clause-few
put_in-requires-clause-few g c some =
    let s = c.args.self.now in
    few_left (g.D.Disk.image s.journal.disk) s.journal.end s.journal.pending s.site (in_order s.pending.items) (vec_capacity s.log - vec_len s.log) c.requires.sound some

pub returns-in-Ok-clause-images : goal.returns-in-Ok-clause-images
returns-in-Ok-clause-images g c =
    let s = c.args.self.now in
    settle_images g.D.Disk.moment g.D.Disk.image_since g.D.Disk.image g.met.D.Disk.only_now s.journal.disk c.mend.new.self.disk s.journal.end s.journal.pending s.site (in_order s.pending.items) (vec_capacity s.log - vec_len s.log) c.requires.sound
    (λ none. ap (λ j. j.disk) (c.in-Ok.ensures.settled none).1) c.mend.ensures.any_moment

pub returns-in-Ok-clause-calls : goal.returns-in-Ok-clause-calls
returns-in-Ok-clause-calls g c settled =
    let s = c.args.self.now in
    mend_calls (g.D.Disk.image s.journal.disk) s.journal.end s.journal.pending s.site (in_order s.pending.items) (vec_capacity s.log - vec_len s.log) c.requires.sound (g.D.Disk.disk_calls s.journal.disk) (g.D.Disk.disk_calls c.mend.new.self.disk)
    (λ none. ap (λ j. g.D.Disk.disk_calls j.disk) (c.in-Ok.ensures.settled none).1) c.in-Ok.ensures.calls

pub returns-then-is_err-clause-calls_err : goal.returns-then-is_err-clause-calls_err
returns-then-is_err-clause-calls_err g c unsettled = c.mend.ensures.calls_err (disk_here c.mend.result c.in-Err.field-0 c.mend.ensures.or_disk c.in-Err.is)

pub returns-else-is_err-clause-calls_err : goal.returns-else-is_err-clause-calls_err
returns-else-is_err-clause-calls_err g c unsettled = c.mend.ensures.calls_err (disk_here c.mend.result c.in-Err.field-0 c.mend.ensures.or_disk c.in-Err.is)
