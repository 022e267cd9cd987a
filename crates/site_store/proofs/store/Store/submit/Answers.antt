use Rattle.std.proofs.Common.{◌≡◌, ◌∙◌, ◌-◌, ◌++◌, ◌∷◌, true, false, inl, inr, [], refl, sym, ap, vec_len, vec_capacity}
use Rattle.std.specs.Io.KnownBytes.{Consumes}
use Rattle.std.proofs.KnownBytes.{Consumes-nil}
use Rattle.outside.proofs.Moments.{and_then}
use Rattle.site_store.specs.Images.{HoldsState, HoldsBetween}
use Rattle.site_store.specs.Moved.{nothing_taken}
use Rattle.site_store.specs.One as one
use Rattle.site_store.specs.Open.{store_state, notes_of}
use Rattle.site_store.specs.States.{settled}
use Rattle.site_store.specs.Standing.{in_order, end_of}
use Rattle.site_store.specs.Causes.{is_disk_fault}
use Rattle.site_store.specs.declared.outcome.Outcome.TheVariants.{DiskFault, Memory}
use Rattle.site_store.proofs.Calling.{unmended_calls, step_calls}
use Rattle.site_store.proofs.Counting.{cause_is, unblamed, some_pending}
use Rattle.site_store.proofs.Leading.{steps_mine, steps_grow}
use Rattle.site_store.proofs.Mending.{sound_holds}
use Rattle.site_store.proofs.OneOf.{of_one, one_grows, one_after}
use Rattle.site_store.proofs.Turning.{noted_after, end_settled, settled_from, open_one}
use Rattle.site_store.proofs.Whole.{between, none_order}
use Rattle.site_store.proofs.store.Store.submit.Goals as goal

pub returns-in-Settled-clause-images : goal.returns-in-Settled-clause-images
returns-in-Settled-clause-images g c =
    let s = c.args.self.now in
    let t = c.settle.new.self in
    let u = c.answer_one.new.self in
    let old = store_state s in
    let mid = store_state t in
    let new = store_state u in
    let m = c.in-Settled.ensures.mends in
    and_then g.D.Disk.moment g.D.Disk.image_since s.journal.disk t.journal.disk u.journal.disk (HoldsState s.site.setup old) (HoldsBetween t.site.setup (settled t.site.history) new) (HoldsBetween s.site.setup old new) c.settle.ensures.images c.answer_one.ensures.images
    (λ d was. inl was) (λ d is. between s.site.setup t.site.setup old mid new d c.settle.ensures.setup m.2.0 is)

pub returns-in-Settled-clause-steps : goal.returns-in-Settled-clause-steps
returns-in-Settled-clause-steps g c =
    let s = c.args.self.now in
    let t = c.settle.new.self in
    let u = c.answer_one.new.self in
    let end = end_of s.journal.end s.journal.pending in
    let m = c.in-Settled.ensures.mends in
    let a = c.answer_one.ensures.answers in
    let none = ap in_order (c.in-Settled.ensures.none refl) in
    let end_is : t.journal.end ≡ end = end_settled (g.D.Disk.image t.journal.disk) t.journal.end end t.journal.pending t.site (in_order t.pending.items) (vec_capacity t.log - vec_len t.log) c.settle.ensures.sound none c.settle.ensures.end in
    let steps = one_after s.site.setup t.site.setup end t.journal.end (store_state s) (store_state t) c.args.worker c.args.ask a.0 c.answer_one.result (store_state u) m.0 a.3.0 c.settle.ensures.setup end_is m.2.0 m.2.1 a.3.2 in
    let clock : Consumes (g.C.Clock.moments_left s.clock) (g.C.Clock.moments_left u.clock) a.0.moments = rw (c.settle.ensures.devices.0) at a.1 in
    let words : Consumes (g.W.Words.words_left s.words) (g.W.Words.words_left u.words) a.0.words = rw (c.settle.ensures.devices.1) at a.2 in (
      a.0,
      clock,
      words,
      (
        m.0 ++ a.3.0,
        noted_after (notes_of s) (notes_of t) (notes_of u) m.0 a.3.0 m.1 a.3.1,
        steps_mine s.site.setup end (store_state s) c.args.worker (c.args.ask ∷ []) a.0 (c.answer_one.result ∷ []) (store_state u) (m.0 ++ a.3.0) (of_one s.site.setup end (store_state s) c.args.worker c.args.ask a.0 c.answer_one.result (store_state u) (m.0 ++ a.3.0) steps),
        steps,
      ),
    )

pub returns-in-Settled-clause-grows : goal.returns-in-Settled-clause-grows
returns-in-Settled-clause-grows g c =
    let s = c.args.self.now in
    let st = returns-in-Settled-clause-steps g c in
    let end = end_of s.journal.end s.journal.pending in
    steps_grow s.site.setup end (store_state s) c.args.worker (c.args.ask ∷ []) st.0 (c.answer_one.result ∷ []) (store_state c.answer_one.new.self) st.3.0 (of_one s.site.setup end (store_state s) c.args.worker c.args.ask st.0 c.answer_one.result (store_state c.answer_one.new.self) st.3.0 st.3.3)

pub returns-in-Settled-clause-settling : goal.returns-in-Settled-clause-settling
returns-in-Settled-clause-settling g c some =
    let s = c.args.self.now in
    let t = c.settle.new.self in
    let u = c.answer_one.new.self in
    let a = c.answer_one.ensures.answers in
    let grows = one_grows t.site.setup t.journal.end t.site.history c.args.worker c.args.ask a.0 c.answer_one.result (store_state u) a.3.0 a.3.2 in
    inr (settled_from g.D.Disk.moment g.D.Disk.image_since s.journal.disk t.journal.disk u.journal.disk s.site.setup t.site.setup (store_state s) (store_state t) (store_state u) c.settle.ensures.setup c.in-Settled.ensures.mends.2.0 c.settle.ensures.images c.answer_one.ensures.images grows.0)

pub returns-in-Settled-clause-open : goal.returns-in-Settled-clause-open
returns-in-Settled-clause-open g c =
    let s = c.args.self.now in
    let t = c.settle.new.self in
    let u = c.answer_one.new.self in
    let st = returns-in-Settled-clause-steps g c in
    let o = c.answer_one.ensures.opened in
    let p = c.settle.ensures.opened in
    let e = c.answer_one.ensures in
    let d = c.settle.ensures.devices in
    let blamed = is_disk_fault c.answer_one.result (store_state u).pending in
    let disk = cause_is blamed blamed (g.D.Disk.disk_faults t.journal.disk) (g.D.Disk.disk_faults s.journal.disk) (g.D.Disk.disk_faults u.journal.disk) (g.D.Disk.disk_faults u.journal.disk) e.disk refl (sym c.in-Settled.ensures.cause.kept) refl in
    let clock = rw (d.0) at e.clock in
    let words = rw (d.1) at e.words in
    open_one g.D.Disk g.C.Clock g.W.Words s u (end_of s.journal.end s.journal.pending) c.args.worker c.args.ask st.0 c.answer_one.result st.3.0 c.requires.open e.sound (o.0 ∙ p.0) (o.1 ∙ p.1) (e.setup ∙ c.settle.ensures.setup)
    st.3.3 st.3.1 disk clock words st.1 st.2

pub returns-in-Failed-clause-steps : goal.returns-in-Failed-clause-steps
returns-in-Failed-clause-steps g c =
    let s = c.args.self.now in
    let t = c.settle.new.self in
    let m = c.in-Failed.ensures.mends in
    let d = c.settle.ensures.devices in
    let end = end_of s.journal.end s.journal.pending in
    let steps : one.Steps s.site.setup end (store_state s) c.args.worker c.args.ask nothing_taken DiskFault (store_state t) m.0 = inl (record { behind = none_order (in_order s.pending.items) (c.in-Failed.ensures.behind refl); nothing = refl; stays = m.2.0; told = inl (refl, m.2.1) }) in (
      nothing_taken,
      rw (d.0) (Consumes-nil (g.C.Clock.moments_left s.clock)),
      rw (d.1) (Consumes-nil (g.W.Words.words_left s.words)),
      (m.0, m.1, steps_mine s.site.setup end (store_state s) c.args.worker (c.args.ask ∷ []) nothing_taken (DiskFault ∷ []) (store_state t) m.0 (of_one s.site.setup end (store_state s) c.args.worker c.args.ask nothing_taken DiskFault (store_state t) m.0 steps), steps),
    )

pub returns-in-Failed-clause-disk : goal.returns-in-Failed-clause-disk
returns-in-Failed-clause-disk g c =
    let s = c.args.self.now in
    let t = c.settle.new.self in
    let m = c.in-Failed.ensures.mends in
    cause_is true (is_disk_fault DiskFault (store_state t).pending) (g.D.Disk.disk_faults s.journal.disk) (g.D.Disk.disk_faults s.journal.disk) (g.D.Disk.disk_faults t.journal.disk) (g.D.Disk.disk_faults t.journal.disk) c.in-Failed.ensures.cause
    (refl) refl refl

pub returns-in-Failed-clause-open : goal.returns-in-Failed-clause-open
returns-in-Failed-clause-open g c =
    let s = c.args.self.now in
    let t = c.settle.new.self in
    let st = returns-in-Failed-clause-steps g c in
    let d = c.settle.ensures.devices in
    let o = c.settle.ensures.opened in
    let clock = cause_is false false (g.C.Clock.clock_faults s.clock) (g.C.Clock.clock_faults s.clock) (g.C.Clock.clock_faults s.clock) (g.C.Clock.clock_faults t.clock) (unblamed false (g.C.Clock.clock_faults s.clock) (g.C.Clock.clock_faults s.clock) refl refl) refl refl (ap g.C.Clock.clock_faults d.0) in
    let words = cause_is false false (g.W.Words.word_faults s.words) (g.W.Words.word_faults s.words) (g.W.Words.word_faults s.words) (g.W.Words.word_faults t.words) (unblamed false (g.W.Words.word_faults s.words) (g.W.Words.word_faults s.words) refl refl) refl refl (ap g.W.Words.word_faults d.1) in
    open_one g.D.Disk g.C.Clock g.W.Words s t (end_of s.journal.end s.journal.pending) c.args.worker c.args.ask st.0 DiskFault st.3.0 c.requires.open c.settle.ensures.sound o.0 o.1 c.settle.ensures.setup
    st.3.3 st.3.1 (returns-in-Failed-clause-disk g c) clock words st.1 st.2

pub returns-in-Wanting-clause-steps : goal.returns-in-Wanting-clause-steps
returns-in-Wanting-clause-steps g c =
    let s = c.args.self.now in
    let t = c.settle.new.self in
    let m = c.in-Wanting.ensures.mends in
    let d = c.settle.ensures.devices in
    let end = end_of s.journal.end s.journal.pending in
    let steps : one.Steps s.site.setup end (store_state s) c.args.worker c.args.ask nothing_taken Memory (store_state t) m.0 = inl (record { behind = none_order (in_order s.pending.items) (c.in-Wanting.ensures.behind refl); nothing = refl; stays = m.2.0; told = inr (refl, m.2.1) }) in (
      nothing_taken,
      rw (d.0) (Consumes-nil (g.C.Clock.moments_left s.clock)),
      rw (d.1) (Consumes-nil (g.W.Words.words_left s.words)),
      (m.0, m.1, steps_mine s.site.setup end (store_state s) c.args.worker (c.args.ask ∷ []) nothing_taken (Memory ∷ []) (store_state t) m.0 (of_one s.site.setup end (store_state s) c.args.worker c.args.ask nothing_taken Memory (store_state t) m.0 steps), steps),
    )

pub returns-in-Wanting-clause-disk : goal.returns-in-Wanting-clause-disk
returns-in-Wanting-clause-disk g c =
    let s = c.args.self.now in
    let t = c.settle.new.self in
    let m = c.in-Wanting.ensures.mends in
    cause_is true (is_disk_fault Memory (store_state t).pending) (g.D.Disk.disk_faults s.journal.disk) (g.D.Disk.disk_faults s.journal.disk) (g.D.Disk.disk_faults t.journal.disk) (g.D.Disk.disk_faults t.journal.disk) c.in-Wanting.ensures.cause
    (some_pending (store_state t).pending (λ none. none_order (in_order s.pending.items) (c.in-Wanting.ensures.behind refl) (ap (λ x. x.pending) (sym m.2.0) ∙ none))) refl refl

pub returns-in-Wanting-clause-open : goal.returns-in-Wanting-clause-open
returns-in-Wanting-clause-open g c =
    let s = c.args.self.now in
    let t = c.settle.new.self in
    let st = returns-in-Wanting-clause-steps g c in
    let d = c.settle.ensures.devices in
    let o = c.settle.ensures.opened in
    let clock = cause_is false false (g.C.Clock.clock_faults s.clock) (g.C.Clock.clock_faults s.clock) (g.C.Clock.clock_faults s.clock) (g.C.Clock.clock_faults t.clock) (unblamed false (g.C.Clock.clock_faults s.clock) (g.C.Clock.clock_faults s.clock) refl refl) refl refl (ap g.C.Clock.clock_faults d.0) in
    let words = cause_is false false (g.W.Words.word_faults s.words) (g.W.Words.word_faults s.words) (g.W.Words.word_faults s.words) (g.W.Words.word_faults t.words) (unblamed false (g.W.Words.word_faults s.words) (g.W.Words.word_faults s.words) refl refl) refl refl (ap g.W.Words.word_faults d.1) in
    open_one g.D.Disk g.C.Clock g.W.Words s t (end_of s.journal.end s.journal.pending) c.args.worker c.args.ask st.0 Memory st.3.0 c.requires.open c.settle.ensures.sound o.0 o.1 c.settle.ensures.setup
    st.3.3 st.3.1 (returns-in-Wanting-clause-disk g c) clock words st.1 st.2

pub returns-in-Settled-clause-at_return : goal.returns-in-Settled-clause-at_return
returns-in-Settled-clause-at_return g c d left =
    let u = c.answer_one.new.self in
    sound_holds (g.D.Disk.image u.journal.disk) u.journal.end u.journal.pending u.site (in_order u.pending.items) (vec_capacity u.log - vec_len u.log) d c.answer_one.ensures.sound left

pub returns-in-Failed-clause-at_return : goal.returns-in-Failed-clause-at_return
returns-in-Failed-clause-at_return g c d left =
    let u = c.settle.new.self in
    sound_holds (g.D.Disk.image u.journal.disk) u.journal.end u.journal.pending u.site (in_order u.pending.items) (vec_capacity u.log - vec_len u.log) d c.in-Failed.ensures.sound left

pub returns-in-Wanting-clause-at_return : goal.returns-in-Wanting-clause-at_return
returns-in-Wanting-clause-at_return g c d left =
    let u = c.settle.new.self in
    sound_holds (g.D.Disk.image u.journal.disk) u.journal.end u.journal.pending u.site (in_order u.pending.items) (vec_capacity u.log - vec_len u.log) d c.in-Wanting.ensures.sound left

pub returns-in-Settled-clause-calls : goal.returns-in-Settled-clause-calls
returns-in-Settled-clause-calls g c =
    let s = c.args.self.now in
    let t = c.settle.new.self in
    let u = c.answer_one.new.self in
    let a = c.answer_one.ensures.answers in
    let grows = one_grows t.site.setup t.journal.end t.site.history c.args.worker c.args.ask a.0 c.answer_one.result (store_state u) a.3.0 a.3.2 in
    step_calls (store_state s) (store_state t) (store_state u) (is_disk_fault c.answer_one.result (store_state u).pending) (g.D.Disk.disk_calls s.journal.disk) (g.D.Disk.disk_calls t.journal.disk) (g.D.Disk.disk_calls u.journal.disk) c.in-Settled.ensures.mends.2.0 (c.in-Settled.ensures.calls refl) grows.0 c.answer_one.ensures.calls

pub returns-in-Failed-clause-calls : goal.returns-in-Failed-clause-calls
returns-in-Failed-clause-calls g c =
    let s = c.args.self.now in
    let t = c.settle.new.self in
    unmended_calls (store_state s) (store_state t) (is_disk_fault DiskFault (store_state t).pending) (g.D.Disk.disk_calls s.journal.disk) (g.D.Disk.disk_calls t.journal.disk) (none_order (in_order s.pending.items) (c.in-Failed.ensures.behind refl)) c.in-Failed.ensures.mends.2.0 (c.in-Failed.ensures.calls_err refl)

pub returns-in-Wanting-clause-calls : goal.returns-in-Wanting-clause-calls
returns-in-Wanting-clause-calls g c =
    let s = c.args.self.now in
    let t = c.settle.new.self in
    unmended_calls (store_state s) (store_state t) (is_disk_fault Memory (store_state t).pending) (g.D.Disk.disk_calls s.journal.disk) (g.D.Disk.disk_calls t.journal.disk) (none_order (in_order s.pending.items) (c.in-Wanting.ensures.behind refl)) c.in-Wanting.ensures.mends.2.0 (c.in-Wanting.ensures.calls_err refl)
