use Rattle.std.proofs.Common.{inl, true, false, ◌≡◌, ◌∙◌, ◌-◌, ◌++◌, List, [], length, refl, sym, ap, append-nil, vec_len, vec_capacity}
use Rattle.std.specs.Io.KnownBytes.{Consumes}
use Rattle.std.proofs.KnownBytes.{Consumes-nil}
use Rattle.site_store.specs.Causes.{is_disk_fault, is_clock_fault, is_words_fault}
use Rattle.site_store.specs.Moved.{nothing_taken}
use Rattle.site_store.specs.Open.{store_state, notes_of}
use Rattle.site_store.specs.Standing.{entries_of, in_order, noted_in, state_of}
use Rattle.site_store.specs.States.{settled}
use Rattle.site_core.specs.View.{View}
use Rattle.site_store.specs.declared.outcome.Outcome.TheVariants.{Memory}
use Rattle.site_core.specs.declared.planned.Planned.{Planned}
use Rattle.site_store.proofs.Calling.{no_calls, calls_are}
use Rattle.site_store.proofs.Counting.{cause_is, unblamed}
use Rattle.site_store.proofs.OneOf.{tried_written, tried_lost, tried_unblamed}
use Rattle.site_store.proofs.Whole.{start_trying}
use Rattle.site_store.proofs.store.Store.answer_one.Goals as goal

pub returns-in_default-clause-answers : goal.returns-in_default-clause-answers
returns-in_default-clause-answers g c =
    let s = c.args.self.now in
    let state : store_state s ≡ settled s.site.history = ap (λ (l : List Planned). state_of s.site (in_order l)) c.requires.none in (
      nothing_taken,
      Consumes-nil (g.C.Clock.moments_left s.clock),
      Consumes-nil (g.W.Words.words_left s.words),
      ([], sym (append-nil (notes_of s)), (inl refl, record { state = state; notes_are = refl })),
    )

pub returns-in_default-clause-disk : goal.returns-in_default-clause-disk
returns-in_default-clause-disk g c =
    let s = c.args.self.now in
    unblamed (is_disk_fault Memory (store_state s).pending) (g.D.Disk.disk_faults s.journal.disk) (g.D.Disk.disk_faults s.journal.disk)
    (ap (λ (l : List Planned). is_disk_fault Memory (entries_of (in_order l))) c.requires.none) refl

pub attempt-outcome-requires-clause-trying : goal.attempt-outcome-requires-clause-trying
attempt-outcome-requires-clause-trying g c =
    let s = c.args.self.now in
    let gr = c.in-Ok.group in
    let e = c.in-Ok.ensures.empty in
    start_trying (g.D.Disk.image s.journal.disk) s.journal.end s.journal.pending gr.base.value s.site (in_order s.pending.items) gr.committed.items gr.frame (length gr.rows.items) (vec_capacity s.log - vec_len s.log) (vec_capacity s.pending - vec_len s.pending) c.requires.sound (ap in_order c.requires.none) c.in-Ok.ensures.base e.1 e.2 (ap (λ l. length l) e.0) c.no_group.ensures.world

pub returns-in-Written-clause-answers : goal.returns-in-Written-clause-answers
returns-in-Written-clause-answers g c =
    let s = c.args.self.now in
    let gr = c.in-Ok.group in
    let gr' = c.attempt-outcome.new.group in
    let u = c.attempt-outcome.new.self in
    let t = c.finish.new.self in
    let e = c.in-Ok.ensures.empty in
    let a = c.attempt-outcome.ensures in
    let f = c.in-Written.ensures.finishes in
    let d = c.finish.ensures.devices in
    let clock1 = a.tried.1 in
    let words1 = a.tried.2 in
    let clock : Consumes (g.C.Clock.moments_left s.clock) (g.C.Clock.moments_left t.clock) a.tried.0.moments = rw (d.0) (clock1) in
    let words : Consumes (g.W.Words.words_left s.words) (g.W.Words.words_left t.words) a.tried.0.words = rw (d.1) (words1) in (
      a.tried.0,
      clock,
      words,
      (
        f.0,
        f.1 ∙ ap (λ l. noted_in l ++ f.0) a.notes,
        tried_written s.site.setup s.journal.end s.site.history gr'.base.value.history u.site.history (entries_of gr.committed.items) (entries_of gr'.committed.items) (noted_in gr.rows.items) (noted_in gr'.rows.items) c.args.worker c.args.ask a.tried.0 c.attempt-outcome.result (store_state t) f.0
            a.tried.3 (ap entries_of e.1) (ap noted_in e.0) (ap (λ b. b.value.history) a.base ∙ ap (λ (v : View). v.history) c.in-Ok.ensures.base) f.2,
      ),
    )

pub returns-in-Lost-clause-answers : goal.returns-in-Lost-clause-answers
returns-in-Lost-clause-answers g c =
    let s = c.args.self.now in
    let gr = c.in-Ok.group in
    let gr' = c.attempt-outcome.new.group in
    let u = c.attempt-outcome.new.self in
    let t = c.finish.new.self in
    let e = c.in-Ok.ensures.empty in
    let a = c.attempt-outcome.ensures in
    let f = c.in-Lost.ensures.finishes in
    let d = c.finish.ensures.devices in
    let clock1 = a.tried.1 in
    let words1 = a.tried.2 in
    let clock : Consumes (g.C.Clock.moments_left s.clock) (g.C.Clock.moments_left t.clock) a.tried.0.moments = rw (d.0) (clock1) in
    let words : Consumes (g.W.Words.words_left s.words) (g.W.Words.words_left t.words) a.tried.0.words = rw (d.1) (words1) in
    let lost = tried_lost s.site.setup s.journal.end s.site.history gr'.base.value.history u.site.history (entries_of gr.committed.items) (entries_of gr'.committed.items) (noted_in gr.rows.items) (noted_in gr'.rows.items) c.args.worker c.args.ask a.tried.0 c.attempt-outcome.result (store_state t) f.0
    a.tried.3 (ap entries_of e.1) (ap noted_in e.0) (ap (λ b. b.value.history) a.base ∙ ap (λ (v : View). v.history) c.in-Ok.ensures.base) f.2 in
    (a.tried.0, clock, words, (f.0, f.1 ∙ ap (λ l. noted_in l ++ f.0) a.notes, rw (c.lost.ensures) (lost.0)))

pub returns-in_default-clause-calls : goal.returns-in_default-clause-calls
returns-in_default-clause-calls g c =
    let s = c.args.self.now in
    no_calls s.site.history (is_disk_fault Memory (store_state s).pending) (store_state s) (g.D.Disk.disk_calls s.journal.disk) (g.D.Disk.disk_calls s.journal.disk)
    (ap (λ (l : List Planned). is_disk_fault Memory (entries_of (in_order l))) c.requires.none) (ap (λ (l : List Planned). state_of s.site (in_order l)) c.requires.none) refl

pub returns-in-Written-clause-calls : goal.returns-in-Written-clause-calls
returns-in-Written-clause-calls g c =
    let s = c.args.self.now in
    let gr = c.in-Ok.group in
    let gr' = c.attempt-outcome.new.group in
    let u = c.attempt-outcome.new.self in
    let t = c.finish.new.self in
    let a = c.attempt-outcome.ensures in
    let f = c.in-Written.ensures.finishes in
    let base = ap (λ b. b.value.history) a.base ∙ ap (λ (v : View). v.history) c.in-Ok.ensures.base in
    calls_are gr'.base.value.history s.site.history false (is_disk_fault c.attempt-outcome.result (store_state t).pending) (store_state t) (g.D.Disk.disk_calls u.journal.disk) (g.D.Disk.disk_calls s.journal.disk) (g.D.Disk.disk_calls t.journal.disk) c.in-Written.ensures.calls (sym base)
    (tried_unblamed s.site.setup s.journal.end s.site.history gr'.base.value.history u.site.history (entries_of gr.committed.items) (entries_of gr'.committed.items) (noted_in gr.rows.items) (noted_in gr'.rows.items) c.args.worker c.args.ask a.tried.0 c.attempt-outcome.result (store_state t) f.0 a.tried.3 f.2)
    (ap (λ j. g.D.Disk.disk_calls j.disk) (sym a.journal))

pub returns-in-Lost-clause-calls : goal.returns-in-Lost-clause-calls
returns-in-Lost-clause-calls g c =
    let s = c.args.self.now in
    let gr' = c.attempt-outcome.new.group in
    let u = c.attempt-outcome.new.self in
    let t = c.finish.new.self in
    let a = c.attempt-outcome.ensures in
    let base = ap (λ b. b.value.history) a.base ∙ ap (λ (v : View). v.history) c.in-Ok.ensures.base in
    calls_are gr'.base.value.history s.site.history true (is_disk_fault c.lost.result (store_state t).pending) (store_state t) (g.D.Disk.disk_calls u.journal.disk) (g.D.Disk.disk_calls s.journal.disk) (g.D.Disk.disk_calls t.journal.disk) c.in-Lost.ensures.calls (sym base)
    (ap (λ o. is_disk_fault o (store_state t).pending) c.lost.ensures) (ap (λ j. g.D.Disk.disk_calls j.disk) (sym a.journal))

pub returns-in-Written-clause-disk : goal.returns-in-Written-clause-disk
returns-in-Written-clause-disk g c =
    let s = c.args.self.now in
    let gr = c.in-Ok.group in
    let gr' = c.attempt-outcome.new.group in
    let u = c.attempt-outcome.new.self in
    let t = c.finish.new.self in
    let a = c.attempt-outcome.ensures in
    let f = c.in-Written.ensures.finishes in
    cause_is false (is_disk_fault c.attempt-outcome.result (store_state t).pending) (g.D.Disk.disk_faults u.journal.disk) (g.D.Disk.disk_faults s.journal.disk) (g.D.Disk.disk_faults t.journal.disk) (g.D.Disk.disk_faults t.journal.disk) c.in-Written.ensures.cause
    (tried_unblamed s.site.setup s.journal.end s.site.history gr'.base.value.history u.site.history (entries_of gr.committed.items) (entries_of gr'.committed.items) (noted_in gr.rows.items) (noted_in gr'.rows.items) c.args.worker c.args.ask a.tried.0 c.attempt-outcome.result (store_state t) f.0 a.tried.3 f.2)
    (ap (λ j. g.D.Disk.disk_faults j.disk) (sym a.journal)) refl

pub returns-in-Lost-clause-clock : goal.returns-in-Lost-clause-clock
returns-in-Lost-clause-clock g c =
    let s = c.args.self.now in
    let u = c.attempt-outcome.new.self in
    let t = c.finish.new.self in
    let gr = c.in-Ok.group in
    let gr' = c.attempt-outcome.new.group in
    let e = c.in-Ok.ensures.empty in
    let a = c.attempt-outcome.ensures in
    let f = c.in-Lost.ensures.finishes in
    let lost = tried_lost s.site.setup s.journal.end s.site.history gr'.base.value.history u.site.history (entries_of gr.committed.items) (entries_of gr'.committed.items) (noted_in gr.rows.items) (noted_in gr'.rows.items) c.args.worker c.args.ask a.tried.0 c.attempt-outcome.result (store_state t) f.0
    a.tried.3 (ap entries_of e.1) (ap noted_in e.0) (ap (λ b. b.value.history) a.base ∙ ap (λ (v : View). v.history) c.in-Ok.ensures.base) f.2 in
    cause_is (is_clock_fault c.attempt-outcome.result) (is_clock_fault c.lost.result) (g.C.Clock.clock_faults s.clock) (g.C.Clock.clock_faults s.clock) (g.C.Clock.clock_faults u.clock) (g.C.Clock.clock_faults t.clock) a.clock
    (ap is_clock_fault c.lost.ensures ∙ sym lost.1) refl (ap g.C.Clock.clock_faults c.finish.ensures.devices.0)

pub returns-in-Lost-clause-words : goal.returns-in-Lost-clause-words
returns-in-Lost-clause-words g c =
    let s = c.args.self.now in
    let u = c.attempt-outcome.new.self in
    let t = c.finish.new.self in
    let gr = c.in-Ok.group in
    let gr' = c.attempt-outcome.new.group in
    let e = c.in-Ok.ensures.empty in
    let a = c.attempt-outcome.ensures in
    let f = c.in-Lost.ensures.finishes in
    let lost = tried_lost s.site.setup s.journal.end s.site.history gr'.base.value.history u.site.history (entries_of gr.committed.items) (entries_of gr'.committed.items) (noted_in gr.rows.items) (noted_in gr'.rows.items) c.args.worker c.args.ask a.tried.0 c.attempt-outcome.result (store_state t) f.0
    a.tried.3 (ap entries_of e.1) (ap noted_in e.0) (ap (λ b. b.value.history) a.base ∙ ap (λ (v : View). v.history) c.in-Ok.ensures.base) f.2 in
    cause_is (is_words_fault c.attempt-outcome.result) (is_words_fault c.lost.result) (g.W.Words.word_faults s.words) (g.W.Words.word_faults s.words) (g.W.Words.word_faults u.words) (g.W.Words.word_faults t.words) a.words
    (ap is_words_fault c.lost.ensures ∙ sym lost.2) refl (ap g.W.Words.word_faults c.finish.ensures.devices.1)
