use Rattle.std.proofs.Common.{inl, inr, ◌≡◌, ◌∙◌, ◌-◌, ◌≤◌, max, ℕ, [], ◌∷◌, length, refl, sym, subst, ap, append-nil, vec_len, vec_capacity}
use Rattle.std.specs.Io.KnownBytes.{Consumes}
use Rattle.std.proofs.KnownBytes.{Consumes-nil, Consumes-kept}
use Rattle.deed_words.specs.declared.entry.FaultKind.TheVariants as kind
use Rattle.deed_words.specs.History.{last_stamp}
use Rattle.site_core.specs.View.{View}
use Rattle.site_core.specs.Plans.{Makes as MakesPlan}
use Rattle.site_store.specs.declared.outcome.Outcome.TheVariants.{Memory, ClockFault, ClockRange, WordsFault, WordsSpent}
use Rattle.site_store.specs.Entries.{latest}
use Rattle.site_store.specs.Moved.{Taken, nothing_taken}
use Rattle.site_store.specs.Standing.{noted_in, entries_of}
use Rattle.site_store.specs.Steps.{stamp_at}
use Rattle.site_store.proofs.Entering.{new_means, tried_stays, tried_planned, kept_on, kept_at, range_now, stamp_in_range, fault_noted}
use Rattle.site_store.proofs.store.Store.enter.Goals as goal

pub returns-then-not-make_place-clause-tried : goal.returns-then-not-make_place-clause-tried
returns-then-not-make_place-clause-tried g c =
    let s = c.args.self.now in
    let gr = c.args.group.now in
    let m = c.make_place.ensures in (
      nothing_taken,
      rw (m.devices.0) (Consumes-nil (g.C.Clock.moments_left s.clock)),
      rw (m.devices.1) (Consumes-nil (g.W.Words.words_left s.words)),
      tried_stays s.site.setup s.journal.end s.site.history c.make_place.new.self.site.history (entries_of gr.committed.items) (entries_of c.make_place.new.group.committed.items) (noted_in gr.rows.items) (noted_in c.make_place.new.group.rows.items) c.args.worker c.args.ask nothing_taken Memory
          (inl refl, refl) (ap (λ (v : View). v.history) m.site) (ap entries_of m.group.1) (ap noted_in m.group.0 ∙ sym (append-nil (noted_in gr.rows.items))),
    )

pub returns-in_default-clause-tried : goal.returns-in_default-clause-tried
returns-in_default-clause-tried g c =
    let s = c.args.self.now in
    let gr = c.args.group.now in
    let m = c.make_place.ensures in
    let left = g.C.Clock.moments_left c.make_place.new.self.clock in
    let taken = Consumes-kept left left (g.C.Clock.moments_left c.now_ms.new.self) [] (Consumes-nil left) c.in_default.ensures.moment in
    let clock : Consumes (g.C.Clock.moments_left s.clock) (g.C.Clock.moments_left c.now_ms.new.self) [] = rw (m.devices.0) at taken in (
      nothing_taken,
      clock,
      rw (m.devices.1) (Consumes-nil (g.W.Words.words_left s.words)),
      tried_stays s.site.setup s.journal.end s.site.history c.make_place.new.self.site.history (entries_of gr.committed.items) (entries_of c.make_place.new.group.committed.items) (noted_in gr.rows.items) (noted_in c.note_fault.new.log.items) c.args.worker c.args.ask nothing_taken ClockFault
          (record { means = new_means s.site.setup s.site.history c.args.ask c.requires.next; nothing = refl }, refl) (ap (λ (v : View). v.history) m.site) (ap entries_of m.group.1)
          (fault_noted gr.rows.items c.make_place.new.group.rows.items c.note_fault.new.log.items kind.Clock c.args.worker c.make_place.new.self.pending.items m.group.0 (m.pending ∙ c.requires.none) c.note_fault.ensures.noted),
    )

pub returns-then-ms-gt-LATEST-clause-tried : goal.returns-then-ms-gt-LATEST-clause-tried
returns-then-ms-gt-LATEST-clause-tried g c =
    let s = c.args.self.now in
    let gr = c.args.group.now in
    let m = c.make_place.ensures in
    let taken : Taken = record { moments = c.in-Ok.ms ∷ []; words = [] } in
    let clock : Consumes (g.C.Clock.moments_left s.clock) (g.C.Clock.moments_left c.now_ms.new.self) (c.in-Ok.ms ∷ []) = rw (m.devices.0) at c.in-Ok.ensures.moment in (
      taken,
      clock,
      rw (m.devices.1) (Consumes-nil (g.W.Words.words_left s.words)),
      tried_stays s.site.setup s.journal.end s.site.history c.make_place.new.self.site.history (entries_of gr.committed.items) (entries_of c.make_place.new.group.committed.items) (noted_in gr.rows.items) (noted_in c.note_fault-then-ms-gt-LATEST.new.log.items) c.args.worker c.args.ask taken (ClockRange c.in-Ok.ms)
          (record { means = new_means s.site.setup s.site.history c.args.ask c.requires.next; took = refl; past = c.if-ms-gt-LATEST.true }, refl) (ap (λ (v : View). v.history) m.site) (ap entries_of m.group.1)
          (fault_noted gr.rows.items c.make_place.new.group.rows.items c.note_fault-then-ms-gt-LATEST.new.log.items kind.Range c.args.worker c.make_place.new.self.pending.items m.group.0 (m.pending ∙ c.requires.none) c.note_fault-then-ms-gt-LATEST.ensures.noted),
    )

pub plan-requires-clause-last : goal.plan-requires-clause-last
plan-requires-clause-last g c =
    let s = c.args.self.now in
    let gr = c.args.group.now in
    let m = c.make_place.ensures in
    let t = c.make_place.new.self in
    let range = range_now (g.D.Disk.image s.journal.disk) s.journal.end s.journal.pending gr.base.value s.site gr.committed.items gr.frame (length gr.rows.items) (vec_capacity s.log - vec_len s.log) (vec_capacity s.pending - vec_len s.pending) c.requires.trying in
    let now : last_stamp t.site.history ≤ latest = subst (λ (v : View). last_stamp v.history ≤ latest) (sym m.site) range in
    let stamp : c.max-stamp.result ≡ stamp_at c.in-Ok.ms t.site.history = c.max-stamp.ensures ∙ ap (λ (l : ℕ). max l c.in-Ok.ms) c.last_stamp.ensures in
    stamp_in_range t.site.history c.in-Ok.ms c.max-stamp.result now c.if-ms-gt-LATEST.false stamp

pub returns-in-Ok-plan-clause-tried : goal.returns-in-Ok-plan-clause-tried
returns-in-Ok-plan-clause-tried g c =
    let s = c.args.self.now in
    let gr = c.args.group.now in
    let m = c.make_place.ensures in
    let t = c.make_place.new.self in
    let p = c.in-Ok-plan.ensures.plan in
    let same = c.in-Ok-plan.ensures.same in
    let site : t.site ≡ s.site = m.site in
    let stamp : c.max-stamp.result ≡ stamp_at c.in-Ok.ms t.site.history = c.max-stamp.ensures ∙ ap (λ (l : ℕ). max l c.in-Ok.ms) c.last_stamp.ensures in
    let stamp_is : c.max-stamp.result ≡ stamp_at c.in-Ok.ms s.site.history = stamp ∙ ap (λ (v : View). stamp_at c.in-Ok.ms v.history) site in
    let plan : MakesPlan s.site.setup s.site.history s.site.content c.args.worker c.args.ask c.max-stamp.result p.0 c.in-Ok-plan.planned = subst (λ (v : View). MakesPlan v.setup v.history v.content c.args.worker c.args.ask c.max-stamp.result p.0 c.in-Ok-plan.planned) site p.2 in
    let kept = kept_on t.journal.end c.plan.new.self.history s.site.history c.keep.new.self.site.history (entries_of c.make_place.new.group.committed.items) (entries_of gr.committed.items) (entries_of c.keep.new.group.committed.items) (noted_in c.make_place.new.group.rows.items) (noted_in gr.rows.items) (noted_in c.keep.new.group.rows.items) c.args.worker c.in-Ok-plan.planned c.keep.result
    (same.1 ∙ ap (λ (v : View). v.history) site) (ap entries_of m.group.1) (ap noted_in m.group.0) c.keep.ensures.kept in
    let end : t.journal.end ≡ s.journal.end = ap (λ j. j.end) m.journal in
    let moment = c.in-Ok.ensures.moment in
    let clock1 : Consumes (g.C.Clock.moments_left s.clock) (g.C.Clock.moments_left c.now_ms.new.self) (c.in-Ok.ms ∷ []) = rw (m.devices.0) at moment in
    let clock : Consumes (g.C.Clock.moments_left s.clock) (g.C.Clock.moments_left c.keep.new.self.clock) (c.in-Ok.ms ∷ []) = rw (c.keep.ensures.devices.0) (clock1) in
    let took = p.1 in
    let words1 : Consumes (g.W.Words.words_left s.words) (g.W.Words.words_left c.plan.new.words) p.0 = rw (m.devices.1) at took in
    let words : Consumes (g.W.Words.words_left s.words) (g.W.Words.words_left c.keep.new.self.words) p.0 = rw (c.keep.ensures.devices.1) (words1) in (
      record { moments = c.in-Ok.ms ∷ []; words = p.0 },
      clock,
      words,
      tried_planned s.site.setup s.journal.end s.site.history c.keep.new.self.site.history s.site.content (entries_of gr.committed.items) (entries_of c.keep.new.group.committed.items) (noted_in gr.rows.items) (noted_in c.keep.new.group.rows.items) c.args.worker c.args.ask c.in-Ok.ms c.max-stamp.result p.0 c.in-Ok-plan.planned c.keep.result
          (new_means s.site.setup s.site.history c.args.ask c.requires.next) c.if-ms-gt-LATEST.false stamp_is plan (kept_at t.journal.end s.journal.end s.site.history c.keep.new.self.site.history (entries_of gr.committed.items) (entries_of c.keep.new.group.committed.items) (noted_in gr.rows.items) (noted_in c.keep.new.group.rows.items) c.args.worker c.in-Ok-plan.planned c.keep.result end kept),
    )

pub returns-in-Err-WordsFault-clause-tried : goal.returns-in-Err-WordsFault-clause-tried
returns-in-Err-WordsFault-clause-tried g c =
    let s = c.args.self.now in
    let gr = c.args.group.now in
    let m = c.make_place.ensures in
    let t = c.make_place.new.self in
    let site : t.site ≡ s.site = m.site in
    let p = c.in-Err-WordsFault.ensures.plan in
    let taken : Taken = record { moments = c.in-Ok.ms ∷ []; words = p.0 } in
    let moment = c.in-Ok.ensures.moment in
    let clock : Consumes (g.C.Clock.moments_left s.clock) (g.C.Clock.moments_left c.now_ms.new.self) (c.in-Ok.ms ∷ []) = rw (m.devices.0) at moment in
    let took = p.1 in
    let words : Consumes (g.W.Words.words_left s.words) (g.W.Words.words_left c.plan.new.words) p.0 = rw (m.devices.1) at took in
    let history : c.plan.new.self.history ≡ s.site.history = c.in-Err-WordsFault.ensures.same.1 ∙ ap (λ (v : View). v.history) site in
    let means = new_means s.site.setup s.site.history c.args.ask c.requires.next in
    let told = rw (c.in-Err-WordsFault.field-0-is) at p.2 in
    let stops = rw site at told in (
      taken,
      clock,
      words,
      tried_stays s.site.setup s.journal.end s.site.history c.plan.new.self.history (entries_of gr.committed.items) (entries_of c.make_place.new.group.committed.items) (noted_in gr.rows.items) (noted_in c.note_fault-in-Err-WordsFault.new.log.items) c.args.worker c.args.ask taken WordsFault
          (record { ms = c.in-Ok.ms; comes = record { means = means; moment = refl; in_range = c.if-ms-gt-LATEST.false }; stops = stops }, refl) history (ap entries_of m.group.1)
          (fault_noted gr.rows.items c.make_place.new.group.rows.items c.note_fault-in-Err-WordsFault.new.log.items kind.Words c.args.worker c.make_place.new.self.pending.items m.group.0 (m.pending ∙ c.requires.none) c.note_fault-in-Err-WordsFault.ensures.noted),
    )

pub returns-in-Err-WordsSpent-clause-tried : goal.returns-in-Err-WordsSpent-clause-tried
returns-in-Err-WordsSpent-clause-tried g c =
    let s = c.args.self.now in
    let gr = c.args.group.now in
    let m = c.make_place.ensures in
    let t = c.make_place.new.self in
    let site : t.site ≡ s.site = m.site in
    let p = c.in-Err-WordsSpent.ensures.plan in
    let taken : Taken = record { moments = c.in-Ok.ms ∷ []; words = p.0 } in
    let moment = c.in-Ok.ensures.moment in
    let clock : Consumes (g.C.Clock.moments_left s.clock) (g.C.Clock.moments_left c.now_ms.new.self) (c.in-Ok.ms ∷ []) = rw (m.devices.0) at moment in
    let took = p.1 in
    let words : Consumes (g.W.Words.words_left s.words) (g.W.Words.words_left c.plan.new.words) p.0 = rw (m.devices.1) at took in
    let history : c.plan.new.self.history ≡ s.site.history = c.in-Err-WordsSpent.ensures.same.1 ∙ ap (λ (v : View). v.history) site in
    let means = new_means s.site.setup s.site.history c.args.ask c.requires.next in
    let told = rw (c.in-Err-WordsSpent.field-0-is) at p.2 in
    let spends = rw site at told in (
      taken,
      clock,
      words,
      tried_stays s.site.setup s.journal.end s.site.history c.plan.new.self.history (entries_of gr.committed.items) (entries_of c.make_place.new.group.committed.items) (noted_in gr.rows.items) (noted_in c.note_fault-in-Err-WordsSpent.new.log.items) c.args.worker c.args.ask taken (WordsSpent c.in-Err-WordsSpent.found)
          (record { ms = c.in-Ok.ms; comes = record { means = means; moment = refl; in_range = c.if-ms-gt-LATEST.false }; spends = spends }, refl) history (ap entries_of m.group.1)
          (fault_noted gr.rows.items c.make_place.new.group.rows.items c.note_fault-in-Err-WordsSpent.new.log.items kind.Spent c.args.worker c.make_place.new.self.pending.items m.group.0 (m.pending ∙ c.requires.none) c.note_fault-in-Err-WordsSpent.ensures.noted),
    )

pub returns-in-Err-Memory-clause-tried : goal.returns-in-Err-Memory-clause-tried
returns-in-Err-Memory-clause-tried g c =
    let s = c.args.self.now in
    let gr = c.args.group.now in
    let m = c.make_place.ensures in
    let t = c.make_place.new.self in
    let site : t.site ≡ s.site = m.site in
    let p = c.in-Err-Memory.ensures.plan in
    let taken : Taken = record { moments = c.in-Ok.ms ∷ []; words = p.0 } in
    let moment = c.in-Ok.ensures.moment in
    let clock : Consumes (g.C.Clock.moments_left s.clock) (g.C.Clock.moments_left c.now_ms.new.self) (c.in-Ok.ms ∷ []) = rw (m.devices.0) at moment in
    let took = p.1 in
    let words : Consumes (g.W.Words.words_left s.words) (g.W.Words.words_left c.plan.new.words) p.0 = rw (m.devices.1) at took in
    let history : c.plan.new.self.history ≡ s.site.history = c.in-Err-Memory.ensures.same.1 ∙ ap (λ (v : View). v.history) site in
    let means = new_means s.site.setup s.site.history c.args.ask c.requires.next in
    let told = rw (c.in-Err-Memory.field-0-is) at p.2 in
    let takes = rw site at told in (
      taken,
      clock,
      words,
      tried_stays s.site.setup s.journal.end s.site.history c.plan.new.self.history (entries_of gr.committed.items) (entries_of c.make_place.new.group.committed.items) (noted_in gr.rows.items) (noted_in c.make_place.new.group.rows.items) c.args.worker c.args.ask taken Memory
          (inr (c.in-Ok.ms, record { means = means; moment = refl; in_range = c.if-ms-gt-LATEST.false }, takes), refl) history (ap entries_of m.group.1) (ap noted_in m.group.0 ∙ sym (append-nil (noted_in gr.rows.items))),
    )
