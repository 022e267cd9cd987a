use Rattle.std.proofs.Common.{◌++◌, refl, sym, ap, ◌∙◌, append-nil, List}
use Rattle.std.proofs.KnownBytes.{Consumes-nil}
use Rattle.site_store.specs.Causes.{is_clock_fault, is_words_fault}
use Rattle.site_store.specs.Moved.{nothing_taken}
use Rattle.site_store.specs.Noting.{Noted}
use Rattle.site_store.specs.Standing.{noted_in, entries_of}
use Rattle.site_store.proofs.Counting.{unblamed}
use Rattle.site_store.proofs.Entering.{means_new, known_quiet, known_tries, tried_stays}
use Rattle.site_store.proofs.store.Store.attempt.Goals as goal

pub enter-requires-clause-next : goal.enter-requires-clause-next
enter-requires-clause-next g c =
    let s = c.args.self.now in
    means_new s.site.setup s.site.history c.args.ask c.in-None.ensures.none

pub returns-in-Some-clause-tried : goal.returns-in-Some-clause-tried
returns-in-Some-clause-tried g c =
    let s = c.args.self.now in
    let gr = c.args.group.now in
    let is = c.in-Some.ensures.some in
    let quiet = known_quiet s.site.setup s.site.history c.args.worker c.args.ask c.in-Some.outcome is in (
      nothing_taken,
      Consumes-nil (g.C.Clock.moments_left s.clock),
      Consumes-nil (g.W.Words.words_left s.words),
      tried_stays s.site.setup s.journal.end s.site.history s.site.history (entries_of gr.committed.items) (entries_of gr.committed.items) (noted_in gr.rows.items) (noted_in gr.rows.items) c.args.worker c.args.ask nothing_taken c.in-Some.outcome
          (known_tries s.site.setup s.journal.end s.site.history (entries_of gr.committed.items) c.args.worker c.args.ask c.in-Some.outcome is) refl refl
          (sym (ap (λ (l : List Noted). noted_in gr.rows.items ++ l) quiet.0 ∙ append-nil (noted_in gr.rows.items))),
    )

pub returns-in-Some-clause-clock : goal.returns-in-Some-clause-clock
returns-in-Some-clause-clock g c =
    let s = c.args.self.now in
    unblamed (is_clock_fault c.in-Some.outcome) (g.C.Clock.clock_faults s.clock) (g.C.Clock.clock_faults s.clock) (known_quiet s.site.setup s.site.history c.args.worker c.args.ask c.in-Some.outcome c.in-Some.ensures.some).1 refl

pub returns-in-Some-clause-words : goal.returns-in-Some-clause-words
returns-in-Some-clause-words g c =
    let s = c.args.self.now in
    unblamed (is_words_fault c.in-Some.outcome) (g.W.Words.word_faults s.words) (g.W.Words.word_faults s.words) (known_quiet s.site.setup s.site.history c.args.worker c.args.ask c.in-Some.outcome c.in-Some.ensures.some).2 refl
