use Rattle.std.proofs.Common.{◌≡◌, ◌≤◌, ◌+◌, ◌-◌, [], length, vec_len, vec_capacity}
use Rattle.std.specs.Vec.Iter.{into_iter_items, into_iter_len}
use Rattle.deed_words.specs.declared.entry.FaultKind.TheVariants as kind
use Rattle.site_store.specs.Asked.{AreOf}
use Rattle.site_store.specs.Causes.{RoseJust}
use Rattle.site_store.specs.Noting.{how_often}
use Rattle.site_store.specs.Going.{IsGoing}
use Rattle.site_store.specs.Standing.{entries_of, noted_in}
use Rattle.site_store.specs.Trying.{IsTrying}
use Rattle.site_store.proofs.store.Store.answer_all.Given as goal

abbrev pub invariant-asks : goal.invariant-asks
invariant-asks g l =
    let D = g.D.Disk in
    let s = l.fn.self in
    let t = l.self in
    let gr = l.group in
    record {
      going : IsGoing s.site.setup s.journal.end s.site.history l.worker l.fn.asks.items (into_iter_items l.rest) l.outcomes.items (entries_of gr.committed.items) (noted_in gr.rows.items) l.kept (g.C.Clock.moments_left s.clock) (g.C.Clock.moments_left t.clock) (g.W.Words.words_left s.words) (g.W.Words.words_left t.words);
      clock : RoseJust (how_often kind.Clock (noted_in gr.rows.items)) (g.C.Clock.clock_faults s.clock) (g.C.Clock.clock_faults t.clock);
      words : RoseJust (how_often kind.Words (noted_in gr.rows.items)) (g.W.Words.word_faults s.words) (g.W.Words.word_faults t.words);
      trying : IsTrying (D.image t.journal.disk) t.journal.end t.journal.pending gr.base.value t.site gr.committed.items gr.frame (length gr.rows.items) (vec_capacity t.log - vec_len t.log) (vec_capacity t.pending - vec_len t.pending);
      base : gr.base.value ≡ s.site;
      none : t.pending.items ≡ [];
      journal : t.journal ≡ s.journal;
      notes : t.log.items ≡ s.log.items;
      opened : (t.opening ≡ s.opening) × (t.opened ≡ s.opened);
      stations : AreOf s.site.setup (into_iter_items l.rest);
      few : length gr.committed.items + length (into_iter_items l.rest) ≤ 16;
      spare : vec_len l.outcomes + length (into_iter_items l.rest) ≤ vec_capacity l.outcomes;
    }

abbrev pub decreases-asks : goal.decreases-asks
decreases-asks g l = into_iter_len l.rest
