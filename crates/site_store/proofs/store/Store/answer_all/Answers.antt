use Rattle.std.proofs.Common.{true, false, ◌≡◌, ◌∙◌, ◌+◌, ◌-◌, ◌++◌, ◌∷◌, [], List, ℕ, length, map, ap, refl, sym, subst, arith, append-nil, vec_len, vec_capacity}
use Rattle.std.specs.Io.KnownBytes.{Consumes}
use Rattle.std.specs.Vec.Iter.{into_iter_items}
use Rattle.std.proofs.KnownBytes.{Consumes-nil}
use Rattle.deed_words.specs.declared.entry.Ask.{Ask}
use Rattle.site_core.specs.View.{View}
use Rattle.site_core.specs.declared.planned.Planned.{Planned}
use Rattle.deed_words.specs.declared.entry.FaultKind.TheVariants as kind
use Rattle.site_store.specs.Asked.{AreOf}
use Rattle.site_store.specs.Causes.{is_clock_fault, is_words_fault, tells_disk_fault}
use Rattle.site_store.specs.Noting.{how_often}
use Rattle.site_store.specs.Moved.{nothing_taken}
use Rattle.site_store.specs.Standing.{state_of, entries_of, in_order, noted_in}
use Rattle.site_store.specs.States.{State, settled}
use Rattle.site_store.specs.Steps.{taken_in, outcomes_in}
use Rattle.site_store.specs.Open.{store_state, notes_of}
use Rattle.site_store.specs.declared.finish.Finish.TheVariants as finish
use Rattle.site_store.specs.declared.outcome.Outcome.TheVariants.{Memory}
use Rattle.std.proofs.lemmas.List.{length-append}
use Rattle.site_store.specs.Tried.{Tried}
use Rattle.site_store.proofs.Gathering.{going_start, going_on}
use Rattle.site_store.proofs.Calling.{no_calls, calls_are}
use Rattle.site_store.proofs.Counting.{just_start, just_more, often_tried, often_finished, clock_told, words_told, causes_of, cause_is, unblamed, lost_tells, written_tell, wanting_tell}
use Rattle.site_store.proofs.Finishing.{long_entries}
use Rattle.site_store.proofs.Whole.{no_entries, none_left, start_trying, tried_short, all_wanting, all_written, all_lost}
use Rattle.site_store.proofs.store.Store.answer_all.Goals as goal

pub returns-in_default-clause-answers : goal.returns-in_default-clause-answers
returns-in_default-clause-answers g c =
    let s = c.args.self.now in
    let state : state_of s.site (in_order s.pending.items) ≡ settled s.site.history = ap (λ (l : List Planned). state_of s.site (in_order l)) c.requires.none in (
      nothing_taken,
      Consumes-nil (g.C.Clock.moments_left s.clock),
      Consumes-nil (g.W.Words.words_left s.words),
      ([], sym (append-nil (noted_in s.log.items)), all_wanting s.site.setup s.journal.end s.site.history c.args.worker c.args.asks.items c.refuse_all.new.outcomes.items (state_of s.site (in_order s.pending.items)) c.refuse_all.ensures state),
    )

pub asks-init : goal.asks-init
asks-init g c =
    let s = c.args.self.now in
    let gr = c.in-Ok.group in
    let e = c.in-Ok.ensures.empty in
    record {
      going = going_start s.site.setup s.journal.end s.site.history c.args.worker c.args.asks.items (into_iter_items c.into_iter-rest.result) c.args.outcomes.now.items (entries_of gr.committed.items) (noted_in gr.rows.items) (g.C.Clock.moments_left s.clock) (g.W.Words.words_left s.words) c.into_iter-rest.ensures.rest c.requires.empty (ap entries_of e.1) (ap noted_in e.0);
      clock = just_start (how_often kind.Clock (noted_in gr.rows.items)) (g.C.Clock.clock_faults s.clock) (ap (λ l. how_often kind.Clock (noted_in l)) e.0);
      words = just_start (how_often kind.Words (noted_in gr.rows.items)) (g.W.Words.word_faults s.words) (ap (λ l. how_often kind.Words (noted_in l)) e.0);
      trying = start_trying (g.D.Disk.image s.journal.disk) s.journal.end s.journal.pending gr.base.value s.site (in_order s.pending.items) gr.committed.items gr.frame (length gr.rows.items) (vec_capacity s.log - vec_len s.log) (vec_capacity s.pending - vec_len s.pending) c.requires.sound (ap in_order c.requires.none) c.in-Ok.ensures.base e.1 e.2 (ap (λ l. length l) e.0) c.no_group.ensures.world;
      base = c.in-Ok.ensures.base;
      none = c.requires.none;
      journal = refl;
      notes = refl;
      opened = (refl, refl);
      stations = subst (λ (l : List Ask). AreOf s.site.setup l) (sym c.into_iter-rest.ensures.rest) c.requires.stations;
      few = (let long = ap (λ (l : List Planned). length l) e.1 in let asks = ap (λ (l : List Ask). length l) c.into_iter-rest.ensures.rest in omega (arith, long, asks, c.requires.few));
      spare = (let asks = ap (λ (l : List Ask). length l) c.into_iter-rest.ensures.rest in grind (arith, asks, c.requires.spare, c.requires.empty));
    }

pub returns-in-Written-clause-answers : goal.returns-in-Written-clause-answers
returns-in-Written-clause-answers g c =
    let s = c.args.self.now in
    let was = c.asks.invariant in
    let t = c.finish.new.self in
    let f = c.in-Written.ensures.finishes in
    let d = c.finish.ensures.devices in
    let none : into_iter_items c.asks.rest ≡ [] = none_left c.asks.rest c.in_default-next.ensures.cases.0 in
    let clock1 = was.going.clock in
    let words1 = was.going.words in
    let clock : Consumes (g.C.Clock.moments_left s.clock) (g.C.Clock.moments_left t.clock) (taken_in was.going.tries).moments = rw (d.0) (clock1) in
    let words : Consumes (g.W.Words.words_left s.words) (g.W.Words.words_left t.words) (taken_in was.going.tries).words = rw (d.1) (words1) in (
      taken_in was.going.tries,
      clock,
      words,
      (
        f.0,
        f.1 ∙ ap (λ l. noted_in l ++ f.0) was.notes,
        all_written s.site.setup s.journal.end s.site.history c.asks.group.base.value.history c.args.worker c.args.asks.items (into_iter_items c.asks.rest) c.asks.outcomes.items (entries_of c.asks.group.committed.items) (noted_in c.asks.group.rows.items) c.asks.kept (g.C.Clock.moments_left s.clock) (g.C.Clock.moments_left c.asks.self.clock) (g.W.Words.words_left s.words) (g.W.Words.words_left c.asks.self.words)
            (state_of t.site (in_order t.pending.items)) f.0 was.going none (ap (λ (v : View). v.history) was.base) f.2,
      ),
    )

pub returns-clause-answers : goal.returns-clause-answers
returns-clause-answers g c =
    let s = c.args.self.now in
    let was = c.asks.invariant in
    let t = c.finish.new.self in
    let f = c.in-Lost.ensures.finishes in
    let d = c.finish.ensures.devices in
    let none : into_iter_items c.asks.rest ≡ [] = none_left c.asks.rest c.in_default-next.ensures.cases.0 in
    let clock1 = was.going.clock in
    let words1 = was.going.words in
    let clock : Consumes (g.C.Clock.moments_left s.clock) (g.C.Clock.moments_left t.clock) (taken_in was.going.tries).moments = rw (d.0) (clock1) in
    let words : Consumes (g.W.Words.words_left s.words) (g.W.Words.words_left t.words) (taken_in was.going.tries).words = rw (d.1) (words1) in (
      taken_in was.going.tries,
      clock,
      words,
      (
        f.0,
        f.1 ∙ ap (λ l. noted_in l ++ f.0) was.notes,
        all_lost s.site.setup s.journal.end s.site.history c.asks.group.base.value.history c.args.worker c.args.asks.items (into_iter_items c.asks.rest) c.asks.outcomes.items c.fail_from.new.outcomes.items (entries_of c.asks.group.committed.items) (noted_in c.asks.group.rows.items) c.asks.kept (g.C.Clock.moments_left s.clock) (g.C.Clock.moments_left c.asks.self.clock) (g.W.Words.words_left s.words) (g.W.Words.words_left c.asks.self.words)
            (state_of t.site (in_order t.pending.items)) f.0 was.going none (ap (λ (v : View). v.history) was.base) c.fail_from.ensures f.2,
      ),
    )

pub asks-preserved : goal.asks-preserved
asks-preserved g c =
    let s = c.args.self.now in
    let was = c.asks.invariant in
    let u = c.asks.self in
    let t = c.attempt-outcome.new.self in
    let gr = c.asks.group in
    let gr' = c.attempt-outcome.new.group in
    let e = c.attempt-outcome.ensures in
    let rest = into_iter_items c.asks.rest in
    let rest' = into_iter_items c.next.new.self in
    let rest_is : rest ≡ c.in-Some.ask ∷ rest' = c.in-Some.ensures.items in
    let setup : u.site.setup ≡ s.site.setup = was.trying.setup_is ∙ ap (λ (v : View). v.setup) was.base in
    let history : u.site.history ≡ s.site.history ++ entries_of gr.committed.items = was.trying.history_is ∙ ap (λ (v : View). v.history ++ entries_of gr.committed.items) was.base in
    let tried1 = e.tried.3 in
    let tried2 : Tried s.site.setup u.journal.end u.site.history t.site.history (entries_of gr.committed.items) (entries_of gr'.committed.items) (noted_in gr.rows.items) (noted_in gr'.rows.items) c.args.worker c.in-Some.ask e.tried.0 c.attempt-outcome.result = subst (λ v. Tried v u.journal.end u.site.history t.site.history (entries_of gr.committed.items) (entries_of gr'.committed.items) (noted_in gr.rows.items) (noted_in gr'.rows.items) c.args.worker c.in-Some.ask e.tried.0 c.attempt-outcome.result) setup tried1 in
    let tried : Tried s.site.setup s.journal.end u.site.history t.site.history (entries_of gr.committed.items) (entries_of gr'.committed.items) (noted_in gr.rows.items) (noted_in gr'.rows.items) c.args.worker c.in-Some.ask e.tried.0 c.attempt-outcome.result = subst (λ n. Tried s.site.setup n u.site.history t.site.history (entries_of gr.committed.items) (entries_of gr'.committed.items) (noted_in gr.rows.items) (noted_in gr'.rows.items) c.args.worker c.in-Some.ask e.tried.0 c.attempt-outcome.result) (ap (λ j. j.end) was.journal) tried2 in
    let short = tried_short s.site.setup s.journal.end u.site.history t.site.history (entries_of gr.committed.items) (entries_of gr'.committed.items) (noted_in gr.rows.items) (noted_in gr'.rows.items) c.args.worker c.in-Some.ask e.tried.0 c.attempt-outcome.result tried in
    let long = long_entries gr.committed.items in
    let long' = long_entries gr'.committed.items in
    let left : length rest ≡ length rest' + 1 = (let is = ap (λ (l : List Ask). length l) rest_is in omega (arith, is)) in
    let stations : AreOf s.site.setup (c.in-Some.ask ∷ rest') = subst (λ (l : List Ask). AreOf s.site.setup l) rest_is was.stations in
    let more : length c.push_reserved.new.self.items ≡ length c.asks.outcomes.items + 1 = grind (arith, ap (λ l. length l) c.push_reserved.ensures.items, length-append c.asks.outcomes.items (c.attempt-outcome.result ∷ [])) in
    record {
      going = going_on s.site.setup s.journal.end s.site.history u.site.history t.site.history c.args.worker c.args.asks.items rest rest' c.in-Some.ask c.asks.outcomes.items c.push_reserved.new.self.items c.attempt-outcome.result (entries_of gr.committed.items) (entries_of gr'.committed.items) (noted_in gr.rows.items) (noted_in gr'.rows.items) c.asks.kept c.kept_now-kept.result
          (g.C.Clock.moments_left s.clock) (g.C.Clock.moments_left u.clock) (g.C.Clock.moments_left t.clock) (g.W.Words.words_left s.words) (g.W.Words.words_left u.words) (g.W.Words.words_left t.words) e.tried.0
          was.going rest_is history tried e.tried.1 e.tried.2 c.push_reserved.ensures.items (λ none. c.kept_now-kept.ensures.none (no_entries gr'.committed.items none) ∙ more) (λ some. c.kept_now-kept.ensures.some (λ none. some (ap entries_of none)));
      clock = just_more (how_often kind.Clock (noted_in gr.rows.items)) (how_often kind.Clock (noted_in gr'.rows.items)) (g.C.Clock.clock_faults s.clock) (g.C.Clock.clock_faults u.clock) (g.C.Clock.clock_faults t.clock) (is_clock_fault c.attempt-outcome.result) was.clock e.clock
          (often_tried kind.Clock s.site.setup s.journal.end u.site.history t.site.history (entries_of gr.committed.items) (entries_of gr'.committed.items) (noted_in gr.rows.items) (noted_in gr'.rows.items) c.args.worker c.in-Some.ask e.tried.0 c.attempt-outcome.result tried ∙ ap (λ (n : ℕ). how_often kind.Clock (noted_in gr.rows.items) + n) (clock_told c.args.worker c.attempt-outcome.result));
      words = just_more (how_often kind.Words (noted_in gr.rows.items)) (how_often kind.Words (noted_in gr'.rows.items)) (g.W.Words.word_faults s.words) (g.W.Words.word_faults u.words) (g.W.Words.word_faults t.words) (is_words_fault c.attempt-outcome.result) was.words e.words
          (often_tried kind.Words s.site.setup s.journal.end u.site.history t.site.history (entries_of gr.committed.items) (entries_of gr'.committed.items) (noted_in gr.rows.items) (noted_in gr'.rows.items) c.args.worker c.in-Some.ask e.tried.0 c.attempt-outcome.result tried ∙ ap (λ (n : ℕ). how_often kind.Words (noted_in gr.rows.items) + n) (words_told c.args.worker c.attempt-outcome.result));
      trying = e.trying;
      base = ap (λ b. b.value) e.base ∙ was.base;
      none = e.pending ∙ was.none;
      journal = e.journal ∙ was.journal;
      notes = e.notes ∙ was.notes;
      opened = (e.opened.0 ∙ was.opened.0, e.opened.1 ∙ was.opened.1);
      stations = stations.2;
      few = omega (arith, was.few, short, long, long', left);
      spare = omega (arith, was.spare, c.push_reserved.ensures.len, c.push_reserved.ensures.capacity, left);
    }

pub returns-in_default-clause-disk : goal.returns-in_default-clause-disk
returns-in_default-clause-disk g c =
    let s = c.args.self.now in
    let pending : (store_state s).pending ≡ [] = ap (λ (l : List Planned). entries_of (in_order l)) c.requires.none in
    unblamed (tells_disk_fault c.refuse_all.new.outcomes.items (store_state s).pending) (g.D.Disk.disk_faults s.journal.disk) (g.D.Disk.disk_faults s.journal.disk)
    (ap (λ l. tells_disk_fault l (store_state s).pending) c.refuse_all.ensures ∙ ap (λ l. tells_disk_fault (map (λ (ask : Ask). Memory) c.args.asks.items) l) pending ∙ wanting_tell c.args.asks.items) refl

pub returns-in-Written-clause-disk : goal.returns-in-Written-clause-disk
returns-in-Written-clause-disk g c =
    let s = c.args.self.now in
    let was = c.asks.invariant in
    let t = c.finish.new.self in
    let f = c.in-Written.ensures.finishes in
    cause_is false (tells_disk_fault c.asks.outcomes.items (store_state t).pending) (g.D.Disk.disk_faults c.asks.self.journal.disk) (g.D.Disk.disk_faults s.journal.disk) (g.D.Disk.disk_faults t.journal.disk) (g.D.Disk.disk_faults t.journal.disk) c.in-Written.ensures.cause
    (ap (λ l. tells_disk_fault l (store_state t).pending) was.going.outcomes_are ∙ ap (λ (x : State). tells_disk_fault (outcomes_in was.going.tries) x.pending) f.2.0 ∙ written_tell s.site.setup s.journal.end s.site.history [] c.args.worker was.going.tries was.going.are)
    (ap (λ j. g.D.Disk.disk_faults j.disk) (sym was.journal)) refl

pub returns-clause-disk : goal.returns-clause-disk
returns-clause-disk g c =
    let s = c.args.self.now in
    let was = c.asks.invariant in
    let t = c.finish.new.self in
    let f = c.in-Lost.ensures.finishes in
    cause_is true (tells_disk_fault c.fail_from.new.outcomes.items (store_state t).pending) (g.D.Disk.disk_faults c.asks.self.journal.disk) (g.D.Disk.disk_faults s.journal.disk) (g.D.Disk.disk_faults t.journal.disk) (g.D.Disk.disk_faults t.journal.disk) c.in-Lost.ensures.cause
    (ap (λ l. tells_disk_fault l (store_state t).pending) (c.fail_from.ensures ∙ sym was.going.lost_is) ∙ lost_tells was.going.tries (store_state t).pending (λ none. f.2.0 (was.going.front_is ∙ none)))
    (ap (λ j. g.D.Disk.disk_faults j.disk) (sym was.journal)) refl

pub returns-in-Written-clause-clock : goal.returns-in-Written-clause-clock
returns-in-Written-clause-clock g c =
    let s = c.args.self.now in
    let was = c.asks.invariant in
    let u = c.asks.self in
    let t = c.finish.new.self in
    let f = c.in-Written.ensures.finishes in
    let rows = noted_in c.asks.group.rows.items in
    causes_of kind.Clock (notes_of u) (notes_of s) (notes_of t) f.0 (how_often kind.Clock rows) (g.C.Clock.clock_faults s.clock) (g.C.Clock.clock_faults s.clock) (g.C.Clock.clock_faults u.clock) (g.C.Clock.clock_faults t.clock) (ap noted_in (sym was.notes)) f.1
    (often_finished kind.Clock c.asks.group.base.value.history (entries_of c.asks.group.committed.items) c.args.worker rows finish.Written (store_state t) f.0 f.2 refl) was.clock refl (ap g.C.Clock.clock_faults c.finish.ensures.devices.0)

pub returns-in-Written-clause-words : goal.returns-in-Written-clause-words
returns-in-Written-clause-words g c =
    let s = c.args.self.now in
    let was = c.asks.invariant in
    let u = c.asks.self in
    let t = c.finish.new.self in
    let f = c.in-Written.ensures.finishes in
    let rows = noted_in c.asks.group.rows.items in
    causes_of kind.Words (notes_of u) (notes_of s) (notes_of t) f.0 (how_often kind.Words rows) (g.W.Words.word_faults s.words) (g.W.Words.word_faults s.words) (g.W.Words.word_faults u.words) (g.W.Words.word_faults t.words) (ap noted_in (sym was.notes)) f.1
    (often_finished kind.Words c.asks.group.base.value.history (entries_of c.asks.group.committed.items) c.args.worker rows finish.Written (store_state t) f.0 f.2 refl) was.words refl (ap g.W.Words.word_faults c.finish.ensures.devices.1)

pub returns-clause-clock : goal.returns-clause-clock
returns-clause-clock g c =
    let s = c.args.self.now in
    let was = c.asks.invariant in
    let u = c.asks.self in
    let t = c.finish.new.self in
    let f = c.in-Lost.ensures.finishes in
    let rows = noted_in c.asks.group.rows.items in
    causes_of kind.Clock (notes_of u) (notes_of s) (notes_of t) f.0 (how_often kind.Clock rows) (g.C.Clock.clock_faults s.clock) (g.C.Clock.clock_faults s.clock) (g.C.Clock.clock_faults u.clock) (g.C.Clock.clock_faults t.clock) (ap noted_in (sym was.notes)) f.1
    (often_finished kind.Clock c.asks.group.base.value.history (entries_of c.asks.group.committed.items) c.args.worker rows finish.Lost (store_state t) f.0 f.2 refl) was.clock refl (ap g.C.Clock.clock_faults c.finish.ensures.devices.0)

pub returns-clause-words : goal.returns-clause-words
returns-clause-words g c =
    let s = c.args.self.now in
    let was = c.asks.invariant in
    let u = c.asks.self in
    let t = c.finish.new.self in
    let f = c.in-Lost.ensures.finishes in
    let rows = noted_in c.asks.group.rows.items in
    causes_of kind.Words (notes_of u) (notes_of s) (notes_of t) f.0 (how_often kind.Words rows) (g.W.Words.word_faults s.words) (g.W.Words.word_faults s.words) (g.W.Words.word_faults u.words) (g.W.Words.word_faults t.words) (ap noted_in (sym was.notes)) f.1
    (often_finished kind.Words c.asks.group.base.value.history (entries_of c.asks.group.committed.items) c.args.worker rows finish.Lost (store_state t) f.0 f.2 refl) was.words refl (ap g.W.Words.word_faults c.finish.ensures.devices.1)

pub returns-in_default-clause-calls : goal.returns-in_default-clause-calls
returns-in_default-clause-calls g c =
    let s = c.args.self.now in
    let pending : (store_state s).pending ≡ [] = ap (λ (l : List Planned). entries_of (in_order l)) c.requires.none in
    no_calls s.site.history (tells_disk_fault c.refuse_all.new.outcomes.items (store_state s).pending) (store_state s) (g.D.Disk.disk_calls s.journal.disk) (g.D.Disk.disk_calls s.journal.disk)
    (ap (λ l. tells_disk_fault l (store_state s).pending) c.refuse_all.ensures ∙ ap (λ l. tells_disk_fault (map (λ (ask : Ask). Memory) c.args.asks.items) l) pending ∙ wanting_tell c.args.asks.items)
    (ap (λ (l : List Planned). state_of s.site (in_order l)) c.requires.none) refl

pub returns-in-Written-clause-calls : goal.returns-in-Written-clause-calls
returns-in-Written-clause-calls g c =
    let s = c.args.self.now in
    let was = c.asks.invariant in
    let t = c.finish.new.self in
    let f = c.in-Written.ensures.finishes in
    calls_are c.asks.group.base.value.history s.site.history false (tells_disk_fault c.asks.outcomes.items (store_state t).pending) (store_state t) (g.D.Disk.disk_calls c.asks.self.journal.disk) (g.D.Disk.disk_calls s.journal.disk) (g.D.Disk.disk_calls t.journal.disk) c.in-Written.ensures.calls
    (ap (λ (v : View). v.history) (sym was.base))
    (ap (λ l. tells_disk_fault l (store_state t).pending) was.going.outcomes_are ∙ ap (λ (x : State). tells_disk_fault (outcomes_in was.going.tries) x.pending) f.2.0 ∙ written_tell s.site.setup s.journal.end s.site.history [] c.args.worker was.going.tries was.going.are)
    (ap (λ j. g.D.Disk.disk_calls j.disk) (sym was.journal))

pub returns-clause-calls : goal.returns-clause-calls
returns-clause-calls g c =
    let s = c.args.self.now in
    let was = c.asks.invariant in
    let t = c.finish.new.self in
    let f = c.in-Lost.ensures.finishes in
    calls_are c.asks.group.base.value.history s.site.history true (tells_disk_fault c.fail_from.new.outcomes.items (store_state t).pending) (store_state t) (g.D.Disk.disk_calls c.asks.self.journal.disk) (g.D.Disk.disk_calls s.journal.disk) (g.D.Disk.disk_calls t.journal.disk) c.in-Lost.ensures.calls
    (ap (λ (v : View). v.history) (sym was.base))
    (ap (λ l. tells_disk_fault l (store_state t).pending) (c.fail_from.ensures ∙ sym was.going.lost_is) ∙ lost_tells was.going.tries (store_state t).pending (λ none. f.2.0 (was.going.front_is ∙ none)))
    (ap (λ j. g.D.Disk.disk_calls j.disk) (sym was.journal))
