use Rattle.std.proofs.Common.{◌≡◌, ◌∙◌, ◌+◌, ◌++◌, ◌∷◌, [], List, length, ap, sym, subst, arith}
use Rattle.std.proofs.lemmas.List.{length-append}
use Rattle.deed_words.specs.declared.entry.Entry.{Entry}
use Rattle.deed_words.specs.Setups.{Setup}
use Rattle.batch_book.specs.Content.{Content}
use Rattle.site_stores.specs.Changes.{applied}
use Rattle.site_core.specs.Rooms.{HasRoomFor}
use Rattle.site_store.specs.Coming.{AreNext}
use Rattle.site_store.specs.Noting.{dones}
use Rattle.site_store.specs.Standing.{in_order, noted_in}
use Rattle.site_core.specs.declared.planned.Planned.{Planned}
use Rattle.site_store.proofs.Back.{order_pop, history_goes, notes_go}
use Rattle.site_store.proofs.undoing.put_in.Goals as goal

pub note_done-requires-clause-spare : goal.note_done-requires-clause-spare
note_done-requires-clause-spare c =
    let was = c.pending.invariant in
    let long = ap (λ (l : List Planned). length l) (order_pop c.pending.pending.items c.pop.new.self.items c.in-Some.planned c.in-Some.ensures.items) in
    omega (arith, was.spare, long)

pub note_done-requires-clause-few : goal.note_done-requires-clause-few
note_done-requires-clause-few c =
    let was = c.pending.invariant in
    let pop = order_pop c.pending.pending.items c.pop.new.self.items c.in-Some.planned c.in-Some.ensures.items in
    let long = ap (λ (l : List Planned). length l) pop in
    let few = was.few (λ none. absurd (cc)) in
    omega (arith, few, long, c.entries.ensures)

pub commit-committed-requires-clause-room : goal.commit-committed-requires-clause-room
commit-committed-requires-clause-room c =
    let was = c.pending.invariant in
    let pop = order_pop c.pending.pending.items c.pop.new.self.items c.in-Some.planned c.in-Some.ensures.items in
    c.the_first_has_room.ensures c.pending.site c.in-Some.planned (in_order c.pop.new.self.items) (subst (λ (l : List Planned). HasRoomFor c.pending.site l) pop was.room)

pub commit-committed-requires-clause-next : goal.commit-committed-requires-clause-next
commit-committed-requires-clause-next c =
    let was = c.pending.invariant in
    let pop = order_pop c.pending.pending.items c.pop.new.self.items c.in-Some.planned c.in-Some.ensures.items in
    (subst (λ (l : List Planned). AreNext c.pending.site.setup c.pending.site.history c.pending.site.content l) pop was.next).0

pub pending-preserved : goal.pending-preserved
pending-preserved c =
    let was = c.pending.invariant in
    let s = c.pending.site in
    let t = c.commit-committed.new.self in
    let items = c.pending.pending.items in
    let rest = c.pop.new.self.items in
    let p = c.in-Some.planned in
    let is = c.in-Some.ensures.items in
    let pop = order_pop items rest p is in
    let long = ap (λ (l : List Planned). length l) pop in
    let grown : length t.history ≡ length s.history + 1 = ap (λ (l : List Entry). length l) c.commit-committed.ensures.history ∙ length-append s.history (p.entry ∷ []) in
    let next : AreNext s.setup (s.history ++ p.entry ∷ []) (applied s.content p.change) (in_order rest) = (subst (λ (l : List Planned). AreNext s.setup s.history s.content l) pop was.next).1 in
    record {
      setup = c.commit-committed.ensures.setup ∙ was.setup;
      history = history_goes s.history t.history _ items rest p is c.commit-committed.ensures.history was.history;
      noted = notes_go c.args.worker _ _ _ s.history t.history items rest p c.entries.result c.entries.ensures is c.commit-committed.ensures.history
          (c.note_done.ensures.noted ∙ ap (λ (e : Entry). noted_in c.pending.log.items ++ dones c.args.worker c.entries.result (e ∷ [])) c.entry.ensures) was.noted;
      room = c.commit-committed.ensures.room (in_order rest) (subst (λ (l : List Planned). HasRoomFor s l) pop was.room);
      next = subst (λ (u : Setup). AreNext u t.history t.content (in_order rest)) (sym c.commit-committed.ensures.setup)
          (subst (λ (h : List Entry). AreNext s.setup h t.content (in_order rest)) (sym c.commit-committed.ensures.history) (subst (λ (d : Content). AreNext s.setup (s.history ++ p.entry ∷ []) d (in_order rest)) (sym c.commit-committed.ensures.content) next));
      spare = omega (arith, was.spare, long, c.note_done.ensures.len, c.note_done.ensures.capacity);
      few = λ some. let few = was.few (λ none. absurd (cc)) in omega (arith, few, long, grown);
    }
