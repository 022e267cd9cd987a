use Rattle.std.proofs.lemmas.List.{length-append}
use Rattle.std.proofs.Common.{◌∙◌, ◌++◌, ◌∷◌, [], List, length, ap, refl, sym, subst, arith, append-nil}
use Rattle.site_core.specs.Rooms.{HasRoomFor}
use Rattle.site_store.specs.Standing.{in_order}
use Rattle.site_core.specs.declared.planned.Planned.{Planned}
use Rattle.site_store.specs.Coming.{AreNext}
use Rattle.site_store.proofs.Back.{no_room, last_of, last_rest, next_stays, before_is, all_stay, room_stays}
use Rattle.site_store.proofs.undoing.take_back.Goals as goal

pub committed-init : goal.committed-init
committed-init c =
    let none = ap in_order c.requires.none in
    record {
      setup = refl;
      last = c.requires.last;
      history = λ before is. is;
      all = ap (λ (l : List Planned). c.args.committed.items ++ l) none ∙ append-nil c.args.committed.items;
      room = subst (λ (l : List Planned). HasRoomFor c.args.site.now l) (sym none) (no_room c.args.site.now);
      next = subst (λ (l : List Planned). AreNext c.args.site.now.setup c.args.site.now.history c.args.site.now.content l) (sym none) tt;
      spare = grind (arith, c.requires.spare);
    }

pub undo-requires : goal.undo-requires
undo-requires c = record { last = last_of c.committed.site.setup c.committed.site.history c.committed.site.content c.committed.committed.items c.pop.new.self.items c.in-Some.last c.committed.invariant.last c.in-Some.ensures.items }

pub committed-preserved : goal.committed-preserved
committed-preserved c =
    let was = c.committed.invariant in
    let s = c.committed.site in
    let items = c.committed.committed.items in
    let rest = c.pop.new.self.items in
    let p = c.in-Some.last in
    let q = c.undo.result in
    let is = c.in-Some.ensures.items in
    let long = ap (λ (l : List Planned). length l) is in
    let one = length-append rest (p ∷ []) in
    record {
      setup = c.undo.ensures.setup ∙ was.setup;
      last = last_rest s.setup c.undo.new.self.setup s.history c.undo.new.self.history s.content c.undo.new.self.content items rest p q was.last c.undo.ensures.setup c.undo.ensures.planned is c.undo.ensures.history c.undo.ensures.content;
      history = λ before start. before_is s.history c.undo.new.self.history before items rest p q c.undo.ensures.planned is c.undo.ensures.history (was.history before start);
      all = all_stay items rest c.committed.pending.items c.push_reserved.new.self.items c.args.committed.items p q c.undo.ensures.planned is c.push_reserved.ensures.items was.all;
      room = room_stays c.undo.new.self c.committed.pending.items c.push_reserved.new.self.items q c.push_reserved.ensures.items (c.undo.ensures.room (in_order c.committed.pending.items) was.room);
      next = next_stays s.setup c.undo.new.self.setup s.history c.undo.new.self.history s.content c.undo.new.self.content items rest c.committed.pending.items c.push_reserved.new.self.items p q was.last c.undo.ensures.setup c.undo.ensures.planned is c.undo.ensures.history c.undo.ensures.content
          c.undo.ensures.next c.push_reserved.ensures.items was.next;
      spare = omega (arith, was.spare, c.push_reserved.ensures.len, c.push_reserved.ensures.capacity, long, one);
    }
