use Rattle.std.proofs.Common.{◌-◌, ◌∙◌, ◌++◌, ◌∷◌, [], ℕ, List, get_or, set, sym, ap, ap₂, subst, arith}
use Rattle.site_core.specs.declared.kept.Kept.{Kept}
use Rattle.site_core.specs.declared.planned.Planned.{Planned}
use Rattle.site_core.specs.Plans.{IsNext, IsLast}
use Rattle.move_list.specs.Held.{room_after}
use Rattle.site_core.specs.Rooms.{IsKnown, HasRoomToMove}
use Rattle.site_core.specs.View.{View}
use Rattle.site_core.specs.Entries.{history_in}
use Rattle.site_core.proofs.Listing.{kept_more, few_more, few_kept}
use Rattle.site_core.proofs.Roomy.{room_spent, first_move}
use Rattle.site_core.proofs.Standing.{grown, last_of, told_is, history_grown}
use Rattle.site_core.proofs.site.Site.commit.Goals as goal

pub invariant_of-self : goal.invariant_of-self
invariant_of-self c =
    let site = c.self.inside.setup in
    let told = c.self.inside.memo.told in
    let kept = c.self.inside.kept.items in
    let content = c.self.inside.stores.content in
    let planned = c.args.planned in
    let next : IsNext site (history_in told kept) content planned = subst (λ (v : View). IsNext v.setup v.history v.content planned) (sym c.self.view_is) c.requires.next in
    let page = told_is told c.push.new.self.told planned c.split-kept.result.0 c.station.result c.split-kept.result.1 c.split-kept.ensures.kept c.station.ensures c.split-kept.ensures.deed c.push.ensures.told in
    let history = history_grown site told c.push.new.self.told kept c.push_reserved.new.self.items content c.self.inside.pool planned c.split-kept.result.0 c.self.invariant.stands next c.split-kept.ensures.kept c.push_reserved.ensures.items page in
    record {
      stands = grown site (history_in told kept) _ told c.push.new.self.told content c.apply.new.self.content c.self.inside.pool c.commit_draw-done.new.pool planned c.self.invariant.stands next
          (subst (λ (v : View). IsKnown v.room.gtins planned.draw) (sym c.self.view_is) c.requires.room.gtins.0) history page c.apply.ensures.content c.commit_draw-done.ensures.drawn c.commit_draw-done.ensures.gtins;
      moved = kept_more site (history_in told kept) _ content c.self.inside.moves.moves _ planned c.self.invariant.moved next history c.push-has_moved.ensures.moves;
      few = few_more site (history_in told kept) _ content planned next history;
    }

pub returns-clause-history : goal.returns-clause-history
returns-clause-history c =
    let site = c.self.inside.setup in
    let told = c.self.inside.memo.told in
    let kept = c.self.inside.kept.items in
    let content = c.self.inside.stores.content in
    let planned = c.args.planned in
    let next : IsNext site (history_in told kept) content planned = subst (λ (v : View). IsNext v.setup v.history v.content planned) (sym c.self.view_is) c.requires.next in
    let page = told_is told c.push.new.self.told planned c.split-kept.result.0 c.station.result c.split-kept.result.1 c.split-kept.ensures.kept c.station.ensures c.split-kept.ensures.deed c.push.ensures.told in
    history_grown site told c.push.new.self.told kept c.push_reserved.new.self.items content c.self.inside.pool planned c.split-kept.result.0 c.self.invariant.stands next c.split-kept.ensures.kept c.push_reserved.ensures.items page
    ∙ ap (λ (v : View). v.history ++ planned.entry ∷ []) c.self.view_is

pub returns-clause-room : goal.returns-clause-room
returns-clause-room c =
    let station = c.station.ensures ∙ ap (λ (k : Kept). k.station) c.split-kept.ensures.kept in
    let entries = ap (λ (v : View). v.room.entries) (sym c.self.view_is) in
    let len = c.push_reserved.ensures.len in
    let capacity = c.push_reserved.ensures.capacity in
    room_spent _ _ c.args.planned (omega (arith, entries, len, capacity))
    (c.push.ensures.room ∙ ap₂ (λ (ns : List ℕ) (s : ℕ). set ns s (get_or ns s 0 - 1)) (ap (λ (v : View). v.room.numbers) c.self.view_is) station)
    (ap (λ (v : View). v.room.stores) (sym c.self.view_is) ∙ c.apply.ensures.room)
    (c.commit_draw-done.ensures.room ∙ ap (λ (v : View). v.room.serials) c.self.view_is)
    (c.commit_draw-done.ensures.gtins ∙ ap (λ (v : View). v.room.gtins) c.self.view_is)
    (c.push-has_moved.ensures.room ∙ ap (λ (v : View). room_after v.room.moves c.args.planned.moved) c.self.view_is)

pub returns-clause-last : goal.returns-clause-last
returns-clause-last c =
    let site = c.self.inside.setup in
    let told = c.self.inside.memo.told in
    let kept = c.self.inside.kept.items in
    let content = c.self.inside.stores.content in
    let planned = c.args.planned in
    let next : IsNext site (history_in told kept) content planned = subst (λ (v : View). IsNext v.setup v.history v.content planned) (sym c.self.view_is) c.requires.next in
    let page = told_is told c.push.new.self.told planned c.split-kept.result.0 c.station.result c.split-kept.result.1 c.split-kept.ensures.kept c.station.ensures c.split-kept.ensures.deed c.push.ensures.told in
    let history = history_grown site told c.push.new.self.told kept c.push_reserved.new.self.items content c.self.inside.pool planned c.split-kept.result.0 c.self.invariant.stands next c.split-kept.ensures.kept c.push_reserved.ensures.items page in
    subst (λ (p : Planned). IsLast site (history_in c.push.new.self.told c.push_reserved.new.self.items) c.apply.new.self.content p) (sym c.of-whole.ensures)
    (last_of site (history_in told kept) _ content _ planned c.self.invariant.stands.world next history c.apply.ensures.content)

pub push-has_moved-requires-clause-few : goal.push-has_moved-requires-clause-few
push-has_moved-requires-clause-few c =
    let site = c.self.inside.setup in
    let history = history_in c.self.inside.memo.told c.self.inside.kept.items in
    let next : IsNext site history c.self.inside.stores.content c.args.planned = subst (λ (v : View). IsNext v.setup v.history v.content c.args.planned) (sym c.self.view_is) c.requires.next in
    let most = few_kept site history c.self.inside.moves.moves c.self.invariant.moved in
    let few = next.few in
    omega (arith, most, few)

pub push-has_moved-requires-clause-room : goal.push-has_moved-requires-clause-room
push-has_moved-requires-clause-room c =
    first_move c.self.inside.moves.room c.args.planned [] (subst (λ (v : View). HasRoomToMove v.room.moves (c.args.planned ∷ [])) (sym c.self.view_is) c.requires.room.moves)
