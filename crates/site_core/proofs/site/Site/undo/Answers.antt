use Rattle.std.proofs.Common.{◌≡◌, ◌<◌, ◌+◌, ◌∙◌, ◌++◌, ◌∷◌, [], ℕ, List, Option, length, get_or, set, sym, ap, ap₂, subst, arith}
use Rattle.std.specs.Prelude.{IfSome, is_some}
use Rattle.deed_words.specs.Names.{Text}
use Rattle.deed_words.specs.declared.deed.Deed.{Deed}
use Rattle.deed_words.specs.declared.entry.Entry.{Entry}
use Rattle.deed_words.specs.History.{world_of}
use Rattle.serial_pool.specs.Held.{PlanView, IsLastDrawn}
use Rattle.request_memo.specs.declared.page.Told.{Told}
use Rattle.request_memo.specs.Memos.{told_by, with_told}
use Rattle.site_stores.specs.Changes.{WasApplied, taken_back, with_room, room_for}
use Rattle.site_deeds.specs.Decisions.{serials_drawn}
use Rattle.site_deeds.specs.Draws.{drawn_in, drawn_by_plan}
use Rattle.site_core.specs.declared.kept.Kept.{Kept}
use Rattle.site_core.specs.declared.planned.Planned.{Planned}
use Rattle.site_core.specs.Entries.{history_in}
use Rattle.site_core.specs.Plans.{IsNext, IsLast}
use Rattle.site_core.specs.Rooms.{IsKnown}
use Rattle.site_core.specs.View.{View}
use Rattle.site_core.proofs.Drawing.{last_drawn}
use Rattle.site_core.proofs.Entering.{kept_of, kept_some}
use Rattle.move_list.specs.Held.{room_before}
use Rattle.site_core.proofs.Listing.{some_kept, kept_less, kept_fewer, few_fewer}
use Rattle.site_core.proofs.Roomy.{room_back}
use Rattle.site_core.proofs.Standing.{drawn_split, known_gtin, shrunk, next_again, history_shrunk, last_kept, last_told, last_page}
use Rattle.site_core.proofs.site.Site.undo.Goals as goal

pub take_back-requires : goal.take_back-requires
take_back-requires c =
    let site = c.self.inside.setup in
    let told = c.self.inside.memo.told in
    let all = c.self.inside.kept.items in
    let content = c.self.inside.stores.content in
    let pool = c.self.inside.pool in
    let committed = c.args.committed in
    let last : IsLast site (history_in told all) content committed = subst (λ (v : View). IsLast v.setup v.history v.content committed) (sym c.self.view_is) c.requires.last in
    let change_is : c.committed.inside.change ≡ committed.change = c.committed.invariant.1 ∙ ap (λ (p : Planned). p.change) c.committed.view_is in
    subst (WasApplied content) (sym change_is) (record { before = last.before; may = last.next.may; is = last.content_is })

pub take_back_draw-draw-requires-clause-last : goal.take_back_draw-draw-requires-clause-last
take_back_draw-draw-requires-clause-last c =
    let site = c.self.inside.setup in
    let told = c.self.inside.memo.told in
    let all = c.self.inside.kept.items in
    let content = c.self.inside.stores.content in
    let pool = c.self.inside.pool in
    let committed = c.args.committed in
    let last : IsLast site (history_in told all) content committed = subst (λ (v : View). IsLast v.setup v.history v.content committed) (sym c.self.view_is) c.requires.last in
    let draw_is : c.committed.inside.draw ≡ committed.draw = c.committed.invariant.2 ∙ ap (λ (p : Planned). p.draw) c.committed.view_is in
    subst (λ (d : Option PlanView). IfSome d (λ done. IsLastDrawn pool.drawn done)) (sym draw_is)
    (last_drawn pool.drawn (drawn_in (world_of site last.front)) committed.draw (drawn_split site (history_in told all) told content pool committed c.self.invariant.stands last))

pub take_back_draw-draw-requires-clause-known : goal.take_back_draw-draw-requires-clause-known
take_back_draw-draw-requires-clause-known c =
    let site = c.self.inside.setup in
    let told = c.self.inside.memo.told in
    let all = c.self.inside.kept.items in
    let content = c.self.inside.stores.content in
    let pool = c.self.inside.pool in
    let committed = c.args.committed in
    let last : IsLast site (history_in told all) content committed = subst (λ (v : View). IsLast v.setup v.history v.content committed) (sym c.self.view_is) c.requires.last in
    let draw_is : c.committed.inside.draw ≡ committed.draw = c.committed.invariant.2 ∙ ap (λ (p : Planned). p.draw) c.committed.view_is in
    subst (λ (d : Option PlanView). IsKnown pool.gtins d) (sym draw_is) (known_gtin site (history_in told all) told content pool committed c.self.invariant.stands last)

pub take_last-kept-requires : goal.take_last-kept-requires
take_last-kept-requires c =
    let site = c.self.inside.setup in
    let told = c.self.inside.memo.told in
    let all = c.self.inside.kept.items in
    let content = c.self.inside.stores.content in
    let pool = c.self.inside.pool in
    let committed = c.args.committed in
    let last : IsLast site (history_in told all) content committed = subst (λ (v : View). IsLast v.setup v.history v.content committed) (sym c.self.view_is) c.requires.last in
    let some = kept_some told all last.front committed.entry last.history_is in
    let long = c.self.inside.kept.ok in
    omega (arith, some, long)

pub unpush-deed-requires-clause-station : goal.unpush-deed-requires-clause-station
unpush-deed-requires-clause-station c =
    let site = c.self.inside.setup in
    let told = c.self.inside.memo.told in
    let all = c.self.inside.kept.items in
    let content = c.self.inside.stores.content in
    let pool = c.self.inside.pool in
    let committed = c.args.committed in
    let last : IsLast site (history_in told all) content committed = subst (λ (v : View). IsLast v.setup v.history v.content committed) (sym c.self.view_is) c.requires.last in
    let kept = c.take_last-kept.new.self.items in
    let k = c.take_last-kept.result in
    let split : all ≡ kept ++ k ∷ [] = c.take_last-kept.ensures.items in
    let kept_is : k ≡ kept_of committed.entry = last_kept site told all kept content committed k last split in
    let station_is : c.station.result ≡ committed.entry.station = c.station.ensures ∙ ap (λ (x : Kept). x.station) kept_is in
    let in_site = last.next.follows.station in
    let pages = c.self.invariant.stands.stations in
    omega (arith, station_is, in_site, pages)

pub unpush-deed-requires-clause-some : goal.unpush-deed-requires-clause-some
unpush-deed-requires-clause-some c =
    let site = c.self.inside.setup in
    let told = c.self.inside.memo.told in
    let all = c.self.inside.kept.items in
    let content = c.self.inside.stores.content in
    let pool = c.self.inside.pool in
    let committed = c.args.committed in
    let last : IsLast site (history_in told all) content committed = subst (λ (v : View). IsLast v.setup v.history v.content committed) (sym c.self.view_is) c.requires.last in
    let kept = c.take_last-kept.new.self.items in
    let k = c.take_last-kept.result in
    let split : all ≡ kept ++ k ∷ [] = c.take_last-kept.ensures.items in
    let kept_is : k ≡ kept_of committed.entry = last_kept site told all kept content committed k last split in
    let station_is : c.station.result ≡ committed.entry.station = c.station.ensures ∙ ap (λ (x : Kept). x.station) kept_is in
    subst (λ (s : ℕ). 0 < length (told_by told s)) (sym station_is) (last_page site told (history_in told all) content pool committed c.self.invariant.stands last)

pub invariant_of-self : goal.invariant_of-self
invariant_of-self c =
    let site = c.self.inside.setup in
    let told = c.self.inside.memo.told in
    let all = c.self.inside.kept.items in
    let content = c.self.inside.stores.content in
    let pool = c.self.inside.pool in
    let committed = c.args.committed in
    let last : IsLast site (history_in told all) content committed = subst (λ (v : View). IsLast v.setup v.history v.content committed) (sym c.self.view_is) c.requires.last in
    let draw_is : c.committed.inside.draw ≡ committed.draw = c.committed.invariant.2 ∙ ap (λ (p : Planned). p.draw) c.committed.view_is in
    let change_is : c.committed.inside.change ≡ committed.change = c.committed.invariant.1 ∙ ap (λ (p : Planned). p.change) c.committed.view_is in
    let kept = c.take_last-kept.new.self.items in
    let k = c.take_last-kept.result in
    let split : all ≡ kept ++ k ∷ [] = c.take_last-kept.ensures.items in
    let kept_is : k ≡ kept_of committed.entry = last_kept site told all kept content committed k last split in
    let station_is : c.station.result ≡ committed.entry.station = c.station.ensures ∙ ap (λ (x : Kept). x.station) kept_is in
    let new_told = c.unpush-deed.new.self.told in
    let t : Told = record { deed = c.unpush-deed.result.0; reply = c.unpush-deed.result.1 } in
    let page : told ≡ with_told new_told committed.entry.station t = c.unpush-deed.ensures.told ∙ ap (λ (s : ℕ). with_told new_told s t) station_is in
    let front_is : history_in new_told kept ≡ last.front = history_shrunk site told new_told all kept content pool committed k t c.self.invariant.stands last split page in
    let has_is : c.committed.inside.has_moved ≡ is_some committed.moved = c.committed.invariant.3 ∙ ap (λ (p : Planned). is_some p.moved) c.committed.view_is in
    record {
      stands = shrunk site (history_in told all) (history_in new_told kept) told new_told content c.take_back.new.self.content pool c.take_back_draw-draw.new.pool committed t c.self.invariant.stands last front_is page
          (c.take_back.ensures.content ∙ ap (taken_back content) change_is)
          (c.take_back_draw-draw.ensures.drawn ∙ ap (λ (d : Option PlanView). c.take_back_draw-draw.new.pool.drawn ++ drawn_by_plan d) draw_is) c.take_back_draw-draw.ensures.gtins;
      moved = kept_fewer site (history_in told all) (history_in new_told kept) content c.self.inside.moves.moves c.take_back-moved.new.self.moves committed c.committed.inside.has_moved c.take_back-moved.result c.self.invariant.moved last has_is
          c.take_back-moved.ensures.some c.take_back-moved.ensures.moves front_is;
      few = few_fewer site (history_in told all) (history_in new_told kept) content committed c.self.invariant.few last front_is;
    }

pub returns-clause-planned : goal.returns-clause-planned
returns-clause-planned c =
    let site = c.self.inside.setup in
    let told = c.self.inside.memo.told in
    let all = c.self.inside.kept.items in
    let content = c.self.inside.stores.content in
    let pool = c.self.inside.pool in
    let committed = c.args.committed in
    let last : IsLast site (history_in told all) content committed = subst (λ (v : View). IsLast v.setup v.history v.content committed) (sym c.self.view_is) c.requires.last in
    let draw_is : c.committed.inside.draw ≡ committed.draw = c.committed.invariant.2 ∙ ap (λ (p : Planned). p.draw) c.committed.view_is in
    let change_is : c.committed.inside.change ≡ committed.change = c.committed.invariant.1 ∙ ap (λ (p : Planned). p.change) c.committed.view_is in
    let kept = c.take_last-kept.new.self.items in
    let k = c.take_last-kept.result in
    let split : all ≡ kept ++ k ∷ [] = c.take_last-kept.ensures.items in
    let kept_is : k ≡ kept_of committed.entry = last_kept site told all kept content committed k last split in
    let station_is : c.station.result ≡ committed.entry.station = c.station.ensures ∙ ap (λ (x : Kept). x.station) kept_is in
    let new_told = c.unpush-deed.new.self.told in
    let t : Told = record { deed = c.unpush-deed.result.0; reply = c.unpush-deed.result.1 } in
    let page : told ≡ with_told new_told committed.entry.station t = c.unpush-deed.ensures.told ∙ ap (λ (s : ℕ). with_told new_told s t) station_is in
    let front_is : history_in new_told kept ≡ last.front = history_shrunk site told new_told all kept content pool committed k t c.self.invariant.stands last split page in
    let t_is : t ≡ record { deed = committed.entry.deed; reply = committed.reply } = last_told site told new_told (history_in told all) content pool committed t c.self.invariant.stands last page in
    let drawn_is : c.committed.inside.drawn ≡ committed.entry.drawn = c.committed.invariant.0 ∙ ap (λ (p : Planned). p.entry.drawn) c.committed.view_is in
    let entry_is : c.entry.result ≡ committed.entry =
    c.entry.ensures
    ∙ ap (λ (x : Kept). record { station = x.station; number = x.number; worker = x.worker; stamp = x.stamp; operator = x.operator; deed = c.unpush-deed.result.0; drawn = c.committed.inside.drawn }) kept_is
    ∙ ap (λ (d : Deed). record { station = committed.entry.station; number = committed.entry.number; worker = committed.entry.worker; stamp = committed.entry.stamp; operator = committed.entry.operator; deed = d; drawn = c.committed.inside.drawn }) (ap (λ (x : Told). x.deed) t_is)
    ∙ ap (λ (s : List Text). record { station = committed.entry.station; number = committed.entry.number; worker = committed.entry.worker; stamp = committed.entry.stamp; operator = committed.entry.operator; deed = committed.entry.deed; drawn = s }) drawn_is in
    let reply_is : c.unpush-deed.result.1 ≡ committed.reply = ap (λ (x : Told). x.reply) t_is in
    let plan_is : c.take_back_draw-draw.result ≡ committed.draw = c.take_back_draw-draw.ensures.plan ∙ draw_is in
    let has_is : c.committed.inside.has_moved ≡ is_some committed.moved = c.committed.invariant.3 ∙ ap (λ (p : Planned). is_some p.moved) c.committed.view_is in
    let moved_is : c.take_back-moved.result ≡ committed.moved =
    (kept_less site (history_in told all) content c.self.inside.moves.moves c.take_back-moved.new.self.moves committed c.committed.inside.has_moved c.take_back-moved.result c.self.invariant.moved last has_is c.take_back-moved.ensures.some c.take_back-moved.ensures.moves).1 in
    let planned_is : record { entry = c.entry.result; reply = c.unpush-deed.result.1; change = c.committed.inside.change; draw = c.take_back_draw-draw.result; moved = c.take_back-moved.result } ≡ committed =
    λ z. record { entry = entry_is z; reply = reply_is z; change = change_is z; draw = plan_is z; moved = moved_is z } in
    planned_is

pub returns-clause-history : goal.returns-clause-history
returns-clause-history c =
    let site = c.self.inside.setup in
    let told = c.self.inside.memo.told in
    let all = c.self.inside.kept.items in
    let content = c.self.inside.stores.content in
    let pool = c.self.inside.pool in
    let committed = c.args.committed in
    let last : IsLast site (history_in told all) content committed = subst (λ (v : View). IsLast v.setup v.history v.content committed) (sym c.self.view_is) c.requires.last in
    let kept = c.take_last-kept.new.self.items in
    let k = c.take_last-kept.result in
    let split : all ≡ kept ++ k ∷ [] = c.take_last-kept.ensures.items in
    let kept_is : k ≡ kept_of committed.entry = last_kept site told all kept content committed k last split in
    let station_is : c.station.result ≡ committed.entry.station = c.station.ensures ∙ ap (λ (x : Kept). x.station) kept_is in
    let new_told = c.unpush-deed.new.self.told in
    let t : Told = record { deed = c.unpush-deed.result.0; reply = c.unpush-deed.result.1 } in
    let page : told ≡ with_told new_told committed.entry.station t = c.unpush-deed.ensures.told ∙ ap (λ (s : ℕ). with_told new_told s t) station_is in
    let front_is : history_in new_told kept ≡ last.front = history_shrunk site told new_told all kept content pool committed k t c.self.invariant.stands last split page in
    let t_is : t ≡ record { deed = committed.entry.deed; reply = committed.reply } = last_told site told new_told (history_in told all) content pool committed t c.self.invariant.stands last page in
    let drawn_is : c.committed.inside.drawn ≡ committed.entry.drawn = c.committed.invariant.0 ∙ ap (λ (p : Planned). p.entry.drawn) c.committed.view_is in
    let entry_is : c.entry.result ≡ committed.entry =
    c.entry.ensures
    ∙ ap (λ (x : Kept). record { station = x.station; number = x.number; worker = x.worker; stamp = x.stamp; operator = x.operator; deed = c.unpush-deed.result.0; drawn = c.committed.inside.drawn }) kept_is
    ∙ ap (λ (d : Deed). record { station = committed.entry.station; number = committed.entry.number; worker = committed.entry.worker; stamp = committed.entry.stamp; operator = committed.entry.operator; deed = d; drawn = c.committed.inside.drawn }) (ap (λ (x : Told). x.deed) t_is)
    ∙ ap (λ (s : List Text). record { station = committed.entry.station; number = committed.entry.number; worker = committed.entry.worker; stamp = committed.entry.stamp; operator = committed.entry.operator; deed = committed.entry.deed; drawn = s }) drawn_is in
    ap (λ (v : View). v.history) (sym c.self.view_is) ∙ last.history_is ∙ ap₂ (λ (h : List Entry) (e : Entry). h ++ e ∷ []) (sym front_is) (sym entry_is)

pub returns-clause-content : goal.returns-clause-content
returns-clause-content c =
    c.take_back.ensures.content ∙ ap (λ (v : View). taken_back v.content c.committed.inside.change) c.self.view_is

pub returns-clause-room : goal.returns-clause-room
returns-clause-room c =
    let site = c.self.inside.setup in
    let told = c.self.inside.memo.told in
    let all = c.self.inside.kept.items in
    let content = c.self.inside.stores.content in
    let pool = c.self.inside.pool in
    let committed = c.args.committed in
    let last : IsLast site (history_in told all) content committed = subst (λ (v : View). IsLast v.setup v.history v.content committed) (sym c.self.view_is) c.requires.last in
    let draw_is : c.committed.inside.draw ≡ committed.draw = c.committed.invariant.2 ∙ ap (λ (p : Planned). p.draw) c.committed.view_is in
    let change_is : c.committed.inside.change ≡ committed.change = c.committed.invariant.1 ∙ ap (λ (p : Planned). p.change) c.committed.view_is in
    let kept = c.take_last-kept.new.self.items in
    let k = c.take_last-kept.result in
    let split : all ≡ kept ++ k ∷ [] = c.take_last-kept.ensures.items in
    let kept_is : k ≡ kept_of committed.entry = last_kept site told all kept content committed k last split in
    let station_is : c.station.result ≡ committed.entry.station = c.station.ensures ∙ ap (λ (x : Kept). x.station) kept_is in
    let new_told = c.unpush-deed.new.self.told in
    let t : Told = record { deed = c.unpush-deed.result.0; reply = c.unpush-deed.result.1 } in
    let page : told ≡ with_told new_told committed.entry.station t = c.unpush-deed.ensures.told ∙ ap (λ (s : ℕ). with_told new_told s t) station_is in
    let front_is : history_in new_told kept ≡ last.front = history_shrunk site told new_told all kept content pool committed k t c.self.invariant.stands last split page in
    let t_is : t ≡ record { deed = committed.entry.deed; reply = committed.reply } = last_told site told new_told (history_in told all) content pool committed t c.self.invariant.stands last page in
    let drawn_is : c.committed.inside.drawn ≡ committed.entry.drawn = c.committed.invariant.0 ∙ ap (λ (p : Planned). p.entry.drawn) c.committed.view_is in
    let entry_is : c.entry.result ≡ committed.entry =
    c.entry.ensures
    ∙ ap (λ (x : Kept). record { station = x.station; number = x.number; worker = x.worker; stamp = x.stamp; operator = x.operator; deed = c.unpush-deed.result.0; drawn = c.committed.inside.drawn }) kept_is
    ∙ ap (λ (d : Deed). record { station = committed.entry.station; number = committed.entry.number; worker = committed.entry.worker; stamp = committed.entry.stamp; operator = committed.entry.operator; deed = d; drawn = c.committed.inside.drawn }) (ap (λ (x : Told). x.deed) t_is)
    ∙ ap (λ (s : List Text). record { station = committed.entry.station; number = committed.entry.number; worker = committed.entry.worker; stamp = committed.entry.stamp; operator = committed.entry.operator; deed = committed.entry.deed; drawn = s }) drawn_is in
    let entries = ap (λ (v : View). v.room.entries) (sym c.self.view_is) in
    let len = c.take_last-kept.ensures.len in
    let capacity = c.take_last-kept.ensures.capacity in
    let long = c.self.inside.kept.ok in
    let some = kept_some told all last.front committed.entry last.history_is in
    let numbers = ap (λ (v : View). length v.room.numbers) (sym c.self.view_is) in
    let pages = c.tell_pages.ensures in
    let in_site = last.next.follows.station in
    let stations = c.self.invariant.stands.stations in
    let at = ap (λ (e : Entry). e.station) entry_is in
    room_back _ _ (record { entry = c.entry.result; reply = c.unpush-deed.result.1; change = c.committed.inside.change; draw = c.take_back_draw-draw.result; moved = c.take_back-moved.result })
    (omega (arith, entries, len, capacity, long, some))
    (omega (arith, numbers, pages, in_site, stations, at))
    (c.unpush-deed.ensures.room ∙ ap₂ (λ (ns : List ℕ) (s : ℕ). set ns s (get_or ns s 0 + 1)) (ap (λ (v : View). v.room.numbers) c.self.view_is) (station_is ∙ sym at))
    (c.take_back.ensures.room ∙ ap (λ (v : View). with_room v.room.stores (room_for c.committed.inside.change)) c.self.view_is)
    (c.take_back_draw-draw.ensures.room ∙ ap₂ (λ (n : ℕ) (d : Option PlanView). n + length (serials_drawn d)) (ap (λ (v : View). v.room.serials) c.self.view_is) (sym c.take_back_draw-draw.ensures.plan))
    (c.take_back_draw-draw.ensures.gtins ∙ ap (λ (v : View). v.room.gtins) c.self.view_is)
    (subst (λ (v : View). IsKnown v.room.gtins c.take_back_draw-draw.result) c.self.view_is (subst (λ (d : Option PlanView). IsKnown pool.gtins d) (sym (c.take_back_draw-draw.ensures.plan ∙ draw_is)) (known_gtin site (history_in told all) told content pool committed c.self.invariant.stands last)))
    (c.take_back-moved.ensures.room ∙ ap (λ (v : View). room_before v.room.moves c.take_back-moved.result) c.self.view_is)
    (subst (λ (v : View). IfSome c.take_back-moved.result (λ moved. moved.batch < length v.room.moves.own)) c.self.view_is c.take_back-moved.ensures.within)

pub returns-clause-next : goal.returns-clause-next
returns-clause-next c =
    let site = c.self.inside.setup in
    let told = c.self.inside.memo.told in
    let all = c.self.inside.kept.items in
    let content = c.self.inside.stores.content in
    let pool = c.self.inside.pool in
    let committed = c.args.committed in
    let last : IsLast site (history_in told all) content committed = subst (λ (v : View). IsLast v.setup v.history v.content committed) (sym c.self.view_is) c.requires.last in
    let draw_is : c.committed.inside.draw ≡ committed.draw = c.committed.invariant.2 ∙ ap (λ (p : Planned). p.draw) c.committed.view_is in
    let change_is : c.committed.inside.change ≡ committed.change = c.committed.invariant.1 ∙ ap (λ (p : Planned). p.change) c.committed.view_is in
    let kept = c.take_last-kept.new.self.items in
    let k = c.take_last-kept.result in
    let split : all ≡ kept ++ k ∷ [] = c.take_last-kept.ensures.items in
    let kept_is : k ≡ kept_of committed.entry = last_kept site told all kept content committed k last split in
    let station_is : c.station.result ≡ committed.entry.station = c.station.ensures ∙ ap (λ (x : Kept). x.station) kept_is in
    let new_told = c.unpush-deed.new.self.told in
    let t : Told = record { deed = c.unpush-deed.result.0; reply = c.unpush-deed.result.1 } in
    let page : told ≡ with_told new_told committed.entry.station t = c.unpush-deed.ensures.told ∙ ap (λ (s : ℕ). with_told new_told s t) station_is in
    let front_is : history_in new_told kept ≡ last.front = history_shrunk site told new_told all kept content pool committed k t c.self.invariant.stands last split page in
    let t_is : t ≡ record { deed = committed.entry.deed; reply = committed.reply } = last_told site told new_told (history_in told all) content pool committed t c.self.invariant.stands last page in
    let drawn_is : c.committed.inside.drawn ≡ committed.entry.drawn = c.committed.invariant.0 ∙ ap (λ (p : Planned). p.entry.drawn) c.committed.view_is in
    let entry_is : c.entry.result ≡ committed.entry =
    c.entry.ensures
    ∙ ap (λ (x : Kept). record { station = x.station; number = x.number; worker = x.worker; stamp = x.stamp; operator = x.operator; deed = c.unpush-deed.result.0; drawn = c.committed.inside.drawn }) kept_is
    ∙ ap (λ (d : Deed). record { station = committed.entry.station; number = committed.entry.number; worker = committed.entry.worker; stamp = committed.entry.stamp; operator = committed.entry.operator; deed = d; drawn = c.committed.inside.drawn }) (ap (λ (x : Told). x.deed) t_is)
    ∙ ap (λ (s : List Text). record { station = committed.entry.station; number = committed.entry.number; worker = committed.entry.worker; stamp = committed.entry.stamp; operator = committed.entry.operator; deed = committed.entry.deed; drawn = s }) drawn_is in
    let reply_is : c.unpush-deed.result.1 ≡ committed.reply = ap (λ (x : Told). x.reply) t_is in
    let plan_is : c.take_back_draw-draw.result ≡ committed.draw = c.take_back_draw-draw.ensures.plan ∙ draw_is in
    let has_is : c.committed.inside.has_moved ≡ is_some committed.moved = c.committed.invariant.3 ∙ ap (λ (p : Planned). is_some p.moved) c.committed.view_is in
    let moved_is : c.take_back-moved.result ≡ committed.moved =
    (kept_less site (history_in told all) content c.self.inside.moves.moves c.take_back-moved.new.self.moves committed c.committed.inside.has_moved c.take_back-moved.result c.self.invariant.moved last has_is c.take_back-moved.ensures.some c.take_back-moved.ensures.moves).1 in
    let planned_is : record { entry = c.entry.result; reply = c.unpush-deed.result.1; change = c.committed.inside.change; draw = c.take_back_draw-draw.result; moved = c.take_back-moved.result } ≡ committed =
    λ z. record { entry = entry_is z; reply = reply_is z; change = change_is z; draw = plan_is z; moved = moved_is z } in
    subst (λ (p : Planned). IsNext site (history_in new_told kept) c.take_back.new.self.content p) (sym planned_is)
    (next_again site (history_in told all) (history_in new_told kept) content c.take_back.new.self.content committed last front_is (c.take_back.ensures.content ∙ ap (taken_back content) change_is))

pub take_back-moved-requires : goal.take_back-moved-requires
take_back-moved-requires c e =
    let site = c.self.inside.setup in
    let told = c.self.inside.memo.told in
    let all = c.self.inside.kept.items in
    let content = c.self.inside.stores.content in
    let committed = c.args.committed in
    let last : IsLast site (history_in told all) content committed = subst (λ (v : View). IsLast v.setup v.history v.content committed) (sym c.self.view_is) c.requires.last in
    let has_is : c.committed.inside.has_moved ≡ is_some committed.moved = c.committed.invariant.3 ∙ ap (λ (p : Planned). is_some p.moved) c.committed.view_is in
    some_kept site (history_in told all) content c.self.inside.moves.moves committed c.committed.inside.has_moved c.self.invariant.moved last has_is e
