use Rattle.std.proofs.Common.{◌<◌, length, sym, ap, subst, ◌∙◌, arith}
use Rattle.site_stores.specs.Changes.{drawn, MayDraw}
use Rattle.site_stores.specs.Holding.{Held}
use Rattle.site_stores.proofs.RowsDrawn.{one_drawn_more, room_drawn}
use Rattle.site_stores.proofs.stores.Stores.draw.Goals as goal

pub draw_all-requires-clause-may : goal.draw_all-requires-clause-may
draw_all-requires-clause-may c = subst (λ (h : Held). MayDraw c.args.batch c.args.gtin.now h.content.rows c.args.serials.now) (sym c.self.view_is) c.requires.may

pub draw_all-requires-clause-spare : goal.draw_all-requires-clause-spare
draw_all-requires-clause-spare c = let room = ap (λ (h : Held). h.room.rows) c.self.view_is in omega (arith, c.requires.room, room, c.self.invariant.reserved)

pub draw_all-requires-clause-counted : goal.draw_all-requires-clause-counted
draw_all-requires-clause-counted c = c.self.invariant.counted

pub draw_all-requires-clause-room : goal.draw_all-requires-clause-room
draw_all-requires-clause-room c = let room = ap (λ (h : Held). h.room.rows) c.self.view_is in omega (arith, c.requires.room, room, c.self.invariant.counted, c.self.invariant.roomy)

pub less_room-self-inside-requires : goal.less_room-self-inside-requires
less_room-self-inside-requires c = let room = ap (λ (h : Held). h.room.rows) c.self.view_is in omega (arith, c.requires.room, room)

pub invariant_of-self : goal.invariant_of-self
invariant_of-self c =
    one_drawn_more c.self.inside.book c.self.inside.items c.draw_all.new.items c.self.inside.tree c.draw_all.new.tree c.self.inside.row_room c.less_room-self-inside.result c.args.batch c.args.gtin.now c.args.serials.now c.self.invariant
    (subst (λ (h : Held). c.args.batch < length h.content.batches) (sym c.self.view_is) c.requires.there)
    c.draw_all.ensures.rows c.draw_all.ensures.spare c.draw_all.ensures.items c.draw_all.ensures.units c.draw_all.ensures.rooms.0 c.draw_all.ensures.rooms.1 c.less_room-self-inside.ensures

pub returns-clause-content : goal.returns-clause-content
returns-clause-content c =
    (λ z. record { batches = c.self.inside.book.batches; rows = c.draw_all.ensures.rows z; units = c.draw_all.ensures.units z; links = c.draw_all.ensures.pairs z; last = c.draw_all.ensures.last z; said = c.self.inside.book.declarations })
    ∙ ap (λ (h : Held). record h.content { rows = drawn c.args.batch c.args.gtin.now h.content.rows c.args.serials.now }) c.self.view_is

pub returns-clause-room : goal.returns-clause-room
returns-clause-room c =
    sym (ap (λ (h : Held). h.room) c.self.view_is)
    ∙ room_drawn c.self.inside.book c.self.inside.tree c.draw_all.new.tree c.self.inside.row_room c.less_room-self-inside.result (length c.args.serials.now) c.draw_all.ensures.units c.draw_all.ensures.rooms.1 c.less_room-self-inside.ensures
