use Rattle.std.proofs.Common.{◌-◌, ℕ, length, All, sym, ap, subst, ◌∙◌, arith}
use Rattle.pack_tree.specs.Packing.{IsThereIn}
use Rattle.site_stores.specs.Changes.{undrawn, WereDrawn, with_room}
use Rattle.site_stores.specs.Holding.{Held}
use Rattle.site_stores.proofs.RowsDrawn.{one_undrawn_less, room_drawn, drawn_long}
use Rattle.site_stores.proofs.stores.Stores.undraw.Goals as goal

pub undraw_all-requires-clause-done : goal.undraw_all-requires-clause-done
undraw_all-requires-clause-done c = subst (λ (h : Held). WereDrawn c.args.batch c.args.gtin.now h.content.rows c.args.serials.now) (sym c.self.view_is) c.requires.done

pub undraw_all-requires-clause-counted : goal.undraw_all-requires-clause-counted
undraw_all-requires-clause-counted c = c.self.invariant.counted

pub undraw_all-requires-clause-unpacked : goal.undraw_all-requires-clause-unpacked
undraw_all-requires-clause-unpacked c =
    subst (λ (n : ℕ). All (IsThereIn (n - length c.args.serials.now) (length c.self.inside.tree.units)) c.self.inside.tree.pairs) (sym c.self.invariant.counted)
    (subst (λ (h : Held). All (IsThereIn (length h.content.rows - length c.args.serials.now) (length h.content.units)) h.content.links) (sym c.self.view_is) c.requires.unpacked)

pub more_room-self-inside-requires : goal.more_room-self-inside-requires
more_room-self-inside-requires c =
    let long = drawn_long c.args.batch c.args.gtin.now c.self.inside.items.rows c.args.serials.now (subst (λ (h : Held). WereDrawn c.args.batch c.args.gtin.now h.content.rows c.args.serials.now) (sym c.self.view_is) c.requires.done) in
    omega (arith, long, c.self.invariant.few)

pub invariant_of-self : goal.invariant_of-self
invariant_of-self c =
    one_undrawn_less c.self.inside.book c.self.inside.items c.undraw_all.new.items c.self.inside.tree c.undraw_all.new.tree c.self.inside.row_room c.more_room-self-inside.result c.args.batch c.args.gtin.now c.args.serials.now c.self.invariant
    (subst (λ (h : Held). WereDrawn c.args.batch c.args.gtin.now h.content.rows c.args.serials.now) (sym c.self.view_is) c.requires.done)
    c.undraw_all.ensures.rows c.undraw_all.ensures.spare c.undraw_all.ensures.items c.undraw_all.ensures.units c.undraw_all.ensures.rooms.0 c.undraw_all.ensures.rooms.1 c.more_room-self-inside.ensures

pub returns-clause-content : goal.returns-clause-content
returns-clause-content c =
    (λ z. record { batches = c.self.inside.book.batches; rows = c.undraw_all.ensures.rows z; units = c.undraw_all.ensures.units z; links = c.undraw_all.ensures.pairs z; last = c.undraw_all.ensures.last z; said = c.self.inside.book.declarations })
    ∙ ap (λ (h : Held). record h.content { rows = undrawn h.content.rows c.args.serials.now }) c.self.view_is

pub returns-clause-room : goal.returns-clause-room
returns-clause-room c =
    room_drawn c.self.inside.book c.undraw_all.new.tree c.self.inside.tree c.more_room-self-inside.result c.self.inside.row_room (length c.args.serials.now) (sym c.undraw_all.ensures.units) (sym c.undraw_all.ensures.rooms.1) (sym c.more_room-self-inside.ensures)
    ∙ ap (λ (h : Held). with_room h.room (record { batches = 0; declarations = 0; rows = length c.args.serials.now; units = 0 })) c.self.view_is
