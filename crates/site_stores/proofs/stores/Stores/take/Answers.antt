use Rattle.std.proofs.Common.{sym, ap, ◌∙◌, subst}
use Rattle.pack_tree.specs.Packing.{Packed}
use Rattle.pack_tree.specs.Trees.{packed_of}
use Rattle.pack_tree.specs.Many.{MayTake, without_all}
use Rattle.pack_tree.proofs.ManyLaws.{take_keeps}
use Rattle.site_stores.specs.Holding.{Held, packed_in, with_packed}
use Rattle.site_stores.proofs.Together.{packed_same, packed_anew, one_packed, room_packed}
use Rattle.site_stores.proofs.stores.Stores.take.Goals as goal

pub take_all-requires : goal.take_all-requires
take_all-requires c =
    let same = packed_same c.self.inside.book c.self.inside.items c.self.inside.tree c.self.inside.row_room c.self.invariant in
    record { may = subst (λ (p : Packed). MayTake p c.args.gone.now) (sym (same ∙ ap (λ (h : Held). packed_in h.content) c.self.view_is)) c.requires.may }

pub invariant_of-self : goal.invariant_of-self
invariant_of-self c =
    one_packed c.self.inside.book c.self.inside.items c.self.inside.tree c.take_all.new.tree c.self.inside.row_room c.self.invariant c.take_all.ensures.units
    (ap (λ (p : Packed). p.items) c.take_all.ensures.packed ∙ (take_keeps (packed_of c.self.inside.tree) c.args.gone.now).0) c.take_all.ensures.rooms.0 c.take_all.ensures.rooms.1

pub returns-clause-content : goal.returns-clause-content
returns-clause-content c =
    let same = packed_same c.self.inside.book c.self.inside.items c.self.inside.tree c.self.inside.row_room c.self.invariant in
    packed_anew c.self.inside.book c.self.inside.items c.self.inside.tree c.take_all.new.tree _ (c.take_all.ensures.packed ∙ ap (λ (p : Packed). without_all p c.args.gone.now) same) c.take_all.ensures.units
    ∙ ap (λ (h : Held). with_packed h.content (without_all (packed_in h.content) c.args.gone.now)) c.self.view_is

pub returns-clause-room : goal.returns-clause-room
returns-clause-room c =
    room_packed c.self.inside.book c.self.inside.tree c.take_all.new.tree c.self.inside.row_room c.take_all.ensures.units c.take_all.ensures.rooms.1 ∙ ap (λ (h : Held). h.room) c.self.view_is
