use Rattle.std.proofs.Common.{sym, ap, ◌∙◌, subst}
use Rattle.pack_tree.specs.Packing.{Packed}
use Rattle.pack_tree.specs.Trees.{packed_of}
use Rattle.pack_tree.specs.Many.{WereTaken, with_all_back}
use Rattle.pack_tree.proofs.ManyLaws.{untake_keeps}
use Rattle.site_stores.specs.Holding.{Held, packed_in, with_packed}
use Rattle.site_stores.proofs.Together.{packed_same, packed_anew, one_packed, room_packed}
use Rattle.site_stores.proofs.stores.Stores.untake.Goals as goal

pub untake_all-requires : goal.untake_all-requires
untake_all-requires c =
    let same = packed_same c.self.inside.book c.self.inside.items c.self.inside.tree c.self.inside.row_room c.self.invariant in
    record { taken = subst (λ (p : Packed). WereTaken p c.args.gone.now) (sym (same ∙ ap (λ (h : Held). packed_in h.content) c.self.view_is)) c.requires.taken }

pub invariant_of-self : goal.invariant_of-self
invariant_of-self c =
    one_packed c.self.inside.book c.self.inside.items c.self.inside.tree c.untake_all.new.tree c.self.inside.row_room c.self.invariant c.untake_all.ensures.units
    (ap (λ (p : Packed). p.items) c.untake_all.ensures.packed ∙ (untake_keeps (packed_of c.self.inside.tree) c.args.gone.now).0) c.untake_all.ensures.rooms.0 c.untake_all.ensures.rooms.1

pub returns-clause-content : goal.returns-clause-content
returns-clause-content c =
    let same = packed_same c.self.inside.book c.self.inside.items c.self.inside.tree c.self.inside.row_room c.self.invariant in
    packed_anew c.self.inside.book c.self.inside.items c.self.inside.tree c.untake_all.new.tree _ (c.untake_all.ensures.packed ∙ ap (λ (p : Packed). with_all_back p c.args.gone.now) same) c.untake_all.ensures.units
    ∙ ap (λ (h : Held). with_packed h.content (with_all_back (packed_in h.content) c.args.gone.now)) c.self.view_is

pub returns-clause-room : goal.returns-clause-room
returns-clause-room c =
    room_packed c.self.inside.book c.self.inside.tree c.untake_all.new.tree c.self.inside.row_room c.untake_all.ensures.units c.untake_all.ensures.rooms.1 ∙ ap (λ (h : Held). h.room) c.self.view_is
