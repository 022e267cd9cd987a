use Rattle.std.proofs.Common.{sym, ap, ◌∙◌, subst}
use Rattle.pack_tree.specs.Packing.{Packed}
use Rattle.pack_tree.specs.Trees.{packed_of}
use Rattle.pack_tree.specs.Many.{WerePut, but_all_put}
use Rattle.pack_tree.proofs.ManyLaws.{unput_keeps}
use Rattle.site_stores.specs.Holding.{Held, packed_in, with_packed}
use Rattle.site_stores.proofs.Together.{packed_same, packed_anew, one_packed, room_packed}
use Rattle.site_stores.proofs.stores.Stores.unput.Goals as goal

pub unput_all-requires : goal.unput_all-requires
unput_all-requires c =
    let same = packed_same c.self.inside.book c.self.inside.items c.self.inside.tree c.self.inside.row_room c.self.invariant in
    record { put = subst (λ (p : Packed). WerePut p c.args.unit c.args.nodes.now) (sym (same ∙ ap (λ (h : Held). packed_in h.content) c.self.view_is)) c.requires.put }

pub invariant_of-self : goal.invariant_of-self
invariant_of-self c =
    one_packed c.self.inside.book c.self.inside.items c.self.inside.tree c.unput_all.new.tree c.self.inside.row_room c.self.invariant c.unput_all.ensures.units
    (ap (λ (p : Packed). p.items) c.unput_all.ensures.packed ∙ (unput_keeps (packed_of c.self.inside.tree) c.args.nodes.now).0) c.unput_all.ensures.rooms.0 c.unput_all.ensures.rooms.1

pub returns-clause-content : goal.returns-clause-content
returns-clause-content c =
    let same = packed_same c.self.inside.book c.self.inside.items c.self.inside.tree c.self.inside.row_room c.self.invariant in
    packed_anew c.self.inside.book c.self.inside.items c.self.inside.tree c.unput_all.new.tree _ (c.unput_all.ensures.packed ∙ ap (λ (p : Packed). but_all_put p c.args.nodes.now) same) c.unput_all.ensures.units
    ∙ ap (λ (h : Held). with_packed h.content (but_all_put (packed_in h.content) c.args.nodes.now)) c.self.view_is

pub returns-clause-room : goal.returns-clause-room
returns-clause-room c =
    room_packed c.self.inside.book c.self.inside.tree c.unput_all.new.tree c.self.inside.row_room c.unput_all.ensures.units c.unput_all.ensures.rooms.1 ∙ ap (λ (h : Held). h.room) c.self.view_is
