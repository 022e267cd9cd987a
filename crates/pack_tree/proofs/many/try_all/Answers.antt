use Rattle.std.proofs.Common.{◌≡◌, List, subst, sym, ap, ◌∙◌}
use Rattle.pack_tree.specs.declared.link.Taken.{Taken}
use Rattle.pack_tree.specs.Trees.{packed_of}
use Rattle.pack_tree.specs.Packing.{Packed}
use Rattle.pack_tree.specs.Many.{without_one, without_all, IsThere, with_back, with_all_back, MayTake}
use Rattle.pack_tree.proofs.Stepping.{there_and_back}
use Rattle.pack_tree.proofs.ManyLaws.{take_law}
use Rattle.pack_tree.proofs.many.try_all.Goals as goal

pub untake_all-requires : goal.untake_all-requires
untake_all-requires c = record {
  taken = record { before = packed_of c.args.tree.now; may = subst (λ (ts : List Taken). MayTake (packed_of c.args.tree.now) ts) (sym c.as_slice.ensures.value) c.take_each.ensures.may; are = c.take_each.ensures.is ∙ ap (λ (ts : List Taken). without_all (packed_of c.args.tree.now) ts) (sym c.as_slice.ensures.value) };
}

pub returns-clause-same : goal.returns-clause-same
returns-clause-same c =
    let packed : packed_of c.untake_all.new.tree ≡ packed_of c.args.tree.now =
    c.untake_all.ensures.packed ∙ ap (λ (ts : List Taken). with_all_back (packed_of c.take_each.new.tree) ts) c.as_slice.ensures.value
    ∙ ap (λ (p : Packed). with_all_back p c.take_each.new.gone.items) c.take_each.ensures.is
    ∙ there_and_back without_one IsThere with_back take_law (packed_of c.args.tree.now) c.take_each.new.gone.items c.take_each.ensures.may in
    let units = c.untake_all.ensures.units ∙ c.take_each.ensures.units in
    let items_room = c.untake_all.ensures.rooms.0 ∙ c.take_each.ensures.rooms.0 in
    let units_room = c.untake_all.ensures.rooms.1 ∙ c.take_each.ensures.rooms.1 in
    λ z. record { pairs = (packed z).pairs; last = (packed z).last; items = (packed z).items; units = units z; item_room = items_room z; unit_room = units_room z }
