use Rattle.std.proofs.Common.{length, ◌≡◌, List, ◌∷◌, [], ◌++◌, subst, sym, ap, ◌∙◌, rules}
use Rattle.pack_tree.specs.declared.link.Taken.{Taken}
use Rattle.pack_tree.specs.Trees.{packed_of}
use Rattle.pack_tree.specs.Packing.{Packed}
use Rattle.pack_tree.specs.Taking.{IsGone}
use Rattle.pack_tree.specs.Many.{without_one, IsThere, with_back, with_all_back, WereTaken}
use Rattle.pack_tree.proofs.Stepping.{undone, split_back}
use Rattle.pack_tree.proofs.ManyLaws.{take_law}
use Rattle.pack_tree.proofs.many.untake_all.Goals as goal

pub untake-requires : goal.untake-requires
untake-requires c =
    let cut : c.loop-taken.left.now ≡ c.in-Some.first.now ++ c.in-Some.taken.now ∷ [] = search rules in
    let w = undone without_one IsThere with_back take_law (packed_of c.loop-taken.tree) c.in-Some.first.now c.in-Some.taken.now (subst (λ (ts : List Taken). WereTaken (packed_of c.loop-taken.tree) ts) cut c.loop-taken.invariant.were) in
    record { gone = subst (λ (q : Packed). IsGone q c.in-Some.taken.now) (sym w.2) w.1.gone }

pub loop-taken-preserved : goal.loop-taken-preserved
loop-taken-preserved c =
    let cut : c.loop-taken.left.now ≡ c.in-Some.first.now ++ c.in-Some.taken.now ∷ [] = search rules in
    let p : Packed = (packed_of c.loop-taken.tree) in
    let taken : Taken = c.in-Some.taken.now in
    let w = undone without_one IsThere with_back take_law p c.in-Some.first.now taken (subst (λ (ts : List Taken). WereTaken p ts) cut c.loop-taken.invariant.were) in
    let new : (packed_of c.untake.new.self) ≡ with_back p taken = λ z. record { pairs = c.untake.ensures.pairs z; last = c.untake.ensures.last z; items = c.untake.ensures.items z; units = length (c.untake.ensures.units z) } in
    record {
      were = subst (λ (q : Packed). WereTaken q c.in-Some.first.now) (sym new) w.3;
      is = ap (λ (q : Packed). with_all_back q c.in-Some.first.now) new ∙ sym (split_back without_one IsThere with_back take_law p c.in-Some.first.now taken) ∙ ap (λ (ts : List Taken). with_all_back p ts) (sym cut) ∙ c.loop-taken.invariant.is;
      units = c.untake.ensures.units ∙ c.loop-taken.invariant.units;
      rooms = (c.untake.ensures.rooms.0 ∙ c.loop-taken.invariant.rooms.0, c.untake.ensures.rooms.1 ∙ c.loop-taken.invariant.rooms.1);
    }
