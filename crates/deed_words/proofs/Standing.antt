-- How a pair stands in a world that differs a little.
use Rattle.std.proofs.Common.{◌≡◌, false, List, sym, ◌∙◌, refl, Some}
use Rattle.std.specs.List.{AllByRecursion as Every}
use Rattle.deed_words.specs.Names.{Text}
use Rattle.epc_urn.specs.declared.epc.Epc.TheVariants.{Item, Unit as Box}
use Rattle.deed_words.specs.declared.words.State.TheVariants as state
use Rattle.deed_words.specs.declared.words.Mark.TheVariants as mark
use Rattle.deed_words.specs.declared.world.Row.{Row}
use Rattle.deed_words.specs.declared.world.Container.{Container}
use Rattle.deed_words.specs.declared.world.Pair.{Pair}
use Rattle.deed_words.specs.World.{World, row_of, unit_of}
use Rattle.deed_words.specs.Moves.{is_void}
use Rattle.deed_words.specs.Sound.{MayStandIn, StandsRightly}
use Rattle.deed_words.proofs.Items.{Every-weaker}

-- what a pair needs of the next world
pub stands_on : (w w' : World) (p : Pair)
    → ((gtin serial : Text) (row : Row) → p.child ≡ Item gtin serial → row_of w gtin serial ≡ Some row → row.state ≡ state.Active → (row' : Row) × (row_of w' gtin serial ≡ Some row') × (row'.state ≡ state.Active) × (row'.batch ≡ row.batch))
    → ((sscc : Text) (box : Container) → p.child ≡ Box sscc → unit_of w sscc ≡ Some box → box.mark ≡ mark.Sealed → (box' : Container) × (unit_of w' sscc ≡ Some box') × (box'.level ≡ box.level) × (box'.mark ≡ mark.Sealed) × (box'.batch ≡ box.batch))
    → ((unit : Container) → unit_of w p.parent ≡ Some unit → is_void unit.mark ≡ false → (unit' : Container) × (unit_of w' p.parent ≡ Some unit') × (is_void unit'.mark ≡ false) × (unit'.batch ≡ unit.batch) × (unit'.level ≡ unit.level))
    → StandsRightly w p → StandsRightly w' p
unfolding StandsRightly MayStandIn
stands_on w w' p rows boxes holder s =
    let h = holder s.0 s.1 s.2 in
    let child = p.child in
    (elim child as (λ c. p.child ≡ c → MayStandIn w s.0 c → (unit : Container) × (unit_of w' p.parent ≡ Some unit) × (is_void unit.mark ≡ false) × MayStandIn w' unit c) [
      | Item gtin serial ↦ λ e m.
          let r = rows gtin serial m.0 e m.1 m.2 in
          (h.0, h.1, h.2, (r.0, r.1, r.2, r.3 ∙ m.3 ∙ sym h.3, h.4 ∙ m.4))
      | Box sscc ↦ λ e m.
          let b = boxes sscc m.0 e m.1 m.3 in
          (h.0, h.1, h.2, (b.0, b.1, b.2 ∙ m.2, b.3, b.4 ∙ m.4 ∙ sym h.3, h.4 ∙ m.5))
    ]) refl s.3

-- pairs stand as they stood where neither rows nor units change
pub stand_still : (w w' : World) → ((gtin serial : Text) → row_of w' gtin serial ≡ row_of w gtin serial) → ((sscc : Text) → unit_of w' sscc ≡ unit_of w sscc) → (ps : List Pair) → Every (StandsRightly w) ps → Every (StandsRightly w') ps
stand_still w w' rows units ps a =
    Every-weaker (StandsRightly w) (StandsRightly w')
    (λ p. stands_on w w' p
    (λ gtin serial row _ e act. (row, rows gtin serial ∙ e, act, refl))
    (λ sscc box _ e sealed. (box, units sscc ∙ e, refl, sealed, refl))
    (λ unit e held. (unit, units p.parent ∙ e, held, refl, refl)))
    ps a
