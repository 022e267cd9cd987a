-- How deep things stand in a sound world.
use Rattle.std.proofs.Common.{◌≡◌, sym, ◌∙◌, refl, subst, Option, None, Some}
use Rattle.std.specs.Prelude.{find, option_map}
use Rattle.epc_urn.specs.declared.epc.Epc.{Epc}
use Rattle.epc_urn.specs.declared.epc.Epc.TheVariants.{Item, Unit as Box}
use Rattle.deed_words.specs.declared.words.Level.{Level}
use Rattle.deed_words.specs.declared.words.Level.TheVariants.{Case, Pallet}
use Rattle.deed_words.specs.declared.world.Container.{Container}
use Rattle.deed_words.specs.declared.world.Pair.{Pair}
use Rattle.deed_words.specs.Names.{Text, same_name}
use Rattle.deed_words.specs.World.{World, unit_of, parent}
use Rattle.deed_words.specs.Setups.{Setup}
use Rattle.deed_words.specs.Sound.{IsSound, MayStandIn, StandsRightly}
use Rattle.deed_words.proofs.Sameness.{same_name-true}
use Rattle.deed_words.proofs.Items.{find_Some, find_passes}

-- a unit in which the name may stand
Holder : World → Epc → Text → Type 0
Holder w name sscc = (unit : Container) × (unit_of w sscc ≡ Some unit) × MayStandIn w unit name

found_pair : (o : Option Pair) (sscc : Text) → option_map (λ (p : Pair). p.parent) o ≡ Some sscc → (p : Pair) × (o ≡ Some p) × (p.parent ≡ sscc)
found_pair None sscc e = absurd cc
found_pair (Some p) sscc e = (p, refl, cc)

-- what has a parent stands in it rightly
holder : (site : Setup) (w : World) (name : Epc) (sscc : Text) → IsSound site w → parent w name ≡ Some sscc → Holder w name sscc
unfolding Holder parent StandsRightly
holder site w name sscc s e =
    let f = found_pair (find (λ (p : Pair). same_name p.child name) w.pairs) sscc e in
    let stands : StandsRightly w f.0 = find_Some (StandsRightly w) (λ (p : Pair). same_name p.child name) w.pairs f.0 f.1 s.packed in
    let child : f.0.child ≡ name = same_name-true f.0.child name (find_passes (λ (p : Pair). same_name p.child name) w.pairs f.0 f.1) in
    (stands.0, subst (λ (n : Text). unit_of w n ≡ Some stands.0) f.2 stands.1, subst (MayStandIn w stands.0) child stands.3)

case_or_pallet : (level : Level) → level ≡ Case → level ≡ Pallet → ⊥
case_or_pallet Case one other = absurd cc
case_or_pallet Pallet one other = absurd cc

-- in a case stand items alone
in_case : (w : World) (unit : Container) (name : Epc) → unit.level ≡ Case → MayStandIn w unit name → (gtin : Text) × (serial : Text) × (name ≡ Item gtin serial)
unfolding MayStandIn
in_case w unit (Item gtin serial) case may = (gtin, serial, refl)
in_case w unit (Box sscc) case may = absurd (case_or_pallet unit.level case may.5)

-- a pallet stands in nothing
free_pallet : (w : World) (unit : Container) (sscc : Text) (above : Option Text) → unit_of w sscc ≡ Some unit → unit.level ≡ Pallet
    → ((more : Text) → above ≡ Some more → Holder w (Box sscc) more) → above ≡ None
unfolding Holder MayStandIn
free_pallet w unit sscc None is pallet held = refl
free_pallet w unit sscc (Some more) is pallet held =
    let h = held more refl in
    let box : Container = h.2.0 in
    let same : Some unit ≡ Some box = sym is ∙ h.2.1 in
    let one : unit ≡ box = cc in
    absurd (case_or_pallet unit.level (subst (λ (u : Container). u.level ≡ Case) (sym one) h.2.2) pallet)

pub two_deep : (site : Setup) (w : World) (name : Epc) (case pallet : Text) → IsSound site w → parent w name ≡ Some case → parent w (Box case) ≡ Some pallet
    → ((gtin : Text) × (serial : Text) × (name ≡ Item gtin serial)) × (parent w (Box pallet) ≡ None)
unfolding Holder MayStandIn
two_deep site w name case pallet s inner outer =
    let h = holder site w name case s inner in
    let o = holder site w (Box case) pallet s outer in
    let same : Some h.0 ≡ Some o.2.0 = sym h.1 ∙ o.2.1 in
    let one : h.0 ≡ o.2.0 = cc in (
      in_case w h.0 name (subst (λ (u : Container). u.level ≡ Case) (sym one) o.2.2) h.2,
      free_pallet w o.0 pallet (parent w (Box pallet)) o.1 o.2.5 (λ more e. holder site w (Box pallet) more s e),
    )
