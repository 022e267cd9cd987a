-- States that don't allow a deed.
use Rattle.std.proofs.Common.{◌≡◌, None, refl}
use Rattle.std.specs.Prelude.{option_and_then}
use Rattle.epc_urn.specs.declared.epc.Epc.{Epc}
use Rattle.epc_urn.specs.declared.epc.Epc.TheVariants.{Item, Unit as Box}
use Rattle.deed_words.specs.Names.{Text}
use Rattle.deed_words.specs.World.{World, row_of}
use Rattle.deed_words.specs.Chain.{when}
use Rattle.deed_words.specs.Moves.{told_state}
use Rattle.deed_words.specs.Tests.{unfit, is_known}
use Rattle.deed_words.specs.declared.deed.Deed.{Deed}
use Rattle.deed_words.specs.declared.deed.Deed.TheVariants.{Pack}
use Rattle.site_rules.specs.Rows.{forbids}
use Rattle.std.proofs.Common.{List, false}

pub unfit_item : (w : World) (deed : Deed) (gtin serial : Text) → unfit w deed (Item gtin serial) ≡ option_and_then (λ row. when (forbids deed row.state) (told_state row.state)) (row_of w gtin serial)
unfolding unfit forbids
unfit_item w (Pack unit children) gtin serial = refl
unfit_item w deed gtin serial = refl

pub unfit_box : (w : World) (deed : Deed) (sscc : Text) → ((unit : Text) (children : List Epc) → deed ≡ Pack unit children → ⊥) → unfit w deed (Box sscc) ≡ None
unfolding unfit
unfit_box w (Pack unit children) sscc a = absurd (a unit children refl)
unfit_box w deed sscc a = refl

pub unknown_box : (w : World) (deed : Deed) (sscc : Text) → ((unit : Text) (children : List Epc) → deed ≡ Pack unit children → ⊥) → is_known w deed (Box sscc) ≡ false
unfolding is_known
unknown_box w (Pack unit children) sscc a = absurd (a unit children refl)
unknown_box w deed sscc a = refl
