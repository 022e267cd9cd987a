-- What the definitions say of the other deeds.
use Rattle.std.proofs.Common.{◌≡◌, ℕ, true, List, length, refl, sym, true≢false}
use Rattle.std.specs.Prelude.{option_map, option_and_then}
use Rattle.gs1_element.specs.declared.code.Code.{Code}
use Rattle.deed_words.specs.Names.{Text}
use Rattle.deed_words.specs.Setups.{Setup}
use Rattle.deed_words.specs.World.{World, parent, unit_of}
use Rattle.deed_words.specs.Chain.{each}
use Rattle.deed_words.specs.Deeds.{named, batch_named, batch_with, unit_named, order_rows}
use Rattle.deed_words.specs.Orders.{new_orders, orders_in}
use Rattle.deed_words.specs.Tests.{site_full, full, has_parent, wrong_level, misfits, other_batch, strays}
use Rattle.deed_words.specs.declared.deed.Deed.{Deed}
use Rattle.deed_words.specs.declared.deed.Deed.TheVariants.{Order, Orders, Draw, Commission, Pack, Unpack, UnpackAll, Seal, Unseal, Void, Container as MakeUnit}
use Rattle.deed_words.specs.declared.words.Level.{Level}
use Rattle.deed_words.specs.declared.words.What.TheVariants.{Batches}
use Rattle.deed_words.specs.declared.rule.Rule.TheVariants.{HasParent}
use Rattle.site_rules.specs.Suits.{names_unit, is_about_batch, is_about_unit, is_draw, is_lend, is_close}

pub full_else : (site : Setup) (w : World) (station : ℕ) (deed : Deed) → ((name : Text) (count : ℕ) → deed ≡ Draw name count → ⊥) → ((name : Text) (level : Level) → deed ≡ MakeUnit name level → ⊥)
    → site_full site w station deed ≡ full Batches (length w.batches) (length (new_orders (orders_in w) (order_rows deed))) 4096
unfolding site_full
full_else site w station (Draw name count) a b = absurd (a name count refl)
full_else site w station (MakeUnit name level) a b = absurd (b name level refl)
full_else site w station deed a b = refl

pub parent_else : (site : Setup) (w : World) (station : ℕ) (deed : Deed) → ((unit : Text) → deed ≡ Unseal unit → ⊥) → has_parent site w station deed ≡ each (named w deed) (λ k name. option_map (HasParent k) (parent w name))
unfolding has_parent
parent_else site w station (Unseal unit) a = absurd (a unit refl)
parent_else site w station deed a = refl

pub other_else : (site : Setup) (w : World) (station : ℕ) (deed : Deed) → ((name : Text) (codes : List Code) → deed ≡ Commission name codes → ⊥) → other_batch site w station deed ≡ strays w (batch_named w deed) (named w deed)
unfolding other_batch
other_else site w station (Commission name codes) a = absurd (a name codes refl)
other_else site w station deed a = refl

pub level_else : (site : Setup) (w : World) (station : ℕ) (deed : Deed) → ((name : Text) (level : Level) → deed ≡ MakeUnit name level → ⊥)
    → wrong_level site w station deed ≡ option_and_then (λ unit. misfits w unit.level (named w deed)) (unit_of w (unit_named deed))
unfolding wrong_level
level_else site w station (MakeUnit name level) a = absurd (a name level refl)
level_else site w station deed a = refl

pub about_else : (deed : Deed) → ((name : Text) (level : Level) → deed ≡ MakeUnit name level → ⊥) → is_about_unit deed ≡ true → names_unit deed ≡ true
unfolding is_about_unit
about_else (MakeUnit name level) a e = absurd (a name level refl)
about_else deed a e = e

-- the batch of what names a unit is that of the unit
pub batch_of_unit : (w : World) (deed : Deed) → names_unit deed ≡ true → batch_named w deed ≡ batch_with w (unit_named deed)
unfolding names_unit batch_named unit_named
batch_of_unit w (Pack unit children) e = refl
batch_of_unit w (Unpack unit children) e = refl
batch_of_unit w (UnpackAll unit) e = refl
batch_of_unit w (Seal unit) e = refl
batch_of_unit w (Unseal unit) e = refl
batch_of_unit w (Void unit) e = refl
batch_of_unit w deed e = absurd (true≢false (sym e))

-- what names a unit, or draws, is about a batch
pub unit_about : (deed : Deed) → names_unit deed ≡ true → is_about_batch deed ≡ true
unfolding names_unit is_about_batch
unit_about (Order row) e = absurd (true≢false (sym e))
unit_about (Orders rows) e = absurd (true≢false (sym e))
unit_about deed e = refl

pub draw_about : (deed : Deed) → is_draw deed ≡ true → is_about_batch deed ≡ true
unfolding is_draw is_about_batch
draw_about (Order row) e = absurd (true≢false (sym e))
draw_about (Orders rows) e = absurd (true≢false (sym e))
draw_about deed e = refl

pub lend_about : (deed : Deed) → is_lend deed ≡ true → is_about_batch deed ≡ true
unfolding is_lend is_about_batch
lend_about (Order row) e = absurd (true≢false (sym e))
lend_about (Orders rows) e = absurd (true≢false (sym e))
lend_about deed e = refl

pub close_about : (deed : Deed) → is_close deed ≡ true → is_about_batch deed ≡ true
unfolding is_close is_about_batch
close_about (Order row) e = absurd (true≢false (sym e))
close_about (Orders rows) e = absurd (true≢false (sym e))
close_about deed e = refl
