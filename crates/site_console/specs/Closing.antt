-- When a batch closes.
use Rattle.std.specs.Prelude.{◌≡◌, ◌↔◌, ℕ, None, Some}
use Rattle.deed_words.specs.Accounted.{IsAccounted}
use Rattle.deed_words.specs.Names.{Text}
use Rattle.deed_words.specs.Rules.{broken}
use Rattle.deed_words.specs.Setups.{Setup, IsForPlanner}
use Rattle.deed_words.specs.World.{World, batch_of}
use Rattle.deed_words.specs.declared.deed.Deed.TheVariants.{Close}
use Rattle.deed_words.specs.declared.words.Phase.TheVariants.{Started}
use Rattle.deed_words.specs.declared.world.Batch.{Batch}

-- a planner's close on a started batch breaks no rule exactly where the batch is accounted for
abbrev pub ClosesWhereAccounted : Setup → World → Type 0
ClosesWhereAccounted site w =
    (station : ℕ) (name : Text) (batch : Batch) → IsForPlanner site station → batch_of w name ≡ Some batch → batch.phase ≡ Started → (broken site w station (Close name) ≡ None) ↔ IsAccounted site w name
