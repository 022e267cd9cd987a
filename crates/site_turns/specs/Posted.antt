-- A numbered request whose body reads as a deed.
use Rattle.std.specs.Prelude.{ℕ}
use Rattle.deed_words.specs.Names.{Text}
use Rattle.deed_words.specs.declared.entry.Said.{Said}

-- the name of its station, its number, and what its body says
pub record Posted : Type 0 where
  pub station : Text
  pub number : ℕ
  pub said : Said
