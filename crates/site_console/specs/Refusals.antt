-- The names of refusals in replies.
use Rattle.std.specs.Prelude.{◌≡◌, List}
use Rattle.serde_json.specs.Data.{Data}
use Rattle.deed_words.specs.Names.{Text}
use Rattle.deed_json.specs.Objects.{Told, refused}

-- a reply that refuses by a rule of this name
pub record IsRefusalBy (name : Text) (reply : Data) : Type 0 where
  pub told : List Told
  pub is : reply ≡ refused name told
