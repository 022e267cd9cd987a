-- What an accepted deed is told, and what it changes.
use Rattle.std.specs.Prelude.{◌≡◌, ℕ, List}
use Rattle.deed_words.specs.Names.{Text}
use Rattle.deed_words.specs.Setups.{Setup}
use Rattle.deed_words.specs.World.{World}
use Rattle.deed_words.specs.Effects.{effect}
use Rattle.deed_words.specs.Replies.{answer_to}
use Rattle.deed_words.specs.declared.deed.Deed.{Deed}
use Rattle.deed_words.specs.declared.reply.Answer.{Answer}
use Rattle.batch_book.specs.Content.{world_in}
use Rattle.site_stores.specs.Changes.{applied, MayApply, room_for}
use Rattle.site_stores.specs.Holding.{Held, IsWithin}
use Rattle.site_deeds.specs.declared.done.Done.{Done}

-- this answer, and a change that may be made here, has its room, and makes this world
pub record Does (held : Held) (done : Done) (answer : Answer) (w : World) : Type 0 where
  pub answer_is : done.answer ≡ answer
  pub may : MayApply held.content done.change
  pub effect_is : world_in (applied held.content done.change) ≡ w
  pub room : IsWithin (room_for done.change) held.room

-- the answer and the effect of the station's deed, with the serials that it drew
abbrev pub DoesDeed : Setup → Held → ℕ → Deed → List Text → Done → Type 0
DoesDeed site held station deed drawn done =
    Does held done (answer_to site (world_in held.content) deed drawn) (effect site (world_in held.content) station deed drawn)
