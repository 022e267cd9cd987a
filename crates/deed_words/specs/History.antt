-- The history of a site: its world, when it is lawful, and what a number means.
use Rattle.std.specs.Prelude.{◌≡◌, ℕ, ◌+◌, ◌<◌, ◌≤◌, List, [], ◌∷◌, ◌++◌, length, map, filter, Option, None, Some, nat_eq}
use Rattle.gs1_keys.specs.Forms.{AreNew}
use Rattle.deed_words.specs.Names.{Text}
use Rattle.deed_words.specs.Setups.{Setup, product_of}
use Rattle.deed_words.specs.declared.setup.Product.{Product}
use Rattle.deed_words.specs.declared.entry.Entry.{Entry}
use Rattle.deed_words.specs.declared.deed.Deed.{Deed}
use Rattle.deed_words.specs.declared.deed.Deed.TheVariants.{Draw}
use Rattle.deed_words.specs.declared.rule.Rule.{Rule}
use Rattle.deed_words.specs.declared.reply.Reply.{Reply}
use Rattle.deed_words.specs.World.{World, nothing_yet}
use Rattle.deed_words.specs.Tests.{rows_of_gtin}
use Rattle.deed_words.specs.Effects.{gtin_of}
use Rattle.deed_words.specs.Rules.{broken}
use Rattle.deed_words.specs.Replies.{after, reply_to}
use Rattle.deed_words.specs.Walk.{steps_from}

-- the world after the entries, from a world
unfoldable pub world_from : Setup → World → List Entry → World
world_from site w [] = w
world_from site w (entry ∷ entries) = world_from site (after site w entry) entries

unfoldable pub world_of : Setup → List Entry → World
world_of site history = world_from site nothing_yet history

-- the entries of a station
unfoldable pub own : ℕ → List Entry → List Entry
own station history = filter (λ entry. nat_eq entry.station station) history

unfoldable pub last_stamp : List Entry → ℕ
last_stamp [] = 0
last_stamp (entry ∷ []) = entry.stamp
last_stamp (entry ∷ more ∷ entries) = last_stamp (more ∷ entries)

-- the serials of a GTIN, in drawn order
unfoldable pub serials_of : World → Text → List Text
serials_of w gtin = map (λ row. row.serial) (rows_of_gtin w gtin)

-- so many serials of a product, which are new beside those that its GTIN has
pub record AreNewFor (site : Setup) (w : World) (gtin : Text) (count : ℕ) (serials : List Text) : Type 0 where
  pub product : Product
  pub made : product_of site gtin ≡ Some product
  pub counted : length serials ≡ count
  pub new : AreNew (serials_of w gtin) product.form serials

-- what an entry may have drawn
unfoldable pub MayDraw : Setup → World → Option Rule → Deed → List Text → Type 0
MayDraw site w None (Draw name count) serials = AreNewFor site w (gtin_of w name) count serials
MayDraw site w rule deed serials = serials ≡ []

-- the entry may follow the history, which led to this world
pub record MayFollow (site : Setup) (history : List Entry) (w : World) (entry : Entry) : Type 0 where
  pub station : entry.station < length site.stations
  pub number : entry.number ≡ length (own entry.station history) + 1
  pub stamp : last_stamp history ≤ entry.stamp
  pub drawn : MayDraw site w (broken site w entry.station entry.deed) entry.deed entry.drawn

-- each entry may follow those in front of it
unfoldable pub AllFollow : Setup → List Entry → World → List Entry → Type 0
AllFollow site history w [] = Unit {0}
AllFollow site history w (entry ∷ entries) =
    MayFollow site history w entry × AllFollow site (history ++ entry ∷ []) (after site w entry) entries

unfoldable pub IsLawful : Setup → List Entry → Type 0
IsLawful site history = AllFollow site [] nothing_yet history

-- each entry with its reply
unfoldable pub told_from : Setup → World → List Entry → List (Entry × Reply)
told_from site w entries = map (λ step. (step.entry, reply_to site step.before step.entry)) (steps_from site w entries)

-- the entries of a station, with their replies
unfoldable pub told_to : Setup → List Entry → ℕ → List (Entry × Reply)
told_to site history station = filter (λ told. nat_eq told.0.station station) (told_from site nothing_yet history)
