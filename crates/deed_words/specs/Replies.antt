-- The reply to an entry, and the world after it.
use Rattle.std.specs.Prelude.{ℕ, ◌-◌, List, length, map, Option, None, Some}
use Rattle.deed_words.specs.Setups.{Setup, code_of}
use Rattle.deed_words.specs.declared.entry.Entry.{Entry}
use Rattle.deed_words.specs.declared.deed.Deed.{Deed}
use Rattle.deed_words.specs.declared.deed.Deed.TheVariants.{Order, Orders, Draw, Lend, Container as MakeUnit, UnpackAll}
use Rattle.deed_words.specs.declared.rule.Rule.{Rule}
use Rattle.deed_words.specs.declared.reply.Reply.{Reply}
use Rattle.deed_words.specs.declared.reply.Reply.TheVariants as reply
use Rattle.deed_words.specs.declared.reply.Answer.{Answer}
use Rattle.deed_words.specs.declared.reply.Answer.TheVariants as answer
use Rattle.deed_words.specs.Names.{Text}
use Rattle.deed_words.specs.World.{World, inside}
use Rattle.deed_words.specs.Deeds.{order_rows}
use Rattle.deed_words.specs.Orders.{new_orders, orders_in}
use Rattle.deed_words.specs.Rules.{broken}
use Rattle.deed_words.specs.Effects.{effect, lent_rows}

-- how many batches the deed adds, and how many of its rows were there
unfoldable pub orders_answer : World → Deed → Answer
orders_answer w deed =
    let added : ℕ = length (new_orders (orders_in w) (order_rows deed)) in
    answer.Orders added (length (order_rows deed) - added)

-- what an accepted deed is told
unfoldable pub answer_to : Setup → World → Deed → List Text → Answer
answer_to site w (Order row) drawn = orders_answer w (Order row)
answer_to site w (Orders rows) drawn = orders_answer w (Orders rows)
answer_to site w (Draw name count) drawn = answer.Listed drawn
answer_to site w (Lend name count) drawn = answer.Listed (map (λ row. row.serial) (lent_rows w name count))
answer_to site w (MakeUnit name level) drawn = answer.Made (code_of site (length w.units))
answer_to site w (UnpackAll unit) drawn = answer.Taken (length (inside w unit))
answer_to site w deed drawn = answer.Plain

-- the world after an entry that breaks the rule, if there is one
unfoldable pub unless_broken : Setup → World → Entry → Option Rule → World
unless_broken site w entry None = effect site w entry.station entry.deed entry.drawn
unless_broken site w entry (Some rule) = w

unfoldable pub after : Setup → World → Entry → World
after site w entry = unless_broken site w entry (broken site w entry.station entry.deed)

unfoldable pub replied : Setup → World → Entry → Option Rule → Reply
replied site w entry None = reply.Accepted (answer_to site w entry.deed entry.drawn)
replied site w entry (Some rule) = reply.Refused rule

unfoldable pub reply_to : Setup → World → Entry → Reply
reply_to site w entry = replied site w entry (broken site w entry.station entry.deed)
