-- What a look at a number tells, in the words of the trade.
use Rattle.std.specs.Prelude.{◌≡◌, ℕ, List, map}
use Rattle.deed_words.specs.Setups.{Setup}
use Rattle.deed_words.specs.declared.entry.Entry.{Entry}
use Rattle.deed_words.specs.declared.reply.Reply.{Reply}
use Rattle.deed_words.specs.History.{told_to}
use Rattle.deed_words.specs.Numbers.{Meaning}
use Rattle.deed_words.specs.Numbers as number
use Rattle.request_memo.specs.declared.page.Told.{Told}
use Rattle.request_memo.specs.declared.page.Seen.{Seen}
use Rattle.request_memo.specs.declared.page.Seen.TheVariants.{Kept, Reused, New, Gap}

-- an entry's deed with its reply
abbrev pub told_of : Entry × Reply → Told
told_of told = record { deed = told.0.deed; reply = told.1 }

-- these are the deeds of the station in the history, with their replies
abbrev pub AreToldTo : Setup → List Entry → ℕ → List Told → Type 0
AreToldTo site history station told = told ≡ map told_of (told_to site history station)

abbrev pub meaning_of : Seen → Meaning
meaning_of (Kept reply) = number.Kept reply.now
meaning_of (Reused kept) = number.Reused kept.now
meaning_of New = number.New
meaning_of (Gap last) = number.Gap last
