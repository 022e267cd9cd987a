-- What a number of a station means.
use Rattle.std.specs.Prelude.{◌≡◌, ◌≢◌, ℕ, ◌+◌, ◌-◌, ◌≤◌, ◌<◌, Some, length, List, ◌⊎◌}
use Rattle.std.specs.List.{slice_get}
use Rattle.deed_words.specs.Setups.{Setup}
use Rattle.deed_words.specs.declared.entry.Entry.{Entry}
use Rattle.deed_words.specs.declared.deed.Deed.{Deed}
use Rattle.deed_words.specs.declared.reply.Reply.{Reply}
use Rattle.deed_words.specs.History.{own, told_to}

pub data Meaning : Type 0 where
  Kept : (reply : Reply) → Meaning
  Reused : (kept : Deed) → Meaning
  New : Meaning
  Gap : (last : ℕ) → Meaning

-- the station's entry of that number, with its reply
unfoldable pub IsTold : Setup → List Entry → ℕ → ℕ → Entry → Reply → Type 0
IsTold site history station number entry reply = (1 ≤ number) × (slice_get (told_to site history station) (number - 1) ≡ Some (entry, reply))

-- The number was kept with this deed or with another, comes next, or doesn't. Nothing but deeds is compared.
unfoldable pub Means : Setup → List Entry → ℕ → ℕ → Deed → Meaning → Type 0
Means site history station number deed (Kept reply) = (entry : Entry) × IsTold site history station number entry reply × (entry.deed ≡ deed)
Means site history station number deed (Reused kept) =
    (entry : Entry) × (reply : Reply) × IsTold site history station number entry reply × (entry.deed ≡ kept) × (kept ≢ deed)
Means site history station number deed New = number ≡ length (own station history) + 1
Means site history station number deed (Gap last) = (last ≡ length (own station history)) × ((number ≡ 0) ⊎ (last + 1 < number))
