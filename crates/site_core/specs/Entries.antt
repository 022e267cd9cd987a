-- The history, by what is kept of each entry and by what each station asked and was told.
use Rattle.std.specs.Prelude.{◌-◌, List, [], map, slice_index_or}
use Rattle.deed_words.specs.Names.{Text}
use Rattle.deed_words.specs.declared.deed.Deed.{Deed}
use Rattle.deed_words.specs.declared.deed.Deed.TheVariants.{Draw, Start}
use Rattle.deed_words.specs.declared.entry.Entry.{Entry}
use Rattle.deed_words.specs.declared.reply.Reply.{Reply}
use Rattle.deed_words.specs.declared.reply.Reply.TheVariants.{Accepted}
use Rattle.deed_words.specs.declared.reply.Answer.TheVariants.{Listed, Plain}
use Rattle.request_memo.specs.declared.page.Told.{Told}
use Rattle.request_memo.specs.Memos.{told_by}
use Rattle.site_core.specs.declared.kept.Kept.{Kept}

-- the serials that an accepted draw drew, by its reply; any other deed draws none
unfoldable pub serials_told : Deed → Reply → List Text
serials_told (Draw name count) (Accepted (Listed serials)) = serials
serials_told deed reply = []

-- what stands where nothing was asked
abbrev pub unasked : Told
unasked = record { deed = Start []; reply = Accepted Plain }

-- what the station asked and was told under the number
unfoldable pub told_at : List (List Told) → Kept → Told
told_at told kept = slice_index_or (told_by told kept.station) (kept.number - 1) unasked

-- the entry of which this is kept
unfoldable pub entry_in : List (List Told) → Kept → Entry
entry_in told kept = record {
  station = kept.station;
  number = kept.number;
  worker = kept.worker;
  stamp = kept.stamp;
  operator = kept.operator;
  deed = (told_at told kept).deed;
  drawn = serials_told (told_at told kept).deed (told_at told kept).reply;
}

unfoldable pub history_in : List (List Told) → List Kept → List Entry
history_in told kept = map (entry_in told) kept
