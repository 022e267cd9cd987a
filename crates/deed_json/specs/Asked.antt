-- What bytes ask of a site: a body is a deed, and a line names a station and a number beside it.
use Rattle.std.specs.Prelude.{ℕ, List, Option, Some, None, Result, Ok, Err, option_and_then, codes, if◌then◌else◌}
use Rattle.std.specs.Str.{is_utf8}
use Rattle.serde_json.specs.Data.{Data, Members}
use Rattle.serde_json.specs.Read.{read}
use Rattle.serde_json.specs.Find.{get, as_str, as_number, as_u64, as_object}
use Rattle.deed_words.specs.Names.{Text}
use Rattle.deed_words.specs.Setups.{Setup}
use Rattle.deed_words.specs.Stations.{station_of}
use Rattle.deed_words.specs.declared.entry.Ask.{Ask}
use Rattle.deed_words.specs.declared.entry.Said.{Said}
use Rattle.site_files.specs.Due.{◌>>=◌}
use Rattle.deed_json.specs.Deeds.{said_of}
use Rattle.deed_json.specs.declared.deed_fault.DeedFault.{DeedFault}
use Rattle.deed_json.specs.declared.ask.AskFault.{AskFault}
use Rattle.deed_json.specs.declared.ask.AskFault.TheVariants.{BadLine, NoStation, BadDeed}

abbrev pub or_bad_line : {A : Type 0} → Option A → Result A AskFault
or_bad_line None = Err BadLine
or_bad_line (Some a) = Ok a

abbrev pub or_no_station : {A : Type 0} → Option A → Result A AskFault
or_no_station None = Err NoStation
or_no_station (Some a) = Ok a

abbrev pub or_bad_deed : {A : Type 0} → Result A DeedFault → Result A AskFault
or_bad_deed (Err fault) = Err (BadDeed fault)
or_bad_deed (Ok a) = Ok a

-- the JSON value that bytes spell, and None where they are refused
unfoldable pub json_of : List ℕ → Option Data
json_of bytes = if is_utf8 bytes then read bytes else None

abbrev pub if_members : Data → Option Members → Option Data
if_members d None = None
if_members d (Some ms) = Some d

-- the object that bytes spell
unfoldable pub object_of : List ℕ → Result Data AskFault
object_of bytes = or_bad_line (json_of bytes) >>= (λ d. or_bad_line (if_members d (as_object d)))

-- what the bytes of a body say
unfoldable pub body_of : List ℕ → Result Said AskFault
body_of bytes = object_of bytes >>= (λ d. or_bad_deed (said_of d))

-- the text, the whole number and the value at the three members of a line
unfoldable pub station_at : Data → Result Text AskFault
station_at d = or_bad_line (option_and_then as_str (get (codes "station") d))

unfoldable pub number_at : Data → Result ℕ AskFault
number_at d = or_bad_line (option_and_then as_u64 (option_and_then as_number (get (codes "number") d)))

unfoldable pub deed_at : Data → Result Data AskFault
deed_at d = or_bad_line (get (codes "deed") d)

-- the station of that name
unfoldable pub known_as : Setup → Text → Result ℕ AskFault
known_as site name = or_no_station (station_of site name)

-- what the bytes of a line ask, or their first fault: the line's own members are told before the station that isn't
-- known, and the station before the deed
unfoldable pub asked_of : Setup → List ℕ → Result Ask AskFault
asked_of site line = do
  d ← object_of line
  name ← station_at d
  number ← number_at d
  body ← deed_at d
  station ← known_as site name
  said ← or_bad_deed (said_of body)
  Ok (record { station = station; number = number; operator = said.operator; deed = said.deed })
