-- What a request of the simulation asks behind a history.
use Rattle.std.specs.Prelude.{◌≡◌, ◌≤◌, ◌<◌, ◌+◌, ℕ, true, List, [], length, map, take, drop, None, if◌then◌else◌}
use Rattle.std.specs.List.{flat_map, range_with_len}
use Rattle.gs1_element.specs.declared.code.Code.{Code}
use Rattle.epc_urn.specs.declared.epc.Epc.{Epc}
use Rattle.epc_urn.specs.declared.epc.Epc.TheVariants.{Item, Unit as Box}
use Rattle.gs1_keys.specs.Keys.{is_between}
use Rattle.deed_words.specs.Names.{Text}
use Rattle.deed_words.specs.Setups.{code_of}
use Rattle.deed_words.specs.declared.deed.OrderRow.{OrderRow}
use Rattle.deed_words.specs.declared.deed.Deed.{Deed}
use Rattle.deed_words.specs.declared.deed.Deed.TheVariants as deed
use Rattle.deed_words.specs.declared.entry.Ask.{Ask}
use Rattle.deed_words.specs.declared.entry.Entry.{Entry}
use Rattle.deed_words.specs.declared.reply.Reply.{Reply}
use Rattle.deed_words.specs.History.{own, told_from}
use Rattle.deed_words.specs.Once.{listed}
use Rattle.deed_words.specs.World.{nothing_yet}
use Rattle.site_sim.specs.declared.part.Part.{Part}
use Rattle.site_sim.specs.declared.request.Request.{Request}
use Rattle.site_sim.specs.declared.request.Request.TheVariants as request
use Rattle.site_sim.specs.Example as example
use Rattle.site_sim.specs.Requests.{Send, is_planners}

-- the serials that a reply to a lend lists
unfoldable pub lent_by : Deed → Reply → List Text
lent_by (deed.Lend name count) reply = listed reply
lent_by deed reply = []

-- all serials that were lent, in the order in which replies list them
unfoldable pub lent_in : List Entry → List Text
lent_in history = flat_map (λ told. lent_by told.0.deed told.1) (told_from example.site nothing_yet history)

abbrev pub part_of : {X : Type 0} → Part → List X → List X
part_of part xs = take part.size (drop part.from xs)

abbrev pub order : ℕ → OrderRow
order quantity = record { batch = example.batch; gtin = example.first_gtin; lot = example.batch; expiry = example.expiry; quantity = quantity; case_size = 50; pallet_size = 20 }

-- what is printed for a serial, and the item that has it
abbrev pub printed : Text → Code
printed serial = record { gtin = example.first_gtin; serial = serial; lot = example.batch; expiry = example.expiry }

abbrev pub item : Text → Epc
item serial = Item example.first_gtin serial

-- the unit with this place among all that are made
abbrev pub unit : ℕ → Text
unit place = code_of example.site place

abbrev pub units_of : Part → List Epc
units_of part = map (λ place. Box (unit place)) (range_with_len part.from part.size)

-- the deed of a request, where these serials were lent
unfoldable pub deed_of : List Text → Request → Deed
deed_of lent (request.Order quantity) = deed.Order (order quantity)
deed_of lent request.Start = deed.Start example.batch
deed_of lent (request.Draw size) = deed.Draw example.batch size
deed_of lent (request.Lend size) = deed.Lend example.batch size
deed_of lent (request.Commission part) = deed.Commission example.batch (map printed (part_of part lent))
deed_of lent (request.Make level) = deed.Container example.batch level
deed_of lent (request.PackItems place part) = deed.Pack (unit place) (map item (part_of part lent))
deed_of lent (request.PackCases place part) = deed.Pack (unit place) (units_of part)
deed_of lent (request.Seal place) = deed.Seal (unit place)
deed_of lent (request.Declare good) = deed.Declare example.batch good 0 0
deed_of lent request.Close = deed.Close example.batch

abbrev pub station_of : Request → ℕ
station_of r = if is_planners r then example.planner else example.line

-- the request of a station whose last number is this one: with the next number, or with the last one again
abbrev pub ask_after : ℕ → List Text → Send → Ask
ask_after last lent s = record {
  station = station_of s.request;
  number = if s.again then last else last + 1;
  operator = None;
  deed = deed_of lent s.request;
}

-- .. behind a history
abbrev pub ask_at : List Entry → Send → Ask
ask_at history s = ask_after (length (own (station_of s.request) history)) (lent_in history) s

-- a batch of up to 1,000,000 items, up to 1,000 things in a list, and units that a site may have
abbrev pub IsFair : Request → Type 0
IsFair (request.Order quantity) = is_between 1 1000000 quantity ≡ true
IsFair request.Start = Unit {0}
IsFair (request.Draw size) = Unit {0}
IsFair (request.Lend size) = Unit {0}
IsFair (request.Commission part) = part.size ≤ 1000
IsFair (request.Make level) = Unit {0}
IsFair (request.PackItems place part) = (place < 65536) × (part.size ≤ 1000)
IsFair (request.PackCases place part) = (place < 65536) × (part.size ≤ 1000) × (part.from + part.size ≤ 65536)
IsFair (request.Seal place) = place < 65536
IsFair (request.Declare good) = Unit {0}
IsFair request.Close = Unit {0}
