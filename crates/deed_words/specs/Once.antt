-- What a history issued: serials drawn, lent and commissioned, and units made.
use Rattle.std.specs.Prelude.{List, [], ◌∷◌, map, flat_map, Contains, Option, None, Some, length}
use Rattle.deed_words.specs.Names.{Text}
use Rattle.epc_urn.specs.declared.epc.Epc.{Epc}
use Rattle.epc_urn.specs.declared.epc.Epc.TheVariants.{Item, Unit as Box}
use Rattle.deed_words.specs.Setups.{Setup, code_of}
use Rattle.deed_words.specs.declared.entry.Entry.{Entry}
use Rattle.deed_words.specs.declared.rule.Rule.{Rule}
use Rattle.deed_words.specs.declared.reply.Reply.{Reply}
use Rattle.deed_words.specs.declared.reply.Reply.TheVariants.{Accepted}
use Rattle.deed_words.specs.declared.reply.Answer.TheVariants.{Listed, Made}
use Rattle.deed_words.specs.declared.deed.OrderRow.{OrderRow}
use Rattle.deed_words.specs.declared.deed.Deed.{Deed}
use Rattle.deed_words.specs.declared.deed.Deed.TheVariants.{Draw, Lend, Commission, Container as MakeUnit}
use Rattle.deed_words.specs.World.{World, name_of, nothing_yet}
use Rattle.deed_words.specs.Deeds.{order_rows, item_of}
use Rattle.deed_words.specs.Effects.{gtin_of, lent_rows}
use Rattle.deed_words.specs.Rules.{broken}
use Rattle.deed_words.specs.Walk.{steps_from}

-- the items that an accepted deed draws, lends or commissions
unfoldable pub drawn_by : World → Deed → List Text → List Epc
drawn_by w (Draw name count) drawn = map (Item (gtin_of w name)) drawn
drawn_by w deed drawn = []

unfoldable pub lent_by : World → Deed → List Text → List Epc
lent_by w (Lend name count) drawn = map name_of (lent_rows w name count)
lent_by w deed drawn = []

unfoldable pub commissioned_by : World → Deed → List Text → List Epc
commissioned_by w (Commission name codes) drawn = map item_of codes
commissioned_by w deed drawn = []

-- the codes of the units that it makes
unfoldable pub made_by : Setup → World → Deed → List Text → List Text
made_by site w (MakeUnit name level) drawn = code_of site (length w.units) ∷ []
made_by site w deed drawn = []

-- the order rows that it has
unfoldable pub ordered_by : World → Deed → List Text → List OrderRow
ordered_by w deed drawn = order_rows deed

unfoldable pub if_accepted : {A : Type 0} → Option Rule → List A → List A
if_accepted None things = things
if_accepted (Some rule) things = []

abbrev pub issued_by : {A : Type 0} → (World → Deed → List Text → List A) → Setup → World → Entry → List A
issued_by by site w entry = if_accepted (broken site w entry.station entry.deed) (by w entry.deed entry.drawn)

-- all that the entries issue, from a world on
unfoldable pub issued_from : {A : Type 0} → (World → Deed → List Text → List A) → Setup → World → List Entry → List A
issued_from by site w entries = flat_map (λ step. issued_by by site step.before step.entry) (steps_from site w entries)

abbrev pub all_drawn : Setup → List Entry → List Epc
all_drawn site history = issued_from drawn_by site nothing_yet history

abbrev pub all_lent : Setup → List Entry → List Epc
all_lent site history = issued_from lent_by site nothing_yet history

abbrev pub all_commissioned : Setup → List Entry → List Epc
all_commissioned site history = issued_from commissioned_by site nothing_yet history

abbrev pub all_codes_made : Setup → List Entry → List Text
all_codes_made site history = issued_from (made_by site) site nothing_yet history

-- the order rows of the accepted orders
abbrev pub all_ordered : Setup → List Entry → List OrderRow
all_ordered site history = issued_from ordered_by site nothing_yet history

-- the row is one that an order had when it was accepted
abbrev pub WasOrdered : Setup → List Entry → OrderRow → Type 0
WasOrdered site history row = Contains (all_ordered site history) row

unfoldable pub serial_of : Epc → Text
serial_of (Item gtin serial) = serial
serial_of (Box sscc) = []

-- the serials that a reply lists
unfoldable pub listed : Reply → List Text
listed (Accepted (Listed serials)) = serials
listed reply = []

-- the codes that a reply tells
unfoldable pub made_told : Reply → List Text
made_told (Accepted (Made sscc)) = sscc ∷ []
made_told reply = []
