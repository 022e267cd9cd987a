-- A site of two products and four stations, and how its examples are written.
use Rattle.std.proofs.Common.{ℕ, zero, suc, ◌+◌, List, [], ◌∷◌, map, None}
use Rattle.std.specs.Prelude.{codes}
use Rattle.gs1_keys.specs.Keys.{digits_of}
use Rattle.gs1_keys.specs.declared.form.Alphabet.TheVariants.{Digits}
use Rattle.epc_urn.specs.declared.epc.Epc.{Epc}
use Rattle.epc_urn.specs.declared.epc.Epc.TheVariants.{Item}
use Rattle.gs1_element.specs.declared.code.Code.{Code}
use Rattle.deed_words.specs.Names.{Text}
use Rattle.deed_words.specs.Setups.{Setup, code_of}
use Rattle.deed_words.specs.declared.words.Role.TheVariants.{Planner, Line, Quality}
use Rattle.deed_words.specs.declared.entry.Entry.{Entry}
use Rattle.deed_words.specs.declared.deed.OrderRow.{OrderRow}
use Rattle.deed_words.specs.declared.deed.Deed.{Deed}
use Rattle.deed_words.specs.declared.world.Pair.{Pair}
use Rattle.deed_words.specs.declared.reply.Reply.{Reply}
use Rattle.deed_words.specs.declared.reply.Reply.TheVariants.{Accepted}
use Rattle.deed_words.specs.declared.reply.Answer.TheVariants.{Plain}
use Rattle.deed_words.specs.World.{World}
use Rattle.deed_words.specs.Replies.{after, reply_to}

abbrev pub first_product : Text
first_product = codes "00614141123452"

abbrev pub second_product : Text
second_product = codes "80614141123458"

abbrev pub site : Setup
site = record {
  gln = codes "0614141000012";
  prefix = codes "0614141";
  extension = 1;
  reference = 1;
  offset = codes "+00:00";
  products =
      record { gtin = first_product; prefix_length = 7; form = record { alphabet = Digits; length = 10 } }
      ∷ record { gtin = second_product; prefix_length = 7; form = record { alphabet = Digits; length = 6 } } ∷ [];
  stations =
      record { name = codes "P1"; role = Planner } ∷ record { name = codes "L1"; role = Line }
      ∷ record { name = codes "L2"; role = Line } ∷ record { name = codes "Q1"; role = Quality } ∷ [];
}

-- the places of its stations
abbrev pub p1 : ℕ
p1 = 0

abbrev pub l1 : ℕ
l1 = 1

abbrev pub l2 : ℕ
l2 = 2

abbrev pub q1 : ℕ
q1 = 3

-- a deed of a station, and one that draws; what rules and effects make of them doesn't depend on number and stamp
abbrev pub by : ℕ → Deed → Entry
by station deed = record { station = station; number = 1; worker = 0; stamp = 0; operator = None; deed = deed; drawn = [] }

abbrev pub drawing : Deed → List Text → Entry
drawing deed serials = record { station = p1; number = 1; worker = 0; stamp = 0; operator = None; deed = deed; drawn = serials }

abbrev pub batch : Text
batch = codes "B7"

-- its order, with a quantity, a case size and a pallet size
abbrev pub order : ℕ → ℕ → ℕ → OrderRow
order quantity case pallet = record { batch = batch; gtin = first_product; lot = codes "LOT7A"; expiry = codes "271231"; quantity = quantity; case_size = case; pallet_size = pallet }

-- so many serials of ten digits, from a number on
abbrev pub serials : ℕ → ℕ → List Text
serials from zero = []
serials from (suc n) = digits_of 10 from ∷ serials (from + 1) n

abbrev pub items : ℕ → ℕ → List Epc
items from count = map (Item first_product) (serials from count)

abbrev pub code : Text → Code
code serial = record { gtin = first_product; serial = serial; lot = codes "LOT7A"; expiry = codes "271231" }

abbrev pub printed : ℕ → ℕ → List Code
printed from count = map code (serials from count)

-- the unit that was made at a place
abbrev pub unit : ℕ → Text
unit place = code_of site place

abbrev pub stand_in : Text → List Epc → List Pair
stand_in sscc names = map (λ (name : Epc). record { child = name; parent = sscc }) names

abbrev pub replies : Setup → World → List Entry → List Reply
replies setup w [] = []
replies setup w (entry ∷ entries) = reply_to setup w entry ∷ replies setup (after setup w entry) entries

abbrev pub ok : Reply
ok = Accepted Plain
