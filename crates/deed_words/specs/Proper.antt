-- What is proper: the ranges of fields, apart from those that their types keep.
use Rattle.std.specs.Prelude.{◌≡◌, ◌≤◌, true, not, Bool, ◌&&◌, List, length, nat_le}
use Rattle.std.specs.List.{list_all}
use Rattle.gs1_keys.specs.Keys.{is_between}
use Rattle.gs1_element.specs.Dates.{is_expiry}
use Rattle.gs1_element.specs.declared.code.Code.{Code}
use Rattle.deed_words.specs.Chain.{is_empty}
use Rattle.deed_words.specs.declared.deed.OrderRow.{OrderRow}
use Rattle.deed_words.specs.declared.deed.Deed.{Deed}
use Rattle.deed_words.specs.declared.deed.Deed.TheVariants.{Order, Orders, Commission, Spoil, Giveback, Sample, Reject, Reinstate, Destroy, Decommission, Pack, Unpack, Amend}
use Rattle.deed_words.specs.declared.entry.Ask.{Ask}
use Rattle.deed_words.specs.declared.entry.Said.{Said}
use Rattle.deed_words.specs.declared.entry.Entry.{Entry}

-- an order of a batch that has a name, with a date, 1 to 1,000,000 items, 1 to 1,000 in a case and up to 1,000 cases on a pallet
unfoldable pub is_order : OrderRow → Bool
is_order row = not (is_empty row.batch) && is_expiry row.expiry && is_between 1 1000000 row.quantity && is_between 1 1000 row.case_size && nat_le row.pallet_size 1000

unfoldable pub is_dated : Code → Bool
is_dated code = is_expiry code.expiry

-- as many as a request may list
abbrev pub IsShort : {X : Type 0} → List X → Type 0
IsShort xs = length xs ≤ 1000

abbrev pub IsProperDeed : Deed → Type 0
IsProperDeed (Order row) = is_order row ≡ true
IsProperDeed (Orders rows) = IsShort rows × (list_all is_order rows ≡ true)
IsProperDeed (Commission name codes) = IsShort codes × (list_all is_dated codes ≡ true)
IsProperDeed (Spoil name serials) = IsShort serials
IsProperDeed (Giveback name serials) = IsShort serials
IsProperDeed (Sample name items) = IsShort items
IsProperDeed (Reject name items) = IsShort items
IsProperDeed (Reinstate name items) = IsShort items
IsProperDeed (Destroy name items) = IsShort items
IsProperDeed (Decommission name items) = IsShort items
IsProperDeed (Pack unit children) = IsShort children
IsProperDeed (Unpack unit children) = IsShort children
IsProperDeed (Amend name quantity) = is_between 1 1000000 quantity ≡ true
IsProperDeed deed = Unit {0}

-- an operator is a text, which its type keeps
abbrev pub IsProperSaid : Said → Type 0
IsProperSaid said = IsProperDeed said.deed

abbrev pub IsProperAsk : Ask → Type 0
IsProperAsk ask = IsProperDeed ask.deed

-- a stamp is at most the last millisecond of the year 9999
pub record IsProperEntry (entry : Entry) : Type 0 where
  pub stamp : entry.stamp ≤ 253402300799999
  pub deed : IsProperDeed entry.deed
  pub drawn : length entry.drawn ≤ 10000
