-- What their types keep of entries: keys and texts that were read, and numbers that have their width.
use Rattle.std.specs.Prelude.{ℕ, ◌<◌, ◌^◌, List, All, Option, Some, None}
use Rattle.gs1_keys.specs.Keys.{IsGtin, IsSscc, IsText}
use Rattle.gs1_element.specs.declared.code.Code.{Code}
use Rattle.epc_urn.specs.declared.epc.Epc.{Epc}
use Rattle.epc_urn.specs.declared.epc.Epc.TheVariants as epc
use Rattle.deed_words.specs.declared.deed.OrderRow.{OrderRow}
use Rattle.deed_words.specs.declared.deed.Deed.{Deed}
use Rattle.deed_words.specs.declared.deed.Deed.TheVariants as deed
use Rattle.deed_words.specs.declared.entry.Entry.{Entry}

abbrev pub IsKeptEpc : Epc → Type 0
IsKeptEpc (epc.Item gtin serial) = IsGtin gtin × IsText serial
IsKeptEpc (epc.Unit sscc) = IsSscc sscc

abbrev pub IsKeptCode : Code → Type 0
IsKeptCode c = IsGtin c.gtin × (IsText c.serial × IsText c.lot)

abbrev pub IsKeptRow : OrderRow → Type 0
IsKeptRow r = IsText r.batch × (IsGtin r.gtin × IsText r.lot)

abbrev pub IsKeptOperator : Option (List ℕ) → Type 0
IsKeptOperator None = Unit {0}
IsKeptOperator (Some name) = IsText name

abbrev pub IsKeptDeed : Deed → Type 0
IsKeptDeed (deed.Order row) = IsKeptRow row
IsKeptDeed (deed.Orders rows) = All IsKeptRow rows
IsKeptDeed (deed.Start batch) = IsText batch
IsKeptDeed (deed.Draw batch count) = IsText batch × (count < 2 ^ 32)
IsKeptDeed (deed.Lend batch count) = IsText batch × (count < 2 ^ 32)
IsKeptDeed (deed.Commission batch codes) = IsText batch × All IsKeptCode codes
IsKeptDeed (deed.Spoil batch serials) = IsText batch × All IsText serials
IsKeptDeed (deed.Giveback batch serials) = IsText batch × All IsText serials
IsKeptDeed (deed.Sample batch items) = IsText batch × All IsKeptEpc items
IsKeptDeed (deed.Reject batch items) = IsText batch × All IsKeptEpc items
IsKeptDeed (deed.Reinstate batch items) = IsText batch × All IsKeptEpc items
IsKeptDeed (deed.Destroy batch items) = IsText batch × All IsKeptEpc items
IsKeptDeed (deed.Decommission batch items) = IsText batch × All IsKeptEpc items
IsKeptDeed (deed.Container batch level) = IsText batch
IsKeptDeed (deed.Pack unit children) = IsSscc unit × All IsKeptEpc children
IsKeptDeed (deed.Unpack unit children) = IsSscc unit × All IsKeptEpc children
IsKeptDeed (deed.UnpackAll unit) = IsSscc unit
IsKeptDeed (deed.Seal unit) = IsSscc unit
IsKeptDeed (deed.Unseal unit) = IsSscc unit
IsKeptDeed (deed.Void unit) = IsSscc unit
IsKeptDeed (deed.Declare batch good spoiled returned) = IsText batch × ((good < 2 ^ 32) × ((spoiled < 2 ^ 32) × (returned < 2 ^ 32)))
IsKeptDeed (deed.Close batch) = IsText batch
IsKeptDeed (deed.Amend batch quantity) = IsText batch

-- who asked, the number, and who served it
abbrev pub IsKeptHead : Entry → Type 0
IsKeptHead e = (e.station < 256) × ((e.number < 2 ^ 64) × (e.worker < 256))

pub record IsKept (entry : Entry) : Type 0 where
  pub head : IsKeptHead entry
  pub operator : IsKeptOperator entry.operator
  pub deed : IsKeptDeed entry.deed
  pub drawn : All IsText entry.drawn
