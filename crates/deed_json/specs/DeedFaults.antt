-- The members of deeds by their names.
use Rattle.std.specs.Prelude.{ℕ, List, codes}
use Rattle.deed_json.specs.declared.deed_fault.Member.{Member}
use Rattle.deed_json.specs.declared.deed_fault.Member.TheVariants as member

abbrev pub name_of : Member → List ℕ
name_of member.Do = codes "do"
name_of member.Batch = codes "batch"
name_of member.Gtin = codes "gtin"
name_of member.Lot = codes "lot"
name_of member.Expiry = codes "expiry"
name_of member.Quantity = codes "quantity"
name_of member.Case = codes "case"
name_of member.Pallet = codes "pallet"
name_of member.Csv = codes "csv"
name_of member.Count = codes "count"
name_of member.Codes = codes "codes"
name_of member.Serials = codes "serials"
name_of member.Items = codes "items"
name_of member.Level = codes "level"
name_of member.Unit = codes "unit"
name_of member.Children = codes "children"
name_of member.Good = codes "good"
name_of member.Spoiled = codes "spoiled"
name_of member.Returned = codes "returned"
name_of member.Operator = codes "operator"
