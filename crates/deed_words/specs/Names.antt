-- When two names are the same.
use Rattle.std.specs.Prelude.{ℕ, Bool, false, ◌&&◌, List, bytes_eq, nat_eq}
use Rattle.std.specs.List.{list_any}
use Rattle.epc_urn.specs.declared.epc.Epc.{Epc}
use Rattle.epc_urn.specs.declared.epc.Epc.TheVariants.{Item, Unit as Box}
use Rattle.deed_words.specs.declared.deed.OrderRow.{OrderRow}

-- a text or a key, as the list of its characters
abbrev pub Text : Type 0
Text = List ℕ

unfoldable pub same : Text → Text → Bool
same one other = bytes_eq one other

unfoldable pub same_name : Epc → Epc → Bool
same_name (Item gtin serial) (Item gtin' serial') = same gtin gtin' && same serial serial'
same_name (Item gtin serial) (Box sscc) = false
same_name (Box sscc) (Item gtin serial) = false
same_name (Box sscc) (Box sscc') = same sscc sscc'

-- the name is one of those
unfoldable pub is_among : List Epc → Epc → Bool
is_among names name = list_any (same_name name) names

unfoldable pub same_order : OrderRow → OrderRow → Bool
same_order one other =
    same one.batch other.batch
    && same one.gtin other.gtin
    && same one.lot other.lot
    && same one.expiry other.expiry
    && nat_eq one.quantity other.quantity
    && nat_eq one.case_size other.case_size
    && nat_eq one.pallet_size other.pallet_size
