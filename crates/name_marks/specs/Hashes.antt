-- The hashes of names.
use Rattle.std.specs.Prelude.{ℕ}
use Rattle.place_table.specs.Hash.{text_hash, pair_hash}
use Rattle.epc_urn.specs.declared.epc.Epc.{Epc}
use Rattle.epc_urn.specs.declared.epc.Epc.TheVariants.{Item, Unit as Box}

unfoldable pub hash_of : Epc → ℕ
hash_of (Item gtin serial) = pair_hash gtin serial
hash_of (Box sscc) = text_hash sscc
