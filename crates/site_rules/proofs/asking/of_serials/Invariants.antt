use Rattle.std.proofs.Common.{◌≡◌, map, take}
use Rattle.epc_urn.specs.declared.epc.Epc.TheVariants.{Item}
use Rattle.site_rules.proofs.asking.of_serials.Given as goal

abbrev pub invariant-loop-serial : goal.invariant-loop-serial
invariant-loop-serial l = l.names ≡ map (Item l.gtin) (take l.serial-index l.serials)
