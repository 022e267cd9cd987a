use Rattle.std.proofs.Common.{◌∷◌, [], decimal}
use Rattle.outside.specs.declared.devices.Failed.{Failed}
use Rattle.site_console.specs.Newline.{newline}
use Rattle.site_console.proofs.Putting.{behind_first}
use Rattle.site_console.proofs.fault_line.put_number.Goals as goal

pub returns-clause-put : goal.returns-clause-put
returns-clause-put g c = behind_first (Unit {0}) Failed _ _ _ c.args.words.now (decimal c.args.number) (newline ∷ []) c.put_digits.result c.in_ok-put_all.ensures.put c.put_digits.ensures.put
