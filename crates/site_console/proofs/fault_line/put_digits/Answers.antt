use Rattle.std.proofs.Common.{◌∷◌, [], decimal, ◌∙◌}
use Rattle.outside.specs.declared.devices.Failed.{Failed}
use Rattle.site_console.specs.Newline.{newline}
use Rattle.site_console.proofs.Putting.{behind}
use Rattle.site_console.proofs.fault_line.put_digits.Goals as goal

pub returns-clause-put : goal.returns-clause-put
returns-clause-put g c =
    let digits = c.in_ok-put_all.ensures.put in
    behind (Unit {0}) Failed _ _ _ (decimal c.args.number) (newline ∷ []) c.put_all-2.result (digits.0, digits.1, digits.2 ∙ c.as_bytes.ensures.value ∙ c.format.ensures.text) c.put_all-2.ensures.put
