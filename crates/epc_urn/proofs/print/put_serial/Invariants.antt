use Rattle.std.proofs.Common.{◌≡◌, ◌≤◌, ◌*◌, ◌+◌, ◌++◌, length, take}
use Rattle.epc_urn.specs.Serial.{serial_text}
use Rattle.epc_urn.proofs.print.put_serial.Given as goal

abbrev pub invariant-loop-character : goal.invariant-loop-character
invariant-loop-character l = (l.text ≡ l.initial.text ++ serial_text (take l.character-index l.serial)) × (length l.text ≤ length l.initial.text + 3 * l.character-index)
