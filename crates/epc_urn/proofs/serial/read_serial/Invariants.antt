use Rattle.std.proofs.Common.{◌≡◌, ◌≤◌, ◌-◌, length, take}
use Rattle.epc_urn.specs.Serial.{serial_of}
use Rattle.epc_urn.proofs.Serials.{with_front}
use Rattle.epc_urn.proofs.serial.read_serial.Given as goal

abbrev pub invariant-loop-characters : goal.invariant-loop-characters
invariant-loop-characters l = (l.len ≤ 20) × (serial_of 20 l.fn.text ≡ with_front (take l.len l.characters) (serial_of (20 - l.len) l.text)) × (length l.characters ≡ 20)

abbrev pub decreases-loop-characters : goal.decreases-loop-characters
decreases-loop-characters l = 20 - l.len
