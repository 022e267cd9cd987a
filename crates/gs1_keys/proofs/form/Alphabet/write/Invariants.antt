use Rattle.std.proofs.Common.{◌≡◌, ◌≤◌, ◌++◌, drop, length}
use Rattle.gs1_keys.specs.Forms.{number_in}
use Rattle.gs1_keys.proofs.form.Alphabet.write.Given as goal

abbrev pub invariant-loop-at : goal.invariant-loop-at
invariant-loop-at l = (l.at ≤ length l.out) × (length l.out ≡ length l.initial.out) × (number_in l.fn.self l.at l.rest ++ drop l.at l.out ≡ number_in l.fn.self (length l.out) l.fn.number)

abbrev pub decreases-loop-at : goal.decreases-loop-at
decreases-loop-at l = l.at
