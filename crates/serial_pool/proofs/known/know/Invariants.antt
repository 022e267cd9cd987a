use Rattle.std.proofs.Common.{◌≡◌, take}
use Rattle.gs1_keys.specs.Forms.{AreNew}
use Rattle.serial_pool.specs.Held.{had_of}
use Rattle.serial_pool.proofs.known.know.Given as goal

abbrev pub invariant-loop-i : goal.invariant-loop-i
invariant-loop-i l = record {
  front : l.planned ≡ take l.i l.serials;
  new : AreNew (had_of l.gtin l.drawn) l.form l.planned;
}
