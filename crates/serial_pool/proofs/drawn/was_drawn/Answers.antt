use Rattle.std.proofs.Common.{◌≡◌, List, [], ℕ, length, arith, sym, ◌∙◌, ap, ap₂}
use Rattle.std.proofs.lemmas.List.{length-map}
use Rattle.place_table.specs.Hash.{pair_hash}
use Rattle.serial_pool.specs.declared.drawn.DrawnSerial.{DrawnSerial}
use Rattle.serial_pool.specs.Index.{hash_in}
use Rattle.serial_pool.proofs.Found.{pair_among, pair_nowhere, pair_apart}
use Rattle.serial_pool.proofs.drawn.was_drawn.Goals as goal

pub returns-in-Some : goal.returns-in-Some
returns-in-Some c =
    let size : length c.args.table.now.hashes ≡ length c.args.drawn.now = ap (λ (xs : List ℕ). length xs) c.requires.hashed ∙ length-map c.args.drawn.now hash_in in
    let other : DrawnSerial = record { gtin = []; serial = [] } in
    sym (pair_among c.args.drawn.now c.in-Some.field-0 other c.args.gtin.now c.args.serial.now (omega (arith, size, c.in-Some.ensures.found.0)) (c.in-Some.ensures.found.1.0 other))

pub returns-in-None : goal.returns-in-None
returns-in-None c =
    sym (pair_nowhere c.args.drawn.now c.args.gtin.now c.args.serial.now
    (pair_apart c.args.drawn.now c.args.table.now.hashes c.args.gtin.now c.args.serial.now c.pair_hash.result c.requires.hashed (c.pair_hash.ensures ∙ ap₂ pair_hash c.digits.ensures.is c.bytes.ensures.is)
    (λ k lt e d. (c.in-None.ensures.absent k lt e).1 d)))
