use Rattle.std.proofs.Common.{◌≡◌, List, [], ℕ, length, arith, sym, ◌∙◌, ap}
use Rattle.std.proofs.lemmas.List.{length-map}
use Rattle.place_table.specs.Hash.{text_hash}
use Rattle.serial_pool.proofs.Found.{stands_among, nowhere_among, text_apart}
use Rattle.serial_pool.proofs.new_serials.is_found.Goals as goal

pub returns-in-Some : goal.returns-in-Some
returns-in-Some c =
    let size : length c.args.table.now.hashes ≡ length c.args.serials.now = ap (λ (xs : List ℕ). length xs) c.requires.hashed ∙ length-map c.args.serials.now text_hash in
    sym (stands_among c.args.serials.now c.in-Some.field-0 [] c.args.serial.now (omega (arith, size, c.in-Some.ensures.found.0)) (c.in-Some.ensures.found.1.0 []))

pub returns-in-None : goal.returns-in-None
returns-in-None c =
    sym (nowhere_among c.args.serials.now c.args.serial.now
    (text_apart c.args.serials.now c.args.table.now.hashes c.args.serial.now c.text_hash.result c.requires.hashed (c.text_hash.ensures ∙ ap text_hash c.bytes.ensures.is)
    (λ k lt e d. (c.in-None.ensures.absent k lt e).1 d)))
