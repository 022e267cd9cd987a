use Rattle.std.proofs.Common.{◌≡◌, arith, refl}
use Rattle.gs1_keys.specs.Keys.{check}
use Rattle.epc_urn.specs.Urns.{fields_of}
use Rattle.epc_urn.proofs.Keys.{check_found, check_is_digit, key_is_put, digit_found, no_digit_fault}
use Rattle.epc_urn.proofs.key.write_key.Goals as goal

pub overflow_add-out : goal.overflow_add-out
overflow_add-out c =
    let found = check_found c.args.prefix.now c.args.rest.now _ c.args.out.now _ c.check_digit.result c.requires.prefix c.requires.rest c.requires.some c.requires.size c.requires.few refl c.write_fields.ensures c.check_digit.ensures.is in
    let is : c.in-Ok.digit ≡ check (fields_of c.args.prefix.now c.args.rest.now) = digit_found _ _ _ c.in-Ok.is found in
    omega (arith, is, check_is_digit (fields_of c.args.prefix.now c.args.rest.now))

pub unreachable-requires : goal.unreachable-requires
unreachable-requires c =
    no_digit_fault _ _ _ c.in-Err.is (check_found c.args.prefix.now c.args.rest.now _ c.args.out.now _ c.check_digit.result c.requires.prefix c.requires.rest c.requires.some c.requires.size c.requires.few refl c.write_fields.ensures c.check_digit.ensures.is)

pub returns : goal.returns
returns c =
    let found = check_found c.args.prefix.now c.args.rest.now _ c.args.out.now _ c.check_digit.result c.requires.prefix c.requires.rest c.requires.some c.requires.size c.requires.few refl c.write_fields.ensures c.check_digit.ensures.is in
    key_is_put c.args.prefix.now c.args.rest.now c.write_fields.new.out c.args.out.now _ c.in-Ok.digit c.requires.some c.requires.size refl c.write_fields.ensures (digit_found _ _ _ c.in-Ok.is found)
