use Rattle.std.proofs.Common.{rules, arith, ℕ, ◌∙◌, length, ◌-◌, ◌+◌, drop, ◌≡◌, set, get_or}
use Rattle.std.proofs.lemmas.List.{take_all, length-drop}
use borrow.Rule.Slice.PartMut.{put_mid}
use Rattle.epc_urn.proofs.Buffer.{fields_put, inner_length}
use Rattle.epc_urn.proofs.key.write_fields.Goals as goal

pub returns : goal.returns
returns c =
    let same : 1 + length c.args.prefix.now - 1 ≡ length c.args.prefix.now = omega arith in
    let size : length (put_mid 1 (1 + length c.args.prefix.now - 1) (set c.args.out.now 0 (get_or c.args.rest.now 0 0)) c.copy_from_slice.new.self) - (1 + length c.args.prefix.now) ≡ length c.args.rest.now - 1 =
    inner_length c.args.out.now c.args.prefix.now c.args.rest.now c.copy_from_slice.new.self _ c.requires.some c.requires.size same (search rules) in
    fields_put c.args.out.now c.args.prefix.now c.args.rest.now c.copy_from_slice.new.self c.copy_from_slice-2.new.self _ _ c.requires.some c.requires.size same size (search rules) (c.copy_from_slice-2.ensures.after ∙ take_all (length c.args.rest.now - 1) (drop 1 c.args.rest.now) (omega (arith, length-drop {A = ℕ} 1 c.args.rest.now)))
