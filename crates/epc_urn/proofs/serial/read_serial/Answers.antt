use Rattle.std.proofs.Common.{◌<◌, arith, ◌∙◌}
use Rattle.std.proofs.lemmas.List.{length-set}
use Rattle.std.proofs.lemmas.Result.{err_from_is_err_and}
use Rattle.epc_urn.proofs.Serials.{some_bytes, no_bytes, none_at, at_is, goes_on, stops, too_long, is_done, text_is, no_text_fault}
use Rattle.epc_urn.proofs.serial.read_serial.Goals as goal

pub returns-then-is_empty : goal.returns-then-is_empty
returns-then-is_empty c = none_at c.args.text.now (no_bytes _ _ _ c.is_empty.ensures c.if-is_empty.true c.bytes.ensures)

pub returns-in_err-see_room : goal.returns-in_err-see_room
returns-in_err-see_room c =
    let p = err_from_is_err_and c.from_residual.result c.from_residual.ensures.1 in
    let full = c.in_err-see_room.ensures in
    rw (p.1, p.2, full.1) (at_is c.args.text.now (some_bytes _ _ _ c.is_empty.ensures c.if-is_empty.false c.bytes.ensures)
    ∙ too_long _ _ c.loop-characters.text c.loop-characters.len (some_bytes _ _ _ c.is_empty-in-loop-characters.ensures c.loop-characters-test.true c.bytes-in-loop-characters.ensures) full.0 c.loop-characters.invariant.1)

pub returns-in_err-characters : goal.returns-in_err-characters
returns-in_err-characters c =
    let p = err_from_is_err_and c.from_residual-in_err-characters.result c.from_residual-in_err-characters.ensures.1 in
    let lt : c.loop-characters.len < 20 = omega (arith, c.in_ok-see_room.ensures) in
    rw (p.1, p.2) (at_is c.args.text.now (some_bytes _ _ _ c.is_empty.ensures c.if-is_empty.false c.bytes.ensures)
    ∙ stops _ _ c.loop-characters.text c.loop-characters.len c.in_err-characters.field-0.0 (some_bytes _ _ _ c.is_empty-in-loop-characters.ensures c.loop-characters-test.true c.bytes-in-loop-characters.ensures) lt c.in_err-characters.ensures c.loop-characters.invariant.1)

pub loop-characters-preserved : goal.loop-characters-preserved
loop-characters-preserved c =
    let lt : c.loop-characters.len < 20 = omega arith in (
      omega arith,
      goes_on _ c.loop-characters.characters c.loop-characters.text c.read_char.new.text c.loop-characters.len c.in_ok-characters.field-0 (some_bytes _ _ _ c.is_empty-in-loop-characters.ensures c.loop-characters-test.true c.bytes-in-loop-characters.ensures) lt c.loop-characters.invariant.2 c.in_ok-characters.ensures c.loop-characters.invariant.1,
      length-set c.loop-characters.characters c.loop-characters.len c.in_ok-characters.field-0 ∙ c.loop-characters.invariant.2,
    )

pub unreachable-requires : goal.unreachable-requires
unreachable-requires c =
    let done = is_done _ _ c.loop-characters.text _ (no_bytes _ _ _ c.is_empty-in-loop-characters.ensures c.loop-characters-test.false c.bytes-in-loop-characters.ensures) c.loop-characters.invariant.1 in
    no_text_fault c.args.text.now _ c.in-Err.field-0 (some_bytes _ _ _ c.is_empty.ensures c.if-is_empty.false c.bytes.ensures) done c.in-Err.ensures.is

pub returns : goal.returns
returns c =
    let done = is_done _ _ c.loop-characters.text _ (no_bytes _ _ _ c.is_empty-in-loop-characters.ensures c.loop-characters-test.false c.bytes-in-loop-characters.ensures) c.loop-characters.invariant.1 in
    let some = some_bytes _ _ _ c.is_empty.ensures c.if-is_empty.false c.bytes.ensures in
    at_is c.args.text.now some ∙ text_is c.args.text.now _ c.in-Ok.serial some done c.in-Ok.ensures.is
