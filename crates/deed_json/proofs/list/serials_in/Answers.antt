use Rattle.std.proofs.Common.{◌≡◌, ◌∙◌, ◌+◌, ◌<◌, ◌≤◌, ◌++◌, ◌∷◌, [], length, get_or, inr, arith, rules, Ok, Err}
use Rattle.std.proofs.lemmas.List.{length-append}
use Rattle.std.proofs.lemmas.Result.{err_from_is_err_and}
use Rattle.serde_json.specs.View.{view}
use Rattle.deed_json.specs.Deeds.{serial_entry}
use Rattle.deed_json.proofs.Entries.{serial_more, serial_fault, serial_end}
use Rattle.deed_json.proofs.list.serials_in.Goals as goal

pub returns-in_err-serial-clause-is : goal.returns-in_err-serial-clause-is
returns-in_err-serial-clause-is c =
    let h : c.loop-entry.entry-index < length c.args.entries.now = omega arith in
    let is : serial_entry (view (get_or c.args.entries.now c.loop-entry.entry-index c.entry-item.result)) ≡ Err c.in_err-serial.field-0.0 = rw (← c.entry-item.is) c.in_err-serial.ensures in
    let p = err_from_is_err_and c.from_residual.result c.from_residual.ensures.1 in
    rw (p.1, p.2) (inr (c.loop-entry.invariant.due ∙ serial_fault _ _ _ _ _ h is))

pub loop-entry-preserved : goal.loop-entry-preserved
loop-entry-preserved c =
    let h : c.loop-entry.entry-index < length c.args.entries.now = omega arith in
    let is : serial_entry (view (get_or c.args.entries.now c.loop-entry.entry-index c.entry-item.result)) ≡ Ok c.in_ok-serial.serial = rw (← c.entry-item.is) (search rules) in
    let items : c.push.new.self ≡ c.loop-entry.serials ++ c.in_ok-serial.serial ∷ [] = search rules in
    let size = c.loop-entry.invariant.size in
    let one : length (c.loop-entry.serials ++ c.in_ok-serial.serial ∷ []) ≡ length c.loop-entry.serials + 1 = length-append c.loop-entry.serials (c.in_ok-serial.serial ∷ []) in
    record {
      due = rw items (c.loop-entry.invariant.due ∙ serial_more _ _ _ _ _ h is);
      size = rw (items, one) (omega (arith, size));
    }

pub returns-clause-is : goal.returns-clause-is
returns-clause-is c =
    let h : length c.args.entries.now ≤ c.loop-entry.entry-index = omega arith in
    c.loop-entry.invariant.due ∙ serial_end _ _ _ h
