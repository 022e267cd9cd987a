use Rattle.std.proofs.Common.{◌≡◌, ◌∙◌, ◌+◌, ◌<◌, ◌≤◌, ◌++◌, ◌∷◌, [], length, get_or, inr, arith, rules, Ok, Err}
use Rattle.std.proofs.lemmas.List.{length-append}
use Rattle.std.proofs.lemmas.Result.{err_from_is_err_and}
use Rattle.serde_json.specs.View.{view}
use Rattle.deed_json.specs.Deeds.{epc_entry}
use Rattle.deed_json.proofs.Entries.{epc_more, epc_fault, epc_end}
use Rattle.deed_json.proofs.list.epcs_in.Goals as goal

pub returns-in_err-epc-clause-is : goal.returns-in_err-epc-clause-is
returns-in_err-epc-clause-is c =
    let h : c.loop-entry.entry-index < length c.args.entries.now = omega arith in
    let at : c.len.result ≡ length c.loop-entry.epcs = search rules in
    let is : epc_entry c.args.member c.len.result (view (get_or c.args.entries.now c.loop-entry.entry-index c.entry-item.result)) ≡ Err c.in_err-epc.field-0.0 = rw (← c.entry-item.is) c.in_err-epc.ensures in
    let p = err_from_is_err_and c.from_residual.result c.from_residual.ensures.1 in
    rw (p.1, p.2) (inr (c.loop-entry.invariant.due ∙ epc_fault _ _ _ _ _ _ _ h at is))

pub loop-entry-preserved : goal.loop-entry-preserved
loop-entry-preserved c =
    let h : c.loop-entry.entry-index < length c.args.entries.now = omega arith in
    let at : c.len.result ≡ length c.loop-entry.epcs = search rules in
    let is : epc_entry c.args.member c.len.result (view (get_or c.args.entries.now c.loop-entry.entry-index c.entry-item.result)) ≡ Ok c.in_ok-epc.epc = rw (← c.entry-item.is) (search rules) in
    let items : c.push.new.self ≡ c.loop-entry.epcs ++ c.in_ok-epc.epc ∷ [] = search rules in
    let size = c.loop-entry.invariant.size in
    let one : length (c.loop-entry.epcs ++ c.in_ok-epc.epc ∷ []) ≡ length c.loop-entry.epcs + 1 = length-append c.loop-entry.epcs (c.in_ok-epc.epc ∷ []) in
    record {
      due = rw items (c.loop-entry.invariant.due ∙ epc_more _ _ _ _ _ _ _ h at is);
      size = rw (items, one) (omega (arith, size));
    }

pub returns-clause-is : goal.returns-clause-is
returns-clause-is c =
    let h : length c.args.entries.now ≤ c.loop-entry.entry-index = omega arith in
    c.loop-entry.invariant.due ∙ epc_end _ _ _ _ h
