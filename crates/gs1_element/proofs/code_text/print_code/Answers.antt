use Rattle.std.proofs.Common.{◌≡◌, sym, subst, arith}
use Rattle.std.proofs.lemmas.Grind.{common_steps}
use Rattle.gs1_element.specs.Scans.{IsScan}
use Rattle.gs1_element.specs.Canonical.{canonical}
use Rattle.gs1_element.proofs.Printing.{is_scan}
use Rattle.gs1_element.proofs.Whole.{code_again}
use Rattle.gs1_element.proofs.code_text.print_code.Goals as goal

pub returns-clause-scan : goal.returns-clause-scan
returns-clause-scan c =
    let is : c.put_unit-4.new.self ≡ canonical c.args.code.now = grind (arith, common_steps) in
    subst (λ t. IsScan t c.args.code.now) (sym is) (is_scan c.args.code.now c.digits.ensures.valid c.bytes-2.ensures.valid c.bytes.ensures.valid c.requires)

pub returns-clause-again : goal.returns-clause-again
returns-clause-again c =
    let is : c.put_unit-4.new.self ≡ canonical c.args.code.now = grind (arith, common_steps) in
    code_again c.put_unit-4.new.self c.args.code.now (subst (λ t. IsScan t c.args.code.now) (sym is) (is_scan c.args.code.now c.digits.ensures.valid c.bytes-2.ensures.valid c.bytes.ensures.valid c.requires))
