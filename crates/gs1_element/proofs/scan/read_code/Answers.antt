use Rattle.std.proofs.Common.{ap, ◌∙◌}
use Rattle.gs1_element.specs.Faults.{fault_of}
use Rattle.gs1_element.proofs.Faulting.{fault_is_first}
use Rattle.gs1_element.proofs.Whole.{is_found, code_again, one_code_each}
use Rattle.gs1_element.proofs.scan.read_code.Goals as goal

pub returns-clause-found : goal.returns-clause-found
returns-clause-found c = is_found c.args.scan.now c.code_or_fault.result c.code_or_fault.ensures

pub returns-clause-only : goal.returns-clause-only
returns-clause-only c = λ x h. c.code_or_fault.ensures ∙ code_again c.args.scan.now x h

pub returns-clause-one : goal.returns-clause-one
returns-clause-one c = one_code_each c.args.scan.now

pub returns-clause-fault : goal.returns-clause-fault
returns-clause-fault c = ap fault_of c.code_or_fault.ensures ∙ fault_is_first c.args.scan.now
