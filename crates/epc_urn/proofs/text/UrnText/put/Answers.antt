use Rattle.std.proofs.Common.{◌++◌, arith, rules, ap, ◌∙◌}
use Rattle.epc_urn.proofs.Buffer.{put_behind_at}
use Rattle.epc_urn.proofs.text.UrnText.put.Goals as goal

pub invariant_of-self : goal.invariant_of-self
invariant_of-self c = (put_behind_at c.self.inside.bytes c.copy_from_slice.new.self c.args.more.now c.self.inside.len c.from-at.result _ c.self.invariant (search rules) c.from-at.ensures (omega arith) (search rules)).0

pub returns-clause-is : goal.returns-clause-is
returns-clause-is c = (put_behind_at c.self.inside.bytes c.copy_from_slice.new.self c.args.more.now c.self.inside.len c.from-at.result _ c.self.invariant (search rules) c.from-at.ensures (omega arith) (search rules)).1 ∙ ap (λ t. t ++ c.args.more.now) c.self.view_is
