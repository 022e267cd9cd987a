use Rattle.std.proofs.Common.{rules}
use Rattle.gs1_keys.proofs.Forming.{form_is}
use Rattle.gs1_keys.proofs.form.SerialForm.has.Goals as goal

pub returns-then-bytes-from : goal.returns-then-bytes-from
returns-then-bytes-from c = form_is c.args.self.now c.args.text.now c.bytes-bytes.result.now c.from.result c.has_all.result c.bytes-bytes.ensures.is (search rules) (search rules) (search rules)
