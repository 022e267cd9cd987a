use Rattle.site_sim.proofs.Unlisted.{refusal_teaches}
use Rattle.site_sim.proofs.known.Known.learn.Goals as goal

pub returns-in-Refused-clause-learns : goal.returns-in-Refused-clause-learns
returns-in-Refused-clause-learns c =
    let e = c.count_number.ensures in
    refusal_teaches c.args.self.now c.count_number.new.self c.args.request c.in-Refused.field-0 c.args.reply c.in-Refused.is e.planner e.line e.rest
