use Rattle.std.proofs.Common.{ap}
use Rattle.deed_words.specs.declared.reply.Answer.{Answer}
use Rattle.deed_words.specs.declared.reply.Reply.TheVariants.{Accepted}
use Rattle.deed_words.specs.Once.{listed}
use Rattle.site_sim.proofs.Unlisted.{drawn_nothing}
use Rattle.site_sim.proofs.known.Known.take_in.Goals as goal

pub returns-in-Made-clause-serials : goal.returns-in-Made-clause-serials
unfolding listed
returns-in-Made-clause-serials c = drawn_nothing c.args.self.now.serials c.args.request (Accepted c.args.answer) (ap (λ (a : Answer). listed (Accepted a)) c.in-Made.is)

pub returns-in-Plain-clause-serials : goal.returns-in-Plain-clause-serials
unfolding listed
returns-in-Plain-clause-serials c = drawn_nothing c.args.self.now.serials c.args.request (Accepted c.args.answer) (ap (λ (a : Answer). listed (Accepted a)) c.in-Plain.is)

pub returns-in-Orders-clause-serials : goal.returns-in-Orders-clause-serials
unfolding listed
returns-in-Orders-clause-serials c = drawn_nothing c.args.self.now.serials c.args.request (Accepted c.args.answer) (ap (λ (a : Answer). listed (Accepted a)) c.in-Orders.is)

pub returns-in-Taken-clause-serials : goal.returns-in-Taken-clause-serials
unfolding listed
returns-in-Taken-clause-serials c = drawn_nothing c.args.self.now.serials c.args.request (Accepted c.args.answer) (ap (λ (a : Answer). listed (Accepted a)) c.in-Taken.is)
