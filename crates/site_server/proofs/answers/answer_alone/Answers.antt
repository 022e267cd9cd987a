use Rattle.site_answers.specs.Saying.{Answer}
use Rattle.site_server.proofs.Gathering.{alone_answered}
use Rattle.site_server.proofs.answers.answer_alone.Goals as goal

pub returns-clause-answered : goal.returns-clause-answered
returns-clause-answered g c =
    let said : Answer = c.answer-said.result in
    alone_answered c.args.desk.now.origin c.args.pass.now.worker c.args.asked said _ _ _ _ _ _ c.bytes.ensures c.answer-said.ensures.turned c.put_to.ensures.put
