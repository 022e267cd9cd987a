use Rattle.site_server.proofs.answers.gather.Goals as goal

pub returns-in-Some : goal.returns-in-Some
returns-in-Some c = (c.in-Some.post, c.in-Some.ensures, c.push_back_reserved.ensures.items)
