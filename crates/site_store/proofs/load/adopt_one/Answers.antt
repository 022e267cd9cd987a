use Rattle.std.proofs.Common.{subst}
use Rattle.deed_words.specs.declared.entry.Entry.{Entry}
use Rattle.deed_words.specs.History.{MayFollow, world_of}
use Rattle.site_store.proofs.Replaying.{never_follows}
use Rattle.site_store.proofs.load.adopt_one.Goals as goal

pub returns-in-Ok-clause-follows : goal.returns-in-Ok-clause-follows
returns-in-Ok-clause-follows c =
    let s = c.args.site.now in
    subst (λ (e : Entry). MayFollow s.setup s.history (world_of s.setup s.history) e) c.in-Ok.ensures.entry c.in-Ok.ensures.next.follows

pub returns-in-Err-clause-spoils : goal.returns-in-Err-clause-spoils
returns-in-Err-clause-spoils c is =
    let s = c.args.site.now in
    never_follows s.setup s.history c.args.entry c.in-Err.fault c.in-Err.ensures.fault (c.refused.ensures cc)
