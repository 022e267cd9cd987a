use Rattle.std.proofs.Common.{◌+◌, ◌-◌, ◌∙◌, arith}
use Rattle.site_core.specs.Seen.{moves_seen}
use Rattle.site_core.proofs.Making.{if_ok}
use Rattle.site_core.proofs.Owned.{between, in_order}
use Rattle.site_core.proofs.site.Site.moves.Goals as goal

pub moves_between-requires-clause-first : goal.moves_between-requires-clause-first
moves_between-requires-clause-first c =
    in_order (c.args.from - 1) (c.args.from + c.args.count - 1) c.count_moves-all.result c.place_of-first.result c.place_of-past.result (omega arith) c.place_of-first.ensures.there c.place_of-first.ensures.past c.place_of-past.ensures.there c.place_of-past.ensures.past

pub moves_between-requires-clause-past : goal.moves_between-requires-clause-past
moves_between-requires-clause-past c = let within = c.place_of-past.ensures.within in let all = c.count_moves-all.ensures in omega (arith, within, all)

pub returns : goal.returns
returns c =
    let all = c.count_moves-all.ensures in
    if_ok c.moves_between.result _ _ (λ some is. is
    ∙ between (moves_seen c.args.self.now.setup c.args.self.now.history c.args.batch) (c.args.from - 1) (c.args.from + c.args.count - 1) c.place_of-first.result c.place_of-past.result
    (λ l. c.place_of-first.ensures.there (omega (arith, l, all))) (λ l. c.place_of-first.ensures.past (omega (arith, l, all)) ∙ all)
    (λ l. c.place_of-past.ensures.there (omega (arith, l, all))) (λ l. c.place_of-past.ensures.past (omega (arith, l, all)) ∙ all)) c.moves_between.ensures
