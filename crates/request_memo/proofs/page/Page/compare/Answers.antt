use Rattle.std.proofs.Common.{sym, ◌∙◌, true≢false}
use Rattle.request_memo.proofs.Looking.{kept_means, reused_means}
use Rattle.request_memo.proofs.page.Page.compare.Goals as goal

pub returns-then-same_deed : goal.returns-then-same_deed
returns-then-same_deed c = λ site history station are.
    kept_means site history station c.args.place c.args.deed.now c.args.self.now.told.items c.index-told.result.now are c.requires c.index-told.ensures (c.same_deed.ensures.0 c.if-same_deed.true)

pub returns-else-same_deed : goal.returns-else-same_deed
returns-else-same_deed c = λ site history station are.
    reused_means site history station c.args.place c.args.deed.now c.args.self.now.told.items c.index-told.result.now are c.requires c.index-told.ensures
    (λ e. true≢false (sym (c.same_deed.ensures.1 e) ∙ c.if-same_deed.false))
