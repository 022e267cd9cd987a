use Rattle.std.proofs.Common.{◌≤◌, ℕ, max, sym, subst, ap, ◌∙◌, arith}
use Rattle.std.proofs.lemmas.Result.{on_ok_weaker, on_err_weaker}
use Rattle.request_memo.specs.Memos.{Pages}
use Rattle.request_memo.proofs.Shelving.{part_set, part_same, told_at, room_at, room_here}
use Rattle.request_memo.proofs.memo.Memo.ready_for.Goals as goal

pub returns-clause-told : goal.returns-clause-told
returns-clause-told c =
    let at = c.from.ensures ∙ c.station.view_is in
    let page = told_at c.self.inside.pages.items c.args.self.now c.from.result c.args.station c.index_mut-page.result.now c.self.view_is at c.requires c.index_mut-page.ensures.value in
    part_same (λ page. page.told.items) c.self.inside.pages.items c.args.self.now.told c.from.result c.args.station c.ready.new.self _ (ap (λ (p : Pages). p.told) c.self.view_is) at (c.ready.ensures.told ∙ sym page)

pub returns-clause-ok : goal.returns-clause-ok
returns-clause-ok c =
    let at = c.from.ensures ∙ c.station.view_is in
    on_ok_weaker c.ready.result (λ e.
    let here = room_here c.self.inside.pages.items c.args.self.now c.from.result c.args.station c.ready.new.self c.self.view_is at c.requires in
    subst (λ (n : ℕ). c.args.more ≤ n) (sym here) (omega (arith, e))) c.ready.ensures.ok

pub returns-clause-room : goal.returns-clause-room
returns-clause-room c =
    let at = c.from.ensures ∙ c.station.view_is in
    let page = room_at c.self.inside.pages.items c.args.self.now c.from.result c.args.station c.index_mut-page.result.now c.self.view_is at c.requires c.index_mut-page.ensures.value in
    on_ok_weaker c.ready.result (λ e. part_set (λ page. page.room) c.self.inside.pages.items c.args.self.now.room c.from.result c.args.station c.ready.new.self _ (ap (λ (p : Pages). p.room) c.self.view_is) at
    (e ∙ ap (λ (n : ℕ). max n c.args.more) (sym page))) c.ready.ensures.ok

pub returns-clause-err : goal.returns-clause-err
returns-clause-err c =
    let at = c.from.ensures ∙ c.station.view_is in
    let page = room_at c.self.inside.pages.items c.args.self.now c.from.result c.args.station c.index_mut-page.result.now c.self.view_is at c.requires c.index_mut-page.ensures.value in
    on_err_weaker c.ready.result (λ e. part_same (λ page. page.room) c.self.inside.pages.items c.args.self.now.room c.from.result c.args.station c.ready.new.self _ (ap (λ (p : Pages). p.room) c.self.view_is) at
    (e ∙ sym page)) c.ready.ensures.err
