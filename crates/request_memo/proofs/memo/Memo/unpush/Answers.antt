use Rattle.std.proofs.Common.{List, refl, ap, sym, ◌∙◌, arith}
use Rattle.request_memo.specs.declared.page.Told.{Told}
use Rattle.request_memo.specs.Memos.{Pages, with_told}
use Rattle.request_memo.proofs.Shelving.{part_set, told_at, room_at, put_back}
use Rattle.request_memo.proofs.memo.Memo.unpush.Goals as goal

pub returns-clause-told : goal.returns-clause-told
returns-clause-told c =
    let at = c.from.ensures ∙ c.station.view_is in
    let page = told_at c.self.inside.pages.items c.args.self.now c.from.result c.args.station c.index_mut-page.result.now c.self.view_is at c.requires.station c.index_mut-page.ensures.value in
    let left = part_set (λ page. page.told.items) c.self.inside.pages.items c.args.self.now.told c.from.result c.args.station c.unpush-told.new.self c.unpush-told.new.self.told.items (ap (λ (p : Pages). p.told) c.self.view_is) at refl in
    sym (ap (λ (ts : List (List Told)). with_told ts c.args.station c.unpush-told.result) left ∙ put_back c.args.self.now.told c.args.station c.unpush-told.new.self.told.items c.unpush-told.result c.requires.station (page ∙ c.unpush-told.ensures.told))

pub returns-clause-room : goal.returns-clause-room
returns-clause-room c =
    let at = c.from.ensures ∙ c.station.view_is in
    let page = room_at c.self.inside.pages.items c.args.self.now c.from.result c.args.station c.index_mut-page.result.now c.self.view_is at c.requires.station c.index_mut-page.ensures.value in
    part_set (λ page. page.room) c.self.inside.pages.items c.args.self.now.room c.from.result c.args.station c.unpush-told.new.self _ (ap (λ (p : Pages). p.room) c.self.view_is) at
    (omega (arith, c.unpush-told.ensures.room, page))
