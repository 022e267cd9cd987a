use Rattle.std.proofs.Common.{◌+◌, ℕ, List, get_or, set, sym, ◌∙◌, ap, arith}
use Rattle.request_memo.specs.declared.page.Told.{Told}
use Rattle.request_memo.proofs.Shelving.{one_put, room_back, pages_same}
use Rattle.request_memo.proofs.laws.kept_and_taken_back.Goals as goal

pub returns-clause-memo : goal.returns-clause-memo
returns-clause-memo c =
    let told = one_put c.args.memo.now.told c.unpush.new.self.told c.args.station _ _ c.requires.station (sym c.push.ensures.told ∙ c.unpush.ensures.told) in
    pages_same c.unpush.new.self c.args.memo.now (sym told.0)
    (c.unpush.ensures.room ∙ ap (λ (room : List ℕ). set room c.args.station (get_or room c.args.station 0 + 1)) c.push.ensures.room
    ∙ room_back c.args.memo.now.room c.args.station c.requires.room (omega (arith, c.requires.station, c.tell_pages.ensures)))

pub returns-clause-deed : goal.returns-clause-deed
returns-clause-deed c =
    let told = one_put c.args.memo.now.told c.unpush.new.self.told c.args.station _ _ c.requires.station (sym c.push.ensures.told ∙ c.unpush.ensures.told) in
    ap (λ (t : Told). t.deed) (sym told.1)

pub returns-clause-reply : goal.returns-clause-reply
returns-clause-reply c =
    let told = one_put c.args.memo.now.told c.unpush.new.self.told c.args.station _ _ c.requires.station (sym c.push.ensures.told ∙ c.unpush.ensures.told) in
    ap (λ (t : Told). t.reply) (sym told.1)
