use Rattle.std.proofs.Common.{◌≡◌, ◌+◌, List, ℕ, subst}
use Rattle.std.specs.Prelude.{IfOk}
use Rattle.deed_words.specs.Setups.{Setup}
use Rattle.deed_json.specs.Replies.{station_name}
use Rattle.deed_json.specs.Deeds.{deed_word}
use Rattle.site_console.specs.Logs.{line_of, operator_word, verdict_word}
use Rattle.site_console.proofs.LogLines.{line_is}
use Rattle.site_console.proofs.logging.line_at.Goals as goal

pub returns : goal.returns
returns c =
    let site = c.args.site.now in
    let logged = c.logged.result in
    let told = subst (λ (s : Setup). IfOk c.line_told.result (λ line. line.items ≡ line_of (c.args.place + 1) (station_name s logged.station) logged.number (deed_word logged.deed.now) (operator_word logged.operator) (verdict_word logged.rule))) c.setup.ensures c.line_told.ensures in
    subst (λ (text : List ℕ). IfOk c.line_told.result (λ line. line.items ≡ text)) (line_is site.setup site.history c.args.place logged c.requires c.logged.ensures) told
