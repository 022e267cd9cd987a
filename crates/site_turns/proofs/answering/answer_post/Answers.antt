use Rattle.std.proofs.Common.{◌≡◌, List, ℕ, Result, Err, refl, sym, subst}
use Rattle.deed_words.specs.Stations.{station_of}
use Rattle.deed_words.specs.declared.entry.Ask.{Ask}
use Rattle.deed_json.specs.Asked.{body_of}
use Rattle.deed_json.specs.declared.ask.AskFault.{AskFault}
use Rattle.deed_json.specs.declared.ask.AskFault.TheVariants.{BadDeed, BadLine, NoStation}
use Rattle.site_answers.specs.Saying.{Answer}
use Rattle.site_turns.specs.Answering.{Posts}
use Rattle.site_turns.specs.Posts.{posted}
use Rattle.site_turns.specs.Turns.{IsPosted, IsToldFirst}
use Rattle.site_turns.proofs.Turning.{answers_read, answers_unread, due_is, no_station, no_turn, posted_bad, posted_line, read_asks, turned_as, wanting_post}
use Rattle.site_turns.proofs.answering.answer_post.Goals as goal

pub unreachable-requires : goal.unreachable-requires
unreachable-requires g c =
    let told = c.in-Err-NoStation in
    no_station c.args.body.now (due_is (body_of c.args.body.now) told.field-0 NoStation told.field-0-is (λ e. cc) told.ensures.said)

pub returns-in-Ok-clause-turned : goal.returns-in-Ok-clause-turned
returns-in-Ok-clause-turned g c =
    let origin = c.args.desk.now.origin in
    let worker = c.args.pass.now.worker in
    let post = c.in-Ok.post in
    let said : Answer = c.answer_one.result in
    let asks = read_asks origin.setup c.args.station c.args.number c.args.body.now post c.in-Ok.ensures.said c.in-Ok.ensures.asks.0 c.in-Ok.ensures.asks.1 in
    turned_as worker c.args.pass.now.seen c.answer_one.new.pass.seen (λ xs ys. IsPosted origin worker post xs ys said) (λ xs ys. Posts origin worker (posted origin.setup c.args.station c.args.number c.args.body.now) xs ys said)
    (λ xs ys is. subst (λ (asked : Result Ask AskFault). Posts origin worker asked xs ys said) (sym asks) (answers_read origin worker post xs ys said is)) c.answer_one.ensures.turned

pub returns-in-Err-Memory-clause-turned : goal.returns-in-Err-Memory-clause-turned
returns-in-Err-Memory-clause-turned g c =
    let origin = c.args.desk.now.origin in
    let worker = c.args.pass.now.worker in
    let said : Answer = c.fault.result in
    let asked = posted origin.setup c.args.station c.args.number c.args.body.now in
    no_turn worker c.args.pass.now.seen (λ xs ys. Posts origin worker asked xs ys said) (wanting_post origin worker asked c.args.pass.now.seen said c.fault.ensures)

pub returns-in-Err-BadLine-clause-turned : goal.returns-in-Err-BadLine-clause-turned
returns-in-Err-BadLine-clause-turned g c =
    let origin = c.args.desk.now.origin in
    let worker = c.args.pass.now.worker in
    let seen = c.args.pass.now.seen in
    let said : Answer = c.unasked_response.result in
    let told = c.in-Err-BadLine in
    let line = posted_line origin.setup c.args.station c.args.number c.args.body.now (due_is (body_of c.args.body.now) told.field-0 BadLine told.field-0-is (λ e. cc) told.ensures.said) in
    no_turn worker seen (λ xs ys. Posts origin worker (posted origin.setup c.args.station c.args.number c.args.body.now) xs ys said)
    (subst (λ (asked : Result Ask AskFault). Posts origin worker asked seen seen said) (sym line) (refl, c.unasked_response.ensures))

pub returns-in-Err-BadDeed-clause-turned : goal.returns-in-Err-BadDeed-clause-turned
returns-in-Err-BadDeed-clause-turned g c =
    let origin = c.args.desk.now.origin in
    let worker = c.args.pass.now.worker in
    let said : Answer = c.answer_unread.result in
    let told = c.in-Err-BadDeed in
    let asked = posted_bad origin.setup c.args.station c.args.number c.args.body.now told.broken (due_is (body_of c.args.body.now) told.field-0 (BadDeed told.broken) told.field-0-is (λ e. cc) told.ensures.said) in
    turned_as worker c.args.pass.now.seen c.answer_unread.new.pass.seen (λ xs ys. IsToldFirst (station_of origin.setup c.args.station) (BadDeed told.broken) xs ys said) (λ xs ys. Posts origin worker (posted origin.setup c.args.station c.args.number c.args.body.now) xs ys said)
    (λ xs ys is. subst (λ (asked : Result Ask AskFault). Posts origin worker asked xs ys said) (sym asked) (answers_unread origin worker (station_of origin.setup c.args.station) (BadDeed told.broken) xs ys said is)) c.answer_unread.ensures.turned
