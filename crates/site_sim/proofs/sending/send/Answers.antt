use Rattle.std.proofs.Common.{◌∙◌, false, sym, ap}
use Rattle.site_store.specs.Open.{store_state}
use Rattle.site_sim.specs.Requests.{send}
use Rattle.site_sim.proofs.Keeping.{asked, last_fits, small_later}
use Rattle.site_sim.proofs.Turned.{accepted_is, left_so, came_answers, other_answers}
use Rattle.site_sim.proofs.Gone.{one_went}
use Rattle.site_sim.proofs.Noticed.{if_ok, of_ok, on_ok, when_ok, came_bound, came_stands, left_stands}
use Rattle.site_sim.proofs.sending.send.Goals as goal

pub ask_of-requires-clause-few : goal.ask_of-requires-clause-few
ask_of-requires-clause-few g c = last_fits c.args.known.now c.args.request c.requires.stands.small c.requires.few

pub take_note-requires-clause-small : goal.take_note-requires-clause-small
take_note-requires-clause-small g c = small_later c.args.known.now c.requires.stands.small

pub take_note-requires-clause-serials : goal.take_note-requires-clause-serials
take_note-requires-clause-serials g c =
    let s = c.args.store.now in
    let u = c.turn-coming.new.store in
    let t = c.turn-coming.ensures.turns in
    let st = c.requires.stands in
    let asks = asked s.site.history c.args.known.now (send c.args.request c.args.again) c.in-Ok.ask st.knows c.in-Ok.ensures.ask in
    came_bound c.numbers_mean_one_thing.ensures.one (store_state s) (store_state u) c.site.result.now.setup c.site.result.now.history c.args.known.now c.args.request c.args.again c.in-Ok.ask t.0 t.3.0 c.turn-coming.result c.in-Came.reply st.none asks t.3.2 t.3.1 c.in-Came.is
    st.knows (ap (λ v. v.setup) c.site.ensures ∙ c.turn-coming.ensures.setup) (ap (λ v. v.history) c.site.ensures) c.tell_kept.ensures.sound

pub returns-in-Came-clause-went : goal.returns-in-Came-clause-went
returns-in-Came-clause-went g c =
    let s = c.args.store.now in
    let u = c.turn-coming.new.store in
    let t = c.turn-coming.ensures.turns in
    let st = c.requires.stands in
    let asks = asked s.site.history c.args.known.now (send c.args.request c.args.again) c.in-Ok.ask st.knows c.in-Ok.ensures.ask in
    let accepted = accepted_is t.3.0 c.turn-coming.result c.in-Came.reply t.3.1 c.in-Came.is in
    if_ok c.take_note.result _
    (λ going is. (record { outcome = t.3.0; taken = t.0 }, one_went (store_state s) (send c.args.request c.args.again) c.in-Ok.ask t.3.0 t.0 going (store_state u) _ _ _ _ asks t.3.2 (of_ok c.take_note.result _ going c.take_note.ensures.going is ∙ sym accepted) (came_answers t.3.0 c.turn-coming.result c.in-Came.reply t.3.1 c.in-Came.is) t.1 t.2))

pub returns-in-Came-clause-stands : goal.returns-in-Came-clause-stands
returns-in-Came-clause-stands g c =
    let s = c.args.store.now in
    let u = c.turn-coming.new.store in
    let t = c.turn-coming.ensures.turns in
    let st = c.requires.stands in
    let e = c.turn-coming.ensures in
    let n = c.take_note.ensures in
    let asks = asked s.site.history c.args.known.now (send c.args.request c.args.again) c.in-Ok.ask st.knows c.in-Ok.ensures.ask in
    on_ok c.take_note.result _
    (λ going is. came_stands g.D.Disk g.C.Clock g.W.Words c.numbers_mean_one_thing.ensures.one (store_state s) u c.args.known.now c.take_note.new.known c.args.request c.args.again c.in-Ok.ask t.0 t.3.0 c.turn-coming.result c.in-Came.reply st.none asks t.3.2 t.3.1 c.in-Came.is
    e.opens e.setup st.knows st.small st.named (when_ok c.take_note.result _ going n.learns is) n.stays)

pub returns-in-Other-clause-went : goal.returns-in-Other-clause-went
returns-in-Other-clause-went g c =
    let s = c.args.store.now in
    let u = c.turn-coming.new.store in
    let t = c.turn-coming.ensures.turns in
    let st = c.requires.stands in
    let asks = asked s.site.history c.args.known.now (send c.args.request c.args.again) c.in-Ok.ask st.knows c.in-Ok.ensures.ask in
    let left = left_so (store_state s) c.in-Ok.ask t.0 t.3.0 (store_state u) c.turn-coming.result st.none t.3.2 t.3.1 c.in-Other.is in
    (record { outcome = t.3.0; taken = t.0 }, one_went (store_state s) (send c.args.request c.args.again) c.in-Ok.ask t.3.0 t.0 false (store_state u) _ _ _ _ asks t.3.2 (sym left.1) (other_answers t.3.0 c.turn-coming.result t.3.1 c.in-Other.is) t.1 t.2)

pub returns-in-Other-clause-stands : goal.returns-in-Other-clause-stands
returns-in-Other-clause-stands g c =
    let s = c.args.store.now in
    let u = c.turn-coming.new.store in
    let t = c.turn-coming.ensures.turns in
    let st = c.requires.stands in
    let e = c.turn-coming.ensures in
    left_stands g.D.Disk g.C.Clock g.W.Words (store_state s) u c.args.known.now c.in-Ok.ask t.0 t.3.0 c.turn-coming.result st.none t.3.2 t.3.1 c.in-Other.is e.opens e.setup st.knows st.small st.named
