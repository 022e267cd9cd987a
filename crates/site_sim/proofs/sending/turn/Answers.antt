use Rattle.std.proofs.Common.{◌<◌, ◌∙◌, length, sym, subst}
use Rattle.deed_words.specs.Setups.{Setup}
use Rattle.site_sim.specs.Example as example
use Rattle.site_store.specs.Open.{store_state}
use Rattle.site_store.specs.Standing.{end_of}
use Rattle.site_sim.proofs.Turned.{blamed, none_pending, turned}
use Rattle.site_sim.proofs.sending.turn.Goals as goal

pub submit-requires-clause-station : goal.submit-requires-clause-station
unfolding example.site
submit-requires-clause-station g c = subst (λ (s : Setup). c.args.ask.station < length s.stations) (sym c.requires.setup) c.requires.station

pub returns : goal.returns
returns g c =
    let s = c.args.store.now in
    let u = c.submit.new.self in
    let e = c.submit.ensures in
    let t = e.steps in
    let is = c.coming_of.ensures in
    let step = turned s.site.setup (end_of s.journal.end s.journal.pending) (store_state s) c.args.ask t.0 c.submit.result (store_state u) t.3.0 c.requires.setup c.requires.opens.sound.kept.in_reach t.3.3 in
    record {
      turns = (t.0, t.1, t.2, (c.submit.result, is, step));
      none = none_pending (store_state s) c.args.ask t.0 c.submit.result (store_state u) c.coming_of.result c.requires.none step is;
      cause = blamed (store_state s) c.args.ask t.0 c.submit.result (store_state u) c.coming_of.result _ _ c.requires.none step is e.disk;
      opens = e.open;
      setup = e.setup ∙ c.requires.setup;
    }
