use Rattle.std.proofs.Common.{◌≡◌, ◌∙◌, true, All, List, sym, ap, subst}
use Rattle.std.specs.List.{AllByRecursion as Every}
use Rattle.std.specs.Prelude.{filter_map}
use Rattle.deed_words.specs.Happenings.{has_event, moves}
use Rattle.deed_words.specs.Setups.{Setup}
use Rattle.deed_words.specs.declared.entry.Move.{Move}
use Rattle.epcis_events.specs.Events.{event_of, events}
use Rattle.epcis_events.specs.Replaying.{replay_from}
use Rattle.site_sim.proofs.Blocks.{all_replayed, block_every, block_has_events, block_of, none_left, none_replayed, of_block, went_round}
use Rattle.site_sim.proofs.replaying.replay_site.Goals as goal

pub rounds-init : goal.rounds-init
rounds-init c = none_replayed (events c.args.site.now.setup c.args.site.now.history) c.new-replay.result c.new-replay.ensures

pub returns-then-count-eq0-clause-replay : goal.returns-then-count-eq0-clause-replay
returns-then-count-eq0-clause-replay c =
    let s = c.args.site.now in
    let at = c.rounds.at in
    let block = c.in_ok-block.block in
    let laws = c.moves_have_events.ensures in
    let each = laws.each s.setup s.history in
    let is = block_of s.setup s.history at block c.in_ok-block.ensures in
    let count = laws.count s.setup block (subst (Every (λ (m : Move). has_event m.kept.deed ≡ true)) (sym is) (block_every at (moves s.setup s.history) each)) in
    let part = of_block s.setup s.history at (laws.part s.setup (moves s.setup s.history) at 64 each) in
    (all_replayed (events s.setup s.history) c.rounds.replay at c.rounds.invariant (none_left s.setup s.history block at c.len-count.result part count is c.len-count.ensures c.if-count-eq0.true)).0

pub returns-then-count-eq0-clause-count : goal.returns-then-count-eq0-clause-count
returns-then-count-eq0-clause-count c =
    let s = c.args.site.now in
    let at = c.rounds.at in
    let block = c.in_ok-block.block in
    let laws = c.moves_have_events.ensures in
    let each = laws.each s.setup s.history in
    let is = block_of s.setup s.history at block c.in_ok-block.ensures in
    let count = laws.count s.setup block (subst (Every (λ (m : Move). has_event m.kept.deed ≡ true)) (sym is) (block_every at (moves s.setup s.history) each)) in
    let part = of_block s.setup s.history at (laws.part s.setup (moves s.setup s.history) at 64 each) in
    (all_replayed (events s.setup s.history) c.rounds.replay at c.rounds.invariant (none_left s.setup s.history block at c.len-count.result part count is c.len-count.ensures c.if-count-eq0.true)).1

pub feed_all-requires : goal.feed_all-requires
feed_all-requires c =
    let s = c.args.site.now in
    let at = c.rounds.at in
    let is = block_of s.setup s.history at c.in_ok-block.block c.in_ok-block.ensures in
    subst (All (λ (m : Move). has_event m.kept.deed ≡ true)) (sym (c.as_slice.ensures ∙ is)) (block_has_events at (moves s.setup s.history) (c.moves_have_events.ensures.each s.setup s.history))

pub rounds-preserved : goal.rounds-preserved
rounds-preserved c =
    let s = c.args.site.now in
    let at = c.rounds.at in
    let block = c.in_ok-block.block in
    let laws = c.moves_have_events.ensures in
    let each = laws.each s.setup s.history in
    let is = block_of s.setup s.history at block c.in_ok-block.ensures in
    let count = laws.count s.setup block (subst (Every (λ (m : Move). has_event m.kept.deed ≡ true)) (sym is) (block_every at (moves s.setup s.history) each)) in
    let part = of_block s.setup s.history at (laws.part s.setup (moves s.setup s.history) at 64 each) in
    let next =
    c.in_ok-feed_all.ensures ∙ ap (λ (site : Setup). replay_from c.rounds.replay (filter_map (event_of site) c.as_slice.result.now)) c.setup.ensures
    ∙ ap (λ (ms : List Move). replay_from c.rounds.replay (filter_map (event_of s.setup) ms)) c.as_slice.ensures in
    went_round s.setup s.history block c.rounds.replay c.feed_all.new.replay at c.len-count.result part count c.rounds.invariant is next c.len-count.ensures
