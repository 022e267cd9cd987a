use Rattle.std.proofs.Common.{refl}
use Rattle.outside.proofs.Images.{further_at}
use Rattle.outside.proofs.Undoing.{covers_of, further_sync, first_sync}
use Rattle.outside.proofs.kept.name_range.Goals as goal

pub returns-in_ok-push-in-Some-clause-ok : goal.returns-in_ok-push-in-Some-clause-ok
returns-in_ok-push-in-Some-clause-ok c =
    further_at c.args.unsynced.now c.in-Some.before (record { synced = c.in-Some.before.synced; writes = c.push.new.self }) c.in_ok-range.range c.args.at c.args.len c.args.bytes.now.items c.in-Some.is
    c.in_ok-range.ensures.range refl c.in_ok-push-in-Some.ensures.items c.in_ok-range.ensures.found

pub returns-in_ok-push-in-Some-clause-sync : goal.returns-in_ok-push-in-Some-clause-sync
returns-in_ok-push-in-Some-clause-sync c =
    further_sync c.args.unsynced.now c.in-Some.before (record { synced = c.in-Some.before.synced; writes = c.push.new.self }) c.in_ok-range.range c.args.at c.args.len c.args.bytes.now.items c.in-Some.is
    (covers_of c.in_ok-range.range c.args.at c.args.len c.args.bytes.now.items c.requires.there c.in_ok-range.ensures.range c.in_ok-range.ensures.covered c.in_ok-range.ensures.size) c.requires.back refl c.in_ok-push-in-Some.ensures.items

pub returns-in_ok-first_range-in-None-clause-sync : goal.returns-in_ok-first_range-in-None-clause-sync
returns-in_ok-first_range-in-None-clause-sync c =
    rw c.in-None.is (first_sync c.in_ok-first_range-in-None.field-0 c.in_ok-range.range c.args.at c.args.len c.args.bytes.now.items (covers_of c.in_ok-range.range c.args.at c.args.len c.args.bytes.now.items c.requires.there c.in_ok-range.ensures.range c.in_ok-range.ensures.covered c.in_ok-range.ensures.size) c.in_ok-first_range-in-None.ensures.0 c.in_ok-first_range-in-None.ensures.1)
