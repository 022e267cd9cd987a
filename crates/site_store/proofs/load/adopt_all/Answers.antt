use Rattle.std.specs.Vec.Iter.{into_iter_items}
use Rattle.std.proofs.Common.{◌∙◌}
use Rattle.site_store.proofs.Replaying.{adopted, items_go, refused, first_proper, rest_proper}
use Rattle.site_store.proofs.load.adopt_all.Goals as goal

pub adopt_one-requires : goal.adopt_one-requires
adopt_one-requires c =
    record { proper = first_proper (into_iter_items c.entries.rest) (into_iter_items c.next.new.self) c.in-Some.entry c.in-Some.ensures.items c.entries.invariant.proper }

pub entries-preserved : goal.entries-preserved
entries-preserved c =
    let was = c.entries.invariant in
    let s = c.entries.site in
    record {
      setup = c.in-Ok.ensures.setup ∙ was.setup;
      items = items_go c.adopt_one.new.site.history s.history (into_iter_items c.entries.rest) (into_iter_items c.next.new.self) _ c.in-Some.entry c.in-Ok.ensures.history c.in-Some.ensures.items was.items;
      lawful = adopted c.args.site.now.setup s.setup s.history c.adopt_one.new.site.history c.in-Some.entry was.setup was.lawful c.in-Ok.ensures.follows c.in-Ok.ensures.history;
      proper = rest_proper (into_iter_items c.entries.rest) (into_iter_items c.next.new.self) c.in-Some.entry c.in-Some.ensures.items was.proper;
    }

pub returns-in-Err-clause-spoils : goal.returns-in-Err-clause-spoils
returns-in-Err-clause-spoils c is lawful =
    let was = c.entries.invariant in
    let s = c.entries.site in
    refused c.args.site.now.setup s.setup s.history (into_iter_items c.entries.rest) (into_iter_items c.next.new.self) _ c.in-Some.entry was.setup c.in-Some.ensures.items was.items (c.in-Err.ensures.spoils is) lawful
