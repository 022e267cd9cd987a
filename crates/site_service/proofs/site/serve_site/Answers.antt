use Rattle.std.proofs.Common.{◌∙◌, map, sym, ap, subst, arith, rules}
use Rattle.std.specs.List.{list_any}
use Rattle.site_store.specs.Open.{HasBegun}
use Rattle.site_turns.specs.Origins.{at_desk}
use Rattle.site_service.specs.Workers.{pass_of, door_of, has_failed}
use Rattle.site_service.specs.Sites.{served_end}
use Rattle.site_service.proofs.Rows.{ready, crew_again, all_served, first_of_row, long_rev}
use Rattle.site_service.proofs.Left.{served, not_loaded, no_memory}
use Rattle.site_service.proofs.site.serve_site.Goals as goal

pub serve_each-requires-after_bounds : goal.serve_each-requires-after_bounds
serve_each-requires-after_bounds g c κs within =
    let made = c.in-Ok-start.ensures in
    let p = c.pair-passes.ensures in
    let ws = c.pair-passes.result.2.items in
    let n = long_rev door_of ws c.args.doors.items p.doors in
    (omega (arith, c.pair-passes.result.2.ok.0, n, c.requires.count.0, c.args.doors.ok.0), ready g.G.Door.state c.in-Ok-start.started.0 c.in-Ok-start.started.1.items c.args.doors.items ws p.passes p.doors made.crew made.fresh c.requires.unopened)

pub part-passes-requires : goal.part-passes-requires
part-passes-requires g c =
    let p = c.pair-passes.ensures in
    let passes = c.in-Ok-start.started.1 in
    let ws = c.pair-passes.result.2.items in
    let workers = c.serve_each.new.workers in
    let n = long_rev pass_of ws passes.items p.passes in
    let m = long_rev door_of ws c.args.doors.items p.doors in
    let room = p.room in
    record {
      room = (
        room.0,
        omega (arith, workers.ok.0, c.serve_each.ensures.long, n, passes.ok.0, passes.ok.1, room.1),
        room.2,
        omega (arith, workers.ok.0, c.serve_each.ensures.long, m, c.args.doors.ok.0, c.args.doors.ok.1, room.3),
      );
    }

pub close-store-requires-clause-crew : goal.close-store-requires-clause-crew
close-store-requires-clause-crew g c =
    let made = c.in-Ok-start.ensures in
    let p = c.pair-passes.ensures in
    let q = c.part-passes.ensures in
    let ws = c.pair-passes.result.2.items in
    let ws' = c.serve_each.new.workers.items in
    let n = long_rev door_of ws c.args.doors.items p.doors in
    crew_again g.G.Door.state c.in-Ok-start.started.0 c.in-Ok-start.started.1.items c.part-passes.result.0.items ws ws' p.passes q.passes c.serve_each.ensures.long c.serve_each.ensures.each made.crew (first_of_row ws (omega (arith, n, c.requires.count.0, c.args.doors.ok.0)))

pub returns : goal.returns
returns g c =
    let e = c.in-Ok.ensures in
    let made = c.in-Ok-start.ensures in
    let p = c.pair-passes.ensures in
    let q = c.part-passes.ensures in
    let ws = c.pair-passes.result.2.items in
    let ws' = c.serve_each.new.workers.items in
    let place = c.in-Ok-start.started.0 in
    let n = long_rev door_of ws c.args.doors.items p.doors in
    let all = all_served g.G.Door.state place c.in-Ok-start.started.1.items c.part-passes.result.0.items c.args.doors.items c.part-passes.result.1.items ws ws' _
    p.passes q.passes p.doors q.doors c.serve_each.ensures.long c.serve_each.ensures.each made.crew made.fresh (first_of_row ws (omega (arith, n, c.requires.count.0, c.args.doors.ok.0))) c.close-store.ensures.notes in
    let i = c.into_devices-2.ensures in
    record {
      served = served g.D.Disk g.C.Clock g.W.Words g.G.Door.state c.in-Ok.store c.close-store.result.store c.args.devices c.into_devices-2.result place.origin c.args.doors.items c.part-passes.result.1.items (list_any has_failed ws') c.served_end-end.result e.reads e.opened.0 e.opened.1
          made.origin c.close-store.ensures.origin c.close-store.ensures.sound all i.disk i.clock i.words (c.served_end-end.ensures ∙ ap served_end (search rules));
    }
