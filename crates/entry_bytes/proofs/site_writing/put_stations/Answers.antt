use Rattle.std.proofs.Common.{[], ◌∷◌, length}
use Rattle.gs1_keys.specs.Keys.{IsText}
use Rattle.entry_bytes.specs.Sites.{station_bytes}
use Rattle.entry_bytes.proofs.Putting.{put_behind}
use Rattle.entry_bytes.proofs.site_writing.put_stations.Goals as goal

pub loop-item-preserved : goal.loop-item-preserved
loop-item-preserved c = put_behind station_bytes (λ station. IsText station.name) c.args.out.now.items (length c.args.items.now ∷ []) c.args.items.now c.loop-item.item-index c.item-item.result c.loop-item.out.items c.put_station.new.out.items c.loop-item-test.true c.item-item.is c.loop-item.invariant c.in_ok-put_station.ensures.bytes c.in_ok-put_station.ensures.kept
