use Rattle.std.proofs.Common.{◌≡◌, ◌≤◌, ◌+◌, length, map, take, Some}
use Rattle.site_rules.specs.Origins.{origin_of, row_hash}
use Rattle.site_rules.proofs.origins.origins_of.Given as goal

abbrev pub invariant-loop-row : goal.invariant-loop-row
invariant-loop-row l = record {
  hashed : l.table.hashes ≡ map row_hash (take l.row-index l.fn.rows);
  room : length l.fn.rows ≤ l.table.room + l.row-index;
  placed : length l.origins.items ≡ l.row-index;
  origins : map Some l.origins.items ≡ map (λ row. origin_of l.fn.stores.content l.fn.rows row.batch) (take l.row-index l.fn.rows);
}
