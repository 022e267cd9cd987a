use Rattle.std.proofs.Common.{◌≡◌, ◌≤◌, ◌-◌, ℕ, List, [], length, true}
use Rattle.std.specs.List.{list_all}
use Rattle.deed_words.specs.Proper.{is_order}
use Rattle.site_files.specs.Orders.{rows_after}
use Rattle.site_files.specs.Left.{HasLeft}
use Rattle.site_files.proofs.orders.read_rows.Given as goal

abbrev pub invariant-rows : goal.invariant-rows
invariant-rows l = record {
  few : length l.rows ≤ 1000;
  proper : list_all is_order l.rows ≡ true;
  due : (recs : List (List (List ℕ))) → HasLeft l.fn.reader recs → (rest : List (List (List ℕ))) × HasLeft l.reader rest × (rows_after [] recs ≡ rows_after l.rows rest);
}

abbrev pub decreases-rows : goal.decreases-rows
decreases-rows l = 1001 - length l.rows
