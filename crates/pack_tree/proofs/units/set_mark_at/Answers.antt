use Rattle.std.proofs.Common.{sym}
use Rattle.pack_tree.proofs.Shelves.{marked_set}
use Rattle.pack_tree.proofs.units.set_mark_at.Goals as goal

pub returns-clause-rows : goal.returns-clause-rows
returns-clause-rows c = marked_set c.args.rows.now.items c.args.at c.index-old.result.now c.args.mark c.requires (sym c.index-old.ensures)
