use Rattle.pack_tree.proofs.ManyLaws.{put_and_back, take_and_back}
use Rattle.pack_tree.proofs.Shelves.{marked_back}
use Rattle.pack_tree.proofs.laws.changes_go_back.Goals as goal

pub returns-clause-put : goal.returns-clause-put
returns-clause-put c = put_and_back

pub returns-clause-taken : goal.returns-clause-taken
returns-clause-taken c = take_and_back

pub returns-clause-marked : goal.returns-clause-marked
returns-clause-marked c = marked_back
