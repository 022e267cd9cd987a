use Rattle.std.proofs.Common.{List, ℕ, Option, ap, ◌∙◌, subst}
use Rattle.outside.specs.Disks.{Only}
use Rattle.gate_journal.specs.Readings.{LoadedFrom}
use Rattle.gate_journal.proofs.Loading.{gate_there}
use Rattle.gate_journal.proofs.journal.Journal.load.Goals as goal

pub invariant_of-journal : goal.invariant_of-journal
invariant_of-journal g c =
    let content = g.D.Disk.content in
    let image = g.D.Disk.image in
    let read = c.in-Ok-journal.ensures in
    let only : Only (content c.args.disk) (image c.into_disk.result) = λ d left.
    c.in-Ok.ensures.synced d (subst (λ disk. image disk d) c.new-reader.ensures.disk (read.untouched.no_more d (subst (λ disk. image disk d) c.into_disk.ensures left))) in
    let found : LoadedFrom (content c.args.disk) c.in-Ok-journal.loaded c.in-Ok-journal.end =
    subst (λ (told : Option (List ℕ)). LoadedFrom told c.in-Ok-journal.loaded c.in-Ok-journal.end) (ap content c.new-reader.ensures.disk ∙ c.in-Ok.ensures.untouched.content_same) read.found in
    record {
      there = gate_there (content c.args.disk) (image c.into_disk.result) c.in-Ok-journal.loaded c.in-Ok-journal.end only found;
      pending_there = λ n is. absurd (cc);
    }
