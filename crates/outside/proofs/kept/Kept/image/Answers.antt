use Rattle.std.proofs.Common.{subst, sym, List, ℕ}
use Rattle.outside.specs.MemoryDisks.{IsImage}
use Rattle.outside.proofs.Images.{synced_image}
use Rattle.outside.proofs.kept.Kept.image.Goals as goal

pub returns-in-Some-clause-image : goal.returns-in-Some-clause-image
returns-in-Some-clause-image c =
    subst (λ (l : List ℕ). IsImage c.args.self.bytes.items c.args.self.unsynced l) (sym c.undo_all.ensures) (synced_image c.args.self.bytes.items c.args.self.unsynced c.in-Some.unsynced c.in-Some.is)
