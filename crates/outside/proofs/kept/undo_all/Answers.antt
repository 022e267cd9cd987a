use Rattle.std.proofs.Common.{List, ap, sym, ◌∙◌}
use Rattle.outside.specs.MemoryDisks.{all_undone}
use Rattle.outside.specs.declared.named.Named.{Named}
use Rattle.outside.proofs.Undoing.{last_fits, others}
use Rattle.outside.proofs.kept.undo_all.Goals as goal

pub undo-requires : goal.undo-requires
undo-requires c =
    last_fits c.pop.new.self.items c.in-Some.write c.writes.bytes.items c.args.unsynced.synced.value.items (ap (λ (l : List Named). all_undone l c.writes.bytes.items) (sym c.in-Some.ensures.items) ∙ c.writes.invariant)

pub writes-preserved : goal.writes-preserved
writes-preserved c =
    others c.pop.new.self.items c.in-Some.write c.writes.bytes.items c.undo.new.bytes.items c.args.unsynced.synced.value.items (ap (λ (l : List Named). all_undone l c.writes.bytes.items) (sym c.in-Some.ensures.items) ∙ c.writes.invariant) c.undo.ensures
