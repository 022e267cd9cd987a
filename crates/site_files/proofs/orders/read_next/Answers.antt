use Rattle.std.proofs.Common.{inl}
use Rattle.site_files.proofs.Records.{take_next}
use Rattle.site_files.proofs.orders.read_next.Goals as goal

pub returns : goal.returns
returns c = λ recs left. take_next _ _ _ _ recs left (c.in-Ok.ensures.reads left.plain left.ready) (inl (c.in-Ok.ensures.ready left.plain))
