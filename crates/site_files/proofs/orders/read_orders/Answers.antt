use Rattle.std.proofs.Common.{◌∙◌, inr, sym}
use Rattle.site_files.specs.Left.{HasLeft}
use Rattle.site_files.proofs.Rows.{orders_none, orders_other, orders_more}
use Rattle.site_files.proofs.orders.read_orders.Goals as goal

pub returns-then-not-found-clause-is : goal.returns-then-not-found-clause-is
returns-then-not-found-clause-is c = inr (orders_none (HasLeft c.read_next.new.reader) _ _ _ c.if-not-found.true (c.in-Ok.ensures _ c.open-reader.ensures))

pub returns-then-not-is_header-clause-is : goal.returns-then-not-is_header-clause-is
returns-then-not-is_header-clause-is c =
    inr (orders_other (HasLeft c.read_next.new.reader) _ _ _ c.if-not-found.false (c.in-Ok.ensures _ c.open-reader.ensures) (sym c.is_header.ensures ∙ c.if-not-is_header.true))

pub returns-clause-is : goal.returns-clause-is
returns-clause-is c =
    let more = orders_more (HasLeft c.read_next.new.reader) _ _ _ c.if-not-found.false (c.in-Ok.ensures _ c.open-reader.ensures) (sym c.is_header.ensures ∙ c.if-not-is_header.false) in
    rw more.2 (c.read_rows.ensures.is more.0 more.1)
