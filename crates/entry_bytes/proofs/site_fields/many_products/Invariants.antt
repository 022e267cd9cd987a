use Rattle.std.proofs.Common.{◌≡◌, ◌-◌, []}
use Rattle.entry_bytes.specs.Reading.{many_after}
use Rattle.entry_bytes.specs.SiteFields.{product_at}
use Rattle.entry_bytes.proofs.Loop.{with_front}
use Rattle.entry_bytes.proofs.site_fields.many_products.Given as goal

abbrev pub invariant-loop : goal.invariant-loop
invariant-loop l = with_front l.all (many_after (product_at l.version) l.all (l.count - l.counter) l.bytes) ≡ many_after (product_at l.version) [] l.count l.fn.bytes
