use Rattle.std.proofs.Common.{length}
use Rattle.std.specs.Int.{w16, to_be_bytes}
use Rattle.gs1_keys.specs.Keys.{IsGtin}
use Rattle.entry_bytes.specs.declared.version.Version.TheVariants.{Second}
use Rattle.entry_bytes.specs.Sites.{product_in}
use Rattle.entry_bytes.proofs.Putting.{put_behind}
use Rattle.entry_bytes.proofs.site_writing.put_products.Goals as goal

pub loop-item-preserved : goal.loop-item-preserved
loop-item-preserved c = put_behind (product_in Second) (λ product. IsGtin product.gtin) c.args.out.now.items (to_be_bytes w16 (length c.args.items.now)) c.args.items.now c.loop-item.item-index c.item-item.result c.loop-item.out.items c.put_product.new.out.items c.loop-item-test.true c.item-item.is c.loop-item.invariant c.in_ok-put_product.ensures.bytes c.in_ok-put_product.ensures.kept
