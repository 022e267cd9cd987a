use Rattle.std.proofs.Common.{◌≡◌, ◌++◌, length, take}
use Rattle.std.specs.Prelude.{All}
use Rattle.std.specs.Int.{w16, to_be_bytes}
use Rattle.std.specs.List.{flat_map}
use Rattle.gs1_keys.specs.Keys.{IsGtin}
use Rattle.entry_bytes.specs.declared.version.Version.TheVariants.{Second}
use Rattle.entry_bytes.specs.Sites.{product_in}
use Rattle.entry_bytes.proofs.site_writing.put_products.Given as goal

abbrev pub invariant-loop-item : goal.invariant-loop-item
invariant-loop-item l = (l.out.items ≡ l.fn.out.items ++ (to_be_bytes w16 (length l.items) ++ flat_map (product_in Second) (take l.item-index l.items))) × All (λ product. IsGtin product.gtin) (take l.item-index l.items)
