use Rattle.std.proofs.Common.{refl, ◌≡◌, ◌∙◌, ◌+◌, ◌<◌, ◌≤◌, ◌++◌, ◌∷◌, [], length, get_or, inr, arith, rules, Ok, Err, true, false}
use Rattle.std.specs.List.{IsDistinct}
use Rattle.std.proofs.lemmas.Result.{err_from_is_err_and}
use Rattle.std.proofs.lemmas.List.{length-append}
use Rattle.toml.specs.View.{view}
use Rattle.deed_words.specs.declared.setup.Product.{Product}
use Rattle.site_files.specs.Sites.{product_entry, has_gtin}
use Rattle.site_files.proofs.Entries.{all_products, one_more_differs, product_more, product_twice, product_fault, product_end}
use Rattle.site_files.proofs.site.read_products.Goals as goal

pub loop-entry-init : goal.loop-entry-init
unfolding IsDistinct
loop-entry-init c = rw c.new-products.ensures (record { due = refl; size = refl; proper = refl; differ = tt })

pub returns-in_err-product-clause-is : goal.returns-in_err-product-clause-is
returns-in_err-product-clause-is c =
    let h : c.loop-entry.entry-index < length c.args.entries.now = omega arith in
    let is : product_entry (view (get_or c.args.entries.now c.loop-entry.entry-index c.entry-item.result)) ≡ Err c.in_err-product.field-0.0 = rw (← c.entry-item.is) c.in_err-product.ensures.is in
    let p = err_from_is_err_and c.from_residual.result c.from_residual.ensures.1 in
    rw (p.1, p.2) (inr (c.loop-entry.invariant.due ∙ product_fault _ _ _ _ _ h is))

pub returns-then-has_gtin-clause-is : goal.returns-then-has_gtin-clause-is
returns-then-has_gtin-clause-is c =
    let h : c.loop-entry.entry-index < length c.args.entries.now = omega arith in
    let is : product_entry (view (get_or c.args.entries.now c.loop-entry.entry-index c.entry-item.result)) ≡ Ok c.in_ok-product.product = rw (← c.entry-item.is) (search rules) in
    let old : has_gtin c.in_ok-product.product.gtin c.loop-entry.products ≡ true = search rules in
    inr (c.loop-entry.invariant.due ∙ product_twice _ _ _ _ _ h is old)

pub loop-entry-preserved : goal.loop-entry-preserved
loop-entry-preserved c =
    let h : c.loop-entry.entry-index < length c.args.entries.now = omega arith in
    let is : product_entry (view (get_or c.args.entries.now c.loop-entry.entry-index c.entry-item.result)) ≡ Ok c.in_ok-product.product = rw (← c.entry-item.is) (search rules) in
    let new : has_gtin c.in_ok-product.product.gtin c.loop-entry.products ≡ false = search rules in
    let items : c.push.new.self ≡ c.loop-entry.products ++ c.in_ok-product.product ∷ [] = search rules in
    let size = c.loop-entry.invariant.size in
    let one : length (c.loop-entry.products ++ c.in_ok-product.product ∷ []) ≡ length c.loop-entry.products + 1 = length-append c.loop-entry.products (c.in_ok-product.product ∷ []) in
    record {
      due = rw items (c.loop-entry.invariant.due ∙ product_more _ _ _ _ _ h is new);
      size = rw (items, one) (omega (arith, size));
      proper = rw items (all_products c.loop-entry.products c.in_ok-product.product c.loop-entry.invariant.proper c.in_ok-product.ensures.proper);
      differ = rw items (one_more_differs (λ (x : Product). x.gtin) c.loop-entry.products c.in_ok-product.product c.loop-entry.invariant.differ new);
    }

pub returns-clause-is : goal.returns-clause-is
returns-clause-is c =
    let h : length c.args.entries.now ≤ c.loop-entry.entry-index = omega arith in
    c.loop-entry.invariant.due ∙ product_end _ _ _ h
