-- A draw that breaks no rule.
use Rattle.std.proofs.Common.{◌≡◌, ◌≤◌, ◌<◌, ◌+◌, ℕ, Bool, true, false, ◌||◌, List, [], length, Option, Some, None, refl, ap, sym, ◌∙◌, subst, true≢false, arith, nat_eq, nat_lt}
use Rattle.std.specs.Prelude.{filter, option_and_then}
use Rattle.std.specs.Option.{option_map_or}
use Rattle.std.proofs.lemmas.Bool.Decides.{nat_tests}
use Rattle.std.proofs.lemmas.List.{length-map}
use Rattle.std.proofs.lemmas.Bool.{and_parts}
use Rattle.serial_pool.specs.Ends.{IsThin}
use Rattle.std.proofs.lemmas.List.Sums.{length-filter, count_by-le-length}
use Rattle.serial_pool.specs.declared.drawn.DrawnSerial.{DrawnSerial}
use Rattle.serial_pool.specs.Held.{had_of, drawn_count}
use Rattle.deed_words.specs.Names.{Text, same}
use Rattle.deed_words.specs.Setups.{Setup, product_of, half_pool, is_product}
use Rattle.deed_words.specs.World.{World, batch_of}
use Rattle.deed_words.specs.declared.setup.Product.{Product}
use Rattle.deed_words.specs.declared.world.Batch.{Batch}
use Rattle.deed_words.specs.declared.world.Row.{Row}
use Rattle.deed_words.specs.declared.rule.Rule.TheVariants as rule
use Rattle.deed_words.specs.declared.deed.Deed.TheVariants.{Draw}
use Rattle.deed_words.specs.declared.words.What.TheVariants.{Serials}
use Rattle.deed_words.specs.Deeds.{batch_for, batch_named}
use Rattle.deed_words.specs.Tests.{rows_of_gtin, thin, asked, pool_thin, out_of_range, count_range, site_full}
use Rattle.deed_words.specs.Rules.{broken, rules_of}
use Rattle.deed_words.specs.Effects.{gtin_of}
use Rattle.deed_words.proofs.Broken.{when_None}
use Rattle.deed_words.proofs.Allowed.{NoneOf, allowed, has_batch, has_room}
use Rattle.gs1_keys.specs.Forms.{half_size, is_form}
use Rattle.gs1_keys.specs.declared.form.Alphabet.TheVariants.{Digits}
use Rattle.deed_words.specs.History.{serials_of}
use Rattle.site_deeds.specs.Draws.{form_for, drawn_in}
use Rattle.site_deeds.proofs.Serials.{had_is}

-- the product, and what is drawn of it and of all
pub record IsDrawable (site : Setup) (w : World) (count : ℕ) (batch : Batch) : Type 0 where
  pub product : Product
  pub product_is : product_of site batch.order.gtin ≡ Some product
  pub some : 1 ≤ count
  pub few : length w.rows + count ≤ 1000000
  pub ample : length (rows_of_gtin w batch.order.gtin) + count ≤ half_size product.form

neither : (a b : Bool) → (a || b) ≡ false → (a ≡ false) × (b ≡ false)
neither true b e = absurd (true≢false e)
neither false b e = (refl, e)

by_product : (o : Option Product) (n count : ℕ) → 1 ≤ count → nat_lt (option_map_or (λ (p : Product). half_size p.form) o 0) (n + count) ≡ false → (product : Product) × (o ≡ Some product) × (n + count ≤ half_size product.form)
by_product None n count some e = absurd (let f : n + count ≤ 0 = grind (arith, nat_tests, e) in omega (arith, f, some))
by_product (Some product) n count some e = (product, refl, grind (arith, nat_tests, e))

pub drawable_batch : (site : Setup) (w : World) (station : ℕ) (name : Text) (count : ℕ) → broken site w station (Draw name count) ≡ None → (batch : Batch) × (batch_of w name ≡ Some batch)
unfolding NoneOf rules_of batch_named
drawable_batch site w station name count e = has_batch site w station (Draw name count) (allowed site w station (Draw name count) e).1.0

pub drawable : (site : Setup) (w : World) (station : ℕ) (name : Text) (count : ℕ) (batch : Batch) → broken site w station (Draw name count) ≡ None → batch_of w name ≡ Some batch → IsDrawable site w count batch
unfolding NoneOf rules_of batch_for batch_named out_of_range count_range site_full pool_thin thin asked half_pool
drawable site w station name count batch e is =
    let p = allowed site w station (Draw name count) e in
    let range = neither (nat_eq count 0) (nat_lt 10000 count) (when_None (nat_eq count 0 || nat_lt 10000 count) (rule.CountOutOfRange 10000) p.1.1.1.0) in
    let some : 1 ≤ count = grind (arith, nat_tests, range.0) in
    let thin_none : thin site w count batch ≡ None = sym (ap (option_and_then (thin site w count)) is) ∙ p.1.1.1.1.1.0 in
    let q = by_product (product_of site batch.order.gtin) (length (rows_of_gtin w batch.order.gtin)) count some (when_None _ _ thin_none) in
    record { product = q.0; product_is = q.1; some = some; few = has_room Serials (length w.rows) count 1000000 p.1.1.1.1.0; ample = q.2 }

-- a draw that breaks no rule asks for few
pub asked_few : (site : Setup) (w : World) (station : ℕ) (name : Text) (count : ℕ) → broken site w station (Draw name count) ≡ None → count ≤ 10000
unfolding NoneOf rules_of out_of_range count_range
asked_few site w station name count e =
    let p = allowed site w station (Draw name count) e in
    let range = neither (nat_eq count 0) (nat_lt 10000 count) (when_None (nat_eq count 0 || nat_lt 10000 count) (rule.CountOutOfRange 10000) p.1.1.1.0) in
    grind (arith, nat_tests, range.1)

-- and for some
pub asked_some : (site : Setup) (w : World) (station : ℕ) (name : Text) (count : ℕ) → broken site w station (Draw name count) ≡ None → 0 < count
asked_some site w station name count e =
    let found = drawable_batch site w station name count e in
    let some = (drawable site w station name count found.0 e found.1).some in
    omega (arith, some)

-- the serials of the GTIN are as many as its rows
pub drawn_count_is : (w : World) (pairs : List DrawnSerial) (gtin : Text) → pairs ≡ drawn_in w → drawn_count gtin pairs ≡ length (rows_of_gtin w gtin)
unfolding serials_of rows_of_gtin
drawn_count_is w pairs gtin e = ap length (had_is w pairs gtin e) ∙ length-map (filter (λ (row : Row). same row.gtin gtin) w.rows) (λ (row : Row). row.serial)

few_rows : (gtin : Text) (rows : List Row) → length (filter (λ (row : Row). same row.gtin gtin) rows) ≤ length rows
few_rows gtin rows =
    let test = λ (row : Row). same row.gtin gtin in
    subst (λ n. n ≤ length rows) (sym (length-filter test rows)) (count_by-le-length test rows)

-- the GTIN of the batch's name, and what its serials look like
pub gtin_is : (w : World) (name : Text) (batch : Batch) → batch_of w name ≡ Some batch → batch.order.gtin ≡ gtin_of w name
unfolding gtin_of
gtin_is w name batch is = sym (ap (λ (o : Option Batch). option_map_or (λ (b : Batch). b.order.gtin) o []) is)

pub form_is : (site : Setup) (gtin : Text) (product : Product) → product_of site gtin ≡ Some product → product.form ≡ form_for site gtin
unfolding form_for
form_is site gtin product is = sym (ap (λ (o : Option Product). option_map_or (λ (p : Product). p.form) o (record { alphabet = Digits; length = 0 })) is)

pub few_in_all : (w : World) (pairs : List DrawnSerial) (gtin : Text) (count : ℕ) → pairs ≡ drawn_in w → length w.rows + count ≤ 1000000 → drawn_count gtin pairs + count < 4294967296
unfolding rows_of_gtin
few_in_all w pairs gtin count e few = let a = drawn_count_is w pairs gtin e in let b = few_rows gtin w.rows in omega (arith, a, b, few)

pub same_product : (one other : Product) → Some one ≡ Some other → one ≡ other
same_product one other e = cc

-- a product's form is in its range
pub product_form : (product : Product) → is_product product ≡ true → is_form product.form ≡ true
unfolding is_product
product_form product e = (and_parts _ _ e).1

-- the pool isn't thin where the rule isn't broken
pub no_thin : (w : World) (pairs : List DrawnSerial) (gtin : Text) (count : ℕ) (one other : Product) (have more half : ℕ) → pairs ≡ drawn_in w → one ≡ other → length (rows_of_gtin w gtin) + count ≤ half_size one.form
    → IsThin (had_of gtin pairs) other.form count have more half → ⊥
no_thin w pairs gtin count one other have more half e same ample thin =
    let a = drawn_count_is w pairs gtin e in
    let b : half_size one.form ≡ half = ap (λ (p : Product). half_size p.form) same ∙ sym thin.half_is in
    let d = thin.drawn_is in
    let f = thin.asked_is in
    let over = thin.over in
    omega (arith, a, b, d, f, over, ample)
