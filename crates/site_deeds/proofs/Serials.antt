-- The pool's serials and the world's rows.
use Rattle.std.proofs.Common.{◌≡◌, ℕ, true, false, cond, List, [], ◌∷◌, ◌++◌, length, map, Some, refl, ap, ◌∙◌}
use Rattle.std.specs.Prelude.{filter, bytes_eq}
use Rattle.deed_words.proofs.Sameness.{same_equiv}
use Rattle.serial_pool.specs.declared.drawn.DrawnSerial.{DrawnSerial}
use Rattle.gs1_keys.specs.Forms.{AreNew}
use Rattle.serial_pool.specs.Held.{had_of, drawn_for}
use Rattle.deed_words.specs.Names.{Text, same}
use Rattle.deed_words.specs.Setups.{Setup, product_of}
use Rattle.deed_words.specs.World.{World}
use Rattle.deed_words.specs.declared.setup.Product.{Product}
use Rattle.deed_words.specs.declared.world.Row.{Row}
use Rattle.deed_words.specs.Effects.{fresh_row}
use Rattle.deed_words.specs.Tests.{rows_of_gtin}
use Rattle.deed_words.specs.History.{serials_of, AreNewFor}
use Rattle.site_deeds.specs.Draws.{drawn_serial}

had_rows : (gtin : Text) (rows : List Row) → had_of gtin (map drawn_serial rows) ≡ map (λ (row : Row). row.serial) (filter (λ (row : Row). same row.gtin gtin) rows)
unfolding same
had_rows gtin [] = refl
had_rows gtin (row ∷ rows) =
    let flipped : bytes_eq row.gtin gtin ≡ bytes_eq gtin row.gtin = same_equiv.symm row.gtin gtin in
    rw flipped (elim (bytes_eq gtin row.gtin) as (λ b. map (λ (p : DrawnSerial). p.serial) (cond b (drawn_serial row ∷ filter (λ (p : DrawnSerial). bytes_eq gtin p.gtin) (map drawn_serial rows)) (filter (λ (p : DrawnSerial). bytes_eq gtin p.gtin) (map drawn_serial rows)))
    ≡ map (λ (r : Row). r.serial) (cond b (row ∷ filter (λ (r : Row). bytes_eq r.gtin gtin) rows) (filter (λ (r : Row). bytes_eq r.gtin gtin) rows))) [
      | true ↦ ap (λ (xs : List Text). row.serial ∷ xs) (had_rows gtin rows)
      | false ↦ had_rows gtin rows
    ])

-- the pool has the serials of the GTIN that the world has
pub had_is : (w : World) (pairs : List DrawnSerial) (gtin : Text) → pairs ≡ map drawn_serial w.rows → had_of gtin pairs ≡ serials_of w gtin
unfolding serials_of rows_of_gtin
had_is w pairs gtin e = ap (had_of gtin) e ∙ had_rows gtin w.rows

-- and so it stays with new ones
pub drawn_more : (rows : List Row) (gtin name : Text) (serials : List Text) → map drawn_serial rows ++ drawn_for gtin serials ≡ map drawn_serial (rows ++ map (fresh_row gtin name) serials)
unfolding fresh_row
drawn_more [] gtin name [] = refl
drawn_more [] gtin name (s ∷ serials) = ap (λ (xs : List DrawnSerial). record { gtin = gtin; serial = s } ∷ xs) (drawn_more [] gtin name serials)
drawn_more (row ∷ rows) gtin name serials = ap (λ (xs : List DrawnSerial). drawn_serial row ∷ xs) (drawn_more rows gtin name serials)

-- so many new serials of the pool may be drawn by the site
pub may_draw : (site : Setup) (w : World) (gtin : Text) (product : Product) (count : ℕ) (serials : List Text) → product_of site gtin ≡ Some product → length serials ≡ count
    → AreNew (serials_of w gtin) product.form serials → AreNewFor site w gtin count serials
may_draw site w gtin product count serials is counted new = record { product = product; made = is; counted = counted; new = new }
