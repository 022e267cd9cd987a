-- Serials that are new for a GTIN differ, and no row has them.
use Rattle.std.proofs.Common.{◌≡◌, ℕ, Bool, true, false, cond, ◌&&◌, List, [], ◌∷◌, map, Some, None, refl, ap, ◌∙◌}
use Rattle.std.specs.Prelude.{filter, find, bytes_eq}
use Rattle.std.specs.List.{AllByRecursion as Every, IsDistinct}
use Rattle.std.proofs.lemmas.Bool.{or_parts}
use Rattle.std.proofs.lemmas.List.Elements.{recursion_from_All}
use Rattle.gs1_keys.specs.Forms.{is_among}
use Rattle.epc_urn.specs.declared.epc.Epc.TheVariants.{Item}
use Rattle.deed_words.specs.Names.{Text, same, same_name}
use Rattle.deed_words.specs.Setups.{Setup}
use Rattle.deed_words.specs.declared.world.Row.{Row}
use Rattle.deed_words.specs.World.{World, name_of, row_of}
use Rattle.deed_words.specs.Tests.{rows_of_gtin}
use Rattle.deed_words.specs.History.{serials_of, AreNewFor}
use Rattle.deed_words.proofs.Sameness.{same_equiv}
use Rattle.deed_words.proofs.Items.{Every-weaker}

same-is : (a b : Text) → same a b ≡ bytes_eq a b
unfolding same
same-is a b = refl

-- what isn't among the serials of the GTIN has no row
unknown_rows : (gtin serial : Text) (rows : List Row) → is_among (map (λ (row : Row). row.serial) (filter (λ (row : Row). same row.gtin gtin) rows)) serial ≡ false → find (λ (row : Row). same_name (name_of row) (Item gtin serial)) rows ≡ None
unfolding same_name
unknown_rows gtin serial [] e = refl
unknown_rows gtin serial (row ∷ rows) e =
    (elim (same row.gtin gtin) as (λ b. is_among (map (λ (r : Row). r.serial) (cond b (row ∷ filter (λ (r : Row). same r.gtin gtin) rows) (filter (λ (r : Row). same r.gtin gtin) rows))) serial ≡ false
    → cond (b && same row.serial serial) (Some row) (find (λ (r : Row). same_name (name_of r) (Item gtin serial)) rows) ≡ None) [
      | true ↦ λ f.
          let p = or_parts (bytes_eq serial row.serial) (is_among (map (λ (r : Row). r.serial) (filter (λ (r : Row). same r.gtin gtin) rows)) serial) f in
          let apart : same row.serial serial ≡ false = same_equiv.symm row.serial serial ∙ same-is serial row.serial ∙ p.0 in
          ap (λ (b : Bool). cond b (Some row) (find (λ (r : Row). same_name (name_of r) (Item gtin serial)) rows)) apart ∙ unknown_rows gtin serial rows p.1
      | false ↦ λ f. unknown_rows gtin serial rows f
    ]) e

pub unknown_new : (site : Setup) (w : World) (gtin : Text) (count : ℕ) (serials : List Text) → AreNewFor site w gtin count serials → Every (λ (serial : Text). row_of w gtin serial ≡ None) serials
unfolding serials_of rows_of_gtin row_of
unknown_new site w gtin count serials new =
    Every-weaker (λ (serial : Text). is_among (serials_of w gtin) serial ≡ false) (λ (serial : Text). row_of w gtin serial ≡ None) (λ serial e. unknown_rows gtin serial w.rows e) serials
    (recursion_from_All (λ (serial : Text). is_among (serials_of w gtin) serial ≡ false) serials new.new.unknown)

pub distinct_new : (site : Setup) (w : World) (gtin : Text) (count : ℕ) (serials : List Text) → AreNewFor site w gtin count serials → IsDistinct same serials
unfolding same
distinct_new site w gtin count serials new = new.new.distinct
