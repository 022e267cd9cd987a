-- Which rules each deed is under, and the rule that answers.
use Rattle.std.specs.Prelude.{ℕ, List, [], ◌∷◌, map, Option}
use Rattle.deed_words.specs.Setups.{Setup}
use Rattle.deed_words.specs.declared.deed.Deed.{Deed}
use Rattle.deed_words.specs.declared.deed.Deed.TheVariants.{Order, Orders, Start, Draw, Lend, Commission, Spoil, Giveback, Sample, Reject, Reinstate, Destroy, Decommission, Container as MakeUnit, Pack, Unpack, UnpackAll, Seal, Unseal, Void, Declare, Close, Amend}
use Rattle.deed_words.specs.declared.rule.Rule.{Rule}
use Rattle.deed_words.specs.Chain.{first}
use Rattle.deed_words.specs.World.{World}
use Rattle.deed_words.specs.Tests.{Test, role_forbids, unknown_product, order_conflict, unknown_batch, unknown_unit, not_started, started, closed, unit_void, unit_sealed, unit_not_sealed, out_of_range, site_full, pool_thin, few_fresh, sscc_spent, repeated, unknown_serial, other_batch, wrong_level, wrong_state, lent_to_other, has_parent, not_child, unit_full, unit_not_empty, nothing_inside, not_accounted}

-- the rules of a deed on named rows, with those of its last ones
unfoldable pub on_rows : List Test → List Test
on_rows last = role_forbids ∷ unknown_batch ∷ not_started ∷ closed ∷ out_of_range ∷ repeated ∷ unknown_serial ∷ other_batch ∷ wrong_state ∷ last

-- the rules of the deed, in rising number
unfoldable pub rules_of : Deed → List Test
rules_of (Order row) = role_forbids ∷ unknown_product ∷ order_conflict ∷ site_full ∷ []
rules_of (Orders rows) = role_forbids ∷ unknown_product ∷ order_conflict ∷ out_of_range ∷ site_full ∷ []
rules_of (Start name) = role_forbids ∷ unknown_batch ∷ started ∷ closed ∷ []
rules_of (Draw name count) = role_forbids ∷ unknown_batch ∷ closed ∷ out_of_range ∷ site_full ∷ pool_thin ∷ []
rules_of (Lend name count) = role_forbids ∷ unknown_batch ∷ not_started ∷ closed ∷ out_of_range ∷ few_fresh ∷ []
rules_of (Commission name codes) = on_rows (lent_to_other ∷ [])
rules_of (Spoil name serials) = on_rows (lent_to_other ∷ [])
rules_of (Giveback name serials) = on_rows (lent_to_other ∷ [])
rules_of (Sample name items) = on_rows (has_parent ∷ [])
rules_of (Reject name items) = on_rows (has_parent ∷ [])
rules_of (Reinstate name items) = on_rows []
rules_of (Destroy name items) = on_rows []
rules_of (Decommission name items) = on_rows (has_parent ∷ [])
rules_of (MakeUnit name level) = role_forbids ∷ unknown_batch ∷ not_started ∷ closed ∷ site_full ∷ sscc_spent ∷ wrong_level ∷ []
rules_of (Pack unit children) =
    role_forbids ∷ unknown_unit ∷ closed ∷ unit_void ∷ unit_sealed ∷ out_of_range ∷ repeated ∷ unknown_serial ∷ other_batch ∷ wrong_level ∷ wrong_state ∷ has_parent ∷ unit_full ∷ []
rules_of (Unpack unit children) = role_forbids ∷ unknown_unit ∷ closed ∷ unit_void ∷ unit_sealed ∷ out_of_range ∷ repeated ∷ not_child ∷ []
rules_of (UnpackAll unit) = role_forbids ∷ unknown_unit ∷ closed ∷ unit_void ∷ unit_sealed ∷ nothing_inside ∷ []
rules_of (Seal unit) = role_forbids ∷ unknown_unit ∷ closed ∷ unit_void ∷ unit_sealed ∷ nothing_inside ∷ []
rules_of (Unseal unit) = role_forbids ∷ unknown_unit ∷ closed ∷ unit_void ∷ unit_not_sealed ∷ has_parent ∷ []
rules_of (Void unit) = role_forbids ∷ unknown_unit ∷ closed ∷ unit_void ∷ unit_sealed ∷ unit_not_empty ∷ []
rules_of (Declare name good spoiled returned) = role_forbids ∷ unknown_batch ∷ not_started ∷ closed ∷ []
rules_of (Close name) = role_forbids ∷ unknown_batch ∷ not_started ∷ closed ∷ not_accounted ∷ []
rules_of (Amend name quantity) = role_forbids ∷ unknown_batch ∷ closed ∷ []

-- the first rule that the station's deed breaks
unfoldable pub broken : Setup → World → ℕ → Deed → Option Rule
broken site w station deed = first (map (λ (test : Test). test site w station deed) (rules_of deed))
