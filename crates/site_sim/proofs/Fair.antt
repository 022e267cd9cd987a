-- The deed of a request in range is proper.
use Rattle.std.proofs.Common.{◌≡◌, ◌≤◌, ◌∙◌, ℕ, zero, suc, true, List, [], ◌∷◌, length, map, take, drop, refl, sym, ap, subst, arith}
use Rattle.std.specs.Prelude.{codes}
use Rattle.std.specs.List.{list_all}
use Rattle.std.proofs.lemmas.Bool.Decides.{nat_tests}
use Rattle.std.proofs.lemmas.List.{length-map}
use Rattle.std.proofs.lemmas.List.FromFn.{length-map-range_with_len}
use Rattle.gs1_element.specs.Dates.{is_expiry, date_fault}
use Rattle.gs1_element.specs.declared.code.Code.{Code}
use Rattle.gs1_keys.specs.Keys.{is_between}
use Rattle.deed_words.specs.Chain.{is_empty}
use Rattle.deed_words.specs.Names.{Text}
use Rattle.deed_words.specs.Proper.{is_order, is_dated, IsShort}
use Rattle.site_sim.specs.declared.request.Request.TheVariants as request
use Rattle.epc_urn.specs.declared.epc.Epc.{Epc}
use Rattle.epc_urn.specs.declared.epc.Epc.TheVariants.{Unit as Box}
use Rattle.deed_words.specs.declared.deed.OrderRow.{OrderRow}
use Rattle.site_sim.specs.declared.part.Part.{Part}
use Rattle.site_sim.specs.Asking.{IsFair, item, order, part_of, printed, unit, units_of}

take_short : {X : Type 0} (n : ℕ) (xs : List X) → length (take n xs) ≤ n
take_short zero [] = omega arith
take_short zero (x ∷ xs) = omega arith
take_short (suc n) [] = omega arith
take_short (suc n) (x ∷ xs) = let less = take_short n xs in omega (arith, less)

part_short : {X Y : Type 0} (f : X → Y) (n : ℕ) (xs : List X) → n ≤ 1000 → length (map f (take n xs)) ≤ 1000
part_short f n xs less = let short = take_short n xs in let same = length-map (take n xs) f in omega (arith, less, short, same)

-- its date is one
all_dated : (serials : List Text) → list_all is_dated (map printed serials) ≡ true
unfolding is_dated is_expiry date_fault
all_dated [] = refl
all_dated (serial ∷ serials) = all_dated serials

fair_order : (quantity : ℕ) → is_between 1 1000000 quantity ≡ true → is_order (order quantity) ≡ true
unfolding is_order is_empty is_expiry date_fault
fair_order quantity fair = rw fair refl

pub order_proper : (row : OrderRow) (quantity : ℕ) → IsFair (request.Order quantity) → row ≡ order quantity → is_order row ≡ true
order_proper row quantity fair is = ap is_order is ∙ fair_order quantity fair

pub codes_proper : (lent : List Text) (part : Part) (codes : List Code) → IsFair (request.Commission part) → codes ≡ map printed (part_of part lent) → IsShort codes × (list_all is_dated codes ≡ true)
codes_proper lent part codes fair is =
    subst (λ (cs : List Code). IsShort cs × (list_all is_dated cs ≡ true)) (sym is) (part_short printed part.size (drop part.from lent) fair, all_dated (part_of part lent))

pub items_proper : (lent : List Text) (place : ℕ) (part : Part) (items : List Epc) → IsFair (request.PackItems place part) → items ≡ map item (part_of part lent) → IsShort items
items_proper lent place part items fair is = subst (λ (xs : List Epc). IsShort xs) (sym is) (part_short item part.size (drop part.from lent) fair.1)

pub cases_proper : (place : ℕ) (part : Part) (units : List Epc) → IsFair (request.PackCases place part) → units ≡ units_of part → IsShort units
cases_proper place part units fair is =
    let same = length-map-range_with_len (λ (place : ℕ). Box (unit place)) part.from part.size in
    let short = fair.1 in
    subst (λ (xs : List Epc). IsShort xs) (sym is) (omega (arith, same, short))

pub may_order : (count : ℕ) → 1 ≤ count → count ≤ 200000 → is_between 1 1000000 count ≡ true
may_order count some few = grind (arith, nat_tests)
