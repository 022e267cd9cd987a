-- What the pool draws for an entry.
use Rattle.std.proofs.Common.{◌≡◌, ◌<◌, ◌≤◌, ℕ, Bool, true, false, ◌||◌, List, [], ◌∷◌, ◌++◌, length, Option, None, Some, refl, ap, subst, true≢false, arith, nat_eq, nat_lt}
use Rattle.std.specs.Prelude.{IfSome}
use Rattle.std.specs.List.{AllByRecursion as Every}
use Rattle.std.proofs.lemmas.Bool.Decides.{nat_tests}
use Rattle.deed_words.specs.Names.{Text}
use Rattle.deed_words.specs.Setups.{Setup}
use Rattle.deed_words.specs.World.{World}
use Rattle.deed_words.specs.declared.deed.Deed.{Deed}
use Rattle.deed_words.specs.declared.deed.Deed.TheVariants.{Draw}
use Rattle.deed_words.specs.declared.rule.Rule.{Rule}
use Rattle.deed_words.specs.declared.rule.Rule.TheVariants as rule
use Rattle.deed_words.specs.Tests.{out_of_range, count_range}
use Rattle.deed_words.specs.Rules.{broken, rules_of}
use Rattle.deed_words.specs.History.{MayDraw}
use Rattle.deed_words.proofs.Broken.{when_None}
use Rattle.deed_words.proofs.Allowed.{NoneOf, allowed}
use Rattle.gs1_keys.specs.Forms.{is_among}
use Rattle.serial_pool.specs.declared.drawn.DrawnSerial.{DrawnSerial}
use Rattle.serial_pool.specs.Held.{PlanView, drawn_for, IsLastDrawn}
use Rattle.site_deeds.specs.Draws.{drawn_by_plan}
use Rattle.site_core.specs.Rooms.{IsKnown}

-- ---- a draw that breaks no rule asks for few

neither : (a b : Bool) → (a || b) ≡ false → b ≡ false
neither true b e = absurd (true≢false e)
neither false b e = e

asked_few : (site : Setup) (w : World) (station : ℕ) (name : Text) (count : ℕ) → broken site w station (Draw name count) ≡ None → count ≤ 10000
unfolding NoneOf rules_of out_of_range count_range
asked_few site w station name count e =
    let p = allowed site w station (Draw name count) e in
    let range = neither (nat_eq count 0) (nat_lt 10000 count) (when_None (nat_eq count 0 || nat_lt 10000 count) (rule.CountOutOfRange 10000) p.1.1.1.0) in
    grind (arith, nat_tests, range)

few_by : (site : Setup) (w : World) (station : ℕ) (r : Option Rule) (deed : Deed) (drawn : List Text) → broken site w station deed ≡ r → MayDraw site w r deed drawn → length drawn ≤ 10000
unfolding MayDraw
few_by site w station None (Draw name count) drawn e may = let few = asked_few site w station name count e in let counted = may.counted in omega (arith, few, counted)
few_by site w station None deed drawn e may = let none = ap (λ (s : List Text). length s) may in omega (arith, none)
few_by site w station (Some r) (Draw name count) drawn e may = let none = ap (λ (s : List Text). length s) may in omega (arith, none)
few_by site w station (Some r) deed drawn e may = let none = ap (λ (s : List Text). length s) may in omega (arith, none)

pub few_drawn : (site : Setup) (w : World) (station : ℕ) (deed : Deed) (drawn : List Text) → MayDraw site w (broken site w station deed) deed drawn → length drawn ≤ 10000
few_drawn site w station deed drawn may = few_by site w station (broken site w station deed) deed drawn refl may

-- ---- the GTINs for which the pool has room

-- the pool has room for the GTIN of each of these
abbrev pub AreKnown : List (List ℕ) → List DrawnSerial → Type 0
AreKnown gtins pairs = Every (λ pair. is_among gtins pair.gtin ≡ true) pairs

known_serials : (gtins : List (List ℕ)) (gtin : List ℕ) (serials : List (List ℕ)) → is_among gtins gtin ≡ true → AreKnown gtins (drawn_for gtin serials)
known_serials gtins gtin [] e = tt
known_serials gtins gtin (s ∷ serials) e = (e, known_serials gtins gtin serials e)

known_draw : (gtins : List (List ℕ)) (draw : Option PlanView) → IsKnown gtins draw → AreKnown gtins (drawn_by_plan draw)
known_draw gtins None e = tt
known_draw gtins (Some plan) e = known_serials gtins plan.gtin plan.serials e

known_both : (gtins : List (List ℕ)) (pairs more : List DrawnSerial) → AreKnown gtins pairs → AreKnown gtins more → AreKnown gtins (pairs ++ more)
known_both gtins [] more a b = b
known_both gtins (p ∷ pairs) more a b = (a.0, known_both gtins pairs more a.1 b)

pub known_more : (gtins : List (List ℕ)) (pairs : List DrawnSerial) (draw : Option PlanView) → AreKnown gtins pairs → IsKnown gtins draw → AreKnown gtins (pairs ++ drawn_by_plan draw)
known_more gtins pairs draw a e = known_both gtins pairs (drawn_by_plan draw) a (known_draw gtins draw e)

pub known_front : (gtins : List (List ℕ)) (pairs more : List DrawnSerial) → AreKnown gtins (pairs ++ more) → AreKnown gtins pairs
known_front gtins [] more a = tt
known_front gtins (p ∷ pairs) more a = (a.0, known_front gtins pairs more a.1)

known_back : (gtins : List (List ℕ)) (pairs more : List DrawnSerial) → AreKnown gtins (pairs ++ more) → AreKnown gtins more
known_back gtins [] more a = a
known_back gtins (p ∷ pairs) more a = known_back gtins pairs more a.1

first_known : (gtins : List (List ℕ)) (gtin : List ℕ) (serials : List (List ℕ)) → 0 < length serials → AreKnown gtins (drawn_for gtin serials) → is_among gtins gtin ≡ true
first_known gtins gtin [] some a = absurd (omega (arith, some))
first_known gtins gtin (s ∷ serials) some a = a.0

known_some : (gtins : List (List ℕ)) (draw : Option PlanView) → IfSome draw (λ plan. 0 < length plan.serials) → AreKnown gtins (drawn_by_plan draw) → IsKnown gtins draw
known_some gtins None some a = tt
known_some gtins (Some plan) some a = first_known gtins plan.gtin plan.serials some a

-- the GTIN of the draw that was committed last
pub known_last : (gtins : List (List ℕ)) (pairs before : List DrawnSerial) (draw : Option PlanView) → AreKnown gtins pairs → pairs ≡ before ++ drawn_by_plan draw → IfSome draw (λ plan. 0 < length plan.serials) → IsKnown gtins draw
known_last gtins pairs before draw a e some = known_some gtins draw some (known_back gtins before (drawn_by_plan draw) (subst (AreKnown gtins) e a))

-- GTINs that are known stay so
pub known_still : (old new : List (List ℕ)) (pairs : List DrawnSerial) → ((gtin : List ℕ) → is_among old gtin ≡ true → is_among new gtin ≡ true) → AreKnown old pairs → AreKnown new pairs
known_still old new [] still a = tt
known_still old new (p ∷ pairs) still a = (still p.gtin a.0, known_still old new pairs still a.1)

pub draw_still : (old new : List (List ℕ)) (draw : Option PlanView) → ((gtin : List ℕ) → is_among old gtin ≡ true → is_among new gtin ≡ true) → IsKnown old draw → IsKnown new draw
draw_still old new None still e = tt
draw_still old new (Some plan) still e = still plan.gtin e

-- ---- what was drawn last

pub last_drawn : (pairs before : List DrawnSerial) (draw : Option PlanView) → pairs ≡ before ++ drawn_by_plan draw → IfSome draw (λ done. IsLastDrawn pairs done)
last_drawn pairs before None e = tt
last_drawn pairs before (Some plan) e = record { before = before; is = e }
