-- Units are collected to a code exactly where each needed one stands once.
use Rattle.std.proofs.Common.{◌≡◌, ◌⊎◌, ℕ, ◌+◌, ◌≤◌, Bool, true, false, cond, eqb, ltb, List, [], ◌∷◌, length, take, Option, Some, None, Result, Ok, Err, refl, sym, ap, subst, ◌∙◌, arith, inl, inr}
use Rattle.std.specs.Prelude.{◌==◌, ◌&&◌, is_none, codes}
use Rattle.std.proofs.lemmas.Bool.{eqb-true, eq-eqb, le-ltb}
use Rattle.std.proofs.lemmas.Bool.Decides.{nat_tests}
use Rattle.std.proofs.lemmas.List.{take_all}
use Rattle.gs1_keys.specs.Keys.{is_digit, first_other, gtin_of, IsGtin, IsText}
use Rattle.gs1_keys.specs.declared.fault.KeyFault.{KeyFault}
use Rattle.gs1_keys.specs.declared.fault.KeyFault.TheVariants as key
use Rattle.gs1_keys.proofs.Known.{gtin_same, gtin_length, text_length, text_set}
use Rattle.gs1_element.specs.declared.fault.ElementFault.{ElementFault}
use Rattle.gs1_element.specs.declared.fault.ElementFault.TheVariants.{BadValue, BadMonthOrDay}
use Rattle.gs1_element.specs.declared.found.Found.{Found}
use Rattle.gs1_element.specs.declared.code.Code.{Code}
use Rattle.gs1_element.specs.Dates.{date_fault, is_expiry}
use Rattle.gs1_element.specs.Units.{number_of, Piece}
use Rattle.gs1_element.specs.Codes.{◌>>=◌, key_value, text_fault, unless, gtin_value, text_value, date_value, once, put, need, complete, collected, nothing}
use Rattle.gs1_element.specs.Scans.{values, HasValues}
use Rattle.gs1_element.proofs.Texts.{text_is}

-- ---- values

abbrev IsGtinOf : List ℕ → List ℕ → Type 0
IsGtinOf v x = (v ≡ x) × IsGtin x

abbrev IsTextOf : List ℕ → List ℕ → Type 0
IsTextOf v x = (v ≡ x) × IsText x

abbrev IsDateOf : List ℕ → List ℕ → Type 0
IsDateOf v x = (v ≡ x) × (is_expiry x ≡ true)

key_ok : (name : List ℕ) (at : ℕ) (r : Result (List ℕ) KeyFault) (x : List ℕ) → key_value name at r ≡ Ok x → r ≡ Ok x
key_ok name at (Ok y) x e = let s : y ≡ x = cc in ap Ok s
key_ok name at (Err (key.BadLength n)) x e = absurd cc
key_ok name at (Err (key.NotDigit k)) x e = absurd cc
key_ok name at (Err (key.BadCheck due found)) x e = absurd cc
key_ok name at (Err (key.NotInSet k)) x e = absurd cc

unless_ok : {X : Type 0} (o : Option ℕ) (fault : ℕ → ElementFault) (go : Result X ElementFault) (x : X) → unless o fault go ≡ Ok x → (o ≡ None) × (go ≡ Ok x)
unless_ok None fault go x e = (refl, e)
unless_ok (Some k) fault go x e = absurd cc

gtin_takes : (at : ℕ) (v x : List ℕ) → gtin_value at v ≡ Ok x → IsGtinOf v x
unfolding gtin_value
gtin_takes at v x e = by (length v == 14) refl e
  where
    by : (b : Bool) → (length v == 14) ≡ b → cond b (key_value (codes "01") at (gtin_of v)) (Err (BadValue (codes "01") at)) ≡ Ok x → IsGtinOf v x
    by false h e = absurd cc
    by true h e =
        let read : gtin_of v ≡ Ok x = key_ok (codes "01") at (gtin_of v) x e in
        let s : v ≡ x = gtin_same v x (eqb-true (length v) 14 h) read in
        (s, subst (λ (y : List ℕ). gtin_of y ≡ Ok x) s read)

gtin_again : (at : ℕ) (v x : List ℕ) → IsGtinOf v x → gtin_value at v ≡ Ok x
unfolding gtin_value
gtin_again at v x h =
    let full : (length x == 14) ≡ true = eq-eqb (length x) 14 (gtin_length x h.1) in
    rw (h.0, full, h.1) refl

text_takes : (name : List ℕ) (at : ℕ) (v x : List ℕ) → text_value name at v ≡ Ok x → IsTextOf v x
unfolding text_value
text_takes name at v x e =
    let u = unless_ok (text_fault v) (λ k. BadValue name (at + k)) (Ok v) x e in
    let s : v ≡ x = cc (u.1) in
    (s, subst IsText s (text_is v u.0))

not_zero : (n : ℕ) → 1 ≤ n → eqb n 0 ≡ false
not_zero n le = grind (arith, nat_tests)

text_again : (name : List ℕ) (at : ℕ) (v x : List ℕ) → IsTextOf v x → text_value name at v ≡ Ok x
unfolding text_value text_fault
text_again name at v x h =
    let size = text_length x h.1 in
    let some : eqb (length x) 0 ≡ false = not_zero (length x) size.0 in
    let few : ltb 20 (length x) ≡ false = le-ltb 20 (length x) size.1 in
    let all : take 20 x ≡ x = take_all 20 x size.1 in
    rw (h.0, some, all, text_set x h.1, few) refl

pub both_none : (b : Bool) (o p : Option ℕ) → b && is_none o && is_none p ≡ true → (b ≡ true) × (o ≡ None) × (p ≡ None)
both_none true None None e = (refl, refl, refl)
both_none true None (Some k) e = absurd cc
both_none true (Some k) p e = absurd cc
both_none false o p e = absurd cc

date_takes : (at : ℕ) (v x : List ℕ) → date_value at v ≡ Ok x → IsDateOf v x
unfolding date_value is_expiry
date_takes at v x e = by (length v == 6) refl e
  where
    by : (b : Bool) → (length v == 6) ≡ b → cond b (unless (first_other is_digit 0 v) (λ k. BadValue (codes "17") (at + k)) (unless (date_fault v) (λ k. BadMonthOrDay (at + k)) (Ok v))) (Err (BadValue (codes "17") at)) ≡ Ok x → IsDateOf v x
    by false h e = absurd cc
    by true h e =
        let u = unless_ok (first_other is_digit 0 v) (λ k. BadValue (codes "17") (at + k)) (unless (date_fault v) (λ k. BadMonthOrDay (at + k)) (Ok v)) x e in
        let w = unless_ok (date_fault v) (λ k. BadMonthOrDay (at + k)) (Ok v) x u.1 in
        let s : v ≡ x = cc (w.1) in
        (s, subst (λ y. is_expiry y ≡ true) s (rw (h, u.0, w.0) refl))

date_again : (at : ℕ) (v x : List ℕ) → IsDateOf v x → date_value at v ≡ Ok x
unfolding date_value is_expiry
date_again at v x h =
    let b = both_none (length x == 6) (first_other is_digit 0 x) (date_fault x) h.1 in
    rw (h.0, b.0, b.1, b.2) refl

-- ---- slots

abbrev Slot : {X : Type 0} → (List ℕ → X → Type 0) → Option X → List (List ℕ) → X → Type 0
Slot Is (Some y) vs x = (vs ≡ []) × (y ≡ x)
Slot Is None vs x = (v : List ℕ) × (vs ≡ v ∷ []) × Is v x

abbrev added : ℕ → ℕ → List ℕ → List (List ℕ) → List (List ℕ)
added k n v vs = cond (eqb n k) (v ∷ vs) vs

abbrev Holds : Found → ℕ → List ℕ → List Piece → Code → Type 0
Holds f n v ps c = Slot IsGtinOf f.gtin (added 1 n v (values 1 ps)) c.gtin × Slot IsTextOf f.lot (added 10 n v (values 10 ps)) c.lot × Slot IsDateOf f.expiry (added 17 n v (values 17 ps)) c.expiry × Slot IsTextOf f.serial (added 21 n v (values 21 ps)) c.serial

abbrev HoldsAll : Found → List Piece → Code → Type 0
HoldsAll f ps c = Slot IsGtinOf f.gtin (values 1 ps) c.gtin × Slot IsTextOf f.lot (values 10 ps) c.lot × Slot IsDateOf f.expiry (values 17 ps) c.expiry × Slot IsTextOf f.serial (values 21 ps) c.serial

slot_some : {X : Type 0} (Is : List ℕ → X → Type 0) (o : Option X) (x : X) → o ≡ Some x → Slot Is o [] x
slot_some Is None x e = absurd cc
slot_some Is (Some y) x e = let s : y ≡ x = cc in (refl, s)

slot_end : {X : Type 0} (Is : List ℕ → X → Type 0) (o : Option X) (x : X) → Slot Is o [] x → o ≡ Some x
slot_end Is None x h = absurd (let e = h.1 in cc)
slot_end Is (Some y) x h = ap Some h.1

slot_more : {X : Type 0} (Is : List ℕ → X → Type 0) (o : Option X) (v : List ℕ) (vs : List (List ℕ)) (x y : X) → o ≡ None → Is v x → Slot Is (Some x) vs y → Slot Is o (v ∷ vs) y
slot_more {X} Is None v vs x y e h s = (v, ap (λ (w : List (List ℕ)). v ∷ w) s.0, subst (λ z. Is v z) s.1 h)
slot_more Is (Some z) v vs x y e h s = absurd cc

slot_less : {X : Type 0} (Is : List ℕ → X → Type 0) (o : Option X) (v : List ℕ) (vs : List (List ℕ)) (y : X) → Slot Is o (v ∷ vs) y → (o ≡ None) × (vs ≡ []) × Is v y
slot_less {X} Is None v vs y s = let e = s.1 in let a : s.0 ≡ v = cc in let b : vs ≡ [] = cc in (refl, b, subst (λ w. Is w y) a s.2)
slot_less Is (Some z) v vs y s = absurd (let e = s.0 in cc)

pub bind_is : {A B : Type 0} (r : Result A ElementFault) (f : A → Result B ElementFault) (y : B) → (r >>= f) ≡ Ok y → (x : A) × (r ≡ Ok x) × (f x ≡ Ok y)
bind_is (Ok x) f y e = (x, refl, e)
bind_is (Err d) f y e = absurd cc

abbrev pub found_ok : Found → Result Found ElementFault
found_ok f = Ok f

pub once_is : {X : Type 0} (o : Option X) (name : List ℕ) (r : Result X ElementFault) (made : X → Found) (g : Found) → once o name (r >>= λ x. Ok (made x)) ≡ Ok g → (o ≡ None) × (x : X) × (r ≡ Ok x) × (made x ≡ g)
once_is (Some y) name r made g e = absurd cc
once_is None name r made g e = let b = bind_is r (λ x. found_ok (made x)) g e in let s : made b.0 ≡ g = cc (b.2) in (refl, b.0, b.1, s)

-- ---- one unit more

abbrev pub put_at : Found → ℕ → ℕ → List ℕ → Result Found ElementFault
put_at f n at v =
    cond (eqb n 1) (once f.gtin (codes "01") (gtin_value at v >>= λ x. Ok (record f { gtin = Some x })))
    (cond (eqb n 10) (once f.lot (codes "10") (text_value (codes "10") at v >>= λ x. Ok (record f { lot = Some x })))
    (cond (eqb n 17) (once f.expiry (codes "17") (date_value at v >>= λ x. Ok (record f { expiry = Some x })))
    (cond (eqb n 21) (once f.serial (codes "21") (text_value (codes "21") at v >>= λ x. Ok (record f { serial = Some x }))) (Ok f))))

pub put_is : (f : Found) (p : Piece) → put f p ≡ put_at f (number_of p.code) (p.at + 2) p.value
unfolding put
put_is f p = refl

abbrev pub Other : ℕ → Type 0
Other n = (eqb n 1 ≡ false) × (eqb n 10 ≡ false) × (eqb n 17 ≡ false) × (eqb n 21 ≡ false)

pub which : (n : ℕ) → (n ≡ 1) ⊎ ((n ≡ 10) ⊎ ((n ≡ 17) ⊎ ((n ≡ 21) ⊎ Other n)))
which n = by (eqb n 1) (eqb n 10) (eqb n 17) (eqb n 21) refl refl refl refl
  where
    by : (a b c d : Bool) → eqb n 1 ≡ a → eqb n 10 ≡ b → eqb n 17 ≡ c → eqb n 21 ≡ d → (n ≡ 1) ⊎ ((n ≡ 10) ⊎ ((n ≡ 17) ⊎ ((n ≡ 21) ⊎ Other n)))
    by true b c d h i j k = inl (eqb-true n 1 h)
    by false true c d h i j k = inr (inl (eqb-true n 10 i))
    by false false true d h i j k = inr (inr (inl (eqb-true n 17 j)))
    by false false false true h i j k = inr (inr (inr (inl (eqb-true n 21 k))))
    by false false false false h i j k = inr (inr (inr (inr (h, i, j, k))))

-- what holds after a unit was put held before it, with the unit
undo : (n at : ℕ) (v : List ℕ) (f g : Found) (ps : List Piece) (c : Code) → put_at f n at v ≡ Ok g → HoldsAll g ps c → Holds f n v ps c
undo n at v f g ps c e h = elim (which n) as (λ _. Holds f n v ps c) [
  | inl s ↦ subst (λ m. Holds f m v ps c) (sym s) (at_1 (subst (λ m. put_at f m at v ≡ Ok g) s e))
  | inr (inl s) ↦ subst (λ m. Holds f m v ps c) (sym s) (at_10 (subst (λ m. put_at f m at v ≡ Ok g) s e))
  | inr (inr (inl s)) ↦ subst (λ m. Holds f m v ps c) (sym s) (at_17 (subst (λ m. put_at f m at v ≡ Ok g) s e))
  | inr (inr (inr (inl s))) ↦ subst (λ m. Holds f m v ps c) (sym s) (at_21 (subst (λ m. put_at f m at v ≡ Ok g) s e))
  | inr (inr (inr (inr s))) ↦ other s
]
  where
    at_1 : put_at f 1 at v ≡ Ok g → Holds f 1 v ps c
    at_1 e = let o = once_is f.gtin (codes "01") (gtin_value at v) (λ x. record f { gtin = Some x }) g e in
        let k = subst (λ y. HoldsAll y ps c) (sym o.3) h in
        (slot_more IsGtinOf f.gtin v (values 1 ps) o.1 c.gtin o.0 (gtin_takes at v o.1 o.2) k.0, k.1, k.2, k.3)

    at_10 : put_at f 10 at v ≡ Ok g → Holds f 10 v ps c
    at_10 e = let o = once_is f.lot (codes "10") (text_value (codes "10") at v) (λ x. record f { lot = Some x }) g e in
        let k = subst (λ y. HoldsAll y ps c) (sym o.3) h in
        (k.0, slot_more IsTextOf f.lot v (values 10 ps) o.1 c.lot o.0 (text_takes (codes "10") at v o.1 o.2) k.1, k.2, k.3)

    at_17 : put_at f 17 at v ≡ Ok g → Holds f 17 v ps c
    at_17 e = let o = once_is f.expiry (codes "17") (date_value at v) (λ x. record f { expiry = Some x }) g e in
        let k = subst (λ y. HoldsAll y ps c) (sym o.3) h in
        (k.0, k.1, slot_more IsDateOf f.expiry v (values 17 ps) o.1 c.expiry o.0 (date_takes at v o.1 o.2) k.2, k.3)

    at_21 : put_at f 21 at v ≡ Ok g → Holds f 21 v ps c
    at_21 e = let o = once_is f.serial (codes "21") (text_value (codes "21") at v) (λ x. record f { serial = Some x }) g e in
        let k = subst (λ y. HoldsAll y ps c) (sym o.3) h in
        (k.0, k.1, k.2, slot_more IsTextOf f.serial v (values 21 ps) o.1 c.serial o.0 (text_takes (codes "21") at v o.1 o.2) k.3)

    other : Other n → Holds f n v ps c
    other s = let q : put_at f n at v ≡ found_ok f = rw (s.0, s.1, s.2, s.3) refl in
        let same : g ≡ f = cc (sym e ∙ q) in
        rw (s.0, s.1, s.2, s.3) (subst (λ y. HoldsAll y ps c) same h)

-- a unit that stands where it is needed is put
redo : (n at : ℕ) (v : List ℕ) (f : Found) (ps : List Piece) (c : Code) → Holds f n v ps c → (g : Found) × (put_at f n at v ≡ Ok g) × HoldsAll g ps c
redo n at v f ps c h = elim (which n) as (λ _. (g : Found) × (put_at f n at v ≡ Ok g) × HoldsAll g ps c) [
  | inl s ↦ subst (λ m. (g : Found) × (put_at f m at v ≡ Ok g) × HoldsAll g ps c) (sym s) (at_1 (subst (λ m. Holds f m v ps c) s h))
  | inr (inl s) ↦ subst (λ m. (g : Found) × (put_at f m at v ≡ Ok g) × HoldsAll g ps c) (sym s) (at_10 (subst (λ m. Holds f m v ps c) s h))
  | inr (inr (inl s)) ↦ subst (λ m. (g : Found) × (put_at f m at v ≡ Ok g) × HoldsAll g ps c) (sym s) (at_17 (subst (λ m. Holds f m v ps c) s h))
  | inr (inr (inr (inl s))) ↦ subst (λ m. (g : Found) × (put_at f m at v ≡ Ok g) × HoldsAll g ps c) (sym s) (at_21 (subst (λ m. Holds f m v ps c) s h))
  | inr (inr (inr (inr s))) ↦ (f, rw (s.0, s.1, s.2, s.3) refl, rw (s.0, s.1, s.2, s.3) at h)
]
  where
    at_1 : Holds f 1 v ps c → (g : Found) × (put_at f 1 at v ≡ Ok g) × HoldsAll g ps c
    at_1 k = let l = slot_less IsGtinOf f.gtin v (values 1 ps) c.gtin k.0 in (record f { gtin = Some c.gtin }, rw (l.0, gtin_again at v c.gtin l.2) refl, ((l.1, refl), k.1, k.2, k.3))

    at_10 : Holds f 10 v ps c → (g : Found) × (put_at f 10 at v ≡ Ok g) × HoldsAll g ps c
    at_10 k = let l = slot_less IsTextOf f.lot v (values 10 ps) c.lot k.1 in (record f { lot = Some c.lot }, rw (l.0, text_again (codes "10") at v c.lot l.2) refl, (k.0, (l.1, refl), k.2, k.3))

    at_17 : Holds f 17 v ps c → (g : Found) × (put_at f 17 at v ≡ Ok g) × HoldsAll g ps c
    at_17 k = let l = slot_less IsDateOf f.expiry v (values 17 ps) c.expiry k.2 in (record f { expiry = Some c.expiry }, rw (l.0, date_again at v c.expiry l.2) refl, (k.0, k.1, (l.1, refl), k.3))

    at_21 : Holds f 21 v ps c → (g : Found) × (put_at f 21 at v ≡ Ok g) × HoldsAll g ps c
    at_21 k = let l = slot_less IsTextOf f.serial v (values 21 ps) c.serial k.3 in (record f { serial = Some c.serial }, rw (l.0, text_again (codes "21") at v c.serial l.2) refl, (k.0, k.1, k.2, (l.1, refl)))

-- ---- all units

need_is : {X : Type 0} (o : Option X) (name : List ℕ) (x : X) → need o name ≡ Ok x → o ≡ Some x
need_is (Some y) name x e = let s : y ≡ x = cc in ap Some s
need_is None name x e = absurd cc

abbrev code_ok : Code → Result Code ElementFault
code_ok c = Ok c

fields_of : (gtin lot expiry serial : List ℕ) (c : Code) → code_ok (record { gtin = gtin; serial = serial; lot = lot; expiry = expiry }) ≡ code_ok c → (gtin ≡ c.gtin) × (lot ≡ c.lot) × (expiry ≡ c.expiry) × (serial ≡ c.serial)
fields_of gtin lot expiry serial c e =
    let made : Code = record { gtin = gtin; serial = serial; lot = lot; expiry = expiry } in
    let s : made ≡ c = cc in
    (ap (λ (x : Code). x.gtin) s, ap (λ (x : Code). x.lot) s, ap (λ (x : Code). x.expiry) s, ap (λ (x : Code). x.serial) s)

complete_is : (f : Found) (c : Code) → complete f ≡ Ok c → (f.gtin ≡ Some c.gtin) × (f.lot ≡ Some c.lot) × (f.expiry ≡ Some c.expiry) × (f.serial ≡ Some c.serial)
unfolding complete
complete_is f c e =
    let a = bind_is (need f.gtin (codes "01")) (λ gtin. need f.lot (codes "10") >>= λ lot. need f.expiry (codes "17") >>= λ expiry. need f.serial (codes "21") >>= λ serial. code_ok (record { gtin = gtin; serial = serial; lot = lot; expiry = expiry })) c e in
    let b = bind_is (need f.lot (codes "10")) (λ lot. need f.expiry (codes "17") >>= λ expiry. need f.serial (codes "21") >>= λ serial. code_ok (record { gtin = a.0; serial = serial; lot = lot; expiry = expiry })) c a.2 in
    let d = bind_is (need f.expiry (codes "17")) (λ expiry. need f.serial (codes "21") >>= λ serial. code_ok (record { gtin = a.0; serial = serial; lot = b.0; expiry = expiry })) c b.2 in
    let g = bind_is (need f.serial (codes "21")) (λ serial. code_ok (record { gtin = a.0; serial = serial; lot = b.0; expiry = d.0 })) c d.2 in
    let p = fields_of a.0 b.0 d.0 g.0 c g.2 in
    (need_is f.gtin (codes "01") a.0 a.1 ∙ ap Some p.0, need_is f.lot (codes "10") b.0 b.1 ∙ ap Some p.1, need_is f.expiry (codes "17") d.0 d.1 ∙ ap Some p.2, need_is f.serial (codes "21") g.0 g.1 ∙ ap Some p.3)

pub collected_takes : (ps : List Piece) (f : Found) (c : Code) → collected ps None f ≡ Ok c → HoldsAll f ps c
unfolding collected
collected_takes [] f c e =
    let k = complete_is f c e in
    (slot_some IsGtinOf f.gtin c.gtin k.0, slot_some IsTextOf f.lot c.lot k.1, slot_some IsDateOf f.expiry c.expiry k.2, slot_some IsTextOf f.serial c.serial k.3)
collected_takes (p ∷ ps) f c e =
    let b = bind_is (put f p) (λ g. collected ps None g) c e in
    undo (number_of p.code) (p.at + 2) p.value f b.0 ps c (sym (put_is f p) ∙ b.1) (collected_takes ps b.0 c b.2)

pub collected_again : (ps : List Piece) (f : Found) (c : Code) → HoldsAll f ps c → collected ps None f ≡ Ok c
unfolding collected complete
collected_again [] f c h = rw (slot_end IsGtinOf f.gtin c.gtin h.0, slot_end IsTextOf f.lot c.lot h.1, slot_end IsDateOf f.expiry c.expiry h.2, slot_end IsTextOf f.serial c.serial h.3) refl
collected_again (p ∷ ps) f c h =
    let r = redo (number_of p.code) (p.at + 2) p.value f ps c h in
    rw (put_is f p ∙ r.1) (collected_again ps r.0 c r.2)

pub values_take : (ps : List Piece) (c : Code) → collected ps None nothing ≡ Ok c → HasValues ps c
values_take ps c e =
    let h = collected_takes ps nothing c e in
    ((h.0.1 ∙ ap (λ (w : List ℕ). w ∷ []) h.0.2.0, h.0.2.1), (h.1.1 ∙ ap (λ (w : List ℕ). w ∷ []) h.1.2.0, h.1.2.1), (h.2.1 ∙ ap (λ (w : List ℕ). w ∷ []) h.2.2.0, h.2.2.1), (h.3.1 ∙ ap (λ (w : List ℕ). w ∷ []) h.3.2.0, h.3.2.1))

pub values_again : (ps : List Piece) (c : Code) → HasValues ps c → collected ps None nothing ≡ Ok c
values_again ps c h = collected_again ps nothing c ((c.gtin, h.0.0, (refl, h.0.1)), (c.lot, h.1.0, (refl, h.1.1)), (c.expiry, h.2.0, (refl, h.2.1)), (c.serial, h.3.0, (refl, h.3.1)))
