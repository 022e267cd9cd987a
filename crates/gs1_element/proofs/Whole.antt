-- A scan is read exactly where it is one.
use Rattle.std.proofs.Common.{◌≡◌, ℕ, ◌<◌, Bool, true, false, cond, eqb, List, [], ◌∷◌, ◌++◌, length, take, drop, get_or, Option, Some, None, Result, Ok, Err, refl, sym, ap, subst, ◌∙◌, arith, inl, inr}
use Rattle.std.specs.Prelude.{◌==◌, ◌||◌, nat_eq, codes, IfOk}
use Rattle.std.specs.List.{starts_with}
use Rattle.std.proofs.lemmas.Slice.Eq.{starts_is}
use Rattle.std.proofs.lemmas.Bool.Decides.{nat_tests, Decides-eqb}
use Rattle.std.proofs.lemmas.List.{length-append, take_at, drop_at, get_or_append_left, take-append-drop}
use Rattle.gs1_keys.specs.Keys.{is_digit}
use Rattle.gs1_element.specs.declared.fault.ElementFault.{ElementFault}
use Rattle.gs1_element.specs.declared.fault.ElementFault.TheVariants.{Empty}
use Rattle.gs1_element.specs.declared.found.Found.{Found}
use Rattle.gs1_element.specs.declared.code.Code.{Code}
use Rattle.gs1_element.specs.Units.{Piece}
use Rattle.gs1_element.specs.Codes.{Cuts, cuts, put, collected, nothing, from, prefix_length, code_of}
use Rattle.gs1_element.specs.Parts.{pieces_from}
use Rattle.gs1_element.specs.Scans.{Element, separator, joined, AreElements, pieces_of, HasValues, IsMark, IsScan}
use Rattle.gs1_element.proofs.Cutting.{cuts_take, cuts_again}
use Rattle.gs1_element.proofs.Collecting.{bind_is, values_take, values_again}

ended_none : (ps : List Piece) (end : Option ElementFault) (f : Found) (c : Code) → collected ps end f ≡ Ok c → end ≡ None
unfolding collected
ended_none [] None f c e = refl
ended_none [] (Some fault) f c e = absurd cc
ended_none (p ∷ ps) end f c e = let b = bind_is (put f p) (λ g. collected ps end g) c e in ended_none ps end b.0 c b.2

-- ---- the scanner prefix

begins : (mark scan : List ℕ) → starts_with nat_eq scan mark ≡ true → take (length mark) scan ≡ mark
begins mark scan e =
    let cut : scan ≡ mark ++ drop (length mark) scan = (starts_is Decides-eqb scan mark (starts_with nat_eq scan mark) refl).0 e in
    ap (take (length mark)) cut ∙ take_at mark (drop (length mark) scan) (length mark) refl

abbrev IsMarked : List ℕ → ℕ → Type 0
IsMarked scan n = IsMark (take n scan) × (length (take n scan) ≡ n)

mark_is : (scan : List ℕ) → IsMarked scan (prefix_length scan)
unfolding prefix_length
mark_is scan = by (starts_with nat_eq scan (codes "]d2")) (starts_with nat_eq scan (codes "]C1")) refl refl
  where
    by : (d c : Bool) → starts_with nat_eq scan (codes "]d2") ≡ d → starts_with nat_eq scan (codes "]C1") ≡ c → IsMarked scan (cond (d || c) 3 0)
    by true c h k = let front : take 3 scan ≡ codes "]d2" = begins (codes "]d2") scan h in (inr (inl front), ap length front)
    by false true h k = let front : take 3 scan ≡ codes "]C1" = begins (codes "]C1") scan k in (inr (inr front), ap length front)
    by false false h k = (inl refl, refl)

not_empty : (b : Bool) (r : Result Code ElementFault) (c : Code) → cond b (Err Empty) r ≡ Ok c → r ≡ Ok c
not_empty true r c e = absurd cc
not_empty false r c e = e

pub code_takes : (scan : List ℕ) (c : Code) → code_of scan ≡ Ok c → IsScan scan c
unfolding code_of
code_takes scan c e =
    let m : ℕ = prefix_length scan in
    let rest : List ℕ = drop m scan in
    let made : from m rest nothing ≡ Ok c = not_empty (length scan == m) (from m rest nothing) c e in
    let done : (cuts (length rest) m rest).1 ≡ None = ended_none (cuts (length rest) m rest).0 (cuts (length rest) m rest).1 nothing c made in
    let cut = cuts_take (length rest) m rest (omega arith) done in
    let all : collected (cuts (length rest) m rest).0 None nothing ≡ Ok c = ap (λ (end : Option ElementFault). collected (cuts (length rest) m rest).0 end nothing) (sym done) ∙ made in
    let mark = mark_is scan in
    let have : HasValues (pieces_of m cut.0) c = values_take (pieces_of m cut.0) c (ap (λ (ps : List Piece). collected ps None nothing) (sym cut.3) ∙ all) in
    (take m scan, mark.0, cut.0, sym (take-append-drop m scan) ∙ ap (λ (w : List ℕ). take m scan ++ w) cut.1, cut.2, subst (λ (n : ℕ). HasValues (pieces_of n cut.0) c) (sym mark.1) have)

-- ---- the other way

not_bracket : (d : ℕ) → is_digit d ≡ true → eqb 93 d ≡ false
not_bracket d h = grind (arith, nat_tests)

-- what begins with a digit has no scanner prefix
no_bracket : (xs mark : List ℕ) → is_digit (get_or xs 0 0) ≡ true → starts_with nat_eq xs (93 ∷ mark) ≡ false
no_bracket [] mark h = absurd cc
no_bracket (x ∷ xs) mark h = rw (not_bracket x h) refl

no_mark : (us : List Element) → AreElements us → prefix_length (joined us) ≡ 0
unfolding prefix_length
no_mark [] h = refl
no_mark (u ∷ us) h =
    let all : List ℕ = u.text ++ (separator u.ended ++ joined us) in
    let first : get_or all 0 0 ≡ get_or u.text 0 0 = get_or_append_left u.text (separator u.ended ++ joined us) 0 0 (omega (arith, h.0.0)) in
    let digit : is_digit (get_or all 0 0) ≡ true = ap is_digit first ∙ h.0.1 in
    rw (no_bracket all (codes "d2") digit, no_bracket all (codes "C1") digit) refl

prefix_of_mark : (mark : List ℕ) (us : List Element) → IsMark mark → AreElements us → prefix_length (mark ++ joined us) ≡ length mark
unfolding prefix_length
prefix_of_mark mark us (inl e) h = subst (λ (m : List ℕ). prefix_length (m ++ joined us) ≡ length m) (sym e) (no_mark us h)
prefix_of_mark mark us (inr (inl e)) h = subst (λ (m : List ℕ). prefix_length (m ++ joined us) ≡ length m) (sym e) refl
prefix_of_mark mark us (inr (inr e)) h = subst (λ (m : List ℕ). prefix_length (m ++ joined us) ≡ length m) (sym e) refl

some_bytes : (at : ℕ) (us : List Element) (c : Code) → AreElements us → HasValues (pieces_of at us) c → 0 < length (joined us)
some_bytes at [] c h v = absurd (let e = v.0.0 in cc)
some_bytes at (u ∷ us) c h v = omega (arith, h.0.0, length-append u.text (separator u.ended ++ joined us))

pub code_again : (scan : List ℕ) (c : Code) → IsScan scan c → code_of scan ≡ Ok c
unfolding code_of
code_again scan c (mark, m, us, e, h, v) =
    let n : prefix_length (mark ++ joined us) ≡ length mark = prefix_of_mark mark us m h in
    let some : 0 < length (joined us) = some_bytes (length mark) us c h v in
    let not_all : eqb (length (mark ++ joined us)) (length mark) ≡ false = more (length (mark ++ joined us)) (length mark) (omega (arith, length-append mark (joined us))) in
    let rest : drop (length mark) (mark ++ joined us) ≡ joined us = drop_at mark (joined us) (length mark) refl in
    let cut : cuts (length (joined us)) (length mark) (joined us) ≡ (pieces_of (length mark) us, None) = cuts_again us (length (joined us)) (length mark) h (omega arith) in
    ap code_of e ∙ rw (n, not_all, rest, cut) (values_again (pieces_of (length mark) us) c v)
  where
    more : (a b : ℕ) → b < a → eqb a b ≡ false
    more a b lt = grind (arith, nat_tests)

pub is_found : (scan : List ℕ) (r : Result Code ElementFault) → r ≡ code_of scan → IfOk r (λ c. IsScan scan c)
is_found scan (Ok c) e = code_takes scan c (sym e)
is_found scan (Err f) e = tt

abbrev code_ok : Code → Result Code ElementFault
code_ok c = Ok c

same_code : (c d : Code) → code_ok c ≡ code_ok d → c ≡ d
same_code c d e = cc

pub one_code_each : (scan : List ℕ) (c d : Code) → IsScan scan c → IsScan scan d → c ≡ d
one_code_each scan c d h k = same_code c d (sym (code_again scan c h) ∙ code_again scan d k)

-- the units that a scan is joined of are those that are cut
pub units_are_cut : (scan mark : List ℕ) (us : List Element) → IsMark mark → AreElements us → scan ≡ mark ++ joined us → pieces_from (prefix_length scan) scan ≡ pieces_of (length mark) us
units_are_cut scan mark us m h e =
    let n : prefix_length (mark ++ joined us) ≡ length mark = prefix_of_mark mark us m h in
    let rest : drop (length mark) (mark ++ joined us) ≡ joined us = drop_at mark (joined us) (length mark) refl in
    let cut : cuts (length (joined us)) (length mark) (joined us) ≡ (pieces_of (length mark) us, None) = cuts_again us (length (joined us)) (length mark) h (omega arith) in
    let here : pieces_from (length mark) (mark ++ joined us) ≡ pieces_of (length mark) us = ap (λ (w : List ℕ). (cuts (length w) (length mark) w).0) rest ∙ ap (λ (x : Cuts). x.0) cut in
    ap (λ (w : List ℕ). pieces_from (prefix_length w) w) e ∙ ap (λ (k : ℕ). pieces_from k (mark ++ joined us)) n ∙ here
