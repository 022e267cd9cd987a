-- A scan that is no scan of a code is told its first fault.
use Rattle.std.proofs.Common.{◌≡◌, ℕ, ◌+◌, Bool, true, false, cond, eqb, List, [], ◌∷◌, length, drop, Option, Some, None, Result, Ok, Err, refl, sym, ap, subst, ◌∙◌, inl, inr}
use Rattle.std.specs.Prelude.{◌==◌, ◌||◌, is_some, codes}
use Rattle.gs1_element.specs.declared.fault.ElementFault.{ElementFault}
use Rattle.gs1_element.specs.declared.fault.ElementFault.TheVariants.{Empty, Missing, Twice}
use Rattle.gs1_element.specs.declared.found.Found.{Found}
use Rattle.gs1_element.specs.declared.code.Code.{Code}
use Rattle.gs1_element.specs.Units.{number_of, Piece}
use Rattle.gs1_element.specs.Codes.{◌>>=◌, cuts, gtin_value, text_value, date_value, once, put, need, complete, collected, nothing, from, prefix_length, code_of}
use Rattle.gs1_element.specs.Faults.{fault_of, or_else, came, unless_came, unit_fault, missing, first_fault, bytes_fault, scan_fault}
use Rattle.gs1_element.proofs.Collecting.{found_ok, once_is, put_at, put_is, which}

-- what was found is of the units that came
record Tracks (f : Found) (before : List Piece) : Type 0 where
  gtin : is_some f.gtin ≡ came 1 before
  lot : is_some f.lot ≡ came 10 before
  expiry : is_some f.expiry ≡ came 17 before
  serial : is_some f.serial ≡ came 21 before

once_fault : {X : Type 0} (o : Option X) (name : List ℕ) (r : Result X ElementFault) (made : X → Found) (b : Bool) → is_some o ≡ b → fault_of (once o name (r >>= λ x. Ok (made x))) ≡ cond b (Some (Twice name)) (fault_of r)
once_fault (Some x) name r made true e = refl
once_fault (Some x) name r made false e = absurd cc
once_fault None name r made true e = absurd cc
once_fault None name (Ok x) made false e = refl
once_fault None name (Err d) made false e = refl

abbrev fault_at : List Piece → ℕ → ℕ → List ℕ → Option ElementFault
fault_at before n at v =
    cond (eqb n 1) (unless_came 1 (codes "01") before (fault_of (gtin_value at v)))
    (cond (eqb n 10) (unless_came 10 (codes "10") before (fault_of (text_value (codes "10") at v)))
    (cond (eqb n 17) (unless_came 17 (codes "17") before (fault_of (date_value at v)))
    (cond (eqb n 21) (unless_came 21 (codes "21") before (fault_of (text_value (codes "21") at v))) None)))

put_fault_at : (n at : ℕ) (v : List ℕ) (f : Found) (before : List Piece) → Tracks f before → fault_of (put_at f n at v) ≡ fault_at before n at v
put_fault_at n at v f before t = elim (which n) as (λ _. fault_of (put_at f n at v) ≡ fault_at before n at v) [
  | inl s ↦ subst (λ m. fault_of (put_at f m at v) ≡ fault_at before m at v) (sym s) (once_fault f.gtin (codes "01") (gtin_value at v) (λ x. record f { gtin = Some x }) (came 1 before) t.gtin)
  | inr (inl s) ↦ subst (λ m. fault_of (put_at f m at v) ≡ fault_at before m at v) (sym s) (once_fault f.lot (codes "10") (text_value (codes "10") at v) (λ x. record f { lot = Some x }) (came 10 before) t.lot)
  | inr (inr (inl s)) ↦ subst (λ m. fault_of (put_at f m at v) ≡ fault_at before m at v) (sym s) (once_fault f.expiry (codes "17") (date_value at v) (λ x. record f { expiry = Some x }) (came 17 before) t.expiry)
  | inr (inr (inr (inl s))) ↦ subst (λ m. fault_of (put_at f m at v) ≡ fault_at before m at v) (sym s) (once_fault f.serial (codes "21") (text_value (codes "21") at v) (λ x. record f { serial = Some x }) (came 21 before) t.serial)
  | inr (inr (inr (inr s))) ↦ rw (s.0, s.1, s.2, s.3) refl
]

put_fault : (f : Found) (p : Piece) (before : List Piece) → Tracks f before → fault_of (put f p) ≡ unit_fault before p
put_fault f p before t = ap fault_of (put_is f p) ∙ put_fault_at (number_of p.code) (p.at + 2) p.value f before t

-- with one unit more
record TracksWith (n : ℕ) (f : Found) (before : List Piece) : Type 0 where
  gtin : is_some f.gtin ≡ (eqb n 1 || came 1 before)
  lot : is_some f.lot ≡ (eqb n 10 || came 10 before)
  expiry : is_some f.expiry ≡ (eqb n 17 || came 17 before)
  serial : is_some f.serial ≡ (eqb n 21 || came 21 before)

tracks_at : (n at : ℕ) (v : List ℕ) (f g : Found) (before : List Piece) → put_at f n at v ≡ Ok g → Tracks f before → TracksWith n g before
tracks_at n at v f g before e t = elim (which n) as (λ _. TracksWith n g before) [
  | inl s ↦ subst (λ m. TracksWith m g before) (sym s) (at_1 (subst (λ m. put_at f m at v ≡ Ok g) s e))
  | inr (inl s) ↦ subst (λ m. TracksWith m g before) (sym s) (at_10 (subst (λ m. put_at f m at v ≡ Ok g) s e))
  | inr (inr (inl s)) ↦ subst (λ m. TracksWith m g before) (sym s) (at_17 (subst (λ m. put_at f m at v ≡ Ok g) s e))
  | inr (inr (inr (inl s))) ↦ subst (λ m. TracksWith m g before) (sym s) (at_21 (subst (λ m. put_at f m at v ≡ Ok g) s e))
  | inr (inr (inr (inr s))) ↦ let q : put_at f n at v ≡ found_ok f = rw (s.0, s.1, s.2, s.3) refl in
      let same : f ≡ g = cc (sym q ∙ e) in
      subst (λ h. TracksWith n h before) same (record { gtin = rw s.0 t.gtin; lot = rw s.1 t.lot; expiry = rw s.2 t.expiry; serial = rw s.3 t.serial })
]
  where
    at_1 : put_at f 1 at v ≡ Ok g → TracksWith 1 g before
    at_1 e = let o = once_is f.gtin (codes "01") (gtin_value at v) (λ x. record f { gtin = Some x }) g e in
        subst (λ h. TracksWith 1 h before) o.3 (record { gtin = refl; lot = t.lot; expiry = t.expiry; serial = t.serial })

    at_10 : put_at f 10 at v ≡ Ok g → TracksWith 10 g before
    at_10 e = let o = once_is f.lot (codes "10") (text_value (codes "10") at v) (λ x. record f { lot = Some x }) g e in
        subst (λ h. TracksWith 10 h before) o.3 (record { gtin = t.gtin; lot = refl; expiry = t.expiry; serial = t.serial })

    at_17 : put_at f 17 at v ≡ Ok g → TracksWith 17 g before
    at_17 e = let o = once_is f.expiry (codes "17") (date_value at v) (λ x. record f { expiry = Some x }) g e in
        subst (λ h. TracksWith 17 h before) o.3 (record { gtin = t.gtin; lot = t.lot; expiry = refl; serial = t.serial })

    at_21 : put_at f 21 at v ≡ Ok g → TracksWith 21 g before
    at_21 e = let o = once_is f.serial (codes "21") (text_value (codes "21") at v) (λ x. record f { serial = Some x }) g e in
        subst (λ h. TracksWith 21 h before) o.3 (record { gtin = t.gtin; lot = t.lot; expiry = t.expiry; serial = refl })

tracks_put : (f g : Found) (p : Piece) (before : List Piece) → put f p ≡ Ok g → Tracks f before → Tracks g (p ∷ before)
tracks_put f g p before e t =
    let w = tracks_at (number_of p.code) (p.at + 2) p.value f g before (sym (put_is f p) ∙ e) t in
    record { gtin = w.gtin; lot = w.lot; expiry = w.expiry; serial = w.serial }

abbrev miss : Bool → List ℕ → Option ElementFault → Option ElementFault
miss b name next = cond b next (Some (Missing name))

need_fault : {X : Type 0} {Y : Type 0} (o : Option X) (name : List ℕ) (b : Bool) (go : X → Result Y ElementFault) (next : Option ElementFault) → is_some o ≡ b → ((x : X) → fault_of (go x) ≡ next) → fault_of (need o name >>= go) ≡ miss b name next
need_fault (Some x) name true go next e h = h x
need_fault (Some x) name false go next e h = absurd cc
need_fault None name true go next e h = absurd cc
need_fault None name false go next e h = refl

abbrev code_ok : Code → Result Code ElementFault
code_ok c = Ok c

complete_fault : (f : Found) (before : List Piece) → Tracks f before → fault_of (complete f) ≡ missing before
unfolding complete
complete_fault f before t =
    need_fault f.gtin (codes "01") (came 1 before) (λ gtin. need f.lot (codes "10") >>= λ lot. need f.expiry (codes "17") >>= λ expiry. need f.serial (codes "21") >>= λ serial. code_ok (record { gtin = gtin; serial = serial; lot = lot; expiry = expiry })) _ t.gtin (λ gtin.
    need_fault f.lot (codes "10") (came 10 before) (λ lot. need f.expiry (codes "17") >>= λ expiry. need f.serial (codes "21") >>= λ serial. code_ok (record { gtin = gtin; serial = serial; lot = lot; expiry = expiry })) _ t.lot (λ lot.
    need_fault f.expiry (codes "17") (came 17 before) (λ expiry. need f.serial (codes "21") >>= λ serial. code_ok (record { gtin = gtin; serial = serial; lot = lot; expiry = expiry })) _ t.expiry (λ expiry.
    need_fault f.serial (codes "21") (came 21 before) (λ serial. code_ok (record { gtin = gtin; serial = serial; lot = lot; expiry = expiry })) None t.serial (λ serial. refl))))

collected_fault : (ps : List Piece) (end : Option ElementFault) (f : Found) (before : List Piece) → Tracks f before → fault_of (collected ps end f) ≡ first_fault before end ps
unfolding collected
collected_fault [] (Some fault) f before t = refl
collected_fault [] None f before t = complete_fault f before t
collected_fault (p ∷ ps) end f before t = by (put f p) refl (λ g e. collected_fault ps end g (p ∷ before) (tracks_put f g p before e t))
  where
    by : (r : Result Found ElementFault) → put f p ≡ r → ((g : Found) → put f p ≡ Ok g → fault_of (collected ps end g) ≡ first_fault (p ∷ before) end ps) → fault_of (r >>= λ g. collected ps end g) ≡ or_else (unit_fault before p) (first_fault (p ∷ before) end ps)
    by (Ok g) e again = let none : unit_fault before p ≡ None = sym (put_fault f p before t) ∙ ap fault_of e in rw none (again g e)
    by (Err d) e again = let some : unit_fault before p ≡ Some d = sym (put_fault f p before t) ∙ ap fault_of e in rw some refl

pub fault_is_first : (scan : List ℕ) → fault_of (code_of scan) ≡ scan_fault scan
unfolding code_of scan_fault
fault_is_first scan =
    let m : ℕ = prefix_length scan in
    let rest : List ℕ = drop m scan in
    by (length scan == m) (from m rest nothing) (bytes_fault m rest) (collected_fault (cuts (length rest) m rest).0 (cuts (length rest) m rest).1 nothing [] (record { gtin = refl; lot = refl; expiry = refl; serial = refl }))
  where
    by : (b : Bool) (r : Result Code ElementFault) (o : Option ElementFault) → fault_of r ≡ o → fault_of (cond b (Err Empty) r) ≡ cond b (Some Empty) o
    by true r o e = refl
    by false r o e = e
