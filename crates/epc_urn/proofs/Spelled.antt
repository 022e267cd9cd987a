-- A character has one spelling, and so has a serial.
use Rattle.std.proofs.Common.{◌≡◌, ℕ, zero, suc, ◌+◌, ◌≤◌, Bool, true, false, cond, eqb, List, [], ◌∷◌, ◌++◌, length, Option, Some, None, Result, Ok, Err, refl, sym, ap, subst, ◌∙◌, arith}
use Rattle.std.specs.List.{AllByRecursion}
use Rattle.std.specs.Prelude.{not, ◌&&◌, ◌||◌}
use Rattle.std.proofs.lemmas.Bool.{eqb-true}
use Rattle.gs1_keys.specs.Keys.{is_in_set}
use Rattle.epc_urn.specs.declared.fault.Stop.{Stop}
use Rattle.epc_urn.specs.declared.fault.Stop.TheVariants.{BadField, BadEscape}
use Rattle.epc_urn.specs.Reading.{◌>>=◌}
use Rattle.epc_urn.specs.Serial.{is_hex, escaped, is_plain, written, serial_text, meant, escape_at, char_at, serial_of}

-- at most so many characters of the set
abbrev pub IsSerial : ℕ → List ℕ → Type 0
IsSerial room serial = (length serial ≤ room) × AllByRecursion (λ c. is_in_set c ≡ true) serial

abbrev Written : ℕ → List ℕ → List ℕ → Type 0
Written c bytes rest = (bytes ≡ written c ++ rest) × (is_in_set c ≡ true)

-- an escape
pick : (b : Bool) (c d : ℕ) (o : Option ℕ) (P : ℕ → Type 0) → (b ≡ true → P c) → (o ≡ Some d → P d) → cond b (Some c) o ≡ Some d → P d
pick true c d o P f g e = let s : c ≡ d = cc in subst P s (f refl)
pick false c d o P f g e = g e

no_char : (d : ℕ) (P : Type 0) → None ≡ Some d → P
no_char d P e = absurd cc

split : (b : Bool) (x y : Option ℕ) (d : ℕ) (P : Type 0) → (b ≡ true → x ≡ Some d → P) → (y ≡ Some d → P) → cond b x y ≡ Some d → P
split true x y d P f g e = f refl e
split false x y d P f g e = g e

Escape : ℕ → ℕ → ℕ → Type 0
Escape h l c = (37 ∷ h ∷ l ∷ [] ≡ written c) × (is_in_set c ≡ true)

is_escape : (h l c : ℕ) → escaped h l ≡ Some c → Escape h l c
unfolding Escape
is_escape h l c e =
    split (eqb h 50) (cond (eqb l 50) (Some 34) (cond (eqb l 53) (Some 37) (cond (eqb l 54) (Some 38) (cond (eqb l 70) (Some 47) None)))) (cond (eqb h 51) (cond (eqb l 67) (Some 60) (cond (eqb l 69) (Some 62) (cond (eqb l 70) (Some 63) None))) None) c (Escape h l c)
    (λ i. pick (eqb l 50) 34 c _ (Escape h l) (λ j. rw (eqb-true h 50 i, eqb-true l 50 j) (refl, refl)) (pick (eqb l 53) 37 c _ (Escape h l) (λ j. rw (eqb-true h 50 i, eqb-true l 53 j) (refl, refl)) (pick (eqb l 54) 38 c _ (Escape h l) (λ j. rw (eqb-true h 50 i, eqb-true l 54 j) (refl, refl)) (pick (eqb l 70) 47 c None (Escape h l) (λ j. rw (eqb-true h 50 i, eqb-true l 70 j) (refl, refl)) (no_char c (Escape h l c))))))
    (split (eqb h 51) (cond (eqb l 67) (Some 60) (cond (eqb l 69) (Some 62) (cond (eqb l 70) (Some 63) None))) None c (Escape h l c)
    (λ i. pick (eqb l 67) 60 c _ (Escape h l) (λ j. rw (eqb-true h 51 i, eqb-true l 67 j) (refl, refl)) (pick (eqb l 69) 62 c _ (Escape h l) (λ j. rw (eqb-true h 51 i, eqb-true l 69 j) (refl, refl)) (pick (eqb l 70) 63 c None (Escape h l) (λ j. rw (eqb-true h 51 i, eqb-true l 70 j) (refl, refl)) (no_char c (Escape h l c)))))
    (no_char c (Escape h l c)))
    e

pub bind_is : {A B : Type 0} (r : Result A Stop) (f : A → Result B Stop) (y : B) → (r >>= f) ≡ Ok y → (x : A) × (r ≡ Ok x) × (f x ≡ Ok y)
bind_is (Ok x) f y e = (x, refl, e)
bind_is (Err d) f y e = absurd cc

pub guard : {X : Type 0} (b : Bool) (r : Result X Stop) (f : Stop) (x : X) → cond b r (Err f) ≡ Ok x → (b ≡ true) × (r ≡ Ok x)
guard true r f x e = (refl, e)
guard false r f x e = absurd cc

meant_is : (left : ℕ) (o : Option ℕ) (rest : List ℕ) (x : ℕ × List ℕ) → meant left o rest ≡ Ok x → (o ≡ Some x.0) × (rest ≡ x.1)
meant_is left None rest x e = absurd cc
meant_is left (Some c) rest x e = let s : (c, rest) ≡ x = cc in (ap (λ (y : ℕ × List ℕ). Some y.0) s, ap (λ (y : ℕ × List ℕ). y.1) s)

escape_takes : (left : ℕ) (bs : List ℕ) (x : ℕ × List ℕ) → escape_at left bs ≡ Ok x → Written x.0 (37 ∷ bs) x.1
unfolding Escape
escape_takes left [] x e = absurd cc
escape_takes left (h ∷ []) x e = absurd cc
escape_takes left (h ∷ l ∷ rest) x e =
    let g = guard (is_hex h && is_hex l) (meant left (escaped h l) rest) (BadEscape left) x e in
    let m = meant_is left (escaped h l) rest x g.1 in
    let s = is_escape h l x.0 m.0 in
    (ap (λ (w : List ℕ). 37 ∷ h ∷ l ∷ w) m.1 ∙ ap (λ (w : List ℕ). w ++ x.1) s.0, s.1)

none_of : (s a b c d e f g : Bool) → s && not (a || b || c || d || e || f || g) ≡ true → (s ≡ true) × (a ≡ false) × (b ≡ false) × (c ≡ false) × (d ≡ false) × (e ≡ false) × (f ≡ false) × (g ≡ false)
none_of true false false false false false false false h = (refl, refl, refl, refl, refl, refl, refl, refl)
none_of true false false false false false false true h = absurd cc
none_of true false false false false false true g h = absurd cc
none_of true false false false false true f g h = absurd cc
none_of true false false false true e f g h = absurd cc
none_of true false false true d e f g h = absurd cc
none_of true false true c d e f g h = absurd cc
none_of true true b c d e f g h = absurd cc
none_of false a b c d e f g h = absurd cc

plain_is : (b : ℕ) → is_plain b ≡ true → (written b ≡ b ∷ []) × (is_in_set b ≡ true)
plain_is b h =
    let n = none_of (is_in_set b) (eqb b 34) (eqb b 37) (eqb b 38) (eqb b 47) (eqb b 60) (eqb b 62) (eqb b 63) h in
    (rw (n.1, n.2, n.3, n.4, n.5, n.6, n.7) refl, n.0)

char_takes : (text : List ℕ) (x : ℕ × List ℕ) → char_at text ≡ Ok x → Written x.0 text x.1
unfolding char_at
char_takes [] x e = absurd cc
char_takes (b ∷ bs) x e = by (eqb b 37) refl e
  where
    by : (v : Bool) → eqb b 37 ≡ v → cond v (escape_at (length bs + 1) bs) (cond (is_plain b) (Ok (b, bs)) (Err (BadField (length bs + 1)))) ≡ Ok x → Written x.0 (b ∷ bs) x.1
    by true h e = subst (λ (n : ℕ). Written x.0 (n ∷ bs) x.1) (sym (eqb-true b 37 h)) (escape_takes (length bs + 1) bs x e)
    by false h e =
        let g = guard (is_plain b) (Ok (b, bs)) (BadField (length bs + 1)) x e in
        let p = plain_is b g.0 in
        let s : (b, bs) ≡ x = cc (g.1) in
        subst (λ (y : ℕ × List ℕ). Written y.0 (b ∷ bs) y.1) s (ap (λ (w : List ℕ). w ++ bs) (sym p.0), p.1)

char_again : (c : ℕ) (rest : List ℕ) → is_in_set c ≡ true → char_at (written c ++ rest) ≡ Ok (c, rest)
unfolding char_at
char_again c rest h = by (eqb c 34) (eqb c 37) (eqb c 38) (eqb c 47) (eqb c 60) (eqb c 62) (eqb c 63) refl refl refl refl refl refl refl
  where
    is : (n : ℕ) → eqb c n ≡ true → char_at (written n ++ rest) ≡ Ok (n, rest) → char_at (written c ++ rest) ≡ Ok (c, rest)
    is n e k = subst (λ (m : ℕ). char_at (written m ++ rest) ≡ Ok (m, rest)) (sym (eqb-true c n e)) k

    by : (a b d e f g i : Bool) → eqb c 34 ≡ a → eqb c 37 ≡ b → eqb c 38 ≡ d → eqb c 47 ≡ e → eqb c 60 ≡ f → eqb c 62 ≡ g → eqb c 63 ≡ i → char_at (written c ++ rest) ≡ Ok (c, rest)
    by true b d e f g i h0 h1 h2 h3 h4 h5 h6 = is 34 h0 refl
    by false true d e f g i h0 h1 h2 h3 h4 h5 h6 = is 37 h1 refl
    by false false true e f g i h0 h1 h2 h3 h4 h5 h6 = is 38 h2 refl
    by false false false true f g i h0 h1 h2 h3 h4 h5 h6 = is 47 h3 refl
    by false false false false true g i h0 h1 h2 h3 h4 h5 h6 = is 60 h4 refl
    by false false false false false true i h0 h1 h2 h3 h4 h5 h6 = is 62 h5 refl
    by false false false false false false true h0 h1 h2 h3 h4 h5 h6 = is 63 h6 refl
    by false false false false false false false h0 h1 h2 h3 h4 h5 h6 =
        let plain : written c ≡ c ∷ [] = rw (h0, h1, h2, h3, h4, h5, h6) refl in
        ap (λ (w : List ℕ). char_at (w ++ rest)) plain ∙ rw (h1, h, h0, h2, h3, h4, h5, h6) refl

abbrev made : List ℕ → Result (List ℕ) Stop
made s = Ok s

pub serial_takes : (room : ℕ) (text serial : List ℕ) → serial_of room text ≡ Ok serial → (text ≡ serial_text serial) × IsSerial room serial
unfolding serial_of
serial_takes zero [] serial e = let s : [] ≡ serial = cc in subst (λ (w : List ℕ). ([] ≡ serial_text w) × IsSerial 0 w) s (refl, (omega arith, tt))
serial_takes zero (b ∷ bs) serial e = absurd cc
serial_takes (suc room) [] serial e = let s : [] ≡ serial = cc in subst (λ (w : List ℕ). ([] ≡ serial_text w) × IsSerial (suc room) w) s (refl, (omega arith, tt))
serial_takes (suc room) (b ∷ bs) serial e =
    let a = bind_is (char_at (b ∷ bs)) (λ c. serial_of room c.1 >>= λ cs. made (c.0 ∷ cs)) serial e in
    let d = bind_is (serial_of room a.0.1) (λ cs. made (a.0.0 ∷ cs)) serial a.2 in
    let s : a.0.0 ∷ d.0 ≡ serial = cc (d.2) in
    let c = char_takes (b ∷ bs) a.0 a.1 in
    let others = serial_takes room a.0.1 d.0 d.1 in
    subst (λ (w : List ℕ). (b ∷ bs ≡ serial_text w) × IsSerial (suc room) w) s (c.0 ∙ ap (λ (w : List ℕ). written a.0.0 ++ w) others.0, (omega (arith, others.1.0), (c.1, others.1.1)))

no_char_in : (c : ℕ) (rest : List ℕ) → char_at [] ≡ Ok (c, rest) → ⊥
unfolding char_at
no_char_in c rest e = absurd cc

serial_one : (room c : ℕ) (text rest cs : List ℕ) → char_at text ≡ Ok (c, rest) → serial_of room rest ≡ Ok cs → serial_of (suc room) text ≡ Ok (c ∷ cs)
unfolding serial_of
serial_one room c [] rest cs e f = absurd (no_char_in c rest e)
serial_one room c (b ∷ bs) rest cs e f = rw (e, f) refl

pub serial_again : (room : ℕ) (serial : List ℕ) → IsSerial room serial → serial_of room (serial_text serial) ≡ Ok serial
unfolding serial_of
serial_again zero [] h = refl
serial_again zero (c ∷ cs) h = absurd (omega (arith, h.0))
serial_again (suc room) [] h = refl
serial_again (suc room) (c ∷ cs) h = serial_one room c (written c ++ serial_text cs) (serial_text cs) cs (char_again c (serial_text cs) h.1.0) (serial_again room cs (omega (arith, h.0), h.1.1))
