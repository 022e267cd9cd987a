-- A URN has one spelling for each length of its prefix, and what is spelled so is read as it.
use Rattle.std.proofs.Common.{◌≡◌, ℕ, suc, ◌+◌, ◌-◌, ◌≤◌, true, cond, eqb, leb, List, [], ◌∷◌, ◌++◌, length, take, drop, Option, Some, None, Result, Ok, Err, refl, sym, ap, subst, ◌∙◌, arith, append_assoc}
use Rattle.std.proofs.lemmas.List.{take_at, drop_at, take-append-drop, append-nil, length-take, length-drop}
use Rattle.std.proofs.lemmas.Bool.{eqb-true, leb-true}
use Rattle.std.proofs.lemmas.Bool.Decides.{nat_tests}
use Rattle.std.specs.List.{prefix_len}
use Rattle.gs1_keys.specs.Keys.{check, front, first_other, is_digit, is_between, IsGtin, IsSscc, IsText}
use Rattle.gs1_keys.proofs.Padding.{none_from}
use Rattle.epc_urn.specs.declared.epc.Epc.{Epc}
use Rattle.epc_urn.specs.declared.epc.Epc.TheVariants.{Item, Unit as LogisticUnit}
use Rattle.epc_urn.specs.declared.fault.Stop.{Stop}
use Rattle.epc_urn.specs.declared.fault.Stop.TheVariants.{BadField, BadPrefixLength}
use Rattle.epc_urn.specs.declared.fault.UrnFault.{UrnFault}
use Rattle.epc_urn.specs.Reading.{◌>>=◌, dot_at, end_at, digits_at, prefix_at, AreDigits, placed}
use Rattle.epc_urn.specs.Serial.{serial_at, serial_text}
use Rattle.epc_urn.specs.Urns.{sgtin_scheme, sscc_scheme, key_text, urn_text, IsEpc, IsPrefixLength, behind, fields_of, key_of, item_at, unit_at, behind_sscc, behind_sgtin, name_at, in_text, urn_of}
use Rattle.epc_urn.proofs.Digits.{front_digits, count_within, passes, none_parts, digits_again, prefix_again}
use Rattle.epc_urn.proofs.Keys.{checked, front_is, gtin_is_checked, sscc_is_checked, gtin_made, sscc_made}
use Rattle.epc_urn.proofs.Schemes.{behind_again, behind_takes}
use Rattle.epc_urn.proofs.Serials.{serial_at_takes, serial_at_again}
use Rattle.epc_urn.proofs.Spelled.{bind_is, guard}

-- ---- what was read is spelled so

dot_takes : (bytes rest : List ℕ) → dot_at bytes ≡ Ok rest → bytes ≡ 46 ∷ rest
dot_takes [] rest e = absurd cc
dot_takes (b ∷ bs) rest e =
    let g = guard (eqb b 46) (Ok bs) (BadField (length bs + 1)) rest e in
    let same : bs ≡ rest = cc (g.1) in
    ap (λ (n : ℕ). n ∷ bs) (eqb-true b 46 g.0) ∙ ap (λ (w : List ℕ). 46 ∷ w) same

end_takes : (bytes rest : List ℕ) → end_at bytes ≡ Ok rest → bytes ≡ []
end_takes [] rest e = refl
end_takes (b ∷ bs) rest e = absurd cc

record Takes (count : ℕ) (bytes : List ℕ) (x : List ℕ × List ℕ) : Type 0 where
  pub digits : AreDigits x.0
  pub size : length x.0 ≡ count
  pub parts : bytes ≡ x.0 ++ x.1

digits_take : (count : ℕ) (bytes : List ℕ) (x : List ℕ × List ℕ) → digits_at count bytes ≡ Ok x → Takes count bytes x
unfolding digits_at
digits_take count bytes x e =
    let g = guard (leb count (prefix_len is_digit bytes)) (Ok (take count bytes, drop count bytes)) (BadField (length bytes - prefix_len is_digit bytes)) x e in
    let le : count ≤ prefix_len is_digit bytes = leb-true count (prefix_len is_digit bytes) g.0 in
    let same : (take count bytes, drop count bytes) ≡ x = cc (g.1) in
    subst (Takes count bytes) same (record { digits = front_digits count bytes le; size = omega (arith, length-take count bytes, count_within bytes); parts = sym (take-append-drop count bytes) })

between : (low high n : ℕ) → is_between low high n ≡ true → (low ≤ n) × (n ≤ high)
between low high n e = grind (arith, nat_tests)

record TakesPrefix (bytes : List ℕ) (x : List ℕ × List ℕ) : Type 0 where
  pub digits : AreDigits x.0
  pub size : IsPrefixLength (length x.0)
  pub parts : bytes ≡ x.0 ++ 46 ∷ x.1

prefix_takes : (bytes : List ℕ) (x : List ℕ × List ℕ) → prefix_at bytes ≡ Ok x → TakesPrefix bytes x
unfolding prefix_at
prefix_takes bytes x e =
    let n : ℕ = prefix_len is_digit bytes in
    let a = bind_is (dot_at (drop n bytes)) (λ rest. cond (is_between 6 12 n) (Ok (take n bytes, rest)) (Err (BadPrefixLength n))) x e in
    let g = guard (is_between 6 12 n) (Ok (take n bytes, a.0)) (BadPrefixLength n) x a.2 in
    let same : (take n bytes, a.0) ≡ x = cc (g.1) in
    let len : length (take n bytes) ≡ n = omega (arith, length-take n bytes, count_within bytes) in
    let is = between 6 12 n g.0 in
    let whole : bytes ≡ take n bytes ++ 46 ∷ a.0 = sym (take-append-drop n bytes) ∙ ap (λ (w : List ℕ). take n bytes ++ w) (dot_takes (drop n bytes) a.0 a.1) in
    subst (TakesPrefix bytes) same (record { digits = front_digits n bytes (omega arith); size = (omega (arith, len), omega (arith, len)); parts = whole })

-- the fields of a key as they stand in a URN
fields_text : (prefix rest : List ℕ) → 1 ≤ length rest → key_text (length prefix) (front (key_of prefix rest)) ≡ prefix ++ 46 ∷ rest
unfolding key_of
fields_text prefix [] some = absurd (omega arith)
fields_text prefix (r ∷ rs) some =
    let digits : List ℕ = r ∷ (prefix ++ rs) in
    let is : front (key_of prefix (r ∷ rs)) ≡ digits = front_is digits (check digits + 48) in
    let behind_it : drop (1 + length prefix) digits ≡ rs = drop_at (r ∷ prefix) rs (1 + length prefix) (omega arith) in
    ap (key_text (length prefix)) is ∙ ap (λ (w : List ℕ). take (length prefix) (prefix ++ rs) ++ 46 ∷ (r ∷ w)) behind_it ∙ ap (λ (w : List ℕ). w ++ 46 ∷ (r ∷ rs)) (take_at prefix rs (length prefix) refl)

abbrev Spells : List ℕ → List ℕ → Epc × ℕ → Type 0
Spells scheme text x = (scheme ++ text ≡ urn_text x.0 x.1) × IsEpc x.0 × IsPrefixLength x.1

abbrev named : Epc × ℕ → Result (Epc × ℕ) Stop
named x = Ok x

item_takes : (text : List ℕ) (x : Epc × ℕ) → item_at text ≡ Ok x → Spells sgtin_scheme text x
unfolding item_at urn_text
item_takes text x e =
    let a = bind_is (prefix_at text) (λ p. digits_at (13 - length p.0) p.1 >>= λ r. dot_at r.1 >>= λ s. serial_at s >>= λ serial. named (Item (key_of p.0 r.0) serial, length p.0)) x e in
    let b = bind_is (digits_at (13 - length a.0.0) a.0.1) (λ r. dot_at r.1 >>= λ s. serial_at s >>= λ serial. named (Item (key_of a.0.0 r.0) serial, length a.0.0)) x a.2 in
    let d = bind_is (dot_at b.0.1) (λ s. serial_at s >>= λ serial. named (Item (key_of a.0.0 b.0.0) serial, length a.0.0)) x b.2 in
    let s = bind_is (serial_at d.0) (λ serial. named (Item (key_of a.0.0 b.0.0) serial, length a.0.0)) x d.2 in
    let same : (Item (key_of a.0.0 b.0.0) s.0, length a.0.0) ≡ x = cc (s.2) in
    let p = prefix_takes text a.0 a.1 in
    let r = digits_take (13 - length a.0.0) a.0.1 b.0 b.1 in
    let few = p.size in
    let size = r.size in
    let some : 1 ≤ length b.0.0 = omega arith in
    let serial = serial_at_takes d.0 s.0 s.1 in
    let rest : a.0.1 ≡ b.0.0 ++ 46 ∷ serial_text s.0 = r.parts ∙ ap (λ (w : List ℕ). b.0.0 ++ w) (dot_takes b.0.1 d.0 d.1 ∙ ap (λ (w : List ℕ). 46 ∷ w) serial.0) in
    let whole : text ≡ (a.0.0 ++ 46 ∷ b.0.0) ++ 46 ∷ serial_text s.0 = p.parts ∙ ap (λ (w : List ℕ). a.0.0 ++ 46 ∷ w) rest ∙ sym (append_assoc a.0.0 (46 ∷ b.0.0) (46 ∷ serial_text s.0)) in
    let spelled : sgtin_scheme ++ text ≡ urn_text (Item (key_of a.0.0 b.0.0) s.0) (length a.0.0) = ap (λ (w : List ℕ). sgtin_scheme ++ w) (whole ∙ ap (λ (w : List ℕ). w ++ 46 ∷ serial_text s.0) (sym (fields_text a.0.0 b.0.0 some))) in
    subst (Spells sgtin_scheme text) same (spelled, (gtin_made a.0.0 b.0.0 (omega arith) some p.digits r.digits, serial.1), few)

unit_takes : (text : List ℕ) (x : Epc × ℕ) → unit_at text ≡ Ok x → Spells sscc_scheme text x
unfolding unit_at urn_text
unit_takes text x e =
    let a = bind_is (prefix_at text) (λ p. digits_at (17 - length p.0) p.1 >>= λ r. end_at r.1 >>= λ _. named (LogisticUnit (key_of p.0 r.0), length p.0)) x e in
    let b = bind_is (digits_at (17 - length a.0.0) a.0.1) (λ r. end_at r.1 >>= λ _. named (LogisticUnit (key_of a.0.0 r.0), length a.0.0)) x a.2 in
    let d = bind_is (end_at b.0.1) (λ _. named (LogisticUnit (key_of a.0.0 b.0.0), length a.0.0)) x b.2 in
    let same : (LogisticUnit (key_of a.0.0 b.0.0), length a.0.0) ≡ x = cc (d.2) in
    let p = prefix_takes text a.0 a.1 in
    let r = digits_take (17 - length a.0.0) a.0.1 b.0 b.1 in
    let few = p.size in
    let size = r.size in
    let some : 1 ≤ length b.0.0 = omega arith in
    let rest : a.0.1 ≡ b.0.0 = r.parts ∙ ap (λ (w : List ℕ). b.0.0 ++ w) (end_takes b.0.1 d.0 d.1) ∙ append-nil b.0.0 in
    let whole : text ≡ a.0.0 ++ 46 ∷ b.0.0 = p.parts ∙ ap (λ (w : List ℕ). a.0.0 ++ 46 ∷ w) rest in
    let spelled : sscc_scheme ++ text ≡ urn_text (LogisticUnit (key_of a.0.0 b.0.0)) (length a.0.0) = ap (λ (w : List ℕ). sscc_scheme ++ w) (whole ∙ sym (fields_text a.0.0 b.0.0 some)) in
    subst (Spells sscc_scheme text) same (spelled, sscc_made a.0.0 b.0.0 (omega arith) some p.digits r.digits, few)

unit_named : (o : Option (List ℕ)) (text : List ℕ) (x : Epc × ℕ) → behind sscc_scheme text ≡ o → behind_sscc o ≡ Ok x → Spells [] text x
unit_named None text x f e = absurd cc
unit_named (Some rest) text x f e =
    let t = unit_takes rest x e in
    (behind_takes sscc_scheme text rest f ∙ t.0, t.1, t.2)

any_named : (o : Option (List ℕ)) (text : List ℕ) (x : Epc × ℕ) → behind sgtin_scheme text ≡ o → behind_sgtin o text ≡ Ok x → Spells [] text x
any_named None text x f e = unit_named (behind sscc_scheme text) text x refl e
any_named (Some rest) text x f e =
    let t = item_takes rest x e in
    (behind_takes sgtin_scheme text rest f ∙ t.0, t.1, t.2)

pub name_takes : (text : List ℕ) (x : Epc × ℕ) → name_at text ≡ Ok x → (text ≡ urn_text x.0 x.1) × IsEpc x.0 × IsPrefixLength x.1
unfolding name_at
name_takes text x e = any_named (behind sgtin_scheme text) text x refl e

-- ---- and what is spelled so is read

record Split (digits : List ℕ) (n : ℕ) : Type 0 where
  pub prefix_digits : AreDigits (take n (drop 1 digits))
  pub rest_digits : AreDigits (take 1 digits ++ drop (1 + n) digits)
  pub prefix_size : length (take n (drop 1 digits)) ≡ n
  pub rest_size : length (take 1 digits ++ drop (1 + n) digits) ≡ length digits - n
  pub whole : fields_of (take n (drop 1 digits)) (take 1 digits ++ drop (1 + n) digits) ≡ digits

splits : (digits : List ℕ) (n : ℕ) → AreDigits digits → 1 + n ≤ length digits → Split digits n
splits [] n h le = absurd (omega arith)
splits (d ∷ ds) n h le =
    let p = passes (is_digit d) (first_other is_digit 1 ds) 0 h in
    let parts = none_parts is_digit 0 (take n ds) (drop n ds) (subst AreDigits (sym (take-append-drop n ds)) (none_from is_digit ds 1 0 p.1)) in
    let next : drop (1 + n) (d ∷ ds) ≡ drop n ds = ap (λ (k : ℕ). drop k (d ∷ ds)) (let e : 1 + n ≡ suc n = omega arith in e) in
    record {
      prefix_digits = parts.0;
      rest_digits = subst (λ (w : List ℕ). AreDigits (d ∷ w)) (sym next) (rw (p.0) (none_from is_digit (drop n ds) 0 1 parts.1));
      prefix_size = omega (arith, length-take n ds);
      rest_size = ap (λ (w : List ℕ). length (d ∷ w)) next ∙ omega (arith, length-drop n ds);
      whole = ap (λ (w : List ℕ). d ∷ (take n ds ++ w)) next ∙ ap (λ (w : List ℕ). d ∷ w) (take-append-drop n ds);
    }

key_again : (digits : List ℕ) (n : ℕ) → Split digits n → key_of (take n (drop 1 digits)) (take 1 digits ++ drop (1 + n) digits) ≡ checked digits
unfolding key_of
key_again digits n h = ap checked h.whole

item_again : (gtin serial : List ℕ) (n : ℕ) → IsGtin gtin → IsText serial → IsPrefixLength n → item_at (key_text n (front gtin) ++ 46 ∷ serial_text serial) ≡ Ok (Item gtin serial, n)
unfolding item_at
item_again gtin serial n h k few =
    let is = gtin_is_checked gtin h in
    let size = is.2 in
    let digits : List ℕ = front gtin in
    let s = splits digits n is.1 (omega arith) in
    let p : List ℕ = take n (drop 1 digits) in
    let r : List ℕ = take 1 digits ++ drop (1 + n) digits in
    let p_size = s.prefix_size in
    let r_size = s.rest_size in
    let text : key_text n digits ++ 46 ∷ serial_text serial ≡ p ++ 46 ∷ (r ++ 46 ∷ serial_text serial) = append_assoc p (46 ∷ r) (46 ∷ serial_text serial) in
    let key : key_of p r ≡ gtin = key_again digits n s ∙ is.0 in
    let read : item_at (p ++ 46 ∷ (r ++ 46 ∷ serial_text serial)) ≡ Ok (Item (key_of p r) serial, length p) =
    rw (prefix_again p (r ++ 46 ∷ serial_text serial) s.prefix_digits (omega arith) (omega arith), digits_again (13 - length p) r (46 ∷ serial_text serial) s.rest_digits (omega arith), serial_at_again serial k) refl in
    ap item_at text ∙ read ∙ ap (λ (w : List ℕ). named (Item w serial, length p)) key ∙ ap (λ (m : ℕ). named (Item gtin serial, m)) p_size

unit_again : (sscc : List ℕ) (n : ℕ) → IsSscc sscc → IsPrefixLength n → unit_at (key_text n (front sscc)) ≡ Ok (LogisticUnit sscc, n)
unfolding unit_at
unit_again sscc n h few =
    let is = sscc_is_checked sscc h in
    let size = is.2 in
    let digits : List ℕ = front sscc in
    let s = splits digits n is.1 (omega arith) in
    let p : List ℕ = take n (drop 1 digits) in
    let r : List ℕ = take 1 digits ++ drop (1 + n) digits in
    let p_size = s.prefix_size in
    let r_size = s.rest_size in
    let text : key_text n digits ≡ p ++ 46 ∷ (r ++ []) = ap (λ (w : List ℕ). p ++ 46 ∷ w) (sym (append-nil r)) in
    let key : key_of p r ≡ sscc = key_again digits n s ∙ is.0 in
    let read : unit_at (p ++ 46 ∷ (r ++ [])) ≡ Ok (LogisticUnit (key_of p r), length p) =
    rw (prefix_again p (r ++ []) s.prefix_digits (omega arith) (omega arith), digits_again (17 - length p) r [] s.rest_digits (omega arith)) refl in
    ap unit_at text ∙ read ∙ ap (λ (w : List ℕ). named (LogisticUnit w, length p)) key ∙ ap (λ (m : ℕ). named (LogisticUnit sscc, m)) p_size

other_scheme : (rest : List ℕ) → behind sgtin_scheme (sscc_scheme ++ rest) ≡ None
unfolding behind sgtin_scheme sscc_scheme
other_scheme rest = refl

pub name_again : (epc : Epc) (n : ℕ) → IsEpc epc → IsPrefixLength n → name_at (urn_text epc n) ≡ Ok (epc, n)
unfolding name_at urn_text
name_again (Item gtin serial) n h few =
    ap (λ (o : Option (List ℕ)). behind_sgtin o (urn_text (Item gtin serial) n)) (behind_again sgtin_scheme (key_text n (front gtin) ++ 46 ∷ serial_text serial)) ∙ item_again gtin serial n h.0 h.1 few
name_again (LogisticUnit sscc) n h few =
    ap (λ (o : Option (List ℕ)). behind_sgtin o (urn_text (LogisticUnit sscc) n)) (other_scheme (key_text n (front sscc))) ∙ ap behind_sscc (behind_again sscc_scheme (key_text n (front sscc))) ∙ unit_again sscc n h few

-- ---- what the public call promises

pub urn_again : (text : List ℕ) (epc : Epc) (n : ℕ) → IsEpc epc → IsPrefixLength n → text ≡ urn_text epc n → urn_of text ≡ Ok (epc, n)
unfolding urn_of
urn_again text epc n h few e = ap (in_text (length text)) (ap name_at e ∙ name_again epc n h few)

abbrev answered : Epc × ℕ → Result (Epc × ℕ) UrnFault
answered x = Ok x

abbrev refused : UrnFault → Result (Epc × ℕ) UrnFault
refused fault = Err fault

pub read_is : (text : List ℕ) (x : Epc × ℕ) → name_at text ≡ Ok x → answered x ≡ urn_of text
unfolding urn_of
read_is text x e = sym (ap (in_text (length text)) e)

pub fault_is : (text : List ℕ) (stop : Stop) (fault : UrnFault) → name_at text ≡ Err stop → fault ≡ placed (length text) stop → refused fault ≡ urn_of text
unfolding urn_of
fault_is text stop fault e f = ap refused f ∙ sym (ap (in_text (length text)) e)

pub read_back : (text : List ℕ) (epc : Epc) (n : ℕ) → text ≡ urn_text epc n → IsEpc epc → IsPrefixLength n → urn_of text ≡ Ok (epc, n)
read_back text epc n e h few = urn_again text epc n h few e
