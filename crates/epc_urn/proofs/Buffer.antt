-- A text at the front of a buffer of zeros.
use Rattle.std.proofs.Common.{◌≡◌, ℕ, ◌+◌, ◌≤◌, ◌-◌, List, [], ◌∷◌, ◌++◌, length, take, drop, replicate, set, get_or, refl, sym, ap, subst, ◌∙◌, arith, append_assoc}
use Rattle.std.proofs.lemmas.List.{length-take, length-drop, length-append, length-set, drop-replicate, drop_at, take_at, take_all}
use Rattle.std.proofs.lemmas.Slice.{take-put_mid}
use borrow.Rule.Slice.PartMut.{put_mid, mid_of, same_len_mid}
use Rattle.gs1_keys.specs.Inline.{IsInline, front_length}
use Rattle.gs1_keys.proofs.Inline.{copied}
use Rattle.epc_urn.specs.Urns.{fields_of}

pub empty : IsInline 92 (replicate 92 0) 0
empty = copied 92 [] (omega arith)

pub few : (bytes : List ℕ) (len : ℕ) → IsInline 92 bytes len → length (take len bytes) ≤ 92
few bytes len h = let e = h.fits in omega (arith, front_length 92 bytes len h)

-- bytes that are copied behind the text
behind_it : (bytes more : List ℕ) (len n : ℕ) → IsInline 92 bytes len → n ≡ length more → len + length more ≤ 92 → put_mid len n bytes more ≡ (take len bytes ++ more) ++ replicate (92 - length (take len bytes ++ more)) 0
behind_it bytes more len n h e le =
    let size = front_length 92 bytes len h in
    let zeros : drop len bytes ≡ replicate (92 - len) 0 = ap (drop len) h.rest ∙ drop_at (take len bytes) (replicate (92 - len) 0) len size in
    let others : drop n (drop len bytes) ≡ replicate (92 - len - n) 0 = ap (drop n) zeros ∙ drop-replicate {X = ℕ} n (92 - len) 0 in
    let count : 92 - len - n ≡ 92 - length (take len bytes ++ more) = omega (arith, size, length-append (take len bytes) more) in
    ap (λ (w : List ℕ). take len bytes ++ (more ++ w)) (others ∙ ap (λ (k : ℕ). replicate k 0) count) ∙ sym (append_assoc (take len bytes) more (replicate (92 - length (take len bytes ++ more)) 0))

abbrev behind_to : ℕ → List ℕ → List ℕ → ℕ → Type 0
behind_to end bytes text len = IsInline 92 bytes end × (take end bytes ≡ text)

pub put_behind : (bytes ys more : List ℕ) (len n : ℕ) → IsInline 92 bytes len → ys ≡ more → n ≡ length more → len + length more ≤ 92
    → IsInline 92 (put_mid len n bytes ys) (len + length more) × (take (len + length more) (put_mid len n bytes ys) ≡ take len bytes ++ more)
put_behind bytes ys more len n h same e le =
    let text : List ℕ = take len bytes ++ more in
    let size : length text ≡ len + length more = omega (arith, front_length 92 bytes len h, length-append (take len bytes) more) in
    let put : put_mid len n bytes ys ≡ text ++ replicate (92 - length text) 0 = ap (put_mid len n bytes) same ∙ behind_it bytes more len n h e le in
    subst (λ (w : List ℕ). IsInline 92 w (len + length more) × (take (len + length more) w ≡ text)) (sym put)
    (subst (λ (k : ℕ). IsInline 92 (text ++ replicate (92 - length text) 0) k × (take k (text ++ replicate (92 - length text) 0) ≡ text)) size
    (copied 92 text (omega arith), take_at text (replicate (92 - length text) 0) (length text) refl))

-- a first byte, and two stretches behind it up to the end
pub put_two : (out ys zs : List ℕ) (v n k : ℕ) → n ≡ length ys → k ≡ length zs → 1 + n + k ≡ length out → put_mid (1 + n) k (put_mid 1 n (set out 0 v) ys) zs ≡ v ∷ (ys ++ zs)
put_two [] ys zs v n k e f len = absurd (omega arith)
put_two (o ∷ os) ys zs v n k e f len =
    let inner : List ℕ = put_mid 1 n (v ∷ os) ys in
    let mid : length (mid_of 1 n (v ∷ os)) ≡ n = omega (arith, length-take {A = ℕ} n (drop 1 (v ∷ os)), length-drop {A = ℕ} 1 (v ∷ os)) in
    let inner_len : length inner ≡ 1 + n + k = same_len_mid 1 n (v ∷ os) ys (sym e ∙ sym mid) ∙ sym len in
    let mid2 : length (mid_of (1 + n) k inner) ≡ k = omega (arith, length-take {A = ℕ} k (drop (1 + n) inner), length-drop {A = ℕ} (1 + n) inner) in
    let whole_len : length (put_mid (1 + n) k inner zs) ≡ 1 + n + k = same_len_mid (1 + n) k inner zs (sym f ∙ sym mid2) ∙ inner_len in
    let all : take (1 + n + k) (put_mid (1 + n) k inner zs) ≡ put_mid (1 + n) k inner zs = take_all (1 + n + k) (put_mid (1 + n) k inner zs) (omega arith) in
    let some : take (1 + n + k) (put_mid (1 + n) k inner zs) ≡ take (1 + n) inner ++ zs = take-put_mid (1 + n) k inner zs (1 + n + k) (omega arith) (omega arith) in
    let first : take (1 + n) inner ≡ v ∷ ys = take-put_mid 1 n (v ∷ os) ys (1 + n) (omega arith) (omega arith) in
    sym all ∙ some ∙ ap (λ (w : List ℕ). w ++ zs) first

pub fields_put : (out prefix rest ys zs : List ℕ) (n k : ℕ) → 1 ≤ length rest → length prefix + length rest ≡ length out → n ≡ length prefix → k ≡ length rest - 1 → ys ≡ prefix → zs ≡ drop 1 rest
    → put_mid (1 + length prefix) k (put_mid 1 n (set out 0 (get_or rest 0 0)) ys) zs ≡ fields_of prefix rest
fields_put out prefix [] ys zs n k some len e f p q = absurd (omega arith)
fields_put out prefix (r ∷ rs) ys zs n k some len e f p q =
    let zs_is : zs ≡ rs = q in
    let size : k ≡ length zs = omega (arith, ap length zs_is) in
    ap (λ (m : ℕ). put_mid (1 + m) k (put_mid 1 n (set out 0 r) ys) zs) (sym e) ∙ put_two out ys zs r n k (omega (arith, ap length p)) size (omega arith) ∙ ap (λ (w : List ℕ). r ∷ (w ++ zs)) p ∙ ap (λ (w : List ℕ). r ∷ (prefix ++ w)) zs_is

pub inner_length : (out prefix rest ys : List ℕ) (n : ℕ) → 1 ≤ length rest → length prefix + length rest ≡ length out → n ≡ length prefix → ys ≡ prefix
    → length (put_mid 1 n (set out 0 (get_or rest 0 0)) ys) - (1 + length prefix) ≡ length rest - 1
inner_length out prefix rest ys n some len e same =
    let mid : length (mid_of 1 n (set out 0 (get_or rest 0 0))) ≡ n = omega (arith, length-take {A = ℕ} n (drop 1 (set out 0 (get_or rest 0 0))), length-drop {A = ℕ} 1 (set out 0 (get_or rest 0 0)), length-set out 0 (get_or rest 0 0)) in
    let whole = same_len_mid 1 n (set out 0 (get_or rest 0 0)) ys (ap length same ∙ sym e ∙ sym mid) in
    omega (arith, whole, length-set out 0 (get_or rest 0 0))

pub put_behind_at : (bytes ys more : List ℕ) (len at n : ℕ) → IsInline 92 bytes len → ys ≡ more → at ≡ len → n ≡ length more → length (take len bytes) + length more ≤ 92
    → IsInline 92 (put_mid at n bytes ys) (at + length more) × (take (at + length more) (put_mid at n bytes ys) ≡ take len bytes ++ more)
put_behind_at bytes ys more len at n h same e f le =
    subst (λ (k : ℕ). IsInline 92 (put_mid k n bytes ys) (k + length more) × (take (k + length more) (put_mid k n bytes ys) ≡ take len bytes ++ more)) (sym e)
    (put_behind bytes ys more len n h same f (omega (arith, front_length 92 bytes len h)))
