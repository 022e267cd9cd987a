-- Bytes put behind a text in an inline buffer.
use Rattle.std.proofs.Common.{◌≡◌, ℕ, ◌≤◌, ◌+◌, ◌-◌, List, ◌++◌, length, take, drop, replicate, sym, ap, ◌∙◌, arith}
use Rattle.std.proofs.lemmas.List.{length-take, length-drop, drop-drop, drop_at, drop-replicate, take-append-drop}
use Rattle.std.proofs.lemmas.Slice.{take-put_mid, drop-put_mid}
use borrow.Rule.Slice.PartMut.{put_mid, mid_of, same_len_mid}
use Rattle.gs1_keys.specs.Inline.{IsInline, front_length}

-- where zeros stand behind a text, they stand behind each longer one
zeros_left : (size len n : ℕ) (bytes : List ℕ) → IsInline size bytes len → len ≤ n → drop n bytes ≡ replicate (size - n) 0
zeros_left size len n bytes h le =
    let front : length (take len bytes) ≡ len = front_length size bytes len h in
    let zeros : drop len bytes ≡ replicate (size - len) 0 = ap (drop len) h.rest ∙ drop_at (take len bytes) (replicate (size - len) 0) len front in
    let more : drop (n - len) (drop len bytes) ≡ drop n bytes = drop-drop (n - len) len bytes ∙ ap (λ (k : ℕ). drop k bytes) (let sum : len + (n - len) ≡ n = omega arith in sum) in
    let left : size - len - (n - len) ≡ size - n = omega arith in
    sym more ∙ ap (drop (n - len)) zeros ∙ drop-replicate {X = ℕ} (n - len) (size - len) 0 ∙ ap (λ (k : ℕ). replicate k 0) left

pub text_after_put : (size len n : ℕ) (bytes part ys : List ℕ) → IsInline size bytes len → ys ≡ part → n ≡ len + length part → n ≤ size → take n (put_mid len (n - len) bytes ys) ≡ take len bytes ++ part
text_after_put size len n bytes part ys h e sum le =
    let few : len ≤ length bytes = omega (arith, h.size_is, h.fits) in
    take-put_mid len (n - len) bytes ys n (omega (arith, ap length e)) few ∙ ap (λ (w : List ℕ). take len bytes ++ w) e

pub inline_after_put : (size len n : ℕ) (bytes part ys : List ℕ) → IsInline size bytes len → ys ≡ part → n ≡ len + length part → n ≤ size → IsInline size (put_mid len (n - len) bytes ys) n
inline_after_put size len n bytes part ys h e sum le =
    let few : len ≤ length bytes = omega (arith, h.size_is, h.fits) in
    let size_ys : length ys ≡ n - len = omega (arith, ap length e) in
    let mid : length (mid_of len (n - len) bytes) ≡ n - len = omega (arith, length-take {A = ℕ} (n - len) (drop len bytes), length-drop {A = ℕ} len bytes, h.size_is) in
    let all : List ℕ = put_mid len (n - len) bytes ys in
    let behind : drop n all ≡ replicate (size - n) 0 = drop-put_mid len (n - len) bytes ys n (omega arith) few size_ys ∙ zeros_left size len n bytes h (omega arith) in
    record {
      size_is = same_len_mid len (n - len) bytes ys (size_ys ∙ sym mid) ∙ h.size_is;
      fits = le;
      rest = sym (take-append-drop n all) ∙ ap (λ (w : List ℕ). take n all ++ w) behind;
    }
