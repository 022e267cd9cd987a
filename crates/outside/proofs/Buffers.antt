-- A buffer before a reader's bytes.
use Rattle.std.proofs.Common.{◌≡◌, ℕ, ◌+◌, ◌-◌, ◌≤◌, List, [], ◌∷◌, ◌++◌, length, take, drop, Option, Some, None, refl, sym, ◌∙◌, ap, subst, arith, append_assoc, take-append-drop}
use Rattle.std.specs.Int.{from_le_bytes, w64}
use Rattle.std.specs.Io.KnownBytes.{Keeps, Consumes, prepend_known}
use Rattle.std.proofs.KnownBytes.{Keeps-trans}
use Rattle.std.proofs.lemmas.List.{take_at, drop_at, take-take, drop-take, drop-drop, length-take-le, length-drop}
use Rattle.outside.specs.Readers.{words_of, words_told}

-- the front of a list that is longer than another one
take_over : (m n : ℕ) (xs s : List ℕ) → m ≤ length xs → take (m + n) (take m xs ++ s) ≡ take m xs ++ take n s
take_over m n xs s le =
    let all = take m xs ++ s in
    let long = length-take-le m xs le in
    let front : take m (take (m + n) all) ≡ take m xs = take-take m (m + n) all (omega arith) ∙ take_at (take m xs) s m long in
    let behind : drop m (take (m + n) all) ≡ take n s = drop-take m n all ∙ ap (λ (l : List ℕ). take n l) (drop_at (take m xs) s m long) in
    sym (take-append-drop m (take (m + n) all)) ∙ ap (λ (l : List ℕ). l ++ drop m (take (m + n) all)) front ∙ ap (λ (l : List ℕ). take m xs ++ l) behind

-- the front of a list is the front of a longer one
front_of : (n : ℕ) (s tail : List ℕ) → n ≡ length (take n s) → take n (s ++ tail) ≡ take n s
front_of n s tail long =
    ap (λ (l : List ℕ). take n (l ++ tail)) (sym (take-append-drop n s)) ∙ ap (λ (l : List ℕ). take n l) (append_assoc (take n s) (drop n s) tail) ∙ take_at (take n s) (drop n s ++ tail) n (sym long)

-- a read behind the bytes that are there
read_behind : (a b : Option (List ℕ)) (xs s new : List ℕ) (m n k : ℕ) → m ≤ length xs → new ≡ take m xs ++ s → k ≡ m + n → Consumes a b (take n s) → Keeps (prepend_known (take m xs) a) (prepend_known (take k new) b)
read_behind None b xs s new m n k le is more took = tt
read_behind (Some x) None xs s new m n k le is more took = absurd took
read_behind (Some x) (Some y) xs s new m n k le is more took =
    let front : take k new ≡ take m xs ++ take n s = ap (λ (i : ℕ). take i new) more ∙ ap (λ (l : List ℕ). take (m + n) l) is ∙ take_over m n xs s le in
    ap (λ (l : List ℕ). l ++ y) front ∙ append_assoc (take m xs) (take n s) y ∙ ap (λ (l : List ℕ). take m xs ++ l) (sym took)

-- and what stands behind its piece stays
pub read_piece : (known a b : Option (List ℕ)) (xs s tail : List ℕ) (m n : ℕ) → m ≤ length xs → n ≡ length (take n s) → Keeps known (prepend_known (take m xs) a) → Consumes a b (take n s) → Keeps known (prepend_known (take (m + n) (take m xs ++ (s ++ tail))) b)
read_piece known a b xs s tail m n le long so_far took =
    Keeps-trans known (prepend_known (take m xs) a) (prepend_known (take (m + n) (take m xs ++ (s ++ tail))) b) so_far
    (read_behind a b xs (s ++ tail) (take m xs ++ (s ++ tail)) m n (m + n) le refl refl (subst (λ (l : List ℕ). Consumes a b l) (sym (front_of n s tail long)) took))

-- eight bytes are a word
word_first : (xs rest : List ℕ) → length xs ≡ 8 → words_of (xs ++ rest) ≡ from_le_bytes w64 xs ∷ words_of rest
word_first [] rest long = absurd (omega arith)
word_first (a ∷ []) rest long = absurd (omega arith)
word_first (a ∷ b ∷ []) rest long = absurd (omega arith)
word_first (a ∷ b ∷ c ∷ []) rest long = absurd (omega arith)
word_first (a ∷ b ∷ c ∷ d ∷ []) rest long = absurd (omega arith)
word_first (a ∷ b ∷ c ∷ d ∷ e ∷ []) rest long = absurd (omega arith)
word_first (a ∷ b ∷ c ∷ d ∷ e ∷ f ∷ []) rest long = absurd (omega arith)
word_first (a ∷ b ∷ c ∷ d ∷ e ∷ f ∷ g ∷ []) rest long = absurd (omega arith)
word_first (a ∷ b ∷ c ∷ d ∷ e ∷ f ∷ g ∷ h ∷ []) rest long = refl
word_first (a ∷ b ∷ c ∷ d ∷ e ∷ f ∷ g ∷ h ∷ i ∷ xs) rest long = absurd (omega arith)

pub same_words : (a b : Option (List ℕ)) → Keeps a b → Keeps (words_told a) (words_told b)
same_words None b same = tt
same_words (Some x) None same = absurd same
same_words (Some x) (Some y) same = ap words_of same

-- the first of the words goes
pub word_goes : (a known : Option (List ℕ)) (buffer piece : List ℕ) (start end : ℕ) → Keeps a (prepend_known (take (end - start) (drop start buffer)) known) → start + 8 ≤ end → end ≤ length buffer → piece ≡ take 8 (drop start buffer)
    → Consumes (words_told a) (words_told (prepend_known (take (end - (start + 8)) (drop (start + 8) buffer)) known)) (from_le_bytes w64 piece ∷ [])
word_goes None known buffer piece start end same le within is = tt
word_goes (Some x) None buffer piece start end same le within is = absurd same
word_goes (Some x) (Some y) buffer piece start end same le within is =
    let rest = take (end - (start + 8)) (drop (start + 8) buffer) in
    let ahead = take (end - start) (drop start buffer) in
    let long : length piece ≡ 8 = ap length is ∙ length-take-le 8 (drop start buffer) (omega (arith, length-drop start buffer)) in
    let count : end - start ≡ 8 + (end - (start + 8)) = omega arith in
    let front : take 8 ahead ≡ piece = take-take 8 (end - start) (drop start buffer) (omega arith) ∙ sym is in
    let back : drop 8 ahead ≡ rest = ap (λ (k : ℕ). drop 8 (take k (drop start buffer))) count ∙ drop-take 8 (end - (start + 8)) (drop start buffer) ∙ ap (λ (l : List ℕ). take (end - (start + 8)) l) (drop-drop 8 start buffer) in
    let split : ahead ≡ piece ++ rest = sym (take-append-drop 8 ahead) ∙ ap (λ (l : List ℕ). l ++ drop 8 ahead) front ∙ ap (λ (l : List ℕ). piece ++ l) back in
    let whole : x ≡ piece ++ (rest ++ y) = sym same ∙ ap (λ (l : List ℕ). l ++ y) split ∙ append_assoc piece rest y in
    ap words_of whole ∙ word_first piece (rest ++ y) long
