-- Which bytes two writes in a row leave.
use Rattle.std.proofs.Common.{◌≡◌, ◌⊎◌, inl, inr, ℕ, suc, ◌+◌, ◌-◌, ◌<◌, ◌≤◌, List, [], ◌∷◌, ◌++◌, length, take, drop, Option, Some, None, refl, sym, ◌∙◌, ap, subst, arith, append_assoc}
use Rattle.std.proofs.lemmas.List.{drop_at, take-take, drop-drop, length-take-le}
use Rattle.outside.specs.Disks.{Torn, Together, overwritten}
use Rattle.outside.proofs.Images.{torn_overwritten}
use Rattle.gate_journal.specs.Journals.{Writes}

-- a step and then another one
together : (one two both : List ℕ → List ℕ → Type 0) (a b c : Option (List ℕ)) → ((x y z : List ℕ) → a ≡ Some x → one x y → two y z → both x z) → Together one a b → Together two b c → Together both a c
together one two both None None None joins first second = tt
together one two both None None (Some z) joins first second = absurd second
together one two both None (Some y) c joins first second = absurd first
together one two both (Some x) None c joins first second = absurd first
together one two both (Some x) (Some y) None joins first second = absurd second
together one two both (Some x) (Some y) (Some z) joins first second = joins x y z refl first second

pub wider_step : (one other : List ℕ → List ℕ → Type 0) (a b : Option (List ℕ)) → ((x y : List ℕ) → a ≡ Some x → one x y → other x y) → Together one a b → Together other a b
wider_step one other None None wider step = tt
wider_step one other None (Some y) wider step = absurd step
wider_step one other (Some x) None wider step = absurd step
wider_step one other (Some x) (Some y) wider step = wider x y refl step

-- a record, and then its gate
gate_and_body : (end : ℕ) (body l : List ℕ) → end < length l → overwritten end (1 ∷ []) (overwritten (end + 1) body l) ≡ overwritten end (1 ∷ body) l
gate_and_body end body l le =
    let mid = overwritten (end + 1) body l in
    let torn = torn_overwritten (end + 1) body l (omega arith) in
    let rest = drop (end + 1 + length body) l in
    let front : take end mid ≡ take end l = sym (take-take end (end + 1) mid (omega arith)) ∙ ap (λ (x : List ℕ). take end x) torn.before ∙ take-take end (end + 1) l (omega arith) in
    let whole : mid ≡ take (end + 1) l ++ (body ++ rest) = append_assoc (take (end + 1) l) body rest in
    let behind : drop (end + 1) mid ≡ body ++ rest = ap (λ (x : List ℕ). drop (end + 1) x) whole ∙ drop_at (take (end + 1) l) (body ++ rest) (end + 1) (length-take-le (end + 1) l (omega arith)) in
    let far : rest ≡ drop (end + length (1 ∷ body)) l = ap (λ (k : ℕ). drop k l) (omega arith) in
    let joined : (take end l ++ 1 ∷ []) ++ (body ++ rest) ≡ (take end l ++ 1 ∷ body) ++ rest = simp append_assoc in
    ap (λ (x : List ℕ). (x ++ 1 ∷ []) ++ drop (end + 1) mid) front ∙ ap (λ (x : List ℕ). (take end l ++ 1 ∷ []) ++ x) behind ∙ joined ∙ ap (λ (x : List ℕ). (take end l ++ 1 ∷ body) ++ x) far

pub both_written : (end : ℕ) (body : List ℕ) (a b c : Option (List ℕ)) → ((l : List ℕ) → a ≡ Some l → end < length l) → Writes (end + 1) body a b → Writes end (1 ∷ []) b c → Writes end (1 ∷ body) a c
both_written end body a b c there first second =
    together (λ x y. y ≡ overwritten (end + 1) body x) (λ x y. y ≡ overwritten end (1 ∷ []) x) (λ x y. y ≡ overwritten end (1 ∷ body) x) a b c
    (λ x y z told one two. two ∙ ap (λ (l : List ℕ). overwritten end (1 ∷ []) l) one ∙ gate_and_body end body x (there x told)) first second

-- a closed gate at the front, and then the header over it
over_gate : (body l : List ℕ) → overwritten 0 (1 ∷ body) (overwritten 0 (0 ∷ []) l) ≡ overwritten 0 (1 ∷ body) l
over_gate body l =
    let first : 0 + length (1 ∷ body) ≡ suc (length body) = omega arith in
    let last : 1 + length body ≡ 0 + length (1 ∷ body) = omega arith in
    ap (λ (k : ℕ). (1 ∷ body) ++ drop k (0 ∷ drop 1 l)) first ∙ ap (λ (x : List ℕ). (1 ∷ body) ++ x) (drop-drop (length body) 1 l ∙ ap (λ (k : ℕ). drop k l) last)

pub header_written : (body : List ℕ) (a b c : Option (List ℕ)) → (b ≡ a) ⊎ Writes 0 (0 ∷ []) a b → Writes 0 (1 ∷ body) b c → Writes 0 (1 ∷ body) a c
header_written body a b c (inl same) second = subst (λ (o : Option (List ℕ)). Writes 0 (1 ∷ body) o c) same second
header_written body a b c (inr first) second =
    together (λ x y. y ≡ overwritten 0 (0 ∷ []) x) (λ x y. y ≡ overwritten 0 (1 ∷ body) x) (λ x y. y ≡ overwritten 0 (1 ∷ body) x) a b c
    (λ x y z told one two. two ∙ ap (λ (l : List ℕ). overwritten 0 (1 ∷ body) l) one ∙ over_gate body x) first second

-- a narrower range
torn_within : (at n from m : ℕ) (x y : List ℕ) → from ≤ at → at + n ≤ from + m → Torn at n x y → Torn from m x y
torn_within at n from m x y le far torn =
    let back : (l : List ℕ) → drop (from + m) l ≡ drop (from + m - (at + n)) (drop (at + n) l) = λ l. ap (λ (k : ℕ). drop k l) (omega arith) ∙ sym (drop-drop (from + m - (at + n)) (at + n) l) in
    record {
      before = sym (take-take from at y le) ∙ ap (λ (l : List ℕ). take from l) torn.before ∙ take-take from at x le;
      after = back y ∙ ap (λ (l : List ℕ). drop (from + m - (at + n)) l) torn.after ∙ sym (back x);
      no_shorter = torn.no_shorter;
      no_longer = omega (arith, torn.no_longer);
    }

torn_twice : (at n : ℕ) (x y z : List ℕ) → Torn at n x y → Torn at n y z → Torn at n x z
torn_twice at n x y z first second = record {
  before = second.before ∙ first.before;
  after = second.after ∙ first.after;
  no_shorter = omega (arith, first.no_shorter, second.no_shorter);
  no_longer = omega (arith, first.no_longer, second.no_longer);
}

-- a gate that was written, as one that may be
pub gate_may : (end : ℕ) (a b : Option (List ℕ)) → ((l : List ℕ) → a ≡ Some l → end < length l) → Writes end (1 ∷ []) a b → Together (Torn end 1) a b
gate_may end a b there = wider_step (λ x y. y ≡ overwritten end (1 ∷ []) x) (Torn end 1) a b (λ x y told is. let le = there x told in subst (λ (l : List ℕ). Torn end 1 x l) (sym is) (torn_overwritten end (1 ∷ []) x (omega arith)))

-- after a fault in the first write or its sync
pub body_torn : (end n m : ℕ) (a b : Option (List ℕ)) → m ≡ 1 + n → Together (Torn (end + 1) n) a b → Together (Torn end m) a b
body_torn end n m a b long = wider_step (Torn (end + 1) n) (Torn end m) a b (λ x y told torn. torn_within (end + 1) n end m x y (omega arith) (omega arith) torn)

-- and after one in the second
pub gate_torn : (end m : ℕ) (body : List ℕ) (a b c : Option (List ℕ)) → m ≡ 1 + length body → ((l : List ℕ) → a ≡ Some l → end < length l) → Writes (end + 1) body a b → Together (Torn end 1) b c → Together (Torn end m) a c
gate_torn end m body a b c long there =
    together (λ x y. y ≡ overwritten (end + 1) body x) (Torn end 1) (Torn end m) a b c
    (λ x y z told one two.
    let le = there x told in
    let first : Torn (end + 1) (length body) x y = subst (λ (l : List ℕ). Torn (end + 1) (length body) x l) (sym one) (torn_overwritten (end + 1) body x (omega arith)) in
    torn_twice end m x y z (torn_within (end + 1) (length body) end m x y (omega arith) (omega arith) first) (torn_within end 1 end m y z (omega arith) (omega arith) two))
