-- Bytes have one talk.
use Rattle.std.proofs.Common.{◌≡◌, ℕ, Bool, true, false, List, [], ◌∷◌, drop, take, Option, Some, None, sym, refl, ap, ◌∙◌, subst, MatchBool}
use Rattle.httparse.specs.Grammar.{RequestHead}
use Rattle.httparse.proofs.GrammarLemmas.{request_unique}
use Rattle.station_http.specs.declared.fault.HttpFault.{HttpFault}
use Rattle.station_http.specs.declared.asked.Asked.{Asked}
use Rattle.station_http.specs.Limits.{head_limit}
use Rattle.station_http.specs.Lines.{blank, head_end}
use Rattle.station_http.specs.Head.{IsHead}
use Rattle.station_http.specs.Plans.{plan_of}
use Rattle.station_http.specs.Found.{Found, whole, with_plan, IsFoundBy, IsFound}
use Rattle.station_http.specs.Talk.{is_whole, end_of, IsTalk}

pub head_unique : (bytes : List ℕ) (a b : Option RequestHead) → IsHead bytes a → IsHead bytes b → a ≡ b
head_unique bytes None None x y = refl
head_unique bytes None (Some k) x y = absurd (x k y)
head_unique bytes (Some h) None x y = absurd (y h x)
head_unique bytes (Some h) (Some k) x y = ap Some (request_unique bytes h k [] [] x.0 y.0).0

found_by : (skipped : ℕ) (request : List ℕ) (end : Option ℕ) (f g : Found) → IsFoundBy skipped request end f → IsFoundBy skipped request end g → f ≡ g
found_by skipped request None f g x y = x ∙ sym y
found_by skipped request (Some n) f g x y =
    x.2 ∙ ap (λ (h : Option RequestHead). with_plan skipped n (drop n request) (plan_of h)) (head_unique (take n request) x.0 y.0 x.1 y.1) ∙ sym y.2

pub found_unique : (bytes : List ℕ) (f g : Found) → IsFound bytes f → IsFound bytes g → f ≡ g
found_unique bytes f g x y = found_by (blank bytes) (drop (blank bytes) bytes) (head_end (take head_limit (drop (blank bytes) bytes))) f g x y

pub same_whole : (n m : ℕ) (a b : Asked) → whole n a ≡ whole m b → (n ≡ m) × (a ≡ b)
same_whole n m a b e = let p : n ≡ m = cc in let q : a ≡ b = cc in (p, q)

pub true_false : (f g : Found) → f ≡ g → is_whole f ≡ true → is_whole g ≡ false → ⊥
true_false f g e x y = cc

pub two_tests : (P Q P' Q' : Type 0) (a b : Bool) (R : Type 0) → a ≡ b → MatchBool a P Q → MatchBool b P' Q' → (P → P' → R) → (Q → Q' → R) → R
two_tests P Q P' Q' true true R e x y yes' no' = yes' x y
two_tests P Q P' Q' false false R e x y yes' no' = no' x y
two_tests P Q P' Q' true false R e x y yes' no' = absurd cc
two_tests P Q P' Q' false true R e x y yes' no' = absurd cc

pub talk_unique : (full : Bool) (bytes : List ℕ) (xs ys : List Asked) (a b : Option HttpFault) → IsTalk full bytes xs a → IsTalk full bytes ys b → (xs ≡ ys) × (a ≡ b)
talk_unique full bytes [] [] a b p q = (refl, p.3 ∙ ap (end_of full) (found_unique bytes p.0 q.0 p.1 q.1) ∙ sym q.3)
talk_unique full bytes [] (y ∷ ys) a b p q = absurd (true_false (whole q.0 y) p.0 (found_unique bytes (whole q.0 y) p.0 q.1 p.1) refl p.2)
talk_unique full bytes (x ∷ xs) [] a b p q = absurd (true_false (whole p.0 x) q.0 (found_unique bytes (whole p.0 x) q.0 p.1 q.1) refl q.2)
talk_unique full bytes (x ∷ xs) (y ∷ ys) a b p q =
    let same = same_whole p.0 q.0 x y (found_unique bytes (whole p.0 x) (whole q.0 y) p.1 q.1) in
    let again : IsTalk full (drop p.0 bytes) xs a → IsTalk full (drop p.0 bytes) ys b → (xs ≡ ys) × (a ≡ b) = talk_unique full (drop p.0 bytes) xs ys a b in
    let rest : (xs ≡ ys) × (a ≡ b) = two_tests _ _ _ _ x.close y.close ((xs ≡ ys) × (a ≡ b)) (ap (λ (r : Asked). r.close) same.1) p.2 q.2
    (λ u v. (u.0 ∙ sym v.0, u.1 ∙ sym v.1))
    (λ u v. again u (subst (λ (n : ℕ). IsTalk full (drop n bytes) ys b) (sym same.0) v)) in
    (ap (λ (r : Asked). r ∷ xs) same.1 ∙ ap (λ (rs : List Asked). y ∷ rs) rest.0, rest.1)
