-- From gates and blocks to sites and payloads.
use Rattle.std.proofs.Common.{◌≡◌, inl, inr, ℕ, ◌+◌, List, [], ◌∷◌, ◌++◌, length, Option, Some, None, refl, sym, subst, arith}
use Rattle.gate_journal.specs.Gates.{EachImage, EndsAt, HalfOpen, WithOrWithout}
use Rattle.gate_journal.specs.Grammar.{block, front, IsShort, AreShort, Holds}
use Rattle.gate_journal.specs.Journals.{IsSettled, IsBehind, HoldsWithOrWithout}
use Rattle.gate_journal.proofs.Blocks.{front_push, length-front_push, short_push}

pub settled_all : (image : List ℕ → Type 0) (end : ℕ) (pending : Option ℕ) (site : List ℕ) (ps : List (List ℕ)) → IsSettled image end pending site ps → EachImage image end (front site ps) (EndsAt (front site ps))
settled_all image end pending site ps is c left = let at = is.images c left in (at.1, at.0.ends)

pub all_settled : (image : List ℕ → Type 0) (end : ℕ) (pending : Option ℕ) (site : List ℕ) (ps : List (List ℕ)) → pending ≡ None → IsShort site → AreShort ps → EachImage image end (front site ps) (EndsAt (front site ps)) → IsSettled image end pending site ps
all_settled image end pending site ps none fits all at = record {
  settled = none;
  site_fits = fits;
  payloads_fit = all;
  images = λ c left. let ends = at c left in (record { site_fits = fits; payloads_fit = all; ends = ends.1 }, ends.0);
}

pub behind_all : (image : List ℕ → Type 0) (end : ℕ) (pending : Option ℕ) (site : List ℕ) (ps : List (List ℕ)) (p : List ℕ) → IsBehind image end pending site ps p → EachImage image end (front site ps) (HalfOpen (front site ps) (block p))
behind_all image end pending site ps p is c left = let at = is.images c left in (at.1, at.0)

pub all_behind : (image : List ℕ → Type 0) (end : ℕ) (pending : Option ℕ) (site : List ℕ) (ps : List (List ℕ)) (p : List ℕ) → pending ≡ Some (end + 5 + length p) → IsShort site → AreShort ps → IsShort p
    → EachImage image end (front site ps) (HalfOpen (front site ps) (block p)) → IsBehind image end pending site ps p
all_behind image end pending site ps p some fits all one at = record {
  site_fits = fits;
  payloads_fit = all;
  fits = one;
  behind = some;
  images = λ c left. let half = at c left in (half.1, half.0);
}

pub holds_push : (site : List ℕ) (ps : List (List ℕ)) (p c : List ℕ) → IsShort site → AreShort ps → IsShort p → EndsAt (front site ps ++ 1 ∷ block p) c → Holds site (ps ++ p ∷ []) c
holds_push site ps p c fits all one ends = record {
  site_fits = fits;
  payloads_fit = short_push ps p all one;
  ends = subst (λ (l : List ℕ). EndsAt l c) (sym (front_push site ps p)) ends;
}

pub push_settled : (image : List ℕ → Type 0) (end new : ℕ) (site : List ℕ) (ps : List (List ℕ)) (p : List ℕ) → new ≡ end + 5 + length p → IsShort site → AreShort ps → IsShort p
    → EachImage image end (front site ps) (EndsAt (front site ps ++ 1 ∷ block p)) → IsSettled image new None site (ps ++ p ∷ [])
push_settled image end new site ps p is fits all one at = record {
  settled = refl;
  site_fits = fits;
  payloads_fit = short_push ps p all one;
  images = λ c left. let ends = at c left in (holds_push site ps p c fits all one ends.1, omega (arith, is, ends.0, length-front_push site ps p));
}

pub without : (site : List ℕ) (ps : List (List ℕ)) (p c : List ℕ) → IsShort site → AreShort ps → EndsAt (front site ps) c → HoldsWithOrWithout site ps p c
without site ps p c fits all ends = inl (record { site_fits = fits; payloads_fit = all; ends = ends })

pub with_or_without : (site : List ℕ) (ps : List (List ℕ)) (p c : List ℕ) → IsShort site → AreShort ps → IsShort p → WithOrWithout (front site ps) (block p) c → HoldsWithOrWithout site ps p c
with_or_without site ps p c fits all one (inl ends) = without site ps p c fits all ends
with_or_without site ps p c fits all one (inr ends) = inr (holds_push site ps p c fits all one ends)
