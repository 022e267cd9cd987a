-- One item more was written behind those before it.
use Rattle.std.proofs.Common.{◌≡◌, ℕ, ◌+◌, ◌<◌, List, [], ◌∷◌, ◌++◌, length, get_or, take, sym, ap, subst, ◌∙◌, append_assoc}
use Rattle.std.specs.Prelude.{All}
use Rattle.std.specs.List.{flat_map}
use Rattle.std.proofs.lemmas.List.{take_more, append-nil}
use Rattle.std.proofs.lemmas.List.Elements.{All-more}
use Rattle.std.proofs.lemmas.Grind.{flat_map-append}

flat_more : {X : Type 0} (p : X → List ℕ) (items : List X) (i : ℕ) (x : X) → i < length items → x ≡ get_or items i x → flat_map p (take (i + 1) items) ≡ flat_map p (take i items) ++ p x
flat_more {X} p items i x lt is =
    ap (λ (ys : List X). flat_map p ys) (take_more items i x lt) ∙ flat_map-append p (take i items) (get_or items i x ∷ [])
    ∙ ap (λ (w : List ℕ). flat_map p (take i items) ++ w) (append-nil (p (get_or items i x)))
    ∙ ap (λ (y : X). flat_map p (take i items) ++ p y) (sym is)

pub put_on : {X : Type 0} (p : X → List ℕ) (P : X → Type 0) (front : List ℕ) (items : List X) (i : ℕ) (x : X) (before after : List ℕ) → i < length items → x ≡ get_or items i x
    → (before ≡ front ++ flat_map p (take i items)) × All P (take i items) → after ≡ before ++ p x → P x
    → (after ≡ front ++ flat_map p (take (i + 1) items)) × All P (take (i + 1) items)
put_on {X} p P front items i x before after lt is so_far put kept =
    let old = so_far.0 in (
      put ∙ ap (λ (w : List ℕ). w ++ p x) old ∙ append_assoc front (flat_map p (take i items)) (p x) ∙ ap (λ (w : List ℕ). front ++ w) (sym (flat_more p items i x lt is)),
      All-more P items i x lt so_far.1 (subst P is kept),
    )

-- the same behind a head that stands in front of the items
pub put_behind : {X : Type 0} (p : X → List ℕ) (P : X → Type 0) (front head : List ℕ) (items : List X) (i : ℕ) (x : X) (before after : List ℕ) → i < length items → x ≡ get_or items i x
    → (before ≡ front ++ (head ++ flat_map p (take i items))) × All P (take i items) → after ≡ before ++ p x → P x
    → (after ≡ front ++ (head ++ flat_map p (take (i + 1) items))) × All P (take (i + 1) items)
put_behind {X} p P front head items i x before after lt is so_far put kept =
    let whole = put_on p P (front ++ head) items i x before after lt is (so_far.0 ∙ sym (append_assoc front head (flat_map p (take i items))), so_far.1) put kept in
    (whole.0 ∙ append_assoc front head (flat_map p (take (i + 1) items)), whole.1)
