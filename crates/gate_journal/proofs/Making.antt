-- What a crash leaves while a journal is made.
use Rattle.std.proofs.Common.{◌≡◌, ◌≢◌, inl, inr, ℕ, ◌<◌, ◌≤◌, List, [], ◌∷◌, ◌++◌, length, take, drop, slice_index_or, None, refl, sym, ◌∙◌, ap, subst, arith, append_assoc, length-append}
use Rattle.std.specs.Prelude.{codes}
use Rattle.std.specs.Int.{to_be_bytes, w32}
use Rattle.std.proofs.lemmas.List.{append-nil}
use Rattle.outside.specs.Disks.{Torn}
use Rattle.gate_journal.specs.Gates.{EndsAt, WithOrWithout, EachImage}
use Rattle.gate_journal.specs.Grammar.{header, front, IsShort, IsNone, IsThere, IsFresh, Holds}
use Rattle.gate_journal.specs.Journals.{IsSettled}
use Rattle.gate_journal.proofs.Blocks.{block_is}
use Rattle.gate_journal.proofs.Crash.{gate_of}
use Rattle.gate_journal.proofs.Headers.{header_is}
use Rattle.gate_journal.proofs.Loading.{front_is, none_short}

front_nil : (site : List ℕ) → front site [] ≡ 1 ∷ header site
front_nil site = front_is site [] ∙ append-nil (1 ∷ header site)

pub torn_first : (d c : List ℕ) → length d < 2 → Torn 0 1 d c → IsNone c
torn_first d c few torn = none_short c (omega (arith, few, torn.no_longer))

pub there : (c : List ℕ) → 2 ≤ length c → c ≡ 1 ∷ drop 1 c → IsThere c
there [] long is = omega arith
there (a ∷ []) long is = omega arith
there (a ∷ b ∷ c) long is = let same : a ≡ 1 = cc in same

pub shut_at : (c : List ℕ) (gate : ℕ) → c ≡ gate ∷ drop 1 c → gate ≢ 1 → EndsAt [] c
shut_at [] gate is shut = absurd (cc)
shut_at (a ∷ c) gate is shut = record { rest = a ∷ c; shut = let same : a ≡ gate = cc in λ one. shut (sym same ∙ one); whole = refl }

pub none_at : (c : List ℕ) → EndsAt [] c → IsNone c
none_at [] ends = tt
none_at (a ∷ []) ends = tt
none_at (a ∷ b ∷ c) ends = let at = gate_of ends.rest ends.shut in let whole : a ∷ b ∷ c ≡ at.gate ∷ at.after = ends.whole ∙ at.whole in let same : a ≡ at.gate = cc in λ one. at.shut (sym same ∙ one)

holds_none : (site c : List ℕ) → IsShort site → EndsAt (1 ∷ header site) c → Holds site [] c
holds_none site c fits ends = record { site_fits = fits; payloads_fit = tt; ends = subst (λ (l : List ℕ). EndsAt l c) (sym (front_nil site)) ends }

pub fresh_at : (site c : List ℕ) → IsShort site → WithOrWithout [] (header site) c → IsFresh site c
fresh_at site c fits (inl ends) = inl (none_at c ends)
fresh_at site c fits (inr ends) = inr (holds_none site c fits ends)

pub made_settled : (image : List ℕ → Type 0) (site body : List ℕ) → IsShort site → body ≡ header site ++ 0 ∷ [] → EachImage image 0 [] (EndsAt (1 ∷ header site)) → IsSettled image (length body) None site []
made_settled image site body fits is at = record {
  settled = refl;
  site_fits = fits;
  payloads_fit = tt;
  images = λ c left. (holds_none site c fits (at c left).1, omega (arith, ap length is, length-append (header site) (0 ∷ []), ap length (front_nil site)));
}

pub header_spelled : (site items : List ℕ) → items ≡ codes "PACKSITE" ++ to_be_bytes w32 (length site) ++ site ++ 0 ∷ [] → items ≡ header site ++ 0 ∷ []
header_spelled site items is =
    is ∙ ap (λ (l : List ℕ). l ++ 0 ∷ []) (append_assoc (codes "PACKSITE") (to_be_bytes w32 (length site)) site ∙ ap (λ (l : List ℕ). codes "PACKSITE" ++ l) (sym (block_is site)) ∙ sym (header_is site))

pub first_byte : (piece c : List ℕ) → 0 < length c → piece ≡ take 1 (drop 0 c) → c ≡ slice_index_or piece 0 0 ∷ drop 1 c
first_byte piece [] some is = absurd (omega arith)
first_byte piece (a ∷ c) some is = let one : piece ≡ a ∷ [] = is in ap (λ (l : List ℕ). slice_index_or l 0 0 ∷ c) (sym one)
