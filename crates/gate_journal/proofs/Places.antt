-- Where the gates of payloads stand, and how two images of one journal are read.
use Rattle.std.proofs.Common.{◌≡◌, ◌⊎◌, inl, inr, ℕ, ◌+◌, List, [], ◌∷◌, ◌++◌, length, sym, ◌∙◌, ap, subst, arith, length-append}
use Rattle.gate_journal.specs.Grammar.{block, records, front, placed, Holds}
use Rattle.gate_journal.specs.Journals.{HoldsWithOrWithout}
use Rattle.gate_journal.specs.Readings.{bytes_of, places_of}
use Rattle.gate_journal.specs.declared.payload.Payload.{Payload}
use Rattle.gate_journal.proofs.Blocks.{length-block}
use Rattle.gate_journal.proofs.Loading.{length-front}
use Rattle.gate_journal.proofs.Readings.{holds_once}

first_place : List (ℕ × List ℕ) → ℕ
first_place [] = 0
first_place (p ∷ ps) = p.0

other_places : List (ℕ × List ℕ) → List (ℕ × List ℕ)
other_places [] = []
other_places (p ∷ ps) = ps

behind : (start : ℕ) (before after : List Payload) (p : Payload) → places_of (before ++ p ∷ after) ≡ placed start (bytes_of (before ++ p ∷ after)) → p.at ≡ start + length (records (bytes_of before))
unfolding first_place other_places
behind start [] after p is = let first : p.at ≡ start = ap first_place is in omega (arith, first)
behind start (q ∷ before) after p is =
    let rest = behind (start + 5 + length q.bytes) before after p (ap other_places is) in
    omega (arith, rest, length-append (1 ∷ block q.bytes) (records (bytes_of before)), length-block q.bytes)

pub gate_at : (site : List ℕ) (all before after : List Payload) (p : Payload) → places_of all ≡ placed (13 + length site) (bytes_of all) → all ≡ before ++ p ∷ after → p.at ≡ length (front site (bytes_of before))
gate_at site all before after p places is =
    behind (13 + length site) before after p (subst (λ (l : List Payload). places_of l ≡ placed (13 + length site) (bytes_of l)) is places) ∙ sym (length-front site (bytes_of before))

-- two readings with the payload or without it
pub readings : (site payload c d one other : List ℕ) (payloads ps qs : List (List ℕ)) → HoldsWithOrWithout site payloads payload c → HoldsWithOrWithout site payloads payload d → Holds one ps c → Holds other qs d
    → (one ≡ other) × ((ps ≡ qs) ⊎ (ps ≡ qs ++ payload ∷ []) ⊎ (qs ≡ ps ++ payload ∷ []))
readings site payload c d one other payloads ps qs (inl at_c) (inl at_d) here there =
    let first = holds_once c one site ps payloads here at_c in
    let second = holds_once d other site qs payloads there at_d in
    (first.0 ∙ sym second.0, inl (first.1 ∙ sym second.1))
readings site payload c d one other payloads ps qs (inr at_c) (inr at_d) here there =
    let first = holds_once c one site ps (payloads ++ payload ∷ []) here at_c in
    let second = holds_once d other site qs (payloads ++ payload ∷ []) there at_d in
    (first.0 ∙ sym second.0, inl (first.1 ∙ sym second.1))
readings site payload c d one other payloads ps qs (inr at_c) (inl at_d) here there =
    let first = holds_once c one site ps (payloads ++ payload ∷ []) here at_c in
    let second = holds_once d other site qs payloads there at_d in
    (first.0 ∙ sym second.0, inr (inl (first.1 ∙ ap (λ (l : List (List ℕ)). l ++ payload ∷ []) (sym second.1))))
readings site payload c d one other payloads ps qs (inl at_c) (inr at_d) here there =
    let first = holds_once c one site ps payloads here at_c in
    let second = holds_once d other site qs (payloads ++ payload ∷ []) there at_d in
    (first.0 ∙ sym second.0, inr (inr (second.1 ∙ ap (λ (l : List (List ℕ)). l ++ payload ∷ []) (sym first.1))))
