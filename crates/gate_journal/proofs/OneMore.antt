-- One record more is read.
use Rattle.std.proofs.Common.{◌≡◌, ℕ, ◌+◌, List, [], ◌∷◌, ◌++◌, length, drop, sym, ◌∙◌, ap, subst, arith, append_assoc}
use Rattle.std.proofs.lemmas.List.{drop_at, drop-drop, map_push}
use Rattle.gate_journal.specs.Grammar.{block, records, IsShort, AreShort, placed}
use Rattle.gate_journal.specs.Readings.{BeginsWith, bytes_of, places_of}
use Rattle.gate_journal.specs.declared.payload.Payload.{Payload}
use Rattle.gate_journal.proofs.Blocks.{length-block, records_push, length-records_push, placed_push, short_push}

-- what was read so far, but for the bytes
pub record SoFar (start at : ℕ) (ps : List Payload) : Type 0 where
  pub short : AreShort (bytes_of ps)
  pub at_is : at ≡ start + length (records (bytes_of ps))
  pub places : places_of ps ≡ placed start (bytes_of ps)

pub one_more : (start at next : ℕ) (ps new : List Payload) (p : Payload) → SoFar start at ps → new ≡ ps ++ p ∷ [] → p.at ≡ at → next ≡ at + 5 + length p.bytes → IsShort p.bytes → SoFar start next new
one_more start at next ps new p was is place behind fits =
    let items : bytes_of new ≡ bytes_of ps ++ p.bytes ∷ [] = ap (λ (l : List Payload). bytes_of l) is ∙ map_push (λ (q : Payload). q.bytes) ps p in
    let pairs : places_of new ≡ places_of ps ++ (p.at, p.bytes) ∷ [] = ap (λ (l : List Payload). places_of l) is ∙ map_push (λ (q : Payload). (q.at, q.bytes)) ps p in
    record {
      short = subst (λ (l : List (List ℕ)). AreShort l) (sym items) (short_push (bytes_of ps) p.bytes was.short fits);
      at_is = let long = length-records_push (bytes_of ps) p.bytes in
          let same : length (records (bytes_of new)) ≡ length (records (bytes_of ps ++ p.bytes ∷ [])) = ap (λ (l : List (List ℕ)). length (records l)) items in
          omega (arith, behind, was.at_is, long, same);
      places = pairs ∙ ap (λ (k : ℕ). places_of ps ++ (k, p.bytes) ∷ []) place ∙ ap (λ (l : List (ℕ × List ℕ)). l ++ (at, p.bytes) ∷ []) was.places
          ∙ sym (placed_push start at (bytes_of ps) p.bytes was.at_is) ∙ ap (λ (l : List (List ℕ)). placed start l) (sym items);
    }

pub reads_more : (c v : List ℕ) (start at next : ℕ) (ps : List (List ℕ)) → next ≡ at + 5 + length v → drop start c ≡ records ps ++ drop at c → BeginsWith (1 ∷ block v) (drop at c)
    → drop start c ≡ records (ps ++ v ∷ []) ++ drop next c
reads_more c v start at next ps behind was begins =
    let rest : drop next c ≡ begins.after = ap (λ (k : ℕ). drop k c) (omega arith) ∙ sym (drop-drop (5 + length v) at c) ∙ ap (λ (l : List ℕ). drop (5 + length v) l) begins.whole
    ∙ drop_at (1 ∷ block v) begins.after (5 + length v) (omega (arith, length-block v)) in
    was ∙ ap (λ (l : List ℕ). records ps ++ l) begins.whole ∙ sym (append_assoc (records ps) (1 ∷ block v) begins.after) ∙ ap (λ (l : List ℕ). l ++ begins.after) (sym (records_push ps v)) ∙ ap (λ (l : List ℕ). records (ps ++ v ∷ []) ++ l) (sym rest)

pub bytes_push : (ps new : List Payload) (p : Payload) → new ≡ ps ++ p ∷ [] → bytes_of new ≡ bytes_of ps ++ p.bytes ∷ []
bytes_push ps new p is = ap (λ (l : List Payload). bytes_of l) is ∙ map_push (λ (q : Payload). q.bytes) ps p
