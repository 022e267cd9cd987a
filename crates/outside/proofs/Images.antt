-- How the images of a disk in memory go on.
use Rattle.std.proofs.Common.{◌≡◌, ◌⊎◌, inl, inr, ℕ, ◌+◌, ◌≤◌, List, [], ◌∷◌, ◌++◌, length, take, drop, Option, Some, None, Result, Ok, Err, OnOk, OnErr, refl, sym, ◌∙◌, ap, subst, arith, length-append, length-drop}
use Rattle.std.proofs.lemmas.List.{take_at, drop_at, length-take-le, append_assoc}
use Rattle.outside.specs.Disks.{Torn, overwritten, Follows, LeadsTo, SameImages}
use Rattle.outside.specs.MemoryDisks.{IsTornBy, IsUnsynced, IsImage, SameUnsynced, Names}
use Rattle.outside.specs.declared.named.Named.{Named}
use Rattle.outside.specs.declared.named.Unsynced.{Unsynced}

pub torn_same : (at n : ℕ) (c : List ℕ) → Torn at n c c
torn_same at n c = record { before = refl; after = refl; no_shorter = omega arith; no_longer = omega arith }

-- a write that is done is one that is cut short
pub torn_overwritten : (at : ℕ) (piece old : List ℕ) → at ≤ length old → Torn at (length piece) old (overwritten at piece old)
torn_overwritten at piece old le =
    let front : length (take at old) ≡ at = length-take-le at old le in
    let whole : overwritten at piece old ≡ take at old ++ (piece ++ drop (at + length piece) old) = append_assoc (take at old) piece (drop (at + length piece) old) in
    let long : length (overwritten at piece old) ≡ at + (length piece + length (drop (at + length piece) old)) = omega (arith, front, ap length whole, length-append (take at old) (piece ++ drop (at + length piece) old), length-append piece (drop (at + length piece) old)) in
    record {
      before = ap (λ (l : List ℕ). take at l) whole ∙ take_at (take at old) (piece ++ drop (at + length piece) old) at front;
      after = drop_at (take at old ++ piece) (drop (at + length piece) old) (at + length piece) (omega (arith, front, length-append (take at old) piece));
      no_shorter = omega (arith, long, length-drop (at + length piece) old);
      no_longer = omega (arith, long, length-drop (at + length piece) old);
    }

-- the writes may have left what stood before them
untouched : (ws : List Named) (c : List ℕ) → IsTornBy ws c c
untouched [] c = refl
untouched (w ∷ ws) c = (c, inl (torn_same w.at w.len c), untouched ws c)

pub synced_image : (bytes : List ℕ) (was : Option Unsynced) (u : Unsynced) → was ≡ Some u → IsImage bytes was u.synced.value.items
synced_image bytes was u is = subst (λ (o : Option Unsynced). IsImage bytes o u.synced.value.items) (sym is) (inr (untouched u.writes.items u.synced.value.items))

-- one more write
torn_push : (ws : List Named) (w : Named) (old c : List ℕ) → IsTornBy (ws ++ w ∷ []) old c → (d : List ℕ) × IsTornBy ws old d × (Torn w.at w.len d c ⊎ Torn w.at w.len w.found.value.items c)
torn_push [] w old c torn = (old, refl, subst (λ (l : List ℕ). Torn w.at w.len old l ⊎ Torn w.at w.len w.found.value.items l) (sym torn.2) torn.1)
torn_push (v ∷ ws) w old c torn =
    let from = torn_push ws w torn.0 c torn.2 in
    (from.0, (torn.0, torn.1, from.1), from.2)

push_torn : (ws : List Named) (w : Named) (old d c : List ℕ) → IsTornBy ws old d → Torn w.at w.len d c ⊎ Torn w.at w.len w.found.value.items c → IsTornBy (ws ++ w ∷ []) old c
push_torn [] w old d c torn more = (c, subst (λ (l : List ℕ). Torn w.at w.len l c ⊎ Torn w.at w.len w.found.value.items c) torn more, refl)
push_torn (v ∷ ws) w old d c torn more = (torn.0, torn.1, push_torn ws w torn.0 d c torn.2 more)

-- a further write is named
pub further : (before : Unsynced) (new : Unsynced) (w : Named) (bytes : List ℕ) → new.synced.value.items ≡ before.synced.value.items → new.writes.items ≡ before.writes.items ++ w ∷ [] → w.found.value.items ≡ bytes
    → Names w.at w.len bytes (Some before) (Some new)
further before new w bytes same more found = record {
  follows = λ c left. came c (torn_push before.writes.items w before.synced.value.items c (there c left));
  leads = λ d c is torn. back c (went d c is torn);
}
  where
    there : (c : List ℕ) → IsUnsynced (Some new) c → IsTornBy (before.writes.items ++ w ∷ []) before.synced.value.items c
    there c left = subst (λ (l : List ℕ). IsTornBy (before.writes.items ++ w ∷ []) l c) same (subst (λ (l : List Named). IsTornBy l new.synced.value.items c) more left)

    back : (c : List ℕ) → IsTornBy (before.writes.items ++ w ∷ []) before.synced.value.items c → IsUnsynced (Some new) c
    back c left = subst (λ (l : List Named). IsTornBy l new.synced.value.items c) (sym more) (subst (λ (l : List ℕ). IsTornBy (before.writes.items ++ w ∷ []) l c) (sym same) left)

    came : (c : List ℕ) → (d : List ℕ) × IsTornBy before.writes.items before.synced.value.items d × (Torn w.at w.len d c ⊎ Torn w.at w.len w.found.value.items c)
        → (d : List ℕ) × IsImage bytes (Some before) d × Torn w.at w.len d c
    came c (d, left, inl torn) = (d, inr left, torn)
    came c (d, left, inr torn) = (bytes, inl refl, subst (λ (l : List ℕ). Torn w.at w.len l c) found torn)

    went : (d c : List ℕ) → IsImage bytes (Some before) d → Torn w.at w.len d c → IsTornBy (before.writes.items ++ w ∷ []) before.synced.value.items c
    went d c (inl is) torn = push_torn before.writes.items w before.synced.value.items before.synced.value.items c (untouched before.writes.items before.synced.value.items)
        (inr (subst (λ (l : List ℕ). Torn w.at w.len l c) (is ∙ sym found) torn))
    went d c (inr left) torn = push_torn before.writes.items w before.synced.value.items d c left (inl torn)

-- the first write since a sync is named
pub first : (new : Unsynced) (w : Named) (bytes : List ℕ) → new.synced.value.items ≡ bytes → new.writes.items ≡ w ∷ [] → w.found.value.items ≡ bytes → Names w.at w.len bytes None (Some new)
first new w bytes same one found = record {
  follows = λ c left. came c (there c left);
  leads = λ d c is torn. back c (went d c is torn);
}
  where
    there : (c : List ℕ) → IsUnsynced (Some new) c → IsTornBy (w ∷ []) bytes c
    there c left = subst (λ (l : List ℕ). IsTornBy (w ∷ []) l c) same (subst (λ (l : List Named). IsTornBy l new.synced.value.items c) one left)

    back : (c : List ℕ) → IsTornBy (w ∷ []) bytes c → IsUnsynced (Some new) c
    back c left = subst (λ (l : List Named). IsTornBy l new.synced.value.items c) (sym one) (subst (λ (l : List ℕ). IsTornBy (w ∷ []) l c) (sym same) left)

    came : (c : List ℕ) → IsTornBy (w ∷ []) bytes c → (d : List ℕ) × IsImage bytes None d × Torn w.at w.len d c
    came c (d, inl torn, is) = (bytes, inl refl, subst (λ (l : List ℕ). Torn w.at w.len bytes l) (sym is) torn)
    came c (d, inr torn, is) = (bytes, inl refl, subst (λ (l : List ℕ). Torn w.at w.len l c) found (subst (λ (l : List ℕ). Torn w.at w.len w.found.value.items l) (sym is) torn))

    went : (d c : List ℕ) → IsImage bytes None d → Torn w.at w.len d c → IsTornBy (w ∷ []) bytes c
    went d c (inl is) torn = (c, inl (subst (λ (l : List ℕ). Torn w.at w.len l c) is torn), refl)
    went d c (inr none) torn = absurd none

pub further_at : (was : Option Unsynced) (before new : Unsynced) (w : Named) (at n : ℕ) (bytes : List ℕ) → was ≡ Some before → (w.at ≡ at) × (w.len ≡ n) → new.synced.value.items ≡ before.synced.value.items
    → new.writes.items ≡ before.writes.items ++ w ∷ [] → w.found.value.items ≡ bytes → Names at n bytes was (Some new)
further_at was before new w at n bytes is range same more found =
    subst (λ (o : Option Unsynced). Names at n bytes o (Some new)) (sym is) (subst (λ (k : ℕ). Names k n bytes (Some before) (Some new)) range.0 (subst (λ (k : ℕ). Names w.at k bytes (Some before) (Some new)) range.1
    (further before new w bytes same more found)))

-- with a range named, whether the content changed or not
pub named_follows : (at n : ℕ) (old new : List ℕ) (was now : Option Unsynced) → Names at n old was now → Torn at n old new → Follows (Torn at n) (IsImage old was) (IsImage new now)
named_follows at n old new was now names torn c (inl is) = (old, inl refl, subst (λ (l : List ℕ). Torn at n old l) (sym is) torn)
named_follows at n old new was now names torn c (inr left) = names.follows c left

pub named_leads : (at n : ℕ) (old new : List ℕ) (was now : Option Unsynced) → Names at n old was now → LeadsTo (Torn at n) (IsImage old was) (IsImage new now)
named_leads at n old new was now names d c is torn = inr (names.leads d c is torn)

-- where nothing was named
pub same_images : (old new : List ℕ) (was now : Option Unsynced) → new ≡ old → SameUnsynced was now → SameImages (IsImage old was) (IsImage new now)
same_images old new was now same kept = record { no_more = more; no_fewer = fewer }
  where
    more : (c : List ℕ) → IsImage new now c → IsImage old was c
    more c (inl is) = inl (is ∙ same)
    more c (inr left) = inr (kept.no_more c left)

    fewer : (c : List ℕ) → IsImage old was c → IsImage new now c
    fewer c (inl is) = inl (is ∙ sym same)
    fewer c (inr left) = inr (kept.no_fewer c left)

-- where nothing was named
pub same_follows : (at n : ℕ) (old new : List ℕ → Type 0) → SameImages old new → Follows (Torn at n) old new
same_follows at n old new same c is = (c, same.no_more c is, torn_same at n c)

-- what is overwritten, or as it was
pub written_or_not : {E : Type 0} (r : Result (Unit {0}) E) (at : ℕ) (piece old new : List ℕ) → at ≤ length old → OnOk r (new ≡ overwritten at piece old) → OnErr r (new ≡ old) → Torn at (length piece) old new
written_or_not (Ok _) at piece old new le ok err = subst (λ (l : List ℕ). Torn at (length piece) old l) (sym ok) (torn_overwritten at piece old le)
written_or_not (Err _) at piece old new le ok err = subst (λ (l : List ℕ). Torn at (length piece) old l) (sym err) (torn_same at (length piece) old)

-- after a range was named
pub leads_ok : {E : Type 0} (r : Result (Unit {0}) E) (at n : ℕ) (bytes : List ℕ) (was now : Option Unsynced) → OnOk r (Names at n bytes was now) → OnOk r (LeadsTo (Torn at n) (IsImage bytes was) (IsImage bytes now))
leads_ok (Ok _) at n bytes was now ok = named_leads at n bytes bytes was now ok
leads_ok (Err _) at n bytes was now ok = tt

pub on_ok : {E P : Type 0} (r : Result (Unit {0}) E) → P → OnOk r P
on_ok (Ok _) is = is
on_ok (Err _) is = tt

pub on_err : {E P : Type 0} (r : Result (Unit {0}) E) → P → OnErr r P
on_err (Ok _) is = tt
on_err (Err _) is = is
