-- Putting back what writes covered.
use Rattle.std.proofs.Common.{◌≡◌, ◌⊎◌, inl, inr, ℕ, ◌+◌, ◌<◌, ◌≤◌, nat_le, if◌then◌else◌, Bool, true, false, List, [], ◌∷◌, ◌++◌, length, take, drop, min, Option, Some, None, refl, sym, ◌∙◌, ap, subst, arith, append_assoc, length-drop, take-append-drop}
use Rattle.std.proofs.lemmas.Bool.{le-leb, leb-true, cases_lt, cases_Bool}
use Rattle.std.proofs.lemmas.List.{take_at, take_all, length-take, drop-drop}
use Rattle.outside.specs.Disks.{Torn, overwritten}
use Rattle.outside.specs.MemoryDisks.{undone, then_undone, all_undone, LeadsBack, KeepsSync}
use Rattle.outside.specs.declared.named.Named.{Named}
use Rattle.outside.specs.declared.named.Unsynced.{Unsynced}
use Rattle.outside.proofs.Images.{torn_same, torn_overwritten}

-- the bytes of a part, between what is before and behind it
parted : (at n : ℕ) (old : List ℕ) → take at old ++ take n (drop at old) ++ drop (at + n) old ≡ old
parted at n old =
    append_assoc (take at old) (take n (drop at old)) (drop (at + n) old) ∙ ap (λ (l : List ℕ). take at old ++ (take n (drop at old) ++ l)) (sym (drop-drop n at old))
    ∙ ap (λ (l : List ℕ). take at old ++ l) (take-append-drop n (drop at old)) ∙ take-append-drop at old

-- what was covered, where all n bytes were there, and where the end was covered
whole_part : (at n : ℕ) (old covered rest : List ℕ) → at + n ≤ length old → covered ≡ take n (drop at old) → rest ≡ drop (at + n) old → take (length old) (take at old ++ covered ++ rest) ≡ old
whole_part at n old covered rest le is behind =
    ap (λ (l : List ℕ). take (length old) (take at old ++ l ++ rest)) is ∙ ap (λ (l : List ℕ). take (length old) (take at old ++ take n (drop at old) ++ l)) behind
    ∙ ap (λ (l : List ℕ). take (length old) l) (parted at n old) ∙ take_all (length old) old (omega arith)

end_part : (at n : ℕ) (old covered rest : List ℕ) → length old ≤ at + n → covered ≡ take n (drop at old) → take (length old) (take at old ++ covered ++ rest) ≡ old
end_part at n old covered rest le is =
    let all : covered ≡ drop at old = is ∙ take_all n (drop at old) (omega (arith, length-drop at old)) in
    ap (λ (l : List ℕ). take (length old) (l ++ rest)) (ap (λ (l : List ℕ). take at old ++ l) all ∙ take-append-drop at old) ∙ take_at old rest (length old) refl

-- what was covered is put back, over whatever the range holds
put_back : (at n : ℕ) (old covered c : List ℕ) → Torn at n old c → covered ≡ take n (drop at old) → take (length old) (overwritten at covered c) ≡ old
put_back at n old covered c torn is = by_size (cases_lt (length old) (at + n))
  where
    front : take at c ++ covered ++ drop (at + length covered) c ≡ take at old ++ covered ++ drop (at + length covered) c
    front = ap (λ (l : List ℕ). l ++ covered ++ drop (at + length covered) c) torn.before

    by_size : (length old < at + n) ⊎ (at + n ≤ length old) → take (length old) (overwritten at covered c) ≡ old
    by_size (inl less) = ap (λ (l : List ℕ). take (length old) l) front ∙ end_part at n old covered (drop (at + length covered) c) (omega arith) is
    by_size (inr le) =
        let long : length covered ≡ n = ap length is ∙ length-take n (drop at old) ∙ omega (arith, length-drop at old) in
        let behind : drop (at + length covered) c ≡ drop (at + n) old = ap (λ (k : ℕ). drop (at + k) c) long ∙ torn.after in
        ap (λ (l : List ℕ). take (length old) l) front ∙ whole_part at n old covered (drop (at + length covered) c) le is behind

fits : (at n : ℕ) (old covered c : List ℕ) → at ≤ length old → Torn at n old c → covered ≡ take n (drop at old) → at + length covered ≤ length c
fits at n old covered c le torn is =
    let long : length covered ≡ min n (length (drop at old)) = ap length is ∙ length-take n (drop at old) in
    omega (arith, long, length-drop at old, torn.no_shorter)

-- what a write covers of the bytes that it finds
pub record Covers (w : Named) (at n : ℕ) (bytes : List ℕ) : Type 0 where
  pub there : at ≤ length bytes
  pub at_is : w.at ≡ at
  pub covered_is : w.covered.items ≡ take n (drop at bytes)
  pub size_is : w.size ≡ length bytes

pub covers_of : (w : Named) (at n : ℕ) (bytes : List ℕ) → at ≤ length bytes → (w.at ≡ at) × (w.len ≡ n) → w.covered.items ≡ take n (drop at bytes) → w.size ≡ length bytes → Covers w at n bytes
covers_of w at n bytes there range covered size = record { there = there; at_is = range.0; covered_is = covered; size_is = size }

undone_fits : (w : Named) (c : List ℕ) → w.at + length w.covered.items ≤ length c → undone w c ≡ Some (take w.size (overwritten w.at w.covered.items c))
undone_fits w c le = ap (λ (b : Bool). if b then Some (take w.size (overwritten w.at w.covered.items c)) else None) (le-leb (w.at + length w.covered.items) (length c) le)

-- what undo does
pub undone_is : (w : Named) (c new : List ℕ) → w.at + length w.covered.items ≤ length c → new ≡ take w.size (overwritten w.at w.covered.items c) → undone w c ≡ Some new
undone_is w c new le is = undone_fits w c le ∙ ap (λ (l : List ℕ). Some l) (sym is)

puts_back : (w : Named) (at n : ℕ) (bytes c : List ℕ) → Covers w at n bytes → Torn at n bytes c → undone w c ≡ Some bytes
puts_back w at n bytes c covers torn =
    let le = fits at n bytes w.covered.items c covers.there torn covers.covered_is in
    let back = put_back at n bytes w.covered.items c torn covers.covered_is in
    undone_fits w c (omega (arith, le, covers.at_is))
    ∙ ap (λ (k : ℕ). Some (take k (overwritten w.at w.covered.items c))) covers.size_is
    ∙ ap (λ (k : ℕ). Some (take (length bytes) (overwritten k w.covered.items c))) covers.at_is ∙ ap (λ (l : List ℕ). Some l) back

-- one write more
pushed : (ws : List Named) (w : Named) (c d : List ℕ) → undone w c ≡ Some d → all_undone (ws ++ w ∷ []) c ≡ all_undone ws d
pushed [] w c d is = is
pushed (v ∷ ws) w c d is = ap (λ (o : Option (List ℕ)). then_undone o v) (pushed ws w c d is)

some_before : (o : Option (List ℕ)) (w : Named) (s : List ℕ) → then_undone o w ≡ Some s → (d : List ℕ) × (o ≡ Some d)
some_before None w s is = absurd (cc)
some_before (Some d) w s is = (d, refl)

long_enough : (w : Named) (c s : List ℕ) → undone w c ≡ Some s → w.at + length w.covered.items ≤ length c
long_enough w c s is = by_test (cases_Bool (nat_le (w.at + length w.covered.items) (length c)))
  where
    by_test : (nat_le (w.at + length w.covered.items) (length c) ≡ true) ⊎ (nat_le (w.at + length w.covered.items) (length c) ≡ false) → w.at + length w.covered.items ≤ length c
    by_test (inl le) = leb-true (w.at + length w.covered.items) (length c) le
    by_test (inr less) =
        let none : undone w c ≡ None = ap (λ (b : Bool). if b then Some (take w.size (overwritten w.at w.covered.items c)) else None) less in
        let both : None ≡ Some s = sym none ∙ is in
        absurd (cc)

-- the last write fits
pub last_fits : (ws : List Named) (w : Named) (c s : List ℕ) → all_undone (ws ++ w ∷ []) c ≡ Some s → w.at + length w.covered.items ≤ length c
last_fits [] w c s is = long_enough w c s is
last_fits (v ∷ ws) w c s is = let from = some_before (all_undone (ws ++ w ∷ []) c) v s is in last_fits ws w c from.0 from.1

-- and without it the others lead back
pub others : (ws : List Named) (w : Named) (c d s : List ℕ) → all_undone (ws ++ w ∷ []) c ≡ Some s → undone w c ≡ Some d → all_undone ws d ≡ Some s
others ws w c d s all one = sym (pushed ws w c d one) ∙ all

-- a further write, and the first one since a sync
pub further_sync : (was : Option Unsynced) (before new : Unsynced) (w : Named) (at n : ℕ) (bytes : List ℕ) → was ≡ Some before → Covers w at n bytes → LeadsBack bytes was
    → new.synced.value.items ≡ before.synced.value.items → new.writes.items ≡ before.writes.items ++ w ∷ [] → KeepsSync at n bytes was (Some new)
further_sync was before new w at n bytes is covers back same more = subst (λ (o : Option Unsynced). KeepsSync at n bytes o (Some new)) (sym is) (record {
  as_it_was = to bytes (torn_same at n bytes);
  written = λ piece long. to (overwritten at piece bytes) (subst (λ (k : ℕ). Torn at k bytes (overwritten at piece bytes)) long (torn_overwritten at piece bytes covers.there));
  same = λ c. same;
})
  where
    from : LeadsBack bytes (Some before)
    from = subst (λ (o : Option Unsynced). LeadsBack bytes o) is back

    to : (c : List ℕ) → Torn at n bytes c → all_undone new.writes.items c ≡ Some new.synced.value.items
    to c torn =
        ap (λ (l : List Named). all_undone l c) more ∙ pushed before.writes.items w c bytes (puts_back w at n bytes c covers torn) ∙ from ∙ ap (λ (l : List ℕ). Some l) (sym same)

pub first_sync : (new : Unsynced) (w : Named) (at n : ℕ) (bytes : List ℕ) → Covers w at n bytes → new.synced.value.items ≡ bytes → new.writes.items ≡ w ∷ [] → KeepsSync at n bytes None (Some new)
first_sync new w at n bytes covers same one = record {
  as_it_was = to bytes (torn_same at n bytes);
  written = λ piece long. to (overwritten at piece bytes) (subst (λ (k : ℕ). Torn at k bytes (overwritten at piece bytes)) long (torn_overwritten at piece bytes covers.there));
  same = λ c. same;
}
  where
    to : (c : List ℕ) → Torn at n bytes c → all_undone new.writes.items c ≡ Some new.synced.value.items
    to c torn = ap (λ (l : List Named). all_undone l c) one ∙ puts_back w at n bytes c covers torn ∙ ap (λ (l : List ℕ). Some l) (sym same)
