-- What reading and printing whole groups promise.
use Rattle.std.proofs.Common.{◌≡◌, ◌⊎◌, ℕ, ◌-◌, ◌+◌, ◌≤◌, Bool, true, false, cond, eqb, List, [], ◌∷◌, ◌++◌, length, None, Result, Ok, Err, refl, sym, ap, subst, ◌∙◌, arith, inl, inr}
use Rattle.std.specs.Prelude.{All, IfOk}
use Rattle.std.specs.List.{AllByRecursion, flat_map}
use Rattle.std.specs.Global.{Vec}
use Rattle.std.proofs.lemmas.Bool.{eqb-true, le-leb}
use Rattle.std.proofs.lemmas.Bool.Decides.{nat_tests}
use Rattle.std.proofs.lemmas.List.{append-nil, nil_from_length}
use Rattle.std.proofs.lemmas.List.Elements.{All-from_recursion, recursion_from_All}
use Rattle.gs1_keys.specs.Keys.{is_between}
use Rattle.gs1_keys.proofs.Known.{between}
use Rattle.deed_words.specs.Proper.{IsProperEntry}
use Rattle.deed_words.specs.declared.entry.Entry.{Entry}
use Rattle.entry_bytes.specs.declared.fault.Stop.{Stop}
use Rattle.entry_bytes.specs.declared.fault.Stop.TheVariants.{BadField}
use Rattle.entry_bytes.specs.declared.fault.EntryFault.{EntryFault}
use Rattle.entry_bytes.specs.declared.fault.EntryFault.TheVariants as fault
use Rattle.entry_bytes.specs.declared.version.Version.{Version}
use Rattle.entry_bytes.specs.declared.version.Version.TheVariants.{First, Second}
use Rattle.entry_bytes.specs.Reading.{byte_at, many}
use Rattle.entry_bytes.specs.Deeds.{entry_at, group_at, whole, entries_of}
use Rattle.entry_bytes.specs.Spelling.{count_in, entry_in, group_in, group_bytes}
use Rattle.entry_bytes.specs.Kept.{IsKept}
use Rattle.entry_bytes.specs.Groups.{IsGroup, IsOlder, SpellsGroup}
use Rattle.entry_bytes.specs.Answers.{IsRead}
use Rattle.entry_bytes.proofs.Full.{IsFull, entry_kept, entry_full}
use Rattle.entry_bytes.proofs.Codec.{IsBytes, Takes, Takes-then, bind_ok, done, byte_codec, single, many_takes, many_again}
use Rattle.entry_bytes.proofs.Spelled.{entry_codec}

-- ---- entries of a version

group_kept : (version : Version) (es : List Entry) → AllByRecursion (IsFull version) es → AllByRecursion IsKept es × AllByRecursion IsProperEntry es
group_kept version [] h = (tt, tt)
group_kept version (e ∷ es) h =
    let first = entry_kept version e h.0 in
    let others = group_kept version es h.1 in
    ((first.0, others.0), (first.1, others.1))

unnamed : (es : List Entry) → AllByRecursion (IsFull First) es → AllByRecursion (λ e. e.operator ≡ None) es
unnamed [] h = tt
unnamed (e ∷ es) h = (h.0.1.1.1.1.0, unnamed es h.1)

full_second : (es : List Entry) → AllByRecursion IsKept es → AllByRecursion IsProperEntry es → AllByRecursion (IsFull Second) es
full_second [] k p = tt
full_second (e ∷ es) k p = let kept = k.0 in (entry_full Second e k.0 p.0 kept.operator, full_second es k.1 p.1)

full_first : (es : List Entry) → AllByRecursion IsKept es → AllByRecursion IsProperEntry es → AllByRecursion (λ e. e.operator ≡ None) es → AllByRecursion (IsFull First) es
full_first [] k p u = tt
full_first (e ∷ es) k p u = (entry_full First e k.0 p.0 u.0, full_first es k.1 p.1 u.1)

-- the group that entries make
a_group : (version : Version) (es : List Entry) → 1 ≤ length es → length es ≤ 16 → AllByRecursion (IsFull version) es → IsGroup es
a_group version es some few h =
    let p = group_kept version es h in
    record { some = some; few = few; kept = All-from_recursion IsKept es p.0; proper = All-from_recursion IsProperEntry es p.1 }

-- ---- groups

-- the entries behind a count byte
spelled_by : (version : Version) (n : ℕ) (bytes after : List ℕ) (x : List Entry × List ℕ) → 1 ≤ n → n ≤ 16 → Takes bytes (single (count_in version n)) after → many (entry_at version) n after ≡ Ok x
    → Takes bytes (group_in version x.0) x.1 × IsGroup x.0 × AllByRecursion (IsFull version) x.0
spelled_by version n bytes after x some few t e =
    let m = many_takes (entry_codec version) n after x t.rest_fits e in
    let both = Takes-then bytes (single (count_in version n)) after (flat_map (entry_in version) x.0) x.1 t m.0 in (
      subst (λ (k : ℕ). Takes bytes (count_in version k ∷ flat_map (entry_in version) x.0) x.1) (sym m.1) both,
      a_group version x.0 (omega (arith, m.1)) (omega (arith, m.1)) m.2,
      m.2,
    )

-- what is read from the front of bytes spells a group
Fronts : List ℕ → List Entry × List ℕ → Type 0
Fronts bytes x = ((version : Version) × Takes bytes (group_in version x.0) x.1 × AllByRecursion (IsFull version) x.0) × IsGroup x.0

fronts : (version : Version) (n : ℕ) (bytes after : List ℕ) (x : List Entry × List ℕ) → 1 ≤ n → n ≤ 16 → Takes bytes (single (count_in version n)) after → many (entry_at version) n after ≡ Ok x → Fronts bytes x
unfolding Fronts
fronts version n bytes after x some few t e = let s = spelled_by version n bytes after x some few t e in ((version, s.0, s.2), s.1)

group_takes : (bytes : List ℕ) (x : List Entry × List ℕ) → IsBytes bytes → group_at bytes ≡ Ok x → Fronts bytes x
unfolding group_at
group_takes bytes x fits e =
    let a = bind_ok (byte_at bytes) (λ n. cond (is_between 129 144 n.0) (many (entry_at Second) (n.0 - 128) n.1) (cond (is_between 1 16 n.0) (many (entry_at First) n.0 n.1) (Err (BadField (length bytes))))) x e in
    let t = byte_codec.takes bytes a.0 fits a.1 in
    by a.0.0 a.0.1 t.0 (is_between 129 144 a.0.0) refl a.2
  where
    older : (n : ℕ) (after : List ℕ) → Takes bytes (single n) after → (b : Bool) → is_between 1 16 n ≡ b → cond b (many (entry_at First) n after) (Err (BadField (length bytes))) ≡ Ok x → Fronts bytes x
    older n after t true h e = let w = between 1 16 n h in fronts First n bytes after x w.0 w.1 t e
    older n after t false h e = absurd cc

    by : (n : ℕ) (after : List ℕ) → Takes bytes (single n) after → (b : Bool) → is_between 129 144 n ≡ b → cond b (many (entry_at Second) (n - 128) after) (cond (is_between 1 16 n) (many (entry_at First) n after) (Err (BadField (length bytes)))) ≡ Ok x → Fronts bytes x
    by n after t true h e =
        let w = between 129 144 n h in
        let s : n ≡ 128 + (n - 128) = omega arith in
        fronts Second (n - 128) bytes after x (omega arith) (omega arith) (subst (λ (k : ℕ). Takes bytes (single k) after) s t) e
    by n after t false h e = older n after t (is_between 1 16 n) refl e

second_again : (es : List Entry) (rest : List ℕ) → 1 ≤ length es → length es ≤ 16 → AllByRecursion (IsFull Second) es → group_at (group_in Second es ++ rest) ≡ Ok (es, rest)
unfolding group_at
second_again es rest some few h =
    let marked : is_between 129 144 (128 + length es) ≡ true = rw (le-leb 129 (128 + length es) (omega arith), le-leb (128 + length es) 144 (omega arith)) refl in
    let count : (128 + length es) - 128 ≡ length es = omega arith in
    rw (marked, count) (many_again (entry_codec Second) es rest h)

first_again : (es : List Entry) (rest : List ℕ) → 1 ≤ length es → length es ≤ 16 → AllByRecursion (IsFull First) es → group_at (group_in First es ++ rest) ≡ Ok (es, rest)
unfolding group_at
first_again es rest some few h =
    let unmarked : is_between 129 144 (length es) ≡ false = grind (arith, nat_tests) in
    let counted : is_between 1 16 (length es) ≡ true = rw (le-leb 1 (length es) some, le-leb (length es) 16 few) refl in
    rw (unmarked, counted) (many_again (entry_codec First) es rest h)

-- ---- all of the bytes

pub whole_is : {X : Type 0} (total : ℕ) (r : Result (X × List ℕ) Stop) (y : X) → whole total r ≡ Ok y → r ≡ Ok (y, [])
whole_is total (Err e) y h = absurd cc
whole_is {X} total (Ok x) y h = by (eqb (length x.1) 0) refl h
  where
    made : X × List ℕ
    made = (y, [])

    by : (b : Bool) → eqb (length x.1) 0 ≡ b → cond b (Ok x.0) (Err (fault.Extra (total - length x.1))) ≡ Ok y → done x ≡ done made
    by true h e = let s : x.0 ≡ y = cc in let n : x.1 ≡ [] = nil_from_length x.1 (eqb-true _ _ h) in ap (λ (z : X). Ok (z, x.1)) s ∙ ap (λ (w : List ℕ). Ok (y, w)) n
    by false h e = absurd cc

entries_take : (bytes : List ℕ) (es : List Entry) → IsBytes bytes → entries_of bytes ≡ Ok es → SpellsGroup es bytes
unfolding entries_of Fronts
entries_take bytes es fits e =
    let f = group_takes bytes (es, []) fits (whole_is (length bytes) (group_at bytes) es e) in
    record { is = f.1; spelling = by f.0.0 f.0.1 f.0.2 }
  where
    by : (version : Version) → Takes bytes (group_in version es) [] → AllByRecursion (IsFull version) es → (bytes ≡ group_bytes es) ⊎ IsOlder es bytes
    by Second t h = inl (t.parts ∙ append-nil (group_in Second es))
    by First t h = inr (record { unnamed = All-from_recursion (λ e. e.operator ≡ None) es (unnamed es h); older = t.parts ∙ append-nil (group_in First es) })

read_whole : (bytes : List ℕ) (es : List Entry) → group_at (bytes ++ []) ≡ Ok (es, []) → entries_of bytes ≡ Ok es
unfolding entries_of
read_whole bytes es h = let r : group_at bytes ≡ Ok (es, []) = ap group_at (sym (append-nil bytes)) ∙ h in rw r refl

pub entries_again : (es : List Entry) (bytes : List ℕ) → SpellsGroup es bytes → entries_of bytes ≡ Ok es
entries_again es bytes s = by s.spelling
  where
    kept : AllByRecursion IsKept es
    kept = recursion_from_All IsKept es s.is.kept

    proper : AllByRecursion IsProperEntry es
    proper = recursion_from_All IsProperEntry es s.is.proper

    by : (bytes ≡ group_bytes es) ⊎ IsOlder es bytes → entries_of bytes ≡ Ok es
    by (inl is) = ap entries_of is ∙ read_whole (group_in Second es) es (second_again es [] s.is.some s.is.few (full_second es kept proper))
    by (inr o) = ap entries_of o.older ∙ read_whole (group_in First es) es (first_again es [] s.is.some s.is.few (full_first es kept proper (recursion_from_All (λ e. e.operator ≡ None) es o.unnamed)))

-- ---- what the public calls promise

abbrev items_of : Vec Entry → List Entry
items_of v = v.items

pub is_found : (bytes : List ℕ) (r : Result (Vec Entry) EntryFault) → IsBytes bytes → IsRead items_of r (entries_of bytes) → IfOk r (λ v. SpellsGroup v.items bytes)
is_found bytes (Ok v) fits given = entries_take bytes v.items fits given
is_found bytes (Err e) fits given = tt

pub is_only : (bytes : List ℕ) (r : Result (Vec Entry) EntryFault) → IsRead items_of r (entries_of bytes) → (es : List Entry) → SpellsGroup es bytes → IsRead items_of r (Ok es)
is_only bytes r given es s = subst (λ f. IsRead items_of r f) (entries_again es bytes s) given

pub are_proper : (bytes : List ℕ) (r : Result (Vec Entry) EntryFault) → IfOk r (λ v. SpellsGroup v.items bytes) → IfOk r (λ v. All IsProperEntry v.items)
are_proper bytes (Ok v) s = let g = s in g.is.proper
are_proper bytes (Err e) s = tt

group_ok : List Entry → Result (List Entry) EntryFault
group_ok es = Ok es

-- two groups never share bytes
pub one_of_bytes : (bytes : List ℕ) (a b : List Entry) → SpellsGroup a bytes → SpellsGroup b bytes → a ≡ b
one_of_bytes bytes a b s t =
    let e = sym (entries_again a bytes s) ∙ entries_again b bytes t in
    let same : a ≡ b = cc in same

pub spells_printed : (es : List Entry) → 1 ≤ length es → length es ≤ 16 → All IsKept es → All IsProperEntry es → SpellsGroup es (group_bytes es)
spells_printed es some few kept proper = record { is = record { some = some; few = few; kept = kept; proper = proper }; spelling = inl refl }
