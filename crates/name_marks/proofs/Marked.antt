-- What the table's answers say of the names.
use Rattle.std.proofs.Common.{◌≡◌, ◌<◌, ◌+◌, ℕ, Bool, true, false, List, [], ◌∷◌, ◌++◌, length, map, take, get_or, slice_index, refl, sym, ap, subst, ◌∙◌}
use Rattle.std.specs.List.{HoldsAt}
use Rattle.std.proofs.lemmas.List.{length-map, get_or-map, take_more, map_push}
use Rattle.std.proofs.lemmas.List.Folds.{list_any_at, list_any_none}
use Rattle.epc_urn.specs.declared.epc.Epc.{Epc}
use Rattle.deed_words.specs.Names.{same_name, is_among}
use Rattle.deed_words.proofs.Sameness.{same_name-true}
use Rattle.name_marks.specs.Hashes.{hash_of}

pub marked_there : (names : List Epc) (name : Epc) (at : ℕ) → at < length names → HoldsAt (λ other. same_name name other ≡ true) names at → is_among names name ≡ true
unfolding is_among
marked_there names name at within there = list_any_at (same_name name) names at name within (there name)

pub marked_nowhere : (hashes : List ℕ) (names : List Epc) (name : Epc) (hash : ℕ) → hashes ≡ map hash_of names → hash ≡ hash_of name → ((i : ℕ) → i < length hashes → slice_index hashes i ≡ hash → HoldsAt (λ other. same_name name other ≡ false) names i) → is_among names name ≡ false
unfolding is_among
marked_nowhere hashes names name hash hashed e absent = list_any_none (same_name name) names (λ k d l.
    elim (same_name name (get_or names k d)) as (λ (b : Bool). same_name name (get_or names k d) ≡ b → b ≡ false) [
      | true ↦ λ s.
          let many : length hashes ≡ length names = ap (λ (xs : List ℕ). length xs) hashed ∙ length-map names hash_of in
          let one : slice_index hashes k ≡ hash =
          ap (λ (xs : List ℕ). get_or xs k 0) hashed ∙ get_or-map hash_of names k d 0 l ∙ ap hash_of (sym (same_name-true name (get_or names k d) s)) ∙ sym e in
          sym s ∙ absent k (subst (λ (n : ℕ). k < n) (sym many) l) one d
      | false ↦ λ s. refl
    ] refl)

-- the hashes with one more
pub hashed_more : (names : List Epc) (i : ℕ) (name : Epc) (hashes new : List ℕ) (hash : ℕ) → i < length names → name ≡ get_or names i name → hashes ≡ map hash_of (take i names) → hash ≡ hash_of name → new ≡ hashes ++ hash ∷ [] → new ≡ map hash_of (take (i + 1) names)
hashed_more names i name hashes new hash within is hashed e grown =
    grown
    ∙ ap (λ (h : ℕ). hashes ++ h ∷ []) (e ∙ ap hash_of is)
    ∙ ap (λ (xs : List ℕ). xs ++ hash_of (get_or names i name) ∷ []) hashed
    ∙ sym (map_push hash_of (take i names) (get_or names i name))
    ∙ ap (map hash_of) (sym (take_more names i name within))
