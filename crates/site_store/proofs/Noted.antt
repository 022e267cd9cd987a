-- What notes stand for.
use Rattle.std.proofs.Common.{◌≡◌, ◌∙◌, ℕ, ◌+◌, List, [], ◌∷◌, ◌++◌, refl, ap, sym, append_assoc}
use Rattle.deed_words.specs.declared.entry.Entry.{Entry}
use Rattle.site_store.specs.Noting.{Noted, made, left_from, left_after, added_by, dones, standing}
use Rattle.site_store.specs.States.{State}

pub made-append : (xs ys : List Noted) → made (xs ++ ys) ≡ made xs ++ made ys
made-append [] ys = refl
made-append (x ∷ xs) ys = ap (λ (zs : List Entry). added_by x.note x.group ++ zs) (made-append xs ys) ∙ sym (append_assoc (added_by x.note x.group) (made xs) (made ys))

pub left-append : (pending : List Entry) (xs ys : List Noted) → left_from pending (xs ++ ys) ≡ left_from (left_from pending xs) ys
left-append pending [] ys = refl
left-append pending (x ∷ xs) ys = left-append (left_after pending x.note x.group) xs ys

pub made_dones : (worker place : ℕ) (entries : List Entry) → made (dones worker place entries) ≡ entries
made_dones worker place [] = refl
made_dones worker place (entry ∷ entries) = ap (λ (es : List Entry). entry ∷ es) (made_dones worker (place + 1) entries)

left_none : (worker place : ℕ) (entries : List Entry) → left_from [] (dones worker place entries) ≡ []
left_none worker place [] = refl
left_none worker place (entry ∷ entries) = left_none worker (place + 1) entries

-- Dones for all that was pending leave nothing
pub left_dones : (worker place : ℕ) (entries : List Entry) → left_from entries (dones worker place entries) ≡ []
left_dones worker place [] = refl
left_dones worker place (entry ∷ entries) = left_none worker (place + 1) entries

-- a Done leaves nothing
pub left_done : (worker place : ℕ) (pending : List Entry) (entry : Entry) → left_from pending (dones worker place (entry ∷ [])) ≡ []
left_done worker place pending entry = refl

-- after more notes
pub standing_on : (opening : List Entry) (xs ys : List Noted) (old : State) → standing opening xs ≡ old
    → standing opening (xs ++ ys) ≡ record { history = old.history ++ made ys; pending = left_from old.pending ys }
standing_on opening xs ys old is =
    let history : opening ++ made (xs ++ ys) ≡ old.history ++ made ys =
    ap (λ (es : List Entry). opening ++ es) (made-append xs ys) ∙ sym (append_assoc opening (made xs) (made ys)) ∙ ap (λ (s : State). s.history ++ made ys) is in
    let pending : left_from [] (xs ++ ys) ≡ left_from old.pending ys = left-append [] xs ys ∙ ap (λ (s : State). left_from s.pending ys) is in
    ap (λ (es : List Entry). record { history = es; pending = left_from [] (xs ++ ys) }) history ∙ ap (λ (es : List Entry). record { history = old.history ++ made ys; pending = es }) pending
