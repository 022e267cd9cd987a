-- The notes of a store as the desk sees them.
use Rattle.std.proofs.Common.{◌≡◌, ◌∙◌, ℕ, Bool, true, false, cond, List, [], ◌∷◌, ◌++◌, map, refl, sym, ap, append-nil}
use Rattle.std.specs.Prelude.{◌==◌, filter}
use Rattle.deed_words.specs.declared.entry.Entry.{Entry}
use Rattle.deed_words.specs.declared.entry.Note.{Note}
use Rattle.deed_words.specs.declared.entry.Note.TheVariants.{Done, Fault}
use Rattle.turn_desk.specs.Notes as desk
use Rattle.turn_desk.specs.declared.view.Noted.{Noted}
use Rattle.site_store.specs.Noting as store
use Rattle.site_store.specs.States.{State}
use Rattle.site_turns.specs.Origins.{at_desk, in_store}

pub back : (xs : List store.Noted) → map in_store (map at_desk xs) ≡ xs
back [] = refl
back (x ∷ xs) = ap (λ (l : List store.Noted). x ∷ l) (back xs)

same_maker : (note : Note) → desk.maker note ≡ store.maker note
same_maker (Done place worker) = refl
same_maker (Fault kind worker) = refl

-- a worker's notes are its own at the desk
pub own_at_desk : (worker : ℕ) (xs : List store.Noted) → desk.own worker (map at_desk xs) ≡ map at_desk (store.own worker xs)
own_at_desk worker [] = refl
own_at_desk worker (x ∷ xs) =
    ap (λ (maker : ℕ). cond (maker == worker) (at_desk x ∷ desk.own worker (map at_desk xs)) (desk.own worker (map at_desk xs))) (same_maker x.note)
    ∙ kept (store.maker x.note == worker) (own_at_desk worker xs)
  where
    kept : (b : Bool) → desk.own worker (map at_desk xs) ≡ map at_desk (store.own worker xs)
        → cond b (at_desk x ∷ desk.own worker (map at_desk xs)) (desk.own worker (map at_desk xs)) ≡ map at_desk (cond b (x ∷ store.own worker xs) (store.own worker xs))
    kept true rest = ap (λ (l : List Noted). at_desk x ∷ l) rest
    kept false rest = rest

pub mine : (worker : ℕ) (notes : List store.Noted) → store.IsOf worker notes → desk.IsOf worker (map at_desk notes)
mine worker notes is = own_at_desk worker notes ∙ ap (map at_desk) is

-- what the notes stand for
pub stands_for : (opening : List Entry) (notes : List store.Noted) (state : State) → store.standing opening notes ≡ state → store.standing opening (map in_store (map at_desk notes)) ≡ state
stands_for opening notes state is = ap (store.standing opening) (back notes) ∙ is

-- nothing was added
pub none_added : (worker : ℕ) (xs : List Noted) → desk.Appends worker xs xs
none_added worker xs = ([], refl, sym (append-nil xs))
