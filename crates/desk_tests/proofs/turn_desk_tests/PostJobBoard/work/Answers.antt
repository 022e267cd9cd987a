use Rattle.std.proofs.Common.{◌≡◌, ℕ, ◌==◌, Bool, true, cond, List, [], ◌∷◌, ◌++◌, map, ap, refl, arith}
use Rattle.std.proofs.lemmas.List.{map-append}
use Rattle.std.proofs.lemmas.Bool.Decides.{nat_tests}
use Rattle.deed_words.specs.declared.entry.Note.{Note}
use Rattle.turn_desk.specs.declared.view.Noted.{Noted}
use Rattle.turn_desk.specs.Notes.{maker, Appends}
use Rattle.desk_tests.proofs.turn_desk_tests.PostJobBoard.work.Goals as goal

abbrev bare : Note → Noted
bare n = record { note = n; group = [] }

one_more : (k : ℕ) (xs : List Note) (n : Note) → maker n ≡ k → Appends k (map bare xs) (map bare (xs ++ n ∷ []))
one_more k xs n is =
    let yes : (maker n == k) ≡ true = grind (arith, nat_tests) in
    (bare n ∷ [], ap (λ (b : Bool). cond b (bare n ∷ []) []) yes, map-append bare xs (n ∷ []))

pub returns-clause-appends : goal.returns-clause-appends
returns-clause-appends c =
    let notes : List Note = c.args.board.now.notes.items in
    rw (c.push_reserved.ensures.items, c.reserve.ensures.items) (one_more c.args.worker notes _ refl)
