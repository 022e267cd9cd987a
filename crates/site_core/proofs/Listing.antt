-- What is kept of the moves, with one entry more and with one fewer.
use Rattle.std.proofs.Common.{◌≡◌, ◌<◌, ◌≤◌, ◌^◌, Bool, true, List, [], ◌∷◌, ◌++◌, map, length, Option, None, Some, refl, sym, ap, ◌∙◌, arith, append-nil, true≢false}
use Rattle.std.specs.Prelude.{is_some}
use Rattle.std.proofs.lemmas.List.{length-append, length-map, map-append, same_from_push}
use Rattle.deed_words.specs.Setups.{Setup}
use Rattle.deed_words.specs.Happenings.{listed, moved_by, moves_from, moves}
use Rattle.deed_words.specs.History.{world_of}
use Rattle.deed_words.specs.Rules.{broken}
use Rattle.deed_words.specs.declared.entry.Entry.{Entry}
use Rattle.deed_words.specs.declared.entry.Move.{Move}
use Rattle.batch_book.specs.Content.{Content}
use Rattle.move_list.specs.declared.moved.Moved.{Moved}
use Rattle.move_list.specs.Kept.{kept_of}
use Rattle.move_list.proofs.History.{grow, few}
use Rattle.site_core.specs.declared.planned.Planned.{Planned}
use Rattle.site_core.specs.Plans.{IsNext, IsLast}

-- in a site in which nothing has happened
pub none_kept : (site : Setup) (history : List Entry) → history ≡ [] → [] ≡ map kept_of (moves site history)
unfolding moves moves_from
none_kept site history none = sym (ap (λ (h : List Entry). map kept_of (moves site h)) none)

pub none_few : (history : List Entry) → history ≡ [] → length history < 2 ^ 32
none_few history none = let long = ap (λ (h : List Entry). length h) none in omega (arith, long)

-- no more moves are kept than there are entries
pub few_kept : (site : Setup) (history : List Entry) (kept : List Moved) → kept ≡ map kept_of (moves site history) → length kept ≤ length history
few_kept site history kept is =
    let same = ap (λ (ms : List Moved). length ms) is ∙ length-map (moves site history) kept_of in
    let most = few site history in
    omega (arith, same, most)

-- the moves of a history with one entry more
split_kept : (site : Setup) (front : List Entry) (c : Content) (planned : Planned) → IsNext site front c planned → map kept_of (moves site (front ++ planned.entry ∷ [])) ≡ map kept_of (moves site front) ++ listed planned.moved
split_kept site front c planned next =
    let w = world_of site front in
    ap (λ (ms : List Move). map kept_of ms) (grow site front planned.entry)
    ∙ map-append kept_of (moves site front) (moved_by site w (length front) planned.entry (broken site w planned.entry.station planned.entry.deed))
    ∙ ap (λ (ms : List Moved). map kept_of (moves site front) ++ ms) next.moved

-- ---- one entry more

pub kept_more : (site : Setup) (history new_history : List Entry) (c : Content) (kept new : List Moved) (planned : Planned) → kept ≡ map kept_of (moves site history) → IsNext site history c planned
    → new_history ≡ history ++ planned.entry ∷ [] → new ≡ kept ++ listed planned.moved → new ≡ map kept_of (moves site new_history)
kept_more site history new_history c kept new planned kept_is next more is =
    is ∙ ap (λ (ms : List Moved). ms ++ listed planned.moved) kept_is ∙ sym (split_kept site history c planned next) ∙ ap (λ (h : List Entry). map kept_of (moves site h)) (sym more)

pub few_more : (site : Setup) (history new_history : List Entry) (c : Content) (planned : Planned) → IsNext site history c planned → new_history ≡ history ++ planned.entry ∷ [] → length new_history < 2 ^ 32
few_more site history new_history c planned next more =
    let long = ap (λ (h : List Entry). length h) more ∙ length-append history (planned.entry ∷ []) in
    let most = next.few in
    omega (arith, long, most)

-- ---- one entry fewer

some_listed : (o : Option Moved) → is_some o ≡ true → length (listed o) ≡ 1
unfolding listed
some_listed None e = absurd (true≢false (sym e))
some_listed (Some moved) e = refl

both : (xs ys : List Moved) (a b : Option Moved) → xs ++ listed a ≡ ys ++ listed b → is_some a ≡ is_some b → (xs ≡ ys) × (a ≡ b)
unfolding listed
both xs ys None None e same = (sym (append-nil xs) ∙ e ∙ append-nil ys, refl)
both xs ys (Some a) (Some b) e same = let p = same_from_push xs ys a b e in (p.0, ap (λ (m : Moved). Some m) p.1)
both xs ys None (Some b) e same = absurd (true≢false (sym same))
both xs ys (Some a) None e same = absurd (true≢false same)

pub kept_split : (site : Setup) (history : List Entry) (c : Content) (kept : List Moved) (committed : Planned) → kept ≡ map kept_of (moves site history) → (last : IsLast site history c committed)
    → kept ≡ map kept_of (moves site last.front) ++ listed committed.moved
kept_split site history c kept committed kept_is last =
    kept_is ∙ ap (λ (h : List Entry). map kept_of (moves site h)) last.history_is ∙ split_kept site last.front last.before committed last.next

pub some_kept : (site : Setup) (history : List Entry) (c : Content) (kept : List Moved) (committed : Planned) (has : Bool) → kept ≡ map kept_of (moves site history) → IsLast site history c committed → has ≡ is_some committed.moved → has ≡ true → 0 < length kept
some_kept site history c kept committed has kept_is last same e =
    let long = ap (λ (ms : List Moved). length ms) (kept_split site history c kept committed kept_is last) ∙ length-append (map kept_of (moves site last.front)) (listed committed.moved) in
    let one = some_listed committed.moved (sym same ∙ e) in
    omega (arith, long, one)

-- what is left, and what was taken back
pub kept_less : (site : Setup) (history : List Entry) (c : Content) (kept new : List Moved) (committed : Planned) (has : Bool) (moved : Option Moved) → kept ≡ map kept_of (moves site history) → (last : IsLast site history c committed)
    → has ≡ is_some committed.moved → is_some moved ≡ has → kept ≡ new ++ listed moved → (new ≡ map kept_of (moves site last.front)) × (moved ≡ committed.moved)
kept_less site history c kept new committed has moved kept_is last same some split =
    both new (map kept_of (moves site last.front)) moved committed.moved (sym split ∙ kept_split site history c kept committed kept_is last) (some ∙ same)

pub few_less : (site : Setup) (history : List Entry) (c : Content) (committed : Planned) → length history < 2 ^ 32 → (last : IsLast site history c committed) → length last.front < 2 ^ 32
few_less site history c committed most last =
    let long = ap (λ (h : List Entry). length h) last.history_is ∙ length-append last.front (committed.entry ∷ []) in
    omega (arith, long, most)

pub kept_fewer : (site : Setup) (history new_history : List Entry) (c : Content) (kept new : List Moved) (committed : Planned) (has : Bool) (moved : Option Moved) → kept ≡ map kept_of (moves site history) → (last : IsLast site history c committed)
    → has ≡ is_some committed.moved → is_some moved ≡ has → kept ≡ new ++ listed moved → new_history ≡ last.front → new ≡ map kept_of (moves site new_history)
kept_fewer site history new_history c kept new committed has moved kept_is last same some split front =
    (kept_less site history c kept new committed has moved kept_is last same some split).0 ∙ ap (λ (h : List Entry). map kept_of (moves site h)) (sym front)

pub few_fewer : (site : Setup) (history new_history : List Entry) (c : Content) (committed : Planned) → length history < 2 ^ 32 → (last : IsLast site history c committed) → new_history ≡ last.front → length new_history < 2 ^ 32
few_fewer site history new_history c committed most last front =
    let left = few_less site history c committed most last in
    let same = ap (λ (h : List Entry). length h) front in
    omega (arith, left, same)
