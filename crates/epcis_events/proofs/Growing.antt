-- Moves of a history that grows, and the events of a part of them.
use Rattle.std.proofs.Common.{◌≡◌, ℕ, zero, suc, ◌+◌, true, false, List, [], ◌∷◌, ◌++◌, length, take, drop, sym, ◌∙◌, ap, refl, arith, Option, None, Some, true≢false, append_assoc, append-nil}
use Rattle.std.specs.Prelude.{filter_map, is_some, option_map, if◌then◌else◌}
use Rattle.std.specs.List.{AllByRecursion as Every}
use Rattle.deed_words.specs.declared.entry.Entry.{Entry}
use Rattle.deed_words.specs.declared.entry.Move.{Move}
use Rattle.deed_words.specs.declared.rule.Rule.{Rule}
use Rattle.deed_words.specs.declared.world.Batch.{Batch}
use Rattle.deed_words.specs.Setups.{Setup}
use Rattle.deed_words.specs.Names.{Text, same}
use Rattle.deed_words.specs.World.{World, nothing_yet}
use Rattle.deed_words.specs.Deeds.{batch_for}
use Rattle.deed_words.specs.Rules.{broken}
use Rattle.deed_words.specs.Replies.{after}
use Rattle.deed_words.specs.History.{world_from, world_of}
use Rattle.deed_words.proofs.Items.{Every-append, Every-filter}
use Rattle.epcis_events.specs.declared.event.Event.{Event}
use Rattle.epcis_events.specs.declared.event.Kind.{Kind}
use Rattle.deed_words.specs.Happenings.{has_event, move_of, listed, moved_by, moves_from, moves, moves_of}
use Rattle.epcis_events.specs.Events.{kind_of, event_in, event_of}
use Rattle.epcis_events.proofs.Happens.{has_kind}

grow_from : (site : Setup) (w : World) (place : ℕ) (entries : List Entry) (entry : Entry)
    → moves_from site w place (entries ++ entry ∷ []) ≡ moves_from site w place entries ++ moved_by site (world_from site w entries) (place + length entries) entry (broken site (world_from site w entries) entry.station entry.deed)
unfolding moves_from world_from
grow_from site w place [] entry =
    let same : place ≡ place + 0 = omega arith in
    append-nil (moved_by site w place entry (broken site w entry.station entry.deed)) ∙ ap (λ n. moved_by site w n entry (broken site w entry.station entry.deed)) same
grow_from site w place (e ∷ entries) entry =
    let first : List Move = moved_by site w place e (broken site w e.station e.deed) in
    let w' : World = world_from site (after site w e) entries in
    let same : suc place + length entries ≡ place + suc (length entries) = omega arith in
    ap (λ (ms : List Move). first ++ ms) (grow_from site (after site w e) (suc place) entries entry ∙ ap (λ n. moves_from site (after site w e) (suc place) entries ++ moved_by site w' n entry (broken site w' entry.station entry.deed)) same)
    ∙ sym (append_assoc first (moves_from site (after site w e) (suc place) entries) _)

pub grow : (site : Setup) (history : List Entry) (entry : Entry) → moves site (history ++ entry ∷ []) ≡ moves site history ++ moved_by site (world_of site history) (length history) entry (broken site (world_of site history) entry.station entry.deed)
unfolding moves world_of
grow site history entry =
    let same : 0 + length history ≡ length history = omega arith in
    grow_from site nothing_yet 0 history entry ∙ ap (λ n. moves_from site nothing_yet 0 history ++ moved_by site (world_from site nothing_yet history) n entry (broken site (world_from site nothing_yet history) entry.station entry.deed)) same

abbrev HasEvent : Move → Type 0
HasEvent moved = has_event moved.kept.deed ≡ true

listed_has : (site : Setup) (w : World) (place : ℕ) (entry : Entry) (batch : Option Batch) → has_event entry.deed ≡ true → Every HasEvent (listed (option_map (move_of site w place entry) batch))
unfolding listed move_of
listed_has site w place entry None h = tt
listed_has site w place entry (Some batch) h = (h, tt)

moved_has : (site : Setup) (w : World) (place : ℕ) (entry : Entry) (rule : Option Rule) → Every HasEvent (moved_by site w place entry rule)
unfolding moved_by
moved_has site w place entry (Some rule) = tt
moved_has site w place entry None =
    (elim (has_event entry.deed) as (λ b. has_event entry.deed ≡ b → Every HasEvent (if b then listed (option_map (move_of site w place entry) (batch_for w entry.deed)) else [])) [
      | true ↦ λ h. listed_has site w place entry (batch_for w entry.deed) h
      | false ↦ λ h. tt
    ]) refl

each_from : (site : Setup) (w : World) (place : ℕ) (entries : List Entry) → Every HasEvent (moves_from site w place entries)
unfolding moves_from
each_from site w place [] = tt
each_from site w place (entry ∷ entries) =
    Every-append HasEvent (moved_by site w place entry (broken site w entry.station entry.deed)) (moves_from site (after site w entry) (suc place) entries) (moved_has site w place entry (broken site w entry.station entry.deed)) (each_from site (after site w entry) (suc place) entries)

pub each_has : (site : Setup) (history : List Entry) → Every HasEvent (moves site history)
unfolding moves
each_has site history = each_from site nothing_yet 0 history

pub batch_has : (site : Setup) (history : List Entry) (name : Text) → Every HasEvent (moves_of site history name)
unfolding moves_of
batch_has site history name = Every-filter HasEvent (λ (moved : Move). same moved.row.batch name) (moves site history) (each_has site history)

some_kind : (o : Option Kind) → is_some o ≡ true → (kind : Kind) × (o ≡ Some kind)
some_kind None e = absurd (true≢false (sym e))
some_kind (Some kind) e = (kind, refl)

has_one : (site : Setup) (moved : Move) → HasEvent moved → (event : Event) × (event_of site moved ≡ Some event)
unfolding event_of
has_one site moved h =
    let kind = some_kind (kind_of moved.kept.deed) (has_kind moved.kept.deed ∙ h) in
    (event_in site moved kind.0, ap (option_map (event_in site moved)) kind.1)

one_more : (site : Setup) (moved : Move) (more : List Move) (event : Event) → event_of site moved ≡ Some event → filter_map (event_of site) (moved ∷ more) ≡ event ∷ filter_map (event_of site) more
one_more site moved more event e = rw e refl

takes : (site : Setup) (count : ℕ) (some : List Move) → Every HasEvent some → filter_map (event_of site) (take count some) ≡ take count (filter_map (event_of site) some)
takes site zero some a = refl
takes site (suc count) [] a = refl
takes site (suc count) (moved ∷ more) a =
    let event = has_one site moved a.0 in
    one_more site moved (take count more) event.0 event.1 ∙ ap (λ (es : List Event). event.0 ∷ es) (takes site count more a.1) ∙ sym (ap (take (suc count)) (one_more site moved more event.0 event.1))

pub part : (site : Setup) (some : List Move) (first count : ℕ) → Every HasEvent some → filter_map (event_of site) (take count (drop first some)) ≡ take count (drop first (filter_map (event_of site) some))
part site some zero count a = takes site count some a
part site [] (suc first) count a = takes site count [] tt
part site (moved ∷ more) (suc first) count a =
    let event = has_one site moved a.0 in
    part site more first count a.1 ∙ sym (ap (λ (es : List Event). take count (drop (suc first) es)) (one_more site moved more event.0 event.1))

pub counted : (site : Setup) (some : List Move) → Every HasEvent some → length (filter_map (event_of site) some) ≡ length some
counted site [] a = refl
counted site (moved ∷ more) a =
    let event = has_one site moved a.0 in
    ap length (one_more site moved more event.0 event.1) ∙ ap suc (counted site more a.1)
