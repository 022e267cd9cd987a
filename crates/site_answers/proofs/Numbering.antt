-- Events by the numbers of their moves.
use Rattle.std.specs.Prelude.{IfOk}
use Rattle.std.proofs.Common.{Result, Ok, Err, ◌≡◌, ◌<◌, ◌+◌, ◌-◌, ℕ, zero, suc, true, List, [], ◌∷◌, ◌++◌, length, take, drop, get_or, All, Option, Some, refl, sym, ap, subst, ◌∙◌, arith}
use Rattle.std.specs.List.{filter_map}
use Rattle.std.specs.List.{position, AllByRecursion as Every}
use Rattle.std.proofs.lemmas.Grind.{take_at_read}
use Rattle.std.proofs.lemmas.List.{drop-take}
use Rattle.std.proofs.lemmas.List.Elements.{All-from_recursion, filter_map-append, recursion_from_All}
use Rattle.deed_words.specs.Happenings.{has_event, moves_of}
use Rattle.deed_words.specs.History.{IsLawful, last_stamp, world_of}
use Rattle.deed_words.specs.Names.{Text}
use Rattle.deed_words.specs.Proper.{IsProperEntry}
use Rattle.deed_words.specs.Setups.{Setup, IsProper}
use Rattle.deed_words.specs.declared.entry.Entry.{Entry}
use Rattle.deed_words.specs.declared.entry.Move.{Move}
use Rattle.batch_book.specs.Batches.{is_called}
use Rattle.batch_book.specs.Content.{name_at}
use Rattle.epcis_events.specs.Documents.{IsInTime, IsProperEvent, document_text}
use Rattle.epcis_events.specs.Events.{event_of, events_of}
use Rattle.epcis_events.specs.declared.event.Event.{Event}
use Rattle.site_core.specs.Seen.{moves_seen, numbered}
use Rattle.site_answers.specs.Batches.{events_numbered, part_of_events}
use Rattle.site_answers.proofs.Named.{name_is}

-- ---- lists

-- what a list without its last and without its first items has
part_is : {A : Type 0} (from count : ℕ) (xs : List A) → drop (from - 1) (take (from + count - 1) xs) ≡ take ((from + count - 1) - (from - 1)) (drop (from - 1) xs)
part_is from count xs =
    let size : from + count - 1 ≡ (from - 1) + ((from + count - 1) - (from - 1)) = omega arith in
    ap (λ (k : ℕ). drop (from - 1) (take k xs)) size ∙ drop-take (from - 1) ((from + count - 1) - (from - 1)) xs

every_taken : {A : Type 0} (P : A → Type 0) (n : ℕ) (xs : List A) → Every P xs → Every P (take n xs)
every_taken P zero xs all = tt
every_taken P (suc n) [] all = tt
every_taken P (suc n) (x ∷ xs) all = (all.0, every_taken P n xs all.1)

every_left : {A : Type 0} (P : A → Type 0) (n : ℕ) (xs : List A) → Every P xs → Every P (drop n xs)
every_left P zero xs all = all
every_left P (suc n) [] all = tt
every_left P (suc n) (x ∷ xs) all = every_left P n xs all.1

-- one item more, which gives something
pub one_given : {A B : Type 0} (f : A → Option B) (xs : List A) (at : ℕ) (x : A) (y : B) (so : List B) → at < length xs → x ≡ get_or xs at x → f x ≡ Some y → so ≡ filter_map f (take at xs) → so ++ y ∷ [] ≡ filter_map f (take (at + 1) xs)
one_given {A} {B} f xs at x y so few here gives is =
    let last : filter_map f (x ∷ []) ≡ y ∷ [] = rw gives refl in
    sym (
    ap (filter_map f) ((take_at_read xs at x few).1 ∙ ap (λ (z : A). take at xs ++ z ∷ []) (sym here))
    ∙ filter_map-append f (take at xs) (x ∷ []) ∙ ap (λ (ys : List B). filter_map f (take at xs) ++ ys) last ∙ ap (λ (ys : List B). ys ++ y ∷ []) (sym is)
    )

-- ---- moves and events

abbrev pub HasEvent : Move → Type 0
HasEvent moved = has_event moved.kept.deed ≡ true

-- each move of a batch has an event, and some of them have theirs
pub record Laws : Type 0 where
  pub batch : (site : Setup) (history : List Entry) (name : Text) → Every HasEvent (moves_of site history name)
  pub part : (site : Setup) (some : List Move) (first count : ℕ) → Every HasEvent some → filter_map (event_of site) (take count (drop first some)) ≡ take count (drop first (filter_map (event_of site) some))

seen_has : Laws → (site : Setup) (history : List Entry) (at : ℕ) → Every HasEvent (moves_seen site history (Some at))
unfolding moves_seen
seen_has laws site history at = laws.batch site history (name_at (world_of site history).batches at)

-- the moves that were read have events
pub have_events : Laws → (site : Setup) (history : List Entry) (at from count : ℕ) (read : List Move) → read ≡ numbered from count (moves_seen site history (Some at)) → All HasEvent read
have_events laws site history at from count read is =
    All-from_recursion HasEvent read (
    subst (Every HasEvent) (sym is) (every_left HasEvent (from - 1) (take (from + count - 1) (moves_seen site history (Some at))) (every_taken HasEvent (from + count - 1) (moves_seen site history (Some at)) (seen_has laws site history at)))
    )

-- .. which are the events with these numbers
pub events_read : Laws → (site : Setup) (history : List Entry) (at from count : ℕ) (read : List Move) → read ≡ numbered from count (moves_seen site history (Some at))
    → filter_map (event_of site) read ≡ events_numbered from count (filter_map (event_of site) (moves_seen site history (Some at)))
events_read laws site history at from count read is =
    let all = moves_seen site history (Some at) in
    ap (filter_map (event_of site)) (is ∙ part_is from count all)
    ∙ laws.part site all (from - 1) ((from + count - 1) - (from - 1)) (seen_has laws site history at)
    ∙ sym (part_is from count (filter_map (event_of site) all))

abbrev pub AreProper : Type 0
AreProper = (site : Setup) (history : List Entry) (name : Text) → IsProper site → IsLawful site history → All IsProperEntry history → All IsProperEvent (events_of site history name)

pub proper_read : AreProper → (site : Setup) (history : List Entry) (at from count : ℕ) (events : List Event) → IsProper site → IsLawful site history → All IsProperEntry history
    → events ≡ events_numbered from count (filter_map (event_of site) (moves_seen site history (Some at))) → All IsProperEvent events
unfolding moves_seen events_of
proper_read are site history at from count events proper lawful entries is =
    let name = name_at (world_of site history).batches at in
    let own = events_of site history name in
    let every : Every IsProperEvent own = recursion_from_All IsProperEvent own (are site history name proper lawful entries) in
    All-from_recursion IsProperEvent events (subst (Every IsProperEvent) (sym is) (every_left IsProperEvent (from - 1) (take (from + count - 1) own) (every_taken IsProperEvent (from + count - 1) own every)))

-- the stamp of the last entry is in time
pub last_in_time : (history : List Entry) → Every IsProperEntry history → IsInTime (last_stamp history)
unfolding last_stamp
last_in_time [] a = omega arith
last_in_time (entry ∷ []) a = a.0.stamp
last_in_time (entry ∷ more ∷ entries) a = last_in_time (more ∷ entries) a.1

-- their document is that of the batch of the name
pub document_is : (site : Setup) (history : List Entry) (name : Text) (at from count : ℕ) (events : List Event) (text : Text) → position (is_called name) (world_of site history).batches ≡ Some at
    → events ≡ events_numbered from count (filter_map (event_of site) (moves_seen site history (Some at))) → text ≡ document_text events (last_stamp history) → text ≡ part_of_events site history name from count
unfolding moves_seen part_of_events events_of
document_is site history name at from count events text found is wrote =
    wrote ∙ ap (λ (es : List Event). document_text es (last_stamp history)) (is ∙ ap (λ (n : Text). events_numbered from count (filter_map (event_of site) (moves_of site history n))) (name_is (world_of site history).batches name at found))

-- what follows for each value
pub in_turn : {T E : Type 0} (result : Result T E) (P Q : T → Type 0) → ((x : T) → P x → Q x) → IfOk result P → IfOk result Q
in_turn (Ok x) P Q next is = next x is
in_turn (Err e) P Q next is = tt
