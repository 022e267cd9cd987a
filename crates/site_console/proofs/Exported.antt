-- Events by their numbers, and a document in parts.
use Rattle.std.proofs.Common.{◌≡◌, ◌<◌, ◌≤◌, ◌+◌, ◌-◌, ℕ, zero, suc, Bool, true, false, List, [], ◌∷◌, ◌++◌, length, take, drop, get_or, All, Option, Some, None, refl, sym, ap, subst, ◌∙◌, append_assoc, arith}
use Rattle.std.specs.Prelude.{filter_map, nat_lt}
use Rattle.std.specs.List.{position, AllByRecursion as Every}
use Rattle.std.proofs.lemmas.Bool.{lt-ltb}
use Rattle.std.proofs.lemmas.Bool.Decides.{nat_tests}
use Rattle.std.proofs.lemmas.List.{drop-take}
use Rattle.std.proofs.lemmas.List.Elements.{recursion_from_All}
use Rattle.std.proofs.lemmas.List.Sums.{length-filter, count_by-le-length}
use Rattle.serde_json.specs.Written.{comma_if, compact_text}
use Rattle.deed_words.specs.Happenings.{has_event, moves, moves_of}
use Rattle.deed_words.specs.History.{IsLawful, last_stamp, world_of}
use Rattle.deed_words.specs.Names.{Text, same}
use Rattle.deed_words.specs.Proper.{IsProperEntry}
use Rattle.deed_words.specs.Setups.{Setup, IsProper}
use Rattle.deed_words.specs.World.{batch_of}
use Rattle.deed_words.specs.declared.entry.Entry.{Entry}
use Rattle.deed_words.specs.declared.entry.Move.{Move}
use Rattle.deed_words.specs.declared.world.Batch.{Batch}
use Rattle.batch_book.specs.Batches.{is_called, name_in}
use Rattle.batch_book.specs.Content.{name_at}
use Rattle.move_list.proofs.History.{few}
use Rattle.epcis_events.specs.Documents.{document_back, document_front, document_text, event_data, events_text, IsInTime, IsProperEvent}
use Rattle.epcis_events.specs.Events.{event_of, events, events_of}
use Rattle.epcis_events.specs.Replaying.{Replayed, fed, replay_from}
use Rattle.epcis_events.specs.declared.event.Event.{Event}
use Rattle.site_core.specs.Seen.{moves_seen, numbered}
use Rattle.site_stores.proofs.Finding.{part_there, within}
use Rattle.site_deeds.proofs.Shared.{got, name_called}
use Rattle.site_console.specs.Looks.{events_seen, export_text, exported}
use Rattle.site_console.specs.Newline.{newline}
use Rattle.site_console.proofs.Ranges.{one_more, none_between, split_there}

-- ---- moves

abbrev HasEvent : Move → Type 0
HasEvent moved = has_event moved.kept.deed ≡ true

-- each move of a history has an event, and those of a batch
pub record Laws : Type 0 where
  pub each : (site : Setup) (history : List Entry) → Every HasEvent (moves site history)
  pub batch : (site : Setup) (history : List Entry) (name : Text) → Every HasEvent (moves_of site history name)
  pub part : (site : Setup) (some : List Move) (first count : ℕ) → Every HasEvent some → filter_map (event_of site) (take count (drop first some)) ≡ take count (drop first (filter_map (event_of site) some))
  pub count : (site : Setup) (some : List Move) → Every HasEvent some → length (filter_map (event_of site) some) ≡ length some

seen_has : Laws → (site : Setup) (history : List Entry) (batch : Option ℕ) → Every HasEvent (moves_seen site history batch)
unfolding moves_seen
seen_has laws site history None = laws.each site history
seen_has laws site history (Some at) = laws.batch site history (name_at (world_of site history).batches at)

moves_few : (site : Setup) (history : List Entry) (batch : Option ℕ) → length (moves_seen site history batch) ≤ length history
unfolding moves_seen moves_of
moves_few site history None = few site history
moves_few site history (Some at) =
    let own = λ (moved : Move). same moved.row.batch (name_at (world_of site history).batches at) in
    let one = few site history in
    let two = count_by-le-length own (moves site history) in
    let three = length-filter own (moves site history) in
    omega (arith, one, two, three)

-- there are no more events than entries
pub events_few : Laws → (site : Setup) (history : List Entry) (batch : Option ℕ) → length (events_seen site history batch) ≤ length history
unfolding events_seen
events_few laws site history batch =
    let many = laws.count site (moves_seen site history batch) (seen_has laws site history batch) in
    let low = moves_few site history batch in
    omega (arith, many, low)

one_numbered : (number : ℕ) (all : List Move) → 1 ≤ number → numbered number 1 all ≡ take 1 (drop (number - 1) all)
one_numbered number all l =
    let size : (number + 1) - 1 ≡ (number - 1) + 1 = omega (arith, l) in
    ap (λ (k : ℕ). drop (number - 1) (take k all)) size ∙ drop-take (number - 1) 1 all

-- what is read of the moves, for the one with a number
pub read_one : (site : Setup) (history : List Entry) (batch : Option ℕ) (number : ℕ) (read : List Move) → 1 ≤ number → read ≡ numbered number 1 (moves_seen site history batch) → read ≡ take 1 (drop (number - 1) (moves_seen site history batch))
read_one site history batch number read l is = is ∙ one_numbered number (moves_seen site history batch) l

pub read_events : Laws → (site : Setup) (history : List Entry) (batch : Option ℕ) (number : ℕ) (read : List Move) → 1 ≤ number → read ≡ numbered number 1 (moves_seen site history batch) → filter_map (event_of site) read ≡ take 1 (drop (number - 1) (events_seen site history batch))
unfolding events_seen
read_events laws site history batch number read l is =
    ap (filter_map (event_of site)) (read_one site history batch number read l is) ∙ laws.part site (moves_seen site history batch) (number - 1) 1 (seen_has laws site history batch)

Every-take : {A : Type 0} (P : A → Type 0) (k : ℕ) (xs : List A) → Every P xs → Every P (take k xs)
Every-take P zero xs a = tt
Every-take P (suc k) [] a = tt
Every-take P (suc k) (x ∷ xs) a = (a.0, Every-take P k xs a.1)

Every-drop : {A : Type 0} (P : A → Type 0) (k : ℕ) (xs : List A) → Every P xs → Every P (drop k xs)
Every-drop P zero xs a = a
Every-drop P (suc k) [] a = tt
Every-drop P (suc k) (x ∷ xs) a = Every-drop P k xs a.1

single : {A : Type 0} (read all : List A) (x : A) → read ≡ take 1 all → 0 < length read → x ≡ get_or read 0 x → read ≡ x ∷ []
single {A} read [] x e l is = absurd (let none = ap length e in omega (arith, none, l))
single {A} read (y ∷ ys) x e l is = e ∙ ap (λ (z : A). z ∷ []) (sym (is ∙ ap (λ (xs : List A). get_or xs 0 x) e))

-- the one move that is read
pub one_move : (site : Setup) (history : List Entry) (batch : Option ℕ) (number : ℕ) (read : List Move) (moved : Move) → 1 ≤ number → read ≡ numbered number 1 (moves_seen site history batch) → 0 < length read → moved ≡ get_or read 0 moved → read ≡ moved ∷ []
one_move site history batch number read moved l is some at = single read (drop (number - 1) (moves_seen site history batch)) moved (read_one site history batch number read l is) some at

pub move_has : Laws → (site : Setup) (history : List Entry) (batch : Option ℕ) (number : ℕ) (read : List Move) (moved : Move) → 1 ≤ number → read ≡ numbered number 1 (moves_seen site history batch) → 0 < length read → moved ≡ get_or read 0 moved → HasEvent moved
move_has laws site history batch number read moved l is some at =
    let all = moves_seen site history batch in
    let one : take 1 (drop (number - 1) all) ≡ moved ∷ [] = sym (read_one site history batch number read l is) ∙ one_move site history batch number read moved l is some at in
    (subst (Every HasEvent) one (Every-take HasEvent 1 (drop (number - 1) all) (Every-drop HasEvent (number - 1) all (seen_has laws site history batch)))).0

-- ---- events

one_event : (site : Setup) (moved : Move) (event : Event) → event_of site moved ≡ Some event → filter_map (event_of site) (moved ∷ []) ≡ event ∷ []
one_event site moved event e = rw e refl

pub event_there : Laws → (site : Setup) (history : List Entry) (batch : Option ℕ) (number : ℕ) (read : List Move) (moved : Move) (event : Event) → 1 ≤ number → read ≡ numbered number 1 (moves_seen site history batch) → 0 < length read → moved ≡ get_or read 0 moved → event_of site moved ≡ Some event
    → event ∷ [] ≡ take 1 (drop (number - 1) (events_seen site history batch))
event_there laws site history batch number read moved event l is some at made =
    sym (one_event site moved event made) ∙ ap (filter_map (event_of site)) (sym (one_move site history batch number read moved l is some at)) ∙ read_events laws site history batch number read l is

no_length : {A : Type 0} (xs : List A) → length xs ≡ 0 → xs ≡ []
no_length [] e = refl
no_length (x ∷ xs) e = absurd cc

pub event_none : Laws → (site : Setup) (history : List Entry) (batch : Option ℕ) (number : ℕ) (read : List Move) → 1 ≤ number → read ≡ numbered number 1 (moves_seen site history batch) → length read ≡ 0 → [] ≡ take 1 (drop (number - 1) (events_seen site history batch))
event_none laws site history batch number read l is none = ap (filter_map (event_of site)) (sym (no_length read none)) ∙ read_events laws site history batch number read l is

-- events are proper
pub record AreProper : Type 0 where
  pub all : (site : Setup) (history : List Entry) → IsProper site → IsLawful site history → All IsProperEntry history → All IsProperEvent (events site history)
  pub batch : (site : Setup) (history : List Entry) (name : Text) → IsProper site → IsLawful site history → All IsProperEntry history → All IsProperEvent (events_of site history name)

all_proper : AreProper → (site : Setup) (history : List Entry) (batch : Option ℕ) → IsProper site → IsLawful site history → All IsProperEntry history → All IsProperEvent (events_seen site history batch)
unfolding events_seen moves_seen events events_of
all_proper laws site history None proper lawful entries = laws.all site history proper lawful entries
all_proper laws site history (Some at) proper lawful entries = laws.batch site history (name_at (world_of site history).batches at) proper lawful entries

pub event_proper : AreProper → (site : Setup) (history : List Entry) (batch : Option ℕ) (number : ℕ) (event : Event) → IsProper site → IsLawful site history → All IsProperEntry history → event ∷ [] ≡ take 1 (drop (number - 1) (events_seen site history batch)) → IsProperEvent event
event_proper laws site history batch number event proper lawful entries one =
    let all = events_seen site history batch in
    (subst (Every IsProperEvent) (sym one) (Every-take IsProperEvent 1 (drop (number - 1) all) (Every-drop IsProperEvent (number - 1) all (recursion_from_All IsProperEvent all (all_proper laws site history batch proper lawful entries))))).0

-- ---- a batch's events

pub name_is : (batches : List Batch) (name : Text) (at : ℕ) → position (is_called name) batches ≡ Some at → name_at batches at ≡ name
name_is batches name at found =
    let kept = got batches at (within (is_called name) batches at found) in
    part_there name_in batches at kept.0 [] kept.1 ∙ name_called name batches at kept.0 found kept.1

pub seen_batch : (site : Setup) (history : List Entry) (name : Text) (at : ℕ) → position (is_called name) (world_of site history).batches ≡ Some at → events_seen site history (Some at) ≡ events_of site history name
unfolding events_seen moves_seen events_of
seen_batch site history name at found = ap (λ (n : Text). filter_map (event_of site) (moves_of site history n)) (name_is (world_of site history).batches name at found)

pub seen_all : (site : Setup) (history : List Entry) → events_seen site history None ≡ events site history
unfolding events_seen moves_seen events
seen_all site history = refl

-- ---- a document in parts

abbrev pub InParts : Type 0
InParts = (events : List Event) (created : ℕ) → document_text events created ≡ document_front created ++ events_text false events ++ document_back

pub export_parts : InParts → (site : Setup) (history : List Entry) (name : Text) (at from count : ℕ) → position (is_called name) (world_of site history).batches ≡ Some at
    → document_front (last_stamp history) ++ (events_text false (take count (drop (from - 1) (events_seen site history (Some at)))) ++ (document_back ++ newline ∷ [])) ≡ exported site history name from count
unfolding exported
export_parts parts site history name at from count found =
    let front = document_front (last_stamp history) in
    let own = events_of site history name in
    let texts = events_text false (take count (drop (from - 1) own)) in
    ap (λ (es : List Event). front ++ (events_text false (take count (drop (from - 1) es)) ++ (document_back ++ newline ∷ []))) (seen_batch site history name at found)
    ∙ sym (append_assoc front texts (document_back ++ newline ∷ []))
    ∙ sym (append_assoc (front ++ texts) document_back (newline ∷ []))
    ∙ ap (λ (text : Text). text ++ newline ∷ []) (sym (parts (take count (drop (from - 1) own)) (last_stamp history)))

pub export_there : (site : Setup) (history : List Entry) (name : Text) (from count : ℕ) (batch : Batch) → batch_of (world_of site history) name ≡ Some batch → export_text site history name from count ≡ Some (exported site history name from count)
unfolding export_text
export_there site history name from count batch there = rw there refl

pub export_none : (site : Setup) (history : List Entry) (name : Text) (from count : ℕ) → batch_of (world_of site history) name ≡ None → export_text site history name from count ≡ None
unfolding export_text
export_none site history name from count none = rw none refl

-- the stamp of the last entry is in time
pub last_in_time : (history : List Entry) → Every IsProperEntry history → IsInTime (last_stamp history)
unfolding last_stamp
last_in_time [] a = omega arith
last_in_time (entry ∷ []) a = a.0.stamp
last_in_time (entry ∷ more ∷ entries) a = last_in_time (more ∷ entries) a.1

-- ---- texts of events

-- no text stands before the first
pub first_texts : (first : ℕ) (events : List Event) → events_text false events ≡ events_text (nat_lt first first) events
first_texts first events = let same : nat_lt first first ≡ false = grind (arith, nat_tests) in ap (λ (later : Bool). events_text later events) (sym same)

pub next_text : (all : List Event) (event : Event) (first place past : ℕ) → event ∷ [] ≡ take 1 (drop ((place + 1) - 1) all) → place < past → first ≤ place
    → events_text (nat_lt first place) (take (past - place) (drop place all)) ≡ (comma_if (nat_lt first place) ++ compact_text (event_data event)) ++ events_text (nat_lt first (place + 1)) (take (past - (place + 1)) (drop (place + 1) all))
unfolding events_text
next_text all event first place past one there low =
    let later : nat_lt first (place + 1) ≡ true = lt-ltb first (place + 1) (omega (arith, low)) in
    ap (events_text (nat_lt first place)) (one_more all event place past one there)
    ∙ ap (λ (b : Bool). (comma_if (nat_lt first place) ++ compact_text (event_data event)) ++ events_text b (take (past - (place + 1)) (drop (place + 1) all))) (sym later)

pub no_text : (all : List Event) (first place past : ℕ) → drop place all ≡ [] → events_text (nat_lt first place) (take (past - place) (drop place all)) ≡ []
unfolding events_text
no_text all first place past none = ap (events_text (nat_lt first place)) (none_between all place (past - place) none)

-- ---- the replay of events

pub feeds_one : (r : Replayed) (all : List Event) (event : Event) (place : ℕ) → event ∷ [] ≡ take 1 (drop ((place + 1) - 1) all) → replay_from r (drop place all) ≡ replay_from (fed r event) (drop (place + 1) all)
unfolding replay_from
feeds_one r all event place one = ap (replay_from r) (split_there all event place one)

pub feeds_no_more : (r : Replayed) (all : List Event) (place : ℕ) → drop place all ≡ [] → replay_from r (drop place all) ≡ r
unfolding replay_from
feeds_no_more r all place none = ap (replay_from r) none
