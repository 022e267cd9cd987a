-- What the event of an accepted deed does to a replay.
use Rattle.std.proofs.Common.{◌≡◌, ℕ, true, false, cond, List, [], ◌∷◌, map, sym, ◌∙◌, ap, refl, Option, None, Some}
use Rattle.std.specs.Prelude.{if◌then◌else◌, filter, filter_map, option_map, is_some, length}
use Rattle.epc_urn.specs.declared.epc.Epc.{Epc}
use Rattle.deed_words.specs.declared.entry.Entry.{Entry}
use Rattle.deed_words.specs.declared.entry.Move.{Move}
use Rattle.deed_words.specs.declared.deed.Deed.{Deed}
use Rattle.deed_words.specs.declared.deed.Deed.TheVariants.{Commission}
use Rattle.deed_words.specs.declared.world.Batch.{Batch}
use Rattle.deed_words.specs.Setups.{Setup}
use Rattle.deed_words.specs.Names.{Text, same}
use Rattle.deed_words.specs.World.{World, batch_of}
use Rattle.deed_words.specs.Deeds.{batch_named, batch_for}
use Rattle.deed_words.proofs.Sameness.{same-true}
use Rattle.deed_words.proofs.Items.{find_passes}
use Rattle.deed_words.specs.Happenings.{has_event, things_of, holder_of, move_of, listed, moved_by}
use Rattle.epcis_events.specs.declared.event.Kind.{Kind}
use Rattle.epcis_events.specs.Events.{kind_of, written_in, event_in, event_of}
use Rattle.epcis_events.specs.Replaying.{Replayed, applied, fed, replay_from}
use Rattle.epcis_events.proofs.Parts.{Chosen}

unfoldable pub by_kind : Chosen → Setup → World → Replayed → Deed → Option Kind → Replayed
by_kind mine site w r deed None = r
by_kind mine site w r deed (Some kind) = if mine (batch_named w deed) then applied r kind.aggregation kind.action (things_of site w deed) (holder_of deed) else r

unfoldable pub happens : Chosen → Setup → World → Replayed → Deed → Replayed
happens mine site w r deed = by_kind mine site w r deed (kind_of deed)

-- a deed has a kind of event exactly where it has an event
pub has_kind : (deed : Deed) → is_some (kind_of deed) ≡ has_event deed
unfolding kind_of has_event
has_kind (Commission name codes) = refl
has_kind deed = refl

names_back : (site : Setup) (names : List Epc) → map (λ (named : Epc × ℕ). named.0) (map (written_in site) names) ≡ names
unfolding written_in
names_back site [] = refl
names_back site (name ∷ names) = ap (λ (more : List Epc). name ∷ more) (names_back site names)

parent_back : (size : ℕ) (parent : Option Text) → option_map (λ (named : Text × ℕ). named.0) (option_map (λ (sscc : Text). (sscc, size)) parent) ≡ parent
parent_back size None = refl
parent_back size (Some sscc) = refl

-- an event does what its move did
pub fed_event : (site : Setup) (r : Replayed) (moved : Move) (kind : Kind) → fed r (event_in site moved kind) ≡ applied r kind.aggregation kind.action moved.epcs moved.parent
unfolding fed event_in
fed_event site r moved kind =
    ap (λ (names : List Epc). applied r kind.aggregation kind.action names (option_map (λ (named : Text × ℕ). named.0) (option_map (λ (sscc : Text). (sscc, length site.prefix)) moved.parent))) (names_back site moved.epcs)
    ∙ ap (λ (parent : Option Text). applied r kind.aggregation kind.action moved.epcs parent) (parent_back (length site.prefix) moved.parent)

one_event : (site : Setup) (moved : Move) (kind : Kind) → kind_of moved.kept.deed ≡ Some kind → filter_map (event_of site) (moved ∷ []) ≡ event_in site moved kind ∷ []
unfolding event_of
one_event site moved kind e = rw e refl

one_told : (mine : Chosen) (site : Setup) (r : Replayed) (moved : Move) (kind : Kind) → kind_of moved.kept.deed ≡ Some kind
    → replay_from r (filter_map (event_of site) (filter (λ (m : Move). mine m.row.batch) (moved ∷ []))) ≡ (if mine moved.row.batch then applied r kind.aggregation kind.action moved.epcs moved.parent else r)
unfolding replay_from
one_told mine site r moved kind e =
    elim (mine moved.row.batch) as (λ b. replay_from r (filter_map (event_of site) (cond b (moved ∷ []) [])) ≡ (if b then applied r kind.aggregation kind.action moved.epcs moved.parent else r)) [
      | true ↦ ap (replay_from r) (one_event site moved kind e) ∙ fed_event site r moved kind
      | false ↦ refl
    ]

moved_is : (site : Setup) (w : World) (place : ℕ) (entry : Entry) (batch : Batch) → has_event entry.deed ≡ true → batch_for w entry.deed ≡ Some batch → moved_by site w place entry None ≡ move_of site w place entry batch ∷ []
unfolding moved_by listed
moved_is site w place entry batch has at =
    ap (λ b. if b then listed (option_map (move_of site w place entry) (batch_for w entry.deed)) else []) has ∙ ap (λ (o : Option Batch). listed (option_map (move_of site w place entry) o)) at

moved_not : (site : Setup) (w : World) (place : ℕ) (entry : Entry) → has_event entry.deed ≡ false → moved_by site w place entry None ≡ []
unfolding moved_by
moved_not site w place entry has = ap (λ b. if b then listed (option_map (move_of site w place entry) (batch_for w entry.deed)) else []) has

-- the batch of an accepted deed with an event stands
abbrev pub StandsFor : World → Deed → Type 0
StandsFor w deed = has_event deed ≡ true → (batch : Batch) × (batch_for w deed ≡ Some batch)

told_by : (mine : Chosen) (site : Setup) (w : World) (place : ℕ) (entry : Entry) (r : Replayed) (kind : Option Kind) → kind_of entry.deed ≡ kind → StandsFor w entry.deed
    → replay_from r (filter_map (event_of site) (filter (λ (m : Move). mine m.row.batch) (moved_by site w place entry None))) ≡ by_kind mine site w r entry.deed kind
unfolding by_kind move_of replay_from batch_for batch_of
told_by mine site w place entry r None e stands =
    let has : has_event entry.deed ≡ false = sym (has_kind entry.deed) ∙ ap is_some e in
    ap (λ (ms : List Move). replay_from r (filter_map (event_of site) (filter (λ (m : Move). mine m.row.batch) ms))) (moved_not site w place entry has)
told_by mine site w place entry r (Some kind) e stands =
    let has : has_event entry.deed ≡ true = sym (has_kind entry.deed) ∙ ap is_some e in
    let batch = stands has in
    let name : batch.0.order.batch ≡ batch_named w entry.deed = same-true batch.0.order.batch (batch_named w entry.deed) (find_passes (λ (b : Batch). same b.order.batch (batch_named w entry.deed)) w.batches batch.0 batch.1) in
    ap (λ (ms : List Move). replay_from r (filter_map (event_of site) (filter (λ (m : Move). mine m.row.batch) ms))) (moved_is site w place entry batch.0 has batch.1)
    ∙ one_told mine site r (move_of site w place entry batch.0) kind e
    ∙ ap (λ (n : Text). if mine n then applied r kind.aggregation kind.action (things_of site w entry.deed) (holder_of entry.deed) else r) name

pub told : (mine : Chosen) (site : Setup) (w : World) (place : ℕ) (entry : Entry) (r : Replayed) → StandsFor w entry.deed
    → replay_from r (filter_map (event_of site) (filter (λ (m : Move). mine m.row.batch) (moved_by site w place entry None))) ≡ happens mine site w r entry.deed
unfolding happens
told mine site w place entry r stands = told_by mine site w place entry r (kind_of entry.deed) refl stands
