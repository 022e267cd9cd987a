-- The law of the whole history, and that of one batch.
use Rattle.std.proofs.Common.{◌≡◌, true, ◌&&◌, not, List, map, ◌∙◌, ap, refl, subst, Option, None, Some}
use Rattle.std.specs.Prelude.{filter, filter_map, option_map}
use Rattle.std.specs.List.{IsDistinct}
use Rattle.epc_urn.specs.declared.epc.Epc.{Epc}
use Rattle.epc_urn.specs.declared.epc.Epc.TheVariants.{Item, Unit as Box}
use Rattle.deed_words.specs.declared.entry.Entry.{Entry}
use Rattle.deed_words.specs.declared.entry.Move.{Move}
use Rattle.deed_words.specs.declared.world.Row.{Row}
use Rattle.deed_words.specs.declared.world.Container.{Container}
use Rattle.deed_words.specs.declared.world.Pair.{Pair}
use Rattle.deed_words.specs.Setups.{Setup, IsProper}
use Rattle.deed_words.specs.Names.{Text, same, same_name, is_among}
use Rattle.deed_words.specs.Chain.{holds_of}
use Rattle.deed_words.specs.World.{row_of, unit_of, home}
use Rattle.deed_words.specs.Kept.{pairs_in}
use Rattle.deed_words.specs.Moves.{is_void}
use Rattle.deed_words.specs.Tests.{is_of}
use Rattle.deed_words.specs.History.{world_of, IsLawful}
use Rattle.deed_words.proofs.Sameness.{same_equiv}
use Rattle.deed_words.proofs.Items.{Every-always}
use Rattle.deed_words.specs.Happenings.{moves, moves_of}
use Rattle.epcis_events.specs.Events.{event_of, events, events_of}
use Rattle.epcis_events.specs.Replaying.{nothing_live, replay_from, replay}
use Rattle.epcis_events.specs.There.{is_live, is_there, is_there_of, pair_up}
use Rattle.epcis_events.proofs.Bools.{filter_all}
use Rattle.epcis_events.proofs.Parts.{there_in, paired_in, IsReplayed}
use Rattle.epcis_events.proofs.Law.{replayed}

all_events : (site : Setup) (history : List Entry) → filter_map (event_of site) (filter (λ (m : Move). true) (moves site history)) ≡ events site history
unfolding events
all_events site history = ap (filter_map (event_of site)) (filter_all (λ (m : Move). true) (moves site history) (Every-always (λ (m : Move). true ≡ true) (λ m. refl) (moves site history)))

pub whole : (site : Setup) (history : List Entry) → IsProper site → IsLawful site history → IsReplayed (λ batch. true) (world_of site history) (replay (events site history))
unfolding replay
whole site history proper lawful = subst (λ es. IsReplayed (λ batch. true) (world_of site history) (replay_from nothing_live es)) (all_events site history) (replayed (λ batch. true) site history proper lawful)

pub packing : (site : Setup) (history : List Entry) → IsProper site → IsLawful site history → (replay (events site history)).pairs ≡ map pair_up (world_of site history).pairs
unfolding paired_in
packing site history proper lawful =
    (whole site history proper lawful).pairs ∙ ap (map pair_up) (filter_all (λ (p : Pair). true) (world_of site history).pairs (Every-always (λ (p : Pair). true ≡ true) (λ p. refl) (world_of site history).pairs))

pub live : (site : Setup) (history : List Entry) (name : Epc) → IsProper site → IsLawful site history → is_among (replay (events site history)).live name ≡ is_there (world_of site history) name
unfolding there_in is_there
live site history (Item gtin serial) proper lawful = (whole site history proper lawful).live (Item gtin serial)
live site history (Box sscc) proper lawful = (whole site history proper lawful).live (Box sscc)

pub once : (site : Setup) (history : List Entry) → IsProper site → IsLawful site history → IsDistinct same_name (replay (events site history)).live
once site history proper lawful = (whole site history proper lawful).once

pub part : (site : Setup) (history : List Entry) (name : Text) → IsProper site → IsLawful site history → IsReplayed (λ batch. same batch name) (world_of site history) (replay (events_of site history name))
unfolding replay events_of moves_of
part site history name proper lawful = replayed (λ batch. same batch name) site history proper lawful

pub batch_packing : (site : Setup) (history : List Entry) (name : Text) → IsProper site → IsLawful site history → (replay (events_of site history name)).pairs ≡ map pair_up (pairs_in (world_of site history) name)
unfolding paired_in pairs_in
batch_packing site history name proper lawful = (part site history name proper lawful).pairs

-- of its batch, and there
of_row : (batch : Text) (o : Option Row) → holds_of (λ (row : Row). same row.batch batch && is_live row.state) o ≡ (holds_of (same batch) (option_map (λ (row : Row). row.batch) o) && holds_of (λ (row : Row). is_live row.state) o)
unfolding holds_of
of_row batch None = refl
of_row batch (Some row) = ap (λ b. b && is_live row.state) (same_equiv.symm row.batch batch)

of_unit : (batch : Text) (o : Option Container) → holds_of (λ (unit : Container). same unit.batch batch && not (is_void unit.mark)) o ≡ (holds_of (same batch) (option_map (λ (unit : Container). unit.batch) o) && holds_of (λ (unit : Container). not (is_void unit.mark)) o)
unfolding holds_of
of_unit batch None = refl
of_unit batch (Some unit) = ap (λ b. b && not (is_void unit.mark)) (same_equiv.symm unit.batch batch)

pub batch_live : (site : Setup) (history : List Entry) (batch : Text) (name : Epc) → IsProper site → IsLawful site history → is_among (replay (events_of site history batch)).live name ≡ is_there_of (world_of site history) batch name
unfolding there_in is_there is_there_of is_of home
batch_live site history batch (Item gtin serial) proper lawful = (part site history batch proper lawful).live (Item gtin serial) ∙ of_row batch (row_of (world_of site history) gtin serial)
batch_live site history batch (Box sscc) proper lawful = (part site history batch proper lawful).live (Box sscc) ∙ of_unit batch (unit_of (world_of site history) sscc)

pub batch_once : (site : Setup) (history : List Entry) (name : Text) → IsProper site → IsLawful site history → IsDistinct same_name (replay (events_of site history name)).live
batch_once site history name proper lawful = (part site history name proper lawful).once
