-- What events mean (EPCIS 2.0): names that come and go, and children that are put into parents and taken out.
use Rattle.std.specs.Prelude.{ℕ, Bool, true, false, not, ◌&&◌, List, [], ◌∷◌, ◌++◌, map, filter, Option, Some, option_map}
use Rattle.epc_urn.specs.declared.epc.Epc.{Epc}
use Rattle.deed_words.specs.Names.{Text, same, is_among}
use Rattle.epcis_events.specs.declared.event.Action.{Action}
use Rattle.epcis_events.specs.declared.event.Action.TheVariants.{Add, Delete}
use Rattle.epcis_events.specs.declared.event.Event.{Event}

pub record Replayed : Type 0 where
  pub live : List Epc
  pub pairs : List (Epc × Text)

abbrev pub nothing_live : Replayed
nothing_live = record { live = []; pairs = [] }

-- a child with the parent into which it is put
abbrev pub into : Text → Epc → Epc × Text
into parent name = (name, parent)

-- what an event of these parts does: an aggregation that deletes takes all out where it lists none
unfoldable pub applied : Replayed → Bool → Action → List Epc → Option Text → Replayed
applied r false Add names parent = record r { live = r.live ++ names }
applied r false Delete names parent = record r { live = filter (λ name. not (is_among names name)) r.live }
applied r true Add names (Some parent) = record r { pairs = r.pairs ++ map (into parent) names }
applied r true Delete [] (Some parent) = record r { pairs = filter (λ pair. not (same pair.1 parent)) r.pairs }
applied r true Delete names (Some parent) = record r { pairs = filter (λ pair. not (same pair.1 parent && is_among names pair.0)) r.pairs }
applied r aggregation action names parent = r

abbrev pub names_of : List (Epc × ℕ) → List Epc
names_of named = map (λ (one : Epc × ℕ). one.0) named

abbrev pub names_in : Event → List Epc
names_in event = names_of event.epcs

abbrev pub parent_in : Event → Option Text
parent_in event = option_map (λ (named : Text × ℕ). named.0) event.parent

unfoldable pub fed : Replayed → Event → Replayed
fed r event = applied r event.aggregation event.action (names_in event) (parent_in event)

unfoldable pub replay_from : Replayed → List Event → Replayed
replay_from r [] = r
replay_from r (event ∷ events) = replay_from (fed r event) events

unfoldable pub replay : List Event → Replayed
replay events = replay_from nothing_live events
