-- A replay goes on with the events that are left.
use Rattle.std.proofs.Common.{◌≡◌, ℕ, ◌+◌, ◌<◌, ◌≤◌, List, length, get_or, drop, refl}
use Rattle.std.proofs.lemmas.List.{drop_more, drop_all}
use Rattle.epcis_events.specs.declared.event.Event.{Event}
use Rattle.epcis_events.specs.Replaying.{Replayed, fed, replay_from}

pub feeds_on : (r : Replayed) (events : List Event) (i : ℕ) (d : Event) → i < length events → replay_from r (drop i events) ≡ replay_from (fed r (get_or events i d)) (drop (i + 1) events)
unfolding replay_from
feeds_on r events i d h = rw (drop_more events i d h) refl

pub feeds_end : (r : Replayed) (events : List Event) (i : ℕ) → length events ≤ i → replay_from r (drop i events) ≡ r
unfolding replay_from
feeds_end r events i h = rw (drop_all i events h) refl
