-- What the simulation tells of its history.
use Rattle.std.specs.Prelude.{ℕ, Bool, true, false, List, [], ◌∷◌, ◌++◌, length, filter, codes, decimal}
use Rattle.deed_words.specs.declared.entry.Entry.{Entry}
use Rattle.deed_words.specs.declared.words.Phase.{Phase}
use Rattle.deed_words.specs.declared.words.Phase.TheVariants.{Planned, Started, Closed}
use Rattle.deed_words.specs.History.{world_of}
use Rattle.epcis_events.specs.Events.{events}
use Rattle.epcis_events.specs.Replaying.{replay}
use Rattle.site_sim.specs.declared.figures.Figures.{Figures}
use Rattle.site_sim.specs.Example as example
use Rattle.site_sim.specs.Knowing.{accepted_in}

abbrev pub is_closed : Phase → Bool
is_closed Planned = false
is_closed Started = false
is_closed Closed = true

-- where so many requests were sent: entries, the accepted ones, serials and units; events, what is live by their replay and
-- what stands in what by it; and closed batches
unfoldable pub figures_of : ℕ → List Entry → Figures
figures_of sent history = record {
  sent = sent;
  kept = length history;
  accepted = accepted_in history;
  serials = length (world_of example.site history).rows;
  units = length (world_of example.site history).units;
  events = length (events example.site history);
  live = length (replay (events example.site history)).live;
  pairs = length (replay (events example.site history)).pairs;
  closed = length (filter (λ batch. is_closed batch.phase) (world_of example.site history).batches);
}

-- the line of these figures
unfoldable pub line_of : ℕ → ℕ → Figures → List ℕ
line_of seed count f =
    codes "sim " ++ decimal seed ++ codes " " ++ decimal count
    ++ codes ": sent " ++ decimal f.sent ++ codes ", kept " ++ decimal f.kept ++ codes ", accepted " ++ decimal f.accepted
    ++ codes ", serials " ++ decimal f.serials ++ codes ", units " ++ decimal f.units ++ codes ", events " ++ decimal f.events
    ++ codes ", live " ++ decimal f.live ++ codes ", pairs " ++ decimal f.pairs ++ codes ", closed " ++ decimal f.closed ++ 10 ∷ []
