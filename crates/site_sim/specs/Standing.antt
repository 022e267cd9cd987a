-- What is true of the simulation's store between two requests.
use Rattle.std.specs.Prelude.{◌≡◌, []}
use Rattle.outside.specs.declared.disk.Disk as disk
use Rattle.outside.specs.declared.devices.Words as words
use Rattle.outside.specs.declared.clock.Clock as clock
use Rattle.deed_words.specs.History.{world_of}
use Rattle.site_store.specs.declared.store.Store.{Store}
use Rattle.site_store.specs.Open.{IsOpen, store_state}
use Rattle.site_sim.specs.declared.known.Known.{Known}
use Rattle.site_sim.specs.Example as example
use Rattle.site_sim.specs.Knowing.{AreNamed, IsSmall, Knows}

-- It is open and of the simulation's site, nothing is pending, and what is kept of its history is right.
pub record Stands {D C W : Type 0} (g : disk.Ghosts D) (k : clock.Ghosts C) (w : words.Ghosts W) (s : Store D C W g) (known : Known) : Type 0 where
  pub is_open : IsOpen g k w s
  pub setup : s.site.setup ≡ example.site
  pub none : (store_state s).pending ≡ []
  pub knows : Knows s.site.history known
  pub named : AreNamed (world_of example.site s.site.history).batches
  pub small : IsSmall known
