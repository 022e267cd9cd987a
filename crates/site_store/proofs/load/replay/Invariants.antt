use Rattle.std.proofs.Common.{◌≡◌, ◌≤◌, ◌-◌, length, take}
use Rattle.gate_journal.specs.Readings.{bytes_of}
use Rattle.site_store.specs.Loads.{IsReplayed}
use Rattle.site_store.proofs.load.replay.Given as goal

abbrev pub invariant-payloads : goal.invariant-payloads
invariant-payloads l = record {
  within : l.at ≤ length l.payloads;
  setup : l.site.setup ≡ l.fn.site.setup;
  replayed : IsReplayed l.fn.site.setup (bytes_of (take l.at l.payloads)) l.site.history;
}

abbrev pub decreases-payloads : goal.decreases-payloads
decreases-payloads l = length l.payloads - l.at
