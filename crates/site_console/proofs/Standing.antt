-- A store that stands after a step.
use Rattle.std.proofs.Common.{◌≡◌, sym, ap, subst}
use Rattle.outside.specs.declared.disk.Disk as disk
use Rattle.outside.specs.declared.devices.Words as words
use Rattle.outside.specs.declared.clock.Clock as clock
use Rattle.site_store.specs.declared.store.Store.{Store}
use Rattle.site_store.specs.Open.{IsOpen, HasBegun}
use Rattle.site_console.specs.Open.{Stands}

-- what it began with is what the store before it began with
pub stands_on : {D C W : Type 0} (g : disk.Ghosts D) (k : clock.Ghosts C) (w : words.Ghosts W) (s u : Store D C W g) → IsOpen g k w u → u.opened ≡ s.opened → HasBegun g (g.image s.opened.value.disk) u → Stands g k w u
stands_on {D} g k w s u opens same begun =
    record { is_open = opens; begun = subst (λ (x : D). HasBegun g (g.image x) u) (sym (ap (λ v. v.value.disk) same)) begun }
