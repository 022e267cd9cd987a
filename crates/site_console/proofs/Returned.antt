-- Devices that a store gives back.
use Rattle.std.proofs.Common.{◌≡◌, List, ℕ, Option, refl, subst}
use Rattle.outside.specs.declared.disk.Disk as disk
use Rattle.outside.specs.declared.devices.Words as words
use Rattle.outside.specs.declared.clock.Clock as clock
use Rattle.deed_words.specs.Setups.{Setup}
use Rattle.site_store.specs.declared.store.Devices.{Devices}
use Rattle.site_console.specs.declared.ending.Ending.{Ending}
use Rattle.site_console.specs.Inits.{Makes}
use Rattle.site_console.specs.Sessions.{RunSession}
use Rattle.site_console.specs.Told.{Stream}

abbrev pub devices_of : {D C W : Type 0} → D → C → W → Devices D C W
devices_of d c w = record { disk = d; clock = c; words = w }

pub same_devices : {D C W : Type 0} (new : Devices D C W) (d : D) (c : C) (w : W) → new.disk ≡ d → new.clock ≡ c → new.words ≡ w → devices_of d c w ≡ new
same_devices {D} {C} {W} new d c w one two three =
    subst (λ (z : W). devices_of d c z ≡ new) three (subst (λ (y : C). devices_of d y new.words ≡ new) two (subst (λ (x : D). devices_of x new.clock new.words ≡ new) one refl))

module _ {D C W : Type 0} (g : disk.Ghosts D) (k : clock.Ghosts C) (w : words.Ghosts W) where
  pub run_back : (old new : Devices D C W) (x : D) (y : C) (z : W) (a b c d : Stream) (ending ending' : Ending) → new.disk ≡ x → new.clock ≡ y → new.words ≡ z → ending' ≡ ending → RunSession g k w old (devices_of x y z) a b c d ending → RunSession g k w old new a b c d ending'
  run_back old new x y z a b c d ending ending' one two three same s =
      subst (λ (v : Devices D C W). RunSession g k w old v a b c d ending') (same_devices new x y z one two three) (rw same s)

  pub make_back : (site : Setup) (old new : Devices D C W) (x : D) (y : C) (z : W) (held_old held_new : Option (List ℕ)) (ending : Ending) → new.disk ≡ x → new.clock ≡ y → new.words ≡ z → Makes g site old (devices_of x y z) held_old held_new ending → Makes g site old new held_old held_new ending
  make_back site old new x y z held_old held_new ending one two three s = subst (λ (v : Devices D C W). Makes g site old v held_old held_new ending) (same_devices new x y z one two three) s
