-- A look at a journal.
use Rattle.std.proofs.Common.{◌≡◌, ◌⊎◌, ℕ, true, List, Option, Some, None, inl, inr, subst}
use Rattle.outside.specs.Devices.{Puts}
use Rattle.outside.specs.declared.disk.Disk as disk
use Rattle.site_core.specs.View.{View}
use Rattle.site_store.specs.declared.store.Devices.{Devices}
use Rattle.site_console.specs.declared.ending.Ending.{Ending}
use Rattle.site_console.specs.declared.ending.Ending.TheVariants.{Done, WriteFault, UnknownBatch, NoMemory}
use Rattle.site_console.specs.declared.look.Look.{Look}
use Rattle.site_console.specs.Looks.{IsTold, look_text, Looked, LookSession}
use Rattle.site_console.specs.Sessions.{NotLoaded}
use Rattle.site_console.specs.Told.{Stream}
use Rattle.site_console.proofs.Ends.{is_apart, load_apart}
use Rattle.site_console.proofs.Returned.{devices_of, same_devices}

pub look_back : {D C W : Type 0} (g : disk.Ghosts D) (look : Look) (old new : Devices D C W) (x : D) (y : C) (z : W) (input c d : Stream) (ending : Ending) → new.disk ≡ x → new.clock ≡ y → new.words ≡ z → LookSession g look old (devices_of x y z) input c d ending → LookSession g look old new input c d ending
look_back {D} {C} {W} g look old new x y z input c d ending one two three s = subst (λ (v : Devices D C W). LookSession g look old v input c d ending) (same_devices new x y z one two three) s

-- of a site as it is seen
pub told_of : (old new : Option (List ℕ)) (a b : View) (look : Look) (ending : Ending) → a ≡ b → Puts old new (λ put. IsTold (look_text a.setup a.history look) ending put) → Puts old new (λ put. IsTold (look_text b.setup b.history look) ending put)
told_of old new a b look ending e puts = subst (λ (v : View). Puts old new (λ put. IsTold (look_text v.setup v.history look) ending put)) e puts

told_apart : (text : Option (List ℕ)) (ending : Ending) (put : List ℕ) → is_apart ending ≡ true → IsTold text ending put → ⊥
told_apart None UnknownBatch put e told = cc
told_apart None ending put e told = told
told_apart (Some text) Done put e told = cc
told_apart (Some text) WriteFault put e told = cc
told_apart (Some text) NoMemory put e told = cc
told_apart (Some text) ending put e told = told

not_look : {D C W : Type 0} (g : disk.Ghosts D) (look : Look) (old new : Devices D C W) (i c d : Stream) (ending : Ending) → is_apart ending ≡ true → NotLoaded g old new i i c d ending ⊎ Looked g look old new c d ending → ⊥
not_look g look old new i c d ending e (inl s) = load_apart (g.content old.disk) ending e s.refuses
not_look g look old new i c d ending e (inr s) = told_apart (look_text s.site s.history look) ending s.told.0 e s.told.2

-- the words of a look are never refused, and it has no door
pub look_apart : {D C W : Type 0} (g : disk.Ghosts D) (look : Look) (old new : Devices D C W) (i c d : Stream) (ending : Ending) → is_apart ending ≡ true → LookSession g look old new i c d ending → ⊥
look_apart g look old new i c d ending e s = not_look g look old new i c d ending e s.comes
