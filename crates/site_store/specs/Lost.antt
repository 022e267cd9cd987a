-- Whether the disk is blamed.
use Rattle.std.specs.Prelude.{Bool, true, false}
use Rattle.site_store.specs.declared.finish.Finish.{Finish}
use Rattle.site_store.specs.declared.finish.Finish.TheVariants as finish

abbrev pub is_lost : Finish → Bool
is_lost finish.Written = false
is_lost finish.Lost = true
