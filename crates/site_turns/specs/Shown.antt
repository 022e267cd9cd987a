-- Which requests only read.
use Rattle.std.specs.Prelude.{Bool, true, false}
use Rattle.http_routes.specs.declared.target.Target.{Target}
use Rattle.http_routes.specs.declared.target.Target.TheVariants.{Submit}

abbrev pub is_shown : Target → Bool
is_shown (Submit name number) = false
is_shown target = true
