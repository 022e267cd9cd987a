-- The target of a request, or why it has none.
use Rattle.std.specs.Prelude.{ℕ, List, Option, Some, None, Result, Ok, Err, if◌then◌else◌, bytes_eq}
use Rattle.http_routes.specs.declared.target.Target.{Target}
use Rattle.http_routes.specs.Targets.{target_in, method_of}
use Rattle.station_http.specs.declared.fault.HttpFault.{HttpFault}
use Rattle.station_http.specs.declared.fault.HttpFault.TheVariants.{NoRoute, BadMethod}

abbrev pub target_by : List ℕ → Option Target → Result Target HttpFault
target_by method None = Err NoRoute
target_by method (Some target) = if bytes_eq method (method_of target) then Ok target else Err BadMethod

abbrev pub target_of : List ℕ → List ℕ → Result Target HttpFault
target_of method path = target_by method (target_in path)
