-- A worker's pass and door.
use Rattle.std.specs.Prelude.{◌≡◌, ℕ, Bool, List, []}
use Rattle.outside.specs.Doors.{DoorState}
use Rattle.turn_desk.specs.Tokens.{Place, Token}
use Rattle.site_service.specs.declared.worker.Worker.{Worker}
use Rattle.site_server.specs.Chain.{IsWorked, IsUnopened}

abbrev pub pass_of : {G : Type 0} → Worker G → Token
pass_of w = w.pass

abbrev pub door_of : {G : Type 0} → Worker G → G
door_of w = w.door

abbrev pub has_failed : {G : Type 0} → Worker G → Bool
has_failed w = w.failed

-- a worker before its turn to serve
pub record IsReady {G : Type 0} (state : G → DoorState) (d : Place) (w : Worker G) : Type 0 where
  pub desk : w.pass.desk ≡ d
  pub turns : w.pass.turns ≡ 0
  pub seen : w.pass.seen ≡ []
  pub unopened : IsUnopened (state w.door)

-- a worker before and after its work
pub record HasWorked {G : Type 0} (state : G → DoorState) (d : Place) (v w : Worker G) : Type 0 where
  pub desk : w.pass.desk ≡ d
  pub worker : w.pass.worker ≡ v.pass.worker
  pub last : w.pass.last ≡ v.pass.last
  pub worked : IsWorked d.origin v.pass.worker (state v.door) (state w.door) v.pass.seen w.pass.seen w.failed
