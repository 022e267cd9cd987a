use Rattle.std.proofs.Common.{refl}
use Rattle.serial_pool.proofs.Holding.{once_after}
use Rattle.serial_pool.proofs.laws.commits_once.Goals as goal

pub returns : goal.returns
returns c = λ pairs plan once made. once_after pairs _ plan once made refl
