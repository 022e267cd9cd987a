-- Doors that were just opened have given no link.
use Rattle.std.proofs.Common.{List, ap, arith}
use Rattle.outside.specs.Doors.{DoorState}
use Rattle.command_words.specs.Commands.{AreRanged}
use Rattle.command_words.specs.declared.command.ServeWords.{ServeWords}
use Rattle.worker_doors.specs.Shares.{AreShares}
use Rattle.site_service.specs.Doors.{AreUnopened}

pub unopened : {G : Type 0} (state : G → DoorState) (words : ServeWords) (doors : List G) → AreRanged words → AreShares state words doors → AreUnopened state doors
unopened state words doors ranged are k d less = record {
  few = omega (arith, are.few k d less, ranged.4);
  none_given = ap (λ (s : DoorState). s.given) (are.shares k d less);
  none_back = ap (λ (s : DoorState). s.back) (are.shares k d less);
}
