use Rattle.std.proofs.Common.{ℕ, List, subst}
use Rattle.std.specs.Str.Parse.{ParsesUnsigned}
use Rattle.std.proofs.lemmas.Str.{IsUtf8-from_ascii}
use Rattle.numerals.proofs.Numerals.{digits_are_ascii, too_large}
use Rattle.numerals.proofs.digits.value.Goals as goal

pub unreachable-requires : goal.unreachable-requires
unreachable-requires c = (c.in_default.ensures).cases.0 (IsUtf8-from_ascii c.args.text.now (digits_are_ascii c.args.text.now c.requires.digits))

pub returns-in-Err : goal.returns-in-Err
returns-in-Err c =
    too_large c.args.text.now c.parse.result (subst (λ (bs : List ℕ). ParsesUnsigned 64 10 bs c.parse.result) c.in-Ok.ensures.cases.0 c.parse.ensures.value.0) c.requires.digits c.requires.some c.in-Err.field-0 c.in-Err.is
