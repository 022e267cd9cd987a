-- The commands that the program has.
use Rattle.std.specs.Prelude.{Bool, true, false, not, Option, Some, None}
use Rattle.command_words.specs.declared.command.Command.{Command}
use Rattle.command_words.specs.declared.command.Command.TheVariants.{Init, Run, Report, Export, Check, Log, Simulate, Serve}

-- all but `serve`, which several workers do
abbrev pub is_alone : Command → Bool
is_alone Init = true
is_alone Run = true
is_alone (Report batch) = true
is_alone (Export batch from count) = true
is_alone Check = true
is_alone (Log from count) = true
is_alone (Simulate seed count) = true
is_alone (Serve words) = false

-- there is no command, or one that this call doesn't do
abbrev pub is_refused : Option Command → Bool
is_refused None = true
is_refused (Some command) = not (is_alone command)
