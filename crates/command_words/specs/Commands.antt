-- The commands that words ask for.
use Rattle.std.specs.Prelude.{◌&&◌, ◌≤◌, ℕ, List, Option, Some, None, nat_le, slice_get, bytes_eq, codes, if◌then◌else◌}
use Rattle.std.specs.Result.{result_ok}
use Rattle.gs1_keys.specs.Keys.{text_of}
use Rattle.numerals.specs.Numbers.{number_in}
use Rattle.command_words.specs.Texts.{are_words}
use Rattle.command_words.specs.declared.command.Command.{Command}
use Rattle.command_words.specs.declared.command.ServeWords.{ServeWords}
use Rattle.command_words.specs.declared.command.Command.TheVariants.{Init, Run, Report, Export, Check, Log, Simulate, Serve}

abbrev Text : Type 0
Text = List ℕ

-- what is read from what was read before, if anything was
infixl 10 ◌>>=◌
abbrev pub ◌>>=◌ : {A B : Type 0} → Option A → (A → Option B) → Option B
(Some x) >>= f = f x
None >>= f = None

-- there is no further word
abbrev pub end_at : Option Text → Command → Option Command
end_at None command = Some command
end_at (Some word) command = None

-- a name of 1 to 20 characters
abbrev pub name_in : Text → Option Text
name_in word = result_ok (text_of word)

abbrev pub between : ℕ → ℕ → ℕ → Option ℕ
between low high n = if nat_le low n && nat_le n high then Some n else None

-- the number of 1 to 10 digits from low to high
unfoldable pub ranged : ℕ → ℕ → Text → Option ℕ
ranged low high word = number_in 10 word >>= between low high

-- `init SITE`
abbrev pub init_in : Option Text → Option Text → Option Command
init_in (Some site) after = end_at after Init
init_in None after = None

-- `report BATCH`
unfoldable pub report_in : Option Text → Option Text → Option Command
report_in batch after = do
  word ← batch
  name ← name_in word
  end_at after (Report name)

-- `export BATCH FROM COUNT`
unfoldable pub export_in : Option Text → Option Text → Option Text → Option Text → Option Command
export_in batch from count after = do
  word ← batch
  name ← name_in word
  from_word ← from
  first ← ranged 1 4294967295 from_word
  count_word ← count
  n ← ranged 1 10000 count_word
  end_at after (Export name first n)

-- `log FROM COUNT`
unfoldable pub log_in : Option Text → Option Text → Option Text → Option Command
log_in from count after = do
  from_word ← from
  first ← ranged 1 4294967295 from_word
  count_word ← count
  n ← ranged 1 10000 count_word
  end_at after (Log first n)

-- `sim SEED COUNT`
unfoldable pub simulate_in : Option Text → Option Text → Option Text → Option Command
simulate_in seed count after = do
  seed_word ← seed
  first ← ranged 0 4294967295 seed_word
  count_word ← count
  n ← ranged 1 200000 count_word
  end_at after (Simulate first n)

-- `serve PORT WORKERS CONNECTIONS`
unfoldable pub serve_in : Option Text → Option Text → Option Text → Option Text → Option Command
serve_in port workers connections after = do
  port_word ← port
  p ← ranged 1 65535 port_word
  workers_word ← workers
  w ← ranged 1 64 workers_word
  connections_word ← connections
  n ← ranged 1 1000000 connections_word
  end_at after (Serve (record { port = p; workers = w; connections = n }))

-- the command of this name, with the words behind it
unfoldable pub named : Text → Option Text → Option Text → Option Text → Option Text → Option Command
named name second third fourth fifth =
    if bytes_eq name (codes "init") then init_in second third
    else if bytes_eq name (codes "run") then end_at second Run
    else if bytes_eq name (codes "report") then report_in second third
    else if bytes_eq name (codes "export") then export_in second third fourth fifth
    else if bytes_eq name (codes "check") then end_at second Check
    else if bytes_eq name (codes "log") then log_in second third fourth
    else if bytes_eq name (codes "sim") then simulate_in second third fourth
    else if bytes_eq name (codes "serve") then serve_in second third fourth fifth
    else None

abbrev pub named_at : Option Text → Option Text → Option Text → Option Text → Option Text → Option Command
named_at (Some name) second third fourth fifth = named name second third fourth fifth
named_at None second third fourth fifth = None

-- The command of the words, if they are those of one.
unfoldable pub command_of : List Text → Option Command
command_of words = if are_words words then named_at (slice_get words 0) (slice_get words 1) (slice_get words 2) (slice_get words 3) (slice_get words 4) else None

-- each number of `serve` is in its range
abbrev pub AreRanged : ServeWords → Type 0
AreRanged words = (1 ≤ words.port) × (1 ≤ words.workers) × (words.workers ≤ 64) × (1 ≤ words.connections) × (words.connections ≤ 1000000)

-- each number of a command is in its range
abbrev pub IsRanged : Command → Type 0
IsRanged Init = Unit {0}
IsRanged Run = Unit {0}
IsRanged (Report batch) = Unit {0}
IsRanged (Export batch from count) = (1 ≤ from) × (1 ≤ count) × (count ≤ 10000)
IsRanged Check = Unit {0}
IsRanged (Log from count) = (1 ≤ from) × (1 ≤ count) × (count ≤ 10000)
IsRanged (Simulate seed count) = (1 ≤ count) × (count ≤ 200000)
IsRanged (Serve words) = AreRanged words

-- the numbers of `serve`, if it is that command
abbrev pub serving : Command → Option ServeWords
serving (Serve words) = Some words
serving command = None

-- the numbers of `serve`, if the words are those of it
abbrev pub serving_of : List Text → Option ServeWords
serving_of words = command_of words >>= serving
