-- The lines of a log: of each entry who asked for what, and whether it was done.
use Rattle.std.specs.Prelude.{◌-◌, ℕ, suc, List, [], ◌∷◌, ◌++◌, codes, decimal, take, drop, Option, Some, None}
use Rattle.deed_words.specs.Names.{Text}
use Rattle.deed_words.specs.Setups.{Setup}
use Rattle.deed_words.specs.Walk.{Step, steps_of, rule_at}
use Rattle.deed_words.specs.declared.entry.Entry.{Entry}
use Rattle.deed_words.specs.declared.rule.Rule.{Rule}
use Rattle.deed_words.specs.declared.rule.Rule.TheVariants as rule
use Rattle.deed_json.specs.Deeds.{deed_word}
use Rattle.deed_json.specs.Replies.{station_name}
use Rattle.site_console.specs.Newline.{newline}

-- the name that a rule has in a reply
unfoldable pub rule_name : Rule → Text
rule_name rule.RoleForbids = codes "RoleForbids"
rule_name (rule.UnknownProduct row) = codes "UnknownProduct"
rule_name (rule.OrderConflict row) = codes "OrderConflict"
rule_name rule.UnknownBatch = codes "UnknownBatch"
rule_name rule.UnknownUnit = codes "UnknownUnit"
rule_name rule.BatchNotStarted = codes "BatchNotStarted"
rule_name rule.BatchStarted = codes "BatchStarted"
rule_name rule.BatchClosed = codes "BatchClosed"
rule_name rule.UnitVoid = codes "UnitVoid"
rule_name rule.UnitSealed = codes "UnitSealed"
rule_name rule.UnitNotSealed = codes "UnitNotSealed"
rule_name (rule.CountOutOfRange most) = codes "CountOutOfRange"
rule_name (rule.SiteFull what have) = codes "SiteFull"
rule_name (rule.PoolThin asked have) = codes "PoolThin"
rule_name (rule.FewFresh have) = codes "FewFresh"
rule_name rule.SsccSpent = codes "SsccSpent"
rule_name (rule.RepeatedInRequest index) = codes "RepeatedInRequest"
rule_name (rule.UnknownSerial index) = codes "UnknownSerial"
rule_name (rule.OtherBatch index) = codes "OtherBatch"
rule_name (rule.WrongLevel index) = codes "WrongLevel"
rule_name (rule.WrongState index state) = codes "WrongState"
rule_name (rule.LentToOther index line) = codes "LentToOther"
rule_name (rule.HasParent index parent) = codes "HasParent"
rule_name (rule.NotChild index) = codes "NotChild"
rule_name (rule.UnitFull have room) = codes "UnitFull"
rule_name (rule.UnitNotEmpty have) = codes "UnitNotEmpty"
rule_name rule.NothingInside = codes "NothingInside"
rule_name (rule.NotAccounted found) = codes "NotAccounted"

-- who worked at the station, or a hyphen
unfoldable pub operator_word : Option Text → Text
operator_word None = codes "-"
operator_word (Some operator) = operator

-- whether it was done, or the rule that it broke
unfoldable pub verdict_word : Option Rule → Text
verdict_word None = codes "ok"
verdict_word (Some broken) = rule_name broken

abbrev pub space : Text
space = 32 ∷ []

-- a line: the number of the entry, the station with its own number, the deed, the operator, and what came of it
unfoldable pub line_of : ℕ → Text → ℕ → Text → Text → Text → Text
line_of number station own deed operator verdict =
    decimal number ++ space ++ station ++ space ++ decimal own ++ space ++ deed ++ space ++ operator ++ space ++ verdict ++ newline ∷ []

-- the line of an entry, which has this number in the history
unfoldable pub log_line : Setup → ℕ → Step → Text
log_line site number step =
    line_of number (station_name site step.entry.station) step.entry.number (deed_word step.entry.deed) (operator_word step.entry.operator) (verdict_word (rule_at site step))

-- the lines of entries, the first of which has this number
unfoldable pub lines_from : Setup → ℕ → List Step → List Text
lines_from site number [] = []
lines_from site number (step ∷ steps) = log_line site number step ∷ lines_from site (suc number) steps

-- the lines of a history, numbered from 1
unfoldable pub log_lines : Setup → List Entry → List Text
log_lines site history = lines_from site 1 (steps_of site history)

-- lines one behind the other
abbrev pub joined : List Text → Text
joined [] = []
joined (line ∷ lines) = line ++ joined lines

-- the log of so many entries, from the one with a number on
unfoldable pub log_text : Setup → List Entry → ℕ → ℕ → Text
log_text site history from count = joined (take count (drop (from - 1) (log_lines site history)))
