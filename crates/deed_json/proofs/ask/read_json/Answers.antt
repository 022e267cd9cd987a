use Rattle.std.proofs.Common.{true≢false, sym, ap, ◌∙◌, inr, Option}
use Rattle.serde_json.specs.Data.{Data}
use Rattle.deed_json.specs.Asked.{or_bad_line}
use Rattle.deed_json.proofs.Json.{json_of_read, json_of_refused}
use Rattle.deed_json.proofs.ask.read_json.Goals as goal

pub returns-in-Ok : goal.returns-in-Ok
returns-in-Ok c = ap (λ (o : Option Data). or_bad_line o) (json_of_read c.args.bytes.now _ c.in-Ok.ensures.ok.0 c.in-Ok.ensures.ok.1)

pub returns-else-is_memory : goal.returns-else-is_memory
returns-else-is_memory c =
    inr (ap (λ (o : Option Data). or_bad_line o) (json_of_refused c.args.bytes.now (c.in-Err.ensures.err (λ memory. true≢false (sym (c.is_memory.ensures.1 memory) ∙ c.if-is_memory.false)))))
