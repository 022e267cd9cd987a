use Rattle.std.proofs.Common.{true≢false, sym, ◌∙◌}
use Rattle.site_files.proofs.Toml.{toml_of_read, toml_of_refused}
use Rattle.site_files.proofs.site.read_toml.Goals as goal

pub returns-in-Ok-clause-ok : goal.returns-in-Ok-clause-ok
returns-in-Ok-clause-ok c = toml_of_read c.args.bytes.now c.in-Ok.table c.in-Ok.ensures.ok.0 c.in-Ok.ensures.ok.1

pub returns-else-is_memory-clause-refused : goal.returns-else-is_memory-clause-refused
returns-else-is_memory-clause-refused c _ =
    toml_of_refused c.args.bytes.now (c.in-Err.ensures.refused (λ memory. true≢false (sym (c.is_memory.ensures.1 memory) ∙ c.if-is_memory.false)))
