use Rattle.std.proofs.Common.{◌∙◌, inl, sym}
use Rattle.deed_words.specs.History.{world_of}
use Rattle.site_answers.proofs.Due.{exported, not_exported}
use Rattle.site_answers.proofs.Named.{batch_kept, no_batch_there}
use Rattle.site_answers.proofs.events.events_response.Goals as goal

pub returns-in_default : goal.returns-in_default
returns-in_default c =
    let site = c.args.site.now in
    let none = no_batch_there (world_of site.setup site.history) c.args.name.now (sym c.batch.ensures ∙ c.in_default.is) in
    inl (c.fault.ensures ∙ sym (not_exported site.setup site.history c.args.name.now c.args.from c.args.count none))

pub returns-in-Ok : goal.returns-in-Ok
returns-in-Ok c =
    let site = c.args.site.now in
    let found = sym c.batch.ensures ∙ c.in-Some.is in
    let kept = batch_kept (world_of site.setup site.history) c.args.name.now c.in-Some.batch found in
    inl (c.made.ensures ∙ sym (exported site.setup site.history c.args.name.now c.in-Ok.text.items c.args.from c.args.count kept.0 kept.2 (c.in-Ok.ensures c.args.name.now found)))
