use Rattle.std.proofs.Common.{◌∙◌, ap}
use Rattle.deed_words.specs.Accounts.{finding}
use Rattle.batch_book.specs.Content.{world_in, name_at}
use Rattle.site_stores.specs.Holding.{Held}
use Rattle.site_stores.proofs.stores.Stores.finding.Goals as goal

pub returns-in-Ok : goal.returns-in-Ok
returns-in-Ok c = λ site long. c.in-Ok.ensures.found site long ∙ ap (λ (h : Held). finding site (world_in h.content) (name_at h.content.batches c.args.batch)) c.self.view_is

pub returns-in-Err : goal.returns-in-Err
returns-in-Err c = λ site long. c.in-Err.ensures.found site long ∙ ap (λ (h : Held). finding site (world_in h.content) (name_at h.content.batches c.args.batch)) c.self.view_is
