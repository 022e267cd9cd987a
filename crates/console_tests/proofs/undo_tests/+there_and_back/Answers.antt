use Rattle.std.proofs.Common.{◌∙◌}
use Rattle.console_tests.proofs.Turning.{content_back, history_back, last_on}
use Rattle.console_tests.proofs.undo_tests.+there_and_back.Goals as goal

pub undo-again-requires : goal.undo-again-requires
undo-again-requires g t c =
    let done = c.commit-done in
    let back = c.there_and_back in
    record {
      last = last_on done.new.self.setup back.new.site.setup done.new.self.history back.new.site.history done.new.self.content back.new.site.content done.result back.ensures.setup back.ensures.history back.ensures.content done.ensures.last;
    }

pub returns-clause-setup : goal.returns-clause-setup
returns-clause-setup g t c = c.undo-again.ensures.setup ∙ c.there_and_back.ensures.setup ∙ c.commit-done.ensures.setup ∙ c.planned-planned.ensures.setup

pub returns-clause-history : goal.returns-clause-history
returns-clause-history g t c =
    let planned = c.planned-planned in
    let back = c.there_and_back in
    let again = c.undo-again in
    history_back planned.new.site.history back.new.site.history again.new.self.history planned.result.entry again.result.entry (back.ensures.history ∙ c.commit-done.ensures.history) again.ensures.history ∙ planned.ensures.history

pub returns-clause-content : goal.returns-clause-content
returns-clause-content g t c =
    let planned = c.planned-planned in
    let done = c.commit-done in
    let back = c.there_and_back in
    let again = c.undo-again in
    content_back c.changes_are_taken_back.ensures planned.new.site.content back.new.site.content again.new.self.content planned.result again.result planned.ensures.next.may (back.ensures.content ∙ done.ensures.content) (again.ensures.planned ∙ done.ensures.committed) again.ensures.content ∙ planned.ensures.content
