use Rattle.std.proofs.Common.{sym, ap, ◌∙◌, true≢false}
use Rattle.std.specs.List.{position}
use Rattle.deed_words.specs.Deeds.{batch_with}
use Rattle.deed_words.specs.Names.{Text}
use Rattle.pack_tree.specs.Units.{is_coded}
use Rattle.batch_book.specs.Batches.{is_called}
use Rattle.batch_book.specs.Content.{world_in}
use Rattle.site_rules.proofs.Elses.{batch_of_unit}
use Rattle.site_rules.proofs.subject.find_subject.Goals as goal

pub returns-in-Some : goal.returns-in-Some
returns-in-Some c =
    let k = c.args.stores.now.content in
    record {
      unit_is = λ _. c.on_unit.ensures.unit ∙ ap (λ (code : Text). position (is_coded code) k.units) c.in-Some.ensures.some;
      batch_is = λ _. c.on_unit.ensures.batch ∙ ap (λ (code : Text). position (is_called (batch_with (world_in k) code)) k.batches) c.in-Some.ensures.some
          ∙ sym (ap (λ (name : Text). position (is_called name) k.batches) (batch_of_unit (world_in k) c.args.deed.now c.in-Some.ensures.names));
    }

pub returns-in-None : goal.returns-in-None
returns-in-None c = record { unit_is = λ names. absurd (true≢false (sym names ∙ c.in-None.ensures.none)); batch_is = c.find_batch.ensures }
