use Rattle.std.proofs.Common.{Option, map, sym, ap, ◌∙◌}
use Rattle.deed_words.specs.Happenings.{moved_by}
use Rattle.deed_words.specs.declared.rule.Rule.{Rule}
use Rattle.batch_book.specs.Content.{world_in}
use Rattle.move_list.specs.Kept.{kept_of}
use Rattle.site_core.proofs.Making.{if_ok, accepted_is, refused_moved}
use Rattle.site_core.proofs.keeping.kept_move.Goals as goal

pub returns-in-Accepted : goal.returns-in-Accepted
returns-in-Accepted c =
    let w = world_in c.args.stores.now.content in
    if_ok c.accepted_move.result _ _ (λ moved h site entry e r.
    let a = accepted_is site w entry c.in-Accepted.answer (sym c.in-Accepted.is ∙ r) in
    ap (λ (o : Option Rule). map kept_of (moved_by site w c.args.place entry o)) a.0 ∙ h site entry e a.1) c.accepted_move.ensures

pub returns-in-Refused : goal.returns-in-Refused
returns-in-Refused c site entry e r = refused_moved site (world_in c.args.stores.now.content) c.args.place entry _ (sym c.in-Refused.is ∙ r)
