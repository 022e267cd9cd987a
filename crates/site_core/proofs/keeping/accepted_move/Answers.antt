use Rattle.std.proofs.Common.{◌≡◌, List, None, Some, sym, ◌∙◌, subst}
use Rattle.epc_urn.specs.declared.epc.Epc.{Epc}
use Rattle.deed_words.specs.Happenings.{things_of}
use Rattle.deed_words.specs.Replies.{answer_to}
use Rattle.deed_words.specs.declared.deed.Deed.{Deed}
use Rattle.batch_book.specs.Content.{world_in}
use Rattle.move_list.specs.Kept.{unnamed_in}
use Rattle.site_core.proofs.Making.{batch_at, batch_found, none_moved, some_moved}
use Rattle.site_core.proofs.keeping.accepted_move.Goals as goal

pub returns-in_default : goal.returns-in_default
returns-in_default c site entry e a =
    let content = c.args.stores.now.content in
    none_moved site content c.args.place entry (subst (λ (d : Deed). None ≡ batch_at content d) (sym e) (sym c.in_default.is ∙ c.batch_changed.ensures ∙ batch_found content c.args.deed.now c.args.subject.now c.requires.subject))

pub returns : goal.returns
returns c site entry e a =
    let content = c.args.stores.now.content in
    let names : List Epc = c.in_ok-unnamed.unnamed in
    let is = c.in_ok-unnamed.ensures site entry.drawn (subst (λ (d : Deed). c.args.answer.now ≡ answer_to site (world_in content) d entry.drawn) e a) in
    some_moved site content c.args.place entry c.in-Some.batch names (subst (λ (d : Deed). Some c.in-Some.batch ≡ batch_at content d) (sym e) (sym c.in-Some.is ∙ c.batch_changed.ensures ∙ batch_found content c.args.deed.now c.args.subject.now c.requires.subject))
    (subst (λ (d : Deed). names ≡ unnamed_in d (things_of site (world_in content) d)) (sym e) is)
