use Rattle.std.proofs.Common.{◌≡◌, sym, ap, ◌∙◌}
use Rattle.std.specs.List.{position}
use Rattle.deed_words.specs.Deeds.{unit_named}
use Rattle.deed_words.specs.Happenings.{things_of}
use Rattle.deed_words.specs.declared.deed.Deed.{Deed}
use Rattle.pack_tree.specs.Units.{is_coded}
use Rattle.batch_book.specs.Content.{world_in}
use Rattle.site_rules.specs.Suits.{names_unit}
use Rattle.move_list.specs.Kept.{unnamed_in}
use Rattle.site_core.proofs.Making.{if_ok, unit_there}
use Rattle.site_core.proofs.keeping.unnamed.Goals as goal

pub inside-requires : goal.inside-requires
unfolding names_unit
inside-requires c = record { there = unit_there c.args.stores.now.content (unit_named c.args.deed.now) c.args.subject.now.unit (c.requires.subject.unit_is (ap names_unit c.in-UnpackAll.is)) }

pub returns-in-UnpackAll : goal.returns-in-UnpackAll
unfolding names_unit unit_named unnamed_in things_of
returns-in-UnpackAll c =
    let k = c.args.stores.now.content in
    let place : c.args.subject.now.unit ≡ position (is_coded c.in-UnpackAll.field-0) k.units =
    c.requires.subject.unit_is (ap names_unit c.in-UnpackAll.is) ∙ ap (λ (deed : Deed). position (is_coded (unit_named deed)) k.units) c.in-UnpackAll.is in
    if_ok c.inside.result _ _ (λ names h site drawn a.
    h c.in-UnpackAll.field-0 place ∙ sym (ap (λ (deed : Deed). unnamed_in deed (things_of site (world_in k) deed)) c.in-UnpackAll.is)) c.inside.ensures
