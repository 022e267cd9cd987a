use Rattle.std.proofs.Common.{◌≡◌, ◌++◌, ◌∷◌, [], List, sym, ap₂, ◌∙◌, subst}
use Rattle.std.proofs.lemmas.List.{same_from_push}
use Rattle.deed_words.specs.Setups.{Setup}
use Rattle.deed_words.specs.declared.entry.Entry.{Entry}
use Rattle.batch_book.specs.Content.{Content}
use Rattle.site_stores.specs.Changes.{applied, taken_back, MayApply}
use Rattle.site_core.specs.declared.planned.Planned.{Planned}
use Rattle.site_core.specs.Plans.{IsNext, IsLast}
use Rattle.site_core.specs.Rooms.{HasRoomFor}
use Rattle.site_core.proofs.laws.there_and_back.Goals as goal

pub commit-first-requires-clause-room : goal.commit-first-requires-clause-room
commit-first-requires-clause-room c = c.the_first_has_room.ensures c.args.site.now c.args.one (c.args.two ∷ []) c.requires.room

pub commit-second-requires-clause-room : goal.commit-second-requires-clause-room
commit-second-requires-clause-room c = c.commit-first.ensures.room (c.args.two ∷ []) c.requires.room

pub commit-second-requires-clause-next : goal.commit-second-requires-clause-next
commit-second-requires-clause-next c =
    let first = c.commit-first in
    subst (λ (s : Setup). IsNext s first.new.self.history first.new.self.content c.args.two) (sym first.ensures.setup)
    (subst (λ (h : List Entry). IsNext c.args.site.now.setup h first.new.self.content c.args.two) (sym first.ensures.history)
    (subst (λ (k : Content). IsNext c.args.site.now.setup (c.args.site.now.history ++ c.args.one.entry ∷ []) k c.args.two) (sym first.ensures.content) c.requires.second))

pub undo-one-requires : goal.undo-one-requires
undo-one-requires c =
    let first = c.commit-first in
    let second = c.commit-second in
    let two_is : c.undo-two.result ≡ c.args.two = c.undo-two.ensures.planned ∙ second.ensures.committed in
    let may : MayApply first.new.self.content c.args.two.change = subst (λ (k : Content). MayApply k c.args.two.change) (sym first.ensures.content) c.requires.second.may in
    let content : c.undo-two.new.self.content ≡ first.new.self.content =
    c.undo-two.ensures.content ∙ ap₂ (λ (k : Content) (p : Planned). taken_back k p.change) second.ensures.content two_is ∙ c.changes_are_taken_back.ensures first.new.self.content c.args.two.change may in
    let history : first.new.self.history ≡ c.undo-two.new.self.history =
    (same_from_push first.new.self.history c.undo-two.new.self.history c.args.two.entry c.undo-two.result.entry (sym second.ensures.history ∙ c.undo-two.ensures.history)).0 in
    let setup : c.undo-two.new.self.setup ≡ first.new.self.setup = c.undo-two.ensures.setup ∙ second.ensures.setup in
    record {
      last = subst (λ (s : Setup). IsLast s c.undo-two.new.self.history c.undo-two.new.self.content first.result) (sym setup)
          (subst (λ (h : List Entry). IsLast first.new.self.setup h c.undo-two.new.self.content first.result) history
          (subst (λ (k : Content). IsLast first.new.self.setup first.new.self.history k first.result) (sym content) first.ensures.last));
    }

pub commit-first-requires-2-clause-room : goal.commit-first-requires-2-clause-room
commit-first-requires-2-clause-room c =
    let first = c.commit-first in
    let second = c.commit-second in
    let two_is : c.undo-two.result ≡ c.args.two = c.undo-two.ensures.planned ∙ second.ensures.committed in
    let two_room : HasRoomFor second.new.self [] = second.ensures.room [] (first.ensures.room (c.args.two ∷ []) c.requires.room) in
    let both : HasRoomFor c.undo-one.new.self (c.undo-one.result ∷ c.undo-two.result ∷ []) = c.undo-one.ensures.room (c.undo-two.result ∷ []) (c.undo-two.ensures.room [] two_room) in
    c.the_first_has_room.ensures c.undo-one.new.self c.undo-one.result (c.undo-two.result ∷ []) both

pub returns-clause-history : goal.returns-clause-history
returns-clause-history c =
    let first = c.commit-first in
    let second = c.commit-second in
    let two_is : c.undo-two.result ≡ c.args.two = c.undo-two.ensures.planned ∙ second.ensures.committed in
    let one_is : c.undo-one.result ≡ c.args.one = c.undo-one.ensures.planned ∙ first.ensures.committed in
    let front : c.undo-two.new.self.history ≡ first.new.self.history =
    (same_from_push c.undo-two.new.self.history first.new.self.history c.undo-two.result.entry c.args.two.entry (sym c.undo-two.ensures.history ∙ second.ensures.history)).0 in
    c.commit-first-2.ensures.history ∙ sym c.undo-one.ensures.history ∙ front ∙ first.ensures.history

pub returns-clause-content : goal.returns-clause-content
returns-clause-content c =
    let first = c.commit-first in
    let second = c.commit-second in
    let two_is : c.undo-two.result ≡ c.args.two = c.undo-two.ensures.planned ∙ second.ensures.committed in
    let may : MayApply first.new.self.content c.args.two.change = subst (λ (k : Content). MayApply k c.args.two.change) (sym first.ensures.content) c.requires.second.may in
    let content : c.undo-two.new.self.content ≡ first.new.self.content =
    c.undo-two.ensures.content ∙ ap₂ (λ (k : Content) (p : Planned). taken_back k p.change) second.ensures.content two_is ∙ c.changes_are_taken_back.ensures first.new.self.content c.args.two.change may in
    let one_is : c.undo-one.result ≡ c.args.one = c.undo-one.ensures.planned ∙ first.ensures.committed in
    let start : c.undo-one.new.self.content ≡ c.args.site.now.content =
    c.undo-one.ensures.content ∙ ap₂ (λ (k : Content) (p : Planned). taken_back k p.change) (content ∙ first.ensures.content) one_is ∙ c.changes_are_taken_back.ensures c.args.site.now.content c.args.one.change c.requires.first.may in
    c.commit-first-2.ensures.content ∙ ap₂ (λ (k : Content) (p : Planned). applied k p.change) start one_is

pub returns-clause-room : goal.returns-clause-room
returns-clause-room c =
    let first = c.commit-first in
    let second = c.commit-second in
    let two_is : c.undo-two.result ≡ c.args.two = c.undo-two.ensures.planned ∙ second.ensures.committed in
    let two_room : HasRoomFor second.new.self [] = second.ensures.room [] (first.ensures.room (c.args.two ∷ []) c.requires.room) in
    let both : HasRoomFor c.undo-one.new.self (c.undo-one.result ∷ c.undo-two.result ∷ []) = c.undo-one.ensures.room (c.undo-two.result ∷ []) (c.undo-two.ensures.room [] two_room) in
    subst (λ (p : Planned). HasRoomFor c.commit-first-2.new.self (p ∷ [])) two_is (c.commit-first-2.ensures.room (c.undo-two.result ∷ []) both)
