use Rattle.std.proofs.Common.{◌≡◌, ◌<◌, ◌+◌, ◌∙◌, ℕ, List, map, length, sym, ap, subst, arith}
use Rattle.std.specs.Prelude.{◌^◌}
use Rattle.deed_words.specs.Happenings.{moved_by}
use Rattle.deed_words.specs.History.{world_of}
use Rattle.deed_words.specs.Replies.{reply_to}
use Rattle.deed_words.specs.Rules.{broken}
use Rattle.deed_words.specs.World.{World}
use Rattle.batch_book.specs.Content.{world_in}
use Rattle.site_rules.specs.Asked.{IsSubject}
use Rattle.move_list.specs.Kept.{kept_of}
use Rattle.site_core.specs.declared.kept.Kept.{Kept}
use Rattle.site_core.specs.Entries.{history_in}
use Rattle.site_core.specs.View.{View}
use Rattle.site_core.proofs.Making.{if_ok, ok_always}
use Rattle.site_core.proofs.site.Site.kept_move.Goals as goal

pub kept_move-requires : goal.kept_move-requires
kept_move-requires c = record { subject = subst (λ (v : View). IsSubject v.content c.args.deed.now c.args.subject.now) (sym c.self.view_is) c.requires.subject }

pub returns-clause-few : goal.returns-clause-few
returns-clause-few c =
    let told = c.self.inside.memo.told in
    let place : c.count_entries-place.result ≡ length c.args.self.now.history =
    c.count_entries-place.ensures.is told ∙ ap (λ (ks : List Kept). length (history_in told ks)) c.deref.ensures.value ∙ ap (λ (v : View). length v.history) c.self.view_is in
    ok_always c.kept_move.result (length c.args.self.now.history + 1 < 2 ^ 32) (omega (arith, place, c.if-place-ge-MOST_ENTRIES.false))

pub returns-clause-moved : goal.returns-clause-moved
returns-clause-moved c =
    let told = c.self.inside.memo.told in
    let site = c.args.self.now.setup in
    let history = c.args.self.now.history in
    let content = c.self.inside.stores.content in
    let place : c.count_entries-place.result ≡ length history =
    c.count_entries-place.ensures.is told ∙ ap (λ (ks : List Kept). length (history_in told ks)) c.deref.ensures.value ∙ ap (λ (v : View). length v.history) c.self.view_is in
    let world : world_in content ≡ world_of site history = subst (λ (v : View). world_in content ≡ world_of v.setup v.history) c.self.view_is c.self.invariant.stands.world in
    if_ok c.kept_move.result _ _ (λ moved h entry e r.
    ap (λ (w : World). map kept_of (moved_by site w (length history) entry (broken site w entry.station entry.deed))) (sym world)
    ∙ ap (λ (n : ℕ). map kept_of (moved_by site (world_in content) n entry (broken site (world_in content) entry.station entry.deed))) (sym place)
    ∙ h site entry e (r ∙ ap (λ (w : World). reply_to site w entry) (sym world))) c.kept_move.ensures
