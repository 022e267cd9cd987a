use Rattle.std.proofs.Common.{◌≡◌, ◌<◌, ◌∙◌, List, length, get_or, sym, ap, arith}
use Rattle.deed_words.specs.Names.{Text}
use Rattle.deed_words.specs.declared.deed.Deed.{Deed}
use Rattle.deed_words.specs.declared.entry.Entry.{Entry}
use Rattle.request_memo.specs.declared.page.Told.{Told}
use Rattle.site_core.specs.declared.kept.Kept.{Kept}
use Rattle.site_core.specs.Entries.{entry_in, history_in, serials_told, told_at}
use Rattle.site_core.specs.View.{View}
use Rattle.site_core.proofs.Pages.{paged}
use Rattle.site_core.proofs.Logs.{as_many, on_page, page_there, told_is_at, entry_got}
use Rattle.site_core.proofs.site.Site.entry_at.Goals as goal

pub index-kept-requires : goal.index-kept-requires
index-kept-requires c =
    let many = as_many c.self.inside.memo.told c.self.inside.kept.items in
    let same = ap (λ (v : View). length v.history) c.self.view_is in
    let long = c.self.inside.kept.ok in
    omega (arith, c.requires, many, same, long.0)

pub told-told-requires-clause-station : goal.told-told-requires-clause-station
told-told-requires-clause-station c =
    let told = c.self.inside.memo.told in
    let kept = c.self.inside.kept.items in
    let many = as_many told kept in
    let same = ap (λ (v : View). length v.history) c.self.view_is in
    let l : c.args.place < length kept = omega (arith, c.requires, many, same) in
    let k : Kept = c.index-kept.result.now in
    let is : k ≡ get_or kept c.args.place k = c.index-kept.ensures in
    page_there told k.station k.number (on_page told kept c.args.place k (paged c.self.inside.setup (history_in told kept) told c.self.invariant.stands.lawful c.self.invariant.stands.told) l is)

pub told-told-requires-clause-number : goal.told-told-requires-clause-number
told-told-requires-clause-number c =
    let told = c.self.inside.memo.told in
    let kept = c.self.inside.kept.items in
    let many = as_many told kept in
    let same = ap (λ (v : View). length v.history) c.self.view_is in
    let l : c.args.place < length kept = omega (arith, c.requires, many, same) in
    let k : Kept = c.index-kept.result.now in
    let is : k ≡ get_or kept c.args.place k = c.index-kept.ensures in
    on_page told kept c.args.place k (paged c.self.inside.setup (history_in told kept) told c.self.invariant.stands.lawful c.self.invariant.stands.told) l is

pub returns : goal.returns
unfolding entry_in
returns c =
    let told = c.self.inside.memo.told in
    let kept = c.self.inside.kept.items in
    let many = as_many told kept in
    let same = ap (λ (v : View). length v.history) c.self.view_is in
    let l : c.args.place < length kept = omega (arith, c.requires, many, same) in
    let k : Kept = c.index-kept.result.now in
    let is : k ≡ get_or kept c.args.place k = c.index-kept.ensures in
    let t : Told = c.told-told.result.now in
    let page = on_page told kept c.args.place k (paged c.self.inside.setup (history_in told kept) told c.self.invariant.stands.lawful c.self.invariant.stands.told) l is in
    let at : t ≡ told_at told k = told_is_at told k t page c.told-told.ensures in
    let deed : c.in_ok-copy.field-0 ≡ (told_at told k).deed = c.in_ok-copy.ensures ∙ ap (λ (x : Told). x.deed) at in
    let drawn : c.in_ok-serials_told.field-0 ≡ serials_told (told_at told k).deed (told_at told k).reply = c.in_ok-serials_told.ensures ∙ ap (λ (x : Told). serials_told x.deed x.reply) at in
    let entry : Entry = record { station = k.station; number = k.number; worker = k.worker; stamp = k.stamp; operator = k.operator; deed = c.in_ok-copy.field-0; drawn = c.in_ok-serials_told.field-0 } in
    let entry_is : entry ≡ entry_in told k =
    ap (λ (d : Deed). record { station = k.station; number = k.number; worker = k.worker; stamp = k.stamp; operator = k.operator; deed = d; drawn = c.in_ok-serials_told.field-0 }) deed
    ∙ ap (λ (s : List Text). record { station = k.station; number = k.number; worker = k.worker; stamp = k.stamp; operator = k.operator; deed = (told_at told k).deed; drawn = s }) drawn in
    entry_is ∙ sym (entry_got told kept c.args.place k entry l is) ∙ ap (λ (v : View). get_or v.history c.args.place entry) c.self.view_is
