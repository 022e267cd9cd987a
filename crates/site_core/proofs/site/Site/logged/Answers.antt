use Rattle.std.proofs.Common.{◌≡◌, ◌<◌, ◌++◌, ◌∷◌, ◌-◌, ◌∙◌, List, length, get_or, ap, subst, arith}
use Rattle.deed_words.specs.Setups.{Setup}
use Rattle.deed_words.specs.Rules.{broken}
use Rattle.deed_words.specs.History.{world_of, IsLawful}
use Rattle.deed_words.specs.declared.entry.Entry.{Entry}
use Rattle.request_memo.specs.declared.page.Told.{Told}
use Rattle.request_memo.specs.Memos.{told_by}
use Rattle.request_memo.specs.Seeing.{AreToldTo}
use Rattle.site_core.specs.declared.kept.Kept.{Kept}
use Rattle.site_core.specs.Entries.{entry_in, history_in}
use Rattle.site_core.specs.Seen.{rule_told}
use Rattle.site_core.specs.View.{View}
use Rattle.site_core.proofs.Pages.{paged}
use Rattle.site_core.proofs.Logs.{as_many, on_page, page_there, entry_at, told_is_at, reply_is, rule_is}
use Rattle.site_core.proofs.site.Site.logged.Goals as goal

pub index-kept-requires : goal.index-kept-requires
index-kept-requires c =
    let many = as_many c.self.inside.memo.told c.self.inside.kept.items in
    let same = ap (λ (v : View). length v.history) c.self.view_is in
    let long = c.self.inside.kept.ok in
    omega (arith, c.requires, many, same, long.0)

pub told-told-requires-clause-station : goal.told-told-requires-clause-station
told-told-requires-clause-station c =
    let told = c.self.inside.memo.told in
    let kept = c.self.inside.kept.items in
    let many = as_many told kept in
    let same = ap (λ (v : View). length v.history) c.self.view_is in
    let l : c.args.place < length kept = omega (arith, c.requires, many, same) in
    let k : Kept = c.index-kept.result.now in
    let is : k ≡ get_or kept c.args.place k = c.index-kept.ensures in
    page_there told k.station k.number (on_page told kept c.args.place k (paged c.self.inside.setup (history_in told kept) told c.self.invariant.stands.lawful c.self.invariant.stands.told) l is)

pub told-told-requires-clause-number : goal.told-told-requires-clause-number
told-told-requires-clause-number c =
    let told = c.self.inside.memo.told in
    let kept = c.self.inside.kept.items in
    let many = as_many told kept in
    let same = ap (λ (v : View). length v.history) c.self.view_is in
    let l : c.args.place < length kept = omega (arith, c.requires, many, same) in
    let k : Kept = c.index-kept.result.now in
    let is : k ≡ get_or kept c.args.place k = c.index-kept.ensures in
    on_page told kept c.args.place k (paged c.self.inside.setup (history_in told kept) told c.self.invariant.stands.lawful c.self.invariant.stands.told) l is

pub returns : goal.returns
unfolding entry_in
returns c front more entry e long =
    let site : Setup = c.self.inside.setup in
    let told = c.self.inside.memo.told in
    let kept = c.self.inside.kept.items in
    let many = as_many told kept in
    let same = ap (λ (v : View). length v.history) c.self.view_is in
    let l : c.args.place < length kept = omega (arith, c.requires, many, same) in
    let k : Kept = c.index-kept.result.now in
    let t : Told = c.told-told.result.now in
    let is : k ≡ get_or kept c.args.place k = c.index-kept.ensures in
    let page = on_page told kept c.args.place k (paged site (history_in told kept) told c.self.invariant.stands.lawful c.self.invariant.stands.told) l is in
    let split : history_in told kept ≡ front ++ entry ∷ more = ap (λ (v : View). v.history) c.self.view_is ∙ e in
    let here : entry_in told k ≡ entry = entry_at told kept front more entry c.args.place k split long l is in
    let there : t ≡ get_or (told_by told entry.station) (entry.number - 1) t = subst (λ (x : Entry). t ≡ get_or (told_by told x.station) (x.number - 1) t) here c.told-told.ensures in
    let lawful : IsLawful site (front ++ entry ∷ more) = subst (λ (h : List Entry). IsLawful site h) split c.self.invariant.stands.lawful in
    let are : AreToldTo site (front ++ entry ∷ more) entry.station (told_by told entry.station) = subst (λ (h : List Entry). AreToldTo site h entry.station (told_by told entry.station)) split (c.self.invariant.stands.told entry.station) in
    let reply = reply_is site (front ++ entry ∷ more) entry.station entry.number (told_by told entry.station) t entry _ are (c.numbers_mean_one_thing.ensures.answered site front more entry lawful) there in
    record {
      station = ap (λ (x : Entry). x.station) here;
      number = ap (λ (x : Entry). x.number) here;
      operator = ap (λ (x : Entry). x.operator) here;
      deed = ap (λ (x : Told). x.deed) (told_is_at told k t page c.told-told.ensures) ∙ ap (λ (x : Entry). x.deed) here;
      rule = c.rule_in.ensures ∙ ap rule_told reply ∙ rule_is site (world_of site front) entry ∙ ap (λ (v : View). broken v.setup (world_of v.setup front) entry.station entry.deed) c.self.view_is;
    }
