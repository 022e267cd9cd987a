use Rattle.std.proofs.Common.{◌+◌, ◌∙◌, ℕ, List, length, ap, subst, arith}
use Rattle.std.specs.Prelude.{IfSome, IfNone}
use Rattle.deed_words.specs.History.{own, last_stamp}
use Rattle.request_memo.specs.Memos.{told_by}
use Rattle.site_core.specs.declared.kept.Kept.{Kept}
use Rattle.site_core.specs.Adopting.{Fails, IsStamped}
use Rattle.site_core.specs.Entries.{history_in}
use Rattle.site_core.specs.View.{View}
use Rattle.site_core.proofs.Coming.{early_fails, none_fails}
use Rattle.site_core.proofs.Entering.{counted}
use Rattle.site_core.proofs.Pages.{count_told, own_few}
use Rattle.site_core.proofs.site.Site.fault.Goals as goal

pub fault_of-requires-clause-few : goal.fault_of-requires-clause-few
fault_of-requires-clause-few c =
    let told = c.self.inside.memo.told in
    let kept = c.self.inside.kept.items in
    let station = c.args.entry.now.station in
    let long = count_told c.self.inside.setup (history_in told kept) station (told_by told station) (c.self.invariant.stands.told station) in
    let few = own_few station (history_in told kept) in
    let all = counted told kept in
    let small = c.count_entries-entries.ensures.few in
    let same = ap (λ (ks : List Kept). length ks) c.deref.ensures.value in
    omega (arith, long, few, all, small, same)

pub returns-clause-fault : goal.returns-clause-fault
returns-clause-fault c =
    let told = c.self.inside.memo.told in
    let kept = c.self.inside.kept.items in
    let station = c.args.entry.now.station in
    subst (λ (v : View). IfSome c.fault_of.result (λ fault. Fails v.setup v.history c.args.entry.now fault)) c.self.view_is
    (early_fails c.self.inside.setup (history_in told kept) c.args.entry.now _ _ c.fault_of.result (ap (λ (n : ℕ). n + 1) (count_told c.self.inside.setup (history_in told kept) station (told_by told station) (c.self.invariant.stands.told station)))
    (c.stamp_of_last.ensures told ∙ ap (λ (ks : List Kept). last_stamp (history_in told ks)) c.deref-2.ensures.value) c.fault_of.ensures.fault)

pub returns-clause-none : goal.returns-clause-none
returns-clause-none c =
    let told = c.self.inside.memo.told in
    let kept = c.self.inside.kept.items in
    let station = c.args.entry.now.station in
    subst (λ (v : View). IfNone c.fault_of.result (IsStamped v.setup (length (own station v.history) + 1) (last_stamp v.history) c.args.entry.now)) c.self.view_is
    (none_fails c.self.inside.setup (history_in told kept) c.args.entry.now _ _ c.fault_of.result (ap (λ (n : ℕ). n + 1) (count_told c.self.inside.setup (history_in told kept) station (told_by told station) (c.self.invariant.stands.told station)))
    (c.stamp_of_last.ensures told ∙ ap (λ (ks : List Kept). last_stamp (history_in told ks)) c.deref-2.ensures.value) c.fault_of.ensures.none)
