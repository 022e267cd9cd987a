use Rattle.std.proofs.Common.{sym, ◌∙◌, subst, refl, length, ℕ, ◌<◌}
use Rattle.std.specs.List.{AllByRecursion as Every}
use Rattle.site_deeds.proofs.OfLoan.{lend_does, fresh_there}
use Rattle.site_deeds.proofs.Shared.{got}
use Rattle.site_deeds.proofs.lending.lend.Goals as goal

pub lend_each-requires : goal.lend_each-requires
lend_each-requires c =
    let rows = c.args.stores.now.content.rows in
    record { there = subst (Every (λ (item : ℕ). item < length rows)) (sym (c.as_slice.ensures ∙ c.in_ok-items.ensures)) (fresh_there rows c.args.batch c.args.count) }

pub returns : goal.returns
returns c = λ name found.
    let kept = got c.args.stores.now.content.batches c.args.batch c.requires.there in
    lend_does c.args.stores.now _ c.args.line name c.args.batch kept.0 c.args.count c.as_slice.result.now c.in_ok-loan.loan.turns c.in_ok-loan.loan.serials c.tell_whole.ensures found kept.1 (c.as_slice.ensures ∙ c.in_ok-items.ensures) c.in_ok-loan.ensures refl refl
