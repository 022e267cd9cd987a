use Rattle.std.proofs.Common.{◌≡◌, ◌+◌}
use Rattle.item_store.specs.Rows.{count_to}
use Rattle.item_store.proofs.Lent.{lent_is}
use Rattle.item_store.proofs.lines.was_lent.Goals as goal

pub returns : goal.returns
returns c =
    let b = c.args.batch in
    let l = c.args.line in
    let rows = c.args.rows.now in
    let lent : c.count_to-lent.result ≡ count_to b l 0 rows = c.count_to-lent.ensures.value in
    let good : c.count_to-good.result ≡ count_to b l 1 rows = c.count_to-good.ensures.value in
    let spoiled : c.count_to-spoiled.result ≡ count_to b l 2 rows = c.count_to-spoiled.ensures.value in
    let returned : c.count_to-returned.result ≡ count_to b l 3 rows = c.count_to-returned.ensures.value in
    lent_is b l (c.count_to-lent.result + c.count_to-good.result + c.count_to-spoiled.result + c.count_to-returned.result) rows (λ z. lent z + good z + spoiled z + returned z)
