use Rattle.std.proofs.Common.{◌≡◌, ◌∙◌, sym, ap, is_some, codes}
use Rattle.matchit.proofs.RouterLemmas.{some-same}
use Rattle.http_routes.specs.declared.page.Page.TheVariants.{Requests, Report, Events, Item, Unit as OneUnit}
use Rattle.http_routes.specs.Pages.{added}
use Rattle.http_routes.proofs.Rows.{rows-0, rows-1, rows-2, rows-3, rows-4, rows-5, added-1, added-2, added-3, added-4, added-5}
use Rattle.http_routes.proofs.routes.router.Goals as goal

pub add-requires : goal.add-requires
add-requires c =
    let r0 : c.new-router.result ≡ rows-0 = c.new-router.ensures in
    ap is_some (ap (added (codes "/stations/{station}/requests/{number}") Requests) r0 ∙ added-1)

pub add-requires-2 : goal.add-requires-2
add-requires-2 c =
    let r0 : c.new-router.result ≡ rows-0 = c.new-router.ensures in
    let r1 : c.add.new.router ≡ rows-1 = some-same (sym c.in_ok-add.ensures ∙ ap (added (codes "/stations/{station}/requests/{number}") Requests) r0 ∙ added-1) in
    ap is_some (ap (added (codes "/batches/{batch}") Report) r1 ∙ added-2)

pub add-requires-3 : goal.add-requires-3
add-requires-3 c =
    let r0 : c.new-router.result ≡ rows-0 = c.new-router.ensures in
    let r1 : c.add.new.router ≡ rows-1 = some-same (sym c.in_ok-add.ensures ∙ ap (added (codes "/stations/{station}/requests/{number}") Requests) r0 ∙ added-1) in
    let r2 : c.add-2.new.router ≡ rows-2 = some-same (sym c.in_ok-add-2.ensures ∙ ap (added (codes "/batches/{batch}") Report) r1 ∙ added-2) in
    ap is_some (ap (added (codes "/batches/{batch}/events/{from}/{count}") Events) r2 ∙ added-3)

pub add-requires-4 : goal.add-requires-4
add-requires-4 c =
    let r0 : c.new-router.result ≡ rows-0 = c.new-router.ensures in
    let r1 : c.add.new.router ≡ rows-1 = some-same (sym c.in_ok-add.ensures ∙ ap (added (codes "/stations/{station}/requests/{number}") Requests) r0 ∙ added-1) in
    let r2 : c.add-2.new.router ≡ rows-2 = some-same (sym c.in_ok-add-2.ensures ∙ ap (added (codes "/batches/{batch}") Report) r1 ∙ added-2) in
    let r3 : c.add-3.new.router ≡ rows-3 = some-same (sym c.in_ok-add-3.ensures ∙ ap (added (codes "/batches/{batch}/events/{from}/{count}") Events) r2 ∙ added-3) in
    ap is_some (ap (added (codes "/items/{gtin}/{serial}") Item) r3 ∙ added-4)

pub add-requires-5 : goal.add-requires-5
add-requires-5 c =
    let r0 : c.new-router.result ≡ rows-0 = c.new-router.ensures in
    let r1 : c.add.new.router ≡ rows-1 = some-same (sym c.in_ok-add.ensures ∙ ap (added (codes "/stations/{station}/requests/{number}") Requests) r0 ∙ added-1) in
    let r2 : c.add-2.new.router ≡ rows-2 = some-same (sym c.in_ok-add-2.ensures ∙ ap (added (codes "/batches/{batch}") Report) r1 ∙ added-2) in
    let r3 : c.add-3.new.router ≡ rows-3 = some-same (sym c.in_ok-add-3.ensures ∙ ap (added (codes "/batches/{batch}/events/{from}/{count}") Events) r2 ∙ added-3) in
    let r4 : c.add-4.new.router ≡ rows-4 = some-same (sym c.in_ok-add-4.ensures ∙ ap (added (codes "/items/{gtin}/{serial}") Item) r3 ∙ added-4) in
    ap is_some (ap (added (codes "/units/{sscc}") OneUnit) r4 ∙ added-5)

pub returns : goal.returns
returns c =
    let r0 : c.new-router.result ≡ rows-0 = c.new-router.ensures in
    let r1 : c.add.new.router ≡ rows-1 = some-same (sym c.in_ok-add.ensures ∙ ap (added (codes "/stations/{station}/requests/{number}") Requests) r0 ∙ added-1) in
    let r2 : c.add-2.new.router ≡ rows-2 = some-same (sym c.in_ok-add-2.ensures ∙ ap (added (codes "/batches/{batch}") Report) r1 ∙ added-2) in
    let r3 : c.add-3.new.router ≡ rows-3 = some-same (sym c.in_ok-add-3.ensures ∙ ap (added (codes "/batches/{batch}/events/{from}/{count}") Events) r2 ∙ added-3) in
    let r4 : c.add-4.new.router ≡ rows-4 = some-same (sym c.in_ok-add-4.ensures ∙ ap (added (codes "/items/{gtin}/{serial}") Item) r3 ∙ added-4) in
    let r5 : c.add-5.new.router ≡ rows-5 = some-same (sym c.in_ok-add-5.ensures ∙ ap (added (codes "/units/{sscc}") OneUnit) r4 ∙ added-5) in
    r5
