use Rattle.std.proofs.Common.{inl, inr, arith}
use Rattle.request_memo.proofs.Looking.{new_means, gap_means}
use Rattle.request_memo.proofs.page.Page.look.Goals as goal

pub returns-in-None : goal.returns-in-None
returns-in-None c = λ site history station are.
    gap_means site history station c.args.number c.last-last.result c.args.deed.now c.args.self.now.told.items are c.last-last.ensures (inl (omega (arith, c.in-None.ensures)))

pub returns-in-Some-2 : goal.returns-in-Some-2
returns-in-Some-2 c = λ site history station are.
    new_means site history station c.args.number c.args.deed.now c.args.self.now.told.items are (omega (arith, c.in-Some-2.ensures.0, c.in-Some-2.ensures.1, c.in-Some-2.place-is, c.if-place-last-2.true, c.last-last.ensures))

pub returns-in-Some-3 : goal.returns-in-Some-3
returns-in-Some-3 c = λ site history station are.
    let h = c.in-Some-3.ensures in
    let e = c.in-Some.place-is in
    let e2 = c.in-Some-2.place-is in
    let f = c.if-place-last.false in
    let f2 = c.if-place-last-2.false in
    gap_means site history station c.args.number c.last-last.result c.args.deed.now c.args.self.now.told.items are c.last-last.ensures (inr (omega (arith, h.0, h.1, f, f2, e, e2)))
