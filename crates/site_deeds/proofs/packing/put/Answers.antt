use Rattle.std.proofs.Common.{◌+◌, ◌<◌, ◌^◌, length, sym, ◌∙◌, subst, arith, ℕ}
use Rattle.site_deeds.proofs.OfPacking.{put_does}
use Rattle.site_deeds.proofs.Shared.{got}
use Rattle.site_deeds.proofs.packing.put.Goals as goal

pub returns : goal.returns
returns c = λ sscc found.
    let k = c.args.stores.now.content in
    let kept = got k.units c.args.unit c.requires.there in
    let l = c.if-last_number-children.false in
    let few : c.last_number.result + length c.args.children.now < 2 ^ 64 = omega (arith, l) in
    put_does c.args.stores.now c.plain.result sscc c.args.unit kept.0 c.args.children.now c.in_ok-nodes.nodes c.tell_whole.ensures found kept.1 (sym (c.in_ok-nodes.ensures ∙ c.requires.places)) c.requires.once c.requires.alone
    (subst (λ (n : ℕ). n + length c.args.children.now < 2 ^ 64) c.last_number.ensures few) c.plain.ensures.answer c.plain.ensures.change
