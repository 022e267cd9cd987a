use Rattle.std.proofs.Common.{◌≡◌, ◌∙◌, ◌+◌, ◌<◌, take, drop, Err, ap, refl, sym, subst, arith}
use Rattle.entry_bytes.specs.Groups.{SpellsGroup}
use Rattle.site_store.specs.Held.{Spoils}
use Rattle.site_store.specs.declared.load.StoreFault.TheVariants.{Bad}
use Rattle.site_store.proofs.Replaying.{nothing_replayed, replayed_more, spoilt_here}
use Rattle.site_store.proofs.Taking.{take_more, take_here}
use Rattle.site_store.proofs.load.replay.Goals as goal

pub payloads-init : goal.payloads-init
payloads-init c = record { within = omega arith; setup = refl; replayed = nothing_replayed c.args.site.now.setup c.args.site.now.history c.requires.none }

pub payloads-preserved : goal.payloads-preserved
payloads-preserved c =
    let was = c.payloads.invariant in
    let s = c.payloads.site in
    let ps = c.args.payloads.now in
    let p = c.get-payload.result.now in
    let a = c.in-Ok.ensures.adopts in
    let there : c.payloads.at < _ = subst (λ n. c.payloads.at < n) c.len.ensures c.payloads-test.true in
    record {
      within = omega (arith, there);
      setup = c.in-Ok.ensures.setup ∙ was.setup;
      replayed = replayed_more c.args.site.now.setup s.setup (take c.payloads.at ps) (take (c.payloads.at + 1) ps) p s.history a.0 c.adopt_payload.new.site.history (take_more ps c.payloads.at p there c.get-payload.ensures) was.setup was.replayed (subst (λ b. SpellsGroup a.0 b) c.bytes.ensures a.1) a.2 a.3;
    }

pub returns-in-Err-clause-bad : goal.returns-in-Err-clause-bad
returns-in-Err-clause-bad c place is =
    let was = c.payloads.invariant in
    let s = c.payloads.site in
    let ps = c.args.payloads.now in
    let p = c.get-payload.result.now in
    let there : c.payloads.at < _ = subst (λ n. c.payloads.at < n) c.len.ensures c.payloads-test.true in
    let told : c.spoilt_at.result ≡ Bad place = cc in
    let bad = c.spoilt_at.ensures.bad place told in
    let spoils : Spoils s.setup s.history p.bytes = subst (λ b. Spoils s.setup s.history b) c.bytes.ensures (c.in-Err.ensures.spoils (ap Err bad.0)) in
    spoilt_here c.args.site.now.setup s.setup ps (take c.payloads.at ps) (drop (c.payloads.at + 1) ps) p s.history place p.at (take_here ps c.payloads.at p there c.get-payload.ensures) was.setup was.replayed spoils refl (sym bad.1)
