use Rattle.std.proofs.Common.{◌≡◌, ◌∙◌, Ok, ap, ap₂, sym, subst}
use Rattle.deed_json.specs.Asked.{asked_of}
use Rattle.site_console.specs.declared.lines.Line.{Line}
use Rattle.site_console.specs.Lines.{IsHeld}
use Rattle.site_console.proofs.answer.answer_line.Goals as goal

pub returns-in-Ok-clause-answer : goal.returns-in-Ok-clause-answer
returns-in-Ok-clause-answer g c = λ text held.
    let s = c.args.store.now in
    let known = subst (λ (l : Line). IsHeld l text) c.in-Held.is held in
    let read : asked_of s.site.setup text ≡ Ok c.in-Ok.ask =
    ap₂ asked_of (sym (c.setup.ensures ∙ ap (λ v. v.setup) c.site.ensures)) (sym (c.deref.ensures.value ∙ known.0)) ∙ c.in-Ok.ensures.is in
    let t = c.answer_ask.ensures.turns in
    (t.0, t.1, t.2, record { ask = c.in-Ok.ask; asks = record { short = known.1; read = read }; turn = t.3 })
