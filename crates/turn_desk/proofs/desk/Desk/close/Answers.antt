use Rattle.std.proofs.Common.{◌≡◌, List, length, sym, ap, ◌∙◌}
use Rattle.turn_desk.specs.declared.view.View.{View}
use Rattle.turn_desk.specs.Passes.{head}
use Rattle.turn_desk.specs.Tokens.{Token}
use Rattle.turn_desk.proofs.Crew.{last_of_crew, tells}
use Rattle.turn_desk.proofs.desk.Desk.close.Goals as goal

pub returns-clause-notes : goal.returns-clause-notes
returns-clause-notes g c =
    let front : List Token = c.pop.new.self.items in let last : Token = c.in-Some.last in
    let crew = last_of_crew _ c.args.passes.items front last c.in-Some.ensures.items c.requires.crew in
    let f : View = c.into_seat.result.me.0 in let v : View = c.take_in-seat.result.me.0 in let made = c.take_in-seat.ensures.all in
    let top : head c.last.inside.badge.views ≡ f = ap head c.into_seat.ensures.2 in
    let is = c.last.view_is in
    let worker : v.worker ≡ length front = ap (λ m. m.0.worker) made ∙ (sym (ap (λ (x : View). x.worker) top) ∙ (c.last.invariant.1.2 ∙ (ap (λ (t : Token). t.worker) is ∙ crew.1))) in
    let seen : v.seen ≡ last.seen = ap (λ m. m.0.seen) made ∙ (sym (ap (λ (x : View). x.seen) top) ∙ ap (λ (t : Token). t.seen) is) in
    tells c.args.passes.items front last _ v c.in-Some.ensures.items worker seen (ap (λ m. m.0.known) made) c.settle.ensures.settled
