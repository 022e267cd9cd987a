use Rattle.std.proofs.Common.{◌≡◌, ◌≤◌, ◌+◌, ◌-◌, ◌++◌, ℕ, List, length, cond, ap, ap₂, sym, ◌∙◌, subst, arith}
use Rattle.std.specs.Prelude.{bytes_eq}
use Rattle.serial_pool.specs.Index.{count_of}
use Rattle.serial_pool.specs.declared.drawn.DrawnSerial.{DrawnSerial}
use Rattle.serial_pool.specs.Held.{PoolView, PlanView, IsPlanFor, drawn_for}
use Rattle.serial_pool.proofs.Holding.{drawn_after, kept_after, own_after, others_after}
use Rattle.serial_pool.proofs.pool.Pool.commit_draw.Goals as goal

pub invariant_of-self : goal.invariant_of-self
invariant_of-self c =
    let plan = c.args.plan in
    let pairs = c.self.inside.drawn.items in
    let items : c.append.new.drawn.items ≡ pairs ++ drawn_for plan.gtin plan.serials = c.append.ensures.items ∙ ap (λ (p : PlanView). pairs ++ drawn_for p.gtin p.serials) c.plan.view_is in
    let made : IsPlanFor pairs plan = subst (λ (xs : List DrawnSerial). IsPlanFor xs plan) (sym (ap (λ (v : PoolView). v.drawn) c.self.view_is)) c.requires.made_for in
    let size : c.len-count.result ≡ length plan.serials = c.len-count.ensures ∙ ap (λ (p : PlanView). length p.serials) c.plan.view_is in
    let room : length plan.serials ≤ c.self.inside.room = subst (λ n. length plan.serials ≤ n) (sym (ap (λ (v : PoolView). v.room) c.self.view_is)) c.requires.room.serials in
    let left : length plan.serials + (c.self.inside.room - c.len-count.result) ≡ c.self.inside.room = omega (arith, size, room) in
    let spare : c.append.new.table.room + length plan.serials ≡ c.self.inside.table.room = ap (λ (p : PlanView). c.append.new.table.room + length p.serials) (sym c.plan.view_is) ∙ c.append.ensures.room in
    let counted : (gtin : List ℕ) → count_of gtin c.raise.new.self ≡ count_of gtin c.self.inside.tally + cond (bytes_eq gtin plan.gtin) (length plan.serials) 0 = λ gtin.
    c.raise.ensures.counts gtin ∙ ap₂ (λ (g : List ℕ) (n : ℕ). count_of gtin c.self.inside.tally + cond (bytes_eq gtin g) n 0) (ap (λ (p : PlanView). p.gtin) c.plan.view_is) size in (
      drawn_after pairs c.append.new.drawn.items plan c.self.invariant.0 made items,
      kept_after pairs c.append.new.drawn.items plan c.self.inside.table c.append.new.table c.self.inside.tally c.raise.new.self c.self.inside.room (c.self.inside.room - c.len-count.result) _ _ c.self.invariant.1 items c.append.ensures.hashed spare counted c.append.ensures.capacity left,
    )

pub returns-clause-own : goal.returns-clause-own
returns-clause-own c =
    let plan = c.args.plan in
    let pairs = c.args.self.now.drawn in
    own_after plan.gtin pairs c.append.new.drawn.items plan.serials
    (c.append.ensures.items
    ∙ ap (λ (p : PlanView). c.self.inside.drawn.items ++ drawn_for p.gtin p.serials) c.plan.view_is
    ∙ ap (λ (v : PoolView). v.drawn ++ drawn_for plan.gtin plan.serials) c.self.view_is)

pub returns-clause-others : goal.returns-clause-others
returns-clause-others c =
    let plan = c.args.plan in
    let pairs = c.args.self.now.drawn in
    λ gtin ne. others_after gtin plan.gtin pairs c.append.new.drawn.items plan.serials
    (c.append.ensures.items
    ∙ ap (λ (p : PlanView). c.self.inside.drawn.items ++ drawn_for p.gtin p.serials) c.plan.view_is
    ∙ ap (λ (v : PoolView). v.drawn ++ drawn_for plan.gtin plan.serials) c.self.view_is) ne

pub returns-clause-once : goal.returns-clause-once
returns-clause-once c = (invariant_of-self c).0.once
