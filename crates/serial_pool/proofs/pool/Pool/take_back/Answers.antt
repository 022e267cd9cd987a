use Rattle.std.proofs.Common.{◌≡◌, ◌≤◌, ◌<◌, ◌^◌, ◌+◌, ◌-◌, ◌++◌, ℕ, List, length, length-append, take, vec_len, cond, ap, ap₂, sym, ◌∙◌, subst, arith}
use Rattle.std.specs.Prelude.{bytes_eq, map, vec_capacity}
use Rattle.serial_pool.specs.declared.drawn.DrawnSerial.{DrawnSerial}
use Rattle.serial_pool.specs.Index.{hash_in, count_of, IsKept}
use Rattle.serial_pool.specs.Held.{PoolView, PlanView, IsDrawn, IsPlanFor, had_of, drawn_count, drawn_for}
use Rattle.serial_pool.proofs.Holding.{drawn_before, kept_before, plan_again, cut_is, own_after}
use Rattle.serial_pool.proofs.pool.Pool.take_back.Goals as goal

pub overflow_cast-count : goal.overflow_cast-count
overflow_cast-count c =
    let done = c.args.done in
    let pairs = c.self.inside.drawn.items in
    let before = c.requires.last.before in
    let last : pairs ≡ before ++ drawn_for done.gtin done.serials = ap (λ (v : PoolView). v.drawn) c.self.view_is ∙ c.requires.last.is in
    let size : c.len-count.result ≡ length done.serials = c.len-count.ensures ∙ ap (λ (p : PlanView). length p.serials) c.done.view_is in
    let own : had_of done.gtin pairs ≡ had_of done.gtin before ++ done.serials = own_after done.gtin before pairs done.serials last in
    let long : drawn_count done.gtin pairs ≡ drawn_count done.gtin before + length done.serials = ap length own ∙ length-append (had_of done.gtin before) done.serials in
    let few : drawn_count done.gtin pairs < 2 ^ 32 = c.self.invariant.0.few done.gtin in
    omega (arith, size, long, few)

pub lower-requires-clause-least : goal.lower-requires-clause-least
lower-requires-clause-least c =
    let done = c.args.done in
    let pairs = c.self.inside.drawn.items in
    let before = c.requires.last.before in
    let last : pairs ≡ before ++ drawn_for done.gtin done.serials = ap (λ (v : PoolView). v.drawn) c.self.view_is ∙ c.requires.last.is in
    let size : c.len-count.result ≡ length done.serials = c.len-count.ensures ∙ ap (λ (p : PlanView). length p.serials) c.done.view_is in
    let own : had_of done.gtin pairs ≡ had_of done.gtin before ++ done.serials = own_after done.gtin before pairs done.serials last in
    let long : drawn_count done.gtin pairs ≡ drawn_count done.gtin before + length done.serials = ap length own ∙ length-append (had_of done.gtin before) done.serials in
    let gtin : c.done.inside.gtin ≡ done.gtin = ap (λ (p : PlanView). p.gtin) c.done.view_is in
    let counted : count_of c.done.inside.gtin c.self.inside.tally ≡ drawn_count done.gtin pairs = ap (λ g. count_of g c.self.inside.tally) gtin ∙ c.self.invariant.1.counted done.gtin in
    omega (arith, size, long, counted)

pub invariant_of-self : goal.invariant_of-self
invariant_of-self c =
    let done = c.args.done in
    let pairs = c.self.inside.drawn.items in
    let before = c.requires.last.before in
    let last : pairs ≡ before ++ drawn_for done.gtin done.serials = ap (λ (v : PoolView). v.drawn) c.self.view_is ∙ c.requires.last.is in
    let size : c.len-count.result ≡ length done.serials = c.len-count.ensures ∙ ap (λ (p : PlanView). length p.serials) c.done.view_is in
    let n : ℕ = vec_len c.self.inside.drawn - c.len-count.result in
    let cut : c.cut_off.new.drawn.items ≡ before = c.cut_off.ensures.items ∙ cut_is pairs before done n last (omega (arith, c.self.inside.drawn.ok.0, size)) in
    let counted : (gtin : List ℕ) → count_of gtin c.lower.new.self + cond (bytes_eq gtin done.gtin) (length done.serials) 0 ≡ count_of gtin c.self.inside.tally = λ gtin.
    ap₂ (λ (g : List ℕ) (n : ℕ). count_of gtin c.lower.new.self + cond (bytes_eq gtin g) n 0) (sym (ap (λ (p : PlanView). p.gtin) c.done.view_is)) (sym size) ∙ c.lower.ensures.counts gtin in
    let spare : c.cut_off.new.table.room ≡ c.self.inside.table.room + length done.serials = c.cut_off.ensures.room ∙ ap (λ n. c.self.inside.table.room + n) size in
    subst (λ (xs : List DrawnSerial). IsDrawn xs × IsKept xs c.cut_off.new.table c.lower.new.self (c.self.inside.room + c.len-count.result) (vec_capacity c.cut_off.new.drawn)) (sym cut) (
      drawn_before pairs before done c.self.invariant.0 last,
      kept_before pairs before done c.self.inside.table c.cut_off.new.table c.self.inside.tally c.lower.new.self c.self.inside.room (c.self.inside.room + c.len-count.result) _ _ c.self.invariant.1 last (c.cut_off.ensures.hashed ∙ ap (map hash_in) cut) spare counted c.cut_off.ensures.capacity (ap (λ n. c.self.inside.room + n) size),
    )

pub returns-clause-made_for : goal.returns-clause-made_for
returns-clause-made_for c =
    let done = c.args.done in
    let pairs = c.self.inside.drawn.items in
    let before = c.requires.last.before in
    let last : pairs ≡ before ++ drawn_for done.gtin done.serials = ap (λ (v : PoolView). v.drawn) c.self.view_is ∙ c.requires.last.is in
    let size : c.len-count.result ≡ length done.serials = c.len-count.ensures ∙ ap (λ (p : PlanView). length p.serials) c.done.view_is in
    let n : ℕ = vec_len c.self.inside.drawn - c.len-count.result in
    let cut : c.cut_off.new.drawn.items ≡ before = c.cut_off.ensures.items ∙ cut_is pairs before done n last (omega (arith, c.self.inside.drawn.ok.0, size)) in
    subst (λ (xs : List DrawnSerial). IsPlanFor xs (record { gtin = c.done.inside.gtin; serials = c.done.inside.serials })) (sym cut) (subst (λ (p : PlanView). IsPlanFor before p) (sym c.done.view_is) (plan_again pairs before done c.self.invariant.0 last))
