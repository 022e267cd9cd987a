use Rattle.std.proofs.Common.{◌≡◌, ◌∙◌, List, ℕ, ap, sym, subst}
use Rattle.gs1_keys.specs.Forms.{AreDistinct, AreNew}
use Rattle.serial_pool.specs.Held.{PoolView, had_of}
use Rattle.serial_pool.proofs.Told.{draws_new, draws_texts}
use Rattle.serial_pool.proofs.Holding.{made_for}
use Rattle.serial_pool.proofs.pool.Pool.plan_draw.Goals as goal

pub returns-clause-new : goal.returns-clause-new
returns-clause-new g c =
    let serials = c.in_ok-plan.plan.serials in
    let had : had_of c.args.gtin.now c.as_slice.result.now ≡ had_of c.args.gtin.now c.args.self.now.drawn = ap (had_of c.args.gtin.now) (c.as_slice.ensures.value ∙ ap (λ (v : PoolView). v.drawn) c.self.view_is) in
    let once = subst AreDistinct (sym had) (c.drawn.ensures.once c.args.gtin.now) in
    let ends = c.in_ok-plan.ensures.draw in
    subst (λ (xs : List (List ℕ)). AreNew xs c.args.form.now serials) had
    (draws_new (had_of c.args.gtin.now c.as_slice.result.now) c.args.form.now c.args.count ends.0 serials once ends.2.1)

pub returns-clause-texts : goal.returns-clause-texts
returns-clause-texts g c = draws_texts (had_of c.args.gtin.now c.args.self.now.drawn) c.args.form.now c.in_ok-plan.plan.serials c.requires.form (returns-clause-new g c)

pub returns-clause-made_for : goal.returns-clause-made_for
returns-clause-made_for g c =
    let draw = c.in_ok-plan.ensures.draw.2.1 in
    made_for c.args.self.now.drawn c.make_room.new.self.drawn c.in_ok-plan.plan c.args.gtin.now c.args.form.now c.args.count
    c.make_room.ensures.drawn c.in_ok-plan.ensures.gtin (returns-clause-new g c) draw.enough c.requires.few
