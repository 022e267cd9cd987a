use Rattle.std.proofs.Common.{◌≡◌, ℕ, ◌<◌, List, length, get_or, refl, sym, ap, subst, ◌∙◌, arith}
use Rattle.item_store.specs.declared.row.ItemRow.{ItemRow}
use Rattle.item_store.specs.Rows.{Store, batch_in, batches, moved_row, changed}
use Rattle.item_store.specs.Cells.{state_cell, line_cell, raised, lowered}
use Rattle.item_store.specs.Store.{AreBehind, back_to}
use Rattle.deed_words.specs.declared.words.State.TheVariants.{Fresh}
use Rattle.std.proofs.lemmas.List.{get_or-map, get_or-set_same}
use Rattle.item_store.proofs.Tallies.{low_fits}
use Rattle.item_store.proofs.Changes.{changed_is, batches_set, store_set, behind_set, behind_back}
use Rattle.item_store.proofs.items.Items.set_row.Goals as goal

pub raise-requires : goal.raise-requires
raise-requires c = λ l. low_fits state_cell c.self.inside.rows.items c.self.inside.by_state.items c.self.invariant.by_state _ _ _ (omega (arith, c.self.invariant.few)) c.lower.ensures l

pub raise-requires-2 : goal.raise-requires-2
raise-requires-2 c = λ l. low_fits line_cell c.self.inside.rows.items c.self.inside.by_line.items c.self.invariant.by_line _ _ _ (omega (arith, c.self.invariant.few)) c.lower-2.ensures l

pub invariant_of-self : goal.invariant_of-self
invariant_of-self c =
    let at : ℕ = c.item.inside.0 in
    let within : at < length c.self.inside.rows.items = subst (λ n. n < length c.self.inside.rows.items) (sym c.item.view_is) (subst (λ (v : Store). c.args.item < length v.rows) (sym c.self.view_is) c.requires.range) in
    let old = c.index.result.now in
    let new : ItemRow = moved_row old c.args.line c.args.state in
    store_set c.self.inside.rows.items at old new within c.index.ensures refl _ _ _ _ _ _ _ _ _ _ _ _ c.self.invariant refl refl refl refl
    (c.raise.ensures ∙ ap (raised c.lower.new.cells.items) c.state_cell-2.ensures ∙ ap (λ (xs : List ℕ). raised xs (state_cell new)) (c.lower.ensures ∙ ap (lowered c.self.inside.by_state.items) c.state_cell.ensures))
    (c.raise-2.ensures ∙ ap (raised c.lower-2.new.cells.items) c.line_cell-2.ensures ∙ ap (λ (xs : List ℕ). raised xs (line_cell new)) (c.lower-2.ensures ∙ ap (lowered c.self.inside.by_line.items) c.line_cell.ensures))
    c.requires.lined
    (subst (λ (xs : List ItemRow). AreBehind xs c.settle.new.cursors.items) c.as_slice.ensures.value c.settle.ensures)

pub returns-clause-rows : goal.returns-clause-rows
returns-clause-rows c =
    let at : ℕ = c.item.inside.0 in
    let within : at < length c.self.inside.rows.items = subst (λ n. n < length c.self.inside.rows.items) (sym c.item.view_is) (subst (λ (v : Store). c.args.item < length v.rows) (sym c.self.view_is) c.requires.range) in
    sym (changed_is c.self.inside.rows.items at c.index.result.now c.args.line c.args.state within c.index.ensures)
    ∙ ap (λ n. changed c.self.inside.rows.items n c.args.line c.args.state) c.item.view_is
    ∙ ap (λ (v : Store). changed v.rows c.args.item c.args.line c.args.state) c.self.view_is

pub settle-requires-clause-grouped : goal.settle-requires-clause-grouped
settle-requires-clause-grouped c =
    let at : ℕ = c.item.inside.0 in
    let within : at < length c.self.inside.rows.items = subst (λ n. n < length c.self.inside.rows.items) (sym c.item.view_is) (subst (λ (v : Store). c.args.item < length v.rows) (sym c.self.view_is) c.requires.range) in
    let old = c.index.result.now in
    let new : ItemRow = moved_row old c.args.line c.args.state in
    c.self.invariant.grouped ∙ sym (batches_set c.self.inside.rows.items at old new within c.index.ensures refl refl) ∙ ap batches (sym c.as_slice.ensures.value)

pub settle-requires-clause-own : goal.settle-requires-clause-own
settle-requires-clause-own c = λ l.
    let rows = c.self.inside.rows.items in
    let at : ℕ = c.item.inside.0 in
    let within : at < length rows = subst (λ n. n < length rows) (sym c.item.view_is) (subst (λ (v : Store). c.args.item < length v.rows) (sym c.self.view_is) c.requires.range) in
    let old = c.index.result.now in
    let same : batches c.as_slice.result.now ≡ batches rows = sym (settle-requires-clause-grouped c) ∙ c.self.invariant.grouped in
    ap (λ (gs : List ℕ). get_or gs at 0) same ∙ get_or-map batch_in rows at old 0 within ∙ ap batch_in (sym c.index.ensures)

pub settle-requires-clause-others : goal.settle-requires-clause-others
settle-requires-clause-others c =
    let at : ℕ = c.item.inside.0 in
    let within : at < length c.self.inside.rows.items = subst (λ n. n < length c.self.inside.rows.items) (sym c.item.view_is) (subst (λ (v : Store). c.args.item < length v.rows) (sym c.self.view_is) c.requires.range) in
    let cs = c.self.inside.cursors.items in
    let new : ItemRow = moved_row c.index.result.now c.args.line c.args.state in
    subst (λ (xs : List ItemRow). AreBehind xs (back_to cs new.batch at)) (sym c.as_slice.ensures.value) (behind_back c.self.inside.rows.items cs at new c.self.invariant.fresh within)

pub settle-requires-clause-moved : goal.settle-requires-clause-moved
settle-requires-clause-moved c = λ h.
    let rows = c.self.inside.rows.items in
    let at : ℕ = c.item.inside.0 in
    let within : at < length rows = subst (λ n. n < length rows) (sym c.item.view_is) (subst (λ (v : Store). c.args.item < length v.rows) (sym c.self.view_is) c.requires.range) in
    let cs = c.self.inside.cursors.items in
    let new : ItemRow = moved_row c.index.result.now c.args.line c.args.state in
    let read : get_or c.as_slice.result.now at new ≡ new = ap (λ (xs : List ItemRow). get_or xs at new) c.as_slice.ensures.value ∙ get_or-set_same rows at new new within in
    let stale : new.state ≡ Fresh → ⊥ = subst (λ (r : ItemRow). r.state ≡ Fresh → ⊥) read (h new) in
    subst (λ (xs : List ItemRow). AreBehind xs cs) (sym c.as_slice.ensures.value) (behind_set rows cs at new c.self.invariant.fresh within stale)
