use Rattle.std.proofs.Common.{sym, subst, List}
use Rattle.deed_words.specs.Names.{Text}
use Rattle.deed_words.specs.declared.deed.OrderRow.{OrderRow}
use Rattle.deed_words.specs.declared.words.Phase.TheVariants.{Started}
use Rattle.pack_tree.specs.declared.node.Node.{Node}
use Rattle.pack_tree.specs.declared.link.Taken.{Taken}
use Rattle.pack_tree.specs.Many.{MayPut, MayTake}
use Rattle.site_stores.specs.Holding.{packed_in}
use Rattle.site_stores.specs.declared.change.Turn.{Turn}
use Rattle.site_stores.specs.Changes.{MayTurn, MayOrder, MayDraw}
use Rattle.site_stores.proofs.Applying.{may_turn, may_put, may_take, may_phase, may_amend, may_mark, may_say, may_make, may_order, may_draw, phased_there, phased_at, open_there, open_at, marked_there}
use Rattle.site_stores.proofs.stores.Stores.apply.Goals as goal

pub turn-requires : goal.turn-requires
turn-requires c = record { may = subst (λ (ts : List Turn). MayTurn c.args.self.now.content.rows ts) (sym c.as_slice.ensures) (may_turn c.args.self.now.content c.args.change.now c.in-Turned.turns c.in-Turned.is c.requires.may) }

pub put-requires : goal.put-requires
put-requires c = record { may = subst (λ (ns : List Node). MayPut (packed_in c.args.self.now.content) c.in-Put.unit ns) (sym c.as_slice-in-Put.ensures) (may_put c.args.self.now.content c.args.change.now c.in-Put.unit c.in-Put.nodes c.in-Put.is c.requires.may) }

pub take-requires : goal.take-requires
take-requires c = record { may = subst (λ (ts : List Taken). MayTake (packed_in c.args.self.now.content) ts) (sym c.as_slice-in-Taken.ensures) (may_take c.args.self.now.content c.args.change.now c.in-Taken.gone c.in-Taken.is c.requires.may) }

pub set_phase-requires : goal.set_phase-requires
set_phase-requires c = phased_there c.args.self.now.content c.in-Phased.batch _ (may_phase c.args.self.now.content c.args.change.now c.in-Phased.batch _ _ c.in-Phased.is c.requires.may)

pub set_quantity-requires-clause-range : goal.set_quantity-requires-clause-range
set_quantity-requires-clause-range c = open_there c.args.self.now.content c.in-Amended.batch _ (may_amend c.args.self.now.content c.args.change.now c.in-Amended.batch _ _ c.in-Amended.is c.requires.may)

pub set_quantity-requires-clause-open : goal.set_quantity-requires-clause-open
set_quantity-requires-clause-open c = open_at c.args.self.now.content c.in-Amended.batch _ (may_amend c.args.self.now.content c.args.change.now c.in-Amended.batch _ _ c.in-Amended.is c.requires.may)

pub set_mark-requires : goal.set_mark-requires
set_mark-requires c = marked_there c.args.self.now.content c.in-Marked.unit _ (may_mark c.args.self.now.content c.args.change.now c.in-Marked.unit _ _ c.in-Marked.is c.requires.may)

pub say-requires-clause-range : goal.say-requires-clause-range
say-requires-clause-range c = phased_there c.args.self.now.content c.in-Said.batch Started (may_say c.args.self.now.content c.args.change.now c.in-Said.batch _ _ c.in-Said.is c.requires.may)

pub say-requires-clause-started : goal.say-requires-clause-started
say-requires-clause-started c = phased_at c.args.self.now.content c.in-Said.batch Started (may_say c.args.self.now.content c.args.change.now c.in-Said.batch _ _ c.in-Said.is c.requires.may)

pub make-requires-clause-there : goal.make-requires-clause-there
make-requires-clause-there c = (may_make c.args.self.now.content c.args.change.now c.in-Made.sscc c.in-Made.batch _ c.in-Made.is c.requires.may).there

pub make-requires-clause-new : goal.make-requires-clause-new
make-requires-clause-new c = (may_make c.args.self.now.content c.args.change.now c.in-Made.sscc c.in-Made.batch _ c.in-Made.is c.requires.may).new

pub order-requires-clause-may : goal.order-requires-clause-may
order-requires-clause-may c = subst (λ (os : List OrderRow). MayOrder c.args.self.now.content.batches os) (sym c.as_slice-in-Ordered.ensures) (may_order c.args.self.now.content c.args.change.now c.in-Ordered.orders c.in-Ordered.is c.requires.may)

pub draw-requires-clause-there : goal.draw-requires-clause-there
draw-requires-clause-there c = (may_draw c.args.self.now.content c.args.change.now c.in-Drawn.batch _ _ c.in-Drawn.is c.requires.may).there

pub draw-requires-clause-may : goal.draw-requires-clause-may
draw-requires-clause-may c = subst (λ (ss : List Text). MayDraw c.in-Drawn.batch c.in-Drawn.gtin c.args.self.now.content.rows ss) (sym c.as_slice-in-Drawn.ensures) (may_draw c.args.self.now.content c.args.change.now c.in-Drawn.batch c.in-Drawn.gtin c.in-Drawn.serials c.in-Drawn.is c.requires.may).may
