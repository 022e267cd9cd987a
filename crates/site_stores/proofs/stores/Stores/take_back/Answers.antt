use Rattle.std.proofs.Common.{◌-◌, All, length, sym, subst, List}
use Rattle.deed_words.specs.Names.{Text}
use Rattle.deed_words.specs.declared.deed.OrderRow.{OrderRow}
use Rattle.pack_tree.specs.declared.node.Node.{Node}
use Rattle.pack_tree.specs.declared.link.Taken.{Taken}
use Rattle.pack_tree.specs.Many.{WerePut, WereTaken}
use Rattle.pack_tree.specs.Packing.{IsThereIn}
use Rattle.site_stores.specs.Holding.{packed_in}
use Rattle.site_stores.specs.declared.change.Turn.{Turn}
use Rattle.site_stores.specs.Changes.{WereTurned, WereOrdered, AreUnused, WereDrawn}
use Rattle.site_stores.proofs.Applying.{were_turned, were_put, were_taken, was_phased, was_amended, still_open, was_marked, made_alone, made_empty, were_ordered, ordered_unused, were_drawn, drawn_unpacked}
use Rattle.site_stores.proofs.stores.Stores.take_back.Goals as goal

pub turn_back-requires : goal.turn_back-requires
turn_back-requires c = record { done = subst (λ (ts : List Turn). WereTurned c.args.self.now.content.rows ts) (sym c.as_slice.ensures) (were_turned c.args.self.now.content c.args.change.now c.in-Turned.turns c.in-Turned.is c.requires) }

pub unput-requires : goal.unput-requires
unput-requires c = record { put = subst (λ (ns : List Node). WerePut (packed_in c.args.self.now.content) c.in-Put.unit ns) (sym c.as_slice-in-Put.ensures) (were_put c.args.self.now.content c.args.change.now c.in-Put.unit c.in-Put.nodes c.in-Put.is c.requires) }

pub untake-requires : goal.untake-requires
untake-requires c = record { taken = subst (λ (ts : List Taken). WereTaken (packed_in c.args.self.now.content) ts) (sym c.as_slice-in-Taken.ensures) (were_taken c.args.self.now.content c.args.change.now c.in-Taken.gone c.in-Taken.is c.requires) }

pub set_phase-requires : goal.set_phase-requires
set_phase-requires c = was_phased c.args.self.now.content c.args.change.now c.in-Phased.batch _ _ c.in-Phased.is c.requires

pub set_quantity-requires-clause-range : goal.set_quantity-requires-clause-range
set_quantity-requires-clause-range c = was_amended c.args.self.now.content c.args.change.now c.in-Amended.batch _ _ c.in-Amended.is c.requires

pub set_quantity-requires-clause-open : goal.set_quantity-requires-clause-open
set_quantity-requires-clause-open c = still_open c.args.self.now.content c.args.change.now c.in-Amended.batch _ _ c.in-Amended.is c.requires

pub set_mark-requires : goal.set_mark-requires
set_mark-requires c = was_marked c.args.self.now.content c.args.change.now c.in-Marked.unit _ _ c.in-Marked.is c.requires

pub unmake-requires-clause-alone : goal.unmake-requires-clause-alone
unmake-requires-clause-alone c = made_alone c.args.self.now.content c.args.change.now _ _ _ c.in-Made.is c.requires

pub unmake-requires-clause-empty : goal.unmake-requires-clause-empty
unmake-requires-clause-empty c = made_empty c.args.self.now.content c.args.change.now _ _ _ c.in-Made.is c.requires

pub unorder-requires-clause-done : goal.unorder-requires-clause-done
unorder-requires-clause-done c = subst (λ (os : List OrderRow). WereOrdered c.args.self.now.content.batches os) (sym c.as_slice-in-Ordered.ensures) (were_ordered c.args.self.now.content c.args.change.now c.in-Ordered.orders c.in-Ordered.is c.requires)

pub unorder-requires-clause-unused : goal.unorder-requires-clause-unused
unorder-requires-clause-unused c = subst (λ (os : List OrderRow). AreUnused c.args.self.now.content (length os)) (sym c.as_slice-in-Ordered.ensures) (ordered_unused c.args.self.now.content c.args.change.now c.in-Ordered.orders c.in-Ordered.is c.requires)

pub undraw-requires-clause-done : goal.undraw-requires-clause-done
undraw-requires-clause-done c = subst (λ (ss : List Text). WereDrawn c.in-Drawn.batch c.in-Drawn.gtin c.args.self.now.content.rows ss) (sym c.as_slice-in-Drawn.ensures) (were_drawn c.args.self.now.content c.args.change.now c.in-Drawn.batch c.in-Drawn.gtin c.in-Drawn.serials c.in-Drawn.is c.requires)

pub undraw-requires-clause-unpacked : goal.undraw-requires-clause-unpacked
undraw-requires-clause-unpacked c = subst (λ (ss : List Text). All (IsThereIn (length c.args.self.now.content.rows - length ss) (length c.args.self.now.content.units)) c.args.self.now.content.links) (sym c.as_slice-in-Drawn.ensures) (drawn_unpacked c.args.self.now.content c.args.change.now c.in-Drawn.batch c.in-Drawn.gtin c.in-Drawn.serials c.in-Drawn.is c.requires)
