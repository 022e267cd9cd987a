-- The event of a move (EPCIS 2.0), by a table of deeds.
use Rattle.std.specs.Prelude.{ℕ, true, false, List, map, length, Option, None, Some, option_map, filter_map}
use Rattle.std.specs.Option.{option_map_or}
use Rattle.epc_urn.specs.declared.epc.Epc.{Epc}
use Rattle.epc_urn.specs.declared.epc.Epc.TheVariants.{Item, Unit as Box}
use Rattle.deed_words.specs.Names.{Text}
use Rattle.deed_words.specs.Setups.{Setup, product_of}
use Rattle.deed_words.specs.declared.deed.OrderRow.{OrderRow}
use Rattle.deed_words.specs.declared.entry.Entry.{Entry}
use Rattle.deed_words.specs.declared.entry.Move.{Move}
use Rattle.deed_words.specs.declared.deed.Deed.{Deed}
use Rattle.deed_words.specs.declared.deed.Deed.TheVariants.{Commission, Sample, Reject, Reinstate, Destroy, Decommission, Container as MakeUnit, Pack, Unpack, UnpackAll, Void}
use Rattle.epcis_events.specs.declared.event.Action.TheVariants.{Add, Observe, Delete}
use Rattle.epcis_events.specs.declared.event.Step.TheVariants as step
use Rattle.epcis_events.specs.declared.event.Disposition.TheVariants as disposition
use Rattle.epcis_events.specs.declared.event.Event.{Event}
use Rattle.epcis_events.specs.declared.event.Kind.{Kind}
use Rattle.deed_words.specs.Happenings.{moves, moves_of}

-- what kind of event a deed has
unfoldable pub kind_of : Deed → Option Kind
kind_of (Commission name codes) = Some (record { aggregation = false; action = Add; step = step.Commissioning; disposition = disposition.Active })
kind_of (MakeUnit name level) = Some (record { aggregation = false; action = Add; step = step.Commissioning; disposition = disposition.Active })
kind_of (Pack unit children) = Some (record { aggregation = true; action = Add; step = step.Packing; disposition = disposition.InProgress })
kind_of (Unpack unit children) = Some (record { aggregation = true; action = Delete; step = step.Unpacking; disposition = disposition.InProgress })
kind_of (UnpackAll unit) = Some (record { aggregation = true; action = Delete; step = step.Unpacking; disposition = disposition.InProgress })
kind_of (Sample name items) = Some (record { aggregation = false; action = Observe; step = step.Inspecting; disposition = disposition.NonSellableOther })
kind_of (Reject name items) = Some (record { aggregation = false; action = Observe; step = step.Inspecting; disposition = disposition.NonSellableOther })
kind_of (Reinstate name items) = Some (record { aggregation = false; action = Observe; step = step.Inspecting; disposition = disposition.InProgress })
kind_of (Destroy name items) = Some (record { aggregation = false; action = Delete; step = step.Destroying; disposition = disposition.Destroyed })
kind_of (Decommission name items) = Some (record { aggregation = false; action = Delete; step = step.Decommissioning; disposition = disposition.Inactive })
kind_of (Void unit) = Some (record { aggregation = false; action = Delete; step = step.Decommissioning; disposition = disposition.Inactive })
kind_of deed = None

-- the prefix length with which a name is written: its product's, or the site's
unfoldable pub length_of : Setup → Epc → ℕ
length_of site (Item gtin serial) = option_map_or (λ product. product.prefix_length) (product_of site gtin) 0
length_of site (Box sscc) = length site.prefix

unfoldable pub written_in : Setup → Epc → Epc × ℕ
written_in site name = (name, length_of site name)

-- lot and expiry, which a commission tells
unfoldable pub told_of : Deed → OrderRow → Option (Text × List ℕ)
told_of (Commission name codes) row = Some (row.lot, row.expiry)
told_of deed row = None

unfoldable pub event_in : Setup → Move → Kind → Event
event_in site moved kind = record {
  aggregation = kind.aggregation;
  action = kind.action;
  step = kind.step;
  disposition = kind.disposition;
  epcs = map (written_in site) moved.epcs;
  parent = option_map (λ sscc. (sscc, length site.prefix)) moved.parent;
  time = moved.kept.stamp;
  place = (site.gln, length site.prefix);
  offset = site.offset;
  ilmd = told_of moved.kept.deed moved.row;
}

-- the event of a move, where its deed has one
unfoldable pub event_of : Setup → Move → Option Event
event_of site moved = option_map (event_in site moved) (kind_of moved.kept.deed)

-- the events of a history, and those of a batch
unfoldable pub events : Setup → List Entry → List Event
events site history = filter_map (event_of site) (moves site history)

unfoldable pub events_of : Setup → List Entry → Text → List Event
events_of site history name = filter_map (event_of site) (moves_of site history name)
