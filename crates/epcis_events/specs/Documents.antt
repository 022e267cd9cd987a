-- The JSON of events and documents (a profile after EPCIS 2.0 and CBV 2.0).
use Rattle.std.specs.Prelude.{◌≡◌, ◌≤◌, ℕ, Bool, true, false, List, [], ◌∷◌, ◌++◌, slice_index, Option, None, Some, is_some, codes, if◌then◌else◌, ◌==◌, All}
use Rattle.std.specs.Option.{ForSome}
use Rattle.serde_json.specs.Data.{Data, string, array, object, Items, no_items, item, Members, no_members, member, put}
use Rattle.serde_json.specs.Written.{compact_text, comma_if}
use Rattle.epc_urn.specs.declared.epc.Epc.{Epc}
use Rattle.epc_urn.specs.declared.epc.Epc.TheVariants.{Unit as Box}
use Rattle.epc_urn.specs.Urns.{urn_text, sgln_text, IsPrefixLength}
use Rattle.gs1_element.specs.Dates.{two_digits, days_in, is_expiry}
use Rattle.deed_words.specs.Names.{Text}
use Rattle.deed_words.specs.Setups.{is_offset}
use Rattle.epcis_events.specs.declared.event.Action.{Action}
use Rattle.epcis_events.specs.declared.event.Action.TheVariants.{Add, Observe, Delete}
use Rattle.epcis_events.specs.declared.event.Step.{Step}
use Rattle.epcis_events.specs.declared.event.Step.TheVariants as step
use Rattle.epcis_events.specs.declared.event.Disposition.{Disposition}
use Rattle.epcis_events.specs.declared.event.Disposition.TheVariants as disposition
use Rattle.epcis_events.specs.declared.event.Event.{Event}
use Rattle.epcis_events.specs.Moment.{two_digit, moment_text}

-- ---- words

unfoldable pub action_word : Action → Text
action_word Add = codes "ADD"
action_word Observe = codes "OBSERVE"
action_word Delete = codes "DELETE"

unfoldable pub step_word : Step → Text
step_word step.Commissioning = codes "commissioning"
step_word step.Packing = codes "packing"
step_word step.Unpacking = codes "unpacking"
step_word step.Inspecting = codes "inspecting"
step_word step.Destroying = codes "destroying"
step_word step.Decommissioning = codes "decommissioning"
step_word step.Shipping = codes "shipping"
step_word step.VoidShipping = codes "void_shipping"

unfoldable pub disposition_word : Disposition → Text
disposition_word disposition.Active = codes "active"
disposition_word disposition.InProgress = codes "in_progress"
disposition_word disposition.NonSellableOther = codes "non_sellable_other"
disposition_word disposition.Destroyed = codes "destroyed"
disposition_word disposition.Inactive = codes "inactive"
disposition_word disposition.InTransit = codes "in_transit"

unfoldable pub type_word : Bool → Text
type_word true = codes "AggregationEvent"
type_word false = codes "ObjectEvent"

-- the member that lists what an event is about
unfoldable pub list_word : Bool → Text
list_word true = codes "childEPCs"
list_word false = codes "epcList"

-- ---- values

-- the day that an expiry stands for, 00 being the last of its month
unfoldable pub day_meant : List ℕ → ℕ
day_meant expiry = if two_digits expiry 4 == 0 then days_in (two_digits expiry 0) (two_digits expiry 2) else two_digits expiry 4

-- `20YY-MM-DD`
unfoldable pub date_of : List ℕ → Text
date_of expiry = 50 ∷ 48 ∷ slice_index expiry 0 ∷ slice_index expiry 1 ∷ 45 ∷ slice_index expiry 2 ∷ slice_index expiry 3 ∷ 45 ∷ two_digit (day_meant expiry)

-- the URNs of names, as the items of an array
abbrev pub urns_of : List (Epc × ℕ) → Items
urns_of [] = no_items
urns_of (named ∷ more) = item (string (urn_text named.0 named.1)) (urns_of more)

abbrev pub place_data : Text × ℕ → Data
place_data place = object (member (codes "id") (string (sgln_text place.0 place.1)) no_members)

abbrev pub ilmd_data : Text × List ℕ → Data
ilmd_data told = object (member (codes "cbvmda:itemExpirationDate") (string (date_of told.1)) (member (codes "cbvmda:lotNumber") (string told.0) no_members))

-- ---- events

-- a key and its value
abbrev pub Told : Type 0
Told = List ℕ × Data

-- the members, and each of these put at its key
abbrev pub with_told : Members → List Told → Members
with_told members [] = members
with_told members (one ∷ told) = with_told (put one.0 one.1 members) told

abbrev pub parent_told : Option (Text × ℕ) → List Told
parent_told None = []
parent_told (Some parent) = (codes "parentID", string (urn_text (Box parent.0) parent.1)) ∷ []

abbrev pub ilmd_told : Option (Text × List ℕ) → List Told
ilmd_told None = []
ilmd_told (Some told) = (codes "ilmd", ilmd_data told) ∷ []

-- what it did
abbrev pub doing_told : Event → List Told
doing_told event =
    (codes "action", string (action_word event.action)) ∷ (codes "bizStep", string (step_word event.step)) ∷ (codes "disposition", string (disposition_word event.disposition)) ∷ []

-- where
abbrev pub where_told : Event → List Told
where_told event = (codes "bizLocation", place_data event.place) ∷ (codes "readPoint", place_data event.place) ∷ []

-- when
abbrev pub when_told : Event → List Told
when_told event = (codes "eventTime", string (moment_text event.time)) ∷ (codes "eventTimeZoneOffset", string event.offset) ∷ []

-- and to what
abbrev pub list_told : Event → List Told
list_told event = (codes "type", string (type_word event.aggregation)) ∷ (list_word event.aggregation, array (urns_of event.epcs)) ∷ []

-- an event: its members by the order of the bytes of their keys
unfoldable pub event_data : Event → Data
event_data event =
    object (with_told (with_told (with_told (with_told (with_told (with_told no_members (doing_told event)) (where_told event)) (when_told event)) (list_told event)) (parent_told event.parent)) (ilmd_told event.ilmd))

-- ---- documents

abbrev pub events_data : List Event → Items
events_data [] = no_items
events_data (event ∷ events) = item (event_data event) (events_data events)

unfoldable pub document_data : List Event → ℕ → Data
document_data events created =
    object (member (codes "@context") (array (item (string (codes "https://ref.gs1.org/standards/epcis/2.0.0/epcis-context.jsonld")) no_items))
    (member (codes "creationDate") (string (moment_text created))
    (member (codes "epcisBody") (object (member (codes "eventList") (array (events_data events)) no_members))
    (member (codes "schemaVersion") (string (codes "2.0"))
    (member (codes "type") (string (codes "EPCISDocument")) no_members)))))

unfoldable pub document_text : List Event → ℕ → Text
document_text events created = compact_text (document_data events created)

-- ---- documents in parts

-- what stands in front of the events of a document that was created at that moment
unfoldable pub document_front : ℕ → Text
document_front created =
    codes "{\"@context\":[\"https://ref.gs1.org/standards/epcis/2.0.0/epcis-context.jsonld\"],\"creationDate\":"
    ++ compact_text (string (moment_text created))
    ++ codes ",\"epcisBody\":{\"eventList\":["

-- the texts of events, with a comma in front of each, and of the first where another one stands before
unfoldable pub events_text : Bool → List Event → Text
events_text later [] = []
events_text later (event ∷ events) = comma_if later ++ compact_text (event_data event) ++ events_text true events

-- what stands behind the events
abbrev pub document_back : Text
document_back = codes "]},\"schemaVersion\":\"2.0\",\"type\":\"EPCISDocument\"}"

-- ---- what is proper

abbrev pub IsInTime : ℕ → Type 0
IsInTime stamp = stamp ≤ 253402300799999

-- prefix lengths, the time, the offset and the expiry are in range, and an aggregation alone has a parent
pub record IsProperEvent (event : Event) : Type 0 where
  pub names : All (λ named. IsPrefixLength named.1) event.epcs
  pub parent : ForSome event.parent (λ parent. IsPrefixLength parent.1)
  pub parented : is_some event.parent ≡ event.aggregation
  pub place : IsPrefixLength event.place.1
  pub time : IsInTime event.time
  pub offset : is_offset event.offset ≡ true
  pub ilmd : ForSome event.ilmd (λ told. is_expiry told.1 ≡ true)
