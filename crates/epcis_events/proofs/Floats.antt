-- No event has a float.
use Rattle.std.proofs.Common.{◌≡◌, ℕ, Bool, true, false, ◌||◌, List, [], ◌∷◌, refl, Option, None, Some}
use Rattle.std.specs.Ordering.{match_ordering, nat_cmp}
use Rattle.std.proofs.Common.{Less, Equal, Greater}
use Rattle.std.specs.Cmp.Lexicographic.{slice_cmp}
use Rattle.std.specs.List.{AllByRecursion as Every}
use Rattle.serde_json.specs.Data.{Data, Members, no_members, member, put}
use Rattle.serde_json.specs.Written.{has_float, items_have_float, members_have_float}
use Rattle.epc_urn.specs.declared.epc.Epc.{Epc}
use Rattle.deed_words.specs.Names.{Text}
use Rattle.epcis_events.specs.declared.event.Event.{Event}
use Rattle.epcis_events.specs.Documents.{Told, urns_of, with_told, parent_told, ilmd_told, doing_told, where_told, when_told, list_told, event_data}

urns_have_no_float : (named : List (Epc × ℕ)) → items_have_float (urns_of named) ≡ false
urns_have_no_float [] = refl
urns_have_no_float (one ∷ named) = urns_have_no_float named

-- a member put among others
put_has_no_float : (key : List ℕ) (value : Data) (members : Members) → has_float value ≡ false → members_have_float members ≡ false → members_have_float (put key value members) ≡ false
put_has_no_float key value no_members e f = rw e refl
put_has_no_float key value (member other one more) e f =
    let p = or_parts (has_float one) (members_have_float more) f in
    let rest = put_has_no_float key value more e p.1 in
    elim (slice_cmp nat_cmp key other) as (λ o. members_have_float (match_ordering o (member key value (member other one more)) (member other value more) (member other one (put key value more))) ≡ false) [
      | Less ↦ rw (e, p.0) p.1
      | Equal ↦ rw e p.1
      | Greater ↦ rw (p.0) rest
    ]
  where
    or_parts : (a b : Bool) → (a || b) ≡ false → (a ≡ false) × (b ≡ false)
    or_parts true b e = absurd cc
    or_parts false b e = (refl, e)

told_has_no_float : (members : Members) (told : List Told) → members_have_float members ≡ false → Every (λ (one : Told). has_float one.1 ≡ false) told → members_have_float (with_told members told) ≡ false
told_has_no_float so_far [] e a = e
told_has_no_float so_far (one ∷ told) e a = told_has_no_float (put one.0 one.1 so_far) told (put_has_no_float one.0 one.1 so_far a.0 e) a.1

parent_has_no_float : (parent : Option (Text × ℕ)) → Every (λ (one : Told). has_float one.1 ≡ false) (parent_told parent)
parent_has_no_float None = tt
parent_has_no_float (Some p) = (refl, tt)

ilmd_has_no_float : (ilmd : Option (Text × List ℕ)) → Every (λ (one : Told). has_float one.1 ≡ false) (ilmd_told ilmd)
ilmd_has_no_float None = tt
ilmd_has_no_float (Some told) = (refl, tt)

pub event_has_no_float : (event : Event) → has_float (event_data event) ≡ false
unfolding event_data
event_has_no_float event =
    let a : Members = with_told no_members (doing_told event) in
    let b : Members = with_told a (where_told event) in
    let c : Members = with_told b (when_told event) in
    let d : Members = with_told c (list_told event) in
    let e : Members = with_told d (parent_told event.parent) in
    let one = told_has_no_float no_members (doing_told event) refl (refl, (refl, (refl, tt))) in
    let two = told_has_no_float a (where_told event) one (refl, (refl, tt)) in
    let three = told_has_no_float b (when_told event) two (refl, (refl, tt)) in
    let four = told_has_no_float c (list_told event) three (refl, (urns_have_no_float event.epcs, tt)) in
    let five = told_has_no_float d (parent_told event.parent) four (parent_has_no_float event.parent) in
    told_has_no_float e (ilmd_told event.ilmd) five (ilmd_has_no_float event.ilmd)
