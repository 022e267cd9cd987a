-- What stands in what after things were put in or taken out.
use Rattle.std.proofs.Common.{◌≡◌, Bool, true, false, cond, ◌&&◌, ◌||◌, not, List, [], ◌∷◌, ◌++◌, map, sym, ◌∙◌, ap, refl, Some, true≢false, append-nil}
use Rattle.std.specs.Prelude.{filter, find, option_map, if◌then◌else◌}
use Rattle.std.specs.List.{AllByRecursion as Every}
use Rattle.std.proofs.lemmas.List.Elements.{filter-append}
use Rattle.epc_urn.specs.declared.epc.Epc.{Epc}
use Rattle.deed_words.specs.declared.world.Pair.{Pair}
use Rattle.deed_words.specs.Setups.{Setup}
use Rattle.deed_words.specs.Names.{Text, same, same_name, is_among}
use Rattle.deed_words.specs.Chain.{holds_of, is_empty}
use Rattle.deed_words.specs.World.{World, parent, inside, unit_of, row_of}
use Rattle.deed_words.specs.Deeds.{batch_with}
use Rattle.deed_words.specs.Effects.{put_in, with_children, without_children, emptied}
use Rattle.deed_words.specs.Sound.{IsSound}
use Rattle.deed_words.proofs.Sameness.{same-true, same-from, same_name-itself, same_name_equiv}
use Rattle.deed_words.proofs.Items.{Every-weaker, Every-always, Every-map, finds_itself}
use Rattle.deed_words.proofs.Allowed.{at_found, among_every, not_false}
use Rattle.deed_words.proofs.SoundPairs.{filter-filter}
use Rattle.deed_words.proofs.ClosedKept.{filter_none, filter_same}
use Rattle.epcis_events.specs.declared.event.Action.TheVariants.{Add, Delete}
use Rattle.epcis_events.specs.Replaying.{Replayed, into, applied}
use Rattle.epcis_events.specs.There.{pair_up}
use Rattle.std.proofs.lemmas.List.{map-append}
use Rattle.epcis_events.proofs.Bools.{filters_swap, filter_all}
use Rattle.epcis_events.proofs.Parts.{Chosen, there_in, paired_in, IsReplayed}

new_pairs : (unit : Text) (children : List Epc) → map pair_up (map (put_in unit) children) ≡ map (into unit) children
new_pairs unit [] = refl
new_pairs unit (child ∷ children) = ap (λ (ps : List (Epc × Text)). (child, unit) ∷ ps) (new_pairs unit children)

filter_map_pairs : (test : Epc × Text → Bool) (ps : List Pair) → filter test (map pair_up ps) ≡ map pair_up (filter (λ (p : Pair). test (pair_up p)) ps)
filter_map_pairs test [] = refl
filter_map_pairs test (p ∷ ps) =
    let rest = filter_map_pairs test ps in
    elim (test (pair_up p)) as (λ b. cond b (pair_up p ∷ filter test (map pair_up ps)) (filter test (map pair_up ps)) ≡ map pair_up (cond b (p ∷ filter (λ (q : Pair). test (pair_up q)) ps) (filter (λ (q : Pair). test (pair_up q)) ps))) [
      | true ↦ ap (λ (qs : List (Epc × Text)). pair_up p ∷ qs) rest
      | false ↦ rest
    ]

-- things were put into a unit
pub packed : (mine : Chosen) (w : World) (r : Replayed) (unit : Text) (children : List Epc) → IsReplayed mine w r
    → IsReplayed mine (with_children w unit children) (if mine (batch_with w unit) then applied r true Add children (Some unit) else r)
unfolding applied paired_in with_children batch_with there_in unit_of row_of
packed mine w r unit children s =
    let test : Pair → Bool = λ p. mine (batch_with w p.parent) in
    let new : List Pair = map (put_in unit) children in
    (elim (mine (batch_with w unit)) as (λ b. mine (batch_with w unit) ≡ b → IsReplayed mine (with_children w unit children) (if b then record r { pairs = r.pairs ++ map (into unit) children } else r)) [
      | true ↦ λ e. record {
        pairs = ap (λ (ps : List (Epc × Text)). ps ++ map (into unit) children) s.pairs ∙ ap (λ (ps : List (Epc × Text)). map pair_up (filter test w.pairs) ++ ps) (sym (new_pairs unit children)) ∙ sym (map-append pair_up (filter test w.pairs) new) ∙ ap (λ (ps : List Pair). map pair_up (filter test w.pairs ++ ps)) (sym (filter_all test new (Every-map (λ (p : Pair). test p ≡ true) (put_in unit) children (Every-always (λ (c : Epc). mine (batch_with w unit) ≡ true) (λ c. e) children)))) ∙ ap (map pair_up) (sym (filter-append test w.pairs new));
        live = s.live;
        once = s.once;
      }
      | false ↦ λ e. record {
        pairs = s.pairs ∙ ap (map pair_up) (sym (append-nil (filter test w.pairs)) ∙ ap (λ (ps : List Pair). filter test w.pairs ++ ps) (sym (filter_none test new (Every-map (λ (p : Pair). test p ≡ false) (put_in unit) children (Every-always (λ (c : Epc). mine (batch_with w unit) ≡ false) (λ c. e) children)))) ∙ sym (filter-append test w.pairs new));
        live = s.live;
        once = s.once;
      }
    ]) refl

-- what a taking out keeps is what isn't of the unit, whether by its own test or by the event's
taken : (mine : Chosen) (w : World) (r : Replayed) (unit : Text) (keep : Pair → Bool) (event : Epc × Text → Bool) → IsReplayed mine w r
    → Every (λ (p : Pair). event (pair_up p) ≡ keep p) w.pairs → Every (λ (p : Pair). keep p ≡ false → p.parent ≡ unit) w.pairs
    → IsReplayed mine (record w { pairs = filter keep w.pairs }) (if mine (batch_with w unit) then record r { pairs = filter event r.pairs } else r)
unfolding paired_in batch_with there_in unit_of row_of
taken mine w r unit keep event s alike from =
    let test : Pair → Bool = λ p. mine (batch_with w p.parent) in
    (elim (mine (batch_with w unit)) as (λ b. mine (batch_with w unit) ≡ b → IsReplayed mine (record w { pairs = filter keep w.pairs }) (if b then record r { pairs = filter event r.pairs } else r)) [
      | true ↦ λ e. record {
        pairs = ap (filter event) s.pairs ∙ filter_map_pairs event (filter test w.pairs) ∙ ap (map pair_up) (filters_swap (λ (p : Pair). event (pair_up p)) test w.pairs ∙ ap (filter test) (filter_same (λ (p : Pair). event (pair_up p)) keep w.pairs alike));
        live = s.live;
        once = s.once;
      }
      | false ↦ λ e. record {
        pairs = s.pairs ∙ ap (map pair_up) (sym (filter-filter test keep w.pairs (Every-weaker (λ (p : Pair). keep p ≡ false → p.parent ≡ unit) (λ (p : Pair). keep p ≡ false → test p ≡ false) (λ p h k. ap (λ (c : Text). mine (batch_with w c)) (h k) ∙ e) w.pairs from)));
        live = s.live;
        once = s.once;
      }
    ]) refl

-- each child that is taken out stands in the unit
own_parents : (site : Setup) (w : World) (unit : Text) (children : List Epc) → IsSound site w → Every (λ (c : Epc). holds_of (same unit) (parent w c) ≡ true) children
    → Every (λ (p : Pair). is_among children p.child ≡ true → p.parent ≡ unit) w.pairs
unfolding parent
own_parents site w unit children s own =
    Every-weaker (λ (q : Pair). find (λ (x : Pair). same_name x.child q.child) w.pairs ≡ Some q) (λ (q : Pair). is_among children q.child ≡ true → q.parent ≡ unit)
    (λ q self k.
    let here : holds_of (same unit) (parent w q.child) ≡ true = among_every (λ (c : Epc). holds_of (same unit) (parent w c) ≡ true) children q.child k own in
    sym (same-true unit q.parent (at_found (same unit) (parent w q.child) q.parent true (ap (option_map (λ (x : Pair). x.parent)) self) here)))
    w.pairs (finds_itself same_name same_name_equiv (λ (q : Pair). q.child) w.pairs s.one_parent)

same_test : (unit : Text) (children : List Epc) (p : Pair) → (is_among children p.child ≡ true → p.parent ≡ unit) → not (same p.parent unit && is_among children p.child) ≡ not (is_among children p.child)
same_test unit children p own =
    (elim (is_among children p.child) as (λ b. (b ≡ true → p.parent ≡ unit) → not (same p.parent unit && b) ≡ not b) [
      | true ↦ λ h. ap (λ c. not (c && true)) (same-from p.parent unit (h refl))
      | false ↦ λ h. elim (same p.parent unit) as (λ c. not (c && false) ≡ true) [ true ↦ refl | false ↦ refl ]
    ]) own

-- things were taken out
pub unpacked : (mine : Chosen) (site : Setup) (w : World) (r : Replayed) (unit : Text) (children : List Epc) → IsSound site w → is_empty children ≡ false → Every (λ (c : Epc). holds_of (same unit) (parent w c) ≡ true) children
    → IsReplayed mine w r → IsReplayed mine (without_children w children) (if mine (batch_with w unit) then applied r true Delete children (Some unit) else r)
unfolding applied is_empty without_children
unpacked mine site w r unit [] s some own replayed = absurd (true≢false some)
unpacked mine site w r unit (child ∷ more) s some own replayed =
    let children : List Epc = child ∷ more in
    let parents = own_parents site w unit children s own in
    taken mine w r unit (λ p. not (is_among children p.child)) (λ q. not (same q.1 unit && is_among children q.0)) replayed
    (Every-weaker (λ (p : Pair). is_among children p.child ≡ true → p.parent ≡ unit) (λ (p : Pair). not (same p.parent unit && is_among children p.child) ≡ not (is_among children p.child)) (λ p h. same_test unit children p h) w.pairs parents)
    (Every-weaker (λ (p : Pair). is_among children p.child ≡ true → p.parent ≡ unit) (λ (p : Pair). not (is_among children p.child) ≡ false → p.parent ≡ unit) (λ p h k. h (not_false (is_among children p.child) k)) w.pairs parents)

-- what stands in the unit is among what is inside
all_inside : (ps : List Pair) (unit : Text) → Every (λ (p : Pair). same p.parent unit ≡ true → is_among (map (λ (q : Pair). q.child) (filter (λ (q : Pair). same q.parent unit) ps)) p.child ≡ true) ps
unfolding is_among
all_inside [] unit = tt
all_inside (p ∷ ps) unit =
    let rest : List Pair = filter (λ (q : Pair). same q.parent unit) ps in (
      (λ t. ap (λ b. is_among (map (λ (q : Pair). q.child) (cond b (p ∷ rest) rest)) p.child) t ∙ ap (λ b. b || is_among (map (λ (q : Pair). q.child) rest) p.child) (same_name-itself p.child)),
      Every-weaker (λ (z : Pair). same z.parent unit ≡ true → is_among (map (λ (q : Pair). q.child) rest) z.child ≡ true) (λ (z : Pair). same z.parent unit ≡ true → is_among (map (λ (q : Pair). q.child) (cond (same p.parent unit) (p ∷ rest) rest)) z.child ≡ true)
          (λ z h t. elim (same p.parent unit) as (λ b. is_among (map (λ (q : Pair). q.child) (cond b (p ∷ rest) rest)) z.child ≡ true) [
            | true ↦ (elim (same_name z.child p.child) as (λ b. (b || is_among (map (λ (q : Pair). q.child) rest) z.child) ≡ true) [ true ↦ refl | false ↦ h t ])
            | false ↦ h t
          ]) ps (all_inside ps unit),
    )

whole_test : (unit : Text) (names : List Epc) (p : Pair) → (same p.parent unit ≡ true → is_among names p.child ≡ true) → not (same p.parent unit && is_among names p.child) ≡ not (same p.parent unit)
whole_test unit names p h =
    (elim (same p.parent unit) as (λ b. (b ≡ true → is_among names p.child ≡ true) → not (b && is_among names p.child) ≡ not b) [
      | true ↦ λ h. ap not (h refl)
      | false ↦ λ h. refl
    ]) h

deletes_all : (mine : Chosen) (w : World) (r : Replayed) (unit : Text) (names : List Epc) → IsReplayed mine w r → Every (λ (p : Pair). same p.parent unit ≡ true → is_among names p.child ≡ true) w.pairs
    → IsReplayed mine (record w { pairs = filter (λ (p : Pair). not (same p.parent unit)) w.pairs }) (if mine (batch_with w unit) then applied r true Delete names (Some unit) else r)
unfolding applied
deletes_all mine w r unit [] s h =
    taken mine w r unit (λ p. not (same p.parent unit)) (λ q. not (same q.1 unit)) s (Every-always (λ (p : Pair). not (same p.parent unit) ≡ not (same p.parent unit)) (λ p. refl) w.pairs)
    (Every-always (λ (p : Pair). not (same p.parent unit) ≡ false → p.parent ≡ unit) (λ p k. same-true p.parent unit (not_false (same p.parent unit) k)) w.pairs)
deletes_all mine w r unit (name ∷ more) s h =
    let names : List Epc = name ∷ more in
    taken mine w r unit (λ p. not (same p.parent unit)) (λ q. not (same q.1 unit && is_among names q.0)) s
    (Every-weaker (λ (p : Pair). same p.parent unit ≡ true → is_among names p.child ≡ true) (λ (p : Pair). not (same p.parent unit && is_among names p.child) ≡ not (same p.parent unit)) (λ p k. whole_test unit names p k) w.pairs h)
    (Every-always (λ (p : Pair). not (same p.parent unit) ≡ false → p.parent ≡ unit) (λ p k. same-true p.parent unit (not_false (same p.parent unit) k)) w.pairs)

-- all was taken out
pub unpacked_all : (mine : Chosen) (w : World) (r : Replayed) (unit : Text) → IsReplayed mine w r
    → IsReplayed mine (emptied w unit) (if mine (batch_with w unit) then applied r true Delete (inside w unit) (Some unit) else r)
unfolding emptied inside
unpacked_all mine w r unit s = deletes_all mine w r unit (map (λ (q : Pair). q.child) (filter (λ (q : Pair). same q.parent unit) w.pairs)) s (all_inside w.pairs unit)
