-- The part of a world that is of some batches, and how a replay follows it.
use Rattle.std.proofs.Common.{◌≡◌, Bool, true, false, ◌&&◌, ◌||◌, not, List, ◌++◌, map, sym, ◌∙◌, ap, refl}
use Rattle.std.specs.Prelude.{filter, if◌then◌else◌}
use Rattle.std.specs.List.{AllByRecursion as Every, IsDistinct}
use Rattle.std.proofs.lemmas.List.Folds.{list_any-append}
use Rattle.epc_urn.specs.declared.epc.Epc.{Epc}
use Rattle.epc_urn.specs.declared.epc.Epc.TheVariants.{Item, Unit as Box}
use Rattle.deed_words.specs.declared.world.Pair.{Pair}
use Rattle.deed_words.specs.Names.{Text, same_name, is_among}
use Rattle.deed_words.specs.Chain.{holds_of}
use Rattle.deed_words.specs.World.{World, row_of, unit_of}
use Rattle.deed_words.specs.Deeds.{batch_with}
use Rattle.deed_words.specs.Moves.{is_void}
use Rattle.deed_words.proofs.Items.{Every-weaker}
use Rattle.deed_words.proofs.SoundPairs.{names_differ}
use Rattle.epcis_events.specs.Replaying.{Replayed}
use Rattle.epcis_events.specs.There.{is_live, pair_up}
use Rattle.epcis_events.proofs.Bools.{none_among, among_kept, differ_kept}

-- the batches that are meant
abbrev pub Chosen : Type 0
Chosen = Text → Bool

unfoldable pub there_in : Chosen → World → Epc → Bool
there_in mine w (Item gtin serial) = holds_of (λ row. mine row.batch && is_live row.state) (row_of w gtin serial)
there_in mine w (Box sscc) = holds_of (λ unit. mine unit.batch && not (is_void unit.mark)) (unit_of w sscc)

unfoldable pub paired_in : Chosen → World → List Pair
paired_in mine w = filter (λ pair. mine (batch_with w pair.parent)) w.pairs

-- the replay has what stands in that part
pub record IsReplayed (mine : Chosen) (w : World) (r : Replayed) : Type 0 where
  pub pairs : r.pairs ≡ map pair_up (paired_in mine w)
  pub live : (name : Epc) → is_among r.live name ≡ there_in mine w name
  pub once : IsDistinct same_name r.live

-- nothing of the part changes
pub stays : (mine : Chosen) (w w' : World) (r : Replayed) → IsReplayed mine w r → paired_in mine w' ≡ paired_in mine w → ((name : Epc) → there_in mine w' name ≡ there_in mine w name) → IsReplayed mine w' r
stays mine w w' r s pairs there = record { pairs = s.pairs ∙ ap (map pair_up) (sym pairs); live = λ name. s.live name ∙ sym (there name); once = s.once }

-- names come
pub comes : (mine : Chosen) (w w' : World) (r : Replayed) (names : List Epc) → IsReplayed mine w r → paired_in mine w' ≡ paired_in mine w
    → ((name : Epc) → there_in mine w' name ≡ (there_in mine w name || is_among names name)) → IsDistinct same_name names → Every (λ (name : Epc). there_in mine w name ≡ false) names
    → IsReplayed mine w' (record r { live = r.live ++ names })
unfolding is_among
comes mine w w' r names s pairs there differ new =
    record {
      pairs = s.pairs ∙ ap (map pair_up) (sym pairs);
      live = λ name. list_any-append (same_name name) r.live names ∙ ap (λ b. b || is_among names name) (s.live name) ∙ sym (there name);
      once = names_differ r.live names s.once differ (Every-weaker (λ (name : Epc). there_in mine w name ≡ false) (λ (name : Epc). Every (λ (x : Epc). same_name name x ≡ false) r.live) (λ name e. none_among name r.live (s.live name ∙ e)) names new);
    }

-- names go
pub goes : (mine : Chosen) (w w' : World) (r : Replayed) (names : List Epc) → IsReplayed mine w r → paired_in mine w' ≡ paired_in mine w
    → ((name : Epc) → there_in mine w' name ≡ (there_in mine w name && not (is_among names name)))
    → IsReplayed mine w' (record r { live = filter (λ name. not (is_among names name)) r.live })
goes mine w w' r names s pairs there =
    record {
      pairs = s.pairs ∙ ap (map pair_up) (sym pairs);
      live = λ name. among_kept (λ name. not (is_among names name)) name r.live ∙ ap (λ b. b && not (is_among names name)) (s.live name) ∙ sym (there name);
      once = differ_kept (λ name. not (is_among names name)) r.live s.once;
    }

-- names come where the batch is meant
pub comes_if : (mine : Chosen) (w w' : World) (r : Replayed) (batch : Text) (names : List Epc) → IsReplayed mine w r → paired_in mine w' ≡ paired_in mine w
    → (mine batch ≡ true → (name : Epc) → there_in mine w' name ≡ (there_in mine w name || is_among names name))
    → (mine batch ≡ false → (name : Epc) → there_in mine w' name ≡ there_in mine w name)
    → IsDistinct same_name names → Every (λ (name : Epc). there_in mine w name ≡ false) names
    → IsReplayed mine w' (if mine batch then record r { live = r.live ++ names } else r)
comes_if mine w w' r batch names s pairs there still differ new =
    (elim (mine batch) as (λ b. mine batch ≡ b → IsReplayed mine w' (if b then record r { live = r.live ++ names } else r)) [
      | true ↦ λ e. comes mine w w' r names s pairs (there e) differ new
      | false ↦ λ e. stays mine w w' r s pairs (still e)
    ]) refl

pub goes_if : (mine : Chosen) (w w' : World) (r : Replayed) (batch : Text) (names : List Epc) → IsReplayed mine w r → paired_in mine w' ≡ paired_in mine w
    → (mine batch ≡ true → (name : Epc) → there_in mine w' name ≡ (there_in mine w name && not (is_among names name)))
    → (mine batch ≡ false → (name : Epc) → there_in mine w' name ≡ there_in mine w name)
    → IsReplayed mine w' (if mine batch then record r { live = filter (λ name. not (is_among names name)) r.live } else r)
goes_if mine w w' r batch names s pairs there still =
    (elim (mine batch) as (λ b. mine batch ≡ b → IsReplayed mine w' (if b then record r { live = filter (λ name. not (is_among names name)) r.live } else r)) [
      | true ↦ λ e. goes mine w w' r names s pairs (there e)
      | false ↦ λ e. stays mine w w' r s pairs (still e)
    ]) refl

-- whether the batch is meant or not, where nothing is told of it
pub stays_if : (mine : Chosen) (w w' : World) (r : Replayed) (batch : Text) → IsReplayed mine w r → paired_in mine w' ≡ paired_in mine w → ((name : Epc) → there_in mine w' name ≡ there_in mine w name)
    → IsReplayed mine w' (if mine batch then r else r)
stays_if mine w w' r batch s pairs there =
    elim (mine batch) as (λ b. IsReplayed mine w' (if b then r else r)) [ true ↦ stays mine w w' r s pairs there | false ↦ stays mine w w' r s pairs there ]
