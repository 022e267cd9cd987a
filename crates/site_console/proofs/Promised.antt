-- What the laws of the trade promise of a lawful history.
use Rattle.std.proofs.Common.{◌≡◌, ◌∙◌, List, ◌++◌, Option, None, Some, ℕ, refl, sym, subst}
use Rattle.std.specs.Prelude.{map, option_map, sum_by}
use Rattle.std.specs.List.{IsDistinct}
use Rattle.epcis_events.specs.Events.{events}
use Rattle.epcis_events.specs.Replaying.{replay}
use Rattle.epcis_events.specs.There.{pair_up}
use Rattle.deed_words.specs.Accounted.{IsAccounted}
use Rattle.deed_words.specs.Accounts.{finding}
use Rattle.deed_words.specs.Names.{Text, same, same_name}
use Rattle.deed_words.specs.Setups.{Setup, IsForPlanner, IsProper}
use Rattle.deed_words.specs.World.{World, batch_of}
use Rattle.deed_words.specs.declared.deed.Deed.TheVariants.{Close}
use Rattle.deed_words.specs.declared.entry.Entry.{Entry}
use Rattle.deed_words.specs.declared.rule.Finding.{Finding}
use Rattle.deed_words.specs.declared.rule.Rule.TheVariants.{NotAccounted}
use Rattle.deed_words.specs.declared.words.Phase.TheVariants.{Started}
use Rattle.deed_words.specs.declared.world.Batch.{Batch}
use Rattle.deed_words.specs.History.{IsLawful, world_of}
use Rattle.deed_words.specs.Counts.{total, counts_of, counts_of_gtin, drawn_of, drawn_of_gtin, batches_of_gtin}
use Rattle.deed_words.specs.Once.{all_drawn, all_lent, all_commissioned, all_codes_made}
use Rattle.deed_words.specs.Rules.{broken}
use Rattle.deed_words.specs.Sound.{IsSound}
use Rattle.site_console.specs.Closing.{ClosesWhereAccounted}
use Rattle.site_console.specs.Promises.{Promises}

-- the laws
abbrev pub AllDiffer : (Setup → List Entry → Type 0) → Type 0
AllDiffer once = (site : Setup) (history : List Entry) → IsProper site → IsLawful site history → once site history

pub record Laws : Type 0 where
  pub drawn : AllDiffer (λ site history. IsDistinct same_name (all_drawn site history))
  pub lent : AllDiffer (λ site history. IsDistinct same_name (all_lent site history))
  pub commissioned : AllDiffer (λ site history. IsDistinct same_name (all_commissioned site history))
  pub made : AllDiffer (λ site history. IsDistinct same (all_codes_made site history))
  pub sound : AllDiffer (λ site history. IsSound site (world_of site history))
  pub packing : AllDiffer (λ site history. (replay (events site history)).pairs ≡ map pair_up (world_of site history).pairs)
  pub account : (site : Setup) (w : World) (name : Text) → (finding site w name ≡ None → IsAccounted site w name) × (IsAccounted site w name → finding site w name ≡ None)
  pub close : (site : Setup) (w : World) (station : ℕ) (name : Text) (batch : Batch) → IsForPlanner site station → batch_of w name ≡ Some batch → batch.phase ≡ Started → broken site w station (Close name) ≡ option_map NotAccounted (finding site w name)
  pub batch : (site : Setup) (history : List Entry) (name : Text) → IsLawful site history → total (counts_of (world_of site history) name) ≡ drawn_of history name
  pub gtin : (site : Setup) (history : List Entry) (gtin : Text) → IsLawful site history → total (counts_of_gtin (world_of site history) gtin) ≡ drawn_of_gtin site history gtin
  pub sums : (site : Setup) (history : List Entry) (gtin : Text) → IsProper site → IsLawful site history → drawn_of_gtin site history gtin ≡ sum_by (λ batch. drawn_of history batch.order.batch) (batches_of_gtin (world_of site history) gtin)
  pub front : (site : Setup) (history more : List Entry) → IsLawful site (history ++ more) → IsLawful site history

none_mapped : (o : Option Finding) → option_map NotAccounted o ≡ None → o ≡ None
none_mapped None e = refl
none_mapped (Some f) e = absurd cc

mapped_none : (o : Option Finding) → o ≡ None → option_map NotAccounted o ≡ None
mapped_none None e = refl
mapped_none (Some f) e = absurd cc

closes : Laws → (site : Setup) (w : World) → ClosesWhereAccounted site w
closes laws site w = λ station name batch planner there started.
    let is = laws.close site w station name batch planner there started in
    let account = laws.account site w name in
    (λ none. account.0 (none_mapped (finding site w name) (sym is ∙ none)), λ accounted. is ∙ mapped_none (finding site w name) (account.1 accounted))

pub promised : Laws → (site : Setup) (history : List Entry) → IsProper site → IsLawful site history → Promises site history
promised laws site history proper lawful =
    let lawful_front : (front more : List Entry) → history ≡ front ++ more → IsLawful site front = λ front more e. laws.front site front more (subst (IsLawful site) e lawful) in
    record {
      drawn_once = laws.drawn site history proper lawful;
      lent_once = laws.lent site history proper lawful;
      commissioned_once = laws.commissioned site history proper lawful;
      made_once = laws.made site history proper lawful;
      sound = λ front more e. laws.sound site front proper (lawful_front front more e);
      packing = λ front more e. laws.packing site front proper (lawful_front front more e);
      closes = λ front more e. closes laws site (world_of site front);
      batches_add_up = λ front more name e. laws.batch site front name (lawful_front front more e);
      gtins_add_up = λ front more g e. laws.gtin site front g (lawful_front front more e);
      gtins_are_sums = λ front more g e. laws.sums site front g proper (lawful_front front more e);
    }
