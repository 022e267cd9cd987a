use Rattle.std.proofs.Common.{◌∙◌, ap, length, refl}
use Rattle.deed_words.specs.Setups.{Setup}
use Rattle.site_core.proofs.Entering.{history_none}
use Rattle.site_core.proofs.Listing.{none_kept, none_few}
use Rattle.site_core.proofs.Standing.{begun}
use Rattle.site_core.proofs.site.Site.new.Goals as goal

pub invariant_of-result : goal.invariant_of-result
invariant_of-result c = record {
  stands = begun c.args.setup _ c.in_ok-memo.memo.told c.new-3.result.content c.new-4.result _ (history_none _ _ c.new-2.ensures.items) c.in_ok-memo.ensures.told
      (c.len-stations.ensures ∙ ap (λ (s : Setup). length s.stations) c.setup.view_is) c.new-3.ensures.content c.new-4.ensures.drawn;
  moved = c.new-5.ensures ∙ none_kept c.args.setup _ (history_none c.in_ok-memo.memo.told _ c.new-2.ensures.items);
  few = none_few _ (history_none c.in_ok-memo.memo.told _ c.new-2.ensures.items);
}

pub returns : goal.returns
returns c = (refl, history_none _ _ c.new-2.ensures.items)
