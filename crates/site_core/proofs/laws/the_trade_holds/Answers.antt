use Rattle.std.proofs.Common.{subst}
use Rattle.deed_words.specs.History.{IsLawful}
use Rattle.site_core.proofs.laws.the_trade_holds.Goals as goal

pub returns : goal.returns
returns c = λ front more e.
    let site = c.args.site.now.setup in
    let proper = c.tell_kept.ensures.setup in
    let lawful : IsLawful site front = c.histories_grow_lawfully.ensures.front site front more (subst (IsLawful site) e c.tell_kept.ensures.lawful) in
    record {
      drawn_once = c.issued_once.ensures.drawn site front proper lawful;
      lent_once = c.issued_once.ensures.lent site front proper lawful;
      commissioned_once = c.issued_once.ensures.commissioned site front proper lawful;
      codes_once = c.codes_made_once.ensures.once site front proper lawful;
      batch_sums = λ name. c.counts_sum_to_drawn.ensures.batch site front name lawful;
      gtin_sums = λ gtin. c.counts_sum_to_drawn.ensures.gtin site front gtin lawful;
      gtin_drawn = λ gtin. c.counts_sum_to_drawn.ensures.drawn site front gtin proper lawful;
      sound = c.soundness_is_kept.ensures.history site front proper lawful;
      closes = λ station name batch. c.closes_where_accounted.ensures.closes site _ station name batch;
      orders = λ station number worker stamp operator rows. c.orders_again_change_nothing.ensures site front station number worker stamp operator rows proper lawful;
    }
