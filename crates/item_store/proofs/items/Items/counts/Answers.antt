use Rattle.std.proofs.Common.{◌≡◌, ◌+◌, sym, ap, ◌∙◌}
use Rattle.deed_words.specs.declared.words.State.TheVariants.{Fresh, Lent, Returned, Spoiled, Active, Sampled, Rejected, Gone}
use Rattle.item_store.specs.Rows.{Store, count_in}
use Rattle.item_store.proofs.Tallies.{counted_in_states}
use Rattle.item_store.proofs.items.Items.counts.Goals as goal

pub returns : goal.returns
returns c =
    let e : c.as_slice-rows.result.now ≡ c.args.self.now.rows = c.as_slice-rows.ensures.value ∙ ap (λ (v : Store). v.rows) c.self.view_is in
    let fresh = c.count_in-fresh.ensures.value ∙ ap (count_in c.args.batch Fresh) e in
    let lent = c.count_in-lent.ensures.value ∙ ap (count_in c.args.batch Lent) e in
    let returned = c.count_in-returned.ensures.value ∙ ap (count_in c.args.batch Returned) e in
    let spoiled = c.count_in-spoiled.ensures.value ∙ ap (count_in c.args.batch Spoiled) e in
    let active = c.count_in-active.ensures.value ∙ ap (count_in c.args.batch Active) e in
    let sampled = c.count_in-sampled.ensures.value ∙ ap (count_in c.args.batch Sampled) e in
    let rejected = c.count_in-rejected.ensures.value ∙ ap (count_in c.args.batch Rejected) e in
    let gone = c.count_in-gone.ensures.value ∙ ap (count_in c.args.batch Gone) e in
    let all = sym (counted_in_states c.args.batch c.args.self.now.rows) in
    let drawn = (λ z. fresh z + lent z + returned z + spoiled z + active z + sampled z + rejected z + gone z) ∙ all in
    λ z. record {
      drawn = drawn z;
      unused = fresh z + returned z;
      lent = lent z;
      commissioned = active z;
      sampled = sampled z;
      rejected = rejected z + spoiled z;
      destroyed = gone z;
    }
