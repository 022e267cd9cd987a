use Rattle.std.proofs.Common.{sym, ◌∙◌, subst}
use Rattle.std.proofs.lemmas.List.{take_rest}
use Rattle.site_console.proofs.Putting.{Part, more_put}
use Rattle.site_console.proofs.put.put_all.Goals as goal

pub parts-preserved : goal.parts-preserved
parts-preserved g c =
    record {
      part = subst (Part _ _ c.args.text.now) (sym (take_rest c.parts.rest.now c.in_ok-count.count)) (more_put _ _ _ c.args.text.now c.parts.rest.now c.in_ok-count.count c.parts.invariant.part c.in_ok-count.ensures.bytes);
      faults = c.in_ok-count.ensures.cause.kept ∙ c.parts.invariant.faults;
    }
