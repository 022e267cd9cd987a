use Rattle.site_deeds.proofs.OfUnit.{to_mark_does}
use Rattle.site_deeds.proofs.units.to_mark.Goals as goal

pub returns : goal.returns
returns c = λ sscc found. to_mark_does c.args.stores.now c.plain.result sscc c.args.unit c.unit_at-old.result c.args.mark c.tell_whole.ensures found c.unit_at-old.ensures c.plain.ensures.answer c.plain.ensures.change
