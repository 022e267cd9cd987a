use Rattle.std.proofs.Common.{◌≡◌, ◌+◌, ◌<◌, Some, length, sym, ap, ◌∙◌, subst, refl, ℕ}
use Rattle.std.specs.List.{position, slice_get}
use Rattle.std.proofs.lemmas.List.{length-map}
use Rattle.deed_words.specs.Setups.{reference_bound, code_of}
use Rattle.deed_words.specs.Sound.{IsSound}
use Rattle.batch_book.specs.Batches.{is_called}
use Rattle.batch_book.specs.Content.{Content, world_in, unit_in, batch_names}
use Rattle.site_deeds.proofs.OfUnit.{make_does}
use Rattle.site_deeds.proofs.Shared.{got}
use Rattle.site_deeds.proofs.units.make.Goals as goal

pub returns-clause-done : goal.returns-clause-done
returns-clause-done c = λ name found.
    let k = c.ready.new.self.content in
    let site = c.args.setup.now in
    let back = sym c.in_ok-ready.ensures.content in
    let kept = got c.args.stores.now.content.batches c.args.batch c.requires.there in
    let sound = subst (λ (x : Content). IsSound site (world_in x)) back c.requires.sound in
    let unspent = subst (λ (n : ℕ). site.reference + n < reference_bound site) (length-map k.units (unit_in (batch_names k))) (subst (λ (x : Content). site.reference + length (world_in x).units < reference_bound site) back c.requires.unspent) in
    make_does site c.ready.new.self _ name c.code_at-sscc.result c.args.batch kept.0 c.args.level c.tell_whole.ensures sound unspent (subst (λ (x : Content). position (is_called name) x.batches ≡ Some c.args.batch) back found)
    (subst (λ (x : Content). slice_get x.batches c.args.batch ≡ Some kept.0) back kept.1) (c.code_at-sscc.ensures ∙ ap (code_of site) c.unit_count.ensures) refl refl c.in_ok-ready.ensures.ok.units
