use Rattle.std.proofs.Common.{◌+◌, ◌∙◌, ◌++◌, ◌∷◌, [], ℕ, List, map, refl, sym, ap}
use Rattle.std.specs.List.{range_with_len}
use Rattle.std.proofs.lemmas.List.FromFn.{map-range_with_len_more}
use Rattle.epc_urn.specs.declared.epc.Epc.{Epc}
use Rattle.epc_urn.specs.declared.epc.Epc.TheVariants.{Unit as Box}
use Rattle.deed_words.specs.Names.{Text}
use Rattle.site_sim.specs.Asking.{unit}
use Rattle.site_sim.proofs.asking.units_of.Goals as goal

pub loop-k-preserved : goal.loop-k-preserved
loop-k-preserved c =
    let from = c.args.part.from in
    let k = c.loop-k.k in
    c.in_ok-push.ensures ∙ ap (λ (xs : List Epc). xs ++ Box c.unit.result ∷ []) c.loop-k.invariant
    ∙ ap (λ (u : Text). map (λ (place : ℕ). Box (unit place)) (range_with_len from k) ++ Box u ∷ []) c.unit.ensures
    ∙ sym (map-range_with_len_more (λ (place : ℕ). Box (unit place)) from k (from + k) refl)
