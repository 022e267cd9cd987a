use Rattle.std.proofs.Common.{List, ℕ, ◌++◌, ◌∷◌, [], ◌∙◌, ap}
use Rattle.gate_journal.proofs.Blocks.{frame_is}
use Rattle.gate_journal.proofs.frame.spelled.Goals as goal

pub invariant_of-result : goal.invariant_of-result
invariant_of-result c =
    let word = c.in_ok-extend_from_slice.ensures.items ∙ ap (λ (l : List ℕ). l ++ c.to_be_bytes.result) c.new-bytes.ensures.items in
    let items = c.in_ok-push.ensures.items ∙ ap (λ (l : List ℕ). l ++ 0 ∷ []) (c.in_ok-extend_from_slice-2.ensures.items ∙ ap (λ (l : List ℕ). l ++ c.args.payload.now) (word ∙ c.to_be_bytes.ensures)) in
    frame_is c.args.payload.now c.push.new.self.items c.requires items
