-- Calls that leave a disk as it was, one after the other.
use Rattle.std.proofs.Common.{ℕ, List, Option, ◌∙◌}
use Rattle.gate_journal.specs.Readings.{Untouched}
use Rattle.outside.proofs.Moments.{and_then}

module _ {D : Type 0} (content : D → Option (List ℕ)) (image : D → List ℕ → Type 0) (moment : D → ℕ) (since : D → ℕ → List ℕ → Type 0) where
  pub and_untouched : (old mid new : D) → Untouched content image moment since old mid → Untouched content image moment since mid new → Untouched content image moment since old new
  and_untouched old mid new first second = record {
    content_same = second.content_same ∙ first.content_same;
    no_more = λ c left. first.no_more c (second.no_more c left);
    any_moment = and_then moment since old mid new (image old) (image mid) (image old) first.any_moment second.any_moment (λ c left. left) first.no_more;
  }
