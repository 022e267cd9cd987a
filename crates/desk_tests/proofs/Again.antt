-- A crew whose passes had turns is a crew again.
use Rattle.std.proofs.Common.{◌≡◌, ℕ, suc, ◌<◌, ◌==◌, List, ◌++◌, length, take, drop, get_or, sym, ap, ◌∙◌, subst, arith}
use Rattle.std.proofs.Math.Seq.{take-append_seam}
use Rattle.turn_desk.specs.Tokens.{Place, Token, IsCrew}

-- the same worker's pass of the same desk
abbrev pub IsStill : Token → Token → Type 0
IsStill v w = (w.desk ≡ v.desk) × (w.worker ≡ v.worker) × (w.last ≡ v.last)

-- each pass is still the same worker's
abbrev pub AllStill : List Token → List Token → Type 0
AllStill ps ps' = (k : ℕ) (x : Token) → k < length ps → IsStill (get_or ps k x) (get_or ps' k x)

pub crew_again : (d : Place) (ps ps' : List Token) → length ps' ≡ length ps → AllStill ps ps' → IsCrew d ps → IsCrew d ps'
crew_again d ps ps' len still crew k x lt =
    let s = still k x (omega (arith, lt, len)) in let c = crew k x (omega (arith, lt, len)) in
    (s.0 ∙ c.0, s.1 ∙ c.1, s.2 ∙ (c.2 ∙ ap (λ (m : ℕ). suc k == m) (sym len)))

-- the same where the passes of a `Vec` were written through a slice
pub crew_written : (d : Place) (n : ℕ) (ps ps' : List Token) → n ≡ length ps → length ps' ≡ length ps → AllStill ps ps' → IsCrew d ps
    → IsCrew d (take n (ps' ++ drop (length ps') ps))
crew_written d n ps ps' is len still crew =
    let whole : take n (ps' ++ drop (length ps') ps) ≡ ps' = ap (λ (m : ℕ). take m (ps' ++ drop (length ps') ps)) (is ∙ sym len) ∙ take-append_seam ps' (drop (length ps') ps) in
    subst (IsCrew d) (sym whole) (crew_again d ps ps' len still crew)
