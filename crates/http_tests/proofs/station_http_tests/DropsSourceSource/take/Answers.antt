use Rattle.std.proofs.Common.{◌≡◌, ◌<◌, ℕ, List, [], ◌∷◌, ◌++◌, take, set, length, arith, refl, sym, ◌∙◌, ap}
use Rattle.http_tests.proofs.station_http_tests.DropsSourceSource.take.Goals as goal

take_one : (piece : List ℕ) (x : ℕ) → 0 < length piece → take 1 (set piece 0 x) ≡ x ∷ []
take_one [] x h = absurd (omega arith)
take_one (y ∷ ys) x h = refl

pub returns-in-Some-clause-bytes : goal.returns-in-Some-clause-bytes
returns-in-Some-clause-bytes c =
    let rest = c.in-Some.rest.now in (
      c.in-Some.ensures.cases.0 ∙ sym (ap (λ (xs : List ℕ). xs ++ rest) (take_one c.args.piece.now c.in-Some.first.now c.requires)),
      λ e. absurd (omega arith),
    )
