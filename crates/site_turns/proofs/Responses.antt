-- Answers to outcomes, one after the other.
use Rattle.std.proofs.Common.{◌≡◌, ◌∙◌, ◌<◌, ◌+◌, ℕ, List, [], ◌∷◌, ◌++◌, length, take, get_or, sym, ap, subst, arith}
use Rattle.std.proofs.lemmas.Grind.{take_at_read}
use Rattle.deed_words.specs.Setups.{Setup}
use Rattle.site_store.specs.declared.outcome.Outcome.{Outcome}
use Rattle.site_answers.specs.Saying.{Answer, IsSaid}
use Rattle.site_turns.specs.Outcomes.{AreSaid, outcome_answer}
use Rattle.site_turns.proofs.Counted.{said_count}

said_more : (site : Setup) (outcomes : List Outcome) (answers : List Answer) (outcome : Outcome) (answer : Answer) → AreSaid site outcomes answers → IsSaid (outcome_answer site outcome) answer → AreSaid site (outcomes ++ outcome ∷ []) (answers ++ answer ∷ [])
said_more site [] [] outcome answer are is = (is, tt)
said_more site (o ∷ outcomes) (a ∷ answers) outcome answer are is = (are.0, said_more site outcomes answers outcome answer are.1 is)
said_more site [] (a ∷ answers) outcome answer are is = absurd are
said_more site (o ∷ outcomes) [] outcome answer are is = absurd are

-- one more was answered
pub said_next : (site : Setup) (outcomes : List Outcome) (at : ℕ) (outcome : Outcome) (answers answers' : List Answer) (answer : Answer) → at < length outcomes → outcome ≡ get_or outcomes at outcome → AreSaid site (take at outcomes) answers → IsSaid (outcome_answer site outcome) answer
    → answers' ≡ answers ++ answer ∷ [] → AreSaid site (take (at + 1) outcomes) answers'
said_next site outcomes at outcome answers answers' answer few here are is added =
    let more : take (at + 1) outcomes ≡ take at outcomes ++ outcome ∷ [] = (take_at_read outcomes at outcome few).1 ∙ ap (λ (o : Outcome). take at outcomes ++ o ∷ []) (sym here) in
    subst (AreSaid site (take (at + 1) outcomes)) (sym added) (subst (λ (l : List Outcome). AreSaid site l (answers ++ answer ∷ [])) (sym more) (said_more site (take at outcomes) answers outcome answer are is))
