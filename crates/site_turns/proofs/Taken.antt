-- The requests that a turn takes.
use Rattle.std.proofs.Common.{◌≡◌, ◌∙◌, ◌<◌, ◌≤◌, ◌+◌, ℕ, List, [], ◌∷◌, ◌++◌, length, Option, Some, None, refl, sym, ap, subst, append_assoc, append-nil, arith}
use Rattle.std.proofs.lemmas.List.{length-append}
use Rattle.deed_words.specs.Proper.{IsProperAsk}
use Rattle.deed_words.specs.Setups.{Setup}
use Rattle.deed_words.specs.declared.entry.Ask.{Ask}
use Rattle.site_store.specs.Asked.{AreOf}
use Rattle.site_turns.specs.Posted.{Posted}
use Rattle.site_turns.specs.Posts.{AreAsksOf, IsAskOf}
use Rattle.site_turns.specs.Taking.{AreTaken, IsTaken}

-- none was taken
pub none_taken : (site : Setup) (posts : List Posted) (asks : List Ask) → asks ≡ [] → AreTaken site posts asks posts
none_taken site posts asks none = record { first = []; parts = refl; are = subst (AreAsksOf site []) (sym none) tt }

asks_more : (site : Setup) (posts : List Posted) (asks : List Ask) (post : Posted) (ask : Ask) → AreAsksOf site posts asks → IsAskOf site post ask → AreAsksOf site (posts ++ post ∷ []) (asks ++ ask ∷ [])
asks_more site [] [] post ask are is = (is, tt)
asks_more site (p ∷ posts) (a ∷ asks) post ask are is = (are.0, asks_more site posts asks post ask are.1 is)
asks_more site [] (a ∷ asks) post ask are is = absurd are
asks_more site (p ∷ posts) [] post ask are is = absurd are

-- one more was
pub one_taken : (site : Setup) (posts mid rest : List Posted) (asks : List Ask) (ask : Ask) → AreTaken site posts asks mid → IsTaken site mid ask rest → AreTaken site posts (asks ++ ask ∷ []) rest
one_taken site posts mid rest asks ask t one = record {
  first = t.first ++ one.0 ∷ [];
  parts = t.parts ∙ ap (λ (l : List Posted). t.first ++ l) one.1 ∙ sym (append_assoc t.first (one.0 ∷ []) rest);
  are = asks_more site t.first asks one.0 ask t.are one.2;
}

pub of_more : (site : Setup) (asks : List Ask) (ask : Ask) → AreOf site asks → ask.station < length site.stations → IsProperAsk ask → AreOf site (asks ++ ask ∷ [])
of_more site [] ask of station proper = (station, proper, tt)
of_more site (a ∷ asks) ask of station proper = (of.0, of.1, of_more site asks ask of.2 station proper)

asks_count : (site : Setup) (posts : List Posted) (asks : List Ask) → AreAsksOf site posts asks → length asks ≡ length posts
asks_count site [] [] are = refl
asks_count site (p ∷ posts) (a ∷ asks) are = let same = asks_count site posts asks are.1 in omega (arith, same)
asks_count site [] (a ∷ asks) are = absurd are
asks_count site (p ∷ posts) [] are = absurd are

-- as many asks as requests
pub taken_count : (site : Setup) (posts rest : List Posted) (asks : List Ask) → AreTaken site posts asks rest → length asks + length rest ≡ length posts
taken_count site posts rest asks t =
    let count = asks_count site t.first asks t.are in let all = ap length t.parts in let parts = length-append t.first rest in omega (arith, count, all, parts)

-- room for one more
pub room_left : (site : Setup) (posts mid rest : List Posted) (asks : List Ask) (ask : Ask) (room : ℕ) → AreTaken site posts asks mid → IsTaken site mid ask rest → length posts ≤ room → length asks < room
room_left site posts mid rest asks ask room t one spare =
    let count = taken_count site posts mid asks t in let more = ap length one.1 in omega (arith, count, more, spare)
