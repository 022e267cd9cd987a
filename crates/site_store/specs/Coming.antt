-- Planned entries that come next, or came last, one after the other.
use Rattle.std.specs.Prelude.{◌≡◌, List, [], ◌∷◌, ◌++◌, map}
use Rattle.deed_words.specs.Setups.{Setup}
use Rattle.deed_words.specs.declared.entry.Entry.{Entry}
use Rattle.deed_words.specs.History.{world_of}
use Rattle.batch_book.specs.Content.{Content, world_in}
use Rattle.site_stores.specs.Changes.{applied}
use Rattle.site_core.specs.Plans.{IsNext}
use Rattle.site_core.specs.declared.planned.Planned.{Planned}

-- what the stores hold after all of them
abbrev pub applied_all : Content → List Planned → Content
applied_all c [] = c
applied_all c (planned ∷ later) = applied_all (applied c planned.change) later

-- each of them may come next, behind those in front of it
abbrev pub AreNext : Setup → List Entry → Content → List Planned → Type 0
AreNext site history c [] = Unit {0}
AreNext site history c (planned ∷ later) =
    IsNext site history c planned × AreNext site (history ++ planned.entry ∷ []) (applied c planned.change) later

-- they were committed last, one after the other
pub record AreLast (site : Setup) (history : List Entry) (c : Content) (planned : List Planned) : Type 0 where
  pub front : List Entry
  pub before : Content
  pub history_is : history ≡ front ++ map (λ p. p.entry) planned
  pub content_is : c ≡ applied_all before planned
  pub world_is : world_in before ≡ world_of site front
  pub next : AreNext site front before planned
