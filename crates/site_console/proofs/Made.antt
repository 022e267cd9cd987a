-- A journal that was made.
use Rattle.std.proofs.Common.{◌≡◌, [], ℕ, List, inl, inr, subst}
use Rattle.deed_words.specs.Setups.{Setup}
use Rattle.site_store.specs.Held.{Held}
use Rattle.site_store.specs.Images.{HoldsState}
use Rattle.site_store.specs.States.{State, settled}

none_held : (site : Setup) (c : List ℕ) → HoldsState site (settled []) c → Held site [] c
none_held site c (inl held) = held
none_held site c (inr held) = held

pub holds_none : (site site' : Setup) (s : State) (c : List ℕ) → site' ≡ site → s ≡ settled [] → HoldsState site' s c → Held site [] c
holds_none site site' s c same none holds = none_held site c (subst (λ (t : Setup). HoldsState t (settled []) c) same (subst (λ (u : State). HoldsState site' u c) none holds))
