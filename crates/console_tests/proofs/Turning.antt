-- What was done and taken back, and what stands on a site that is as it was.
use Rattle.std.proofs.Common.{◌≡◌, ◌++◌, ◌∷◌, [], List, ℕ, sym, ap, ap₂, ◌∙◌, subst, length}
use Rattle.std.proofs.lemmas.List.{same_from_push}
use Rattle.deed_words.specs.Setups.{Setup}
use Rattle.deed_words.specs.declared.deed.Deed.{Deed}
use Rattle.deed_words.specs.declared.entry.Entry.{Entry}
use Rattle.deed_words.specs.History.{own}
use Rattle.deed_words.specs.Numbers.{Means, Gap}
use Rattle.batch_book.specs.Content.{Content}
use Rattle.site_stores.specs.declared.change.Change.{Change}
use Rattle.site_stores.specs.Changes.{applied, taken_back, MayApply}
use Rattle.site_core.specs.declared.planned.Planned.{Planned}
use Rattle.site_core.specs.Plans.{IsNext, IsLast}

-- a gap tells the last number
pub gap_last : (site : Setup) (history : List Entry) (station number : ℕ) (deed : Deed) (last : ℕ) → Means site history station number deed (Gap last) → last ≡ length (own station history)
unfolding Means
gap_last site history station number deed last means = means.0

-- what comes next on equal sites
pub next_on : (s s' : Setup) (h h' : List Entry) (k k' : Content) (planned : Planned) → s' ≡ s → h' ≡ h → k' ≡ k → IsNext s h k planned → IsNext s' h' k' planned
next_on s s' h h' k k' planned es eh ek next =
    subst (λ (x : Setup). IsNext x h' k' planned) (sym es) (subst (λ (x : List Entry). IsNext s x k' planned) (sym eh) (subst (λ (x : Content). IsNext s h x planned) (sym ek) next))

-- what came last on equal sites
pub last_on : (s s' : Setup) (h h' : List Entry) (k k' : Content) (committed : Planned) → s' ≡ s → h' ≡ h → k' ≡ k → IsLast s h k committed → IsLast s' h' k' committed
last_on s s' h h' k k' committed es eh ek last =
    subst (λ (x : Setup). IsLast x h' k' committed) (sym es) (subst (λ (x : List Entry). IsLast s x k' committed) (sym eh) (subst (λ (x : Content). IsLast s h x committed) (sym ek) last))

-- a change that is made and taken back
pub content_back : ((c : Content) (change : Change) → MayApply c change → taken_back (applied c change) change ≡ c)
    → (old done new : Content) (one again : Planned) → MayApply old one.change → done ≡ applied old one.change → again ≡ one → new ≡ taken_back done again.change → new ≡ old
content_back law old done new one again may made same taken =
    taken ∙ ap₂ (λ (k : Content) (p : Planned). taken_back k p.change) made same ∙ law old one.change may

-- an entry that is put last and taken away
pub history_back : (old done new : List Entry) (one again : Entry) → done ≡ old ++ one ∷ [] → done ≡ new ++ again ∷ [] → new ≡ old
history_back old done new one again made taken = (same_from_push new old again one (sym taken ∙ made)).0
