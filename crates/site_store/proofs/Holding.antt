-- What the images of a journal hold.
use Rattle.std.proofs.Common.{◌⊎◌, inl, inr, ℕ, List, [], ◌∷◌, ◌++◌, Option}
use Rattle.deed_words.specs.Setups.{Setup}
use Rattle.deed_words.specs.declared.entry.Entry.{Entry}
use Rattle.deed_words.specs.History.{IsLawful}
use Rattle.gate_journal.specs.Grammar.{block, front, Holds}
use Rattle.gate_journal.specs.Journals.{IsBehind, HoldsWithOrWithout}
use Rattle.gate_journal.proofs.Crash.{either}
use Rattle.gate_journal.proofs.Settled.{with_or_without}
use Rattle.entry_bytes.specs.Groups.{SpellsGroup}
use Rattle.entry_bytes.specs.Sites.{SpellsSetup}
use Rattle.site_store.specs.Held.{AreGroups, Held}
use Rattle.site_store.specs.Images.{HoldsState}
use Rattle.site_store.specs.Standing.{IsKept, StandsAs}
use Rattle.site_store.specs.States.{State, all_of}
use Rattle.site_store.proofs.Replaying.{groups_push}

pub held : (site : Setup) (site_bytes : List ℕ) (payloads : List (List ℕ)) (history : List Entry) (c : List ℕ) → SpellsSetup site site_bytes → AreGroups payloads history → IsLawful site history → Holds site_bytes payloads c → Held site history c
held site site_bytes payloads history c spelled groups lawful holds = record { site_bytes = site_bytes; payloads = payloads; holds = holds; spelled = spelled; groups = groups; lawful = lawful }

-- with or without a group more
pub with_group : (site : Setup) (site_bytes : List ℕ) (payloads : List (List ℕ)) (history group : List Entry) (payload c : List ℕ) → SpellsSetup site site_bytes → AreGroups payloads history → SpellsGroup group payload
    → IsLawful site history → IsLawful site (history ++ group) → HoldsWithOrWithout site_bytes payloads payload c → Held site history c ⊎ Held site (history ++ group) c
with_group site site_bytes payloads history group payload c spelled groups one lawful more (inl holds) = inl (held site site_bytes payloads history c spelled groups lawful holds)
with_group site site_bytes payloads history group payload c spelled groups one lawful more (inr holds) =
    inr (held site site_bytes (payloads ++ payload ∷ []) (history ++ group) c spelled (groups_push payloads history group payload groups one) more holds)

-- what is pending stands there with or without
pub behind_holds : (image : List ℕ → Type 0) (end : ℕ) (pending : Option ℕ) (site_bytes : List ℕ) (payloads : List (List ℕ)) (payload c : List ℕ) → IsBehind image end pending site_bytes payloads payload → image c → HoldsWithOrWithout site_bytes payloads payload c
behind_holds image end pending site_bytes payloads payload c is left =
    with_or_without site_bytes payloads payload c is.site_fits is.payloads_fit is.fits (either (front site_bytes payloads) (block payload) c (is.images c left).0)

stands_holds : (image : List ℕ → Type 0) (end : ℕ) (journal_pending : Option ℕ) (site : Setup) (site_bytes : List ℕ) (payloads : List (List ℕ)) (history pending : List Entry) (c : List ℕ) → SpellsSetup site site_bytes → AreGroups payloads history
    → StandsAs image end journal_pending site_bytes payloads pending → IsLawful site history → IsLawful site (history ++ pending) → image c → Held site history c ⊎ Held site (history ++ pending) c
stands_holds image end journal_pending site site_bytes payloads history [] c spelled groups stands lawful more left =
    inl (held site site_bytes payloads history c spelled groups lawful (stands.images c left).0)
stands_holds image end journal_pending site site_bytes payloads history (entry ∷ entries) c spelled groups stands lawful more left =
    with_group site site_bytes payloads history (entry ∷ entries) stands.0 c spelled groups stands.1 lawful more (behind_holds image end journal_pending site_bytes payloads stands.0 c stands.2 left)

-- each image of a store holds its history, or that with what is pending
pub kept_holds : (image : List ℕ → Type 0) (end : ℕ) (journal_pending : Option ℕ) (site : Setup) (s : State) (c : List ℕ) → IsKept image end journal_pending site s.history s.pending
    → IsLawful site s.history → IsLawful site (all_of s) → image c → HoldsState site s c
kept_holds image end journal_pending site s c kept lawful more left =
    stands_holds image end journal_pending site kept.site_bytes kept.payloads s.history s.pending c kept.spelled kept.groups kept.stands lawful more left
