-- What the bytes of a journal hold: a setup and a history.
use Rattle.std.specs.Prelude.{◌≡◌, ◌⊎◌, ◌+◌, ℕ, List, [], ◌∷◌, ◌++◌, length, sum_by}
use Rattle.deed_words.specs.Setups.{Setup}
use Rattle.deed_words.specs.declared.entry.Entry.{Entry}
use Rattle.deed_words.specs.History.{IsLawful}
use Rattle.gate_journal.specs.Grammar.{Holds, IsBad, IsNone, front}
use Rattle.entry_bytes.specs.Groups.{SpellsGroup, entry_size}
use Rattle.site_store.specs.Entries.{setup_limit}
use Rattle.entry_bytes.specs.Sites.{SpellsSetup}

-- the payloads are those of groups which follow each other in the history
abbrev pub AreGroups : List (List ℕ) → List Entry → Type 0
AreGroups [] history = history ≡ []
AreGroups (payload ∷ payloads) history =
    (group : List Entry) × (rest : List Entry) × (history ≡ group ++ rest) × SpellsGroup group payload × AreGroups payloads rest

-- the bytes hold this setup and this history, which is lawful
pub record Held (site : Setup) (history : List Entry) (bytes : List ℕ) : Type 0 where
  pub site_bytes : List ℕ
  pub payloads : List (List ℕ)
  pub holds : Holds site_bytes payloads bytes
  pub spelled : SpellsSetup site site_bytes
  pub groups : AreGroups payloads history
  pub lawful : IsLawful site history

-- a journal, but its site bytes are of no setup
pub record HasNoSetup (bytes : List ℕ) : Type 0 where
  pub site_bytes : List ℕ
  pub payloads : List (List ℕ)
  pub holds : Holds site_bytes payloads bytes
  pub unread : (site : Setup) → SpellsSetup site site_bytes → ⊥

-- the payload is of no group, or of one that doesn't follow lawfully
abbrev pub Spoils : Setup → List Entry → List ℕ → Type 0
Spoils site history payload =
    ((group : List Entry) → SpellsGroup group payload → ⊥) ⊎ ((group : List Entry) × SpellsGroup group payload × (IsLawful site (history ++ group) → ⊥))

-- a journal whose first payloads hold a lawful history, and the one behind the gate at this place spoils it
pub record IsSpoilt (bytes : List ℕ) (place : ℕ) : Type 0 where
  pub site : Setup
  pub site_bytes : List ℕ
  pub before : List (List ℕ)
  pub payload : List ℕ
  pub after : List (List ℕ)
  pub history : List Entry
  pub holds : Holds site_bytes (before ++ payload ∷ after) bytes
  pub spelled : SpellsSetup site site_bytes
  pub groups : AreGroups before history
  pub lawful : IsLawful site history
  pub spoils : Spoils site history payload
  pub place_is : place ≡ length (front site_bytes before)

-- the bytes hold no lawful history, by what begins at this place
abbrev pub IsBadHistory : List ℕ → ℕ → Type 0
IsBadHistory bytes place = IsBad bytes place ⊎ (((place ≡ 0) × HasNoSetup bytes) ⊎ IsSpoilt bytes place)

-- how long a journal of this history is at most: its header, and each entry in a record of its own
abbrev pub furthest : Setup → List Entry → ℕ
furthest site history = 13 + setup_limit + sum_by (λ entry. 6 + entry_size entry) history

-- no journal, or the one of this setup with an empty history
abbrev pub IsFreshFor : Setup → List ℕ → Type 0
IsFreshFor site bytes = IsNone bytes ⊎ Held site [] bytes
