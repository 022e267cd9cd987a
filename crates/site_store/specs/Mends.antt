-- What a mend leaves.
use Rattle.std.specs.Prelude.{◌≡◌, ℕ, Bool, true, false, List, [], length}
use Rattle.deed_words.specs.declared.entry.FaultKind.TheVariants as kind
use Rattle.site_store.specs.declared.settle.Mend.{Mend}
use Rattle.site_store.specs.declared.settle.Mend.TheVariants as mend
use Rattle.site_store.specs.States.{State, all_of, settled}
use Rattle.site_store.specs.Noting.{Noted, dones, fault}

abbrev pub Mends : State → ℕ → Mend → State → List Noted → Type 0
Mends old worker mend.Settled new notes = (new ≡ settled (all_of old)) × (notes ≡ dones worker (length old.history) old.pending)
Mends old worker mend.Failed new notes = (new ≡ old) × (notes ≡ fault kind.Disk worker [])
Mends old worker mend.Wanting new notes = (new ≡ old) × (notes ≡ [])

abbrev pub is_settled : Mend → Bool
is_settled mend.Settled = true
is_settled mend.Failed = false
is_settled mend.Wanting = false
