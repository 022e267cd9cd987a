-- A store that was made.
use Rattle.std.proofs.Common.{◌≡◌, ◌≤◌, ◌+◌, ◌⊎◌, inl, inr, ℕ, List, [], length, Option, refl, arith}
use Rattle.deed_words.specs.Setups.{Setup}
use Rattle.deed_words.specs.History.{IsLawful, AllFollow, last_stamp}
use Rattle.gate_journal.specs.Grammar.{IsFresh}
use Rattle.gate_journal.specs.Journals.{IsSettled}
use Rattle.gate_journal.specs.Readings.{UntouchedUntil, Untouched}
use Rattle.outside.proofs.Moments.{weaker}
use Rattle.site_core.specs.View.{View}
use Rattle.entry_bytes.specs.Sites.{SpellsSetup}
use Rattle.entry_bytes.proofs.SiteSizes.{site_short}
use Rattle.site_store.specs.Entries.{latest}
use Rattle.site_store.specs.Held.{IsFreshFor}
use Rattle.site_store.specs.Standing.{IsSound}
use Rattle.site_store.proofs.Finishing.{nothing_sound, kept_settled}

pub lawful_none : (site : Setup) → IsLawful site []
unfolding IsLawful AllFollow
lawful_none site = tt

last_none : last_stamp [] ≤ latest
unfolding last_stamp
last_none = omega arith

pub made_sound : (image : List ℕ → Type 0) (end : ℕ) (jp : Option ℕ) (view : View) (spare : ℕ) (site : Setup) (bytes : List ℕ) → view.setup ≡ site → view.history ≡ [] → SpellsSetup site bytes → IsSettled image end jp bytes [] → end ≡ 13 + length bytes → IsSound image end jp view [] spare
made_sound image end jp view spare site bytes setup_is history_is spelled settled end_is =
    let size = site_short site bytes spelled in
    nothing_sound image end jp view [] spare site [] setup_is history_is (kept_settled image end jp site bytes [] [] spelled refl settled (omega (arith, end_is, size)) (omega arith)) refl (lawful_none site) last_none

pub fresh_for : (site : Setup) (bytes c : List ℕ) → SpellsSetup site bytes → IsFresh bytes c → IsFreshFor site c
fresh_for site bytes c spelled (inl none) = inl none
fresh_for site bytes c spelled (inr holds) = inr (record { site_bytes = bytes; payloads = []; holds = holds; spelled = spelled; groups = refl; lawful = lawful_none site })

pub until_fresh : {D : Type 0} (content : D → Option (List ℕ)) (image : D → List ℕ → Type 0) (moment : D → ℕ) (since : D → ℕ → List ℕ → Type 0) (site : Setup) (bytes : List ℕ) (old new : D) → SpellsSetup site bytes → UntouchedUntil content image moment since (IsFresh bytes) old new → UntouchedUntil content image moment since (IsFreshFor site) old new
until_fresh content image moment since site bytes old new spelled run = record {
  mid = run.mid;
  untouched = run.untouched;
  since_then = weaker moment since run.mid new (IsFresh bytes) (IsFreshFor site) run.since_then (λ c is. fresh_for site bytes c spelled is);
}

pub or_until_fresh : {D : Type 0} (content : D → Option (List ℕ)) (image : D → List ℕ → Type 0) (moment : D → ℕ) (since : D → ℕ → List ℕ → Type 0) (site : Setup) (bytes : List ℕ) (old new : D) → SpellsSetup site bytes → Untouched content image moment since old new ⊎ UntouchedUntil content image moment since (IsFresh bytes) old new
    → Untouched content image moment since old new ⊎ UntouchedUntil content image moment since (IsFreshFor site) old new
or_until_fresh content image moment since site bytes old new spelled (inl same) = inl same
or_until_fresh content image moment since site bytes old new spelled (inr run) = inr (until_fresh content image moment since site bytes old new spelled run)
