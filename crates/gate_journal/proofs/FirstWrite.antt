-- A disk that is untouched until a journal is made on it.
use Rattle.std.proofs.Common.{◌⊎◌, inl, inr, ℕ, List, Option}
use Rattle.outside.specs.Disks.{LeavesOnly}
use Rattle.outside.proofs.Moments.{and_then, weaker}
use Rattle.gate_journal.specs.Grammar.{IsNone, IsFresh}
use Rattle.gate_journal.specs.Readings.{Untouched, UntouchedUntil}

module _ {D : Type 0} (content : D → Option (List ℕ)) (image : D → List ℕ → Type 0) (moment : D → ℕ) (since : D → ℕ → List ℕ → Type 0) where
  -- no journal is one that is fresh
  pub fresh_until : (site : List ℕ) (old new : D) → UntouchedUntil content image moment since IsNone old new → UntouchedUntil content image moment since (IsFresh site) old new
  fresh_until site old new run = record {
    mid = run.mid;
    untouched = run.untouched;
    since_then = weaker moment since run.mid new IsNone (IsFresh site) run.since_then (λ c none. inl none);
  }

  pub fresh_or_untouched : (site : List ℕ) (old new : D) → Untouched content image moment since old new ⊎ UntouchedUntil content image moment since IsNone old new
      → Untouched content image moment since old new ⊎ UntouchedUntil content image moment since (IsFresh site) old new
  fresh_or_untouched site old new (inl untouched) = inl untouched
  fresh_or_untouched site old new (inr run) = inr (fresh_until site old new run)

  -- and then the header is written
  pub and_fresh : (site : List ℕ) (old mid new : D) → UntouchedUntil content image moment since IsNone old mid → LeavesOnly moment since mid new (IsFresh site)
      → UntouchedUntil content image moment since (IsFresh site) old new
  and_fresh site old mid new first second = record {
    mid = first.mid;
    untouched = first.untouched;
    since_then = and_then moment since first.mid mid new IsNone (IsFresh site) (IsFresh site) first.since_then second (λ c none. inl none) (λ c fresh. fresh);
  }
