-- A group between two of its requests.
use Rattle.std.specs.Prelude.{◌≡◌, ◌≤◌, ℕ, List, [], ◌++◌, length, take, drop, map, Option}
use Rattle.std.specs.Io.KnownBytes.{Consumes}
use Rattle.deed_words.specs.Setups.{Setup}
use Rattle.deed_words.specs.declared.entry.Ask.{Ask}
use Rattle.deed_words.specs.declared.entry.Entry.{Entry}
use Rattle.site_store.specs.declared.outcome.Outcome.{Outcome}
use Rattle.site_store.specs.declared.outcome.Outcome.TheVariants.{DiskFault}
use Rattle.site_store.specs.Noting.{Noted}
use Rattle.site_store.specs.Steps.{Try, AreTries, asks_in, outcomes_in, new_in, taken_in, lost_in, notes_in}

-- from this place on each answer is that the disk failed
abbrev pub lost_after : ℕ → List Outcome → List Outcome
lost_after kept outcomes = take kept outcomes ++ map (λ o. DiskFault) (drop kept outcomes)

-- Behind this history some requests were tried, with these answers, new entries and notes, and these requests are left.
-- The first answers stand whatever comes of the append.
pub record IsGoing (site : Setup) (end : ℕ) (g : List Entry) (worker : ℕ) (asks rest : List Ask) (outcomes : List Outcome) (front : List Entry) (noted : List Noted) (kept : ℕ) (clock_old clock_new words_old words_new : Option (List ℕ)) : Type 0 where
  pub tries : List Try
  pub are : AreTries site end g [] worker tries
  pub asks_are : asks_in tries ++ rest ≡ asks
  pub outcomes_are : outcomes ≡ outcomes_in tries
  pub front_is : front ≡ new_in tries
  pub notes_are : noted ≡ notes_in worker (length g) tries
  pub clock : Consumes clock_old clock_new (taken_in tries).moments
  pub words : Consumes words_old words_new (taken_in tries).words
  pub kept_fits : kept ≤ length tries
  pub none : front ≡ [] → kept ≡ length tries
  pub lost_is : lost_in tries ≡ lost_after kept outcomes
