-- The requests of the simulation, sent to a store one after the other.
use Rattle.std.specs.Prelude.{◌≡◌, ◌≤◌, ℕ, Bool, true, false, List, [], ◌∷◌, Option, MatchBool}
use Rattle.std.specs.List.{flat_map}
use Rattle.std.specs.Io.KnownBytes.{Consumes}
use Rattle.deed_words.specs.declared.entry.Ask.{Ask}
use Rattle.deed_words.specs.declared.reply.Reply.TheVariants as reply
use Rattle.site_store.specs.declared.outcome.Outcome.{Outcome}
use Rattle.site_store.specs.declared.outcome.Outcome.TheVariants.{Replied, NumberReused, NumberGap, DiskFault, ClockFault, ClockRange, WordsFault, WordsSpent, JournalFull, Memory}
use Rattle.site_sim.specs.declared.sending.Coming.{Coming}
use Rattle.site_sim.specs.declared.sending.Coming.TheVariants as coming
use Rattle.site_store.specs.Held.{furthest}
use Rattle.site_store.specs.Moved.{Taken}
use Rattle.site_store.specs.Noting.{Noted}
use Rattle.site_store.specs.One.{Steps}
use Rattle.site_store.specs.States.{State, all_of}
use Rattle.site_sim.specs.Asking.{ask_at}
use Rattle.site_sim.specs.Example as example
use Rattle.site_sim.specs.Requests.{Send}

-- the store took one step for the request, as worker 0, where the journal ends no further than one of its history
pub record TurnsTo (old : State) (ask : Ask) (taken : Taken) (outcome : Outcome) (new : State) : Type 0 where
  pub end : ℕ
  pub notes : List Noted
  pub reach : end ≤ furthest example.site (all_of old)
  pub step : Steps example.site end old 0 ask taken outcome new notes

-- it got an accepted reply
abbrev pub is_accepted : Outcome → Bool
is_accepted (Replied (reply.Accepted answer)) = true
is_accepted outcome = false

-- neither did the disk fail, nor was memory wanting
abbrev pub is_answer : Outcome → Bool
is_answer DiskFault = false
is_answer Memory = false
is_answer outcome = true

-- what came of a request, as far as the simulation goes by it
abbrev pub coming_of : Outcome → Coming
coming_of (Replied reply) = coming.Came reply
coming_of NumberReused = coming.Other
coming_of (NumberGap last) = coming.Other
coming_of DiskFault = coming.Failed
coming_of ClockFault = coming.Other
coming_of (ClockRange ms) = coming.Other
coming_of WordsFault = coming.Other
coming_of (WordsSpent found) = coming.Other
coming_of (JournalFull end asked) = coming.Other
coming_of Memory = coming.Wanting

abbrev pub is_failed : Coming → Bool
is_failed (coming.Came reply) = false
is_failed coming.Failed = true
is_failed coming.Wanting = false
is_failed coming.Other = false

-- what came of a request that was sent, and what was taken for it
pub record Sent : Type 0 where
  pub outcome : Outcome
  pub taken : Taken

-- They were sent one after the other: all of them, each accepted, or up to the first that wasn't, which had an answer.
abbrev pub Sends : State → List Send → List Sent → Bool → State → Type 0
Sends old [] done all new = (done ≡ []) × (all ≡ true) × (new ≡ old)
Sends old (s ∷ ss) [] all new = ⊥
Sends old (s ∷ ss) (x ∷ xs) all new =
    (mid : State) × TurnsTo old (ask_at old.history s) x.taken x.outcome mid × MatchBool (is_accepted x.outcome) (Sends mid ss xs all new) ((xs ≡ []) × (all ≡ false) × (new ≡ mid) × (is_answer x.outcome ≡ true))

-- the moments and the words that all of them took
abbrev pub moments_of : List Sent → List ℕ
moments_of done = flat_map (λ x. x.taken.moments) done

abbrev pub words_of : List Sent → List ℕ
words_of done = flat_map (λ x. x.taken.words) done

-- from what is left of the moments and the words before to what is left after
pub record Went (old : State) (sends : List Send) (moments_old moments_new words_old words_new : Option (List ℕ)) (all : Bool) (done : List Sent) (new : State) : Type 0 where
  pub were : Sends old sends done all new
  pub moments : Consumes moments_old moments_new (moments_of done)
  pub words : Consumes words_old words_new (words_of done)
