-- Each answer of a group that tells a fault of the clock or of the words has its note.
use Rattle.std.proofs.Common.{◌≡◌, ◌∙◌, ◌≤◌, ◌+◌, inl, inr, ⊎_elim, ℕ, Bool, false, cond, List, [], ◌∷◌, length, map, refl, sym, subst, ap, arith}
use Rattle.std.specs.List.{count_by}
use Rattle.std.proofs.lemmas.List.Sums.{sum_by-cons}
use Rattle.deed_words.specs.Setups.{Setup}
use Rattle.deed_words.specs.declared.entry.Ask.{Ask}
use Rattle.deed_words.specs.declared.entry.Entry.{Entry}
use Rattle.deed_words.specs.declared.entry.FaultKind.{FaultKind}
use Rattle.deed_words.specs.declared.entry.FaultKind.TheVariants as kind
use Rattle.site_store.specs.declared.outcome.Outcome.{Outcome}
use Rattle.site_store.specs.declared.outcome.Outcome.TheVariants.{DiskFault, Memory}
use Rattle.site_store.specs.Causes.{is_clock_fault, is_words_fault}
use Rattle.site_store.specs.Moved.{Taken}
use Rattle.site_store.specs.Noting.{Noted, dones, how_often, same_kind}
use Rattle.site_store.specs.States.{State, all_of}
use Rattle.site_store.specs.Steps.{Try, Steps, outcomes_in, lost_in, lost_from, faults_in, faults_told}
use Rattle.site_store.proofs.Counting.{often_append, often_dones, clock_told, words_told, answers_often}

module _ (k : FaultKind) (blames : Outcome → Bool) (worker : ℕ) (told : (outcome : Outcome) → how_often k (faults_told worker outcome) ≡ cond (blames outcome) 1 0) (disk : blames DiskFault ≡ false) (memory : blames Memory ≡ false) where
  one_more : (outcome : Outcome) (outcomes : List Outcome) → count_by blames (outcome ∷ outcomes) ≡ cond {A = ℕ} (blames outcome) 1 0 + count_by blames outcomes
  one_more outcome outcomes = sum_by-cons (λ (o : Outcome). cond (blames o) 1 0) outcome outcomes

  none_blamed : {X : Type 0} (xs : List X) (outcome : Outcome) → blames outcome ≡ false → count_by blames (map (λ (x : X). outcome) xs) ≡ 0
  none_blamed [] outcome is = refl
  none_blamed (x ∷ xs) outcome is =
      let none : cond {A = ℕ} (blames outcome) 1 0 ≡ 0 = ap (λ (b : Bool). cond b 1 0) is in
      let first = one_more outcome (map (λ (y : _). outcome) xs) in
      let rest = none_blamed xs outcome is in
      omega (arith, none, first, rest)

  blamed_in : (ts : List Try) → count_by blames (outcomes_in ts) ≡ how_often k (faults_in worker ts)
  blamed_in [] = refl
  blamed_in (t ∷ ts) =
      let first = one_more t.outcome (outcomes_in ts) in
      let rest = blamed_in ts in
      let one = told t.outcome in
      let both = often_append k (faults_told worker t.outcome) (faults_in worker ts) in
      omega (arith, first, rest, one, both)

  blamed_lost : (ts : List Try) → count_by blames (lost_in ts) ≤ how_often k (faults_in worker ts)
  blamed_lost [] = omega arith
  blamed_lost (t ∷ ts) = by_new t.new (blamed_lost ts)
    where
      by_new : (new : List Entry) → count_by blames (lost_in ts) ≤ how_often k (faults_in worker ts) → count_by blames (lost_from new t.outcome ts (lost_in ts)) ≤ how_often k (faults_in worker (t ∷ ts))
      by_new [] rest =
          let first = one_more t.outcome (lost_in ts) in
          let one = told t.outcome in
          let both = often_append k (faults_told worker t.outcome) (faults_in worker ts) in
          omega (arith, first, rest, one, both)
      by_new (entry ∷ entries) rest =
          let first = one_more DiskFault (map (λ (u : Try). DiskFault) ts) in
          let none : cond {A = ℕ} (blames DiskFault) 1 0 ≡ 0 = ap (λ (b : Bool). cond b 1 0) disk in
          let others = none_blamed ts DiskFault disk in
          omega (arith, first, none, others)

  steps_blame : (site : Setup) (end : ℕ) (old : State) (asks : List Ask) (taken : Taken) (outcomes : List Outcome) (new : State) (notes : List Noted) → same_kind k kind.Disk ≡ false → Steps site end old worker asks taken outcomes new notes → count_by blames outcomes ≤ how_often k notes
  steps_blame site end old asks taken outcomes new notes other (inl un) =
      let none : count_by blames outcomes ≡ 0 = ⊎_elim (λ failed. ap (λ (l : List Outcome). count_by blames l) failed.0 ∙ none_blamed asks DiskFault disk) (λ wants. ap (λ (l : List Outcome). count_by blames l) wants.0 ∙ none_blamed asks Memory memory) un.told in
      omega (arith, none)
  steps_blame site end old asks taken outcomes new notes other (inr m) =
      let ts = m.answers.tries in
      let is = ap (λ (l : List Noted). how_often k l) m.notes_are in
      let both = often_append k (dones worker (length old.history) old.pending) m.more in
      let none = often_dones k worker (length old.history) old.pending in
      let more = answers_often k site end (all_of old) worker asks taken outcomes new m.more m.answers other in
      let most : count_by blames outcomes ≤ how_often k (faults_in worker ts) = ⊎_elim
      (λ w. subst (λ (l : List Outcome). count_by blames l ≤ how_often k (faults_in worker ts)) (sym w.outcomes_are) (let same = blamed_in ts in omega (arith, same)))
      (λ l. subst (λ (o : List Outcome). count_by blames o ≤ how_often k (faults_in worker ts)) (sym l.outcomes_are) (blamed_lost ts)) m.answers.comes in
      omega (arith, is, both, none, more, most)

pub clock_blames : (site : Setup) (end : ℕ) (old : State) (worker : ℕ) (asks : List Ask) (taken : Taken) (outcomes : List Outcome) (new : State) (notes : List Noted) → Steps site end old worker asks taken outcomes new notes → count_by is_clock_fault outcomes ≤ how_often kind.Clock notes
clock_blames site end old worker asks taken outcomes new notes steps = steps_blame kind.Clock is_clock_fault worker (λ o. clock_told worker o) refl refl site end old asks taken outcomes new notes refl steps

pub words_blame : (site : Setup) (end : ℕ) (old : State) (worker : ℕ) (asks : List Ask) (taken : Taken) (outcomes : List Outcome) (new : State) (notes : List Noted) → Steps site end old worker asks taken outcomes new notes → count_by is_words_fault outcomes ≤ how_often kind.Words notes
words_blame site end old worker asks taken outcomes new notes steps = steps_blame kind.Words is_words_fault worker (λ o. words_told worker o) refl refl site end old asks taken outcomes new notes refl steps
