-- How a run of calls on a disk goes on: each image that a crash may have left since its start has P.
use Rattle.std.proofs.Common.{inl, inr, ⊎_elim, ℕ, List, arith}
use Rattle.outside.specs.Disks.{Elapses, LeavesOnly}

module _ {D : Type 0} (moment : D → ℕ) (since : D → ℕ → List ℕ → Type 0) where
  -- before the first call
  pub started : (old : D) (P : List ℕ → Type 0) → ((c : List ℕ) → since old (moment old) c → P c) → LeavesOnly moment since old old P
  started old P here = record { later = omega arith; each = here; before = λ t c le left. inl left; keeps = λ t c le left. left }

  -- one call more, after which each image has P
  pub goes_on : (old mid new : D) (P image : List ℕ → Type 0) → LeavesOnly moment since old mid P → Elapses (moment mid) (moment new) (since mid) (since new) image
      → ((c : List ℕ) → image c → P c) → LeavesOnly moment since old new P
  goes_on old mid new P image so_far time here = record {
    later = omega (arith, so_far.later, time.later);
    each = λ c left. ⊎_elim (so_far.each c) (here c) (time.nothing_else (moment old) c so_far.later left);
    before = λ t c le left. ⊎_elim (so_far.before t c le) (λ now. inr (here c now)) (time.nothing_else t c (omega (arith, le, so_far.later)) left);
    keeps = λ t c le left. time.keeps t c (omega (arith, le, so_far.later)) (so_far.keeps t c le left);
  }

  -- two runs in a row
  pub and_then : (old mid new : D) (P Q R : List ℕ → Type 0) → LeavesOnly moment since old mid P → LeavesOnly moment since mid new Q
      → ((c : List ℕ) → P c → R c) → ((c : List ℕ) → Q c → R c) → LeavesOnly moment since old new R
  and_then old mid new P Q R first second p q = record {
    later = omega (arith, first.later, second.later);
    each = λ c left. ⊎_elim (λ was. p c (first.each c was)) (q c) (second.before (moment old) c first.later left);
    before = λ t c le left. ⊎_elim (λ was. ⊎_elim (λ l. inl l) (λ r. inr (p c r)) (first.before t c le was)) (λ now. inr (q c now)) (second.before t c (omega (arith, le, first.later)) left);
    keeps = λ t c le left. second.keeps t c (omega (arith, le, first.later)) (first.keeps t c le left);
  }

  pub weaker : (old new : D) (P Q : List ℕ → Type 0) → LeavesOnly moment since old new P → ((c : List ℕ) → P c → Q c) → LeavesOnly moment since old new Q
  weaker old new P Q run p = record {
    later = run.later;
    each = λ c left. p c (run.each c left);
    before = λ t c le left. ⊎_elim (λ l. inl l) (λ r. inr (p c r)) (run.before t c le left);
    keeps = run.keeps;
  }
