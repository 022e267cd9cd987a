-- Many steps, one after the other: what a crash since the first of them may leave.
use Rattle.std.proofs.Common.{◌≡◌, ◌∙◌, inl, inr, ℕ, List, [], ◌++◌, refl, sym, subst, ap, append-nil, append_assoc}
use Rattle.outside.specs.Disks.{LeavesOnly}
use Rattle.outside.proofs.Moments.{and_then}
use Rattle.deed_words.specs.Setups.{Setup}
use Rattle.deed_words.specs.declared.entry.Entry.{Entry}
use Rattle.site_store.specs.Images.{HoldsState, HoldsBetween, HoldsWithin, Extends, Grows}
use Rattle.site_store.specs.Noting.{Noted, made, standing}
use Rattle.site_store.specs.Open.{HoldsSince}
use Rattle.site_store.specs.States.{State, all_of}

trans : (a b c : List Entry) → Extends a b → Extends b c → Extends a c
trans a b c first second = (first.0 ++ second.0, second.1 ∙ ap (λ (h : List Entry). h ++ second.0) first.1 ∙ append_assoc a first.0 second.0)

same : (a : List Entry) → Extends a a
same a = ([], sym (append-nil a))

state_within : (site : Setup) (low high : List Entry) (s : State) (c : List ℕ) → Extends low s.history → Extends (all_of s) high → HoldsState site s c → HoldsWithin site low high c
state_within site low high s c least most (inl held) = record { history = s.history; at_least = least; at_most = trans s.history (all_of s) high (s.pending, refl) most; held = held }
state_within site low high s c least most (inr held) = record { history = all_of s; at_least = trans low s.history (all_of s) least (s.pending, refl); at_most = most; held = held }

-- a step after others
pub step_within : (site : Setup) (low : List Entry) (old new : State) (c : List ℕ) → Extends low old.history → Grows old new → HoldsBetween site old new c → HoldsWithin site low (all_of new) c
step_within site low old new c least grows (inl was) = state_within site low (all_of new) old c least grows.all was
step_within site low old new c least grows (inr held) =
    record { history = all_of new; at_least = trans low old.history (all_of new) least (trans old.history new.history (all_of new) grows.history (new.pending, refl)); at_most = same (all_of new); held = held }

pub within_more : (site : Setup) (low mid high : List Entry) (c : List ℕ) → Extends mid high → HoldsWithin site low mid c → HoldsWithin site low high c
within_more site low mid high c more is = record { history = is.history; at_least = is.at_least; at_most = trans is.history mid high is.at_most more; held = is.held }

-- what was loaded stands in front of what the notes stand for
pub loaded_first : (loaded : List Entry) (noted : List Noted) (s : State) → standing loaded noted ≡ s → Extends loaded s.history
loaded_first loaded noted s is = (made noted, sym (ap (λ (t : State). t.history) is))

since_more : (at_start : List ℕ → Type 0) (site : Setup) (loaded : List Entry) (old new : State) (c : List ℕ) → Grows old new → HoldsSince at_start site loaded (all_of old) c → HoldsSince at_start site loaded (all_of new) c
since_more at_start site loaded old new c grows (inl was) = inl was
since_more at_start site loaded old new c grows (inr is) = inr (within_more site loaded (all_of old) (all_of new) c grows.all is)

module _ {D : Type 0} (moment : D → ℕ) (since : D → ℕ → List ℕ → Type 0) (at_start : List ℕ → Type 0) where
  -- one step more
  pub begun_more : (start mid new : D) (site : Setup) (loaded : List Entry) (old after : State) → Extends loaded old.history → LeavesOnly moment since start mid (HoldsSince at_start site loaded (all_of old))
      → LeavesOnly moment since mid new (HoldsBetween site old after) → Grows old after → LeavesOnly moment since start new (HoldsSince at_start site loaded (all_of after))
  begun_more start mid new site loaded old after least so_far run grows =
      and_then moment since start mid new (HoldsSince at_start site loaded (all_of old)) (HoldsBetween site old after) (HoldsSince at_start site loaded (all_of after)) so_far run
      (λ c is. since_more at_start site loaded old after c grows is) (λ c is. inr (step_within site loaded old after c least grows is))

  -- .. of a store that was opened with the same
  pub begun_same : (start start' new : D) (site site' : Setup) (loaded loaded' : List Entry) (high : List Entry) → start' ≡ start → site' ≡ site → loaded' ≡ loaded
      → LeavesOnly moment since start new (HoldsSince at_start site loaded high) → LeavesOnly moment since start' new (HoldsSince at_start site' loaded' high)
  begun_same start start' new site site' loaded loaded' high one two three run =
      subst (λ (d : D). LeavesOnly moment since d new (HoldsSince at_start site' loaded' high)) (sym one)
      (subst (λ (s : Setup). LeavesOnly moment since start new (HoldsSince at_start s loaded' high)) (sym two)
      (subst (λ (h : List Entry). LeavesOnly moment since start new (HoldsSince at_start site h high)) (sym three) run))
