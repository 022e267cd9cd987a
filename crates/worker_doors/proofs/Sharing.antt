-- Doors that get their shares one after the other.
use Rattle.std.proofs.Common.{◌≡◌, ◌<◌, ◌≤◌, ◌+◌, ◌/◌, ◌%◌, ◌*◌, ◌⊎◌, inl, inr, ℕ, zero, suc, Bool, true, false, List, None, length, nat_lt, cond, slice_index_or, refl, sym, ap, subst, arith}
use Rattle.std.proofs.Math.Nat.{div-add-mod, le-mul_of_pos_right, mod-lt, mul_comm, suc-mul, zero-mul}
use Rattle.std.proofs.lemmas.Bool.{lt-ltb, ltb-false, ltb-true}
use Rattle.outside.specs.Doors.{DoorState, with_quota}
use Rattle.outside.specs.declared.tcp.TcpDoor.{TcpDoor}
use Rattle.command_words.specs.declared.command.ServeWords.{ServeWords}
use Rattle.worker_doors.specs.Shares.{AreShares, share, shared, AllAreShared, SharesAreEven}

-- what a listener's door tells
abbrev pub told_by : TcpDoor → DoorState
told_by d = record { quota = d.quota; given = d.given; back = d.back; links = None; links_back = None; faults = d.faults }

-- the first doors have their shares
abbrev pub HaveShares : {G : Type 0} → (G → DoorState) → ServeWords → List G → Type 0
HaveShares {G} state words doors = (k : ℕ) (d : G) → k < length doors → state (slice_index_or doors k d) ≡ with_quota (share words k) None

one_of : (b : Bool) (k r : ℕ) → nat_lt k r ≡ b → ◌≤◌ (cond b 1 0) r
one_of true k r e = omega (arith, ltb-true k r e)
one_of false k r e = omega arith

-- a share isn't more than all
share_few : (words : ServeWords) (k : ℕ) → 1 ≤ words.workers → share words k ≤ words.connections
share_few words k h =
    let one = one_of (nat_lt k (words.connections % words.workers)) k (words.connections % words.workers) refl in
    let parts = div-add-mod words.connections words.workers in
    omega (arith, one, parts, mul_comm words.workers (words.connections / words.workers), le-mul_of_pos_right (words.connections / words.workers) h)

pub all_have : {G : Type 0} (state : G → DoorState) (words : ServeWords) (doors : List G) → 1 ≤ words.workers → length doors ≡ words.workers → HaveShares state words doors → AreShares state words doors
all_have state words doors h count have = record {
  count = count;
  shares = have;
  few = λ k d less. subst (λ (s : DoorState). s.quota ≤ words.connections) (sym (have k d less)) (share_few words k h);
}

-- the first workers, of whom each has one more
low_part : (words : ServeWords) (k : ℕ) → k ≤ words.connections % words.workers → shared words k ≡ k * (words.connections / words.workers) + k
low_part words zero h = omega (arith, zero-mul (words.connections / words.workers))
low_part words (suc k) h =
    let one = ap (λ (b : Bool). cond {A = ℕ} b 1 0) (lt-ltb k (words.connections % words.workers) h) in
    let before = low_part words k (omega (arith, h)) in
    omega (arith, one, before, suc-mul k (words.connections / words.workers))

none_more : (b : Bool) (k r : ℕ) → nat_lt k r ≡ b → r ≤ k → ◌≡◌ {A = ℕ} (cond b 1 0) 0
none_more true k r e h = absurd (omega (arith, ltb-true k r e, h))
none_more false k r e h = refl

equal_or_less : (r k : ℕ) → r < suc k → (r ≡ k) ⊎ (r < k)
equal_or_less r k h = by_lt (nat_lt r k) refl
  where
    by_lt : (b : Bool) → nat_lt r k ≡ b → (r ≡ k) ⊎ (r < k)
    by_lt true e = inr (ltb-true r k e)
    by_lt false e = inl (omega (arith, h, ltb-false r k e))

-- all behind the first ones
high_part : (words : ServeWords) (k : ℕ) → words.connections % words.workers ≤ k → (words.connections % words.workers ≡ k) ⊎ (words.connections % words.workers < k)
    → shared words k ≡ k * (words.connections / words.workers) + words.connections % words.workers
high_part words k h (inl e) = let low = low_part words k (omega (arith, e)) in omega (arith, low, e)
high_part words zero h (inr less) = absurd (omega (arith, less))
high_part words (suc k) h (inr less) =
    let none = none_more (nat_lt k (words.connections % words.workers)) k (words.connections % words.workers) refl (omega (arith, less)) in
    let before = high_part words k (omega (arith, less)) (equal_or_less (words.connections % words.workers) k less) in
    omega (arith, none, before, suc-mul k (words.connections / words.workers))

pub all_are_shared : AllAreShared
all_are_shared words h =
    let rest = mod-lt words.connections h in
    let all = high_part words words.workers (omega (arith, rest)) (inr rest) in
    let parts = div-add-mod words.connections words.workers in
    omega (arith, all, parts, mul_comm words.workers (words.connections / words.workers))

-- of two tests whether a number is below another, the first one holds where the second one does
even_by : (b d : Bool) (first later r each : ℕ) → nat_lt first r ≡ b → nat_lt later r ≡ d → first ≤ later
    → (each + cond b 1 0 ≡ each + cond d 1 0) ⊎ (each + cond b 1 0 ≡ each + cond d 1 0 + 1)
even_by true true first later r each e f h = inl refl
even_by false false first later r each e f h = inl refl
even_by true false first later r each e f h = inr (omega arith)
even_by false true first later r each e f h = absurd (omega (arith, ltb-false first r e, ltb-true later r f, h))

pub shares_are_even : SharesAreEven
shares_are_even words first later h =
    let rest = words.connections % words.workers in
    even_by (nat_lt first rest) (nat_lt later rest) first later rest (words.connections / words.workers) refl refl h
