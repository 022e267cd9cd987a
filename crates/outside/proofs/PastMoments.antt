-- One more moment joins those that a disk in memory has had.
use Rattle.std.proofs.Common.{◌≡◌, ◌⊎◌, inl, inr, ⊎_elim, ℕ, zero, suc, ◌≤◌, List, [], ◌∷◌, ◌++◌, length, drop, Option, refl, sym, subst, arith, length-append}
use Rattle.outside.specs.Disks.{Elapses}
use Rattle.outside.specs.MemoryDisks.{IsImage, HadImage, SinceThen, Remembers}
use Rattle.outside.specs.declared.named.Unsynced.{Unsynced}
use Rattle.outside.specs.declared.named.Past.{Past}

abbrev Has : Past → List ℕ → Type 0
Has p c = IsImage p.bytes.value.items p.unsynced.value c

keeps : (past : List Past) (p : Past) (c : List ℕ) → HadImage past c → HadImage (past ++ p ∷ []) c
keeps [] p c had = absurd had
keeps (q ∷ past) p c (inl here) = inl here
keeps (q ∷ past) p c (inr there) = inr (keeps past p c there)

adds : (past : List Past) (p : Past) (c : List ℕ) → HadImage (past ++ p ∷ []) c → HadImage past c ⊎ Has p c
adds [] p c (inl here) = inr here
adds [] p c (inr none) = absurd none
adds (q ∷ past) p c (inl here) = inl (inl here)
adds (q ∷ past) p c (inr there) = ⊎_elim (λ had. inl (inr had)) (λ new. inr new) (adds past p c there)

newest : (past : List Past) (p : Past) (c : List ℕ) → Has p c → HadImage (past ++ p ∷ []) c
newest [] p c is = inl is
newest (q ∷ past) p c is = inr (newest past p c is)

drop_push : (t : ℕ) (past : List Past) (p : Past) → t ≤ length past → drop t (past ++ p ∷ []) ≡ drop t past ++ p ∷ []
drop_push zero past p le = refl
drop_push (suc t) [] p le = absurd (omega arith)
drop_push (suc t) (q ∷ past) p le = drop_push t past p (omega arith)

pub elapses_same : (past later : List Past) (bytes bytes' : List ℕ) (unsynced unsynced' : Option Unsynced) → later ≡ past → ((c : List ℕ) → IsImage bytes unsynced c → IsImage bytes' unsynced' c)
    → Elapses (length past) (length later) (SinceThen past bytes unsynced) (SinceThen later bytes' unsynced') (IsImage bytes' unsynced')
elapses_same past later bytes bytes' unsynced unsynced' same kept =
    subst (λ (l : List Past). Elapses (length past) (length l) (SinceThen past bytes unsynced) (SinceThen l bytes' unsynced') (IsImage bytes' unsynced')) (sym same) (record {
      later = omega arith;
      nothing_else = λ t c le left. ⊎_elim (λ now. inr now) (λ had. inl (inr had)) left;
      keeps = λ t c le left. ⊎_elim (λ now. inl (kept c now)) (λ had. inr had) left;
    })

elapses_push : (past : List Past) (p : Past) (bytes : List ℕ) (unsynced : Option Unsynced)
    → Elapses (length past) (length (past ++ p ∷ [])) (SinceThen past p.bytes.value.items p.unsynced.value) (SinceThen (past ++ p ∷ []) bytes unsynced) (IsImage bytes unsynced)
elapses_push past p bytes unsynced = record {
  later = omega (arith, length-append past (p ∷ []));
  nothing_else = λ t c le left. ⊎_elim (λ now. inr now) (λ had. inl (was t c (adds (drop t past) p c (subst (λ (l : List Past). HadImage l c) (drop_push t past p le) had)))) left;
  keeps = λ t c le left. inr (subst (λ (l : List Past). HadImage l c) (sym (drop_push t past p le)) (⊎_elim (λ now. newest (drop t past) p c now) (keeps (drop t past) p c) left));
}
  where
    was : (t : ℕ) (c : List ℕ) → HadImage (drop t past) c ⊎ Has p c → SinceThen past p.bytes.value.items p.unsynced.value t c
    was t c (inl had) = inr had
    was t c (inr new) = inl new

pub elapses_to : (past later : List Past) (old new : List ℕ) (was now : Option Unsynced) → Remembers past later old was
    → Elapses (length past) (length later) (SinceThen past old was) (SinceThen later new now) (IsImage new now)
elapses_to past later old new was now told =
    subst (λ (l : List ℕ). Elapses (length past) (length later) (SinceThen past l was) (SinceThen later new now) (IsImage new now)) told.bytes_are
    (subst (λ (u : Option Unsynced). Elapses (length past) (length later) (SinceThen past told.moment.bytes.value.items u) (SinceThen later new now) (IsImage new now)) told.unsynced_is
    (subst (λ (l : List Past). Elapses (length past) (length l) (SinceThen past told.moment.bytes.value.items told.moment.unsynced.value) (SinceThen l new now) (IsImage new now)) (sym told.joined)
    (elapses_push past told.moment new now)))
