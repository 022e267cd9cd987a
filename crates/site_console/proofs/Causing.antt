-- Why a run failed.
use Rattle.std.proofs.Common.{◌≡◌, ℕ, Bool, true, false, List, Err, refl, sym, subst, arith}
use Rattle.std.proofs.lemmas.Bool.{false≢true}
use Rattle.std.specs.Prelude.{MatchBool}
use Rattle.outside.specs.Causes.{HasCauseIf}
use Rattle.deed_words.specs.Setups.{Setup}
use Rattle.site_console.specs.declared.fault.Fault.{Fault}
use Rattle.site_console.specs.declared.fault.Fault.TheVariants.{Read, Write, Memory, InputTooLong}
use Rattle.site_console.specs.Open.{Point}
use Rattle.site_console.specs.Reading.{Reading}
use Rattle.site_console.specs.Lines.{Gives, is_empty, is_read_fault}
use Rattle.site_console.specs.Serving.{Passes, Serves, ServesOrPasses, is_write_fault}
use Rattle.site_console.specs.Told.{Told}

-- what isn't the device's fault leaves its count
pub no_cause : (fault : Bool) (before now : ℕ) → fault ≡ false → now ≡ before → HasCauseIf fault before now
no_cause fault before now e same = subst (λ (b : Bool). HasCauseIf b before now) (sym e) (record { later = omega (arith, same); failed = tt; kept = same })

pub read_carried : (T U : Type 0) (fault : Fault) (first before now : ℕ) → before ≡ first → HasCauseIf (is_read_fault {T = T} (Err fault)) before now → HasCauseIf (is_read_fault {T = U} (Err fault)) first now
read_carried T U Read first before now e cause = subst (λ n. HasCauseIf true n now) e cause
read_carried T U Write first before now e cause = subst (λ n. HasCauseIf false n now) e cause
read_carried T U Memory first before now e cause = subst (λ n. HasCauseIf false n now) e cause
read_carried T U InputTooLong first before now e cause = subst (λ n. HasCauseIf false n now) e cause

pub write_carried : (T U : Type 0) (fault : Fault) (first before now : ℕ) → before ≡ first → HasCauseIf (is_write_fault {T = T} (Err fault)) before now → HasCauseIf (is_write_fault {T = U} (Err fault)) first now
write_carried T U Read first before now e cause = subst (λ n. HasCauseIf false n now) e cause
write_carried T U Write first before now e cause = subst (λ n. HasCauseIf true n now) e cause
write_carried T U Memory first before now e cause = subst (λ n. HasCauseIf false n now) e cause
write_carried T U InputTooLong first before now e cause = subst (λ n. HasCauseIf false n now) e cause

-- a reader fails with no fault of the sink
pub reads_no_write : (U : Type 0) (known : List ℕ) (fault : Fault) (reading : Reading) (at_end : Type 0) → Gives known (Err fault) reading at_end → is_write_fault {T = U} (Err fault) ≡ false
reads_no_write U known Read reading at_end gives = refl
reads_no_write U known Write reading at_end gives = absurd gives
reads_no_write U known Memory reading at_end gives = refl
reads_no_write U known InputTooLong reading at_end gives = refl

-- a line is served with no fault of the source
pub serves_no_read : (T U : Type 0) (site : Setup) (old : Point) (text : List ℕ) (told_old told_new : Told) (fault : Fault) (new : Point)
    → ServesOrPasses {T = T} site old text told_old told_new (Err fault) new → is_read_fault {T = U} (Err fault) ≡ false
serves_no_read T U site old text told_old told_new Write new s = refl
serves_no_read T U site old text told_old told_new Memory new s = refl
serves_no_read T U site old text told_old told_new InputTooLong new s = refl
serves_no_read T U site old text told_old told_new Read new s =
    (elim (is_empty text) as (λ (b : Bool). MatchBool b (Passes {T = T} old told_old told_new (Err Read) new) (Serves {T = T} site old text told_old told_new (Err Read) new) → true ≡ false) [
      | true ↦ λ p. absurd (false≢true p.ok)
      | false ↦ λ p. absurd p.answered
    ]) s
