-- How much of a text was put, and by which ending.
use Rattle.std.proofs.Common.{◌≡◌, ℕ, Bool, false, List, [], ◌++◌, ◌∙◌, Option, Some, Result, Ok, Err, refl, sym, ap, subst, append_assoc, append-nil, arith}
use Rattle.std.proofs.KnownBytes.{Appends-nil, Appends-trans}
use Rattle.outside.specs.Causes.{HasCauseIf}
use Rattle.outside.specs.Devices.{Puts}
use Rattle.site_console.specs.declared.fault.Fault.{Fault}
use Rattle.site_console.specs.declared.fault.Fault.TheVariants.{Read, Write, Memory, InputTooLong}
use Rattle.site_console.specs.declared.ending.Ending.{Ending}
use Rattle.site_console.specs.Endings.{ending_of}
use Rattle.site_console.specs.Looks.{IsSaid, IsTold}
use Rattle.site_console.proofs.Putting.{Part, first_cut, behind}

-- nothing was put, for want of memory
pub unsaid : (T : Type 0) (old : Option (List ℕ)) (text : List ℕ) → Puts old old (λ put. IsSaid {T = T} text (Err Memory) put)
unsaid T old text = ([], Appends-nil old, record { more = text; whole = refl })

pub no_fault : (n : ℕ) → HasCauseIf false n n
no_fault n = record { later = omega arith; failed = tt; kept = refl }

-- an equal text
pub said_as : (T : Type 0) (old new : Option (List ℕ)) (a b : List ℕ) (result : Result T Fault) → a ≡ b → Puts old new (λ put. IsSaid a result put) → Puts old new (λ put. IsSaid b result put)
said_as T old new a b result e puts = subst (λ (text : List ℕ). Puts old new (λ put. IsSaid {T = T} text result put)) e puts

-- what stopped in the first part stopped in both
pub first_said : (T U : Type 0) (old new : Option (List ℕ)) (a b : List ℕ) (fault : Fault) → Puts old new (λ put. IsSaid {T = T} a (Err fault) put) → Puts old new (λ put. IsSaid {T = U} (a ++ b) (Err fault) put)
first_said T U old new a b Write puts = first_cut old new a b puts
first_said T U old new a b Memory puts =
    (puts.0, puts.1, record { more = puts.2.more ++ b; whole = sym (append_assoc puts.0 puts.2.more b) ∙ ap (λ (xs : List ℕ). xs ++ b) puts.2.whole })
first_said T U old new a b Read puts = absurd puts.2
first_said T U old new a b InputTooLong puts = absurd puts.2

-- the first part was put whole
pub behind_said : (T : Type 0) (old mid new : Option (List ℕ)) (a b : List ℕ) (result : Result T Fault) → Puts old mid (λ put. put ≡ a) → Puts mid new (λ put. IsSaid b result put) → Puts old new (λ put. IsSaid (a ++ b) result put)
behind_said T old mid new a b (Ok done) first rest = behind T Fault old mid new a b (Ok done) first rest
behind_said T old mid new a b (Err Write) first rest = behind T Fault old mid new a b (Err Write) first rest
behind_said T old mid new a b (Err Memory) first rest = (
  first.0 ++ rest.0,
  Appends-trans old mid new first.0 rest.0 first.1 rest.1,
  record {
    more = rest.2.more;
    whole = ap (λ (xs : List ℕ). (xs ++ rest.0) ++ rest.2.more) first.2 ∙ append_assoc a rest.0 rest.2.more ∙ ap (λ (xs : List ℕ). a ++ xs) rest.2.whole;
  },
)
behind_said T old mid new a b (Err Read) first rest = absurd rest.2
behind_said T old mid new a b (Err InputTooLong) first rest = absurd rest.2

-- .. with no fault
pub write_behind : (fault : Bool) (first before now : ℕ) → before ≡ first → HasCauseIf fault before now → HasCauseIf fault first now
write_behind fault first before now e cause = subst (λ (n : ℕ). HasCauseIf fault n now) e cause

-- ---- a text of which some was put

-- what stopped in the next part
pub part_stopped : (T U : Type 0) (old mid new : Option (List ℕ)) (all rest a b : List ℕ) (fault : Fault) → Part old mid all rest → rest ≡ a ++ b → Puts mid new (λ put. IsSaid {T = T} a (Err fault) put) → Puts old new (λ put. IsSaid {T = U} all (Err fault) put)
part_stopped T U old mid new all rest a b fault p e puts =
    let cut = first_said T U mid new a b fault puts in
    said_as U old new (p.put ++ (a ++ b)) all (Err fault) (ap (λ (xs : List ℕ). p.put ++ xs) (sym e) ∙ p.whole) (behind_said U old mid new p.put (a ++ b) (Err fault) (p.put, p.held, refl) cut)

-- the next part was put
pub part_more : (old mid new : Option (List ℕ)) (all rest a b : List ℕ) → Part old mid all rest → rest ≡ a ++ b → Puts mid new (λ put. put ≡ a) → Part old new all b
part_more old mid new all rest a b p e puts =
    record {
      put = p.put ++ puts.0;
      held = Appends-trans old mid new p.put puts.0 p.held puts.1;
      whole = ap (λ (xs : List ℕ). (p.put ++ xs) ++ b) puts.2 ∙ append_assoc p.put a b ∙ ap (λ (xs : List ℕ). p.put ++ xs) (sym e) ∙ p.whole;
    }

-- nothing is left
pub part_whole : (old new : Option (List ℕ)) (all rest : List ℕ) → Part old new all rest → rest ≡ [] → Puts old new (λ put. put ≡ all)
part_whole old new all rest p e = (p.put, p.held, sym (append-nil p.put) ∙ ap (λ (xs : List ℕ). p.put ++ xs) (sym e) ∙ p.whole)

-- memory was wanting
pub part_wants : (T : Type 0) (old new : Option (List ℕ)) (all rest : List ℕ) → Part old new all rest → Puts old new (λ put. IsSaid {T = T} all (Err Memory) put)
part_wants T old new all rest p = (p.put, p.held, record { more = rest; whole = p.whole })

-- ---- endings

-- an equal text, or none
pub told_as : (old new : Option (List ℕ)) (a b : Option (List ℕ)) (ending : Ending) → a ≡ b → Puts old new (λ put. IsTold a ending put) → Puts old new (λ put. IsTold b ending put)
told_as old new a b ending e puts = subst (λ (text : Option (List ℕ)). Puts old new (λ put. IsTold text ending put)) e puts

pub told_ending : (old new : Option (List ℕ)) (text : List ℕ) (result : Result (Unit {0}) Fault) → Puts old new (λ put. IsSaid text result put) → Puts old new (λ put. IsTold (Some text) (ending_of result) put)
told_ending old new text (Ok done) puts = puts
told_ending old new text (Err Write) puts = puts
told_ending old new text (Err Memory) puts = puts
told_ending old new text (Err Read) puts = puts
told_ending old new text (Err InputTooLong) puts = puts
