-- One line that is served.
use Rattle.std.specs.Prelude.{◌≡◌, ℕ, Bool, true, false, List, [], Result, Ok, Err, IsOk, MatchBool}
use Rattle.std.specs.Io.KnownBytes.{Consumes, Appends}
use Rattle.deed_words.specs.Setups.{Setup}
use Rattle.site_console.specs.declared.fault.Fault.{Fault}
use Rattle.site_console.specs.declared.fault.Fault.TheVariants.{Read, Write, Memory, InputTooLong}
use Rattle.site_console.specs.Lines.{is_empty}
use Rattle.site_console.specs.Puts.{IsPart}
use Rattle.site_console.specs.Script.{Exchange, Exchanges, exchange_text}
use Rattle.site_console.specs.Told.{Told}
use Rattle.site_console.specs.Open.{Point}

-- how much of an answer was put
abbrev pub IsAnswerPut : {T : Type 0} → List ℕ → Result T Fault → List ℕ → Type 0
IsAnswerPut text (Ok done) put = put ≡ text
IsAnswerPut text (Err Write) put = IsPart put text
IsAnswerPut text (Err Memory) put = put ≡ []
IsAnswerPut text (Err Read) put = ⊥
IsAnswerPut text (Err InputTooLong) put = ⊥

-- the line got its answer by a step, and this was moved for it
pub record Steppings (site : Setup) (old : Point) (text : List ℕ) (told_old told_new : Told) (exchange : Exchange) (new : Point) : Type 0 where
  pub line : exchange.line ≡ text
  pub step : Exchanges site old exchange new
  pub moments : Consumes told_old.moments told_new.moments exchange.taken.moments
  pub words : Consumes told_old.words told_new.words exchange.taken.words

-- the line took its step, and its answer was put as far as the result says
pub record Serves {T : Type 0} (site : Setup) (old : Point) (text : List ℕ) (told_old told_new : Told) (result : Result T Fault) (new : Point) : Type 0 where
  pub exchange : Exchange
  pub put : List ℕ
  pub stepped : Steppings site old text told_old told_new exchange new
  pub held : Appends told_old.held told_new.held put
  pub answered : IsAnswerPut (exchange_text site exchange) result put

-- nothing was done
pub record Passes {T : Type 0} (old : Point) (told_old told_new : Told) (result : Result T Fault) (new : Point) : Type 0 where
  pub told : told_new ≡ told_old
  pub same : new ≡ old
  pub ok : IsOk result

-- an empty line is passed over, and each other is served
abbrev pub ServesOrPasses : {T : Type 0} → Setup → Point → List ℕ → Told → Told → Result T Fault → Point → Type 0
ServesOrPasses {T} site old text told_old told_new result new =
    MatchBool (is_empty text) (Passes {T = T} old told_old told_new result new) (Serves {T = T} site old text told_old told_new result new)

abbrev pub is_write_fault : {T : Type 0} → Result T Fault → Bool
is_write_fault (Ok done) = false
is_write_fault (Err Read) = false
is_write_fault (Err Write) = true
is_write_fault (Err Memory) = false
is_write_fault (Err InputTooLong) = false
