-- A line that is served.
use Rattle.std.proofs.Common.{◌≡◌, ℕ, List, [], ◌∷◌, ◌++◌, Ok, Err, refl, ◌∙◌}
use Rattle.std.proofs.KnownBytes.{Appends-nil}
use Rattle.outside.specs.Devices.{Puts}
use Rattle.deed_words.specs.Setups.{Setup}
use Rattle.site_store.specs.Moved.{TakesBoth}
use Rattle.site_console.specs.declared.fault.Fault.TheVariants.{Write, Memory}
use Rattle.site_console.specs.declared.answer.Answer.{Answer}
use Rattle.site_console.specs.Newline.{newline}
use Rattle.site_console.specs.Open.{Point}
use Rattle.site_console.specs.Puts.{IsPutOf}
use Rattle.site_console.specs.Answers.{AnswersLine, Blames, answer_text}
use Rattle.site_console.specs.Script.{Exchange}
use Rattle.site_console.specs.Serving.{Serves, Steppings}
use Rattle.site_console.specs.Told.{Told}

-- what the step of a line moved, whatever was put
pub stepped : (site : Setup) (old : Point) (text : List ℕ) (answer : Answer) (told_old told_new : Told) (new : Point)
    → (step : TakesBoth told_old.moments told_new.moments told_old.words told_new.words (λ taken. AnswersLine site old.state text answer taken new.state))
    → Blames answer new.state.pending old.counts new.counts → Steppings site old text told_old told_new (record { line = text; answer = answer; taken = step.0 }) new
stepped site old text answer told_old told_new new step blames =
    record { line = refl; step = record { step = step.3; blames = blames }; moments = step.1; words = step.2 }

-- no memory for the answer
pub unprinted : (site : Setup) (T : Type 0) (old : Point) (text : List ℕ) (told_old told_new : Told) (exchange : Exchange) (new : Point) → Steppings site old text told_old told_new exchange new → told_new.held ≡ told_old.held
    → Serves {T = T} site old text told_old told_new (Err Memory) new
unprinted site T old text told_old told_new exchange new step same =
    record { exchange = exchange; put = []; stepped = step; held = rw same (Appends-nil told_old.held); answered = refl }

-- put in part
pub cut_short : (site : Setup) (T U E : Type 0) (old : Point) (text : List ℕ) (told_old told_new : Told) (exchange : Exchange) (new : Point) (printed : List ℕ) (fault : E) → Steppings site old text told_old told_new exchange new
    → printed ≡ answer_text site exchange.answer ++ newline ∷ [] → Puts told_old.held told_new.held (λ put. IsPutOf {T = U} {E = E} printed (Err fault) put) → Serves {T = T} site old text told_old told_new (Err Write) new
cut_short site T U E old text told_old told_new exchange new printed fault step same puts =
    record { exchange = exchange; put = puts.0; stepped = step; held = puts.1; answered = record { more = puts.2.more; some = puts.2.some; whole = puts.2.whole ∙ same } }

-- put whole
pub put_whole : (site : Setup) (T U E : Type 0) (old : Point) (text : List ℕ) (told_old told_new : Told) (exchange : Exchange) (new : Point) (printed : List ℕ) (done : T) (value : U) → Steppings site old text told_old told_new exchange new
    → printed ≡ answer_text site exchange.answer ++ newline ∷ [] → Puts told_old.held told_new.held (λ put. IsPutOf {T = U} {E = E} printed (Ok value) put) → Serves {T = T} site old text told_old told_new (Ok done) new
put_whole site T U E old text told_old told_new exchange new printed done value step same puts =
    record { exchange = exchange; put = puts.0; stepped = step; held = puts.1; answered = puts.2 ∙ same }
