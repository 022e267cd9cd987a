-- What holds of an answer that is `Ok`, where it is taken out as an option.
use Rattle.std.proofs.Common.{◌≡◌, Option, Some, None, Result, Ok, Err, IfOk, sym, ◌∙◌, subst}
use Rattle.std.specs.Result.{result_ok}
use Rattle.std.proofs.lemmas.Option.{none-some, same_Some}

pub taken_out : {T E : Type 0} (P : T → Type 0) (r : Result T E) (o : Option T) (x : T) → IfOk r P → o ≡ result_ok r → o ≡ Some x → P x
taken_out P (Ok y) o x holds made is = subst P (same_Some y x (sym made ∙ is)) holds
taken_out P (Err e) o x holds made is = absurd (none-some x (sym made ∙ is))
