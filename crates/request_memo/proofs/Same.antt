-- The trade's tests of sameness tell exactly where things are equal.
use Rattle.std.proofs.Common.{◌≡◌, Bool, sym, ◌∙◌}
use Rattle.std.specs.Prelude.{◌↔◌, IsTrue}
use Rattle.epc_urn.specs.declared.epc.Epc.{Epc}
use Rattle.deed_words.specs.Names.{Text, same, same_name}
use Rattle.deed_words.proofs.Sameness.{same-true, same-from, same_name-true, same_name-from}

pub same_is : (r : Bool) (a b : Text) → r ≡ same a b → IsTrue r ↔ (a ≡ b)
same_is r a b is = (λ e. same-true a b (sym is ∙ e), λ e. is ∙ same-from a b e)

pub same_name_is : (r : Bool) (a b : Epc) → r ≡ same_name a b → IsTrue r ↔ (a ≡ b)
same_name_is r a b is = (λ e. same_name-true a b (sym is ∙ e), λ e. is ∙ same_name-from a b e)
