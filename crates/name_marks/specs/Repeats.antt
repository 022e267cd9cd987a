-- Names that came before.
use Rattle.std.specs.Prelude.{ℕ, List, take, Option}
use Rattle.epc_urn.specs.declared.epc.Epc.{Epc}
use Rattle.deed_words.specs.Names.{is_among}
use Rattle.deed_words.specs.Chain.{each, when}

-- the place of the first name that stands earlier too
unfoldable pub first_repeat : List Epc → Option ℕ
first_repeat names = each names (λ k name. when (is_among (take k names) name) k)
